-- A snapshot stands for its lines alone; of other bytes one line is the first that is none.
use Rattle.std.proofs.Common.{◌≡◌, ℕ, suc, ◌++◌, List, [], drop, inl, inr, refl, sym, ap, ◌∙◌, subst, true, None, ⊎_elim}
use Rattle.std.specs.Prelude.{reverse}
use Rattle.rail_check.proofs.CallerLemmas.{in_file}
use Rattle.rail_history.specs.HistoryLines.{IsFirstWrong, IsHistory}
use Rattle.rail_history.proofs.CallerLemmas.{no_history, one_history, one_wrong}
use Rattle.rail_laws_step.proofs.CallerLemmas.{run_lawful}
use Rattle.rail_rules.specs.Accepted.{is_accepted_input}
use Rattle.rail_rules.specs.Fronts.{Front, Line}
use Rattle.rail_rules.specs.Orders.{Input}
use Rattle.rail_rules.specs.Plant.{Plant}
use Rattle.rail_rules.specs.RunHistories.{Seat, is_run}
use Rattle.rail_rules.specs.WritableLines.{IsNamed}
use Rattle.rail_rules.specs.Texts.{text}
use Rattle.rail_save.specs.RunLines.{other_behind}
use Rattle.rail_save.specs.Snapshots.{IsFirstUnread, IsHeaderless, IsSnapshot, IsWrongBehind, header, snapshot}
use Rattle.rail_save.proofs.RunLines.{run_followed}

-- behind the header one text stands
same_rest : (bytes a b : List ℕ) → bytes ≡ header ++ a → bytes ≡ header ++ b → a ≡ b
same_rest bytes a b is_a is_b = ap (drop 16) (sym is_a ∙ is_b)

module _ (plant : Plant) (named : IsNamed plant) (bytes : List ℕ) where
  -- the bytes of a snapshot stand for its lines alone
  pub one_snapshot : (a b : List Line) → IsSnapshot plant bytes a → IsSnapshot plant bytes b → a ≡ b
  one_snapshot a b is_a is_b =
      one_history plant named is_b.rest a b (subst (λ (rest : List ℕ). IsHistory plant rest a) (same_rest bytes is_a.rest is_b.rest is_a.begins is_b.begins) is_a.history) is_b.history

  -- bytes of which a line is none are no snapshot
  pub no_snapshot : (number : ℕ) (lines : List Line) → IsFirstUnread plant bytes number → IsSnapshot plant bytes lines → ⊥
  no_snapshot number lines unread is =
      ⊎_elim
      (λ (h : IsHeaderless bytes × (number ≡ 1)). h.0 is.rest is.begins)
      (λ (h : IsWrongBehind plant bytes number).
      no_history plant named is.rest h.line lines (subst (λ (rest : List ℕ). IsFirstWrong plant rest h.line) (same_rest bytes h.rest is.rest h.begins is.begins) h.wrong) is.history)
      unread

  -- one line is the first that is none
  pub one_unread : (a b : ℕ) → IsFirstUnread plant bytes a → IsFirstUnread plant bytes b → a ≡ b
  one_unread a b (inl h) (inl g) = h.1 ∙ sym g.1
  one_unread a b (inl h) (inr g) = absurd (h.0 g.rest g.begins)
  one_unread a b (inr h) (inl g) = absurd (g.0 h.rest h.begins)
  one_unread a b (inr h) (inr g) =
      h.counted
      ∙ ap suc (one_wrong plant named g.rest h.line g.line (subst (λ (rest : List ℕ). IsFirstWrong plant rest h.line) (same_rest bytes h.rest g.rest h.begins g.begins) h.wrong) g.wrong)
      ∙ sym g.counted

-- the snapshot of a run is resumed
pub saved_resumed : (input : Input) → is_accepted_input input ≡ true → (seats : List Seat) (front : Front) → is_run input seats front ≡ true
    → IsSnapshot input.plant (snapshot input.plant front) (reverse front) × (other_behind input seats [] 2 (reverse front) ≡ None)
saved_resumed input accepted seats front run = (
  record { rest = text input.plant front; begins = refl; history = in_file input accepted front (run_lawful input seats front run) },
  run_followed input seats front 2 run,
)
