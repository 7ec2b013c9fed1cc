-- What an event line changes of what is kept of a train.
use Rattle.std.proofs.Common.{◌≡◌, ℕ, eqb, true, false, refl, ap, ⊎_elim}
use Rattle.std.proofs.lemmas.Bool.{cases_Bool, eqb-true, eq-eqb, cond-true, cond-false}
use Rattle.rail_base.specs.declared.history.What.{What}
use Rattle.rail_base.specs.declared.history.What.TheVariants.{Free, Arrive, Enter, Out, Ready, Told, Untold, Admit, Hold, End}
use Rattle.rail_rules.specs.Plant.{Plant}
use Rattle.rail_rules.specs.Lawful.{is_out_line}
use Rattle.rail_laws_step.specs.Heads.{enters}
use Rattle.rail_state.specs.declared.train.TrainState.{TrainState}
use Rattle.rail_state.specs.TrainStates.{head_behind, state_after}
use Rattle.rail_state.proofs.Fields.{cond_same}

module _ (plant : Plant) (t : ℕ) (r : TrainState) where
  pub waits_kept : (w : What) → ((m : ℕ) → w ≡ Ready t m → ⊥) → (state_after plant w t r).waits ≡ r.waits
  waits_kept (Ready u m) other =
      ⊎_elim
      (λ here. absurd (other m (ap (λ v. Ready v m) (eqb-true u t here))))
      (λ no. ap (λ (s : TrainState). s.waits) (cond-false (eqb u t) (record r { waits = true }) r no))
      (cases_Bool (eqb u t))
  waits_kept (Enter u m x) other = cond_same (λ (s : TrainState). s.waits) (eqb u t) (record r { head = head_behind plant t r.head }) r refl
  waits_kept (Out u) other = cond_same (λ (s : TrainState). s.waits) (eqb u t) (record r { is_out = true }) r refl
  waits_kept (Free x u) other = refl
  waits_kept (Arrive u m) other = refl
  waits_kept (Told k) other = refl
  waits_kept (Untold k) other = refl
  waits_kept (Admit u m note) other = refl
  waits_kept (Hold u m why) other = refl
  waits_kept End other = refl

  pub waits_now : (m : ℕ) → (state_after plant (Ready t m) t r).waits ≡ true
  waits_now m = ap (λ (s : TrainState). s.waits) (cond-true (eqb t t) (record r { waits = true }) r (eq-eqb t t refl))

  pub head_same : (w : What) → enters t w ≡ false → (state_after plant w t r).head ≡ r.head
  head_same (Enter u m x) other = ap (λ (s : TrainState). s.head) (cond-false (eqb u t) (record r { head = head_behind plant t r.head }) r other)
  head_same (Ready u m) other = cond_same (λ (s : TrainState). s.head) (eqb u t) (record r { waits = true }) r refl
  head_same (Out u) other = cond_same (λ (s : TrainState). s.head) (eqb u t) (record r { is_out = true }) r refl
  head_same (Free x u) other = refl
  head_same (Arrive u m) other = refl
  head_same (Told k) other = refl
  head_same (Untold k) other = refl
  head_same (Admit u m note) other = refl
  head_same (Hold u m why) other = refl
  head_same End other = refl

  pub head_next : (m x : ℕ) → (state_after plant (Enter t m x) t r).head ≡ head_behind plant t r.head
  head_next m x = ap (λ (s : TrainState). s.head) (cond-true (eqb t t) (record r { head = head_behind plant t r.head }) r (eq-eqb t t refl))

  pub out_same : (w : What) → is_out_line t w ≡ false → (state_after plant w t r).is_out ≡ r.is_out
  out_same (Out u) other = ap (λ (s : TrainState). s.is_out) (cond-false (eqb u t) (record r { is_out = true }) r other)
  out_same (Enter u m x) other = cond_same (λ (s : TrainState). s.is_out) (eqb u t) (record r { head = head_behind plant t r.head }) r refl
  out_same (Ready u m) other = cond_same (λ (s : TrainState). s.is_out) (eqb u t) (record r { waits = true }) r refl
  out_same (Free x u) other = refl
  out_same (Arrive u m) other = refl
  out_same (Told k) other = refl
  out_same (Untold k) other = refl
  out_same (Admit u m note) other = refl
  out_same (Hold u m why) other = refl
  out_same End other = refl

  pub out_now_state : (state_after plant (Out t) t r).is_out ≡ true
  out_now_state = ap (λ (s : TrainState). s.is_out) (cond-true (eqb t t) (record r { is_out = true }) r (eq-eqb t t refl))

  pub known_kept : (w : What) → ((x u : ℕ) → w ≡ Free x u → ⊥) → (state_after plant w t r).known ≡ r.known
  known_kept (Free x u) other = absurd (other x u refl)
  known_kept (Enter u m x) other = cond_same (λ (s : TrainState). s.known) (eqb u t) (record r { head = head_behind plant t r.head }) r refl
  known_kept (Ready u m) other = cond_same (λ (s : TrainState). s.known) (eqb u t) (record r { waits = true }) r refl
  known_kept (Out u) other = cond_same (λ (s : TrainState). s.known) (eqb u t) (record r { is_out = true }) r refl
  known_kept (Arrive u m) other = refl
  known_kept (Told k) other = refl
  known_kept (Untold k) other = refl
  known_kept (Admit u m note) other = refl
  known_kept (Hold u m why) other = refl
  known_kept End other = refl
