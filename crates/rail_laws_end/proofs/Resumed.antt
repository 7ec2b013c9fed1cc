-- A run that goes on behind its first lines has the text of the run.
use Rattle.std.proofs.Common.{◌≡◌, ℕ, true, List, [], ◌∷◌, ◌++◌, sym, ap, ◌∙◌, ⊎_elim, append_assoc}
use Rattle.std.proofs.lemmas.List.{append-nil}
use Rattle.rail_base.specs.declared.history.What.TheVariants.{Admit}
use Rattle.rail_base.specs.declared.history.Note.TheVariants.{Fresh}
use Rattle.rail_rules.specs.Accepted.{is_accepted}
use Rattle.rail_rules.specs.Fronts.{Front, Line}
use Rattle.rail_rules.specs.Orders.{Input}
use Rattle.rail_rules.specs.Plant.{Plant}
use Rattle.rail_rules.specs.RunHistories.{Seat, is_run_history}
use Rattle.rail_rules.specs.Texts.{line_text, text}
use Rattle.rail_laws_end.specs.Forks.{IsFork, are_marks, is_built_in_throughout}
use Rattle.rail_laws_end.proofs.Compared.{one_run}

text_joined : (plant : Plant) (more front : Front) → text plant (more ++ front) ≡ text plant front ++ text plant more
text_joined plant [] front = sym (append-nil (text plant front))
text_joined plant (line ∷ more) front =
    ap (λ (t : List ℕ). t ++ line_text plant line) (text_joined plant more front) ∙ append_assoc (text plant front) (text plant more) (line_text plant line)

pub one_text : (input : Input) → is_accepted input.plant ≡ true → (seats : List Seat) → are_marks seats ≡ true → (whole front more : Front)
    → is_run_history input seats whole ≡ true → is_run_history input seats (more ++ front) ≡ true → is_built_in_throughout input seats whole ≡ true
    → ((later before : Front) (line : Line) (t m : ℕ) → whole ≡ later ++ line ∷ before → line.entry.what ≡ Admit t m Fresh → ⊥)
    → text input.plant front ++ text input.plant more ≡ text input.plant whole
one_text input accepted seats marks whole front more is_whole is_more built_in none =
    ⊎_elim
    (λ (same : whole ≡ more ++ front). sym (text_joined input.plant more front) ∙ ap (text input.plant) (sym same))
    (λ (fork : IsFork whole (more ++ front)). absurd (none fork.later fork.common fork.line fork.forked.train fork.forked.move fork.of_first fork.forked.fresh))
    (one_run input accepted seats marks whole (more ++ front) is_whole is_more built_in)
