-- What the analysis answers, as a test.
use Rattle.std.proofs.Common.{◌≡◌, ℕ, true, false, List, sym, ◌∙◌, ⊎_elim}
use Rattle.std.proofs.lemmas.Bool.{cases_Bool, true≢false}
use Rattle.rail_rules.specs.Moves.{Moves}
use Rattle.rail_rules.specs.Analysis.{Finds, finds}
use Rattle.rail_rules.proofs.CallerLemmas.{finds_exactly}

-- where no list can be found, the test says so
pub finds_none : (plan : Moves) (k : ℕ) (s : List ℕ) → (Finds plan k s → ⊥) → finds plan k s ≡ false
finds_none plan k s nothing =
    ⊎_elim
    (λ yes. absurd (nothing ((finds_exactly plan k s).0 yes)))
    (λ none. none)
    (cases_Bool (finds plan k s))

-- where it isn't so that no list can be found, the test says so
pub finds_some : (plan : Moves) (k : ℕ) (s : List ℕ) → ((Finds plan k s → ⊥) → ⊥) → finds plan k s ≡ true
finds_some plan k s some =
    ⊎_elim
    (λ yes. yes)
    (λ none. absurd (some (λ found. true≢false (sym ((finds_exactly plan k s).1 found) ∙ none))))
    (cases_Bool (finds plan k s))
