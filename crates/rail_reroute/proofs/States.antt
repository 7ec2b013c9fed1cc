-- What was found of a state.
use Rattle.std.proofs.Common.{◌≡◌, ℕ, true, false, List, length, sym, ap, ◌∙◌, ⊎_elim, arith}
use Rattle.std.proofs.lemmas.Bool.{cases_Bool, cases_lt, false_from_ne_true, false≢true, true≢false}
use Rattle.std.proofs.lemmas.List.{get_or_past}
use Rattle.rail_rules.specs.Moves.{Moves}
use Rattle.rail_rules.specs.Numbers.{is_in}
use Rattle.rail_rules.specs.Analysis.{Finds, finds}
use Rattle.rail_rules.specs.Moves.{stand}
use Rattle.rail_rules.specs.Places.{is_valid_state, place_of}
use Rattle.rail_rules.proofs.CallerLemmas.{apart_at, finds_exactly}
use Rattle.rail_place.specs.Overlaps.{IsOverlap}
use Rattle.rail_place.proofs.CallerLemmas.{state_apart}

-- where no list can be found, the test says so
pub finds_none : (plan : Moves) (k : ℕ) (s : List ℕ) → (Finds plan k s → ⊥) → finds plan k s ≡ false
finds_none plan k s nothing =
    ⊎_elim
    (λ yes. absurd (nothing ((finds_exactly plan k s).0 yes)))
    (λ none. none)
    (cases_Bool (finds plan k s))

-- where it isn't so that no list can be found, the test says so
pub finds_some : (plan : Moves) (k : ℕ) (s : List ℕ) → ((Finds plan k s → ⊥) → ⊥) → finds plan k s ≡ true
finds_some plan k s some =
    ⊎_elim
    (λ yes. yes)
    (λ none. absurd (some (λ found. true≢false (sym ((finds_exactly plan k s).1 found) ∙ none))))
    (cases_Bool (finds plan k s))

-- two trains that hold one section stand in no valid state
pub overlapped : (plan : Moves) (s : List ℕ) (x first second : ℕ) → IsOverlap plan s x first second → is_valid_state plan s ≡ false
overlapped plan s x first second overlap = false_from_ne_true (is_valid_state plan s) (λ valid. ⊎_elim
    (λ lt. false≢true
    (sym (apart_at (stand plan first (place_of s first)) (stand plan second (place_of s second)) x
    (state_apart plan s first second valid lt (λ same. omega (arith, same, overlap.ordered))) overlap.first_holds)
    ∙ overlap.second_holds))
    (λ past. false≢true (sym (ap (λ place. is_in x (stand plan first place)) (get_or_past s first 0 past)) ∙ overlap.first_holds))
    (cases_lt first (length s)))
