-- Trains, moves and sections of an accepted plant are known, and their numbers fit a counter.
use Rattle.std.proofs.Common.{◌≡◌, ℕ, ◌<◌, ◌≤◌, ◌^◌, true, length, arith}
use Rattle.std.specs.List.{list_all}
use Rattle.std.proofs.lemmas.Bool.{and_from, lt-ltb}
use Rattle.rail_rules.specs.Accepted.{is_accepted}
use Rattle.rail_rules.specs.Plant.{Plant, trains, moves, move_row, claimed, claims, step_section}
use Rattle.rail_rules.specs.WritableLines.{does_fit_counter, is_known_train, is_known_section, is_known_move}
use Rattle.rail_laws_front.proofs.CallerLemmas.{known_train}
use Rattle.rail_rules.proofs.CallerLemmas.{IsRowInRange, accepted_parts, row_in_range, move_in_range, list_all_get}
use Rattle.rail_base.specs.declared.limits.TheConstants.{ITINERARY_ROUTES}

pub train_known : (plant : Plant) (t : ℕ) → t < trains plant → is_known_train plant t ≡ true
train_known plant t lt = lt-ltb t (trains plant) lt

pub fits_counter : (n : ℕ) → n < 2 ^ 64 → does_fit_counter n ≡ true
fits_counter n lt = lt-ltb n (2 ^ 64) lt

-- a move of a train, counted from 1
pub move_known : (plant : Plant) → is_accepted plant ≡ true → (t m : ℕ) → t < trains plant → m ≤ moves plant t → is_known_move plant t m ≡ true
move_known plant ok t m lt le =
    let row : IsRowInRange plant t = row_in_range plant (accepted_parts plant ok).trains_in_range t lt in
    let few : moves plant t ≤ ITINERARY_ROUTES = row.few_moves in
    and_from _ _ (train_known plant t lt) (fits_counter m (omega arith))

-- all sections that a move claims are known
pub claims_known : (plant : Plant) → is_accepted plant ≡ true → (t m : ℕ) → m < moves plant t → list_all (is_known_section plant) (claimed plant t m) ≡ true
claims_known plant ok t m lt =
    let row : IsRowInRange plant t = row_in_range plant (accepted_parts plant ok).trains_in_range t (known_train plant t m lt) in
    (move_in_range (length plant.tables.sections) (move_row plant t m) (row.each_move m lt)).known

-- and so is that of each step
pub step_known : (plant : Plant) → is_accepted plant ≡ true → (t m j : ℕ) → m < moves plant t → j < claims plant t m → is_known_section plant (step_section plant t m j) ≡ true
step_known plant ok t m j lt step = list_all_get (is_known_section plant) (claimed plant t m) j 0 (claims_known plant ok t m lt) step
