-- The trains of a list that completes, and those that remain, are those of the plant.
use Rattle.std.proofs.Common.{◌≡◌, ℕ, zero, suc, ◌<◌, ◌≤◌, Bool, true, not, ◌||◌, ◌&&◌, List, [], ◌∷◌, length, refl, ap, arith}
use Rattle.std.specs.List.{All, list_all}
use Rattle.std.proofs.lemmas.Bool.{and_from, lt-ltb}
use Rattle.std.proofs.lemmas.List.Elements.{All-nil, All-cons, All-head, All-tail, All-append, All-filter}
use Rattle.rail_rules.specs.Accepted.{is_accepted}
use Rattle.rail_rules.specs.Numbers.{listed, sum_below}
use Rattle.rail_rules.specs.Places.{completes}
use Rattle.rail_rules.specs.Plant.{Plant, trains, moves, moves_of}
use Rattle.rail_rules.specs.Fronts.{Front}
use Rattle.rail_rules.specs.Orders.{Input, told, is_cancelled}
use Rattle.rail_rules.specs.Lawful.{is_out, remaining}
use Rattle.rail_rules.specs.WritableLines.{does_fit_counter, is_known_train}
use Rattle.rail_rules.proofs.CallerLemmas.{accepted_parts, row_in_range}
use Rattle.rail_laws_events.proofs.CallerLemmas.{sum-limited}
use Rattle.rail_list.proofs.CallerLemmas.{completing_fits, completing_listed}
use Rattle.rail_laws_text.proofs.Known.{fits_counter}
use Rattle.rail_base.specs.declared.limits.TheConstants.{LIST_TRAINS, ITINERARY_ROUTES}

all_known : (plant : Plant) (list : List ℕ) → All (λ t. t < trains plant) list → list_all (is_known_train plant) list ≡ true
all_known plant [] all = refl
all_known plant (t ∷ list) all =
    and_from (is_known_train plant t) (list_all (is_known_train plant) list)
    (lt-ltb t (trains plant) (All-head (λ u. u < trains plant) t list all))
    (all_known plant list (All-tail (λ u. u < trains plant) t list all))

-- all trains together have few moves
pub few_moves : (plant : Plant) → is_accepted plant ≡ true → sum_below (moves plant) (trains plant) ≤ LIST_TRAINS
few_moves plant ok =
    let accepted = accepted_parts plant ok in
    omega (arith, sum-limited (moves plant) ITINERARY_ROUTES (trains plant) (λ t lt. (row_in_range plant accepted.trains_in_range t lt).few_moves), accepted.few_trains)

-- a list that completes is no longer than all moves together
pub list_short : (plant : Plant) → is_accepted plant ≡ true → (s list : List ℕ) → length s ≡ trains plant → completes (moves_of plant) s list ≡ true → length list ≤ LIST_TRAINS
list_short plant ok s list long done =
    let fits : length list ≤ sum_below (moves plant) (length s) = completing_fits (moves_of plant) s list done in
    omega (arith, fits, ap (sum_below (moves plant)) long, few_moves plant ok)

-- the trains of a list that completes
pub list_known : (plant : Plant) → is_accepted plant ≡ true → (s list : List ℕ) → length s ≡ trains plant → completes (moves_of plant) s list ≡ true → (list_all (is_known_train plant) list && does_fit_counter (length list)) ≡ true
list_known plant ok s list long done =
    let few : length list ≤ LIST_TRAINS = list_short plant ok s list long done in
    and_from (list_all (is_known_train plant) list) (does_fit_counter (length list))
    (all_known plant list (completing_listed (moves_of plant) s list (trains plant) long done))
    (fits_counter (length list) (omega (arith, few)))

below : (n k : ℕ) → k ≤ n → All (λ t. t < n) (listed (λ t. t) k)
below n zero le = All-nil (λ t. t < n)
below n (suc k) le = All-append (λ t. t < n) (listed (λ t. t) k) (k ∷ []) (below n k (omega arith)) (All-cons (λ t. t < n) k [] (omega arith) (All-nil (λ t. t < n)))

-- the trains that remain
pub remaining_known : (input : Input) (front : Front) → list_all (is_known_train input.plant) (remaining input front) ≡ true
remaining_known input front =
    let stays : ℕ → Bool = λ t. not (is_out front t || is_cancelled t (told input.commands front)) in
    all_known input.plant (remaining input front)
    (All-filter stays (λ t. t < trains input.plant) (listed (λ t. t) (trains input.plant)) (below (trains input.plant) (trains input.plant) (omega arith)))
