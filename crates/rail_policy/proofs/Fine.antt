-- The names of a deck that can be handed to a desk.
use Rattle.std.proofs.Common.{◌≡◌, ℕ, true, false, not, ◌&&◌, List, [], ◌∷◌, length, get_or, sym, ap, ◌∙◌, refl, arith}
use Rattle.std.specs.List.{list_any}
use Rattle.std.specs.Cmp.Lexicographic.{bytes_decides}
use Rattle.std.proofs.lemmas.Bool.{and_from, and_parts, false_from_ne_true, false≢true, not-true}
use Rattle.std.proofs.lemmas.List.{get_or-map, length-map}
use Rattle.std.proofs.lemmas.List.Folds.{Any-from_list_any, list_any_at}
use Rattle.rail_base.specs.Limits.{is_from_one, most, Policies}
use Rattle.rail_rules.specs.Accepted.{are_distinct_names}
use Rattle.rail_rules.specs.Numbers.{same_numbers}
use Rattle.rail_policy.specs.Seats.{DeskSeat, have_distinct_names, is_fine_deck, is_named, names_of, no_seat}

-- boxes with distinct names have distinct names in a row
distinct_names : (seats : List DeskSeat) → have_distinct_names seats ≡ true → are_distinct_names (names_of seats) ≡ true
distinct_names [] distinct = refl
distinct_names (seat ∷ rest) distinct =
    let parts = and_parts (not (list_any (is_named seat.name) rest)) (have_distinct_names rest) distinct in
    and_from (not (list_any (same_numbers seat.name) (names_of rest))) (are_distinct_names (names_of rest))
    (ap not (false_from_ne_true (list_any (same_numbers seat.name) (names_of rest)) (λ any.
    let found = Any-from_list_any (same_numbers seat.name) (names_of rest) any in
    let lt : Rattle.std.proofs.Common.◌<◌ found.0 (length rest) = omega (arith, found.2, length-map rest (λ (s : DeskSeat). s.name)) in
    let named : (get_or rest found.0 no_seat).name ≡ seat.name =
    sym (get_or-map (λ (s : DeskSeat). s.name) rest found.0 no_seat found.1 lt) ∙ found.3 ∙ sym ((bytes_decides seat.name found.1).0 found.4) in
    false≢true (sym (not-true (list_any (is_named seat.name) rest) parts.0)
    ∙ list_any_at (is_named seat.name) rest found.0 no_seat lt ((bytes_decides (get_or rest found.0 no_seat).name seat.name).1 named)))))
    (distinct_names rest parts.1)

-- there are 1 to 16 names, and none stands twice
pub fine_names : (seats : List DeskSeat) → is_fine_deck seats ≡ true
    → (is_from_one (most Policies) (length (names_of seats)) ≡ true) × (are_distinct_names (names_of seats) ≡ true)
fine_names seats fine =
    let parts = and_parts (is_from_one (most Policies) (length seats)) (have_distinct_names seats) fine in
    (ap (is_from_one (most Policies)) (length-map seats (λ (s : DeskSeat). s.name)) ∙ parts.0, distinct_names seats parts.1)
