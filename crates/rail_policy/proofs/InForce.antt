-- The box of a name, and a desk without one of its boxes.
use Rattle.std.proofs.Common.{◌≡◌, ◌≢◌, ℕ, ◌-◌, ◌<◌, cond, nat_lt, true, List, length, get_or, sym, ap, ◌∙◌, ⊎_elim, arith}
use Rattle.std.specs.List.{list_any, position_or_len, remove}
use Rattle.std.specs.Prelude.{None, Some}
use Rattle.std.specs.Cmp.Lexicographic.{bytes_decides}
use Rattle.std.proofs.lemmas.Bool.{cases_lt, cond-true, false≢true, lt-ltb, le-ltb}
use Rattle.std.proofs.lemmas.List.Edits.{get_or-remove_above, get_or-remove_below}
use Rattle.std.proofs.lemmas.List.Folds.{Any-from_list_any}
use Rattle.std.proofs.lemmas.List.Quantifiers.{position-Some}
use Rattle.std.proofs.lemmas.List.Sums.{fails_before_first}
use Rattle.rail_policy.specs.Seats.{DeskSeat, is_named, no_seat, index_of, seat_at}
use Rattle.rail_policy.specs.Desks.{Table, seat_in_force, without}

-- the box that is found by its name has the name
pub name-index_of : (seats : List DeskSeat) (name : List ℕ) (index : ℕ) → index_of seats name ≡ Some index → (seat_at seats index).name ≡ name
name-index_of seats name index found =
    (bytes_decides (seat_at seats index).name name).0 (position-Some (is_named name) seats index no_seat found).1

-- the same box is in force as before
pub seat_in_force-without : (table after : Table) (index : ℕ) → after ≡ without table index → index < length table.seats → index ≢ table.force
    → seat_in_force after ≡ seat_in_force table
seat_in_force-without table after index after_is lt ne =
    ap seat_in_force after_is
    ∙ ⊎_elim
    (λ before. ap (λ b. get_or (remove table.seats index) (cond b (table.force - 1) table.force) no_seat) (lt-ltb index table.force before)
    ∙ get_or-remove_above table.seats index no_seat (table.force - 1) (omega arith) lt
    ∙ ap (λ k. get_or table.seats k no_seat) (omega arith))
    (λ behind. ap (λ b. get_or (remove table.seats index) (cond b (table.force - 1) table.force) no_seat) (le-ltb index table.force behind)
    ∙ get_or-remove_below table.seats index no_seat table.force (omega arith) lt)
    (cases_lt index table.force)

-- a policy of a name that the desk has is found
pub index_of-found : (seats : List DeskSeat) (name : List ℕ) → list_any (is_named name) seats ≡ true
    → (index : ℕ) × (index_of seats name ≡ Some index) × (index < length seats)
index_of-found seats name any =
    let found = Any-from_list_any (is_named name) seats any in
    let index : ℕ = position_or_len (is_named name) seats in
    let inside : index < length seats = ⊎_elim
    (λ lt. lt)
    (λ past. absurd (false≢true (sym (fails_before_first (is_named name) seats found.0 found.1 (omega (arith, past, found.2))) ∙ ap (is_named name) found.3 ∙ found.4)))
    (cases_lt index (length seats)) in
    (index, cond-true (nat_lt index (length seats)) (Some index) None (lt-ltb index (length seats) inside), inside)
