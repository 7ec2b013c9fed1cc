-- The desk as callers see it, and what a call leaves of it.
use Rattle.std.specs.Prelude.{◌≡◌, ℕ, ◌-◌, cond, nat_lt, List, Option, Some, length, set, slice_get}
use Rattle.std.specs.List.{remove}
use Rattle.std.specs.Option.{option_map}
use Rattle.rail_rules.specs.RunHistories.{Seat}
use Rattle.rail_policy.specs.declared.offer.Offer.{Offer}
use Rattle.rail_policy.specs.declared.desk.Asked.{Asked}
use Rattle.rail_policy.specs.Seats.{DeskSeat, asked, handed_in, noted, index_of, seat_at}

-- a desk as it is seen: its boxes in order, the index of the box in force, and what the last turn was about
pub record Table : Type 0 where
  pub seats : List DeskSeat
  pub force : ℕ
  pub last : Option Asked

-- the boxes of a desk as run histories speak of them
abbrev pub run_seats : Table → List Seat
run_seats table = handed_in table.seats

-- the box in force
abbrev pub seat_in_force : Table → DeskSeat
seat_in_force table = seat_at table.seats table.force

-- the desk with the box at this index in force
abbrev pub put_in_force : Table → ℕ → Table
put_in_force table index = record table { force = index }

-- the box of this name is put in force, and nothing else changes
pub record PutsInForce (old new : Table) (name : List ℕ) : Type 0 where
  pub index : ℕ
  pub found : index_of old.seats name ≡ Some index
  pub table : new ≡ put_in_force old index

-- the desk without the box at this index, which isn't in force: the same box is in force as before
abbrev pub without : Table → ℕ → Table
without table index =
    record table { seats = remove table.seats index; force = cond (nat_lt index table.force) (table.force - 1) table.force }

-- the box of this name is dropped; the others are unchanged and in their order, and the same one is in force
pub record Drops (old new : Table) (name : List ℕ) : Type 0 where
  pub index : ℕ
  pub found : index_of old.seats name ≡ Some index
  pub table : new ≡ without old index

-- an answer out of range counts as the first offer
abbrev pub within : ℕ → ℕ → ℕ
within offered answer = cond (nat_lt answer offered) answer 0

-- what a turn was about that chose the offer at this index
abbrev pub asked_about : List Offer → ℕ → Option Asked
asked_about offers index = option_map (λ (offer : Offer). record { offer = offer; offered = length offers }) (slice_get offers index)

-- the desk after the box in force gave this answer
abbrev pub after_answer : Table → ℕ → Table
after_answer table answer = record table { seats = set table.seats table.force (asked (seat_in_force table) answer) }

-- the desk after a turn in which the box in force gave this answer to the offers
abbrev pub after_turn : Table → List Offer → ℕ → Table
after_turn table offers answer = record (after_answer table answer) { last = asked_about offers (within (length offers) answer) }

-- the desk after the box in force noted the admission of this train
abbrev pub after_note : Table → ℕ → Table
after_note table admitted = record table { seats = set table.seats table.force (noted (seat_in_force table) admitted) }
