-- The boxes of a deck as they are seen, and what a call does to one.
use Rattle.std.specs.Prelude.{ℕ, ◌+◌, ◌%◌, Bool, ◌&&◌, List, [], Option, get_or, length, map, nat_lt, position}
use Rattle.std.specs.List.{list_all}
use Rattle.rail_base.specs.Limits.{is_from_one, most, Policies}
use Rattle.rail_base.specs.Lists.{are_distinct}
use Rattle.rail_base.specs.declared.orders.PolicyKind.{PolicyKind}
use Rattle.rail_base.specs.declared.orders.PolicyKind.TheVariants.{Rotating, Custom}
use Rattle.rail_rules.specs.Numbers.{same_numbers}
use Rattle.rail_rules.specs.RunHistories.{Seat}

-- a box as it is seen: its name and kind, which never change, its mark, and what it answered last
pub record DeskSeat : Type 0 where
  pub name : List ℕ
  pub kind : PolicyKind
  pub mark : ℕ
  pub answered : ℕ

-- a box that was not asked yet
abbrev pub fresh_seat : List ℕ → PolicyKind → DeskSeat
fresh_seat name kind = record { name = name; kind = kind; mark = 0; answered = 0 }

-- the mark after a choice: a custom box counts how often it is asked
abbrev pub mark_when_asked : PolicyKind → ℕ → ℕ
mark_when_asked Custom mark = (mark + 1) % 65536
mark_when_asked _ mark = mark

-- the mark after an admission is noted: a rotating box goes on behind the train that was admitted
abbrev pub mark_when_noted : PolicyKind → ℕ → ℕ → ℕ
mark_when_noted Rotating admitted mark = (admitted + 1) % 65536
mark_when_noted _ admitted mark = mark

-- the box after it gave this answer
abbrev pub asked : DeskSeat → ℕ → DeskSeat
asked seat answer = record seat { mark = mark_when_asked seat.kind seat.mark; answered = answer }

-- the box after the admission of this train was noted
abbrev pub noted : DeskSeat → ℕ → DeskSeat
noted seat admitted = record seat { mark = mark_when_noted seat.kind admitted seat.mark }

-- what stands for a box behind the last one
abbrev pub no_seat : DeskSeat
no_seat = record { name = []; kind = Custom; mark = 0; answered = 0 }

-- the box at this index
abbrev pub seat_at : List DeskSeat → ℕ → DeskSeat
seat_at seats index = get_or seats index no_seat

-- the names of the boxes, in order
abbrev pub names_of : List DeskSeat → List (List ℕ)
names_of seats = map (λ (seat : DeskSeat). seat.name) seats

-- the boxes as run histories speak of them: what they answered is left out
abbrev pub handed_in : List DeskSeat → List Seat
handed_in seats = map (λ (seat : DeskSeat). record { name = seat.name; kind = seat.kind; mark = seat.mark }) seats

-- the box has this name
abbrev pub is_named : List ℕ → DeskSeat → Bool
is_named name seat = same_numbers seat.name name

-- the index of the box of this name, where there is one
abbrev pub index_of : List DeskSeat → List ℕ → Option ℕ
index_of seats name = position (is_named name) seats

-- no two boxes have one name
abbrev pub have_distinct_names : List DeskSeat → Bool
have_distinct_names = are_distinct (λ (seat : DeskSeat). is_named seat.name)

-- each mark is a 16-bit number
abbrev pub are_marks_small : List DeskSeat → Bool
are_marks_small seats = list_all (λ (seat : DeskSeat). nat_lt seat.mark 65536) seats

-- a deck has 1 to 16 boxes with distinct names
abbrev pub is_fine_deck : List DeskSeat → Bool
is_fine_deck seats = is_from_one (most Policies) (length seats) && have_distinct_names seats
