-- The front that a ledger stands for.
use Rattle.std.specs.List.{filter}
use Rattle.std.specs.Prelude.{◌||◌, is_some, nat_lt, suc, ◌==◌, ◌&&◌, not, Bool, ◌≡◌, ◌↔◌, ◌⊎◌, ℕ, ◌+◌, ◌<◌, ◌≤◌, ◌^◌, cond, true, false, List, [], ◌∷◌, length, get_or, set, Some, None, IsTrue, vec_capacity}
use Rattle.rail_base.specs.declared.history.Entry.{Entry}
use Rattle.rail_base.specs.declared.limits.TheConstants.{SECTIONS, TRAINS}
use Rattle.rail_rules.specs.Numbers.{sum_below}
use Rattle.rail_base.specs.declared.history.Cause.TheVariants.{NoList}
use Rattle.rail_base.specs.declared.history.Note.{Note}
use Rattle.rail_base.specs.declared.history.Note.TheVariants.{Pulled, Appended, Fresh}
use Rattle.rail_list.specs.Repairs.{IsNoted}
use Rattle.rail_list.specs.GivenLists.{given_list}
use Rattle.rail_rules.specs.Places.{after, holds}
use Rattle.rail_rules.specs.Plant.{Plant, claimed, moves, moves_of, trains}
use Rattle.rail_rules.specs.Causes.{could_go, is_deciding}
use Rattle.rail_rules.specs.Fronts.{Front, Line, has_ended, has_held, is_admission, is_hold, kept, places}
use Rattle.rail_rules.specs.Lawful.{is_lawful, may_follow}
use Rattle.rail_laws_verdict.specs.Verdicts.{broken_law, missing_law}
use Rattle.rail_rules.specs.RunHistories.{Seat, is_chosen, is_run}
use Rattle.rail_place.specs.PlaceStates.{State}
use Rattle.rail_cores.specs.Searchers.{IsSearcherFor}
use Rattle.rail_list.specs.KeptLists.{Kept}
use Rattle.rail_list.specs.Failures.{AreFailures}
use Rattle.rail_queue.specs.Order.{first_time_of}
use Rattle.rail_state.specs.declared.train.TrainState.{TrainState}
use Rattle.rail_laws_step.specs.HolderTables.{own_overlap}
use Rattle.rail_laws_step.specs.MostDue.{most_due}
use Rattle.rail_state.specs.TrainStates.{bar_by, is_untried, lacks_hold_line, state_of, state_told}
use Rattle.rail_state.specs.Representation.{AreAllKnown, IsAdmissible, IsNext, Represents, admit_line, is_due_now, list_for}
use Rattle.rail_ledger.specs.declared.ledger.Ledger.{Ledger}
use Rattle.rail_ledger.specs.declared.ledger.Listed.{Listed}
use Rattle.rail_ledger.specs.declared.ledger.Listed.TheVariants as listed
use Rattle.rail_rules.specs.Orders.{told}
use Rattle.rail_rules.specs.Accepted.{is_accepted_input}
use Rattle.rail_orders.specs.OrderTables.{AreOrders, Told, closed_in, stop_in, takes_effect_in, told_after}
use Rattle.rail_base.specs.declared.history.What.{What}
use Rattle.rail_base.specs.declared.history.What.TheVariants as what
use Rattle.rail_base.specs.declared.orders.Order.{Order}
use Rattle.rail_base.specs.declared.orders.Order.TheVariants.{Cancel}
use Rattle.rail_state.specs.SeenCauses.{is_uncancelled}
use Rattle.rail_ledger.specs.Inputs.{dispatch_in, input_in}
use Rattle.rail_state.specs.declared.pushes.TheConstants.{MOVE_EVENTS}

-- the places are those of the front, with the trains that hold the sections
pub record ArePlaces (plant : Plant) (front : Front) (state : State) : Type 0 where
  pub positions : state.positions ≡ places plant front
  pub room : length state.owners ≡ SECTIONS
  pub counted : state.played < 2 ^ 64
  pub told : (x u : ℕ) → (get_or state.owners x None ≡ Some u) ↔ IsTrue (holds (moves_of plant) state.positions u x)

-- the kept list is that of the front, with room for all moves
pub record IsKept (plant : Plant) (front : Front) (list : Kept) : Type 0 where
  pub is_list : list.trains ≡ kept plant front
  pub room : sum_below (moves plant) (trains plant) ≤ list.room

-- the ledger stands for the front, but for the list that belongs to its last line
pub record IsAt (front : Front) (ledger : Ledger) : Type 0 where
  pub accepted : is_accepted_input (input_in ledger.input) ≡ true
  pub ordered : AreOrders ledger.input.plant ledger.input.deck.items ledger.input.force
      (told ledger.input.commands.items front) ledger.orders
  pub rep : Represents (dispatch_in ledger.input) ledger.input.plant front ledger.state
  pub placed : ArePlaces ledger.input.plant front ledger.places
  pub keeps : IsKept ledger.input.plant front ledger.kept
  pub queue_room : length ledger.state.queue.events + ledger.state.queue.spare ≡ most_due ledger.input.plant (length ledger.input.commands.items) + MOVE_EVENTS
  pub list_room : vec_capacity ledger.remaining ≡ TRAINS
  pub list_empty : has_ended front ≡ false → ledger.remaining.items ≡ []
  pub searcher : IsSearcherFor (moves_of ledger.input.plant) ledger.searcher
  pub failures : AreFailures (moves_of ledger.input.plant) ledger.input.plant.tables.depth ledger.places.positions ledger.failures

-- the order takes effect, by what is kept
abbrev pub is_effective : Ledger → Order → Bool
is_effective ledger order = takes_effect_in ledger.orders (has_moved order) order
  where
    has_moved : Order → Bool
    has_moved (Cancel t) = nat_lt 0 (state_of ledger.state.trains t).place
    has_moved _ = false

-- the command of this number is untold: only the instant changes
pub record HasPassed (old new : Ledger) (at number : ℕ) (result : What) : Type 0 where
  pub said : result ≡ what.Untold number
  pub is : new ≡ record old { state = record old.state { instant = at } }

-- the command of this number, with this order, is told
pub record HasToldCommand (old new : Ledger) (at number : ℕ) (order : Order) (result : What) : Type 0 where
  pub said : result ≡ what.Told number
  pub is : new ≡ record old { orders = told_after order old.orders; state = new.state }
  pub events : new.state.queue.events ≡ filter (is_uncancelled (order ∷ [])) old.state.queue.events
  pub room : length new.state.queue.events + new.state.queue.spare ≡ length old.state.queue.events + old.state.queue.spare
  pub holders : new.state.holders ≡ old.state.holders
  pub many : length new.state.trains ≡ length old.state.trains
  pub trains : (t : ℕ) → t < length old.state.trains → state_of new.state.trains t
      ≡ state_told old.input.plant (order ∷ []) t (state_of old.state.trains t)
  pub time : new.state.instant ≡ at
  pub going : new.state.has_ended ≡ old.state.has_ended
  pub settled : new.state.is_settled ≡ false

-- the ledger stands for some front
pub record IsSomewhere (ledger : Ledger) : Type 0 where
  pub front : Front
  pub at : IsAt front ledger

-- the list that belongs to the last line: none, the kept list, or the trains that remain
abbrev pub listed_in : Listed → List ℕ → List ℕ → List ℕ
listed_in listed.Nothing kept_list remaining = []
listed_in listed.Kept kept_list remaining = kept_list
listed_in listed.Remaining kept_list remaining = remaining

-- the same of a ledger
abbrev pub list_in : Ledger → List ℕ
list_in ledger = listed_in ledger.listed ledger.kept.trains ledger.remaining.items

-- the trains of the last line's list
abbrev pub list_of : Front → List ℕ
list_of [] = []
list_of (line ∷ before) = line.trains

-- the line of an entry with the list that belongs to it
abbrev pub line_in : Ledger → Entry → Line
line_in ledger entry = record { entry = entry; trains = list_in ledger }

-- the next event has the instant, or all that waits was told why
abbrev pub MayGoOn : Ledger → Type 0
MayGoOn ledger = (ledger.state.is_settled ≡ true) ⊎ (first_time_of ledger.state.queue.events ≡ Some ledger.state.instant)

-- how many waiting trains were not looked at yet
abbrev pub untried : List TrainState → ℕ
untried states = sum_below (λ t. cond (is_untried (state_of states t)) 1 0) (length states)

-- two ledgers differ in places, kept list, searcher, failures, and what is kept of the trains alone
pub record AreAlike (first second : Ledger) : Type 0 where
  pub input : second.input ≡ first.input
  pub orders : second.orders ≡ first.orders
  pub reader : second.reader ≡ first.reader
  pub queue : second.state.queue ≡ first.state.queue
  pub holders : second.state.holders ≡ first.state.holders
  pub instant : second.state.instant ≡ first.state.instant
  pub is_settled : second.state.is_settled ≡ first.state.is_settled
  pub has_ended : second.state.has_ended ≡ first.state.has_ended
  pub remaining : second.remaining ≡ first.remaining
  pub listed : second.listed ≡ first.listed

-- the ledger stands for each front for which it stood
abbrev pub StandsAsBefore : Ledger → Ledger → Type 0
StandsAsBefore old new = (front : Front) → IsAt front old → IsAt front new

-- the line may follow each front for which the ledger stood, and it stands for the front with the line
abbrev pub TakesLine : Ledger → Ledger → Line → Type 0
TakesLine old new line = (front : Front) → IsAt front old → IsAt (line ∷ front) new

-- the same of an entry with the list that then belongs to it
abbrev pub GivesEntry : Ledger → Ledger → Entry → Type 0
GivesEntry old new entry = TakesLine old new (line_in new entry)

-- nothing is due at the instant of the front for which the ledger stands
abbrev pub IsDeciding : Ledger → Type 0
IsDeciding ledger = (front : Front) → IsAt front ledger → is_deciding (input_in ledger.input) front ≡ true

-- the train waits, no cause of it is known, and nothing bars its next move
abbrev pub IsNextTrain : Ledger → ℕ → Type 0
IsNextTrain ledger t = (front : Front) → IsAt front ledger → IsNext (dispatch_in ledger.input) ledger.input.plant front ledger.state.holders ledger.state.trains t

-- the hold line of the train is due: nothing is pending at the instant, each train that waits has a known cause, and it is
-- the first that was not told of its cause
pub record IsHoldDue (ledger : Ledger) (t : ℕ) : Type 0 where
  pub going : ledger.state.has_ended ≡ false
  pub unsettled : ledger.state.is_settled ≡ false
  pub deciding : IsDeciding ledger
  pub known : AreAllKnown ledger.input.plant ledger.state.trains
  pub train : t < length ledger.state.trains
  pub lacks : lacks_hold_line (state_of ledger.state.trains t) ≡ true
  pub first : (u : ℕ) → u < t → lacks_hold_line (state_of ledger.state.trains u) ≡ false

-- nothing bars the next move of the train, by what is kept
abbrev pub IsUnbarred : Ledger → ℕ → Type 0
IsUnbarred ledger t =
    bar_by ledger.orders ledger.state.holders t (own_overlap ledger.input.plant t (state_of ledger.state.trains t).place)
    (claimed ledger.input.plant t (state_of ledger.state.trains t).place) ≡ None

-- nothing bars the next moves of the trains that wait without a known cause
abbrev pub AreUnbarred : Ledger → Type 0
AreUnbarred ledger = (t : ℕ) → t < length ledger.state.trains → is_untried (state_of ledger.state.trains t) ≡ true → IsUnbarred ledger t

-- the line of the entry continues each run front at which the policy in force chooses the train
abbrev pub ContinuesRun : Ledger → Ledger → ℕ → Entry → Type 0
ContinuesRun old new t entry = (front : Front) (seats : List Seat) → IsAt front old
    → IsTrue (is_run (input_in old.input) seats front) → is_chosen (input_in old.input) seats front t ≡ true
    → IsTrue (is_run (input_in old.input) seats (line_in new entry ∷ front))

-- the entry is the admission of the train's next move, behind so many
pub record IsAdmissionOf (t place : ℕ) (entry : Entry) : Type 0 where
  pub note : Note
  pub what : entry.what ≡ what.Admit t (suc place) note

-- an entry that is neither an admission nor a hold line
abbrev pub IsOther : Entry → Type 0
IsOther entry = (is_admission entry.what ≡ false) × (is_hold entry.what ≡ false)

-- the line may follow each front for which the ledger stands, and is neither an admission nor a hold line
pub record IsNextLine (ledger : Ledger) (line : Line) : Type 0 where
  pub kind : IsOther line.entry
  pub lawful : (front : Front) → IsAt front ledger → is_lawful (input_in ledger.input) (line ∷ front) ≡ true

-- all that waits was told why, no list belongs to the last line, and the ledger stands as before
abbrev pub IsSettled : Ledger → Ledger → Type 0
IsSettled old new = (new.state.has_ended ≡ false) × (new.state.is_settled ≡ true) × (new.listed ≡ listed.Nothing) × StandsAsBefore old new

-- that no list is known is the cause of the train now: one waiting train less has no known cause, and the ledger stands as before
abbrev pub HasTried : Ledger → Ledger → ℕ → Type 0
HasTried old new t = (untried new.state.trains < untried old.state.trains) × StandsAsBefore old new
    × (new.state.trains ≡ set old.state.trains t (record (state_of old.state.trains t) { known = Some NoList }))

-- some train could be admitted at the instant of the front for which the ledger stands
abbrev pub CouldGo : Ledger → Type 0
CouldGo ledger = (front : Front) → IsAt front ledger
    → (is_deciding (input_in ledger.input) front ≡ true) × (t : ℕ) × (could_go (input_in ledger.input) front t ≡ true)

-- the line may not follow the front for which the ledger stands, and this is the law that it breaks
abbrev pub IsRefused : Ledger → Line → ℕ → Type 0
IsRefused ledger line law = (front : Front) → IsAt front ledger
    → (may_follow (input_in ledger.input) front line ≡ false) × (law ≡ broken_law (input_in ledger.input) front line)

-- the ledger stands for the front, and this says whether its last line is a hold line
abbrev pub IsAtWith : Bool → Ledger → Front → Type 0
IsAtWith after_hold ledger front = IsAt front ledger × (after_hold ≡ has_held front)

-- the ledger stands for some front of which this says whether its last line is a hold line
pub record IsSomewhereWith (after_hold : Bool) (ledger : Ledger) : Type 0 where
  pub front : Front
  pub at : IsAtWith after_hold ledger front

-- the line may follow each such front for which the ledger stood, and it stands for the front with the line
abbrev pub TakesLineWith : Bool → Ledger → Ledger → Line → Type 0
TakesLineWith after_hold old new line = (front : Front) → IsAtWith after_hold old front → IsAt (line ∷ front) new

-- the line may not follow each such front for which the ledger stands, and this is the law that it breaks
abbrev pub IsRefusedWith : Bool → Ledger → Line → ℕ → Type 0
IsRefusedWith after_hold ledger line law = (front : Front) → IsAtWith after_hold ledger front
    → (may_follow (input_in ledger.input) front line ≡ false) × (law ≡ broken_law (input_in ledger.input) front line)

-- nothing is due at the instant of a front for which the ledger stands, and nothing but a list is wanting for the train's next move
pub record IsAdmissibleNow (ledger : Ledger) (t : ℕ) : Type 0 where
  pub front : Front
  pub at : IsAt front ledger
  pub deciding : is_deciding (input_in ledger.input) front ≡ true
  pub admissible : IsAdmissible (dispatch_in ledger.input) ledger.input.plant front ledger.state.holders ledger.state.trains t

-- the front for which the ledger stands has ended
abbrev pub IsEnded : Ledger → Type 0
IsEnded ledger = (front : Front) → IsAt front ledger → has_ended front ≡ true

-- the front for which the ledger stands has not ended, and where no line follows this is the law that is broken
abbrev pub IsUnended : Ledger → ℕ → Type 0
IsUnended ledger law = (front : Front) → IsAt front ledger
    → (has_ended front ≡ false) × (law ≡ missing_law (input_in ledger.input) front)

-- a list brings every train inside to its exit after the train's next move, which the places have made
pub record HasList (front : Front) (old new : Ledger) (t : ℕ) (note : Note) : Type 0 where
  pub noted : IsNoted (moves_of old.input.plant) old.input.plant.tables.depth (places old.input.plant front) (kept old.input.plant front) t note new.kept.trains
  pub positions : new.places.positions ≡ after (places old.input.plant front) t
  pub room : length new.places.owners ≡ SECTIONS
  pub counted : new.places.played < 2 ^ 64
  pub told : (x u : ℕ) → (get_or new.places.owners x None ≡ Some u) ↔ IsTrue (holds (moves_of old.input.plant) new.places.positions u x)
  pub list_room : sum_below (moves old.input.plant) (trains old.input.plant) ≤ new.kept.room
  pub searcher : IsSearcherFor (moves_of old.input.plant) new.searcher
  pub failures : AreFailures (moves_of old.input.plant) old.input.plant.tables.depth new.places.positions new.failures

-- the list that belongs to the line of an admission
abbrev pub list_with : Note → Listed
list_with Fresh = listed.Kept
list_with Pulled = listed.Nothing
list_with Appended = listed.Nothing

-- the line of an entry with this list
abbrev pub line_with : Entry → List ℕ → Line
line_with entry list = record { entry = entry; trains = list }

-- the line of an admission; only a fresh one brings its list
abbrev pub admission : ℕ → ℕ → ℕ → Note → List ℕ → Line
admission at t m note list = admit_line at t m note list

-- the train is stopped, or one of these sections is closed, by what is kept
abbrev pub is_forbidden_by : Told → ℕ → List ℕ → Bool
is_forbidden_by told t sections = is_some (stop_in told t) || is_some (closed_in told sections)

-- the train waits, and this is its next move
abbrev pub is_next_move : List TrainState → ℕ → ℕ → Bool
is_next_move states t m = (state_of states t).waits && (m == suc (state_of states t).place)

-- the train waits at this instant, this is its next move, and no hold line stands before in the round
abbrev pub is_in_place : Ledger → ℕ → ℕ → ℕ → Bool → Bool
is_in_place ledger at t m after_hold = (at == ledger.state.instant) && not (is_due_now ledger.state)
    && is_next_move ledger.state.trains t m && not after_hold

-- places and kept list are those after an admission of the train with this note and list
pub record HasGiven (front : Front) (old new : Ledger) (t : ℕ) (note : Note) (list : List ℕ) : Type 0 where
  pub list_is : new.kept.trains ≡ given_list (moves_of old.input.plant) (kept old.input.plant front) t note list
  pub positions : new.places.positions ≡ after (places old.input.plant front) t
  pub room : length new.places.owners ≡ SECTIONS
  pub counted : new.places.played < 2 ^ 64
  pub told : (x u : ℕ) → (get_or new.places.owners x None ≡ Some u) ↔ IsTrue (holds (moves_of old.input.plant) new.places.positions u x)
  pub list_room : sum_below (moves old.input.plant) (trains old.input.plant) ≤ new.kept.room
  pub failures : AreFailures (moves_of old.input.plant) old.input.plant.tables.depth new.places.positions new.failures

-- of these trains, those of the line that says this: of an admission a fresh list alone
abbrev pub trains_taken : What → List ℕ → List ℕ
trains_taken (what.Admit t m note) list = list_for note list
trains_taken _ list = list

-- the line of an entry that is taken with this list
abbrev pub line_taken : Entry → List ℕ → Line
line_taken entry list = record { entry = entry; trains = trains_taken entry.what list }
