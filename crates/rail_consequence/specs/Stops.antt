-- Trains that have no safe leg, and what stops them.
use Rattle.std.specs.Prelude.{◌≡◌, ◌≢◌, ℕ, ◌<◌, ◌≤◌, false, List, Option, Some, None, get_or, length, IsTrue}
use Rattle.rail_rules.specs.Numbers.{is_in}
use Rattle.rail_rules.specs.Moves.{Moves, stand}
use Rattle.rail_rules.specs.Places.{place_of, is_inside, holds}
use Rattle.rail_rules.specs.Analysis.{is_leg, is_safe}
use Rattle.rail_sets.specs.Sets.{has}
use Rattle.rail_consequence.specs.Needs.{needs_left}
use Rattle.rail_consequence.specs.Searches.{HasNoSafeLegOf}
use Rattle.rail_consequence.specs.declared.analyst.closing.Look.{Look}
use Rattle.rail_consequence.specs.declared.analyst.closing.Look.TheVariants.{Leads, Stopped}
use Rattle.rail_consequence.specs.declared.notes.SearchNotes.{SearchNotes}
use Rattle.rail_consequence.specs.declared.notes.Stop.{Stop}
use Rattle.rail_consequence.specs.declared.notes.Stop.TheVariants.{Unknown, Free, Next, Later}

-- what is noted for the train
abbrev pub stop_of : List Stop → ℕ → Stop
stop_of stops u = get_or stops u Unknown

-- the section of a note
abbrev pub section_of : Stop → Option ℕ
section_of Unknown = None
section_of Free = None
section_of (Next x) = Some x
section_of (Later x) = Some x

-- another train holds the section
pub record IsTakenByOther (plan : Moves) (s : List ℕ) (t x : ℕ) : Type 0 where
  pub holder : ℕ
  pub other : holder ≢ t
  pub taken : IsTrue (holds plan s holder x)

-- the train, which does not stand on the section, needs it for a move that it has left, and no leg up to that move is safe
pub record IsBehind (plan : Moves) (s : List ℕ) (u x : ℕ) : Type 0 where
  pub apart : is_in x (stand plan u (place_of s u)) ≡ false
  pub place : ℕ
  pub from : place_of s u ≤ place
  pub below : place < plan.moves u
  pub needed : IsTrue (is_in x (plan.claim u place))
  pub unsafe : (p : ℕ) → place_of s u < p → p ≤ place → is_safe plan s (record { train = u; place = p }) ≡ false

-- the section stops the train, which is inside: another train holds it, the train needs it
-- for a move that it has left, and no leg up to that move is safe
pub record IsStopped (plan : Moves) (s : List ℕ) (u x : ℕ) : Type 0 where
  pub inside : IsTrue (is_inside plan s u)
  pub place : ℕ
  pub from : place_of s u ≤ place
  pub below : place < plan.moves u
  pub needed : IsTrue (is_in x (plan.claim u place))
  pub taken : IsTakenByOther plan s u x
  pub unsafe : (p : ℕ) → place_of s u < p → p ≤ place → is_safe plan s (record { train = u; place = p }) ≡ false

-- none of the sections that the train needs is in the set
abbrev pub IsUntouched : Moves → List ℕ → List ℕ → ℕ → Type 0
IsUntouched plan s fell u = (y : ℕ) → IsTrue (needs_left plan u (place_of s u) y) → has fell y ≡ false

-- what is noted of the train holds, whoever holds the section: its next move needs it; or a later one does and no leg up to there is safe, where none of the sections that the train needs fell
abbrev pub IsNoted : Moves → List ℕ → List ℕ → ℕ → Stop → Type 0
IsNoted plan s fell u Unknown = Unit {0}
IsNoted plan s fell u Free = Unit {0}
IsNoted plan s fell u (Next x) = IsTrue (is_in x (plan.claim u (place_of s u)))
IsNoted plan s fell u (Later x) = IsUntouched plan s fell u → IsBehind plan s u x

-- what is noted of each train inside does
pub record IsNotedTo (plan : Moves) (s : List ℕ) (notes : SearchNotes) : Type 0 where
  pub each : (u : ℕ) → IsTrue (is_inside plan s u) → IsNoted plan s notes.fell u (stop_of notes.stops u)
  pub none : notes.has_fallen ≡ false → (x : ℕ) → has notes.fell x ≡ false

-- what is noted of each train inside stops it, at its next move where that is noted
pub record IsSettled (plan : Moves) (s : List ℕ) (stops : List Stop) : Type 0 where
  pub stopped : (u x : ℕ) → IsTrue (is_inside plan s u) → section_of (stop_of stops u) ≡ Some x → IsStopped plan s u x
  pub next : (u x : ℕ) → IsTrue (is_inside plan s u) → stop_of stops u ≡ Next x → IsTrue (is_in x (plan.claim u (place_of s u)))

-- no leg of the train is safe, and what is noted of it stops it, if it is inside
pub record IsSettledTrain (plan : Moves) (s : List ℕ) (stops : List Stop) (t : ℕ) : Type 0 where
  pub none : HasNoSafeLegOf plan s t
  pub stopped : (x : ℕ) → IsTrue (is_inside plan s t) → section_of (stop_of stops t) ≡ Some x → IsStopped plan s t x

-- the trains of the list from an index on are settled
abbrev pub AreSettledFrom : Moves → List ℕ → List Stop → List ℕ → ℕ → Type 0
AreSettledFrom plan s stops trains from = (i : ℕ) → from ≤ i → i < length trains → IsSettledTrain plan s stops (get_or trains i 0)

-- the trains of the list before an index are settled
abbrev pub AreSettledBelow : Moves → List ℕ → List Stop → List ℕ → ℕ → Type 0
AreSettledBelow plan s stops trains end = (i : ℕ) → i < end → IsSettledTrain plan s stops (get_or trains i 0)

-- what a look at a train may note of it
abbrev pub ShowsStop : Moves → List ℕ → ℕ → Stop → Type 0
ShowsStop plan s t Unknown = ⊥
ShowsStop plan s t Free = ⊥
ShowsStop plan s t (Next x) = IsStopped plan s t x × IsTrue (is_in x (plan.claim t (place_of s t)))
ShowsStop plan s t (Later x) = IsStopped plan s t x

-- what looking at a train that is inside shows: a leg to the place is safe, or a section stops it
abbrev pub Shows : Moves → List ℕ → ℕ → Look → Type 0
Shows plan s t (Leads p) = IsTrue (is_leg plan s (record { train = t; place = p }))
    × IsTrue (is_safe plan s (record { train = t; place = p }))
Shows plan s t (Stopped stop) = ShowsStop plan s t stop
