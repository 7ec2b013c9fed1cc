-- What is left of what stops the other trains, once a train has gone on.
use Rattle.std.specs.Prelude.{◌≡◌, ◌≢◌, ℕ, ◌+◌, ◌*◌, ◌<◌, ◌&&◌, ◌==◌, ◌⊎◌, not, List, Option, None, Some, set, IsTrue}
use Rattle.rail_rules.specs.Numbers.{is_in}
use Rattle.rail_rules.specs.Moves.{Moves}
use Rattle.rail_rules.specs.Places.{holds, is_inside, place_of}
use Rattle.rail_sets.specs.Counts.{Columns}
use Rattle.rail_sets.specs.Sets.{has}
use Rattle.rail_consequence.specs.Needs.{count_of, needs_from, needs_left, one_if}
use Rattle.rail_consequence.specs.declared.lookahead.Lookahead.{Lookahead}
use Rattle.rail_consequence.specs.declared.notes.Stop.{Stop}
use Rattle.rail_consequence.specs.declared.notes.Stop.TheVariants.{Next, Later}
use Rattle.rail_consequence.specs.Searches.{HasNoSafeLegOf}
use Rattle.rail_consequence.specs.Stops.{IsTakenByOther, IsUntouched, section_of, stop_of}

-- another train is inside
pub record HasOther (plan : Moves) (s : List ℕ) (t : ℕ) : Type 0 where
  pub train : ℕ
  pub differs : train ≢ t
  pub inside : IsTrue (is_inside plan s train)

-- another train holds a section of the train's move from the place
pub record IsBarred (plan : Moves) (s : List ℕ) (u place : ℕ) : Type 0 where
  pub section : ℕ
  pub needed : IsTrue (is_in section (plan.claim u place))
  pub taken : IsTakenByOther plan s u section

-- more trains are counted for the section than the one, and the other one where it needs it no more from the place on
abbrev pub IsSharedThen : Moves → List ℕ → Columns → ℕ → ℕ → ℕ → ℕ → Type 0
IsSharedThen plan s counts t p u x =
    one_if (needs_left plan u (place_of s u) x) + one_if (needs_left plan t (place_of s t) x && not (needs_from plan t p x)) < count_of counts x

-- the set has, as far as the words go, the sections that the train and one other need, and it no more once it has gone on to the place; they fall to the other
abbrev pub HasFalls : Moves → List ℕ → Columns → ℕ → ℕ → ℕ → List ℕ → Type 0
HasFalls plan s counts width t p fell = (x : ℕ) → x < 64 * width
    → has fell x ≡ (needs_from plan t (place_of s t) x && not (needs_from plan t p x) && (count_of counts x == 2))

-- as far as the words go, the sets are those of the places where the train has gone on to the place: each section of the first is taken by a train, and each of the second is needed by two or more
pub record IsLookahead (plan : Moves) (s : List ℕ) (counts : Columns) (width t p : ℕ) (ahead : Lookahead) : Type 0 where
  pub taken : (x : ℕ) → x < 64 * width → IsTrue (has ahead.taken x) → (v : ℕ) × IsTrue (holds plan (set s t p) v x)
  pub shared : (x u : ℕ) → x < 64 * width → IsTrue (has ahead.shared x) → IsSharedThen plan s counts t p u x

-- another train is inside, and none that is has a safe leg once the train has gone on to the place
pub record FreesNobody (plan : Moves) (s : List ℕ) (t p : ℕ) : Type 0 where
  pub other : HasOther plan s t
  pub none : (u : ℕ) → u ≢ t → HasNoSafeLegOf plan (set s t p) u

-- two trains are inside
pub record AreSeveral (plan : Moves) (s : List ℕ) : Type 0 where
  pub one : ℕ
  pub inside : IsTrue (is_inside plan s one)
  pub beside : HasOther plan s one

-- the train waits for this one, which holds a section that is noted to stop it; or for none, since nothing is noted of it
abbrev pub WaitsFor : Moves → List ℕ → List Stop → ℕ → Option ℕ → Type 0
WaitsFor plan s stops u None = section_of (stop_of stops u) ≡ None
WaitsFor plan s stops u (Some h) = (x : ℕ) × (section_of (stop_of stops u) ≡ Some x) × IsTrue (holds plan s h x)

-- the one train waits for none, or for the other
abbrev pub MayWaitFor : Moves → List ℕ → List Stop → ℕ → ℕ → Type 0
MayWaitFor plan s stops u t = WaitsFor plan s stops u None ⊎ WaitsFor plan s stops u (Some t)

-- a section of its next move is noted to stop the train
abbrev pub IsNextStop : List Stop → ℕ → Type 0
IsNextStop stops t = (x : ℕ) × (stop_of stops t ≡ Next x)

-- the train can't make its next move; or this one, where it waits for it, has no safe leg even where it has gone out
abbrev pub IsNotAwaited : Moves → List ℕ → List Stop → ℕ → ℕ → Type 0
IsNotAwaited plan s stops t u = u ≢ t → IsTrue (is_inside plan s u) → MayWaitFor plan s stops u t
    → IsNextStop stops t ⊎ HasNoSafeLegOf plan (set s t (plan.moves t)) u

-- none of the sections that fall where the train goes on to the place is needed by a train of the list that a later move stops, or that train has no safe leg then
pub record FallsInVain (plan : Moves) (s : List ℕ) (counts : Columns) (width : ℕ) (stops : List Stop) (inside : List ℕ) (t p : ℕ) : Type 0 where
  pub fell : List ℕ
  pub falls : HasFalls plan s counts width t p fell
  pub vain : (u x : ℕ) → IsTrue (is_in u inside) → u ≢ t → stop_of stops u ≡ Later x
      → IsUntouched plan s fell u ⊎ HasNoSafeLegOf plan (set s t p) u
