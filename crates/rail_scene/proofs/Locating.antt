-- The first failing test of a table, located at its part and number.
use Rattle.std.proofs.Common.{◌≡◌, ℕ, Bool, true, false, cond, List, [], ◌∷◌, ◌++◌, Some, None, refl}
use Rattle.rail_base.specs.declared.refusals.Part.{Part}
use Rattle.rail_base.specs.declared.refusals.Reason.{Reason}
use Rattle.rail_track.specs.declared.section.NetFault.{NetFault}
use Rattle.rail_track.specs.declared.section.NetFault.TheVariants.{Refused, OutOfMemory}
use Rattle.rail_base.specs.FirstRefusals.{Test, first_failing}
use Rattle.rail_track.specs.NetFaults.{Answers}
use Rattle.rail_base.specs.Refusals.{AnswersFirst}
use Rattle.rail_scene.specs.Order.{located, located_as, item_number, fault_at}

none_as : (part : Part) (n : ℕ) (fails : Bool) (answer : NetFault) (ts : List (Test NetFault)) → (first_failing ts ≡ None → first_failing (located part n ts) ≡ None)
    → cond fails (Some answer) (first_failing ts) ≡ None → first_failing (located_as part n fails answer ++ located part n ts) ≡ None
none_as part n true answer ts rest none = cc
none_as part n false (Refused reason step) ts rest none = rest none
none_as part n false OutOfMemory ts rest none = rest none

pub located_none : (part : Part) (n : ℕ) (ts : List (Test NetFault)) → first_failing ts ≡ None → first_failing (located part n ts) ≡ None
located_none part n [] none = refl
located_none part n (t ∷ ts) none = none_as part n t.fails t.answer ts (located_none part n ts) none

module _ (part : Part) (n : ℕ) (reason : Reason) (step : ℕ) where
  some_as : (fails : Bool) (answer : NetFault) (ts : List (Test NetFault))
      → (first_failing ts ≡ Some (Refused reason step) → first_failing (located part n ts) ≡ Some record { reason = reason; part = part; item = item_number n; step = step })
      → cond fails (Some answer) (first_failing ts) ≡ Some (Refused reason step) → first_failing (located_as part n fails answer ++ located part n ts) ≡ Some record { reason = reason; part = part; item = item_number n; step = step }
  some_as true (Refused reason' step') ts rest is = cc
  some_as true OutOfMemory ts rest is = cc
  some_as false (Refused reason' step') ts rest is = rest is
  some_as false OutOfMemory ts rest is = rest is

  pub located_some : (ts : List (Test NetFault)) → first_failing ts ≡ Some (Refused reason step) → first_failing (located part n ts) ≡ Some record { reason = reason; part = part; item = item_number n; step = step }
  located_some [] is = cc
  located_some (t ∷ ts) is = some_as t.fails t.answer ts (located_some ts) is

-- a fault that answers the tests of a table answers them at its place
pub answers_located : (part : Part) (n : ℕ) (ts : List (Test NetFault)) (f : NetFault) → Answers (first_failing ts) f → AnswersFirst (first_failing (located part n ts)) (fault_at part (item_number n) f)
answers_located part n ts (Refused reason step) is = located_some part n reason step ts is
answers_located part n ts OutOfMemory is = tt
