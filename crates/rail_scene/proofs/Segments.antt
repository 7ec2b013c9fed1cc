-- The tests of one segment before those of the next.
use Rattle.std.proofs.Common.{◌≡◌, List, ◌++◌, Some, None, Result, Ok, Err, ap, ◌∙◌}
use Rattle.std.specs.Result.{OnOk, IfErr}
use Rattle.std.specs.Option.{option_or}
use Rattle.rail_base.specs.declared.refusals.Fault.{Fault}
use Rattle.rail_base.specs.declared.refusals.Fault.TheVariants as fault
use Rattle.rail_base.specs.declared.refusals.Refusal.{Refusal}
use Rattle.rail_track.specs.declared.section.NetFault.{NetFault}
use Rattle.rail_track.specs.declared.section.NetFault.TheVariants.{Refused, OutOfMemory}
use Rattle.rail_base.specs.FirstRefusals.{Test, first_failing}
use Rattle.rail_track.specs.NetFaults.{Answers}
use Rattle.rail_base.proofs.CallerLemmas.{first_failing-append}
use Rattle.rail_base.specs.Refusals.{AnswersFirst}

-- where the first segment passes, the next decides
pub passed_on : {R : Type 0} (ts us : List (Test R)) → first_failing ts ≡ None → first_failing (ts ++ us) ≡ first_failing us
passed_on ts us none = first_failing-append ts us ∙ ap (λ o. option_or o (first_failing us)) none

-- where it fails, it decides
pub stopped : {R : Type 0} (ts us : List (Test R)) (answer : R) → first_failing ts ≡ Some answer → first_failing (ts ++ us) ≡ Some answer
stopped ts us answer is = first_failing-append ts us ∙ ap (λ o. option_or o (first_failing us)) is

pub both_passed : {R : Type 0} (ts us : List (Test R)) → first_failing ts ≡ None → first_failing us ≡ None → first_failing (ts ++ us) ≡ None
both_passed ts us a b = passed_on ts us a ∙ b

-- the same of faults
pub answers_before : (ts us : List (Test NetFault)) (f : NetFault) → Answers (first_failing ts) f → Answers (first_failing (ts ++ us)) f
answers_before ts us (Refused reason step) is = stopped ts us (Refused reason step) is
answers_before ts us OutOfMemory is = tt

pub answers_after : (ts us : List (Test NetFault)) (f : NetFault) → first_failing ts ≡ None → Answers (first_failing us) f → Answers (first_failing (ts ++ us)) f
answers_after ts us (Refused reason step) none is = passed_on ts us none ∙ is
answers_after ts us OutOfMemory none is = tt

pub scene_before : (ts us : List (Test Refusal)) (f : Fault) → AnswersFirst (first_failing ts) f → AnswersFirst (first_failing (ts ++ us)) f
scene_before ts us (fault.Refused refusal) is = stopped ts us refusal is
scene_before ts us fault.OutOfMemory is = tt

pub scene_after : (ts us : List (Test Refusal)) (f : Fault) → first_failing ts ≡ None → AnswersFirst (first_failing us) f → AnswersFirst (first_failing (ts ++ us)) f
scene_after ts us (fault.Refused refusal) none is = passed_on ts us none ∙ is
scene_after ts us fault.OutOfMemory none is = tt

-- what is answered of the second segment is answered of both, where the first passes
pub result_after : {T : Type 0} (ts us : List (Test Refusal)) (r : Result T Fault) → first_failing ts ≡ None
    → OnOk r (first_failing us ≡ None) → IfErr r (AnswersFirst (first_failing us))
    → OnOk r (first_failing (ts ++ us) ≡ None) × IfErr r (AnswersFirst (first_failing (ts ++ us)))
result_after ts us (Ok x) none accepted refused = (both_passed ts us none accepted, tt)
result_after ts us (Err f) none accepted refused = (tt, scene_after ts us f none refused)

pub net_after : {T : Type 0} (ts us : List (Test NetFault)) (r : Result T NetFault) → first_failing ts ≡ None
    → OnOk r (first_failing us ≡ None) → IfErr r (Answers (first_failing us))
    → OnOk r (first_failing (ts ++ us) ≡ None) × IfErr r (Answers (first_failing (ts ++ us)))
net_after ts us (Ok x) none accepted refused = (both_passed ts us none accepted, tt)
net_after ts us (Err f) none accepted refused = (tt, answers_after ts us f none refused)
