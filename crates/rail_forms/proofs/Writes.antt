-- Texts that are written one after another.
use Rattle.std.proofs.Common.{◌≡◌, ◌≤◌, Result, Ok, Err, IsErrAnd, refl, sym, ap, ◌∙◌, subst, arith}
use Rattle.std.proofs.lemmas.Bool.{false≢true}
use Rattle.rail_base.specs.declared.refusals.Fault.{Fault}
use Rattle.rail_base.specs.declared.refusals.Fault.TheVariants as fault
use Rattle.rail_io.specs.FaultCounts.{Rose}
use Rattle.rail_io.specs.declared.sink.Sink.{Ghosts}
use Rattle.rail_forms.specs.declared.status.Status.{Status}
use Rattle.rail_forms.specs.declared.status.Status.TheVariants.{Done, OutOfMemory, WriteFault}
use Rattle.rail_forms.specs.Answers.{status_of}
use Rattle.rail_forms.specs.Promises.{WritesAnswer, ended, may_write}

-- a command that ends because a write failed ends with a fault of writing
pub ended-failed : (end : Result (Unit {0}) Status) → IsErrAnd end (λ status. status ≡ WriteFault) → ended end ≡ WriteFault
ended-failed (Ok done) is = absurd is
ended-failed (Err status) is = is

-- what is promised of the output where a write failed
pub fault_written : {O : Type 0} (sink : Ghosts O) (before now : O) (status : Status) → status ≡ WriteFault → Rose (sink.faults before) (sink.faults now) → sink.faults before ≤ sink.faults now
    → WritesAnswer sink before now status
fault_written sink before now status is rose never_fall = record {
  write_fault = λ _. rose;
  unwritten = λ none. absurd (false≢true (sym none ∙ ap may_write is));
  faults_never_fall = never_fall;
}

-- what is promised of the output where all was written
pub all_written : {O : Type 0} (sink : Ghosts O) (before now : O) → sink.faults before ≤ sink.faults now → WritesAnswer sink before now Done
all_written sink before now never_fall = record {
  write_fault = λ is. (cc);
  unwritten = λ none. absurd (false≢true (sym none));
  faults_never_fall = never_fall;
}

-- what is promised of the output where memory was not found before a byte was written
pub none_written : {O : Type 0} (sink : Ghosts O) (before : O) (status : Status) → status ≡ OutOfMemory → WritesAnswer sink before before status
none_written sink before status is = subst (WritesAnswer sink before before) (sym is) (record {
  write_fault = λ is. (cc);
  unwritten = λ none. refl;
  faults_never_fall = omega arith;
})

-- nothing is written where an error of a call comes before a byte was
pub unwritten_fault : {O : Type 0} (sink : Ghosts O) (before : O) (why : Fault) (status : Status) → status ≡ status_of why → WritesAnswer sink before before status
unwritten_fault sink before why status is = subst (WritesAnswer sink before before) (sym is) (of why)
  where
    of : (why : Fault) → WritesAnswer sink before before (status_of why)
    of (fault.Refused refusal) = record {
      write_fault = λ same. (cc);
      unwritten = λ none. refl;
      faults_never_fall = omega arith;
    }
    of fault.OutOfMemory = none_written sink before OutOfMemory refl
