-- Texts that are written one after another.
use Rattle.std.proofs.Common.{List, ℕ, [], ◌++◌, Result, Ok, Err, IsErr, arith}
use Rattle.std.proofs.lemmas.Bool.{false≢true}
use Rattle.rail_io.specs.declared.sink.Sink.{Ghosts}
use Rattle.rail_io.specs.declared.sink.Failed.{Failed}
use Rattle.rail_io.proofs.CallerLemmas.{Adds-append, Adds-same, AddsPrefix-append, AddsPrefix-more}
use Rattle.rail_text.specs.Writes.{WritesText}

-- nothing was written yet
pub none_written : {O : Type 0} (sink : Ghosts O) (out : O) → WritesText sink out out [] (Ok tt)
none_written sink out = record {
  adds = Adds-same (sink.written out);
  failed_adds_prefix = tt;
  failed_rose = tt;
  faults_never_fall = omega arith;
}

-- a text was written, and then another one
pub both_written : {O : Type 0} (sink : Ghosts O) (before between now : O) (first second : List ℕ) (result : Result (Unit {0}) Failed)
    → WritesText sink before between first (Ok tt) → WritesText sink between now second result → WritesText sink before now (first ++ second) result
both_written sink before between now first second (Ok done) one other = record {
  adds = Adds-append one.adds other.adds;
  failed_adds_prefix = tt;
  failed_rose = tt;
  faults_never_fall = omega (arith, one.faults_never_fall, other.faults_never_fall);
}
both_written sink before between now first second (Err failed) one other = record {
  adds = tt;
  failed_adds_prefix = AddsPrefix-append one.adds other.failed_adds_prefix;
  failed_rose = λ last. omega (arith, one.faults_never_fall, other.failed_rose last);
  faults_never_fall = omega (arith, one.faults_never_fall, other.faults_never_fall);
}

-- where the first text was not written to its end, a first part of both was
pub part_written : {O : Type 0} (sink : Ghosts O) (before now : O) (first second : List ℕ) (failed : Failed) (result : Result (Unit {0}) Failed) → IsErr result
    → WritesText sink before now first (Err failed) → WritesText sink before now (first ++ second) result
part_written sink before now first second failed (Ok done) is one = absurd (false≢true is)
part_written sink before now first second failed (Err other) is one = record {
  adds = tt;
  failed_adds_prefix = AddsPrefix-more second one.failed_adds_prefix;
  failed_rose = one.failed_rose;
  faults_never_fall = one.faults_never_fall;
}
