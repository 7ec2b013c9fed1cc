-- What is promised of the files where none is named.
use Rattle.std.proofs.Common.{◌≡◌, true, not, [], refl, sym, ap, ◌∙◌, arith}
use Rattle.std.proofs.lemmas.Bool.{false≢true}
use Rattle.rail_io.specs.declared.shelf.Shelf.{Ghosts}
use Rattle.rail_io.specs.declared.sink.Sink.{Ghosts as SinkGhosts}
use Rattle.rail_forms.specs.declared.status.Status.{Status}
use Rattle.rail_forms.specs.Promises.{KeepsPromise, WritesAnswer, is_of_bytes}

-- what is promised where no file is named, and nothing came of one
pub keeps_unread : {S O : Type 0} (shelf : Ghosts S) (sink : SinkGhosts O) (before : S) (out_before out_now : O) (status : Status)
    → is_of_bytes status ≡ true → WritesAnswer sink out_before out_now status → KeepsPromise shelf sink [] before before out_before out_now status
keeps_unread shelf sink before out_before out_now status of_bytes writes = record {
  reads = record {
    read_fault = λ is. absurd (false≢true (sym (ap is_of_bytes is) ∙ of_bytes));
    too_large = λ refusal is of_file. absurd (false≢true (ap not (sym of_file) ∙ sym (ap is_of_bytes is) ∙ of_bytes));
    read = λ comes. tt;
    unread = λ empty. refl;
    usage_unread = λ is. refl;
    told_stays = refl;
    faults_never_fall = omega arith;
  };
  writes = writes;
  in_table = λ is. false≢true (sym (ap is_of_bytes is) ∙ of_bytes);
}
