-- What is done for a form, put together from what its call promises.
use Rattle.std.proofs.Common.{◌≡◌, ℕ, List, subst, sym}
use Rattle.rail_io.specs.declared.shelf.Shelf.{Ghosts as ShelfGhosts}
use Rattle.rail_io.specs.declared.sink.Sink.{Ghosts as SinkGhosts}
use Rattle.rail_command_line.proofs.CallerLemmas.{TellsOneTime, of_all_asked}
use Rattle.rail_command_line.specs.Forms.{IsAsked, Values, files_of}
use Rattle.rail_command_line.specs.declared.forms.Form.{Form}
use Rattle.rail_policy.specs.Seats.{DeskSeat}
use Rattle.rail_forms.specs.declared.status.Status.{Status}
use Rattle.rail_forms.specs.Promises.{KeepsPromise}
use Rattle.rail_forms.specs.Terms.{AreComplete}
use Rattle.rail_top.specs.Forms.{AnswersForm, AreRefusedAlone, IsDoneFor, terms_of}

pub done_for : {S O : Type 0} (shelf : ShelfGhosts S) (sink : SinkGhosts O) (form : Form) (values : Values form) (deck : List DeskSeat) (before now : S) (out_before out_now : O) (status : Status)
    → AreComplete (terms_of form) → KeepsPromise shelf sink (files_of form values) before now out_before out_now status
    → AnswersForm form values deck (shelf.told before) (sink.written out_before) (sink.written out_now) status
    → (AreRefusedAlone form values → now ≡ before) → IsDoneFor shelf sink form values deck before now out_before out_now status
done_for shelf sink form values deck before now out_before out_now status complete kept answer unread = record {
  kept = kept;
  answer = answer;
  complete = λ accepted no_read no_write. complete values deck (shelf.told before) (sink.written out_before) (sink.written out_now) status answer accepted
      (λ is. no_read (kept.reads.read_fault is).rose) (λ is. no_write (kept.writes.write_fault is));
  unread = unread;
}

-- what is done for what the words ask for is done for all that they ask for
pub all_done : {S O : Type 0} (shelf : ShelfGhosts S) (sink : SinkGhosts O) (form : Form) (values : Values form) (words : List (List ℕ)) (deck : List DeskSeat) (before now : S) (out_before out_now : O)
    (end status : Status) → status ≡ end → TellsOneTime → IsAsked form values words → IsDoneFor shelf sink form values deck before now out_before out_now end
    → (other : Form) (others : Values other) → IsAsked other others words → IsDoneFor shelf sink other others deck before now out_before out_now status
all_done shelf sink form values words deck before now out_before out_now end status is one asked done =
    of_all_asked (λ f vs. IsDoneFor shelf sink f vs deck before now out_before out_now status) form values words one asked
    (subst (IsDoneFor shelf sink form values deck before now out_before out_now) (sym is) done)
