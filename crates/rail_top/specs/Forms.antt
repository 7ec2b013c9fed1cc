-- What is answered to what the words of each form spell, and when a command is done.
use Rattle.std.specs.Prelude.{List, Option, ℕ, ◌≡◌, ◌⊎◌}
use Rattle.rail_policy.specs.Seats.{DeskSeat}
use Rattle.rail_io.specs.FaultCounts.{Rose}
use Rattle.rail_io.specs.declared.shelf.Shelf.{Ghosts as ShelfGhosts}
use Rattle.rail_io.specs.declared.sink.Sink.{Ghosts as SinkGhosts}
use Rattle.rail_command_line.specs.Forms.{Values, files_of}
use Rattle.rail_command_line.specs.declared.forms.Form.{Form}
use Rattle.rail_command_line.specs.declared.forms.Form.TheVariants as form
use Rattle.rail_forms.specs.declared.status.Status.{Status}
use Rattle.rail_forms.specs.declared.status.Status.TheVariants.{OutOfMemory}
use Rattle.rail_forms.specs.Answers.{Told}
use Rattle.rail_forms.specs.Promises.{KeepsPromise}
use Rattle.rail_forms.specs.Terms.{Terms}
use Rattle.rail_forms.specs.Capacity.{capacity_terms}
use Rattle.rail_forms.specs.Checks.{check_terms}
use Rattle.rail_forms.specs.Edits.{edit_terms}
use Rattle.rail_forms.specs.Infra.{infra_terms}
use Rattle.rail_forms.specs.Insertions.{insert_terms}
use Rattle.rail_forms.specs.Migration.{migrate_terms}
use Rattle.rail_forms.specs.Plays.{play_terms}
use Rattle.rail_forms.specs.Reports.{report_terms}
use Rattle.rail_forms.specs.Reroutes.{reroute_terms}
use Rattle.rail_forms.specs.Runs.{run_terms}
use Rattle.rail_forms.specs.SceneTexts.{scene_terms}
use Rattle.rail_forms.specs.Snapshots.{resume_terms, save_terms}
use Rattle.rail_forms.specs.Stairs.{stairs_terms}
use Rattle.rail_forms.specs.Summaries.{gen_terms}

-- the terms of each form
abbrev pub terms_of : (form : Form) → Terms (Values form)
terms_of form.Run = run_terms
terms_of form.Infra = infra_terms
terms_of form.Play = play_terms
terms_of form.Check = check_terms
terms_of form.Stairs = stairs_terms
terms_of form.Report = report_terms
terms_of form.Capacity = capacity_terms
terms_of form.Insert = insert_terms
terms_of form.Edit = edit_terms
terms_of form.Migrate = migrate_terms
terms_of form.Reroute = reroute_terms
terms_of form.Save = save_terms
terms_of form.Resume = resume_terms
terms_of form.Scene = scene_terms
terms_of form.Gen = gen_terms

-- what is answered to the values of the form, with this deck
abbrev pub AnswersForm : (form : Form) → Values form → List DeskSeat → Told → Option (List ℕ) → Option (List ℕ) → Status → Type 0
AnswersForm form values deck told before now status = (terms_of form).answers values deck told before now status

-- the values are refused before any file is read
abbrev pub AreRefusedAlone : (form : Form) → Values form → Type 0
AreRefusedAlone form values = (terms_of form).alone values

-- nothing is refused in the values of the form: the bytes of the files are told, and accepted
abbrev pub IsAcceptedInput : (form : Form) → Values form → List DeskSeat → Told → Type 0
IsAcceptedInput form values deck told = (terms_of form).accepted values deck told

-- a command of the form is done
abbrev pub IsDone : Form → Status → Type 0
IsDone form status = (terms_of form).done status

-- where the input is accepted and no count of faults rose, the command was done, or memory was wanting
abbrev pub IsComplete : {S O : Type 0} → ShelfGhosts S → SinkGhosts O → Type 0 → Type 0 → S → S → O → O → Status → Type 0
IsComplete shelf sink accepted done before now out_before out_now status = accepted
    → (Rose (shelf.faults before) (shelf.faults now) → ⊥) → (Rose (sink.faults out_before) (sink.faults out_now) → ⊥)
    → done ⊎ (status ≡ OutOfMemory)

-- what is done for the values of the form: the promise of every form is kept for its files, the answer is that of the form, it
-- is done where its input is accepted, and no file is read where all is refused before any
pub record IsDoneFor {S O : Type 0} (shelf : ShelfGhosts S) (sink : SinkGhosts O) (form : Form) (values : Values form) (deck : List DeskSeat)
    (before now : S) (out_before out_now : O) (status : Status) : Type 0 where
  pub kept : KeepsPromise shelf sink (files_of form values) before now out_before out_now status
  pub answer : AnswersForm form values deck (shelf.told before) (sink.written out_before) (sink.written out_now) status
  pub complete : IsComplete shelf sink (IsAcceptedInput form values deck (shelf.told before)) (IsDone form status) before now out_before out_now status
  pub unread : AreRefusedAlone form values → now ≡ before
