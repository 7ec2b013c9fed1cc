-- A command whose input is accepted is done, unless a call failed or memory was wanting: for the terms of each form.
use Rattle.std.proofs.Common.{List, None, Option, Some, ℕ, ◌∙◌, ◌≡◌, ◌≢◌, ◌⊎◌, ap, inl, inr, refl, sym, ⊎_elim}
use Rattle.std.proofs.lemmas.Option.{none-some}
use Rattle.rail_base.specs.declared.intervals.Interval.{Interval}
use Rattle.rail_base.specs.declared.refusals.Refusal.{Refusal}
use Rattle.rail_policy.specs.Seats.{DeskSeat}
use Rattle.rail_capacity.specs.declared.compression.Window.{Window}
use Rattle.rail_command_line.specs.Forms.{Scenario}
use Rattle.rail_rules.specs.Numbers.{or_else}
use Rattle.rail_rules.specs.Orders.{Input}
use Rattle.rail_rules.specs.RunHistories.{Seat}
use Rattle.rail_forms.specs.declared.status.Status.{Status}
use Rattle.rail_forms.specs.declared.status.Status.TheVariants.{CheckedNo, Done, OutOfMemory, ReadFault, Refused, Usage, WriteFault}
use Rattle.rail_forms.specs.Answers.{IsAnswer, Told}
use Rattle.rail_forms.specs.Capacity.{capacity_terms}
use Rattle.rail_forms.specs.Checks.{AnswersCheck, IsAcceptedCheck, check_terms, done_with}
use Rattle.rail_forms.specs.Edits.{edit_terms}
use Rattle.rail_forms.specs.Infra.{infra_terms}
use Rattle.rail_forms.specs.Insertions.{IsNoPath, IsNoPathAmong, IsPathsAnswer, IsRefusedRun, insert_terms}
use Rattle.rail_forms.specs.Migration.{migrate_terms}
use Rattle.rail_forms.specs.Plays.{play_terms}
use Rattle.rail_forms.specs.Reports.{report_terms}
use Rattle.rail_forms.specs.Reroutes.{reroute_terms}
use Rattle.rail_forms.specs.Runs.{run_terms}
use Rattle.rail_forms.specs.Scenarios.{AnswersScenario, IsAcceptedScenario}
use Rattle.rail_forms.specs.SceneTexts.{scene_terms}
use Rattle.rail_forms.specs.Snapshots.{AnswersResume, IsAcceptedResume, resume_terms, save_terms}
use Rattle.rail_forms.specs.Stairs.{stairs_terms}
use Rattle.rail_forms.specs.Summaries.{gen_terms}
use Rattle.rail_forms.specs.Terms.{AreComplete}

-- where nothing is refused and no call failed, all is done, or memory is wanting
complete_answer : (first : Option Refusal) (whole part : Type 0) (status : Status) → IsAnswer first whole part status → first ≡ None
    → status ≢ ReadFault → status ≢ WriteFault → (status ≡ Done) ⊎ (status ≡ OutOfMemory)
complete_answer first whole part Done answer none read write = inl refl
complete_answer first whole part Usage answer none read write = absurd answer
complete_answer first whole part (Refused refusal) answer none read write = absurd (none-some refusal (sym none ∙ answer))
complete_answer first whole part ReadFault answer none read write = absurd (read refl)
complete_answer first whole part WriteFault answer none read write = absurd (write refl)
complete_answer first whole part OutOfMemory answer none read write = inr refl
complete_answer first whole part (CheckedNo line law) answer none read write = absurd answer

-- the same of a scenario
complete_scenario : (refusal : Option Refusal → Input → Option Refusal) (whole part : Input → List Seat → Type 0) (scenario : Scenario) (deck : List DeskSeat) (told : Told) (status : Status)
    → AnswersScenario refusal whole part scenario deck told status → IsAcceptedScenario refusal deck told scenario
    → status ≢ ReadFault → status ≢ WriteFault → (status ≡ Done) ⊎ (status ≡ OutOfMemory)
complete_scenario refusal whole part scenario deck told status answer ok read write =
    complete_answer _ _ _ status (answer.all ok.bytes ok.calls ok.orders ok.scene_told ok.calls_told ok.orders_told) ok.fine read write

-- a run whose snapshot is accepted is resumed, unless a call failed or memory is wanting
complete_resume : (scenario : Scenario) (snapshot : List ℕ) (deck : List DeskSeat) (told : Told) (before now : Option (List ℕ)) (status : Status)
    → AnswersResume scenario snapshot deck told before now status → IsAcceptedResume scenario snapshot deck told
    → status ≢ ReadFault → status ≢ WriteFault → (status ≡ Done) ⊎ (status ≡ OutOfMemory)
complete_resume scenario snapshot deck told before now status answer ok read write =
    let all = answer.all ok.bytes ok.calls ok.orders ok.text ok.scene_told ok.calls_told ok.orders_told ok.snapshot_told in
    complete_answer _ _ _ status (all.read ok.lines ok.spelled) (none_both ok.fine ok.of_run) read write
  where
    none_both : {first later : Option Refusal} → first ≡ None → later ≡ None → or_else first later ≡ None
    none_both {first} {later} first_none later_none = ap (λ (o : Option Refusal). or_else o later) first_none ∙ later_none

-- a check whose input is accepted is done, unless a call failed or memory is wanting
complete_check : (scenario : Scenario) (history : List ℕ) (deck : List DeskSeat) (told : Told) (before now : Option (List ℕ)) (status : Status)
    → AnswersCheck scenario history deck told before now status → IsAcceptedCheck scenario history deck told
    → status ≢ ReadFault → status ≢ WriteFault → (done_with status ≡ Done) ⊎ (status ≡ OutOfMemory)
complete_check scenario history deck told before now status answer ok read write =
    let all = answer.all ok.bytes ok.calls ok.orders ok.text ok.scene_told ok.calls_told ok.orders_told ok.history_told in
    of status read write (complete_answer _ _ _ (done_with status) (all.read ok.lines ok.spelled) ok.fine (not_read status read) (not_written status write))
  where
    not_read : (end : Status) → end ≢ ReadFault → done_with end ≢ ReadFault
    not_read (CheckedNo line law) other is = cc
    not_read Done other is = cc
    not_read Usage other is = cc
    not_read (Refused refusal) other is = cc
    not_read ReadFault other is = other refl
    not_read WriteFault other is = cc
    not_read OutOfMemory other is = cc

    not_written : (end : Status) → end ≢ WriteFault → done_with end ≢ WriteFault
    not_written (CheckedNo line law) other is = cc
    not_written Done other is = cc
    not_written Usage other is = cc
    not_written (Refused refusal) other is = cc
    not_written ReadFault other is = cc
    not_written WriteFault other is = other refl
    not_written OutOfMemory other is = cc

    of : (end : Status) → end ≢ ReadFault → end ≢ WriteFault → (done_with end ≡ Done) ⊎ (done_with end ≡ OutOfMemory) → (done_with end ≡ Done) ⊎ (end ≡ OutOfMemory)
    of (CheckedNo line law) r w h = inl refl
    of Done r w h = inl refl
    of Usage r w h = h
    of (Refused refusal) r w h = h
    of ReadFault r w h = h
    of WriteFault r w h = h
    of OutOfMemory r w h = inr refl

-- paths that are asked for are written or there is none, unless a call failed or memory is wanting
complete_paths : (word : List ℕ) (window : Window) (count : ℕ) (first : Option Refusal) (input : Input) (seats : List Seat) (before now : Option (List ℕ)) (status : Status)
    → IsPathsAnswer word window count first input seats before now status → first ≡ None → status ≢ ReadFault → status ≢ WriteFault
    → ((status ≡ Done) ⊎ IsNoPath status) ⊎ (status ≡ OutOfMemory)
complete_paths word window count first input seats before now Done answer none read write = inl (inl refl)
complete_paths word window count first input seats before now Usage answer none read write = absurd answer
complete_paths word window count first input seats before now (Refused refusal) answer none read write = inl (inr (⊎_elim
    (λ (is : first ≡ Some refusal). absurd (none-some refusal (sym none ∙ is)))
    (λ (late : (first ≡ None) × IsRefusedRun word window refusal input seats). why _ late.1.train late.1.none)
    answer))
  where
    why : (intervals : List Interval) (train : ℕ) → IsNoPathAmong intervals train window refusal → IsNoPath (Refused refusal)
    why intervals train (inl is) = inl (ap Refused is.0)
    why intervals train (inr is) = inr (ap Refused is.0)
complete_paths word window count first input seats before now ReadFault answer none read write = absurd (read refl)
complete_paths word window count first input seats before now WriteFault answer none read write = absurd (write refl)
complete_paths word window count first input seats before now OutOfMemory answer none read write = inr refl
complete_paths word window count first input seats before now (CheckedNo line law) answer none read write = absurd answer

-- so it is for each form
pub run_complete : AreComplete run_terms
run_complete = λ scenario deck told before now status answer ok read write. complete_scenario _ _ _ scenario deck told status answer ok read write

pub stairs_complete : AreComplete stairs_terms
stairs_complete = λ scenario deck told before now status answer ok read write. complete_scenario _ _ _ scenario deck told status answer ok read write

pub report_complete : AreComplete report_terms
report_complete = λ scenario deck told before now status answer ok read write. complete_scenario _ _ _ scenario deck told status answer ok read write

pub save_complete : AreComplete save_terms
save_complete = λ saving deck told before now status answer ok read write. complete_scenario _ _ _ saving.scenario deck told status answer ok read write

pub capacity_complete : AreComplete capacity_terms
capacity_complete = λ study deck told before now status answer ok read write. complete_scenario _ _ _ study.scenario deck told status (answer.of_run ok.0) ok.1 read write

pub insert_complete : AreComplete insert_terms
insert_complete = λ paths deck told before now status answer ok read write.
    let all = answer.of_run ok.0 in let files = ok.1 in
    complete_paths _ _ _ _ _ _ _ _ status (all.all files.bytes files.calls files.orders files.scene_told files.calls_told files.orders_told) files.fine read write

pub infra_complete : AreComplete infra_terms
infra_complete = λ scene deck told before now status answer ok read write. complete_answer _ _ _ status (answer ok.0 ok.1) ok.2 read write

pub migrate_complete : AreComplete migrate_terms
migrate_complete = λ scene deck told before now status answer ok read write. complete_answer _ _ _ status (answer ok.0 ok.1) ok.2 read write

pub play_complete : AreComplete play_terms
play_complete = λ files deck told before now status answer ok read write. complete_answer _ _ _ status (answer.both ok.bytes ok.others ok.scene_told ok.others_told) ok.fine read write

pub edit_complete : AreComplete edit_terms
edit_complete = λ files deck told before now status answer ok read write. complete_answer _ _ _ status (answer.both ok.bytes ok.others ok.scene_told ok.others_told) ok.fine read write

pub reroute_complete : AreComplete reroute_terms
reroute_complete = λ files deck told before now status answer ok read write.
    complete_answer _ _ _ status (answer.all ok.bytes ok.places ok.lines ok.scene_told ok.places_told ok.lines_told) ok.fine read write

pub check_complete : AreComplete check_terms
check_complete = λ files deck told before now status answer ok read write. complete_check files.scenario files.other deck told before now status answer ok read write

pub resume_complete : AreComplete resume_terms
resume_complete = λ files deck told before now status answer ok read write. complete_resume files.scenario files.other deck told before now status answer ok read write

pub scene_complete : AreComplete scene_terms
scene_complete = λ number deck told before now status answer ok read write. complete_answer _ _ _ status answer refl read write

pub gen_complete : AreComplete gen_terms
gen_complete = λ number deck told before now status answer ok read write. complete_answer _ _ _ status answer refl read write
