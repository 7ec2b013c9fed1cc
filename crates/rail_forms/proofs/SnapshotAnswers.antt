-- What is answered to a snapshot, and what follows it in its run.
use Rattle.std.proofs.Common.{◌≡◌, ℕ, ◌+◌, ◌*◌, ◌<◌, ◌≤◌, true, List, [], ◌++◌, length, Option, Some, None, Result, Ok, Err, OnOk, OnErr, inl, inr, refl, sym, ap, ◌∙◌, subst, ⊎_elim, arith}
use Rattle.std.specs.Prelude.{reverse}
use Rattle.std.specs.Option.{option_map}
use Rattle.std.proofs.lemmas.List.{length-append, reverse-reverse}
use Rattle.rail_base.specs.Refusals.{AnswersFirst}
use Rattle.rail_base.specs.declared.refusals.Fault.{Fault}
use Rattle.rail_base.specs.declared.refusals.Fault.TheVariants as fault
use Rattle.rail_base.specs.declared.refusals.Reason.TheVariants.{SnapshotForm, SnapshotOther}
use Rattle.rail_base.specs.declared.refusals.Refusal.{Refusal}
use Rattle.rail_engine.specs.Engines.{StandsFor}
use Rattle.rail_laws_end.specs.Forks.{are_marks}
use Rattle.rail_laws_events.proofs.CallerLemmas.{input_parts}
use Rattle.rail_laws_text.proofs.CallerLemmas.{accepted_named}
use Rattle.rail_ledger.specs.Inputs.{input_in}
use Rattle.rail_ledger.specs.declared.input.RunInput.{RunInput}
use Rattle.rail_ledger.specs.declared.ledger.Ledger.{Ledger}
use Rattle.rail_policy.specs.Desks.{Table}
use Rattle.rail_rules.specs.Fronts.{Front, Line, has_ended}
use Rattle.rail_rules.specs.Numbers.{or_else}
use Rattle.rail_rules.specs.Orders.{Input}
use Rattle.rail_rules.specs.Plant.{bound, trains}
use Rattle.rail_rules.specs.RunHistories.{Seat, is_run}
use Rattle.rail_rules.specs.WritableLines.{IsNamed}
use Rattle.rail_save.specs.RunLines.{other_behind}
use Rattle.rail_save.specs.Snapshots.{IsOtherSnapshot, IsRefusedSnapshot, IsResumed, IsSnapshot}
use Rattle.rail_text.specs.Lines.{refusal_at}
use Rattle.rail_save.specs.WrittenLines.{IsSaved, IsSavedInPart, IsWritten, IsWrittenInPart}
use Rattle.rail_save.proofs.CallerLemmas.{no_snapshot, one_snapshot, one_unread, run_followed}
use Rattle.rail_forms.specs.declared.status.Status.{Status}
use Rattle.rail_forms.specs.declared.status.Status.TheVariants.{Done, OutOfMemory, Refused, WriteFault}
use Rattle.rail_forms.specs.Answers.{Decides, IsAnswer, status_of}
use Rattle.rail_forms.specs.Promises.{is_of_bytes}
use Rattle.rail_forms.specs.Runs.{IsRunInPart, IsRunWithin}
use Rattle.rail_forms.specs.Snapshots.{AnswersSnapshot, ResumesInput, ResumesInputInPart, SavesInput, SavesInputInPart, lines_refusal}
use Rattle.rail_forms.proofs.Answers.{answer_decides}
use Rattle.rail_forms.proofs.Histories.{safe_run, timely_run}
use Rattle.rail_forms.proofs.Progress.{few_lines, run_ended}
use Rattle.rail_forms.proofs.PastAnswers.{AreLines}
use Rattle.rail_forms.proofs.ScenarioAnswers.{or_else_more, runs_same}

-- what follows of what an `Ok` tells, and of what an `Err` does
pub on_ok : {X E : Type 0} (r : Result X E) {A B : Type 0} → (A → B) → OnOk r A → OnOk r B
on_ok (Ok x) f a = f a
on_ok (Err e) f a = tt

pub on_err : {X E : Type 0} (r : Result X E) {A B : Type 0} → (A → B) → OnErr r A → OnErr r B
on_err (Ok x) f a = tt
on_err (Err e) f a = f a

-- where a file was not read
snapshot_unread : (limit later : Option Refusal) (input : Input) (seats : List Seat) (bytes : List ℕ) (before now : Option (List ℕ)) (status : Status)
    → ((rest : Option Refusal) (whole part : Type 0) → IsAnswer (or_else limit rest) whole part status) → AnswersSnapshot (or_else limit later) input seats bytes before now status
snapshot_unread limit later input seats bytes before now status any = record {
  read = λ lines is. subst (λ (o : Option Refusal). IsAnswer o (ResumesInput lines input seats before now) (ResumesInputInPart lines input seats before now) status)
      (sym (or_else_more limit later (lines_refusal input seats lines))) (any (or_else later (lines_refusal input seats lines)) _ _);
  wrong = λ number is. subst (λ (o : Option Refusal). IsAnswer o ⊥ ⊥ status) (sym (or_else_more limit later (Some (refusal_at SnapshotForm number))))
      (any (or_else later (Some (refusal_at SnapshotForm number))) ⊥ ⊥);
  of_first = answer_decides (or_else limit later) ⊥ ⊥ status (any later ⊥ ⊥);
}

-- so it is a file of lines
pub snapshot_lines : (before now : Option (List ℕ)) (status : Status) → AreLines (λ first input seats bytes. AnswersSnapshot first input seats bytes before now status) status
snapshot_lines before now status = record {
  unread = λ limit later input seats bytes done any. snapshot_unread limit later input seats bytes before now status any;
  of_first = λ first input seats bytes answer. answer.of_first;
}

-- where what the other files spell is refused, or memory was wanting
pub snapshot_first : (first : Option Refusal) (input : Input) (seats : List Seat) (bytes : List ℕ) (before now : Option (List ℕ)) (status : Status) (why : Fault) → status ≡ status_of why
    → AnswersFirst first why → AnswersSnapshot first input seats bytes before now status
snapshot_first first input seats bytes before now status fault.OutOfMemory is answers =
    subst (AnswersSnapshot first input seats bytes before now) (sym is) (record { read = λ lines history. tt; wrong = λ number wrong. tt; of_first = of first })
  where
    of : (first : Option Refusal) → Decides first OutOfMemory
    of None = tt
    of (Some refusal) = tt
snapshot_first first input seats bytes before now status (fault.Refused refusal) is answers = subst (AnswersSnapshot first input seats bytes before now) (sym is) (record {
  read = λ lines history. ap (λ (o : Option Refusal). or_else o (lines_refusal input seats lines)) answers;
  wrong = λ number wrong. ap (λ (o : Option Refusal). or_else o (Some (refusal_at SnapshotForm number))) answers;
  of_first = answer_decides first ⊥ ⊥ (Refused refusal) answers;
})

-- a refusal of a snapshot comes of its bytes
pub of_bytes_refused : (input : Input) (seats : List Seat) (bytes : List ℕ) (why : Fault) → IsRefusedSnapshot input seats bytes why → is_of_bytes (status_of why) ≡ true
of_bytes_refused input seats bytes fault.OutOfMemory refused = refl
of_bytes_refused input seats bytes (fault.Refused refusal) (inl h) = ap (λ (r : Refusal). is_of_bytes (Refused r)) h.is
of_bytes_refused input seats bytes (fault.Refused refusal) (inr h) = ap (λ (w : Fault). is_of_bytes (status_of w)) h.other.is

-- what the other files spell was read
module _ (input : Input) (seats : List Seat) (named : IsNamed input.plant) (bytes : List ℕ) (before now : Option (List ℕ)) (status : Status) where
  of_other : (why : Fault) → IsOtherSnapshot input seats bytes why → AnswersSnapshot None input seats bytes before now (status_of why)
  of_other why h = subst (λ (w : Fault). AnswersSnapshot None input seats bytes before now (status_of w)) (sym h.other.is) (record {
    read = λ lines is.
        let same : h.lines ≡ lines = one_snapshot input.plant named bytes h.lines lines h.snapshot is in
        ap (lines_refusal input seats) (sym same) ∙ ap (option_map (refusal_at SnapshotOther)) h.other.other;
    wrong = λ number is. absurd (no_snapshot input.plant named bytes number h.lines is h.snapshot);
    of_first = tt;
  })

  -- but the snapshot is refused
  pub snapshot_refused : (why : Fault) → status ≡ status_of why → IsRefusedSnapshot input seats bytes why → AnswersSnapshot None input seats bytes before now status
  snapshot_refused fault.OutOfMemory is (inl h) = snapshot_first None input seats bytes before now status fault.OutOfMemory is tt
  snapshot_refused (fault.Refused refusal) is (inl h) = subst (AnswersSnapshot None input seats bytes before now) (sym is) (record {
    read = λ lines snapshot. absurd (no_snapshot input.plant named bytes h.number lines h.unread snapshot);
    wrong = λ number unread. ap (λ (n : ℕ). Some (refusal_at SnapshotForm n)) (one_unread input.plant named bytes number h.number unread h.unread) ∙ ap Some (sym h.is);
    of_first = tt;
  })
  snapshot_refused why is (inr h) = subst (AnswersSnapshot None input seats bytes before now) (sym is) (of_other why h)

  -- it is one of these lines, with which a run begins
  module _ (lines : List Line) (snapshot : IsSnapshot input.plant bytes lines) (run : is_run input seats (reverse lines) ≡ true) where
    none_other : lines_refusal input seats lines ≡ None
    none_other = ap (option_map (refusal_at SnapshotOther))
        (ap (other_behind input seats [] 2) (sym (reverse-reverse lines)) ∙ run_followed input seats (reverse lines) 2 run)

    of_lines : (end : Status) → IsAnswer None (ResumesInput lines input seats before now) (ResumesInputInPart lines input seats before now) end → AnswersSnapshot None input seats bytes before now end
    of_lines end answer = record {
      read = λ others other.
          let same : lines ≡ others = one_snapshot input.plant named bytes lines others snapshot other in
          subst (λ (ls : List Line). IsAnswer (lines_refusal input seats ls) (ResumesInput ls input seats before now) (ResumesInputInPart ls input seats before now) end) same
          (subst (λ (o : Option Refusal). IsAnswer o (ResumesInput lines input seats before now) (ResumesInputInPart lines input seats before now) end) (sym none_other) answer);
      wrong = λ number unread. absurd (no_snapshot input.plant named bytes number lines unread snapshot);
      of_first = tt;
    }

    -- and the rest of the run was written
    pub snapshot_resumed : status ≡ Done → ResumesInput lines input seats before now → AnswersSnapshot None input seats bytes before now status
    snapshot_resumed is resumes = subst (AnswersSnapshot None input seats bytes before now) (sym is) (of_lines Done (refl, resumes))

    -- or not to its end
    pub snapshot_cut : status ≡ WriteFault → ResumesInputInPart lines input seats before now → AnswersSnapshot None input seats bytes before now status
    snapshot_cut is resumes = subst (AnswersSnapshot None input seats bytes before now) (sym is) (of_lines WriteFault (refl, resumes))

-- an engine that stands for a front has given a first part of a run
pub part_of_run : (seats : List Seat) (front : Front) (engine : Ledger) (table : Table) → StandsFor seats front engine table → IsRunInPart (input_in engine.input) seats front
part_of_run seats front engine table stands =
    let ok = stands.at.accepted in
    let run = stands.run.of_run in
    record { accepted = ok; run = run; safe = safe_run (input_in engine.input) seats ok front run; timely = timely_run (input_in engine.input) seats ok front run }

-- where it has given the end line, a whole one
pub whole_run : (seats : List Seat) (front : Front) (engine : Ledger) (table : Table) → are_marks seats ≡ true → StandsFor seats front engine table → has_ended front ≡ true
    → IsRunWithin (input_in engine.input) seats front
whole_run seats front engine table marks stands ended = run_ended (input_in engine.input) seats stands.at.accepted marks front stands.run.of_run ended

-- what was saved
module _ (seats : List Seat) (count : ℕ) (engine : Ledger) (table : Table) (before now : Option (List ℕ)) (first : RunInput) (same : engine.input ≡ first) where
  pub run_saved : are_marks seats ≡ true → IsSaved seats count engine table before now → SavesInput count (input_in first) seats before now
  run_saved marks saved = subst (λ (input : RunInput). SavesInput count (input_in input) seats before now) same (record {
    front = saved.front;
    run = record {
      part = part_of_run seats saved.front engine table saved.stands;
      counted = ⊎_elim (λ all. inl all) (λ fewer. inr (fewer.0, whole_run seats saved.front engine table marks saved.stands fewer.1)) saved.counted;
    };
    adds = saved.adds;
  })

  pub run_saved_in_part : IsSavedInPart seats count engine table before now → SavesInputInPart count (input_in first) seats before now
  run_saved_in_part saved = subst (λ (input : RunInput). SavesInputInPart count (input_in input) seats before now) same (record {
    front = saved.front;
    run = part_of_run seats saved.front engine table saved.stands;
    few = saved.few;
    adds = saved.adds;
  })

-- what was written behind the lines of a snapshot, where the engine was asked for more lines than a run has
module _ (seats : List Seat) (lines : List Line) (most : ℕ) (engine : Ledger) (table : Table) (before now : Option (List ℕ)) (first : RunInput) (same : engine.input ≡ first) where
  pub rest_written : are_marks seats ≡ true → bound first.plant (length first.commands.items) * (trains first.plant + 1) < most
      → IsWritten seats (reverse lines) most engine table before now → ResumesInput lines (input_in first) seats before now
  rest_written marks many written = subst (λ (input : RunInput). ResumesInput lines (input_in input) seats before now) same (record {
    more = written.more;
    run = whole_run seats (written.more ++ reverse lines) engine table marks written.stands ended;
    adds = written.adds;
  })
    where
      input : Input
      input = input_in engine.input

      few : length (written.more ++ reverse lines) ≤ bound input.plant (length input.commands) * (trains input.plant + 1)
      few = few_lines input seats written.stands.at.accepted (written.more ++ reverse lines) written.stands.run.of_run

      fewer : length written.more < most
      fewer =
          let same_bound = ap (λ (run : RunInput). bound run.plant (length run.commands.items) * (trains run.plant + 1)) same in
          let whole = length-append written.more (reverse lines) in
          omega (arith, few, many, same_bound, whole)

      ended : has_ended (written.more ++ reverse lines) ≡ true
      ended = ⊎_elim (λ (all : length written.more ≡ most). let fewer_than = fewer in absurd (omega (arith, all, fewer_than))) (λ h. h.1) written.counted

  pub rest_written_in_part : IsWrittenInPart seats (reverse lines) most engine table before now → ResumesInputInPart lines (input_in first) seats before now
  rest_written_in_part written = subst (λ (input : RunInput). ResumesInputInPart lines (input_in input) seats before now) same (record {
    more = written.more;
    run = part_of_run seats (written.more ++ reverse lines) engine table written.stands;
    adds = written.adds;
  })

-- what is answered to a snapshot that the engine has followed
module _ (seats : List Seat) (bytes : List ℕ) (engine : Ledger) (table : Table) (first : RunInput) (same : engine.input ≡ first) (before now : Option (List ℕ)) (status : Status)
    (resumed : IsResumed seats bytes engine table) where
  abbrev input : Input
  input = input_in engine.input

  answered : ((end : Status) → end ≡ status → AnswersSnapshot None input seats bytes before now end) → AnswersSnapshot None (input_in first) seats bytes before now status
  answered answer = subst (λ (run : RunInput). AnswersSnapshot None (input_in run) seats bytes before now status) same (answer status refl)

  named : IsNamed input.plant
  named = accepted_named input.plant (input_parts input resumed.stands.at.accepted).0

  -- the lines that are left were written
  pub resumed_whole : status ≡ Done → ResumesInput resumed.lines input seats before now → AnswersSnapshot None (input_in first) seats bytes before now status
  resumed_whole is resumes = answered (λ end ends. snapshot_resumed input seats named bytes before now end resumed.lines resumed.snapshot resumed.stands.run.of_run (ends ∙ is) resumes)

  -- or not to their end
  pub resumed_cut : status ≡ WriteFault → ResumesInputInPart resumed.lines input seats before now → AnswersSnapshot None (input_in first) seats bytes before now status
  resumed_cut is resumes = answered (λ end ends. snapshot_cut input seats named bytes before now end resumed.lines resumed.snapshot resumed.stands.run.of_run (ends ∙ is) resumes)

-- where nothing is refused before the snapshot, the answer is that of the run that has begun
pub begun_answers : (first : Option Refusal) (input other : Input) (seats others : List Seat) (bytes : List ℕ) (before now : Option (List ℕ)) (status : Status) → first ≡ None → input ≡ other → seats ≡ others
    → AnswersSnapshot None input seats bytes before now status → AnswersSnapshot first other others bytes before now status
begun_answers first input other seats others bytes before now status none same same_seats answer =
    subst (λ (o : Option Refusal). AnswersSnapshot o other others bytes before now status) (sym none)
    (runs_same (λ i s. AnswersSnapshot None i s bytes before now status) input other seats others same same_seats answer)
