-- What is noted of a run so far, and what its next line is.
use Rattle.std.proofs.Common.{◌≡◌, ℕ, ◌+◌, ◌*◌, ◌≤◌, true, List, [], ◌∷◌, length, refl, ap, ◌∙◌, subst, sym, arith}
use Rattle.std.proofs.lemmas.Bool.{and_parts, and_from, eqb-true}
use Rattle.std.proofs.lemmas.List.{nil_from_length}
use Rattle.rail_base.specs.declared.history.Entry.{Entry}
use Rattle.rail_base.specs.declared.history.Note.TheVariants.{Pulled, Appended, Fresh}
use Rattle.rail_base.specs.declared.history.What.{What}
use Rattle.rail_base.specs.declared.history.What.TheVariants.{Free, Arrive, Enter, Out, Ready, Told, Untold, Admit, Hold, End}
use Rattle.rail_history.specs.Lines.{brought, line_of}
use Rattle.rail_io.specs.FaultCounts.{Rose}
use Rattle.rail_io.specs.Writes.{Adds, AddsPrefix}
use Rattle.rail_io.specs.declared.sink.Sink.{Ghosts}
use Rattle.rail_io.proofs.CallerLemmas.{Adds-append, AddsPrefix-append}
use Rattle.rail_rules.specs.Accepted.{is_accepted_input}
use Rattle.rail_rules.specs.Fronts.{Front, Line, has_ended}
use Rattle.rail_rules.specs.Lawful.{is_bare}
use Rattle.rail_rules.specs.Plant.{Plant, bound, trains}
use Rattle.rail_rules.specs.RunHistories.{Seat, is_run, is_run_history}
use Rattle.rail_rules.specs.Texts.{line_text}
use Rattle.rail_rules.specs.Orders.{Input}
use Rattle.rail_policy.specs.Desks.{Table, run_seats}
use Rattle.rail_ledger.specs.declared.ledger.Ledger.{Ledger}
use Rattle.rail_engine.specs.Engines.{StandsFor}
use Rattle.rail_rules.specs.WritableLines.{is_writable}
use Rattle.rail_laws_front.specs.Views.{Follows}
use Rattle.rail_laws_front.specs.Views.Follows.{by_event, by_admission, by_hold, by_end}
use Rattle.rail_laws_front.proofs.CallerLemmas.{well_formed_from_accepted, lawful_last}
use Rattle.rail_laws_events.proofs.CallerLemmas.{input_parts}
use Rattle.rail_laws_end.specs.Forks.{are_marks}
use Rattle.rail_laws_step.proofs.CallerLemmas.{run_lawful}
use Rattle.rail_laws_text.proofs.CallerLemmas.{line_writable}
use Rattle.rail_ledger.specs.Inputs.{input_in}
use Rattle.rail_ledger.specs.declared.input.RunInput.{RunInput}
use Rattle.rail_forms.specs.BegunRuns.{IsAtStart}
use Rattle.rail_forms.specs.NotedRuns.{IsCutRun, IsNext, IsNotedRun}
use Rattle.rail_forms.specs.Runs.{IsRunWithin}
use Rattle.rail_forms.specs.WrittenHistories.{AreWritten, IsWrittenInPart}
use Rattle.rail_forms.proofs.LineBounds.{lines_at_most}
use Rattle.rail_forms.proofs.Endings.{finished_run}
use Rattle.rail_forms.proofs.Histories.{only_run, safe_run, timely_run}

-- an engine that was begun with a desk is at the start of its run
pub at_start : (ledger : Ledger) (table first : Table) → table ≡ first → StandsFor (run_seats first) [] ledger table → are_marks (run_seats first) ≡ true → IsAtStart ledger table
at_start ledger table first same stands marks =
    let seats = sym (ap run_seats same) in
    record {
      stands = subst (λ (s : List Seat). StandsFor s [] ledger table) seats stands;
      marks = subst (λ (s : List Seat). are_marks s ≡ true) seats marks;
    }

bare_brings : (line : Line) (what : What) → is_bare line ≡ true → brought what line.trains ≡ line.trains
bare_brings line what bare =
    let none : line.trains ≡ [] = nil_from_length line.trains (eqb-true (length line.trains) 0 bare) in
    subst (λ (ts : List ℕ). brought what ts ≡ ts) (sym none) (nothing what)
  where
    nothing : (what : What) → brought what [] ≡ []
    nothing (Free x t) = refl
    nothing (Arrive t m) = refl
    nothing (Enter t m x) = refl
    nothing (Out t) = refl
    nothing (Ready t m) = refl
    nothing (Told k) = refl
    nothing (Untold k) = refl
    nothing (Admit t m Fresh) = refl
    nothing (Admit t m Pulled) = refl
    nothing (Admit t m Appended) = refl
    nothing (Hold t m why) = refl
    nothing End = refl

-- a line brings what its entry says that it brings
brings : (input : Input) (front : Front) (line : Line) → Follows input front line → brought line.entry.what line.trains ≡ line.trains
brings input front line (by_event h) = bare_brings line line.entry.what h.bare
brings input front line (by_admission t m Fresh h) = ap (λ what. brought what line.trains) h.what
brings input front line (by_admission t m Pulled h) = bare_brings line line.entry.what (and_parts (is_bare line) _ h.fits).0
brings input front line (by_admission t m Appended h) = bare_brings line line.entry.what (and_parts (is_bare line) _ h.fits).0
brings input front line (by_hold t m why h) = bare_brings line line.entry.what h.bare
brings input front line (by_end h) = ap (λ what. brought what line.trains) h.what

-- one line more of a history: it is handed on with the plant and the list that belongs to it
module _ (input : Input) (front : Front) (line : Line) (plant : Plant) (entry : Entry) (list : List ℕ) (next : IsNext input front line plant entry list) where
  -- the line that is handed on is the one that was given
  same_line : line_of entry list ≡ line
  same_line =
      let all = brings input front line (lawful_last input line front next.lawful) in
      ap (λ (e : Entry). line_of e list) (sym next.entry_is) ∙ ap (line_of line.entry) next.list_is ∙ (λ i. record { entry = line.entry; trains = all i })

  same_text : line_text plant (line_of entry list) ≡ line_text input.plant line
  same_text = ap (λ (p : Plant). line_text p (line_of entry list)) next.plant_is ∙ ap (line_text input.plant) same_line

  -- it can be written
  pub next_writable : is_writable plant (line_of entry list) ≡ true
  next_writable =
      subst (λ (p : Plant). is_writable p (line_of entry list) ≡ true) (sym next.plant_is)
      (subst (λ (l : Line). is_writable input.plant l ≡ true) (sym same_line)
      (line_writable input next.accepted line front next.lawful))

  -- it was written
  pub next_written : {O : Type 0} (sink : Ghosts O) (first old new : O) → AreWritten sink input front first old
      → Adds (sink.written old) (sink.written new) (line_text plant (line_of entry list)) → sink.faults old ≤ sink.faults new
      → AreWritten sink input (line ∷ front) first new
  next_written sink first old new so_far more never_fall = record {
    adds = Adds-append so_far.adds (subst (Adds (sink.written old) (sink.written new)) same_text more);
    faults_never_fall = omega (arith, so_far.faults_never_fall, never_fall);
  }

  -- it was not written to its end
  pub next_cut : {O : Type 0} (sink : Ghosts O) (first old new : O) → AreWritten sink input front first old
      → AddsPrefix (sink.written old) (sink.written new) (line_text plant (line_of entry list)) → Rose (sink.faults old) (sink.faults new) → sink.faults old ≤ sink.faults new
      → IsWrittenInPart sink input (line ∷ front) first new
  next_cut sink first old new so_far more rose never_fall = record {
    adds = AddsPrefix-append so_far.adds (subst (AddsPrefix (sink.written old) (sink.written new)) same_text more);
    rose = λ other. let rises = rose other in omega (arith, so_far.faults_never_fall, rises);
    faults_never_fall = omega (arith, so_far.faults_never_fall, never_fall);
  }

-- a run that has ended is a run history
pub run_ended : (input : Input) (seats : List Seat) → is_accepted_input input ≡ true → are_marks seats ≡ true → (front : Front) → is_run input seats front ≡ true → has_ended front ≡ true
    → IsRunWithin input seats front
run_ended input seats ok marks front run ended =
    let history : is_run_history input seats front ≡ true = and_from (is_run input seats front) (has_ended front) run ended in record {
      accepted = ok;
      is_run = record { history = history; safe = safe_run input seats ok front run; finished = finished_run input seats ok front history };
      timely = timely_run input seats ok front run;
      only = only_run input seats ok marks front history;
    }

-- the engine stands for a front of so many lines, which were noted
pub record IsNotedSoFar (are_noted : Input → Front → Type 0) (count : ℕ) (seats : List Seat) (engine : Ledger) (desk : Table) : Type 0 where
  pub front : Front
  pub stands : StandsFor seats front engine desk
  pub long : length front ≡ count
  pub noted : are_noted (input_in engine.input) front

-- where the run has ended, the lines of a run history were noted
pub noted_ended : (are_noted : Input → Front → Type 0) (count : ℕ) (seats : List Seat) (engine : Ledger) (desk : Table) (first : RunInput) → engine.input ≡ first → are_marks seats ≡ true
    → (so_far : IsNotedSoFar are_noted count seats engine desk) → has_ended so_far.front ≡ true → IsNotedRun are_noted (input_in first) seats
noted_ended are_noted count seats engine desk first is marks so_far ended = subst (λ (input : RunInput). IsNotedRun are_noted (input_in input) seats) is (record {
  front = so_far.front;
  run = run_ended (input_in engine.input) seats so_far.stands.at.accepted marks so_far.front so_far.stands.run.of_run ended;
  noted = so_far.noted;
})

-- where a line of the run cannot be noted, those before it were, and that one in part
pub noted_cut : (is_cut : Input → Front → Type 0) (seats : List Seat) (front : Front) (engine : Ledger) (desk : Table) (first : RunInput) → engine.input ≡ first
    → StandsFor seats front engine desk → is_cut (input_in engine.input) front → IsCutRun is_cut (input_in first) seats
noted_cut is_cut seats front engine desk first is stands cut =
    let input = input_in engine.input in
    let ok = stands.at.accepted in
    let run = stands.run.of_run in
    subst (λ (input : RunInput). IsCutRun is_cut (input_in input) seats) is (record {
      front = front;
      run = record { accepted = ok; run = run; safe = safe_run input seats ok front run; timely = timely_run input seats ok front run };
      cut = cut;
    })

-- the next line follows those that were noted
pub next_noted : (are_noted : Input → Front → Type 0) (count : ℕ) (seats : List Seat) (before : Ledger) (desk : Table)
    (so_far : IsNotedSoFar are_noted count seats before desk) (now : Ledger) (after : Table) (line : Line) (plant : Plant) (list : List ℕ)
    → now.input ≡ before.input → StandsFor seats (line ∷ so_far.front) now after → plant ≡ now.input.plant → list ≡ line.trains
    → (IsNext (input_in now.input) so_far.front line plant line.entry list) × are_noted (input_in now.input) so_far.front
next_noted are_noted count seats before desk so_far now after line plant list same stands is list_is = (
  record {
    accepted = stands.at.accepted;
    lawful = run_lawful (input_in now.input) seats (line ∷ so_far.front) stands.run.of_run;
    plant_is = is;
    entry_is = refl;
    list_is = list_is;
  },
  subst (λ (input : RunInput). are_noted (input_in input) so_far.front) (sym same) so_far.noted,
)

-- there are at most so many lines
pub few_lines : (input : Input) (seats : List Seat) → is_accepted_input input ≡ true → (front : Front) → is_run input seats front ≡ true
    → length front ≤ bound input.plant (length input.commands) * (trains input.plant + 1)
few_lines input seats ok front run = lines_at_most input (well_formed_from_accepted input.plant (input_parts input ok).0) front (run_lawful input seats front run)
