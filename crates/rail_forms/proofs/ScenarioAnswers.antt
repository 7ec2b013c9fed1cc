-- What is answered to a scenario, put together from what its files answer, for any form: by what it refuses beside what a run
-- does, and what it adds of the run.
use Rattle.std.proofs.Common.{Bor, ◌≡◌, ◌≢◌, ℕ, ◌≤◌, Bool, true, false, ◌&&◌, IfSome, arith, nat_lt, List, [], ◌∷◌, ◌++◌, length, map, Option, Some, None, refl, sym, ap, ◌∙◌, subst}
use Rattle.std.specs.Option.{option_copied, option_map}
use Rattle.std.proofs.lemmas.Bool.{false≢true}
use Rattle.std.proofs.lemmas.Option.{none-some, same_Some}
use Rattle.rail_base.specs.Refusals.{AnswersFirst}
use Rattle.rail_base.specs.declared.refusals.Fault.{Fault}
use Rattle.rail_base.specs.declared.refusals.Fault.TheVariants as fault
use Rattle.rail_base.specs.declared.refusals.Refusal.{Refusal}
use Rattle.rail_io.specs.declared.shelf.Shelf.{Ghosts}
use Rattle.rail_io.specs.declared.sink.Sink.{Ghosts as SinkGhosts}
use Rattle.rail_rules.specs.Numbers.{or_else}
use Rattle.rail_base.specs.declared.orders.Command.{Command}
use Rattle.rail_rules.specs.Orders.{Input}
use Rattle.rail_rules.specs.Plant.{Plant}
use Rattle.rail_rules.specs.RunHistories.{Seat}
use Rattle.rail_policy.specs.Desks.{Table, run_seats}
use Rattle.rail_base.specs.Limits.{is_from_one, most, Policies}
use Rattle.rail_rules.specs.Accepted.{are_distinct_names, is_accepted_input}
use Rattle.rail_policy.proofs.CallerLemmas.{fine_names}
use Rattle.rail_policy.specs.Seats.{DeskSeat, are_marks_small, handed_in, is_fine_deck, names_of}
use Rattle.rail_laws_end.specs.Forks.{are_marks}
use Rattle.rail_engine.specs.Starts.{run_input}
use Rattle.rail_input.specs.Inputs.{input_in, input_refusal, plant_refusal, refuses_file}
use Rattle.rail_forms.specs.declared.status.Status.{Status}
use Rattle.rail_forms.specs.declared.status.Status.TheVariants.{CheckedNo, Done, OutOfMemory, ReadFault, Refused, Usage, WriteFault}
use Rattle.rail_forms.specs.Answers.{Decides, IsAnswer, Told, status_of}
use Rattle.rail_forms.specs.declared.scenario.ScenarioFiles.{ScenarioFiles}
use Rattle.rail_command_line.specs.Files.{File, file_as}
use Rattle.rail_command_line.specs.Forms.{Scenario, scenario_files}
use Rattle.rail_command_line.specs.declared.files.FileRole.{FileRole}
use Rattle.rail_command_line.specs.declared.files.FileRole.TheVariants as role
use Rattle.rail_forms.specs.Files.{IsFileAnswer, IsNamedAnswer, IsRead, IsReadIfAny, content_of, last_file, told_of, too_large, too_large_if_any, too_many_bytes}
use Rattle.rail_forms.specs.Checks.{done_with}
use Rattle.rail_forms.specs.Promises.{KeepsPromise, ReadsFiles, is_of_bytes}
use Rattle.rail_forms.specs.Scenarios.{AnswersScenario, IsHeld, IsUnread, is_unread, nothing_else, refusal_in, scenario_refusal, spelled_in}
use Rattle.rail_forms.proofs.Answers.{answer_after, answer_decides, file_answer, first_decides, none_decides, unread_decides}
use Rattle.rail_forms.proofs.Writes.{unwritten_fault}
use Rattle.rail_forms.proofs.Parts.{of_bytes_fault}
use Rattle.rail_forms.proofs.Reading.{AreFit, keeps_read, reads_failed}

-- the names of boxes that a reference shows
pub names_shown : {X : Type 0} (seat : X → DeskSeat) (shown boxes : List X) → shown ≡ boxes → names_of (map seat shown) ≡ names_of (map seat boxes)
names_shown seat shown boxes same = ap (λ xs. names_of (map seat xs)) same

-- the marks of boxes that a reference shows
pub marks_shown : {X : Type 0} (seat : X → DeskSeat) (shown boxes : List X) → shown ≡ boxes → are_marks_small (map seat shown) ≡ true → are_marks_small (map seat boxes) ≡ true
marks_shown seat shown boxes same small = subst (λ xs. are_marks_small (map seat xs) ≡ true) same small

-- the bytes that a reference shows
copied_is : (shown : Option (Bor (List ℕ))) → option_copied shown ≡ option_map (λ (r : Bor (List ℕ)). r.now) shown
copied_is None = refl
copied_is (Some bytes) = refl

-- what holds of the bytes that references show holds of the bytes
pub shown : (P : List ℕ → Option (List ℕ) → Option (List ℕ) → Type 0) {scene bytes : List ℕ} (calls orders : Option (Bor (List ℕ))) {timetable commands : Option (List ℕ)} → scene ≡ bytes
    → option_map (λ (r : Bor (List ℕ)). r.now) calls ≡ timetable → option_map (λ (r : Bor (List ℕ)). r.now) orders ≡ commands
    → P scene (option_copied calls) (option_copied orders) → P bytes timetable commands
shown P {scene} {bytes} calls orders {timetable} {commands} same same_calls same_orders holds =
    subst (λ b. P b timetable commands) same (subst (λ c. P scene c commands) (copied_is calls ∙ same_calls) (subst (λ o. P scene (option_copied calls) o) (copied_is orders ∙ same_orders) holds))

-- a run begins with what was read
pub begun_input : (input : Input) (plant : Plant) (commands : List Command) (table : Table) (seats : List DeskSeat) (force : ℕ) → table ≡ record { seats = seats; force = force; last = None }
    → plant ≡ input.plant → commands ≡ input.commands → force ≡ input.force → input.deck ≡ names_of seats → run_input plant commands table ≡ input
begun_input input plant commands table seats force is plant_is commands_is force_is deck_is = λ i. record {
  plant = plant_is i;
  commands = commands_is i;
  deck = (ap (λ (t : Table). names_of t.seats) is ∙ sym deck_is) i;
  force = (ap (λ (t : Table). t.force) is ∙ force_is) i;
}

-- what was read may be run with a deck that can be handed to a desk
pub accepted_read : (input : Input) (plant : Plant) (commands : List Command) (table : Table) (seats : List DeskSeat) (force : ℕ) → table ≡ record { seats = seats; force = force; last = None }
    → plant ≡ input.plant → commands ≡ input.commands → force ≡ input.force → input.deck ≡ names_of seats → is_fine_deck seats ≡ true
    → (is_from_one (most Policies) (length input.deck) ≡ true → are_distinct_names input.deck ≡ true → is_accepted_input input ≡ true)
    → is_accepted_input (run_input plant commands table) ≡ true
accepted_read input plant commands table seats force is plant_is commands_is force_is deck_is fine accepted =
    let names = fine_names seats fine in
    ap is_accepted_input (begun_input input plant commands table seats force is plant_is commands_is force_is deck_is)
    ∙ accepted (ap (λ (deck : List (List ℕ)). is_from_one (most Policies) (length deck)) deck_is ∙ names.0) (ap are_distinct_names deck_is ∙ names.1)

-- the seats of a desk are those of the boxes that it was made of
pub seats_of : (table first : Table) (seats : List DeskSeat) (force : ℕ) → table ≡ first → first ≡ record { seats = seats; force = force; last = None } → run_seats table ≡ handed_in seats
seats_of table first seats force same is = ap run_seats (same ∙ is)

-- the marks of the boxes handed in are those that were read
small_marks : (seats : List DeskSeat) → are_marks (handed_in seats) ≡ are_marks_small seats
small_marks [] = refl
small_marks (seat ∷ seats) = ap (λ (b : Bool). nat_lt seat.mark 65536 && b) (small_marks seats)

-- and so are those of the desk that was made of them
pub marks_of : (table first : Table) (seats : List DeskSeat) (force : ℕ) → table ≡ first → first ≡ record { seats = seats; force = force; last = None } → are_marks_small seats ≡ true
    → are_marks (run_seats table) ≡ true
marks_of table first seats force same is small = ap are_marks (seats_of table first seats force same is) ∙ small_marks seats ∙ small

-- what holds of a run holds of that of the same input and seats
pub runs_same : (P : Input → List Seat → Type 0) (input other : Input) (seats other_seats : List Seat) → input ≡ other → seats ≡ other_seats → P input seats → P other other_seats
runs_same P input other seats other_seats same same_seats runs = subst (λ i. P i other_seats) same (subst (λ s. P input s) same_seats runs)

-- what else is refused of a run of the same input
pub answer_same : (late : Input → Option Refusal) (whole part : Input → List Seat → Type 0) (input other : Input) (seats other_seats : List Seat) (status : Status) → input ≡ other → seats ≡ other_seats
    → IsAnswer (late input) (whole input seats) (part input seats) status → IsAnswer (late other) (whole other other_seats) (part other other_seats) status
answer_same late whole part input other seats other_seats status same same_seats answer =
    runs_same (λ i s. IsAnswer (late i) (whole i s) (part i s) status) input other seats other_seats same same_seats answer

or_else_none : (first : Option Refusal) → or_else first None ≡ first
or_else_none None = refl
or_else_none (Some refusal) = refl

pub or_else_more : (a b c : Option Refusal) → or_else (or_else a b) c ≡ or_else a (or_else b c)
or_else_more None b c = refl
or_else_more (Some refusal) b c = refl

-- a form that refuses nothing else refuses nothing behind the input
pub nothing_behind : (first : Option Refusal) (input : Input) → nothing_else first input ≡ or_else first None
nothing_behind first input = sym (or_else_none first)

-- what is answered where a file that may be missing was not read
pub named_answer : {S : Type 0} (shelf : Ghosts S) (role : FileRole) (file : Option (List ℕ)) (before now : S) (content : Option (List ℕ)) (later : Option Refusal) (whole part : Type 0) (status : Status)
    → IsNamedAnswer shelf role file before now status → told_of (shelf.told before) file ≡ Some content
    → IsAnswer (or_else (too_large_if_any role content) later) whole part status
named_answer shelf role None before now content later whole part status answer told = absurd answer
named_answer shelf role (Some file) before now content later whole part status answer told = by (shelf.told before file) refl told
  where
    by : (o : Option (List ℕ)) → shelf.told before file ≡ o → option_map (λ bytes. Some bytes) o ≡ Some content
        → IsAnswer (or_else (too_large_if_any role content) later) whole part status
    by None is none = absurd (none-some content none)
    by (Some bytes) is some = subst (λ (c : Option (List ℕ)). IsAnswer (or_else (too_large_if_any role c) later) whole part status) (same_Some (Some bytes) content some)
        (file_answer shelf role file before now bytes later whole part status answer is)

-- where it was not for its size, nothing else is decided against
pub named_decides : {S : Type 0} (shelf : Ghosts S) (role : FileRole) (file : Option (List ℕ)) (before now : S) (first : Option Refusal) (status : Status)
    → IsNamedAnswer shelf role file before now status → status ≢ Refused (too_many_bytes role) → Decides first status
named_decides shelf role None before now first status answer other = absurd answer
named_decides shelf role (Some file) before now first status answer other = unread_decides shelf role file before now first status answer other

-- with which status a file was not read
file_unread : {S : Type 0} (shelf : Ghosts S) (role : FileRole) (file : List ℕ) (before now : S) (status : Status) → IsFileAnswer shelf role file before now status → is_unread status ≡ true
file_unread shelf role file before now Done is = absurd is
file_unread shelf role file before now Usage is = absurd is
file_unread shelf role file before now (Refused refusal) is = refl
file_unread shelf role file before now ReadFault is = refl
file_unread shelf role file before now WriteFault is = absurd is
file_unread shelf role file before now OutOfMemory is = refl
file_unread shelf role file before now (CheckedNo line law) is = absurd is

named_unread : {S : Type 0} (shelf : Ghosts S) (role : FileRole) (file : Option (List ℕ)) (before now : S) (status : Status) → IsNamedAnswer shelf role file before now status → is_unread status ≡ true
named_unread shelf role None before now status is = absurd is
named_unread shelf role (Some file) before now status is = file_unread shelf role file before now status is

-- what is promised of the files where one that may be missing was not read
reads_unnamed : {S : Type 0} (shelf : Ghosts S) (first later : List File) (role : FileRole) (file : Option (List ℕ)) (before between now : S) (status : Status)
    → AreFit (shelf.told before) first → shelf.told between ≡ shelf.told before → shelf.faults before ≤ shelf.faults between
    → shelf.told now ≡ shelf.told between → shelf.faults between ≤ shelf.faults now
    → IsNamedAnswer shelf role file between now status → ReadsFiles shelf (first ++ file_as role file ∷ later) before now status
reads_unnamed shelf first later role None before between now status fit still faults_still stays rise answer = absurd answer
reads_unnamed shelf first later role (Some file) before between now status fit still faults_still stays rise answer =
    reads_failed shelf first later role file before between now fit still faults_still stays rise status answer

-- a file that was read fits
pub fit_read : (told : Told) (role : FileRole) (file : List ℕ) (later : List File) (read : List ℕ)
    → ((bytes : List ℕ) → told file ≡ Some bytes → read ≡ bytes) → too_large role read ≡ None
    → AreFit told later → AreFit told (file_as role (Some file) ∷ later)
fit_read told role file later read is fits behind =
    (λ name bytes named at. ap (too_large role) (sym (is bytes (ap told (same_Some file name named) ∙ at))) ∙ fits, behind)

-- a file that may be missing fits where its bytes were read
pub fit_named : (told : Told) (role : FileRole) (file : Option (List ℕ)) (later : List File) (read : Option (List ℕ))
    → ((content : Option (List ℕ)) → told_of told file ≡ Some content → read ≡ content) → too_large_if_any role read ≡ None
    → AreFit told later → AreFit told (file_as role file ∷ later)
fit_named told role None later read is fits behind = (λ name bytes named at. absurd (none-some name named), behind)
fit_named told role (Some file) later read is fits behind =
    (λ name bytes named at. ap (too_large_if_any role) (sym (is (Some bytes) (ap (option_map (λ b. Some b)) (ap told (same_Some file name named) ∙ at)))) ∙ fits, behind)

-- the scene was not read
pub scene_unread : {S : Type 0} (shelf : Ghosts S) (scenario : Scenario) (before now : S) (status : Status)
    → shelf.told now ≡ shelf.told before → shelf.faults before ≤ shelf.faults now
    → IsFileAnswer shelf role.Scene scenario.scene before now status → IsUnread shelf scenario before now status
scene_unread shelf scenario before now status stays rise answer = record {
  answer = λ deck. record {
    all = λ bytes calls orders at calls_at orders_at. file_answer shelf role.Scene scenario.scene before now bytes _ _ _ status answer at;
    of_size = λ bytes at. first_decides (too_large role.Scene bytes) None (Unit {0}) (Unit {0}) status
        (file_answer shelf role.Scene scenario.scene before now bytes None (Unit {0}) (Unit {0}) status answer at);
    of_scene = λ bytes at not_timetable not_commands. answer_decides _ (Unit {0}) (Unit {0}) status
        (file_answer shelf role.Scene scenario.scene before now bytes (plant_refusal bytes) (Unit {0}) (Unit {0}) status answer at);
  };
  reads = λ later. reads_failed shelf [] (file_as role.Timetable scenario.timetable ∷ file_as role.Commands scenario.commands ∷ later) role.Scene scenario.scene
      before before now tt refl (omega arith) stays rise status answer;
  unread = file_unread shelf role.Scene scenario.scene before now status answer;
}

-- it was read
module _ {S : Type 0} (shelf : Ghosts S) (scenario : Scenario) (before one : S) (still : shelf.told one ≡ shelf.told before) (rose : shelf.faults before ≤ shelf.faults one) (scene_read : List ℕ)
    (scene_is : (bytes : List ℕ) → shelf.told before scenario.scene ≡ Some bytes → scene_read ≡ bytes) (scene_fits : too_large role.Scene scene_read ≡ None) where
  abbrev told : Told
  told = shelf.told before

  fits : (bytes : List ℕ) → told scenario.scene ≡ Some bytes → too_large role.Scene bytes ≡ None
  fits bytes at = ap (too_large role.Scene) (sym (scene_is bytes at)) ∙ scene_fits

  -- but not the timetable
  pub timetable_unread : (now : S) (status : Status) → shelf.told now ≡ shelf.told one → shelf.faults one ≤ shelf.faults now
      → IsNamedAnswer shelf role.Timetable scenario.timetable one now status → IsUnread shelf scenario before now status
  timetable_unread now status stays rise answer = record {
    answer = λ deck. record {
      all = λ bytes calls orders at calls_at orders_at. answer_after (too_large role.Scene bytes) _ _ _ status (fits bytes at)
          (named_answer shelf role.Timetable scenario.timetable one now calls _ _ _ status answer (ap (λ (t : Told). told_of t scenario.timetable) still ∙ calls_at));
      of_size = λ bytes at. none_decides (too_large role.Scene bytes) status (fits bytes at);
      of_scene = λ bytes at not_timetable not_commands. named_decides shelf role.Timetable scenario.timetable one now _ status answer not_timetable;
    };
    reads = λ later. reads_unnamed shelf (file_as role.Scene (Some scenario.scene) ∷ []) (file_as role.Commands scenario.commands ∷ later) role.Timetable scenario.timetable
        before one now status (fit_read told role.Scene scenario.scene [] scene_read scene_is scene_fits tt) still rose stays rise answer;
    unread = named_unread shelf role.Timetable scenario.timetable one now status answer;
  }

  module _ (two : S) (still_then : shelf.told two ≡ shelf.told one) (rose_then : shelf.faults one ≤ shelf.faults two) (timetable_read : Option (List ℕ))
      (timetable_is : (content : Option (List ℕ)) → told_of told scenario.timetable ≡ Some content → timetable_read ≡ content) (timetable_fits : too_large_if_any role.Timetable timetable_read ≡ None) where
    -- nor the commands
    pub commands_unread : (now : S) (status : Status) → shelf.told now ≡ shelf.told two → shelf.faults two ≤ shelf.faults now
        → IsNamedAnswer shelf role.Commands scenario.commands two now status → IsUnread shelf scenario before now status
    commands_unread now status stays rise answer = record {
      answer = λ deck. record {
        all = λ bytes calls orders at calls_at orders_at. answer_after (too_large role.Scene bytes) _ _ _ status (fits bytes at)
            (answer_after (too_large_if_any role.Timetable calls) _ _ _ status (ap (too_large_if_any role.Timetable) (sym (timetable_is calls calls_at)) ∙ timetable_fits)
            (named_answer shelf role.Commands scenario.commands two now orders _ _ _ status answer (ap (λ (t : Told). told_of t scenario.commands) (still_then ∙ still) ∙ orders_at)));
        of_size = λ bytes at. none_decides (too_large role.Scene bytes) status (fits bytes at);
        of_scene = λ bytes at not_timetable not_commands. named_decides shelf role.Commands scenario.commands two now _ status answer not_commands;
      };
      reads = λ later. reads_unnamed shelf (file_as role.Scene (Some scenario.scene) ∷ file_as role.Timetable scenario.timetable ∷ []) later role.Commands scenario.commands
          before two now status (fit_read told role.Scene scenario.scene (file_as role.Timetable scenario.timetable ∷ []) scene_read scene_is scene_fits
          (fit_named told role.Timetable scenario.timetable [] timetable_read timetable_is timetable_fits tt)) (still_then ∙ still) (omega (arith, rose, rose_then)) stays rise answer;
      unread = named_unread shelf role.Commands scenario.commands two now status answer;
    }

-- the last of the files that are there was read to its end
pub last_read : {S : Type 0} (shelf : Ghosts S) (scenario : Scenario) (one two three : S) → IsRead shelf scenario.scene one → IsReadIfAny shelf scenario.timetable one two
    → IsReadIfAny shelf scenario.commands two three → IfSome (last_file (scenario_files scenario)) (λ file. IsRead shelf file three)
last_read {S} shelf scenario one two three scene timetable commands = of scenario.timetable scenario.commands timetable commands
  where
    of : (calls orders : Option (List ℕ)) → IsReadIfAny shelf calls one two → IsReadIfAny shelf orders two three
        → IfSome (or_else (or_else (or_else None orders) calls) (Some scenario.scene)) (λ file. IsRead shelf file three)
    of calls (Some orders) second third = third
    of (Some calls) None second third = subst (IsRead shelf calls) (sym third) second
    of None None second third = subst (IsRead shelf scenario.scene) (sym (third ∙ second)) scene

-- what is answered by a form that adds nothing is answered whatever the form adds
refused_any : (refusal : Refusal) (whole part : Type 0) (status : Status) → IsAnswer (Some refusal) ⊥ ⊥ status → IsAnswer (Some refusal) whole part status
refused_any refusal whole part Done answer = absurd answer.1
refused_any refusal whole part Usage answer = absurd answer
refused_any refusal whole part (Refused other) answer = answer
refused_any refusal whole part ReadFault answer = tt
refused_any refusal whole part WriteFault answer = absurd answer.1
refused_any refusal whole part OutOfMemory answer = tt
refused_any refusal whole part (CheckedNo line law) answer = absurd answer

-- and where it refuses nothing, whatever else is refused
accepted_any : (later : Option Refusal) (whole part : Type 0) (status : Status) → IsAnswer None ⊥ ⊥ status → IsAnswer later whole part status
accepted_any later whole part Done answer = absurd answer.1
accepted_any later whole part Usage answer = absurd answer
accepted_any later whole part (Refused other) answer = absurd (none-some other answer)
accepted_any later whole part ReadFault answer = tt
accepted_any later whole part WriteFault answer = absurd answer.1
accepted_any later whole part OutOfMemory answer = tt
accepted_any later whole part (CheckedNo line law) answer = absurd answer

-- so it is where sizes are refused, whatever else is refused behind the sizes
pub sizes_behind : (a b c later : Option Refusal) (whole part : Type 0) (status : Status) → IsAnswer (or_else a (or_else b (or_else c None))) ⊥ ⊥ status
    → IsAnswer (or_else a (or_else b (or_else c later))) whole part status
sizes_behind (Some refusal) b c later whole part status answer = refused_any refusal whole part status answer
sizes_behind None (Some refusal) c later whole part status answer = refused_any refusal whole part status answer
sizes_behind None None (Some refusal) later whole part status answer = refused_any refusal whole part status answer
sizes_behind None None None later whole part status answer = accepted_any later whole part status answer

-- what follows where a file was not read: with this status nothing is written, and no verdict ends the command
unread_ends : (P : Status → Type 0) → ((refusal : Refusal) → P (Refused refusal)) → P ReadFault → P OutOfMemory → (status : Status) → is_unread status ≡ true → P status
unread_ends P refused read memory Done is = absurd (false≢true is)
unread_ends P refused read memory Usage is = absurd (false≢true is)
unread_ends P refused read memory (Refused refusal) is = refused refusal
unread_ends P refused read memory ReadFault is = read
unread_ends P refused read memory WriteFault is = absurd (false≢true is)
unread_ends P refused read memory OutOfMemory is = memory
unread_ends P refused read memory (CheckedNo line law) is = absurd (false≢true is)

pub unread_done : (status : Status) → is_unread status ≡ true → done_with status ≡ status
unread_done = unread_ends (λ status. done_with status ≡ status) (λ refusal. refl) refl refl

-- the promise of every form is kept
pub keeps_unread : {S O : Type 0} (shelf : Ghosts S) (sink : SinkGhosts O) (scenario : Scenario) (later : List File) (before now : S) (out : O) (why status : Status) → status ≡ why
    → IsUnread shelf scenario before now why → KeepsPromise shelf sink (scenario_files scenario ++ later) before now out out status
keeps_unread {S} {O} shelf sink scenario later before now out why status is unread =
    subst (λ (s : Status). KeepsPromise shelf sink (scenario_files scenario ++ later) before now out out s) (sym is)
    (unread_ends (λ (s : Status). ReadsFiles shelf (scenario_files scenario ++ later) before now s → KeepsPromise shelf sink (scenario_files scenario ++ later) before now out out s)
    (λ refusal reads. kept (Refused refusal) (λ same. (cc)) (λ same. (cc)) reads)
    (λ reads. kept ReadFault (λ same. (cc)) (λ same. (cc)) reads)
    (λ reads. kept OutOfMemory (λ same. (cc)) (λ same. (cc)) reads) why unread.unread (unread.reads later))
  where
    kept : (s : Status) → s ≢ WriteFault → s ≢ Usage → ReadsFiles shelf (scenario_files scenario ++ later) before now s → KeepsPromise shelf sink (scenario_files scenario ++ later) before now out out s
    kept s not_write not_usage reads = record {
      reads = reads;
      writes = record { write_fault = λ same. absurd (not_write same); unwritten = λ none. refl; faults_never_fall = omega arith };
      in_table = not_usage;
    }

-- and the answer is that of the form
pub answers_unread : {S : Type 0} (shelf : Ghosts S) (refusal : Option Refusal → Input → Option Refusal) (whole part : Input → List Seat → Type 0) (scenario : Scenario) (deck : List DeskSeat) (before now : S)
    (why status : Status) → status ≡ why → IsUnread shelf scenario before now why → AnswersScenario refusal whole part scenario deck (shelf.told before) status
answers_unread shelf refusal whole part scenario deck before now why status is unread =
    let answer = unread.answer deck in
    subst (AnswersScenario refusal whole part scenario deck (shelf.told before)) (sym is) (record {
      all = λ bytes calls orders at calls_at orders_at. sizes_behind (too_large role.Scene bytes) (too_large_if_any role.Timetable calls) (too_large_if_any role.Commands orders)
          (refusal (input_refusal bytes calls orders (names_of deck)) (input_in bytes calls orders (names_of deck))) _ _ why (answer.all bytes calls orders at calls_at orders_at);
      of_size = answer.of_size;
      of_scene = answer.of_scene;
    })

-- the files were read: what a form answers that refuses this beside the input, behind which it refuses no more than that
module _ (refusal : Option Refusal → Input → Option Refusal) (late : Input → Option Refusal) (split : (first : Option Refusal) (input : Input) → refusal first input ≡ or_else first (late input))
    (whole part : Input → List Seat → Type 0) (scenario : Scenario) (deck : List DeskSeat) (told : Told) (status : Status) (files : ScenarioFiles) (held : IsHeld told scenario files) where
  abbrev Answers : List ℕ → Option (List ℕ) → Option (List ℕ) → Option Refusal → Type 0
  Answers b c o first = IsAnswer first (whole (input_in b c o (names_of deck)) (handed_in deck)) (part (input_in b c o (names_of deck)) (handed_in deck)) status

  abbrev scene : List ℕ
  scene = files.scene.items

  abbrev calls : Option (List ℕ)
  calls = content_of files.timetable

  abbrev orders : Option (List ℕ)
  orders = content_of files.commands

  abbrev first : Option Refusal
  first = refusal_in files (names_of deck)

  abbrev input : Input
  input = spelled_in files (names_of deck)

  of_plant : Answers scene calls orders (refusal first input) → Decides (plant_refusal scene) status
  of_plant answer =
      let whole_split : refusal first input ≡ or_else (plant_refusal scene) _ = split first input ∙ or_else_more (plant_refusal scene) _ (late input) in
      first_decides _ _ _ _ _ (subst (Answers scene calls orders) whole_split answer)

  -- the answer is to what they spell
  pub answers_held : Answers scene calls orders (refusal first input) → AnswersScenario refusal whole part scenario deck told status
  answers_held answer = record {
    all = λ bytes told_calls told_orders at calls_at orders_at.
        let Answer : List ℕ → Option (List ℕ) → Option (List ℕ) → Type 0 = λ b c o. Answers b c o (scenario_refusal refusal b c o deck) in
        subst (λ b. Answer b told_calls told_orders) (held.scene bytes at)
        (subst (λ c. Answer scene c told_orders) (held.timetable told_calls calls_at)
        (subst (λ o. Answer scene calls o) (held.commands told_orders orders_at)
        (answer_after (too_large role.Scene scene) _ _ _ status held.scene_fits
        (answer_after (too_large_if_any role.Timetable calls) _ _ _ status held.timetable_fits
        (answer_after (too_large_if_any role.Commands orders) _ _ _ status held.commands_fits answer)))));
    of_size = λ bytes at. none_decides (too_large role.Scene bytes) status (ap (too_large role.Scene) (sym (held.scene bytes at)) ∙ held.scene_fits);
    of_scene = λ bytes at not_timetable not_commands. subst (λ xs. Decides (or_else (too_large role.Scene xs) (plant_refusal xs)) status) (held.scene bytes at)
        (subst (λ (o : Option Refusal). Decides (or_else o (plant_refusal scene)) status) (sym held.scene_fits) (of_plant answer));
  }

  -- it is refused, or memory was wanting
  pub answers_refused : (why : Fault) → status ≡ status_of why → AnswersFirst first why → AnswersScenario refusal whole part scenario deck told status
  answers_refused why is answers = answers_held
      (subst (λ (o : Option Refusal). IsAnswer o (whole input (handed_in deck)) (part input (handed_in deck)) status) (sym (split first input))
      (subst (IsAnswer (or_else first (late input)) (whole input (handed_in deck)) (part input (handed_in deck))) (sym is) (of why answers)))
    where
      of : (why : Fault) → AnswersFirst first why → IsAnswer (or_else first (late input)) (whole input (handed_in deck)) (part input (handed_in deck)) (status_of why)
      of (fault.Refused refused) answers = ap (λ (o : Option Refusal). or_else o (late input)) answers
      of fault.OutOfMemory answers = tt

  -- or the run of this has begun
  pub answers_begun : (begun : Input) (seats : List Seat) → first ≡ None → begun ≡ input → seats ≡ handed_in deck
      → IsAnswer (late begun) (whole begun seats) (part begun seats) status → AnswersScenario refusal whole part scenario deck told status
  answers_begun begun seats none same same_seats answer = answers_held
      (subst (λ (o : Option Refusal). IsAnswer o (whole input (handed_in deck)) (part input (handed_in deck)) status) (sym (split first input))
      (answer_after first (late input) _ _ status none (answer_same late whole part begun input seats (handed_in deck) status same same_seats answer)))

-- what is promised where the input is refused behind the files, or memory was wanting
pub keeps_fault : {S O : Type 0} (shelf : Ghosts S) (sink : SinkGhosts O) (file : File) (files : List File) (before now : S) (out : O) (why : Fault) (status : Status)
    → IfSome (last_file (file ∷ files)) (λ name. IsRead shelf name now) → shelf.told now ≡ shelf.told before → shelf.faults before ≤ shelf.faults now
    → status ≡ status_of why → refuses_file why ≡ false → KeepsPromise shelf sink (file ∷ files) before now out out status
keeps_fault shelf sink file files before now out why status read stays rise is of_bytes =
    keeps_read shelf sink file files before now out out status read stays rise (ap is_of_bytes is ∙ of_bytes_fault why of_bytes) (unwritten_fault sink out why status is)

-- the files that were read fit
pub held_fit : (told : Told) (scenario : Scenario) (files : ScenarioFiles) → IsHeld told scenario files → AreFit told (scenario_files scenario)
held_fit told scenario files held =
    fit_read told role.Scene scenario.scene (file_as role.Timetable scenario.timetable ∷ file_as role.Commands scenario.commands ∷ []) files.scene.items held.scene held.scene_fits
    (fit_named told role.Timetable scenario.timetable (file_as role.Commands scenario.commands ∷ []) (content_of files.timetable) held.timetable held.timetable_fits
    (fit_named told role.Commands scenario.commands [] (content_of files.commands) held.commands held.commands_fits tt))
