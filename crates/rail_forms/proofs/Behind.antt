-- What the run of a scenario is refused for, behind all that is refused before it.
use Rattle.std.proofs.Common.{◌≡◌, ℕ, ◌⊎◌, List, Option, Some, None, inl, inr, refl, sym, ap, ◌∙◌, subst}
use Rattle.std.proofs.lemmas.Option.{none-some, same_Some}
use Rattle.rail_base.specs.Refusals.{AnswersFirst}
use Rattle.rail_base.specs.declared.refusals.Fault.{Fault}
use Rattle.rail_base.specs.declared.refusals.Fault.TheVariants as fault
use Rattle.rail_base.specs.declared.refusals.Refusal.{Refusal}
use Rattle.rail_capacity.specs.declared.compression.Window.{Window}
use Rattle.rail_input.specs.Inputs.{input_in, input_refusal}
use Rattle.rail_io.specs.Writes.{Adds, AddsPrefix}
use Rattle.rail_io.specs.declared.shelf.Shelf.{Ghosts}
use Rattle.rail_io.specs.declared.sink.Sink.{Ghosts as SinkGhosts}
use Rattle.rail_policy.specs.Seats.{DeskSeat, handed_in, names_of}
use Rattle.rail_rules.specs.Numbers.{or_else}
use Rattle.rail_rules.specs.Orders.{Input}
use Rattle.rail_rules.specs.RunHistories.{Seat}
use Rattle.rail_command_line.specs.Forms.{Scenario, scenario_files}
use Rattle.rail_command_line.specs.declared.files.FileRole.TheVariants as role
use Rattle.rail_forms.specs.declared.scenario.ScenarioFiles.{ScenarioFiles}
use Rattle.rail_forms.specs.declared.status.Status.{Status}
use Rattle.rail_forms.specs.declared.status.Status.TheVariants.{CheckedNo, Done, OutOfMemory, ReadFault, Refused, Usage, WriteFault}
use Rattle.rail_forms.specs.Answers.{IsAnswer, Told, status_of}
use Rattle.rail_forms.specs.Files.{content_of, told_of, too_large, too_large_if_any}
use Rattle.rail_forms.specs.Insertions.{AnswersPaths, IsInsertionText, IsPathsAnswer, IsRefusedRun, refused_with, train_refusal, with_train}
use Rattle.rail_forms.specs.NotedRuns.{ReportsRun}
use Rattle.rail_forms.specs.Promises.{KeepsPromise}
use Rattle.rail_forms.specs.Scenarios.{AnswersScenario, IsHeld, IsUnread, nothing_else, refusal_in, scenario_refusal, spelled_in}
use Rattle.rail_forms.proofs.ScenarioAnswers.{answers_begun, answers_refused, answers_unread, runs_same}

-- where nothing is refused first, no refusal is answered
never_refused : (first : Option Refusal) (whole part : Type 0) (status : Status) → IsAnswer first whole part status → first ≡ None
    → (refusal : Refusal) → status ≡ Refused refusal → ⊥
never_refused first whole part status answer none refusal is = none-some refusal (sym none ∙ subst (λ (s : Status). IsAnswer first whole part s) is answer)

no_refusal : (refusal : Refusal) → OutOfMemory ≡ Refused refusal → ⊥
no_refusal refusal is = cc

-- what an error of a call ends with, where it is no refusal
pub no_refusal_of : (status end : Status) → status ≡ end → refused_with end ≡ None → (X : Refusal → Type 0) → (refusal : Refusal) → status ≡ Refused refusal → X refusal
no_refusal_of status end is none X refusal ends = absurd (none-some refusal (sym none ∙ ap refused_with (sym is ∙ ends)))

-- a fault that refuses
pub fault_refuses : (why : Fault) (status : Status) (refusal : Refusal) → status ≡ status_of why → status ≡ Refused refusal → why ≡ fault.Refused refusal
fault_refuses why status refusal is ends = of why (sym is ∙ ends)
  where
    of : (why : Fault) → status_of why ≡ Refused refusal → why ≡ fault.Refused refusal
    of (fault.Refused other) same = ap fault.Refused (same_Some other refusal (ap refused_with same))
    of fault.OutOfMemory same = absurd (no_refusal refusal same)

-- the word for the train is refused, so that nothing is refused behind it
pub word_refused : (first late : Option Refusal) (whole part : Type 0) (why : Fault) (status : Status) → status ≡ status_of why → AnswersFirst first why → IsAnswer (or_else first late) whole part status
word_refused first late whole part why status is answers = subst (IsAnswer (or_else first late) whole part) (sym is) (of why answers)
  where
    of : (why : Fault) → AnswersFirst first why → IsAnswer (or_else first late) whole part (status_of why)
    of (fault.Refused refusal) answers = ap (λ (o : Option Refusal). or_else o late) answers
    of fault.OutOfMemory answers = tt

pub word_refuses : (first : Option Refusal) (why : Fault) (status : Status) (X : Refusal → Type 0) → status ≡ status_of why → AnswersFirst first why
    → (refusal : Refusal) → status ≡ Refused refusal → first ≡ None → X refusal
word_refuses first why status X is answers refusal ends none =
    absurd (never_refused first (Unit {0}) (Unit {0}) status (subst (λ (o : Option Refusal). IsAnswer o (Unit {0}) (Unit {0}) status) (or_else_same first) (word_refused first None (Unit {0}) (Unit {0}) why status is answers)) none refusal ends)
  where
    or_else_same : (o : Option Refusal) → or_else o None ≡ o
    or_else_same None = refl
    or_else_same (Some other) = refl

-- what the run refuses is answered, where the word is not refused
pub run_refused : (first : Option Refusal) (whole part : Type 0) (why : Fault) (status : Status) → first ≡ None → status ≡ status_of why → IsAnswer (or_else first (refused_with status)) whole part status
run_refused first whole part why status none is =
    subst (λ (o : Option Refusal). IsAnswer (or_else o (refused_with status)) whole part status) (sym none) (subst (λ (s : Status). IsAnswer (refused_with s) whole part s) (sym is) (of why))
  where
    of : (why : Fault) → IsAnswer (refused_with (status_of why)) whole part (status_of why)
    of (fault.Refused refusal) = refl
    of fault.OutOfMemory = tt

-- where nothing is refused, a text that was not written to its end is told in part
pub run_cut : (first : Option Refusal) (whole part : Type 0) (status : Status) → first ≡ None → status ≡ WriteFault → part → IsAnswer (or_else first (refused_with status)) whole part status
run_cut first whole part status none is written =
    subst (λ (o : Option Refusal). IsAnswer (or_else o (refused_with status)) whole part status) (sym none) (subst (λ (s : Status). IsAnswer (refused_with s) whole part s) (sym is) (refl, written))

last_none : (a b : Option Refusal) → or_else a b ≡ None → b ≡ None
last_none None b none = none
last_none (Some refusal) b none = absurd (none-some refusal (sym none))

-- a refusal is the first one, or none of these refuses
of_these : (a b c d e : Option Refusal) (refusal : Refusal) (X : Type 0)
    → or_else a (or_else b (or_else c (or_else d (or_else e (Some refusal))))) ≡ Some refusal
    → (or_else a (or_else b (or_else c d)) ≡ None → e ≡ None → X)
    → (or_else a (or_else b (or_else c (or_else d (or_else e None)))) ≡ Some refusal) ⊎ ((or_else a (or_else b (or_else c (or_else d (or_else e None)))) ≡ None) × X)
of_these (Some first) b c d e refusal X is late = inl is
of_these None (Some first) c d e refusal X is late = inl is
of_these None None (Some first) d e refusal X is late = inl is
of_these None None None (Some first) e refusal X is late = inl is
of_these None None None None (Some first) refusal X is late = inl is
of_these None None None None None refusal X is late = inr (refl, late refl refl)

-- what is answered to paths, by what is answered to the scenario and what is refused behind it
module _ (word : List ℕ) (window : Window) (count : ℕ) (scenario : Scenario) (deck : List DeskSeat) (told : Told) (before now : Option (List ℕ)) where
  abbrev Whole : Input → List Seat → Type 0
  Whole input seats = ReportsRun (IsInsertionText word window count) input seats (Adds before now)

  abbrev Part : Input → List Seat → Type 0
  Part input seats = ReportsRun (IsInsertionText word window count) input seats (AddsPrefix before now)

  abbrev refused : Option Refusal → List ℕ → Option (List ℕ) → Option (List ℕ) → Option Refusal
  refused late b c o = scenario_refusal (with_train word late) b c o deck

  abbrev spelled : List ℕ → Option (List ℕ) → Option (List ℕ) → Input
  spelled b c o = input_in b c o (names_of deck)

  abbrev Behind : Status → List ℕ → Option (List ℕ) → Option (List ℕ) → Type 0
  Behind status b c o = scenario_refusal nothing_else b c o deck ≡ None → (refusal : Refusal) → status ≡ Refused refusal
      → train_refusal (spelled b c o).plant word ≡ None → IsRefusedRun word window refusal (spelled b c o) (handed_in deck)

  by_status : (status : Status) (b : List ℕ) (c o : Option (List ℕ)) → IsAnswer (refused (refused_with status) b c o) (Whole (spelled b c o) (handed_in deck)) (Part (spelled b c o) (handed_in deck)) status
      → Behind status b c o → IsPathsAnswer word window count (refused None b c o) (spelled b c o) (handed_in deck) before now status
  by_status Done b c o answer behind = answer
  by_status Usage b c o answer behind = answer
  by_status (Refused refusal) b c o answer behind =
      of_these (too_large role.Scene b) (too_large_if_any role.Timetable c) (too_large_if_any role.Commands o) (input_refusal b c o (names_of deck)) (train_refusal (spelled b c o).plant word)
      refusal (IsRefusedRun word window refusal (spelled b c o) (handed_in deck)) answer (λ none known. behind none refusal refl known)
  by_status ReadFault b c o answer behind = tt
  by_status WriteFault b c o answer behind = answer
  by_status OutOfMemory b c o answer behind = tt
  by_status (CheckedNo line law) b c o answer behind = answer

  pub paths_answered : (status : Status) → AnswersScenario (with_train word (refused_with status)) Whole Part scenario deck told status
      → ((bytes : List ℕ) (calls orders : Option (List ℕ)) → told scenario.scene ≡ Some bytes → told_of told scenario.timetable ≡ Some calls
      → told_of told scenario.commands ≡ Some orders → Behind status bytes calls orders)
      → AnswersPaths word window count scenario deck told before now status
  paths_answered status answer behind = record {
    all = λ bytes calls orders at calls_at orders_at. by_status status bytes calls orders (answer.all bytes calls orders at calls_at orders_at) (behind bytes calls orders at calls_at orders_at);
    of_size = answer.of_size;
    of_scene = answer.of_scene;
  }

  -- where a file was not read nothing is refused behind the sizes
  pub paths_unread : {S : Type 0} (shelf : Ghosts S) (one two : S) (why status : Status) → status ≡ why → shelf.told one ≡ told → IsUnread shelf scenario one two why
      → AnswersPaths word window count scenario deck told before now status
  paths_unread shelf one two why status is still unread = paths_answered status
      (subst (λ (t : Told). AnswersScenario (with_train word (refused_with status)) Whole Part scenario deck t status) still
      (answers_unread shelf (with_train word (refused_with status)) Whole Part scenario deck one two why status is unread))
      (λ bytes calls orders at calls_at orders_at none refusal ends known.
      let first = subst (λ (t : Told). AnswersScenario nothing_else Whole Part scenario deck t status) still (answers_unread shelf nothing_else Whole Part scenario deck one two why status is unread) in
      absurd (never_refused _ _ _ status (first.all bytes calls orders at calls_at orders_at) none refusal ends))

  -- the files were read
  module _ (status : Status) (files : ScenarioFiles) (held : IsHeld told scenario files) where
    abbrev first : Option Refusal
    first = refusal_in files (names_of deck)

    abbrev input : Input
    input = spelled_in files (names_of deck)

    -- what is refused behind what they spell is refused behind what they hold
    behind_held : (first ≡ None → (refusal : Refusal) → status ≡ Refused refusal → train_refusal input.plant word ≡ None → IsRefusedRun word window refusal input (handed_in deck))
        → (bytes : List ℕ) (calls orders : Option (List ℕ)) → told scenario.scene ≡ Some bytes → told_of told scenario.timetable ≡ Some calls → told_of told scenario.commands ≡ Some orders
        → Behind status bytes calls orders
    behind_held behind = λ bytes calls orders at calls_at orders_at none.
        let Holds : List ℕ → Option (List ℕ) → Option (List ℕ) → Type 0 = λ b c o. input_refusal b c o (names_of deck) ≡ None
        → (refusal : Refusal) → status ≡ Refused refusal → train_refusal (spelled b c o).plant word ≡ None → IsRefusedRun word window refusal (spelled b c o) (handed_in deck) in
        subst (λ b. Holds b calls orders) (held.scene bytes at)
        (subst (λ c. Holds files.scene.items c orders) (held.timetable calls calls_at)
        (subst (λ o. Holds files.scene.items (content_of files.timetable) o) (held.commands orders orders_at) behind))
        (last_none (too_large_if_any role.Commands orders) (input_refusal bytes calls orders (names_of deck))
        (last_none (too_large_if_any role.Timetable calls) (or_else (too_large_if_any role.Commands orders) (input_refusal bytes calls orders (names_of deck)))
        (last_none (too_large role.Scene bytes) (or_else (too_large_if_any role.Timetable calls) (or_else (too_large_if_any role.Commands orders) (input_refusal bytes calls orders (names_of deck)))) none)))

    abbrev late : Input → Option Refusal
    late input = or_else (train_refusal input.plant word) (refused_with status)

    -- they are refused, or memory was wanting
    pub paths_refused : (why : Fault) → status ≡ status_of why → AnswersFirst first why → AnswersPaths word window count scenario deck told before now status
    paths_refused why is answers = paths_answered status
        (answers_refused (with_train word (refused_with status)) late (λ first input. refl) Whole Part scenario deck told status files held why is answers)
        (behind_held (λ none refusal ends known. absurd (never_refused first (Unit {0}) (Unit {0}) status (of why is answers) none refusal ends)))
      where
        of : (why : Fault) → status ≡ status_of why → AnswersFirst first why → IsAnswer first (Unit {0}) (Unit {0}) status
        of (fault.Refused refusal) is answers = subst (IsAnswer first (Unit {0}) (Unit {0})) (sym is) answers
        of fault.OutOfMemory is answers = subst (IsAnswer first (Unit {0}) (Unit {0})) (sym is) tt

    -- or the run of this has begun
    pub paths_begun : (begun : Input) (seats : List Seat) → first ≡ None → begun ≡ input → seats ≡ handed_in deck
        → IsAnswer (late begun) (Whole begun seats) (Part begun seats) status
        → ((refusal : Refusal) → status ≡ Refused refusal → train_refusal begun.plant word ≡ None → IsRefusedRun word window refusal begun seats)
        → AnswersPaths word window count scenario deck told before now status
    paths_begun begun seats none same same_seats answer behind = paths_answered status
        (answers_begun (with_train word (refused_with status)) late (λ first input. refl) Whole Part scenario deck told status files held begun seats none same same_seats answer)
        (behind_held (λ accepted. runs_same (λ i s. (refusal : Refusal) → status ≡ Refused refusal → train_refusal i.plant word ≡ None → IsRefusedRun word window refusal i s)
        begun input seats (handed_in deck) same same_seats behind))

-- the same of paths that are equal
pub same_paths : (word other_word : List ℕ) (window : Window) (count other_count : ℕ) (scenario other : Scenario) → word ≡ other_word → count ≡ other_count → scenario ≡ other
    → (deck : List DeskSeat) (told : Told) (before now : Option (List ℕ)) (status : Status)
    → AnswersPaths word window count scenario deck told before now status → AnswersPaths other_word window other_count other deck told before now status
same_paths word other_word window count other_count scenario other same_word same_count same deck told before now status answer =
    subst (λ (w : List ℕ). AnswersPaths w window other_count other deck told before now status) same_word
    (subst (λ (k : ℕ). AnswersPaths word window k other deck told before now status) same_count
    (subst (λ (s : Scenario). AnswersPaths word window count s deck told before now status) same answer))

-- what is promised of the files of one scenario is promised of those of an equal one
pub keeps_same : {S O : Type 0} (shelf : Ghosts S) (sink : SinkGhosts O) (scenario other : Scenario) (before now : S) (out out_now : O) (status : Status) → scenario ≡ other
    → KeepsPromise shelf sink (scenario_files scenario) before now out out_now status → KeepsPromise shelf sink (scenario_files other) before now out out_now status
keeps_same shelf sink scenario other before now out out_now status same kept = subst (λ (s : Scenario). KeepsPromise shelf sink (scenario_files s) before now out out_now status) same kept
