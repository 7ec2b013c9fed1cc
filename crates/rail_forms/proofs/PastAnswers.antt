-- What is answered to lines that were written before, put together from what their files answer.
use Rattle.std.proofs.Common.{◌≡◌, ℕ, ◌≤◌, List, [], ◌∷◌, ◌++◌, Option, Some, None, refl, sym, ap, ◌∙◌, subst}
use Rattle.rail_base.specs.declared.refusals.Refusal.{Refusal}
use Rattle.rail_input.specs.Inputs.{input_in, input_refusal, plant_refusal}
use Rattle.rail_io.specs.declared.shelf.Shelf.{Ghosts}
use Rattle.rail_io.specs.declared.sink.Sink.{Ghosts as SinkGhosts}
use Rattle.rail_policy.specs.Seats.{DeskSeat, handed_in, names_of}
use Rattle.rail_rules.specs.Numbers.{or_else}
use Rattle.rail_rules.specs.Orders.{Input}
use Rattle.rail_rules.specs.RunHistories.{Seat}
use Rattle.rail_command_line.specs.Files.{file_as}
use Rattle.rail_command_line.specs.Forms.{Scenario, scenario_files}
use Rattle.rail_command_line.specs.declared.files.FileRole.{FileRole}
use Rattle.rail_command_line.specs.declared.files.FileRole.TheVariants as role
use Rattle.rail_forms.specs.declared.scenario.ScenarioFiles.{ScenarioFiles}
use Rattle.rail_forms.specs.declared.status.Status.{Status}
use Rattle.rail_forms.specs.declared.status.Status.TheVariants.{CheckedNo, Done, OutOfMemory, ReadFault, Refused, Usage, WriteFault}
use Rattle.rail_forms.specs.Answers.{Decides, IsAnswer, Told}
use Rattle.rail_forms.specs.Checks.{done_with}
use Rattle.rail_forms.specs.Files.{IsFileAnswer, content_of, too_large, too_large_if_any}
use Rattle.rail_forms.specs.Promises.{KeepsPromise}
use Rattle.rail_forms.specs.Pasts.{AnswersPast, past_refusal}
use Rattle.rail_forms.specs.Scenarios.{IsHeld, IsUnread, refusal_in, spelled_in}
use Rattle.rail_forms.proofs.Answers.{file_answer, none_decides, unread_decides}
use Rattle.rail_forms.proofs.Reading.{keeps_failed}
use Rattle.rail_forms.proofs.ScenarioAnswers.{held_fit, or_else_more, sizes_behind, unread_done}

-- a file that was not read ends no command with a verdict
file_done : {S : Type 0} (shelf : Ghosts S) (role : FileRole) (file : List ℕ) (before now : S) (status : Status) → IsFileAnswer shelf role file before now status → done_with status ≡ status
file_done shelf role file before now Done is = refl
file_done shelf role file before now Usage is = refl
file_done shelf role file before now (Refused refusal) is = refl
file_done shelf role file before now ReadFault is = refl
file_done shelf role file before now WriteFault is = refl
file_done shelf role file before now OutOfMemory is = refl
file_done shelf role file before now (CheckedNo line law) is = absurd is

-- what is answered to the bytes of the last file, where so much is refused without it: where a file before was not read, as to
-- any refusal of sizes; and the first refusal decides
pub record AreLines (Answers : Option Refusal → Input → List Seat → List ℕ → Type 0) (status : Status) : Type 1 where
  pub unread : (limit later : Option Refusal) (input : Input) (seats : List Seat) (text : List ℕ) → done_with status ≡ status
      → ((rest : Option Refusal) (whole part : Type 0) → IsAnswer (or_else limit rest) whole part status) → Answers (or_else limit later) input seats text
  pub of_first : (first : Option Refusal) (input : Input) (seats : List Seat) (text : List ℕ) → Answers first input seats text → Decides first status

module _ (last : FileRole) (Answers : Option Refusal → Input → List Seat → List ℕ → Type 0) (scenario : Scenario) (file : List ℕ) (deck : List DeskSeat) (status : Status)
    (lines : AreLines Answers status) where
  -- a file of the scenario was not read
  pub past_unread : {S : Type 0} (shelf : Ghosts S) (before now : S) (why : Status) → status ≡ why → IsUnread shelf scenario before now why
      → AnswersPast last Answers scenario file deck (shelf.told before) status
  past_unread {S} shelf before now why is unread_why =
      let unread : IsUnread shelf scenario before now status = subst (IsUnread shelf scenario before now) (sym is) unread_why in
      let answer = unread.answer deck in
      record {
        all = λ bytes calls orders text at calls_at orders_at text_at.
            let a : Option Refusal = too_large role.Scene bytes in
            let b : Option Refusal = too_large_if_any role.Timetable calls in
            let c : Option Refusal = too_large_if_any role.Commands orders in
            let rest : Option Refusal = or_else (too_large last text) (input_refusal bytes calls orders (names_of deck)) in
            let input : Input = input_in bytes calls orders (names_of deck) in
            subst (λ (o : Option Refusal). Answers o input (handed_in deck) text) (nested a b c rest)
            (lines.unread (or_else a (or_else b c)) rest input (handed_in deck) text (unread_done status unread.unread)
            (λ more whole part. subst (λ (o : Option Refusal). IsAnswer o whole part status) (sym (nested a b c more))
            (sizes_behind a b c more whole part status (answer.all bytes calls orders at calls_at orders_at))));
        of_size = answer.of_size;
        of_scene = λ bytes at not_second not_third not_last. answer.of_scene bytes at not_second not_third;
      }
    where
      nested : (a b c d : Option Refusal) → or_else (or_else a (or_else b c)) d ≡ or_else a (or_else b (or_else c d))
      nested a b c d = or_else_more a (or_else b c) d ∙ ap (or_else a) (or_else_more b c d)

  -- the files of the scenario were read
  module _ (told : Told) (files : ScenarioFiles) (held : IsHeld told scenario files) where
    fits : (bytes : List ℕ) → told scenario.scene ≡ Some bytes → too_large role.Scene bytes ≡ None
    fits bytes at = ap (too_large role.Scene) (sym (held.scene bytes at)) ∙ held.scene_fits

    after : (first later : Option Refusal) (input : Input) (text : List ℕ) → first ≡ None → Answers later input (handed_in deck) text → Answers (or_else first later) input (handed_in deck) text
    after first later input text none answer = subst (λ (o : Option Refusal). Answers (or_else o later) input (handed_in deck) text) (sym none) answer

    -- but not the last one
    pub lines_unread : {S : Type 0} (shelf : Ghosts S) (one two : S) (why : Status) → status ≡ why → shelf.told one ≡ told → IsFileAnswer shelf last file one two why
        → AnswersPast last Answers scenario file deck told status
    lines_unread shelf one two why is still why_answer =
        let answer : IsFileAnswer shelf last file one two status = subst (IsFileAnswer shelf last file one two) (sym is) why_answer in
        record {
          all = λ bytes calls orders text at calls_at orders_at text_at.
              let of_input : Option Refusal = input_refusal bytes calls orders (names_of deck) in
              let input : Input = input_in bytes calls orders (names_of deck) in
              let after_third : Option Refusal = or_else (too_large last text) of_input in
              let after_second : Option Refusal = or_else (too_large_if_any role.Commands orders) after_third in
              after (too_large role.Scene bytes) (or_else (too_large_if_any role.Timetable calls) after_second) input text (fits bytes at)
              (after (too_large_if_any role.Timetable calls) after_second input text (ap (too_large_if_any role.Timetable) (sym (held.timetable calls calls_at)) ∙ held.timetable_fits)
              (after (too_large_if_any role.Commands orders) after_third input text (ap (too_large_if_any role.Commands) (sym (held.commands orders orders_at)) ∙ held.commands_fits)
              (lines.unread (too_large last text) of_input input (handed_in deck) text (file_done shelf last file one two status answer)
              (λ rest whole part. file_answer shelf last file one two text rest whole part status answer (ap (λ (t : Told). t file) still ∙ text_at)))));
          of_size = λ bytes at. none_decides (too_large role.Scene bytes) status (fits bytes at);
          of_scene = λ bytes at not_second not_third not_last. unread_decides shelf last file one two _ status answer not_last;
        }

    -- all were
    pub lines_read : (text_read : List ℕ) → ((text : List ℕ) → told file ≡ Some text → text_read ≡ text) → too_large last text_read ≡ None
        → Answers (refusal_in files (names_of deck)) (spelled_in files (names_of deck)) (handed_in deck) text_read → AnswersPast last Answers scenario file deck told status
    lines_read text_read text_is text_fits answer = record {
      all = λ bytes told_calls told_orders text at calls_at orders_at text_at.
          let Answer : List ℕ → Option (List ℕ) → Option (List ℕ) → List ℕ → Type 0 = λ b c o h. Answers (past_refusal last b c o h deck) (input_in b c o (names_of deck)) (handed_in deck) h in
          let scene : List ℕ = files.scene.items in
          let calls : Option (List ℕ) = content_of files.timetable in
          let orders : Option (List ℕ) = content_of files.commands in
          let of_input : Option Refusal = input_refusal scene calls orders (names_of deck) in
          let input : Input = input_in scene calls orders (names_of deck) in
          let after_third : Option Refusal = or_else (too_large last text_read) of_input in
          let after_second : Option Refusal = or_else (too_large_if_any role.Commands orders) after_third in
          subst (λ b. Answer b told_calls told_orders text) (held.scene bytes at)
          (subst (λ c. Answer scene c told_orders text) (held.timetable told_calls calls_at)
          (subst (λ o. Answer scene calls o text) (held.commands told_orders orders_at)
          (subst (λ h. Answer scene calls orders h) (text_is text text_at)
          (after (too_large role.Scene scene) (or_else (too_large_if_any role.Timetable calls) after_second) input text_read held.scene_fits
          (after (too_large_if_any role.Timetable calls) after_second input text_read held.timetable_fits
          (after (too_large_if_any role.Commands orders) after_third input text_read held.commands_fits
          (after (too_large last text_read) of_input input text_read text_fits answer)))))));
      of_size = λ bytes at. none_decides (too_large role.Scene bytes) status (fits bytes at);
      of_scene = λ bytes at not_second not_third not_last. subst (λ xs. Decides (or_else (too_large role.Scene xs) (plant_refusal xs)) status) (held.scene bytes at)
          (subst (λ (o : Option Refusal). Decides (or_else o (plant_refusal files.scene.items)) status) (sym held.scene_fits)
          (of_plant (plant_refusal files.scene.items) _ status (lines.of_first (refusal_in files (names_of deck)) (spelled_in files (names_of deck)) (handed_in deck) text_read answer)));
    }
      where
        of_plant : (first later : Option Refusal) (end : Status) → Decides (or_else first later) end → Decides first end
        of_plant None later end h = tt
        of_plant (Some refusal) later end h = h

-- what is promised where the last file was not read
pub keeps_lines : {S O : Type 0} (shelf : Ghosts S) (sink : SinkGhosts O) (scenario : Scenario) (last : FileRole) (file : List ℕ) (before one now : S) (out : O) (why status : Status) → status ≡ why
    → (files : ScenarioFiles) → IsHeld (shelf.told before) scenario files → shelf.told one ≡ shelf.told before → shelf.faults before ≤ shelf.faults one
    → shelf.told now ≡ shelf.told one → shelf.faults one ≤ shelf.faults now → IsFileAnswer shelf last file one now why
    → KeepsPromise shelf sink (scenario_files scenario ++ file_as last (Some file) ∷ []) before now out out status
keeps_lines shelf sink scenario last file before one now out why status is files held still rose stays rise answer =
    subst (λ (s : Status). KeepsPromise shelf sink (scenario_files scenario ++ file_as last (Some file) ∷ []) before now out out s) (sym is)
    (keeps_failed shelf (scenario_files scenario) [] last file before one now (held_fit (shelf.told before) scenario files held) still rose stays rise sink out why answer)
