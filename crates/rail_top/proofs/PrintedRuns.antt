-- What `run` printed is answered yes by `check`, and what `save` printed is resumed.
use Rattle.std.proofs.Common.{◌≡◌, ℕ, ◌≤◌, ◌++◌, Bool, true, false, List, length, Option, Some, None, refl, sym, ap, ◌∙◌, subst}
use Rattle.std.specs.Prelude.{codes, reverse}
use Rattle.std.specs.Option.{option_map}
use Rattle.std.proofs.lemmas.Bool.{false≢true}
use Rattle.std.proofs.lemmas.List.{append_cancel_left}
use Rattle.std.proofs.lemmas.Option.{none-some, same_Some}
use Rattle.rail_base.specs.Limits.{most, HistoryBytes}
use Rattle.rail_base.specs.declared.refusals.Reason.TheVariants.{SnapshotOther}
use Rattle.rail_base.specs.declared.refusals.Refusal.{Refusal}
use Rattle.rail_check.proofs.CallerLemmas.{printed}
use Rattle.rail_history.specs.HistoryLines.{IsHistory}
use Rattle.rail_input.specs.Inputs.{input_in, input_refusal}
use Rattle.rail_io.specs.Writes.{Adds, AddsPrefix}
use Rattle.rail_laws_verdict.specs.Verdicts.{Verdict, verdict}
use Rattle.rail_laws_verdict.specs.Verdicts.Verdict.{yes}
use Rattle.rail_policy.specs.Seats.{DeskSeat, handed_in, names_of}
use Rattle.rail_rules.specs.Fronts.{Front, Line}
use Rattle.rail_rules.specs.Numbers.{or_else}
use Rattle.rail_rules.specs.Orders.{Input}
use Rattle.rail_rules.specs.Texts.{text}
use Rattle.rail_save.specs.Snapshots.{IsSnapshot, snapshot}
use Rattle.rail_save.proofs.CallerLemmas.{saved_resumed}
use Rattle.rail_text.specs.Lines.{refusal_at}
use Rattle.rail_forms.specs.declared.status.Status.{Status}
use Rattle.rail_forms.specs.declared.status.Status.TheVariants.{Done, Usage, Refused, ReadFault, WriteFault, OutOfMemory, CheckedNo}
use Rattle.rail_forms.specs.Answers.{IsAnswer, Told}
use Rattle.rail_forms.specs.Checks.{AnswersCheck, IsJudged, done_with, status_judged, verdict_text}
use Rattle.rail_forms.specs.Pasts.{past_refusal}
use Rattle.rail_forms.specs.Snapshots.{AnswersResume, AnswersSave, ResumesInput, ResumesInputInPart, lines_refusal}
use Rattle.rail_command_line.specs.Forms.{Scenario}
use Rattle.rail_command_line.specs.declared.files.FileRole.TheVariants as role
use Rattle.rail_forms.specs.Files.{told_of, too_large, too_large_if_any}
use Rattle.rail_forms.specs.Runs.{AnswersRun}
use Rattle.rail_forms.proofs.CallerLemmas.{short_enough}

-- one more refusal that does not come
none_between : (a b c d last : Option Refusal) → or_else a (or_else b (or_else c last)) ≡ None → d ≡ None → or_else a (or_else b (or_else c (or_else d last))) ≡ None
none_between (Some a) b c d last none absent = absurd (none-some a (sym none))
none_between None (Some b) c d last none absent = absurd (none-some b (sym none))
none_between None None (Some c) d last none absent = absurd (none-some c (sym none))
none_between None None None d last none absent = ap (λ (o : Option Refusal). or_else o last) absent ∙ none

-- the status is that of a history that is not lawful to its end
abbrev is_no : Status → Bool
is_no (CheckedNo line law) = true
is_no _ = false

-- the answer where the verdict is yes
answered_yes : (input : Input) (lines : List Line) (out now : Option (List ℕ)) → verdict input lines ≡ yes → (status : Status)
    → IsAnswer None (IsJudged input lines out now status) (AddsPrefix out now (verdict_text (verdict input lines))) (done_with status)
    → IsAnswer None (Adds out now (codes "yes\n")) (AddsPrefix out now (codes "yes\n")) status
answered_yes input lines out now is Done answer = (answer.0, subst (λ (said : Verdict). Adds out now (verdict_text said)) is answer.1.adds)
answered_yes input lines out now is Usage answer = answer
answered_yes input lines out now is (Refused refusal) answer = answer
answered_yes input lines out now is ReadFault answer = tt
answered_yes input lines out now is WriteFault answer = (answer.0, subst (λ (said : Verdict). AddsPrefix out now (verdict_text said)) is answer.1)
answered_yes input lines out now is OutOfMemory answer = tt
answered_yes input lines out now is (CheckedNo line law) answer =
    absurd (false≢true (sym (ap is_no (answer.1.ends ∙ ap status_judged is))))

pub checked_with_yes : (scenario : Scenario) (deck : List DeskSeat) (told : Told) (bytes : List ℕ) (calls orders : Option (List ℕ))
    → told scenario.scene ≡ Some bytes → told_of told scenario.timetable ≡ Some calls
    → told_of told scenario.commands ≡ Some orders
    → (before added : List ℕ) → AnswersRun scenario deck told (Some before) (Some (before ++ added)) Done
    → (history : List ℕ) → told history ≡ Some added → length added ≤ most HistoryBytes
    → (out now : Option (List ℕ)) (end : Status)
    → AnswersCheck scenario history deck told out now end
    → IsAnswer None (Adds out now (codes "yes\n")) (AddsPrefix out now (codes "yes\n")) end
checked_with_yes scenario deck told bytes calls orders scene_told calls_told orders_told before added ran history history_told short out now end checked =
    let input : Input = input_in bytes calls orders (names_of deck) in
    let run = ran.all bytes calls orders scene_told calls_told orders_told in
    let front : Front = run.1.front in
    let lines : List Line = reverse front in
    let text_is : text input.plant front ≡ added =
    append_cancel_left before (text input.plant front) added (same_Some (before ++ text input.plant front) (before ++ added) (run.1.adds.appended (before ++ added) refl)) in
    let both = printed input run.1.run.accepted (handed_in deck) front run.1.run.is_run.history in
    let spelled : IsHistory input.plant added lines = subst (λ (bytes : List ℕ). IsHistory input.plant bytes lines) text_is both.0 in
    let answer = (checked.all bytes calls orders added scene_told calls_told orders_told history_told).read lines spelled in
    let none : past_refusal role.History bytes calls orders added deck ≡ None =
    none_between (too_large role.Scene bytes) (too_large_if_any role.Timetable calls) (too_large_if_any role.Commands orders) (too_large role.History added) (input_refusal bytes calls orders (names_of deck)) run.0 (short_enough role.History added short) in
    answered_yes input lines out now both.1 end
    (subst (λ (first : Option Refusal). IsAnswer first (IsJudged input lines out now end) (AddsPrefix out now (verdict_text (verdict input lines))) (done_with end)) none answer)

pub saved_resumed_by_forms : (scenario : Scenario) (deck : List DeskSeat) (told : Told) (bytes : List ℕ) (calls orders : Option (List ℕ))
    → told scenario.scene ≡ Some bytes → told_of told scenario.timetable ≡ Some calls
    → told_of told scenario.commands ≡ Some orders
    → (count : ℕ) (before saved : List ℕ) → AnswersSave count scenario deck told (Some before) (Some (before ++ saved)) Done
    → (file : List ℕ) → told file ≡ Some saved → length saved ≤ most HistoryBytes
    → (out now : Option (List ℕ)) (end : Status)
    → AnswersResume scenario file deck told out now end
    → let input = input_in bytes calls orders (names_of deck) in
    (lines : List Line) × IsSnapshot input.plant saved lines
    × IsAnswer None (ResumesInput lines input (handed_in deck) out now) (ResumesInputInPart lines input (handed_in deck) out now) end
saved_resumed_by_forms scenario deck told bytes calls orders scene_told calls_told orders_told count before saved was_saved file file_told short out now end resumed =
    let input : Input = input_in bytes calls orders (names_of deck) in
    let run = was_saved.all bytes calls orders scene_told calls_told orders_told in
    let front : Front = run.1.front in
    let lines : List Line = reverse front in
    let text_is : snapshot input.plant front ≡ saved =
    append_cancel_left before (snapshot input.plant front) saved (same_Some (before ++ snapshot input.plant front) (before ++ saved) (run.1.adds.appended (before ++ saved) refl)) in
    let both = saved_resumed input run.1.run.part.accepted (handed_in deck) front run.1.run.part.run in
    let spelled : IsSnapshot input.plant saved lines = subst (λ (bytes : List ℕ). IsSnapshot input.plant bytes lines) text_is both.0 in
    let answer = (resumed.all bytes calls orders saved scene_told calls_told orders_told file_told).read lines spelled in
    let none : past_refusal role.Snapshot bytes calls orders saved deck ≡ None =
    none_between (too_large role.Scene bytes) (too_large_if_any role.Timetable calls) (too_large_if_any role.Commands orders) (too_large role.Snapshot saved) (input_refusal bytes calls orders (names_of deck)) run.0 (short_enough role.Snapshot saved short) in
    let all : or_else (past_refusal role.Snapshot bytes calls orders saved deck) (lines_refusal input (handed_in deck) lines) ≡ None =
    ap (λ (o : Option Refusal). or_else o (lines_refusal input (handed_in deck) lines)) none ∙ ap (option_map (refusal_at SnapshotOther)) both.1 in
    (lines, spelled, subst (λ (first : Option Refusal). IsAnswer first (ResumesInput lines input (handed_in deck) out now) (ResumesInputInPart lines input (handed_in deck) out now) end) all answer)
