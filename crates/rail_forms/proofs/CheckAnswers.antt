-- What a check answers to a history.
use Rattle.std.proofs.Common.{◌≡◌, ℕ, List, length, map, true, Option, Some, None, refl, sym, ap, ◌∙◌, subst}
use Rattle.rail_base.specs.Refusals.{AnswersFirst}
use Rattle.rail_base.specs.declared.refusals.Fault.{Fault}
use Rattle.rail_base.specs.declared.refusals.Fault.TheVariants as fault
use Rattle.rail_base.specs.declared.refusals.Reason.TheVariants.{HistoryForm}
use Rattle.rail_base.specs.declared.refusals.Refusal.{Refusal}
use Rattle.rail_history.specs.HistoryLines.{IsHistory, IsRefusedIn}
use Rattle.rail_history.proofs.CallerLemmas.{no_history, one_history, one_wrong}
use Rattle.rail_io.specs.Writes.{Adds, AddsPrefix}
use Rattle.rail_laws_verdict.specs.Verdicts.{Verdict, verdict}
use Rattle.rail_laws_verdict.specs.Verdicts.Verdict.{yes, no}
use Rattle.rail_laws_verdict.proofs.CallerLemmas.{judged, yes_means}
use Rattle.rail_base.specs.Limits.{is_from_one, most, Policies}
use Rattle.rail_policy.proofs.CallerLemmas.{fine_names}
use Rattle.rail_policy.specs.Seats.{DeskSeat, is_fine_deck, names_of}
use Rattle.rail_rules.specs.Fronts.{Line}
use Rattle.rail_rules.specs.Numbers.{or_else}
use Rattle.rail_rules.specs.Orders.{Input}
use Rattle.rail_rules.specs.Accepted.{are_distinct_names, is_accepted_input}
use Rattle.rail_rules.specs.Plant.{Plant}
use Rattle.rail_rules.specs.WritableLines.{IsNamed}
use Rattle.rail_laws_events.proofs.CallerLemmas.{input_parts}
use Rattle.rail_laws_text.proofs.CallerLemmas.{accepted_named}
use Rattle.rail_text.specs.Lines.{refusal_at}
use Rattle.rail_ledger.specs.declared.input.RunInput.{RunInput}
use Rattle.rail_ledger.specs.Inputs.{input_in as checked_input}
use Rattle.rail_forms.specs.declared.status.Status.{Status}
use Rattle.rail_forms.specs.declared.status.Status.TheVariants.{Done, OutOfMemory, Refused, WriteFault}
use Rattle.rail_forms.specs.Answers.{Decides, IsAnswer, status_of}
use Rattle.rail_forms.specs.Checks.{AnswersHistory, IsJudged, IsSaid, done_with, status_judged, verdict_text}
use Rattle.rail_forms.proofs.Answers.{answer_decides, none_decides}
use Rattle.rail_forms.proofs.PastAnswers.{AreLines}
use Rattle.rail_forms.proofs.ScenarioAnswers.{or_else_more}

-- where a file was not read
history_unread : (limit later : Option Refusal) (input : Input) (text : List ℕ) (before now : Option (List ℕ)) (status : Status) → done_with status ≡ status
    → ((rest : Option Refusal) (whole part : Type 0) → IsAnswer (or_else limit rest) whole part status) → AnswersHistory (or_else limit later) input text before now status
history_unread limit later input text before now status done any = record {
  read = λ lines is. subst (IsAnswer (or_else limit later) _ _) (sym done) (any later _ _);
  wrong = λ number is. subst (λ (o : Option Refusal). IsAnswer o ⊥ ⊥ (done_with status)) (sym (or_else_more limit later (Some (refusal_at HistoryForm number))))
      (subst (IsAnswer (or_else limit (or_else later (Some (refusal_at HistoryForm number)))) ⊥ ⊥) (sym done) (any (or_else later (Some (refusal_at HistoryForm number))) ⊥ ⊥));
  of_first = answer_decides (or_else limit later) ⊥ ⊥ status (any later ⊥ ⊥);
}

-- so it is a file of lines
pub history_lines : (before now : Option (List ℕ)) (status : Status) → AreLines (λ first input seats text. AnswersHistory first input text before now status) status
history_lines before now status = record {
  unread = λ limit later input seats text done any. history_unread limit later input text before now status done any;
  of_first = λ first input seats text answer. answer.of_first;
}

-- where memory was wanting
pub no_memory : (first : Option Refusal) (input : Input) (text : List ℕ) (before now : Option (List ℕ)) (status : Status) → status ≡ OutOfMemory → AnswersHistory first input text before now status
no_memory first input text before now status is = subst (AnswersHistory first input text before now) (sym is) (record { read = λ lines history. tt; wrong = λ number wrong. tt; of_first = of first })
  where
    of : (first : Option Refusal) → Decides first OutOfMemory
    of None = tt
    of (Some refusal) = tt

-- where what the other files spell is refused
pub input_refused : (first : Option Refusal) (input : Input) (text : List ℕ) (before now : Option (List ℕ)) (status : Status) (why : Fault) → status ≡ status_of why → AnswersFirst first why
    → AnswersHistory first input text before now status
input_refused first input text before now status fault.OutOfMemory is answers = no_memory first input text before now status is
input_refused first input text before now status (fault.Refused refusal) is answers = subst (AnswersHistory first input text before now) (sym is) (record {
  read = λ lines history. answers;
  wrong = λ number wrong. ap (λ (o : Option Refusal). or_else o (Some (refusal_at HistoryForm number))) answers;
  of_first = answer_decides first ⊥ ⊥ (Refused refusal) answers;
})

-- the other files were read
module _ (first : Option Refusal) (none : first ≡ None) (input : Input) (named : IsNamed input.plant) (text : List ℕ) (before now : Option (List ℕ)) (status : Status) where
  -- but the history was not
  pub history_refused : (why : Fault) → status ≡ status_of why → IsRefusedIn input.plant text why → AnswersHistory first input text before now status
  history_refused fault.OutOfMemory is refused = no_memory first input text before now status is
  history_refused (fault.Refused refusal) is refused = subst (AnswersHistory first input text before now) (sym is) (record {
    read = λ lines history. absurd (no_history input.plant named text refusal.item lines refused.1 history);
    wrong = λ number wrong. ap (λ (o : Option Refusal). or_else o (Some (refusal_at HistoryForm number))) none
        ∙ ap (λ (n : ℕ). Some (refusal_at HistoryForm n)) (one_wrong input.plant named text number refusal.item wrong refused.1) ∙ ap Some (sym refused.0);
    of_first = none_decides first (Refused refusal) none;
  })

  module _ (lines : List Line) (history : IsHistory input.plant text lines) (said : Verdict) (is : said ≡ verdict input lines) where
    -- what the verdict says
    means : (v : Verdict) → verdict input lines ≡ v → IsSaid input lines v
    means yes e = (yes_means input lines).0 e
    means (no line law) e = judged input lines line law e

    done_judged : (v : Verdict) → Done ≡ done_with (status_judged v)
    done_judged yes = refl
    done_judged (no line law) = refl

    -- the verdict was written
    pub history_judged : status ≡ status_judged said → Adds before now (verdict_text said) → AnswersHistory first input text before now status
    history_judged ends adds = record {
      read = λ others other.
          let same : lines ≡ others = one_history input.plant named text lines others history other in
          let Answer : List Line → Type 0 = λ ls. IsAnswer first (IsJudged input ls before now status) (AddsPrefix before now (verdict_text (verdict input ls))) (done_with status) in
          subst Answer same
          (subst (IsAnswer first (IsJudged input lines before now status) (AddsPrefix before now (verdict_text (verdict input lines)))) (done_judged said ∙ sym (ap done_with ends)) (
            none,
            record {
              ends = ends ∙ ap status_judged is;
              adds = subst (λ (v : Verdict). Adds before now (verdict_text v)) is adds;
              said = means (verdict input lines) refl;
            },
          ));
      wrong = λ number wrong. absurd (no_history input.plant named text number lines wrong history);
      of_first = none_decides first status none;
    }

    -- it was not written to its end
    pub history_cut : status ≡ WriteFault → AddsPrefix before now (verdict_text said) → AnswersHistory first input text before now status
    history_cut ends adds = subst (AnswersHistory first input text before now) (sym ends) (record {
      read = λ others other.
          let same : lines ≡ others = one_history input.plant named text lines others history other in
          (none, subst (λ (ls : List Line). AddsPrefix before now (verdict_text (verdict input ls))) same (subst (λ (v : Verdict). AddsPrefix before now (verdict_text v)) is adds));
      wrong = λ number wrong. absurd (no_history input.plant named text number lines wrong history);
      of_first = none_decides first WriteFault none;
    })

-- the names of a fine deck that a reference shows
pub fine_shown : {X : Type 0} (seat : X → DeskSeat) (boxes : List X) (names : List (List ℕ)) → names ≡ names_of (map seat boxes) → is_fine_deck (map seat boxes) ≡ true
    → (is_from_one (most Policies) (length names) ≡ true) × (are_distinct_names names ≡ true)
fine_shown seat boxes names same fine =
    let facts = fine_names (map seat boxes) fine in
    (ap (λ (deck : List (List ℕ)). is_from_one (most Policies) (length deck)) same ∙ facts.0, ap are_distinct_names same ∙ facts.1)

-- what the other files spell was read
pub record IsRead (input : Input) (run : RunInput) : Type 0 where
  pub plant : run.plant ≡ input.plant
  pub commands : run.commands.items ≡ input.commands
  pub deck : run.deck.items ≡ input.deck
  pub force : run.force ≡ input.force
  pub accepted : is_accepted_input input ≡ true

module _ (input : Input) (run : RunInput) (read : IsRead input run) where
  -- it is what a history is checked for
  pub checked_for : checked_input run ≡ input
  checked_for = λ i. record { plant = read.plant i; commands = read.commands i; deck = read.deck i; force = read.force i }

  pub accepted_run : is_accepted_input (checked_input run) ≡ true
  accepted_run = ap is_accepted_input checked_for ∙ read.accepted

  -- its sections and trains have names of their own
  pub named_input : IsNamed input.plant
  named_input = accepted_named input.plant (input_parts input read.accepted).0

  pub refused_input : (text : List ℕ) (why : Fault) → IsRefusedIn run.plant text why → IsRefusedIn input.plant text why
  refused_input text why is = subst (λ (plant : Plant). IsRefusedIn plant text why) read.plant is

  pub history_input : (text : List ℕ) (lines : List Line) → IsHistory run.plant text lines → IsHistory input.plant text lines
  history_input text lines is = subst (λ (plant : Plant). IsHistory plant text lines) read.plant is

  pub verdict_input : (said : Verdict) (lines : List Line) → said ≡ verdict (checked_input run) lines → said ≡ verdict input lines
  verdict_input said lines is = is ∙ ap (λ (i : Input). verdict i lines) checked_for
