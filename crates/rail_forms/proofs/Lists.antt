-- What refuses a list.
use Rattle.std.proofs.Common.{◌≡◌, ◌≢◌, ℕ, Bool, true, false, not, cond, List, [], ◌∷◌, Option, Some, None, Result, Ok, Err, IfErr, IsErrAnd, refl, sym, ap, ◌∙◌, subst, ⊎_elim, arith}
use Rattle.std.proofs.lemmas.Bool.{cases_Bool, false≢true}
use Rattle.rail_base.specs.FirstRefusals.{first_failing}
use Rattle.rail_base.specs.Refusals.{AnswersFirst}
use Rattle.rail_base.specs.declared.refusals.Fault.{Fault}
use Rattle.rail_base.specs.declared.refusals.Fault.TheVariants as fault
use Rattle.rail_base.specs.declared.refusals.Refusal.{Refusal}
use Rattle.rail_io.specs.declared.sink.Sink.{Ghosts}
use Rattle.rail_rules.specs.Numbers.{or_else}
use Rattle.rail_rules.specs.Moves.{Moves, stand}
use Rattle.rail_rules.specs.Places.{place_of, is_valid_state}
use Rattle.rail_rules.proofs.CallerLemmas.{apart_at}
use Rattle.rail_place.specs.Overlaps.{IsOverlap}
use Rattle.rail_place.proofs.CallerLemmas.{holder_listed, state_apart}
use Rattle.rail_text.specs.Lines.{lines_of}
use Rattle.rail_command_line.specs.Lists.{last_setting, list_line_refusal, listed_in, places_test}
use Rattle.rail_command_line.specs.ListAnswers.{ReadList, read_of}
use Rattle.rail_forms.specs.declared.status.Status.{Status}
use Rattle.rail_forms.specs.declared.status.Status.TheVariants.{CheckedNo, Done, OutOfMemory, ReadFault, Refused, Usage, WriteFault}
use Rattle.rail_forms.specs.Answers.{IsAnswer, status_of}
use Rattle.rail_forms.specs.Plays.{IsListAnswer, places_refusal, shared_at}
use Rattle.rail_forms.specs.Promises.{WritesAnswer}
use Rattle.rail_forms.proofs.Writes.{none_written}

-- where two trains hold one section the state is none
overlap_invalid : (plan : Moves) (s : List ℕ) (x t u : ℕ) → IsOverlap plan s x t u → is_valid_state plan s ≡ false
overlap_invalid plan s x t u o = ⊎_elim
    (λ valid.
    let differ : u ≢ t = λ e. absurd (omega (arith, o.ordered)) in
    let clear = state_apart plan s t u valid (holder_listed plan s t x o.first_holds) differ in
    absurd (false≢true (sym (apart_at (stand plan t (place_of s t)) (stand plan u (place_of s u)) x clear o.first_holds) ∙ o.second_holds)))
    (λ out. out)
    (cases_Bool (is_valid_state plan s))

shared : (names : List (List ℕ)) (plan : Moves) (trains : ℕ) (list : List ℕ) (x t u : ℕ) → IsOverlap plan (listed_in names trains list).positions x t u
    → first_failing (places_test names plan trains list ∷ []) ≡ Some (shared_at (last_setting (lines_of list)))
shared names plan trains list x t u o = ap (λ b. cond (not b) (Some (shared_at (last_setting (lines_of list)))) None) (overlap_invalid plan (listed_in names trains list).positions x t u o)

module _ (may_move : Bool) (list : List ℕ) (names : List (List ℕ)) (plan : Moves) (trains : ℕ) (read : ReadList)
    (accepted : list_line_refusal names plan may_move list ≡ None) (is_read : read ≡ read_of names trains (lines_of list)) where
  -- a list whose lines are accepted is refused for two trains that hold one section
  pub shared_refused : (x t u : ℕ) → IsOverlap plan read.positions x t u → places_refusal names plan trains may_move list ≡ Some (shared_at read.last_at)
  shared_refused x t u o =
      let here : IsOverlap plan (listed_in names trains list).positions x t u = subst (λ (r : ReadList). IsOverlap plan r.positions x t u) is_read o in
      ap (λ first. or_else first (first_failing (places_test names plan trains list ∷ []))) accepted
      ∙ shared names plan trains list x t u here
      ∙ ap (λ (r : ReadList). Some (shared_at r.last_at)) (sym is_read)

  -- and is not where these are apart
  pub apart_accepted : is_valid_state plan read.positions ≡ true → places_refusal names plan trains may_move list ≡ None
  apart_accepted valid =
      let here : is_valid_state plan (listed_in names trains list).positions ≡ true = subst (λ (r : ReadList). is_valid_state plan r.positions ≡ true) is_read valid in
      ap (λ first. or_else first (first_failing (places_test names plan trains list ∷ []))) accepted
      ∙ ap (λ b. cond (not b) (Some (shared_at (last_setting (lines_of list)))) None) here

-- what answers the lines of a list answers the list
pub line_answered : (first later : Option Refusal) (why : Fault) → AnswersFirst first why → IsListAnswer (or_else first later) (status_of why)
line_answered first later (fault.Refused refusal) answers = ap (λ (o : Option Refusal). or_else o later) answers
line_answered first later fault.OutOfMemory answers = tt

-- and whatever comes behind it
pub list_first : (first later : Option Refusal) (status : Status) → IsListAnswer first status → IsListAnswer (or_else first later) status
list_first first later Done answer = absurd answer
list_first first later Usage answer = absurd answer
list_first first later (Refused refusal) answer = ap (λ (o : Option Refusal). or_else o later) answer
list_first first later ReadFault answer = absurd answer
list_first first later WriteFault answer = absurd answer
list_first first later OutOfMemory answer = tt
list_first first later (CheckedNo line law) answer = absurd answer

-- what holds of the error that a call ends with
pub if_err : {A E : Type 0} (end : Result A E) (why : E) (P : E → Type 0) → IsErrAnd end (λ other. other ≡ why) → P why → IfErr end P
if_err (Ok value) why P is holds = absurd is
if_err (Err other) why P is holds = subst P (sym is) holds

-- a command whose list is refused is answered so
pub list_answers : (first told : Option Refusal) (whole part : Type 0) (end status : Status) → end ≡ status → told ≡ first → IsListAnswer told status → IsAnswer first whole part end
list_answers first told whole part end status is same answer = subst (IsAnswer first whole part) (sym is) (of status (subst (λ (o : Option Refusal). IsListAnswer o status) same answer))
  where
    of : (status : Status) → IsListAnswer first status → IsAnswer first whole part status
    of Done answer = absurd answer
    of Usage answer = absurd answer
    of (Refused refusal) answer = answer
    of ReadFault answer = absurd answer
    of WriteFault answer = absurd answer
    of OutOfMemory answer = tt
    of (CheckedNo line law) answer = absurd answer

-- and nothing is written
pub list_unwritten : {O : Type 0} (sink : Ghosts O) (before : O) (first : Option Refusal) (end status : Status) → end ≡ status → IsListAnswer first status → WritesAnswer sink before before end
list_unwritten sink before first end status is answer = subst (WritesAnswer sink before before) (sym is) (of status answer)
  where
    of : (status : Status) → IsListAnswer first status → WritesAnswer sink before before status
    of Done answer = absurd answer
    of Usage answer = absurd answer
    of (Refused refusal) answer = record { write_fault = λ same. (cc); unwritten = λ none. refl; faults_never_fall = omega arith }
    of ReadFault answer = absurd answer
    of WriteFault answer = absurd answer
    of OutOfMemory answer = none_written sink before OutOfMemory refl
    of (CheckedNo line law) answer = absurd answer

-- a command whose input is refused by a fault is answered so
pub fault_answers : (first told : Option Refusal) (whole part : Type 0) (why : Fault) (status : Status) → status ≡ status_of why → told ≡ first → AnswersFirst told why → IsAnswer first whole part status
fault_answers first told whole part why status is same answers =
    subst (IsAnswer first whole part) (sym is) (subst (λ (o : Option Refusal). IsAnswer o whole part (status_of why)) same (of why answers))
  where
    of : (why : Fault) → AnswersFirst told why → IsAnswer told whole part (status_of why)
    of (fault.Refused refusal) answers = answers
    of fault.OutOfMemory answers = tt
