-- The verdict, and the one line beside admissions.
use Rattle.std.proofs.Common.{◌≡◌, ℕ, suc, ◌+◌, ◌≤◌, Bool, true, false, not, cond, List, [], ◌∷◌, ◌++◌, length, is_some, refl, sym, ap, ◌∙◌, ⊎_elim, arith}
use Rattle.std.specs.Prelude.{◌↔◌}
use Rattle.std.proofs.lemmas.Bool.{cases_Bool, false≢true, and_parts, and_from, cond-true, cond-false, and_left, and_right, not-true, not_from_false, not_from_true, false_from_ne_true}
use Rattle.rail_rules.specs.Accepted.{is_accepted}
use Rattle.rail_rules.specs.Causes.{cause, could_go, is_deciding, is_ready, is_settled}
use Rattle.rail_rules.specs.Plant.{trains}
use Rattle.rail_rules.specs.Fronts.{Line, Front, has_ended, is_admission, is_hold, instant}
use Rattle.rail_base.specs.declared.history.What.{What}
use Rattle.rail_base.specs.declared.history.What.TheVariants.{Free, Arrive, Enter, Out, Ready, Told, Untold, Admit, Hold, End}
use Rattle.rail_rules.specs.Lawful.{is_complete, is_lawful, may_follow}
use Rattle.rail_rules.specs.Orders.{Input}
use Rattle.rail_rules.specs.RunHistories.{is_run_line}
use Rattle.rail_laws_front.proofs.CallerLemmas.{well_formed_from_accepted, viewed, not_ended, deciding_quiet}
use Rattle.rail_rules.proofs.CallerLemmas.{accepted_parts}
use Rattle.rail_laws_front.specs.Premises.{IsWellFormed}
use Rattle.rail_laws_front.specs.Views.{Follows, Holds, is_event}
use Rattle.rail_base.specs.declared.history.Cause.{Cause}
use Rattle.rail_rules.specs.Events.{due_lines}
use Rattle.rail_laws_front.specs.Views.Follows.{by_event, by_admission, by_hold, by_end}
use Rattle.rail_laws_end.specs.Forks.{AreForked}
use Rattle.rail_laws_end.proofs.CallerLemmas.{event_alone, hold_unsettles, next_lines, not_now, ready_known, settled_parts}
use Rattle.rail_laws_verdict.specs.Verdicts.{IsBroken, IsBrokenAt, behind, broken_law, is_undecided, law_of, missing_law, verdict, verdict_behind, Verdict}
use Rattle.rail_laws_verdict.specs.Verdicts.Verdict.{yes, no}
use Rattle.rail_base.specs.declared.limits.TheConstants.{TRAINS}

no_run_line : (input : Input) (front : Front) (line : Line) → is_admission line.entry.what ≡ false → is_run_line input [] front line.entry.what ≡ true
no_run_line input front line none = of line.entry.what none
  where
    of : (w : What) → is_admission w ≡ false → is_run_line input [] front w ≡ true
    of (Free x t) h = refl
    of (Arrive t m) h = refl
    of (Enter t m x) h = refl
    of (Out t) h = refl
    of (Ready t m) h = refl
    of (Told k) h = refl
    of (Untold k) h = refl
    of (Admit t m n) h = absurd (false≢true (sym h))
    of (Hold t m c) h = refl
    of End h = refl

pub one_other : (input : Input) → is_accepted input.plant ≡ true → (front : Front)
    → is_lawful input front ≡ true → (a b : Line) → may_follow input front a ≡ true
    → may_follow input front b ≡ true → is_admission a.entry.what ≡ false
    → is_admission b.entry.what ≡ false → a ≡ b
one_other input accepted front lawful a b ma mb na nb =
    ⊎_elim
    (λ same. same)
    (λ (forked : AreForked a b). absurd (false≢true (sym na ∙ ap is_admission forked.fresh)))
    (next_lines input (well_formed_from_accepted input.plant accepted) few [] refl front lawful a b (viewed input front a ma) (viewed input front b mb) (no_run_line input front a na) (no_run_line input front b nb) (λ adm. absurd (false≢true (sym na ∙ adm))))
  where
    few : trains input.plant ≤ TRAINS
    few = (accepted_parts input.plant accepted).few_trains

pub only_admissions : (input : Input) → is_accepted input.plant ≡ true → (front : Front)
    → is_lawful input front ≡ true → (line : Line) (t : ℕ) → is_deciding input front ≡ true
    → could_go input front t ≡ true → is_admission line.entry.what ≡ false
    → may_follow input front line ≡ false
only_admissions input accepted front lawful line t deciding goes none =
    false_from_ne_true (may_follow input front line) (λ may. of (viewed input front line may))
  where
    fine : IsWellFormed input.plant
    fine = well_formed_from_accepted input.plant accepted

    few : trains input.plant ≤ TRAINS
    few = (accepted_parts input.plant accepted).few_trains

    both : (is_ready input front t ≡ true) × (not (is_some (cause input front t)) ≡ true)
    both = and_parts (is_ready input front t) (not (is_some (cause input front t))) goes

    unsettled : is_settled input front ≡ true → ⊥
    unsettled settled = false≢true (sym (not-true (is_some (cause input front t)) both.1) ∙ (settled_parts input fine few [] refl front lawful t (ready_known input fine few [] refl front lawful t both.0) settled both.0).0)

    of : Follows input front line → ⊥
    of (by_event h) = event_alone input fine few [] refl front lawful line h deciding unsettled
    of (by_admission u m note h) = false≢true (sym none ∙ ap is_admission h.what)
    of (by_hold u m why h) = false≢true (sym (h.nobody t) ∙ goes)
    of (by_end h) = unsettled h.settled

abbrev is_no : Verdict → Bool
is_no yes = false
is_no (no n law) = true

lawful_part : (input : Input) (lines : List Line) (front : Front) → is_lawful input (behind front lines) ≡ true → is_lawful input front ≡ true
lawful_part input [] front h = h
lawful_part input (line ∷ lines) front h = (and_parts (is_lawful input front) (may_follow input front line) (lawful_part input lines (line ∷ front) h)).0

yes_lawful : (input : Input) (lines : List Line) (front : Front) (n : ℕ) → is_lawful input front ≡ true → verdict_behind input front n lines ≡ yes → is_complete input (behind front lines) ≡ true
yes_lawful input [] front n lawful is =
    ⊎_elim
    (λ ended. and_from (is_lawful input front) (has_ended front) lawful ended)
    (λ going. absurd (false≢true (sym (ap is_no is) ∙ ap is_no (cond-false (has_ended front) yes (no n (missing_law input front)) going))))
    (cases_Bool (has_ended front))
yes_lawful input (line ∷ lines) front n lawful is =
    ⊎_elim
    (λ may. yes_lawful input lines (line ∷ front) (suc n) (and_from (is_lawful input front) (may_follow input front line) lawful may)
    (sym (cond-true (may_follow input front line) (verdict_behind input (line ∷ front) (suc n) lines) (no n (broken_law input front line)) may) ∙ is))
    (λ not_may. absurd (false≢true (sym (ap is_no is) ∙ ap is_no (cond-false (may_follow input front line) (verdict_behind input (line ∷ front) (suc n) lines) (no n (broken_law input front line)) not_may))))
    (cases_Bool (may_follow input front line))

lawful_yes : (input : Input) (lines : List Line) (front : Front) (n : ℕ) → is_complete input (behind front lines) ≡ true → verdict_behind input front n lines ≡ yes
lawful_yes input [] front n h = cond-true (has_ended front) yes (no n (missing_law input front)) (and_parts (is_lawful input front) (has_ended front) h).1
lawful_yes input (line ∷ lines) front n h =
    let lawful = (and_parts (is_lawful input (behind (line ∷ front) lines)) (has_ended (behind (line ∷ front) lines)) h).0 in
    let may = (and_parts (is_lawful input front) (may_follow input front line) (lawful_part input lines (line ∷ front) lawful)).1 in
    cond-true (may_follow input front line) (verdict_behind input (line ∷ front) (suc n) lines) (no n (broken_law input front line)) may ∙ lawful_yes input lines (line ∷ front) (suc n) h

pub yes_means : (input : Input) (lines : List Line) → (verdict input lines ≡ yes) ↔ (is_complete input (behind [] lines) ≡ true)
yes_means input lines = (yes_lawful input lines [] 1 refl, lawful_yes input lines [] 1)

abbrev no_number : Verdict → ℕ
no_number yes = 0
no_number (no n law) = n

abbrev no_law : Verdict → ℕ
no_law yes = 0
no_law (no n law) = law

record Found (input : Input) (front : Front) (n : ℕ) (lines : List Line) (at law : ℕ) : Type 0 where
  before : List Line
  after : List Line
  are : lines ≡ before ++ after
  number : at ≡ n + length before
  lawful : is_lawful input (behind front before) ≡ true
  broken : IsBroken input (behind front before) law after

found : (input : Input) (lines : List Line) (front : Front) (n at law : ℕ) → is_lawful input front ≡ true → verdict_behind input front n lines ≡ no at law → Found input front n lines at law
found input [] front n at law lawful is =
    ⊎_elim
    (λ ended. absurd (false≢true (sym (ap is_no (cond-true (has_ended front) yes (no n (missing_law input front)) ended)) ∙ ap is_no is)))
    (λ going.
    let same = sym (cond-false (has_ended front) yes (no n (missing_law input front)) going) ∙ is in
    record { before = []; after = []; are = refl; number = omega (arith, ap no_number same); lawful = lawful; broken = (going, sym (ap no_law same)) })
    (cases_Bool (has_ended front))
found input (line ∷ lines) front n at law lawful is =
    ⊎_elim
    (λ may.
    let deeper = found input lines (line ∷ front) (suc n) at law (and_from (is_lawful input front) (may_follow input front line) lawful may)
    (sym (cond-true (may_follow input front line) (verdict_behind input (line ∷ front) (suc n) lines) (no n (broken_law input front line)) may) ∙ is) in
    record { before = line ∷ deeper.before; after = deeper.after; are = ap (λ xs. line ∷ xs) deeper.are; number = omega (arith, deeper.number); lawful = deeper.lawful; broken = deeper.broken })
    (λ not_may.
    let same = sym (cond-false (may_follow input front line) (verdict_behind input (line ∷ front) (suc n) lines) (no n (broken_law input front line)) not_may) ∙ is in
    record { before = []; after = line ∷ lines; are = refl; number = omega (arith, ap no_number same); lawful = lawful; broken = (not_may, sym (ap no_law same)) })
    (cases_Bool (may_follow input front line))

pub judged : (input : Input) (lines : List Line) (at law : ℕ) → verdict input lines ≡ no at law → IsBrokenAt input lines at law
judged input lines at law is =
    let it = found input lines [] 1 at law refl is in
    record { before = it.before; after = it.after; are = it.are; number = omega (arith, it.number); lawful = it.lawful; broken = it.broken }

-- what is left to decide, by which line may follow
module _ (input : Input) (accepted : is_accepted input.plant ≡ true) (front : Front) (lawful : is_lawful input front ≡ true) where
  fine_now : IsWellFormed input.plant
  fine_now = well_formed_from_accepted input.plant accepted

  few_now : trains input.plant ≤ TRAINS
  few_now = (accepted_parts input.plant accepted).few_trains

  unsettled_where_one_goes : (t : ℕ) → could_go input front t ≡ true → is_settled input front ≡ true → ⊥
  unsettled_where_one_goes t goes settled =
      let both = and_parts (is_ready input front t) (not (is_some (cause input front t))) goes in
      false≢true (sym (not-true (is_some (cause input front t)) both.1) ∙ (settled_parts input fine_now few_now [] refl front lawful t (ready_known input fine_now few_now [] refl front lawful t both.0) settled both.0).0)

  pub undecided_where_one_goes : (t : ℕ) → is_deciding input front ≡ true → could_go input front t ≡ true → is_undecided input front ≡ true
  undecided_where_one_goes t deciding goes =
      and_from (is_deciding input front) (not (is_settled input front)) deciding (not_from_false (is_settled input front) (false_from_ne_true (is_settled input front) (unsettled_where_one_goes t goes)))

  pub undecided_where_held : (line : Line) (t m : ℕ) (why : Cause) → Holds input front line t m why → is_undecided input front ≡ true
  undecided_where_held line t m why holds =
      and_from (is_deciding input front) (not (is_settled input front)) holds.deciding (not_from_false (is_settled input front) (false_from_ne_true (is_settled input front) (hold_unsettles input fine_now few_now [] refl front lawful line t m why holds)))

  pub decided_where_settled : is_settled input front ≡ true → is_undecided input front ≡ false
  decided_where_settled settled = and_right (is_deciding input front) (not (is_settled input front)) (not_from_true (is_settled input front) settled)

  pub decided_where_others_follow : (line : Line) → may_follow input front line ≡ true → is_admission line.entry.what ≡ false → is_hold line.entry.what ≡ false → is_undecided input front ≡ false
  decided_where_others_follow line may none held = of (viewed input front line may)
    where
      of : Follows input front line → is_undecided input front ≡ false
      of (by_event h) =
          ⊎_elim
          (λ now. ⊎_elim
          (λ deciding. absurd (not_now (due_lines input front) line.entry (instant front) h.due (deciding_quiet input front deciding) now))
          (λ not_deciding. and_left (is_deciding input front) (not (is_settled input front)) not_deciding)
          (cases_Bool (is_deciding input front)))
          decided_where_settled
          h.when
      of (by_admission u m note h) = absurd (false≢true (sym none ∙ ap is_admission h.what))
      of (by_hold u m why h) = absurd (false≢true (sym held ∙ ap is_hold h.what))
      of (by_end h) = decided_where_settled h.settled

  -- where a hold line may follow something is left to decide
  pub undecided_before_hold : (given : Line) → is_lawful input (given ∷ front) ≡ true → is_hold given.entry.what ≡ true → is_undecided input front ≡ true
  undecided_before_hold given after hold = of (viewed input front given (and_parts (is_lawful input front) (may_follow input front given) after).1)
    where
      not_hold : (w : What) → is_event w ≡ true → is_hold w ≡ false
      not_hold (Admit t m n) e = refl
      not_hold (Hold t m c) e = absurd (false≢true e)
      not_hold End e = refl
      not_hold (Free x t) e = refl
      not_hold (Arrive t m) e = refl
      not_hold (Enter t m x) e = refl
      not_hold (Out t) e = refl
      not_hold (Ready t m) e = refl
      not_hold (Told k) e = refl
      not_hold (Untold k) e = refl

      of : Follows input front given → is_undecided input front ≡ true
      of (by_event h) = absurd (false≢true (sym (not_hold given.entry.what h.event) ∙ hold))
      of (by_admission t m note h) = absurd (false≢true (sym (ap is_hold h.what) ∙ hold))
      of (by_hold t m why h) = undecided_where_held given t m why h
      of (by_end h) = absurd (false≢true (sym (ap is_hold h.what) ∙ hold))

  -- the law that a line beside admissions breaks where this is left to decide or not
  other_law : (line : Line) → has_ended front ≡ false → is_admission line.entry.what ≡ false → broken_law input front line ≡ cond (is_hold line.entry.what) 6 (cond (is_undecided input front) 6 1)
  other_law line going none = cond-false (has_ended front) 1 (law_of input front line line.entry.what) going ∙ of line.entry.what none
    where
      of : (w : What) → is_admission w ≡ false → law_of input front line w ≡ cond (is_hold w) 6 (cond (is_undecided input front) 6 1)
      of (Free x t) h = refl
      of (Arrive t m) h = refl
      of (Enter t m x) h = refl
      of (Out t) h = refl
      of (Ready t m) h = refl
      of (Told k) h = refl
      of (Untold k) h = refl
      of (Admit t m n) h = absurd (false≢true (sym h))
      of (Hold t m c) h = refl
      of End h = refl

  six : (b : Bool) (n : ℕ) → cond b n n ≡ n
  six true n = refl
  six false n = refl

  pub law_where_undecided : (line : Line) → has_ended front ≡ false → is_admission line.entry.what ≡ false → is_undecided input front ≡ true → broken_law input front line ≡ 6
  law_where_undecided line going none undecided =
      other_law line going none ∙ ap (λ n. cond (is_hold line.entry.what) 6 n) (cond-true (is_undecided input front) 6 1 undecided) ∙ six (is_hold line.entry.what) 6

  pub law_where_decided : (line : Line) → has_ended front ≡ false → is_admission line.entry.what ≡ false → is_undecided input front ≡ false → broken_law input front line ≡ cond (is_hold line.entry.what) 6 1
  law_where_decided line going none decided =
      other_law line going none ∙ ap (λ n. cond (is_hold line.entry.what) 6 n) (cond-false (is_undecided input front) 6 1 decided)

  module _ (given : Line) (after : is_lawful input (given ∷ front) ≡ true) (given_none : is_admission given.entry.what ≡ false) (line : Line) (line_none : is_admission line.entry.what ≡ false) where
    given_may : may_follow input front given ≡ true
    given_may = (and_parts (is_lawful input front) (may_follow input front given) after).1

    -- another line than the one that may follow beside admissions may not
    others_may_not : (given ≡ line → ⊥) → may_follow input front line ≡ false
    others_may_not other = false_from_ne_true (may_follow input front line) (λ may. other (one_other input accepted front lawful given line given_may may given_none line_none))

    pub refused_next : is_hold given.entry.what ≡ false → (given ≡ line → ⊥) → (may_follow input front line ≡ false) × (broken_law input front line ≡ cond (is_hold line.entry.what) 6 1)
    refused_next no_hold other = (others_may_not other, law_where_decided line (not_ended input front given given_may) line_none (decided_where_others_follow given given_may given_none no_hold))

    pub refused_held : is_hold given.entry.what ≡ true → (given ≡ line → ⊥) → (may_follow input front line ≡ false) × (broken_law input front line ≡ 6)
    refused_held hold other = (others_may_not other, law_where_undecided line (not_ended input front given given_may) line_none (undecided_before_hold given after hold))

  pub refused_open : (line : Line) (t : ℕ) → has_ended front ≡ false → is_deciding input front ≡ true → could_go input front t ≡ true → is_admission line.entry.what ≡ false → (may_follow input front line ≡ false) × (broken_law input front line ≡ 6)
  refused_open line t going deciding goes none = (only_admissions input accepted front lawful line t deciding goes none, law_where_undecided line going none (undecided_where_one_goes t deciding goes))
