-- What a run keeps.
use Rattle.std.proofs.Common.{◌≡◌, ◌≢◌, ◌⊎◌, ℕ, suc, ◌<◌, Bool, true, false, not, ◌&&◌, ◌||◌, eqb, List, Option, None, [], ◌∷◌, ◌++◌, is_some, Some, refl, sym, ◌∙◌, subst, ⊎_elim}
use Rattle.std.proofs.lemmas.Bool.{and_parts, eqb-true, false≢true, not-true, or_cases}
use Rattle.rail_base.specs.declared.history.What.{What}
use Rattle.rail_base.specs.declared.history.What.TheVariants.{Free, Arrive, Enter, Out, Ready, Told, Untold, Admit, Hold, End}
use Rattle.rail_base.specs.declared.history.Note.{Note}
use Rattle.rail_base.specs.declared.history.Note.TheVariants.{Fresh}
use Rattle.rail_base.specs.declared.history.Cause.{Cause}
use Rattle.rail_laws_end.specs.Forks.{IsFork, are_marks}
use Rattle.rail_laws_end.proofs.CallerLemmas.{one_run}
use Rattle.rail_laws_events.proofs.CallerLemmas.{bounded, holds_bounded, input_parts, times_below}
use Rattle.rail_laws_front.specs.Premises.{IsWellFormed}
use Rattle.rail_laws_front.proofs.CallerLemmas.{never_overlap, kept_completes, well_formed_from_accepted}
use Rattle.rail_laws_list.proofs.CallerLemmas.{none_locked}
use Rattle.rail_laws_step.proofs.CallerLemmas.{nobody_ready, run_lawful}
use Rattle.rail_laws_text.proofs.CallerLemmas.{one_cause}
use Rattle.rail_rules.specs.Accepted.{is_accepted_input}
use Rattle.rail_rules.specs.Causes.{cause, is_deciding, is_ready, is_repairable, is_settled, is_told_so, last_hold, place}
use Rattle.rail_rules.specs.Fronts.{Front, Line, has_ended, instant, kept, places, same_cause}
use Rattle.rail_rules.specs.Lawful.{is_lawful, may_follow, may_follow_as, may_happen}
use Rattle.rail_rules.specs.Numbers.{all_below}
use Rattle.rail_rules.specs.Orders.{Input}
use Rattle.rail_rules.specs.Plant.{moves_of, trains}
use Rattle.rail_rules.specs.RunHistories.{Seat, is_run, is_run_history, is_run_line, is_chosen, repairs_first}
use Rattle.rail_rules.proofs.CallerLemmas.{all_below_at}
use Rattle.rail_forms.specs.Runs.{IsBeforeLimit, IsSafe, IsTheOnlyOne, WaitsForStated}

-- the first lines of a run are a run
first_lines : (input : Input) (seats : List Seat) (later before : Front) → is_run input seats (later ++ before) ≡ true → is_run input seats before ≡ true
first_lines input seats [] before run = run
first_lines input seats (line ∷ later) before run =
    let both = and_parts (is_run input seats (later ++ before) && may_follow input (later ++ before) line) _ run in
    first_lines input seats later before (and_parts (is_run input seats (later ++ before)) _ both.0).0

-- what holds of the last line of a run
pub last_line : (input : Input) (seats : List Seat) (line : Line) (before : Front) → is_run input seats (line ∷ before) ≡ true → (may_follow_as input before line line.entry.what ≡ true) × (is_run_line input seats before line.entry.what ≡ true)
last_line input seats line before run =
    let both = and_parts (is_run input seats before && may_follow input before line) (is_run_line input seats before line.entry.what) run in
    let may = (and_parts (is_run input seats before) (may_follow input before line) both.0).1 in
    ((and_parts (not (has_ended before)) (may_follow_as input before line line.entry.what) may).1, both.1)

-- a hold line names the true cause
true_cause : (input : Input) (seats : List Seat) (line : Line) (before : Front) (t m : ℕ) (why : Cause) → is_run input seats (line ∷ before) ≡ true → line.entry.what ≡ Hold t m why → cause input before t ≡ Some why
true_cause input seats line before t m why run is =
    let holds = subst (λ (what : What). may_follow_as input before line what ≡ true) is (last_line input seats line before run).0 in
    sym (one_cause (Some why) (cause input before t) (and_parts _ (same_cause (Some why) (cause input before t)) holds).1)

-- a fresh list comes only where the repaired one doesn't complete
repaired : (input : Input) (seats : List Seat) (line : Line) (before : Front) (t m : ℕ) → is_run input seats (line ∷ before) ≡ true → line.entry.what ≡ Admit t m Fresh → is_repairable input before t ≡ false
repaired input seats line before t m run is =
    let of_run = subst (λ (what : What). is_run_line input seats before what ≡ true) is (last_line input seats line before run).1 in
    let both = and_parts (not (is_some (cause input before t)) && not (is_repairable input before t)) (is_chosen input seats before t) of_run in
    not-true (is_repairable input before t) (and_parts (not (is_some (cause input before t))) (not (is_repairable input before t)) both.0).1

-- the chosen train is admitted
chosen : (input : Input) (seats : List Seat) (line : Line) (before : Front) (t m : ℕ) (note : Note) → is_run input seats (line ∷ before) ≡ true
    → line.entry.what ≡ Admit t m note → is_chosen input seats before t ≡ true
chosen input seats line before t m note run is =
    let of_run = subst (λ (what : What). is_run_line input seats before what ≡ true) is (last_line input seats line before run).1 in
    (and_parts (not (is_some (cause input before t)) && repairs_first input before t note) (is_chosen input seats before t) of_run).1

some_cause : (o : Option Cause) → is_some o ≡ true → (why : Cause) × (o ≡ Some why)
some_cause (Some why) h = (why, refl)
some_cause None h = absurd (false≢true h)

-- where everything is settled each train that is ready waits for a stated true cause
settled_waits : (input : Input) (before : Front) (t : ℕ) → is_settled input before ≡ true → t < trains input.plant
    → is_ready input before t ≡ true → WaitsForStated input before t
settled_waits input [] t settled lt ready = absurd (false≢true (sym (nobody_ready input t) ∙ ready))
settled_waits input (line ∷ before) t settled lt ready =
    let front : Front = line ∷ before in
    let test : ℕ → Bool = λ u. not (is_ready input front u) || (is_some (cause input front u) && is_told_so input front u) in
    let each = all_below_at test (trains input.plant) t (and_parts (is_deciding input front) (all_below test (trains input.plant)) settled).1 lt in
    let told = ⊎_elim (λ unready. absurd (false≢true (sym (not-true (is_ready input front t) unready) ∙ ready))) (λ told. told)
    (or_cases (not (is_ready input front t)) (is_some (cause input front t) && is_told_so input front t) each) in
    let both = and_parts (is_some (cause input front t)) (is_told_so input front t) told in
    let why = some_cause (cause input front t) both.0 in
    record {
      why = why.0;
      true_cause = why.1;
      stated = one_cause (last_hold front t (suc (place front t))) (cause input front t) both.1 ∙ why.1;
    }

-- what follows a front either comes at its instant or finds everything settled there
settled_before : (input : Input) (line : Line) (before : Front) (what : What) → may_follow_as input before line what ≡ true
    → (line.entry.at ≢ instant before) ⊎ (what ≡ End) → is_settled input before ≡ true
settled_before input line before = of
  where
    at_once : (what : What) → eqb line.entry.at (instant before) ≡ true → (what ≡ End → ⊥) → (line.entry.at ≢ instant before) ⊎ (what ≡ End) → is_settled input before ≡ true
    at_once what same none goes = absurd (⊎_elim (λ later. later (eqb-true line.entry.at (instant before) same)) none goes)

    event : (what : What) → may_happen input before line ≡ true → (what ≡ End → ⊥) → (line.entry.at ≢ instant before) ⊎ (what ≡ End) → is_settled input before ≡ true
    event what may none goes =
        ⊎_elim
        (λ same. at_once what same none goes)
        (λ settled. settled)
        (or_cases (eqb line.entry.at (instant before)) (is_settled input before) (and_parts _ ((eqb line.entry.at (instant before)) || is_settled input before) may).1)

    of : (what : What) → may_follow_as input before line what ≡ true → (line.entry.at ≢ instant before) ⊎ (what ≡ End) → is_settled input before ≡ true
    of (Free x t) may goes = event (Free x t) may (λ e. cc) goes
    of (Arrive t m) may goes = event (Arrive t m) may (λ e. cc) goes
    of (Enter t m x) may goes = event (Enter t m x) may (λ e. cc) goes
    of (Out t) may goes = event (Out t) may (λ e. cc) goes
    of (Ready t m) may goes = event (Ready t m) may (λ e. cc) goes
    of (Told k) may goes = event (Told k) may (λ e. cc) goes
    of (Untold k) may goes = event (Untold k) may (λ e. cc) goes
    of (Admit t m note) may goes =
        at_once (Admit t m note) (and_parts (eqb line.entry.at (instant before)) _ (and_parts _ _ (and_parts _ _ (and_parts _ _ (and_parts _ _ (and_parts _ _ may).0).0).0).0).0).0 (λ e. cc) goes
    of (Hold t m why) may goes =
        at_once (Hold t m why) (and_parts _ (eqb line.entry.at (instant before)) (and_parts _ _ (and_parts _ _ (and_parts _ _ (and_parts _ _ (and_parts _ _ (and_parts _ _ may).0).0).0).0).0).0).1 (λ e. cc) goes
    of End may goes = (and_parts (eqb line.entry.at (instant before)) (is_settled input before) (and_parts _ _ (and_parts _ _ may).0).0).1

-- where time goes on, and at the end, each train that is ready waits for a stated true cause
waiting : (input : Input) (seats : List Seat) (line : Line) (before : Front) (t : ℕ) → is_run input seats (line ∷ before) ≡ true
    → (line.entry.at ≢ instant before) ⊎ (line.entry.what ≡ End) → t < trains input.plant → is_ready input before t ≡ true → WaitsForStated input before t
waiting input seats line before t run goes lt ready =
    settled_waits input before t (settled_before input line before line.entry.what (last_line input seats line before run).0 goes) lt ready

-- what every run keeps
pub safe_run : (input : Input) (seats : List Seat) → is_accepted_input input ≡ true → (front : Front) → is_run input seats front ≡ true → IsSafe input seats front
safe_run input seats ok front run =
    let fine : IsWellFormed input.plant = well_formed_from_accepted input.plant (input_parts input ok).0 in
    let lawful : is_lawful input front ≡ true = run_lawful input seats front run in
    let first : (later before : Front) → front ≡ later ++ before → is_run input seats before ≡ true =
    λ later before is. first_lines input seats later before (subst (λ (f : Front). is_run input seats f ≡ true) is run) in
    record {
      apart = never_overlap input fine front lawful;
      complete = λ later before is. (kept_completes input fine before (run_lawful input seats before (first later before is))).completing;
      unlocked = λ later before is. none_locked (moves_of input.plant) (places input.plant before) (kept input.plant before) (kept_completes input fine before (run_lawful input seats before (first later before is))).completing;
      causes = λ later before line t m why is what. true_cause input seats line before t m why (first later (line ∷ before) is) what;
      obeyed = λ later before line t m note is what. chosen input seats line before t m note (first later (line ∷ before) is) what;
      waits = λ later before line t is goes lt ready. waiting input seats line before t (first later (line ∷ before) is) goes lt ready;
      repaired = λ later before line t m is what. repaired input seats line before t m (first later (line ∷ before) is) what;
      few = bounded input fine front lawful;
      few_holds = λ t. holds_bounded input fine t front lawful;
    }

-- its times are below the limit
pub timely_run : (input : Input) (seats : List Seat) → is_accepted_input input ≡ true → (front : Front) → is_run input seats front ≡ true → IsBeforeLimit front
timely_run input seats ok front run later before line is =
    let first = first_lines input seats later (line ∷ before) (subst (λ (f : Front). is_run input seats f ≡ true) is run) in
    times_below input ok line before (run_lawful input seats (line ∷ before) first)

-- a history of built-in policies without a fresh list is the only one
pub only_run : (input : Input) (seats : List Seat) → is_accepted_input input ≡ true → are_marks seats ≡ true → (front : Front) → is_run_history input seats front ≡ true → IsTheOnlyOne input seats front
only_run input seats ok marks front history built_in no_fresh other other_history =
    ⊎_elim
    (λ same. sym same)
    (λ (fork : IsFork front other). absurd (no_fresh fork.later fork.common fork.line fork.forked.train fork.forked.move fork.of_first fork.forked.fresh))
    (one_run input (input_parts input ok).0 seats marks front other history other_history built_in)
