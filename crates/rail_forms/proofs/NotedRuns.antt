-- What was noted of a run, and what is told of it.
use Rattle.std.proofs.Common.{◌≡◌, ℕ, true, cond, List, length, map, Option, Some, refl, sym, ap, ◌∙◌, subst}
use Rattle.std.specs.Prelude.{IsSome, unwrap_or}
use Rattle.std.proofs.lemmas.Bool.{and_from, and_parts}
use Rattle.rail_base.specs.declared.history.What.{What}
use Rattle.rail_base.specs.declared.intervals.Interval.{Interval}
use Rattle.rail_base.specs.declared.orders.Command.{Command}
use Rattle.rail_base.specs.declared.refusals.Refusal.{Refusal}
use Rattle.rail_capacity.specs.BlockingTimes.{are_conflict_free, block_of, taken_blocks}
use Rattle.rail_capacity.specs.Compression.{IsCompression}
use Rattle.rail_capacity.specs.declared.compression.Window.{Window}
use Rattle.rail_capacity.specs.declared.shifts.Shift.{Shift}
use Rattle.rail_delay.specs.Accounts.{AreNoted as AreNotedDelays, Kept}
use Rattle.rail_delay.specs.Reports.{report_text}
use Rattle.rail_delay.specs.Accounts.{account}
use Rattle.rail_delay.specs.declared.account.Account.{Account}
use Rattle.rail_insert.specs.Insertions.{IsInsertion}
use Rattle.rail_insert.specs.Texts.{inserted_text}
use Rattle.rail_insert.specs.TimeBounds.{are_timely}
use Rattle.rail_insert.specs.declared.insertion.Placed.{Placed}
use Rattle.rail_input.specs.Inputs.{train_names}
use Rattle.rail_laws_front.proofs.CallerLemmas.{length-listed}
use Rattle.rail_laws_step.proofs.CallerLemmas.{run_lawful}
use Rattle.rail_rules.specs.Fronts.{Front, has_ended, is_end}
use Rattle.rail_rules.specs.Lawful.{is_complete, is_lawful}
use Rattle.rail_rules.specs.Orders.{Input}
use Rattle.rail_rules.specs.Plant.{Plant, trains}
use Rattle.rail_rules.specs.RunHistories.{Seat, is_run}
use Rattle.rail_stairs.specs.declared.stairs.Stairs.{Stairs}
use Rattle.rail_stairs.specs.NotedHistories.{AreNoted, IsNoted}
use Rattle.rail_stairs.specs.Stairways.{ended_at, ended_by, stairway}
use Rattle.rail_stairs.specs.StairsTexts.{stairs_text}
use Rattle.rail_forms.specs.Capacity.{IsCapacityText, capacity_text, line_of}
use Rattle.rail_text.specs.Names.{NameLists, names_of}
use Rattle.rail_forms.specs.Insertions.{IsInsertionText, IsNoPathAmong, IsRefusedRun, train_named}
use Rattle.rail_forms.specs.NotedRuns.{IsNotedRun, ReportsRun}
use Rattle.rail_forms.specs.Reports.{IsReportText}
use Rattle.rail_forms.specs.Runs.{IsFinished, IsRunWithin}
use Rattle.rail_forms.specs.Stairs.{IsStairsText}

-- a run history is lawful to its end
run_complete : (input : Input) (seats : List Seat) (front : Front) → IsRunWithin input seats front → is_complete input front ≡ true
run_complete input seats front run =
    let both = and_parts (is_run input seats front) (has_ended front) run.is_run.history in
    and_from (is_lawful input front) (has_ended front) (run_lawful input seats front both.0) both.1

-- its end line has a time
some_end : (input : Input) (front : Front) → IsFinished input front → IsSome (ended_at front)
some_end input front finished =
    let ended : ended_at front ≡ Some finished.last.entry.at = ap ended_at finished.is_last
    ∙ ap (λ (what : What). cond (is_end what) (Some finished.last.entry.at) (ended_at finished.before)) finished.is_end in
    subst (λ (o : Option ℕ). IsSome o) (sym ended) refl

-- the intervals that were noted, open ones ended at the time that was noted of the end line
pub noted_intervals : (plant : Plant) (stairs : Stairs) (noted intervals : List Interval) (ended : ℕ)
    → ((front : Front) → AreNoted plant front stairs → noted ≡ stairway plant front) → stairs.ended ≡ Some ended → intervals ≡ map (ended_by ended) noted
    → (front : Front) → AreNoted plant front stairs → intervals ≡ map (ended_by (unwrap_or (ended_at front) 0)) (stairway plant front)
noted_intervals plant stairs noted intervals ended are at is front h =
    let time : ended ≡ unwrap_or (ended_at front) 0 = ap (λ (o : Option ℕ). unwrap_or o 0) (sym at ∙ h.ended) in
    is ∙ (λ k. map (ended_by (time k)) (are front h k))

-- what was noted of the stairway of a run
module _ (input : Input) (seats : List Seat) (stairs : Stairs) (plant : Plant) (is : plant ≡ input.plant) (noted : IsNotedRun (λ i f. AreNoted i.plant f stairs) input seats) where
  pub noted_here : AreNoted plant noted.front stairs
  noted_here = subst (λ (p : Plant). AreNoted p noted.front stairs) (sym is) noted.noted

  pub stairs_noted : IsNoted plant stairs
  stairs_noted = subst (λ (p : Plant). IsNoted p stairs) (sym is) (record {
    dispatch = record { commands = input.commands; deck = input.deck; force = input.force };
    front = noted.front;
    accepted = noted.run.accepted;
    lawful = run_lawful input seats noted.front (and_parts (is_run input seats noted.front) (has_ended noted.front) noted.run.is_run.history).0;
    noted = noted.noted;
  })

  pub stairs_ended : IsSome stairs.ended
  stairs_ended = subst (λ (o : Option ℕ). IsSome o) (sym noted.noted.ended) (some_end input noted.front noted.run.is_run.finished)

  -- the text of its stairway
  pub stairs_told : (X : List ℕ → Type 0) → ((front : Front) → AreNoted plant front stairs → X (stairs_text plant front)) → ReportsRun IsStairsText input seats X
  stairs_told X added = record {
    front = noted.front;
    run = noted.run;
    text = stairs_text plant noted.front;
    told = ap (λ (p : Plant). stairs_text p noted.front) is;
    added = added noted.front noted_here;
  }

  -- its intervals, open ones ended at the end line
  abbrev ended_intervals : Plant → List Interval
  ended_intervals p = map (ended_by (unwrap_or (ended_at noted.front) 0)) (stairway p noted.front)

  module _ (intervals : List Interval) (are : (front : Front) → AreNoted plant front stairs → intervals ≡ map (ended_by (unwrap_or (ended_at front) 0)) (stairway plant front)) where
    same_intervals : intervals ≡ ended_intervals input.plant
    same_intervals = are noted.front noted_here ∙ ap ended_intervals is

    -- they are without conflict
    pub noted_apart : ((front : Front) → is_complete input front ≡ true → are_conflict_free (map block_of (map (ended_by (unwrap_or (ended_at front) 0)) (stairway input.plant front))) ≡ true)
        → are_conflict_free (map block_of intervals) ≡ true
    noted_apart free = subst (λ (xs : List Interval). are_conflict_free (map block_of xs) ≡ true) (sym same_intervals) (free noted.front (run_complete input seats noted.front noted.run))

    -- the text of their compression
    pub capacity_told : (word line : List ℕ) (window : Window) (names : NameLists) (shifts : List Shift) (occupancy rate : ℕ) (X : List ℕ → Type 0)
        → line ≡ line_of input.plant word → names ≡ names_of input.plant → IsCompression (taken_blocks intervals line window) window shifts occupancy rate
        → X (capacity_text names shifts occupancy rate) → ReportsRun (IsCapacityText word window) input seats X
    capacity_told word line window names shifts occupancy rate X line_is names_are compression added = record {
      front = noted.front;
      run = noted.run;
      text = capacity_text names shifts occupancy rate;
      told = record {
        shifts = shifts;
        occupancy = occupancy;
        rate = rate;
        compression = subst (λ (xs : List Interval). IsCompression (taken_blocks xs (line_of input.plant word) window) window shifts occupancy rate) same_intervals
            (subst (λ (l : List ℕ). IsCompression (taken_blocks intervals l window) window shifts occupancy rate) line_is compression);
        is = ap (λ (n : NameLists). capacity_text n shifts occupancy rate) names_are;
      };
      added = added;
    }

  -- its intervals, of which open ones stay open
  module _ (intervals : List Interval) (are : (front : Front) → AreNoted plant front stairs → intervals ≡ stairway plant front) where
    open_intervals : intervals ≡ stairway input.plant noted.front
    open_intervals = are noted.front noted_here ∙ ap (λ (p : Plant). stairway p noted.front) is

    -- they are early enough to place trains between them
    pub noted_timely : ((front : Front) → is_complete input front ≡ true → are_timely (stairway input.plant front) ≡ true) → are_timely intervals ≡ true
    noted_timely timely = ap are_timely open_intervals ∙ timely noted.front (run_complete input seats noted.front noted.run)

    -- the text of the trains that are placed there
    pub insertion_told : (word : List ℕ) (train : ℕ) (window : Window) (count : ℕ) (names : NameLists) (copies : List Placed) (X : List ℕ → Type 0)
        → train_named (train_names input.plant.tables) word ≡ Some train → names ≡ names_of input.plant → IsInsertion intervals train window count copies
        → X (inserted_text names train copies) → ReportsRun (IsInsertionText word window count) input seats X
    insertion_told word train window count names copies X named names_are insertion added = record {
      front = noted.front;
      run = noted.run;
      text = inserted_text names train copies;
      told = record {
        train = train;
        copies = copies;
        named = named;
        insertion = subst (λ (xs : List Interval). IsInsertion xs train window count copies) open_intervals insertion;
        is = ap (λ (n : NameLists). inserted_text n train copies) names_are;
      };
      added = added;
    }

    -- or why none is
    pub refused_told : (word : List ℕ) (train : ℕ) (window : Window) (refusal : Refusal) → train_named (train_names input.plant.tables) word ≡ Some train
        → IsNoPathAmong intervals train window refusal → IsRefusedRun word window refusal input seats
    refused_told word train window refusal named none = record {
      train = train;
      front = noted.front;
      named = named;
      run = noted.run;
      none = subst (λ (xs : List Interval). IsNoPathAmong xs train window refusal) open_intervals none;
    }

-- what was noted of the delays of a run
pub delays_noted : (input : Input) (seats : List Seat) (delays : Kept) (plant : Plant) → plant ≡ input.plant → (noted : IsNotedRun (λ i f. AreNotedDelays i.plant i.commands f delays) input seats)
    → AreNotedDelays plant input.commands noted.front delays
delays_noted input seats delays plant is noted = subst (λ (p : Plant). AreNotedDelays p input.commands noted.front delays) (sym is) noted.noted

-- the text of its report
pub report_told : (input : Input) (seats : List Seat) (delays : Kept) (plant : Plant) → plant ≡ input.plant → IsNotedRun (λ i f. AreNotedDelays i.plant i.commands f delays) input seats
    → (X : List ℕ → Type 0) → ((commands : List Command) (front : Front) → AreNotedDelays plant commands front delays → X (report_text plant commands front)) → ReportsRun IsReportText input seats X
report_told input seats delays plant is noted X added = record {
  front = noted.front;
  run = noted.run;
  text = report_text plant input.commands noted.front;
  told = ap (λ (p : Plant). report_text p input.commands noted.front) is;
  added = added input.commands noted.front (delays_noted input seats delays plant is noted);
}

-- there is an account for each train
pub accounts_made : (input : Input) (seats : List Seat) (delays : Kept) (plant : Plant) → plant ≡ input.plant → IsNotedRun (λ i f. AreNotedDelays i.plant i.commands f delays) input seats
    → length delays.accounts ≡ trains plant
accounts_made input seats delays plant is noted =
    ap (λ (all : List Account). length all) noted.noted.accounts ∙ length-listed (account input.commands noted.front) (trains input.plant) ∙ ap trains (sym is)
