-- The times of the intervals of a history, of which open ones have a begin alone.
use Rattle.std.proofs.Common.{◌≡◌, ℕ, ◌<◌, true, ◌&&◌, nat_lt, length, Option, Some, None, arith}
use Rattle.std.specs.Prelude.{◌^◌, unwrap_or}
use Rattle.std.proofs.lemmas.Bool.{and_from, lt-ltb}
use Rattle.rail_base.specs.declared.intervals.Interval.{Interval}
use Rattle.rail_insert.specs.TimeBounds.{are_timely, is_timely}
use Rattle.rail_rules.specs.Accepted.{is_accepted_input}
use Rattle.rail_rules.specs.Fronts.{Front, admissions}
use Rattle.rail_rules.specs.Intervals.{has_interval}
use Rattle.rail_rules.specs.Lawful.{is_complete}
use Rattle.rail_rules.specs.Orders.{Input}
use Rattle.rail_rules.specs.Apart.{IsStep}
use Rattle.rail_rules.specs.Plant.{claims, trains}
use Rattle.rail_stairs.specs.EndedIntervals.{interval_in}
use Rattle.rail_stairs.specs.Stairways.{move_intervals, stairway, step_intervals, train_intervals}
use Rattle.rail_stairs.proofs.Conflicts.{all_gathered}
use Rattle.rail_stairs.proofs.Ending.{positive_at_end}
use Rattle.rail_stairs.proofs.There.{there_all}

-- an interval begins before it ends or the history does, which is early enough
both_early : (begin last : ℕ) (ends : Option ℕ) → begin < unwrap_or ends last → unwrap_or ends last < 2 ^ 50
    → (nat_lt begin (2 ^ 50) && nat_lt (unwrap_or ends begin) (2 ^ 50)) ≡ true
both_early begin last None later small =
    let early : begin < 2 ^ 50 = omega (arith, later, small) in
    and_from (nat_lt begin (2 ^ 50)) (nat_lt begin (2 ^ 50)) (lt-ltb begin (2 ^ 50) early) (lt-ltb begin (2 ^ 50) early)
both_early begin last (Some time) later small =
    and_from (nat_lt begin (2 ^ 50)) (nat_lt time (2 ^ 50)) (lt-ltb begin (2 ^ 50) (omega (arith, later, small))) (lt-ltb time (2 ^ 50) small)

module _ (input : Input) (accepted : is_accepted_input input ≡ true) (front : Front) (complete : is_complete input front ≡ true) where
  abbrev interval : ℕ → ℕ → ℕ → Interval
  interval t m j = interval_in input.plant front t m j

  timely_step : (t m j : ℕ) → IsStep input.plant front t m j → has_interval input.plant t (admissions front t) m j ≡ true → is_timely (interval t m j) ≡ true
  timely_step t m j step there =
      let h = positive_at_end input accepted front complete t m j step there in
      both_early (interval t m j).begin _ (interval t m j).«end» h.positive h.small

  pub all_timely : are_timely (stairway input.plant front) ≡ true
  all_timely =
      all_gathered is_timely (λ t. train_intervals input.plant t (admissions front t)) (trains input.plant)
      (λ t known. all_gathered is_timely (move_intervals input.plant t (admissions front t)) (length (admissions front t))
      (λ m admitted. all_gathered is_timely (step_intervals input.plant t (admissions front t) m) (claims input.plant t m)
      (λ j within. there_all is_timely (has_interval input.plant t (admissions front t) m j) (interval t m j)
      (timely_step t m j (record { known = known; admitted_move = admitted; step = within })))))
