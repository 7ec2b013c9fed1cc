-- What an accepted plant says of single times.
use Rattle.std.proofs.Common.{◌≡◌, ℕ, zero, suc, ◌+◌, ◌*◌, ◌-◌, ◌<◌, ◌≤◌, min, true, ltb, length, arith}
use Rattle.std.proofs.lemmas.Bool.{ltb-true}
use native.Mathlib.Nat.{div-le_self}
use Rattle.rail_base.specs.declared.limits.TheConstants.{TRAINS, ITINERARY_ROUTES}
use Rattle.rail_rules.specs.Numbers.{sum_below, quotient_up}
use Rattle.rail_rules.specs.Plant.{Plant, section, train, trains, moves, move_row, claimed, steps, step_section, call_after, dwell, departure, run_time, clear_time, run_over}
use Rattle.rail_rules.specs.Accepted.{is_accepted}
use Rattle.rail_rules.proofs.CallerLemmas.{accepted_parts, steps_claimed, IsRowInRange, row_in_range, IsMoveInRange, move_in_range, IsSectionInRange, section_in_range, IsKindInRange, list_all_get, IsCallInRange, call_in_range}
use Rattle.rail_laws_front.proofs.CallerLemmas.{known_train}

quotient-le : (a b : ℕ) → quotient_up a b ≤ a + b
quotient-le a b = omega (arith, div-le_self (a + (b - 1)) b)

pub sum-limited : (f : ℕ → ℕ) (c n : ℕ) → ((i : ℕ) → i < n → f i ≤ c) → sum_below f n ≤ c * n
sum-limited f c zero h = omega arith
sum-limited f c (suc n) h = omega (arith, sum-limited f c n (λ i lt. h i (omega (arith, lt))), h n (omega arith))

-- the single times of a plant, in tenths of a second
pub record IsLimited (plant : Plant) : Type 0 where
  pub few : trains plant ≤ TRAINS
  pub few_moves : (t : ℕ) → t < trains plant → moves plant t ≤ ITINERARY_ROUTES
  pub entry : (t : ℕ) → t < trains plant → (train plant t).entry ≤ 8640000
  pub start : (t : ℕ) → t < trains plant → (train plant t).kind.start ≤ 6000
  pub stop : (t : ℕ) → t < trains plant → (train plant t).kind.stop ≤ 6000
  pub signal : (t m : ℕ) → m < moves plant t → (move_row plant t m).setting + (move_row plant t m).watching + (move_row plant t m).approach ≤ 48000
  pub stands : (t m : ℕ) → m < moves plant t → dwell plant t (suc m) ≤ 8640000
  pub departs : (t m : ℕ) → m < moves plant t → departure plant t (suc m) ≤ 8640000
  pub runs : (t m j : ℕ) → m < moves plant t → j ≤ steps plant t m → run_over plant t m j ≤ 115232000
  pub clears : (t m j : ℕ) → m < moves plant t → j < steps plant t m → clear_time (train plant t).kind (section plant (step_section plant t m j)) ≤ 361000
  pub release : plant.tables.release ≤ 6000
  pub overlap_time : plant.tables.overlap_time ≤ 6000

pub limited : (plant : Plant) → is_accepted plant ≡ true → IsLimited plant
limited plant accepted =
    let h = accepted_parts plant accepted in
    let of_train : (t : ℕ) → t < trains plant → IsRowInRange plant t = λ t lt. row_in_range plant h.trains_in_range t lt in
    let of_kind : (t : ℕ) → t < trains plant → IsKindInRange (train plant t).kind = λ t lt. (of_train t lt).kind in
    let of_move : (t m : ℕ) → m < moves plant t → IsMoveInRange (length plant.tables.sections) (move_row plant t m) = λ t m lm.
    move_in_range (length plant.tables.sections) (move_row plant t m) ((of_train t (known_train plant t m lm)).each_move m lm) in
    let of_section : (t m j : ℕ) → m < moves plant t → j < steps plant t m → IsSectionInRange (section plant (step_section plant t m j)) = λ t m j lm lj.
    section_in_range plant h.sections (step_section plant t m j) (ltb-true (step_section plant t m j) (length plant.tables.sections) (list_all_get (λ y. ltb y (length plant.tables.sections)) (claimed plant t m) j 0 (of_move t m lm).known (omega (arith, lj, steps_claimed plant t m)))) in
    let of_call : (t m : ℕ) → m < moves plant t → IsCallInRange (call_after plant t m) = λ t m lm. call_in_range plant h.calls t m (known_train plant t m lm) lm in
    record {
      few = h.few_trains;
      few_moves = λ t lt. (of_train t lt).few_moves;
      entry = λ t lt. (of_train t lt).entry;
      start = λ t lt. (of_kind t lt).start;
      stop = λ t lt. (of_kind t lt).stop;
      signal = λ t m lm. omega (arith, (of_move t m lm).setting, (of_move t m lm).watching, (of_move t m lm).approach);
      stands = λ t m lm. omega (arith, (of_call t m lm).dwell, (of_move t m lm).turn_time);
      departs = λ t m lm. (of_call t m lm).departure;
      runs = λ t m j lm lj.
          let each : (i : ℕ) → i < j → run_time (train plant t).kind (section plant (step_section plant t m i)) ≤ 3601000 = λ i lt.
          omega (arith, quotient-le (36 * (section plant (step_section plant t m i)).length) (min (train plant t).kind.speed (section plant (step_section plant t m i)).speed), (of_section t m i lm (omega (arith, lt, lj))).length, (of_section t m i lm (omega (arith, lt, lj))).speed) in
          omega (arith, sum-limited (λ i. run_time (train plant t).kind (section plant (step_section plant t m i))) 3601000 j each, lj, (of_move t m lm).few_steps);
      clears = λ t m j lm lj.
          omega (arith, quotient-le (36 * (train plant t).kind.length) (min (train plant t).kind.speed (section plant (step_section plant t m j)).speed), (of_kind t (known_train plant t m lm)).length, (of_section t m j lm lj).speed);
      release = h.release;
      overlap_time = h.overlap_time;
    }
