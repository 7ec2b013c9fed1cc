-- How many intervals there are at most, and the sections that they are on.
use Rattle.std.proofs.Common.{◌≡◌, ℕ, ◌+◌, ◌*◌, ◌<◌, ◌≤◌, ◌^◌, true, ltb, length, length-append, arith}
use Rattle.std.proofs.lemmas.Bool.{ltb-true}
use Rattle.rail_base.specs.Limits.{most, Trains, ItineraryRoutes, OverlapSections, RouteSections}
use Rattle.rail_rules.specs.Accepted.{is_accepted}
use Rattle.rail_rules.specs.Intervals.{has_interval, interval_of}
use Rattle.rail_rules.specs.Numbers.{gather}
use Rattle.rail_rules.specs.Plant.{Plant, claimed, claims, move_row, moves, step_section, trains}
use Rattle.rail_rules.proofs.CallerLemmas.{IsMoveInRange, accepted_parts, claims_are, list_all_get, move_in_range, row_in_range}
use Rattle.rail_stairs.specs.declared.stairs.Stairs.{Stairs}
use Rattle.rail_stairs.specs.Journeys.{AreAllAdmissible, before_move, before_step, before_train}
use Rattle.rail_stairs.specs.NotedHistories.{noted_of}
use Rattle.rail_stairs.specs.Stairways.{move_intervals, step_intervals, train_intervals}
use Rattle.rail_stairs.proofs.Gathered.{gather_short}
use Rattle.rail_stairs.proofs.There.{there_short}

-- intervals of a move at most
abbrev pub move_most : ℕ
move_most = most RouteSections + most OverlapSections

module _ (plant : Plant) (accepted : is_accepted plant ≡ true) where
  few_trains : trains plant ≤ most Trains
  few_trains = (accepted_parts plant accepted).few_trains

  pub few_moves : (t : ℕ) → t < trains plant → moves plant t ≤ most ItineraryRoutes
  few_moves t lt = (row_in_range plant (accepted_parts plant accepted).trains_in_range t lt).few_moves

  fine_move : (t m : ℕ) → t < trains plant → m < moves plant t → IsMoveInRange (length plant.tables.sections) (move_row plant t m)
  fine_move t m lt lm = move_in_range (length plant.tables.sections) (move_row plant t m) ((row_in_range plant (accepted_parts plant accepted).trains_in_range t lt).each_move m lm)

  few_claims : (t m : ℕ) → t < trains plant → m < moves plant t → claims plant t m ≤ most RouteSections + most OverlapSections
  few_claims t m lt lm = omega (arith, claims_are plant t m, (fine_move t m lt lm).few_steps, (fine_move t m lt lm).few_over)

  -- the section of a step is one of the plant's
  pub section_known : (t m j : ℕ) → t < trains plant → m < moves plant t → j < claims plant t m → step_section plant t m j < length plant.tables.sections
  section_known t m j lt lm lj =
      ltb-true (step_section plant t m j) (length plant.tables.sections)
      (list_all_get (λ x. ltb x (length plant.tables.sections)) (claimed plant t m) j 0 (fine_move t m lt lm).known lj)

  module _ (stairs : Stairs) (fine : AreAllAdmissible plant stairs) where
    short_step : (t m j : ℕ) → length (step_intervals plant t (noted_of stairs t) m j) ≤ 1
    short_step t m j = there_short (has_interval plant t (noted_of stairs t) m j) (interval_of plant t (noted_of stairs t) m j)

    few_of_move : (t m : ℕ) → t < trains plant → m < length (noted_of stairs t) → length (move_intervals plant t (noted_of stairs t) m) ≤ move_most
    few_of_move t m lt lm =
        omega (arith, gather_short (step_intervals plant t (noted_of stairs t) m) (claims plant t m) 1 (λ j lj. short_step t m j), few_claims t m lt (omega (arith, lm, (fine t lt).few)))

    few_of_train : (t : ℕ) → t < trains plant → length (train_intervals plant t (noted_of stairs t)) ≤ most ItineraryRoutes * move_most
    few_of_train t lt =
        omega (arith, gather_short (move_intervals plant t (noted_of stairs t)) (length (noted_of stairs t)) move_most (λ m lm. few_of_move t m lt lm), (fine t lt).few, few_moves t lt)

    pub few_before_train : (t : ℕ) → t ≤ trains plant → length (before_train plant stairs t) ≤ t * (most ItineraryRoutes * move_most)
    few_before_train t le = gather_short (λ u. train_intervals plant u (noted_of stairs u)) t (most ItineraryRoutes * move_most) (λ u lu. few_of_train u (omega (arith, lu, le)))

    -- so few intervals stand before a step
    pub few_before_step : (t m j : ℕ) → t < trains plant → m < length (noted_of stairs t) → j ≤ claims plant t m → length (before_step plant stairs t m j) < 2 ^ 21
    few_before_step t m j lt lm lj =
        let within : m < moves plant t = omega (arith, lm, (fine t lt).few) in
        omega (
          arith,
          length-append (before_move plant stairs t m) (gather (step_intervals plant t (noted_of stairs t) m) j),
          length-append (before_train plant stairs t) (gather (move_intervals plant t (noted_of stairs t)) m),
          gather_short (step_intervals plant t (noted_of stairs t) m) j 1 (λ i li. short_step t m i),
          gather_short (move_intervals plant t (noted_of stairs t)) m move_most (λ n ln. few_of_move t n lt (omega (arith, ln, lm))),
          few_before_train t (omega (arith, lt)),
          few_trains,
          few_moves t lt,
          few_claims t m lt within,
          lj,
          lt,
          within,
        )
