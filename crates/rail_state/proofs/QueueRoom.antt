-- The bound on the lines of a plant is small.
use Rattle.std.proofs.Common.{◌≡◌, ℕ, suc, ◌+◌, ◌<◌, ◌≤◌, Bool, true, List, length, ap, ◌∙◌, arith}
use Rattle.std.specs.Prelude.{count_by, map}
use Rattle.rail_rules.specs.Numbers.{gather, sum_below}
use Rattle.rail_rules.specs.Plant.{Plant, bound, move_lines, move_row, moves, trains}
use Rattle.rail_rules.specs.Accepted.{is_accepted}
use Rattle.rail_queue.specs.declared.event.Event.{Event}
use Rattle.rail_state.proofs.Counts.{count-append}
use Rattle.rail_laws_events.proofs.CallerLemmas.{sum-limited}
use Rattle.rail_rules.proofs.CallerLemmas.{accepted_parts, claims_are, move_in_range, row_in_range}
use Rattle.rail_base.specs.declared.limits.TheConstants.{MOVE_LINES, TRAIN_LINES}
use Rattle.std.proofs.lemmas.List.{length-map}
use Rattle.rail_base.specs.declared.plant.SectionRow.{SectionRow}

-- the lines of a train's moves
of_train : (plant : Plant) → is_accepted plant ≡ true → (t : ℕ) → t < trains plant → sum_below (move_lines plant t) (moves plant t) ≤ TRAIN_LINES
of_train plant accepted t lt =
    let row = row_in_range plant (accepted_parts plant accepted).trains_in_range t lt in
    omega (
      arith,
      sum-limited (move_lines plant t) MOVE_LINES (moves plant t) (λ m lm.
          let fine = move_in_range (length plant.tables.sections) (move_row plant t m) (row.each_move m lm) in
          omega (arith, fine.few_steps, fine.few_over, claims_are plant t m)),
      row.few_moves,
    )

pub bound_small : (plant : Plant) → is_accepted plant ≡ true → bound plant 0 ≤ 3000000
bound_small plant accepted =
    omega (
      arith,
      sum-limited (λ t. sum_below (move_lines plant t) (moves plant t)) TRAIN_LINES (trains plant) (of_train plant accepted),
      (accepted_parts plant accepted).few_trains,
    )

-- one list more
pub one_more : (f : ℕ → List Event) (q : Event → Bool) (n k : ℕ) → k ≡ suc n → count_by q (gather f k) ≡ count_by q (gather f n) + count_by q (f n)
one_more f q n k is = ap (λ m. count_by q (gather f m)) is ∙ count-append q (gather f n) (f n)

-- how many sections the names give
pub many_sections : (plant : Plant) (keys : List (List ℕ)) → keys ≡ map (λ (row : SectionRow). row.name) plant.tables.sections → length keys ≡ length plant.tables.sections
many_sections plant keys are = ap length are ∙ length-map plant.tables.sections (λ (row : SectionRow). row.name)
