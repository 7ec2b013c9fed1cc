-- What of tables does not depend on the rows of their trains, and what depends on the row of one alone.
use Rattle.std.proofs.Common.{◌≡◌, ℕ, suc, ◌++◌, ◌-◌, ◌<◌, not, cond, List, [], ◌∷◌, length, get_or, map, set, Option, Some, None, refl, ap, ◌∙◌}
use Rattle.std.specs.Prelude.{nat_le, sum_by}
use Rattle.std.specs.List.{find}
use Rattle.std.proofs.lemmas.List.{get_or-set_same, set-get_or}
use Rattle.rail_base.specs.declared.plant.MoveRow.{MoveRow}
use Rattle.rail_base.specs.declared.plant.Tables.{Tables}
use Rattle.rail_base.specs.declared.plant.TrainRow.{TrainRow}
use Rattle.rail_rules.specs.Numbers.{is_in, or_else}
use Rattle.rail_rules.specs.Plant.{from_turn, longer, no_move, no_train, section, shortest_end, train}
use Rattle.rail_place.specs.Tables.{lists_of}
use Rattle.rail_plan.specs.MoveTables.{needs_in, overs_in, row_with, spelled, with_moves}
use Rattle.rail_plan.specs.PlanFaults.{bare, blocked_by, fault_at, fault_of_train, fault_over, first_answer, metres_of}
use Rattle.rail_plan.specs.declared.faults.PlanFault.{PlanFault}
use Rattle.rail_plan.specs.declared.faults.PlanFault.TheVariants.{TooLong}

module _ (tables : Tables) (rows : List TrainRow) where
  abbrev other : Tables
  other = record tables { trains = rows }

  -- the shortest end of a route
  pub end_same : (metres : ℕ) (xs : List ℕ) → shortest_end (bare other) metres xs ≡ shortest_end (bare tables) metres xs
  end_same metres [] = refl
  end_same metres (x ∷ xs) = ap (λ shorter. cond (nat_le metres (sum_by (λ y. (section (bare tables) y).length) xs)) shorter (x ∷ xs)) (end_same metres xs)

  -- how a train is spelled
  pub spelled_same : (given : TrainRow) → spelled (bare other) given ≡ spelled (bare tables) given
  spelled_same given =
      ap (λ (f : MoveRow → List ℕ). lists_of (needs_in given.moves) (overs_in given.moves) (map f given.moves))
      (λ i r. longer (end_same given.kind.length r.sections i) (from_turn r.turn r.sections))

  -- the fault of a train at a place, by its row
  pub fault_same : (t m : ℕ) → fault_at (bare other) t m ≡ fault_over (bare tables) t (get_or rows t no_train).kind.length (get_or rows t no_train).moves m
  fault_same t m =
      let r : TrainRow = get_or rows t no_train in
      let row : MoveRow = get_or r.moves m no_move in
      let next : MoveRow = get_or r.moves (suc m) no_move in
      ap (λ (end : List ℕ). or_else (cond (not (nat_le r.kind.length (metres_of (bare tables) row.sections))) (Some (TooLong t (suc m))) None)
      (blocked_by t (suc m) (find (λ x. is_in x (longer end (from_turn row.turn row.sections))) (next.sections ++ next.overlap))))
      (end_same r.kind.length row.sections)

  -- its first fault
  pub first_same : (t : ℕ) → fault_of_train (bare other) t
      ≡ first_answer (fault_over (bare tables) t (get_or rows t no_train).kind.length (get_or rows t no_train).moves) (length (get_or rows t no_train).moves - 1)
  first_same t = ap (λ (f : ℕ → Option PlanFault). first_answer f (length (get_or rows t no_train).moves - 1)) (λ i m. fault_same t m i)

-- the row of a train that gets other moves
pub row_there : (tables : Tables) (t : ℕ) (moves : List MoveRow) → t < length tables.trains → train (bare (with_moves tables t moves)) t ≡ row_with tables t moves
row_there tables t moves lt = get_or-set_same tables.trains t (row_with tables t moves) no_train lt

-- its first fault
pub first_there : (tables : Tables) (t : ℕ) (moves : List MoveRow) → t < length tables.trains
    → fault_of_train (bare (with_moves tables t moves)) t ≡ first_answer (fault_over (bare tables) t (train (bare tables) t).kind.length moves) (length moves - 1)
first_there tables t moves lt =
    first_same tables (set tables.trains t (row_with tables t moves)) t
    ∙ ap (λ (r : TrainRow). first_answer (fault_over (bare tables) t r.kind.length r.moves) (length r.moves - 1)) (row_there tables t moves lt)

-- how it is spelled
pub spelled_there : (tables : Tables) (t : ℕ) (moves : List MoveRow) → t < length tables.trains
    → spelled (bare (with_moves tables t moves)) (train (bare (with_moves tables t moves)) t) ≡ spelled (bare tables) (row_with tables t moves)
spelled_there tables t moves lt =
    spelled_same tables (set tables.trains t (row_with tables t moves)) (train (bare (with_moves tables t moves)) t)
    ∙ ap (spelled (bare tables)) (row_there tables t moves lt)

-- with its own moves the tables are the same
pub own_moves : (tables : Tables) (t : ℕ) → with_moves tables t (train (bare tables) t).moves ≡ tables
own_moves tables t = ap (λ (rows : List TrainRow). record tables { trains = rows }) (set-get_or tables.trains t no_train)
