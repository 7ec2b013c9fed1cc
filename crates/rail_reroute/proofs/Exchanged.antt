-- Moves and rows of one train that are exchanged.
use Rattle.std.proofs.Common.{◌≡◌, ℕ, refl, ◌<◌, List, [], ◌∷◌, length, get_or, map, set, sym, ap, ◌∙◌, arith}
use Rattle.std.proofs.lemmas.List.{get_or-set_other, get_or-set_same, length-set, map-set, set-set, set-get_or}
use Rattle.rail_base.specs.declared.plant.Tables.{Tables}
use Rattle.rail_base.specs.declared.plant.TrainRow.{TrainRow}
use Rattle.rail_place.specs.Tables.{MoveLists, moves_in, no_lists}
use Rattle.rail_plan.specs.MoveTables.{spelled, table_of}
use Rattle.rail_plan.specs.PlanFaults.{bare}
use Rattle.rail_consequence.specs.AnalystStates.{AreAlikeBut}
use Rattle.rail_consequence.specs.Needs.{AreRowsFor, IsRowsOf, SetRows}
use Rattle.rail_consequence.proofs.CallerLemmas.{rows_for}
use Rattle.rail_plan.proofs.CallerLemmas.{spelled_same}
use Rattle.rail_reroute.proofs.Changed.{with_row}

-- a table in which the row of one train is another has the same moves of the others
pub alike : (table : List MoveLists) (t : ℕ) (row : MoveLists) → AreAlikeBut t (moves_in table) (moves_in (set table t row))
alike table t row = record {
  trains = length-set table t row;
  moves = λ u apart. ap (λ (lists : MoveLists). length lists.claims) (get_or-set_other table t u row no_lists apart);
  claims = λ u apart i m. get_or (get_or-set_other table t u row no_lists apart i).claims m [];
  stands = λ u apart i m. get_or (get_or-set_other table t u row no_lists apart i).stands m [];
}

-- the sets of a table of one train are those of the train that gets its row
pub sets_for : (table : List MoveLists) (t : ℕ) (row : MoveLists) (sets : SetRows) → t < length table → IsRowsOf (moves_in (row ∷ [])) sets → AreRowsFor (moves_in (set table t row)) t sets
sets_for table t row sets lt own =
    let here : row ≡ get_or (set table t row) t no_lists = sym (get_or-set_same table t row no_lists lt) in
    rows_for (moves_in (set table t row)) (moves_in (row ∷ [])) t sets
    (ap (λ (lists : MoveLists). length lists.claims) here)
    (λ i m. get_or (here i).claims m [])
    (λ i m. get_or (here i).stands m [])
    (omega arith) own

-- a row that is put back
pub put_back : {X : Type 0} (xs : List X) (t : ℕ) (x d : X) → set (set xs t x) t (get_or xs t d) ≡ xs
put_back xs t x d = set-set xs t x (get_or xs t d) ∙ set-get_or xs t d

-- the table of moves of the changed tables
pub table_changed : (tables : Tables) (t : ℕ) (row : TrainRow) → table_of (with_row tables t row) ≡ set (table_of tables) t (spelled (bare tables) row)
table_changed tables t row =
    (λ i. map (λ given. spelled_same tables (set tables.trains t row) given i) (set tables.trains t row)) ∙ map-set (spelled (bare tables)) tables.trains t row

-- a table of one train has its row
pub alone : (table : List MoveLists) → length table ≡ 1 → table ≡ get_or table 0 no_lists ∷ []
alone [] one = absurd (omega (arith, one))
alone (row ∷ []) one = refl
alone (row ∷ next ∷ rows) one = absurd (omega (arith, one))

-- moves that were exchanged are as before once they are exchanged again
pub moves_back : (table now one two : List MoveLists) (t : ℕ) → 0 < length one → now ≡ set table t (get_or one 0 no_lists) → two ≡ set one 0 (get_or table t no_lists)
    → set now t (get_or two 0 no_lists) ≡ table
moves_back table now one two t some here there =
    (λ i. set (here i) t (get_or (there i) 0 no_lists))
    ∙ ap (λ (lists : MoveLists). set (set table t (get_or one 0 no_lists)) t lists) (get_or-set_same one 0 (get_or table t no_lists) no_lists some)
    ∙ put_back table t (get_or one 0 no_lists) no_lists
