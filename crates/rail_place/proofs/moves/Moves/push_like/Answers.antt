use Rattle.std.proofs.Common.{◌≡◌, ◌∷◌, [], ◌++◌, get_or, ap, sym, ◌∙◌, subst, List, ℕ}
use Rattle.rail_place.specs.Tables.{IsTable, MoveLists, no_lists}
use Rattle.rail_place.proofs.Tables.{kept_of, row_at, row_of, table_at, table_repeated}
use Rattle.rail_place.proofs.moves.Moves.push_like.Goals as goal

pub push_row-requires-clause-table : goal.push_row-requires-clause-table
push_row-requires-clause-table c =
    let now : List MoveLists = c.args.self.now in
    let t : ℕ = c.args.train in
    let at : get_or now t no_lists ≡ kept_of c.index.result.now =
    row_at now c.self.inside.rows.items t c.from.result c.index.result.now c.self.view_is (c.from.ensures ∙ c.train.view_is) c.requires.train c.index.ensures in
    let same : kept_of c.in-Ok.row ≡ get_or now t no_lists = ap row_of c.in-Ok.ensures.cases ∙ sym at in
    let P : MoveLists → Type 0 = λ r. IsTable (now ++ r ∷ []) in
    subst P (sym same) (table_repeated now t (table_at now c.self.inside.rows.items c.self.view_is c.self.invariant.0) c.requires.room c.requires.train)
