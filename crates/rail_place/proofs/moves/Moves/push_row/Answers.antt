use Rattle.std.proofs.Common.{◌≡◌, ◌∷◌, [], ◌++◌, length, map, ap, sym, ◌∙◌, subst, List, arith}
use Rattle.std.specs.List.{All}
use Rattle.std.proofs.lemmas.List.{length-map, map_push}
use Rattle.std.proofs.lemmas.List.Elements.{All-push}
use Rattle.rail_place.specs.Lasts.{TellsEnds}
use Rattle.rail_place.specs.Tables.{AreFirsts, EndWith, IsTable, MoveLists}
use Rattle.rail_place.proofs.Tables.{Kept, kept_of}
use Rattle.rail_place.proofs.moves.Moves.push_row.Goals as goal

pub invariant_of-self-2 : goal.invariant_of-self-2
invariant_of-self-2 c =
    let rows : List Kept = c.self.inside.rows.items in
    let now : List MoveLists = c.args.self.now in
    let row : Kept = c.args.row in
    let items : c.push_reserved.new.self.items ≡ rows ++ row ∷ [] = c.push_reserved.ensures.items ∙ ap (λ xs. xs ++ row ∷ []) c.reserve.ensures.items in
    let lists : map kept_of c.push_reserved.new.self.items ≡ now ++ kept_of row ∷ [] =
    ap (map kept_of) items ∙ map_push kept_of rows row ∙ ap (λ xs. xs ++ kept_of row ∷ []) c.self.view_is in
    let T : Kept → Type 0 = λ r. TellsEnds r.value.claims r.value.lasts.items r.value.firsts.items in
    let E : Kept → Type 0 = λ r. EndWith r.value.claims r.value.overs in
    let known : List MoveLists → Type 0 = λ n. AreFirsts n c.self.inside.firsts.items in
    let firsts : List MoveLists → Type 0 = λ n. AreFirsts n c.note_first.new.firsts.items in
    let size : length now ≡ c.len.result = omega (arith, ap length c.self.view_is, length-map rows kept_of, c.len.ensures, ap length c.reserve.ensures.items) in (
      subst IsTable (sym lists) c.requires.table,
      subst (All T) (sym items) (All-push T rows row c.self.invariant.1 c.requires.told),
      subst (All E) (sym items) (All-push E rows row c.self.invariant.2 c.requires.ends),
      subst firsts (sym lists) (c.in-Ok.ensures.ok now (kept_of row) size (subst known c.self.view_is c.self.invariant.3) c.requires.same),
    )
