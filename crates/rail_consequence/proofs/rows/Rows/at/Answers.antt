use Rattle.std.proofs.Common.{◌≡◌, ◌+◌, ◌<◌, List, [], length, get_or, map, ap, ◌∙◌, sym, subst, arith}
use Rattle.std.proofs.lemmas.List.{get_or-map, length-map}
use Rattle.rail_rules.specs.Moves.{Moves}
use Rattle.rail_place.specs.Tables.{moves_in}
use Rattle.rail_consequence.specs.Needs.{IsSetRow, SetRows}
use Rattle.rail_consequence.specs.declared.rows.PlaceSets.{PlaceSets}
use Rattle.rail_consequence.proofs.SetLemmas.{place_of_row}
use Rattle.rail_consequence.proofs.SharedRows.{sets_of}
use Rattle.rail_consequence.proofs.rows.Rows.at.Goals as goal

pub returns : goal.returns
returns c =
    let plan : Moves = moves_in c.args.moves.now in
    let t = c.args.train in
    let p = c.args.place in
    let rows : c.args.self.now.rows ≡ map sets_of c.self.inside.rows.items = sym (ap (λ (r : SetRows). r.rows) c.self.view_is) in
    let number : t ≡ c.from.result = omega (arith, c.from.ensures, c.train.view_is) in
    let within : c.from.result < length c.self.inside.rows.items =
    omega (arith, number, c.requires.rows.long, c.requires.train, ap length rows, length-map c.self.inside.rows.items sets_of) in
    let row : get_or c.args.self.now.rows t [] ≡ c.behind-index.inside.places.items =
    ap (λ xs. get_or xs t []) rows
    ∙ ap (λ k. get_or (map sets_of c.self.inside.rows.items) k []) number
    ∙ get_or-map sets_of c.self.inside.rows.items c.from.result c.index.result.now [] within
    ∙ ap sets_of (sym c.index.ensures) ∙ sym c.deref.ensures ∙ sym c.behind-index.view_is in
    let P : List PlaceSets → Type 0 = λ r. IsSetRow plan t (plan.moves t + 1) r in
    place_of_row plan t p c.from-2.result c.behind-index.inside.places.items c.index-2.result.now (subst P row (c.requires.rows.told t c.requires.train)) c.requires.within c.from-2.ensures c.index-2.ensures
