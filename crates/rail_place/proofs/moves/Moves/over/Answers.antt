use Rattle.std.proofs.Common.{◌≡◌, ℕ, ◌-◌, List, [], get_or, ap, sym, ◌∙◌, subst}
use Rattle.rail_place.specs.Tables.{EndsWith}
use Rattle.rail_place.specs.declared.moves.Row.{Row}
use Rattle.rail_place.proofs.Tables.{claim_at}
use Rattle.rail_place.proofs.moves.Moves.over.Goals as goal

pub returns-clause-ends : goal.returns-clause-ends
returns-clause-ends c =
    let t : ℕ = c.args.train in
    let m : ℕ = c.args.place - 1 in
    let row : Row = c.row.result.now in
    let over : c.at.result.now ≡ get_or row.overs m [] = c.at.ensures ∙ ap (λ p. get_or row.overs (p - 1) []) c.from.ensures in
    let P : List ℕ → Type 0 = λ xs. EndsWith xs c.at.result.now in
    let Q : List ℕ → Type 0 = λ ys. EndsWith (get_or row.claims m []) ys in
    subst P (claim_at c.args.self.now t m row (get_or row.claims m []) c.row.ensures.lists (λ i. get_or row.claims m [])) (subst Q (sym over) (c.row.ensures.ends.ends m))
