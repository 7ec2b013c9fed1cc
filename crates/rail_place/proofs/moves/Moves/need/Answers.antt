use Rattle.std.proofs.Common.{List, ℕ, ◌-◌, ◌++◌, length, take, ap, sym, ◌∙◌}
use Rattle.rail_place.proofs.moves.Moves.need.Goals as goal

pub returns : goal.returns
returns c =
    let claim : List ℕ = c.claim-claim.result.now in
    let over : List ℕ = c.over-over.result.now in
    c.over-over.ensures.ends
    ∙ ap (λ xs. take (length xs - length over) xs ++ over) (sym c.claim-claim.ensures.sections)
    ∙ ap (λ xs. take (length claim - length over) claim ++ xs) c.over-over.ensures.sections
