use Rattle.std.proofs.Common.{◌≡◌, List, [], ◌∷◌, ◌++◌, ℕ, ◌<◌, length, get_or, take, ap, sym, ◌∙◌, arith}
use Rattle.rail_place.specs.Tables.{joined}
use Rattle.rail_place.proofs.Joining.{joined_more}
use Rattle.rail_place.proofs.claims.joined.Goals as goal

pub loop-index-preserved : goal.loop-index-preserved
loop-index-preserved c =
    let need : List (List ℕ) = c.args.need.now in
    let over : List (List ℕ) = c.args.over.now in
    let i : ℕ = c.loop-index.index in
    let both : c.as_slice.result.now ≡ get_or need i [] ++ get_or over i [] =
    c.as_slice.ensures.value
    ∙ c.in_ok-extend_from_slice-2.ensures.items
    ∙ ap (λ xs. xs ++ c.at-in-loop-index.result.now) (c.in_ok-extend_from_slice.ensures.items ∙ ap (λ xs. xs ++ c.at.result.now) c.clear.ensures.items ∙ c.at.ensures)
    ∙ ap (λ xs. get_or need i [] ++ xs) c.at-in-loop-index.ensures in
    let here : i < length need = omega (arith, c.loop-index-test.true, c.len-index-end.ensures) in
    c.in_ok-push.ensures.ok
    ∙ ap (λ xs. xs ++ c.as_slice.result.now ∷ []) c.loop-index.invariant
    ∙ ap (λ xs. joined (take i need) (take i over) ++ xs ∷ []) both
    ∙ sym (joined_more need over i here (omega (arith, here, c.requires)))
