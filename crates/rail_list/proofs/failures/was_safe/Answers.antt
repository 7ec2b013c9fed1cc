use Rattle.std.proofs.Common.{◌≡◌, ℕ, suc, ◌<◌, length, ap, ◌∙◌, arith}
use Rattle.std.proofs.lemmas.List.{get_or-set_same, length-set}
use Rattle.rail_rules.specs.Analysis.{is_safe}
use Rattle.rail_rules.specs.Moves.{Moves}
use Rattle.rail_rules.specs.Places.{place_of}
use Rattle.rail_place.specs.Tables.{moves_in}
use Rattle.rail_place.proofs.CallerLemmas.{made_long}
use Rattle.rail_list.proofs.Behind.{later_is_safe, place_within}
use Rattle.rail_list.proofs.failures.was_safe.Goals as goal

pub is_leg_safe-requires-clause-within : goal.is_leg_safe-requires-clause-within
is_leg_safe-requires-clause-within c =
    omega (arith, c.position-place.ensures, place_within c.args.moves.now c.args.places.now c.args.moved c.requires.made c.requires.moved)

pub returns-then-place-gt1 : goal.returns-then-place-gt1
returns-then-place-gt1 c = λ s came.
    let plan : Moves = moves_in c.args.moves.now in
    let t : ℕ = c.args.moved in
    let p : ℕ = c.position-place.result in
    let lt : t < length s = omega (arith, c.requires.moved, made_long c.args.moves.now c.args.places.now c.requires.made, ap length came.0, length-set s t (suc (place_of s t))) in
    let at : p ≡ suc (place_of s t) = c.position-place.ensures ∙ ap (λ r. place_of r t) came.0 ∙ get_or-set_same s t (suc (place_of s t)) 0 lt in
    c.is_leg_safe.ensures
    ∙ ap (λ r. is_safe plan r (record { train = t; place = p })) came.0
    ∙ later_is_safe plan s t p came.1 (omega (arith, at, c.if-place-gt1.true)) at
