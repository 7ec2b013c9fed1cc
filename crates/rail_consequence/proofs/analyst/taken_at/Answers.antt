use Rattle.std.proofs.Common.{refl, sym, ◌∙◌, arith}
use Rattle.std.proofs.lemmas.Bool.{false≢true}
use Rattle.rail_sets.proofs.CallerLemmas.{none_in_zeros}
use Rattle.rail_rules.specs.Moves.{Moves}
use Rattle.rail_rules.proofs.CallerLemmas.{state_parts}
use Rattle.rail_place.specs.Tables.{moves_in}
use Rattle.rail_consequence.proofs.Counts.{in_at}
use Rattle.rail_consequence.proofs.Holding.{all_taken, taken_more, place_within}
use Rattle.rail_consequence.proofs.analyst.taken_at.Goals as goal

pub position-requires : goal.position-requires
position-requires g c =
    let plan : Moves = moves_in c.args.moves.now in
    let t = c.train-item.result in
    let known = c.requires.listed.trains t (in_at t c.args.inside.now c.loop-train.train-index c.loop-train-test.true c.train-item.is) in
    omega (arith, known, (state_parts plan c.args.places.now.positions c.requires.made.valid).long)

pub stand-requires-clause-within : goal.stand-requires-clause-within
stand-requires-clause-within g c =
    let t = c.train-item.result in
    let known = c.requires.listed.trains t (in_at t c.args.inside.now c.loop-train.train-index c.loop-train-test.true c.train-item.is) in
    omega (arith, c.position.ensures, place_within c.args.moves.now c.args.places.now t c.requires.made known)

pub loop-train-init : goal.loop-train-init
loop-train-init g c = record {
  wide = refl;
  only = λ x is. absurd (false≢true (sym (none_in_zeros 8 x) ∙ is));
  all = λ v x member holder. absurd (false≢true member);
}

pub loop-train-preserved : goal.loop-train-preserved
loop-train-preserved g c =
    taken_more (moves_in c.args.moves.now) c.args.places.now.positions c.args.inside.now c.loop-train.taken c.join.new.set c.stand.result.now c.train-item.result c.position.result c.loop-train.train-index
    c.loop-train.invariant c.loop-train-test.true c.train-item.is c.position.ensures c.join.ensures.long c.join.ensures.set c.stand.ensures.set

pub returns : goal.returns
returns g c = all_taken c.args.moves.now c.args.places.now c.requires.made c.args.inside.now c.requires.listed c.loop-train.taken c.loop-train.train-index c.loop-train-test.false c.loop-train.invariant
