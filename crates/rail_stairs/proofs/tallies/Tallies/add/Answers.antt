use Rattle.std.proofs.Common.{refl}
use Rattle.rail_stairs.proofs.Tallied.{tallied_more}
use Rattle.rail_stairs.proofs.tallies.Tallies.add.Goals as goal

pub returns : goal.returns
returns c = λ seen h.
    tallied_more c.args.ended seen c.args.interval.now c.args.self.now c.count.new.self c.args.interval.now.section _ _ c.length_until.result h refl c.requires.known c.length_until.ensures c.length_until.type_inv
    refl refl c.count.ensures.visits c.count.ensures.occupied
