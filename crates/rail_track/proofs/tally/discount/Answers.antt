use Rattle.std.proofs.Common.{arith}
use Rattle.rail_track.proofs.Tallies.{times_discounted}
use Rattle.rail_track.proofs.tally.discount.Goals as goal

pub returns-in-1 : goal.returns-in-1
returns-in-1 g c = record {
  discounted = λ other.
      times_discounted g.K.PartialEq.eq g.met.K.Eq.laws c.args.tally.now c.swap_remove.new.self c.args.key _ c.swap_remove.ensures.updates other (omega (arith, c.in-1.is, c.times.ensures));
}

pub returns-in_default : goal.returns-in_default
returns-in_default g c = record {
  discounted = λ other.
      times_discounted g.K.PartialEq.eq g.met.K.Eq.laws c.args.tally.now c.insert.new.self c.args.key _ (rw c.unwrap.ensures at c.insert.ensures.updates) other (omega (arith, c.requires.counted, c.times.ensures));
}
