use Rattle.std.proofs.Common.{refl, sym, ◌∙◌, arith}
use Rattle.rail_place.specs.Tables.{moves_in}
use Rattle.rail_consequence.proofs.SetLemmas.{needs_where}
use Rattle.rail_consequence.proofs.analyst.playing.is_way_free.Goals as goal

pub returns-then-not-meet_beyond : goal.returns-then-not-meet_beyond
returns-then-not-meet_beyond g c = (
  λ yes i x from below needed is.
      sym (c.stand-own.ensures.set x)
      ∙ c.meet_beyond.ensures.none c.if-not-meet_beyond.true x (c.rest.ensures.set x ∙ needs_where (moves_in c.args.moves.now) c.args.train c.args.from i x from (omega (arith, below, c.requires.to)) needed) is,
  λ free. refl,
)
