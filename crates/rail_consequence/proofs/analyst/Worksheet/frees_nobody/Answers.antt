use Rattle.rail_rules.specs.Moves.{Moves}
use Rattle.rail_place.specs.Tables.{moves_in}
use Rattle.rail_consequence.proofs.Freeing.{none_freed, rest_within}
use Rattle.rail_consequence.proofs.analyst.Worksheet.frees_nobody.Goals as goal

pub returns-then-stay_without_leg : goal.returns-then-stay_without_leg
returns-then-stay_without_leg g c =
    let plan : Moves = moves_in c.args.moves.now in
    let w = c.args.self.now in
    let s = w.places.positions in
    let made = c.requires.ready.made in
    λ yes. record {
      other = c.has_other_inside.ensures c.if-not-has_other_inside.false;
      none = none_freed plan s c.args.notes.now.stops w.needs g.W.Width.WORDS c.args.train made.moves.valid made.valid c.requires.ready.counted c.requires.settled
          (rest_within plan s g.W.Width.WORDS c.args.train c.requires.words made.valid)
          c.look_ahead-ahead.result.fell c.args.inside.now c.args.place c.requires.inside c.requires.ahead c.look_ahead-ahead.ensures.fell c.requires.listed
          (λ u found ne here may. c.stay_without_leg.ensures c.if-stay_without_leg.true u found ne may)
          (λ u found ne x later. c.falls_are_in_vain.ensures yes u x found ne later);
    }
