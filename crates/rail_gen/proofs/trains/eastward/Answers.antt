use Rattle.std.proofs.Common.{[], ◌∷◌, ◌++◌, codes, ap, ◌∙◌}
use Rattle.rail_gen.specs.MadeScenes.{eastward}
use Rattle.rail_gen.proofs.Turns.{east_more, east_end}
use Rattle.rail_gen.proofs.trains.eastward.Goals as goal

pub loop-index-preserved : goal.loop-index-preserved
loop-index-preserved c =
    let l = c.loop-index in
    east_more l.routes.items c.push.new.self.items c.push-in-loop-index.new.self.items c.args.tracks.now l.index (codes "estart" ∷ eastward 1 c.args.tracks.now) c.loop-index-test.true
    (c.in_ok-push.ensures.items ∙ ap (λ x. l.routes.items ++ x ∷ []) c.route_in.ensures)
    (c.in_ok-push-2.ensures.items ∙ ap (λ x. c.push.new.self.items ++ x ∷ []) c.route_out.ensures)
    l.invariant

pub returns : goal.returns
returns c = let l = c.loop-index in east_end l.routes.items c.args.tracks.now l.index (codes "estart" ∷ eastward 1 c.args.tracks.now) c.loop-index-test.false l.invariant
