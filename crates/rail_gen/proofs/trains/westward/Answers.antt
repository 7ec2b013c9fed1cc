use Rattle.std.proofs.Common.{[], ◌∷◌, ◌++◌, codes, length, ap, ◌∙◌}
use Rattle.rail_gen.specs.MadeScenes.{westward}
use Rattle.rail_gen.proofs.Turns.{west_more, west_end}
use Rattle.rail_gen.proofs.trains.westward.Goals as goal

pub loop-index-preserved : goal.loop-index-preserved
loop-index-preserved c =
    let l = c.loop-index in
    west_more l.routes.items c.push.new.self.items c.push-in-loop-index.new.self.items c.args.tracks.now l.index (codes "wstart" ∷ westward (length c.args.tracks.now) c.args.tracks.now) c.loop-index-test.true
    (c.in_ok-push.ensures.items ∙ ap (λ x. l.routes.items ++ x ∷ []) c.route_in.ensures)
    (c.in_ok-push-2.ensures.items ∙ ap (λ x. c.push.new.self.items ++ x ∷ []) c.route_out.ensures)
    l.invariant

pub returns : goal.returns
returns c = let l = c.loop-index in west_end l.routes.items c.args.tracks.now l.index (codes "wstart" ∷ westward (length c.args.tracks.now) c.args.tracks.now) c.loop-index-test.false l.invariant
