use Rattle.std.proofs.Common.{arith}
use Rattle.rail_gen.specs.MadeScenes.{trains_from}
use Rattle.rail_gen.proofs.Turns.{train_more, trains_end}
use Rattle.rail_gen.proofs.trains.trains.Goals as goal

pub loop-n-preserved : goal.loop-n-preserved
loop-n-preserved c =
    let l = c.loop-n in
    train_more l.trains.items c.push.new.self.items c.in_ok-train.field-0 l.words c.train.new.words c.args.count l.n c.args.total (trains_from c.args.count 1 c.args.total c.args.words.now) c.loop-n-test.true
    c.in_ok-push.ensures.items c.in_ok-train.ensures.train c.in_ok-train.ensures.rest l.invariant

pub returns : goal.returns
returns c = let l = c.loop-n in trains_end l.trains.items l.words c.args.count l.n c.args.total (trains_from c.args.count 1 c.args.total c.args.words.now) (omega arith) l.invariant
