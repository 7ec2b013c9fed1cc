use Rattle.std.proofs.Common.{◌∙◌, ap, length, arith}
use Rattle.rail_gen.proofs.MadeTrains.{coins_count}
use Rattle.rail_gen.specs.MadeScenes.{coins}
use Rattle.rail_gen.proofs.Turns.{coin_value, coin_rest, coins_value, coins_rest}
use Rattle.rail_gen.proofs.trains.coins.Goals as goal

pub loop-turn-preserved : goal.loop-turn-preserved
loop-turn-preserved c =
    let l = c.loop-turn in
    record {
      value = coin_value l.all.items c.push.new.self.items c.coin.result l.words c.coin.new.words c.args.count l._turn c.loop-turn-test.true c.in_ok-push.ensures.items c.coin.ensures.value c.coin.ensures.rest (coins c.args.count c.args.words.now).0 l.invariant.value;
      rest = coin_rest l.all.items c.push.new.self.items c.coin.result l.words c.coin.new.words c.args.count l._turn c.loop-turn-test.true c.in_ok-push.ensures.items c.coin.ensures.value c.coin.ensures.rest (coins c.args.count c.args.words.now).1 l.invariant.rest;
    }

pub returns-clause-value : goal.returns-clause-value
returns-clause-value c = let l = c.loop-turn in coins_value l.all.items l.words c.args.count l._turn (omega arith) (coins c.args.count c.args.words.now).0 l.invariant.value

pub returns-clause-rest : goal.returns-clause-rest
returns-clause-rest c = let l = c.loop-turn in coins_rest l.all.items l.words c.args.count l._turn (omega arith) (coins c.args.count c.args.words.now).1 l.invariant.rest

pub returns-clause-long : goal.returns-clause-long
returns-clause-long c = ap length (returns-clause-value c) ∙ coins_count c.args.count c.args.words.now
