use Rattle.rail_queue.specs.Removal.{is_other}
use Rattle.rail_queue.proofs.Removed.{all_thinned_more}
use Rattle.rail_queue.proofs.removal.take_out.Goals as goal
use Rattle.std.proofs.Common.{◌<◌, length, arith}

pub loop-chain-preserved : goal.loop-chain-preserved
loop-chain-preserved c =
    let within : c.loop-chain.chain < length c.args.slots.now.chains = omega (arith, c.loop-chain-test.true, c.requires) in
    all_thinned_more (is_other c.args.class c.args.number) c.args.slots.now c.loop-chain.slots c.take_out_of.new.slots c.loop-chain.chain within c.loop-chain.invariant c.take_out_of.ensures
