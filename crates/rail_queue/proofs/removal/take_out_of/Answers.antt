use Rattle.rail_queue.specs.Removal.{is_other}
use Rattle.rail_queue.proofs.Removed.{thinned_both}
use Rattle.rail_queue.proofs.removal.take_out_of.Goals as goal

pub returns : goal.returns
returns c =
    thinned_both (is_other c.args.class c.args.number) c.args.slots.now c.take_out_first.new.slots c.take_out_behind.new.slots c.args.chain c.requires c.take_out_first.ensures.cleared c.take_out_behind.ensures
