use Rattle.std.proofs.Common.{◌∙◌}
use Rattle.rail_base.proofs.Writing.{hours_text-pair}
use Rattle.rail_base.proofs.clock.hours_pair.Goals as goal

-- hours below 100 have two digits
pub returns : goal.returns
returns c = c.pair.ensures ∙ hours_text-pair c.args.hours c.requires
