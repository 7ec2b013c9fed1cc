use Rattle.std.proofs.Common.{ap, arith}
use Rattle.rail_base.specs.declared.plant.TrainRow.{TrainRow}
use Rattle.rail_block.proofs.Limits.{train_in_range}
use Rattle.rail_block.proofs.times.entry_times.Goals as goal

pub new-first-requires-clause-last : goal.new-first-requires-clause-last
new-first-requires-clause-last c = omega (arith, (train_in_range c.args.plant.now c.may_be_run.ensures c.args.train c.requires).some_move)

pub ready_time-requires : goal.ready_time-requires
ready_time-requires c = omega (arith, ap (λ (row : TrainRow). row.entry) c.train.ensures.row, (train_in_range c.args.plant.now c.may_be_run.ensures c.args.train c.requires).entry)

pub returns-clause-early : goal.returns-clause-early
returns-clause-early c = record {
  admitted = omega arith;
  go = omega arith;
  free_run = omega (arith, ap (λ (row : TrainRow). row.entry) c.train.ensures.row, (train_in_range c.args.plant.now c.may_be_run.ensures c.args.train c.requires).entry);
  next_ready = omega (arith, c.ready_time.ensures.soon, ap (λ (row : TrainRow). row.entry) c.train.ensures.row, (train_in_range c.args.plant.now c.may_be_run.ensures c.args.train c.requires).entry);
}
