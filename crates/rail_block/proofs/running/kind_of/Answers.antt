use Rattle.std.proofs.Common.{ap, ◌∙◌, arith}
use Rattle.rail_base.specs.declared.limits.TheConstants.{SPEED, TRAIN_LENGTH}
use Rattle.rail_base.specs.declared.plant.TrainRow.{TrainRow}
use Rattle.rail_base.specs.Limits.{is_from_one}
use Rattle.rail_block.proofs.Limits.{train_in_range}
use Rattle.rail_block.proofs.running.kind_of.Goals as goal

pub returns-clause-speed : goal.returns-clause-speed
returns-clause-speed c = ap (λ (row : TrainRow). is_from_one SPEED row.kind.speed) c.train.ensures.row ∙ (train_in_range c.args.plant.now c.may_be_run.ensures c.args.number c.requires).kind.speed_from_one

pub returns-clause-length : goal.returns-clause-length
returns-clause-length c = ap (λ (row : TrainRow). is_from_one TRAIN_LENGTH row.kind.length) c.train.ensures.row ∙ (train_in_range c.args.plant.now c.may_be_run.ensures c.args.number c.requires).kind.length_from_one

pub returns-clause-start : goal.returns-clause-start
returns-clause-start c = omega (arith, ap (λ (row : TrainRow). row.kind.start) c.train.ensures.row, (train_in_range c.args.plant.now c.may_be_run.ensures c.args.number c.requires).kind.start)

pub returns-clause-stop : goal.returns-clause-stop
returns-clause-stop c = omega (arith, ap (λ (row : TrainRow). row.kind.stop) c.train.ensures.row, (train_in_range c.args.plant.now c.may_be_run.ensures c.args.number c.requires).kind.stop)
