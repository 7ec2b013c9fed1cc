use Rattle.std.proofs.Common.{rules, ◌*◌}
use Rattle.rail_consequence.proofs.Holding.{free_behind}
use Rattle.rail_consequence.proofs.analyst.Worksheet.over.Goals as goal

pub invariant_of-result : goal.invariant_of-result
invariant_of-result c = record {
  room = search rules;
  idle = λ x _. c.in_ok-new.ensures x;
  free = free_behind c.args.moves.now c.in_ok-outside.field-0 (64 * c.args.rows.width) c.in_ok-outside.ensures.made (λ t i x known is. c.requires.rows.narrow t i x known is);
}
