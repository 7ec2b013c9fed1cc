use Rattle.rail_delay.proofs.Spans.{held_in_spans}
use Rattle.rail_delay.proofs.laws.held_for_a_kind_is_the_sum_of_the_spans_of_its_hold_lines.Goals as goal

pub returns : goal.returns
returns c = held_in_spans
