use Rattle.std.proofs.Common.{sym, ◌∙◌}
use Rattle.rail_engine.proofs.FollowedLines.{custom_first}
use Rattle.rail_engine.proofs.followed_lines.lets_go_first.Goals as goal

pub returns-then-is_custom-clause-first : goal.returns-then-is_custom-clause-first
returns-then-is_custom-clause-first g c = λ _. custom_first c.args.ledger.now _ c.args.train (sym c.kind_in_force.ensures ∙ c.is_custom.ensures.custom c.if-is_custom.true)
