use Rattle.std.proofs.Common.{sym}
use Rattle.toml.specs.View.{view}
use Rattle.rail_scene.proofs.MemberWalk.{no_values}
use Rattle.rail_scene.proofs.members.values_of.Goals as goal

pub returns-in-None : goal.returns-in-None
returns-in-None c = no_values c.args.keys.now 6 (view c.args.table.now) c.requires.few (sym c.in-None.ensures)
