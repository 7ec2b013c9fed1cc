use Rattle.std.proofs.Common.{ap, ◌∙◌, false}
use Rattle.std.specs.Option.{option_map_or}
use Rattle.rail_track.specs.Joints.{has_joint}
use Rattle.rail_track.proofs.track.Track.section_has.Goals as goal

pub returns-in-Some : goal.returns-in-Some
returns-in-Some c = rw (← c.self.view_is) (c.has_joint.ensures ∙ ap (λ o. option_map_or (has_joint c.args.joint) o false) c.in-Some.ensures)
