use Rattle.std.proofs.Common.{ap, ◌∙◌, false}
use Rattle.std.specs.List.{list_any}
use Rattle.std.specs.Option.{option_map_or}
use Rattle.rail_track.specs.declared.section.Section.{Section}
use Rattle.rail_track.specs.Passages.{leads, passages}
use Rattle.rail_track.proofs.track.Track.passage.Goals as goal

pub returns-in-Some : goal.returns-in-Some
returns-in-Some c =
    rw (← c.self.view_is)
    (c.leads.ensures ∙ ap (λ o. option_map_or (λ (section : Section). list_any (leads c.args.from c.args.to) (passages section.kind section.joints)) o false) c.in-Some.ensures)
