use Rattle.std.proofs.Common.{sym, ap, ◌∙◌}
use Rattle.std.specs.List.{list_all}
use Rattle.rail_place.specs.Lists.{is_empty, is_empty_span}
use Rattle.rail_place.proofs.Spans.{empty_spans}
use Rattle.rail_place.proofs.section_lists.SectionLists.are_empty.Goals as goal

pub returns : goal.returns
returns c =
    c.are_empty.ensures
    ∙ ap (list_all is_empty_span) c.as_slice.ensures.value
    ∙ sym (empty_spans c.self.inside.sections.items c.self.inside.spans.items c.self.invariant)
    ∙ ap (list_all is_empty) c.self.view_is
