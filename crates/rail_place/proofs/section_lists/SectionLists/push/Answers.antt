use Rattle.std.proofs.Common.{◌≡◌, ℕ, List, [], ◌∷◌, ◌++◌, ◌+◌, length, ap, ◌∙◌, arith}
use Rattle.std.proofs.lemmas.List.{length-append}
use Rattle.rail_place.specs.Lists.{lists_in}
use Rattle.rail_place.specs.declared.section_lists.Span.{Span}
use Rattle.rail_place.proofs.Spans.{list_pushed}
use Rattle.rail_place.proofs.section_lists.SectionLists.push.Goals as goal

pub returns-clause-ok : goal.returns-clause-ok
returns-clause-ok c =
    let sections : List ℕ = c.self.inside.sections.items in
    let spans : List Span = c.self.inside.spans.items in
    let more : List ℕ = c.args.sections.now in
    let span : Span = record { start = c.len-start.result; end = c.len-end.result } in
    let all : c.extend_from_slice.new.self.items ≡ sections ++ more = c.in_ok-extend_from_slice.ensures.items in
    let start : span.start ≡ length sections = omega (arith, c.len-start.ensures, c.self.inside.sections.ok) in
    let end : span.end ≡ length sections + length more = omega (arith, c.len-end.ensures, ap length all, length-append sections more, c.extend_from_slice.new.self.ok) in
    let items : c.push_reserved.new.self.items ≡ spans ++ span ∷ [] = c.push_reserved.ensures.items ∙ ap (λ xs. xs ++ span ∷ []) c.in_ok-reserve.ensures.items in
    ap (λ xs. lists_in xs c.push_reserved.new.self.items) all
    ∙ ap (lists_in (sections ++ more)) items
    ∙ list_pushed sections more spans span c.self.invariant start end
    ∙ ap (λ lists. lists ++ more ∷ []) c.self.view_is
