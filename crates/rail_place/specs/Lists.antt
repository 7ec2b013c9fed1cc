-- Lists of sections that lie one behind the other in one list.
use Rattle.std.specs.Prelude.{ℕ, ◌≤◌, ◌==◌, Bool, List, length, map, slice_range}
use Rattle.std.specs.List.{All}
use Rattle.rail_place.specs.declared.section_lists.Span.{Span}

-- the sections of a span
abbrev pub sections_of : List ℕ → Span → List ℕ
sections_of sections span = slice_range sections span.start span.end

-- the sections of each span
abbrev pub lists_in : List ℕ → List Span → List (List ℕ)
lists_in sections spans = map (sections_of sections) spans

-- no span ends before it begins, or behind the sections
abbrev pub AreSpans : List ℕ → List Span → Type 0
AreSpans sections spans = All (λ (span : Span). (span.start ≤ span.end) × (span.end ≤ length sections)) spans

-- the span is one of no sections
abbrev pub is_empty_span : Span → Bool
is_empty_span span = span.start == span.end

-- the list has no sections
abbrev pub is_empty : List ℕ → Bool
is_empty sections = length sections == 0
