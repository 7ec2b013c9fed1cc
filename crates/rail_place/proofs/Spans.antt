-- Lists of sections that lie one behind the other: one more, and one that is read.
use Rattle.std.proofs.Common.{◌≡◌, ℕ, suc, ◌+◌, ◌-◌, ◌≤◌, ◌&&◌, ⊎_elim, sym, List, [], ◌∷◌, ◌++◌, length, take, drop, slice_range, refl, ap, ◌∙◌, arith}
use Rattle.std.specs.List.{list_all}
use Rattle.std.proofs.lemmas.Bool.{cases_Bool, eq-eqb, eqb-true, eqb-false, false_from_ne_true}
use Rattle.std.proofs.lemmas.List.{drop-append-le, take-append-le, length-drop, length-take, take_all, map_push}
use Rattle.std.proofs.Math.Seq.{drop-append_seam}
use Rattle.rail_place.specs.Lists.{AreSpans, is_empty, is_empty_span, lists_in, sections_of}
use Rattle.rail_place.specs.declared.section_lists.Span.{Span}

-- a part of the sections stays where more come behind them
part_kept : (sections more : List ℕ) (a b : ℕ) → a ≤ b → b ≤ length sections → slice_range (sections ++ more) a b ≡ slice_range sections a b
part_kept sections more a b le within =
    ap (take (b - a)) (drop-append-le a sections more (omega (arith, le, within)))
    ∙ take-append-le (b - a) (drop a sections) more (omega (arith, length-drop a sections, le, within))

lists_kept : (sections more : List ℕ) (spans : List Span) → AreSpans sections spans → lists_in (sections ++ more) spans ≡ lists_in sections spans
lists_kept sections more [] spanned = refl
lists_kept sections more (span ∷ spans) spanned =
    let here = spanned 0 span (omega arith) in
    ap (λ xs. xs ∷ lists_in (sections ++ more) spans) (part_kept sections more span.start span.end here.0 here.1)
    ∙ ap (λ lists. sections_of sections span ∷ lists) (lists_kept sections more spans (λ k d lt. spanned (suc k) d (omega (arith, lt))))

-- a list added last
pub list_pushed : (sections more : List ℕ) (spans : List Span) (span : Span) → AreSpans sections spans
    → span.start ≡ length sections → span.end ≡ length sections + length more
    → lists_in (sections ++ more) (spans ++ span ∷ []) ≡ lists_in sections spans ++ more ∷ []
list_pushed sections more spans span spanned start end =
    let last : sections_of (sections ++ more) span ≡ more =
    ap (λ a. take (span.end - a) (drop a (sections ++ more))) start
    ∙ ap (take (span.end - length sections)) (drop-append_seam sections more)
    ∙ take_all (span.end - length sections) more (omega (arith, end)) in
    map_push (sections_of (sections ++ more)) spans span
    ∙ ap (λ lists. lists ++ sections_of (sections ++ more) span ∷ []) (lists_kept sections more spans spanned)
    ∙ ap (λ xs. lists_in sections spans ++ xs ∷ []) last

-- a list is empty where its span is
empty_span : (sections : List ℕ) (span : Span) → span.start ≤ span.end → span.end ≤ length sections → is_empty (sections_of sections span) ≡ is_empty_span span
empty_span sections span le within =
    let count : ℕ = length (sections_of sections span) in
    let long : count ≡ span.end - span.start = omega (arith, length-take (span.end - span.start) (drop span.start sections), length-drop span.start sections, within) in
    ⊎_elim
    (λ yes. eq-eqb count 0 (omega (arith, long, eqb-true span.start span.end yes)) ∙ sym yes)
    (λ no. false_from_ne_true (is_empty (sections_of sections span)) (λ none. eqb-false span.start span.end no (omega (arith, long, eqb-true count 0 none, le))) ∙ sym no)
    (cases_Bool (is_empty_span span))

-- and all are where the spans are
pub empty_spans : (sections : List ℕ) (spans : List Span) → AreSpans sections spans → list_all is_empty (lists_in sections spans) ≡ list_all is_empty_span spans
empty_spans sections [] spanned = refl
empty_spans sections (span ∷ spans) spanned =
    let here = spanned 0 span (omega arith) in
    ap (λ b. b && list_all is_empty (lists_in sections spans)) (empty_span sections span here.0 here.1)
    ∙ ap (λ b. is_empty_span span && b) (empty_spans sections spans (λ k d lt. spanned (suc k) d (omega (arith, lt))))
