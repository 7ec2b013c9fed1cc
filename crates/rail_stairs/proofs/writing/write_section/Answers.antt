use Rattle.std.proofs.Common.{◌≡◌, [], ◌∷◌, ◌++◌, codes, decimal, sym, ap, ◌∙◌}
use Rattle.std.proofs.lemmas.List.{append-nil}
use Rattle.rail_base.specs.declared.plant.SectionRow.{SectionRow}
use Rattle.rail_rules.specs.Texts.{section_word, spaced}
use Rattle.rail_stairs.specs.Stairways.{occupation, visits}
use Rattle.rail_stairs.specs.StairsTexts.{section_line}
use Rattle.rail_text.proofs.CallerLemmas.{line_is, word_before, word_first}
use Rattle.rail_stairs.proofs.writing.write_section.Goals as goal

pub returns : goal.returns
returns g c = λ ended seen h.
    let plant = c.args.plant.now in
    let x = c.args.section in
    let many : c.visits.result ≡ visits seen x = c.visits.ensures ∙ h.visits x c.requires.few in
    let long : c.occupied.result ≡ occupation ended seen x = c.occupied.ensures ∙ h.occupied x c.requires.few in
    let e : c.as_slice.result.now ≡ section_line plant ended seen x =
    line_is (codes "section") (section_word plant x ∷ decimal c.visits.result ∷ decimal c.occupied.result ∷ []) (c.as_slice.ensures ∙ c.put-2.ensures)
    (sym (append-nil c.put_sum.new.self)
    ∙ word_before _ _ c.put_sum.ensures.text _
    ∙ word_before _ _ c.put_number.ensures.text _
    ∙ word_before _ _ (c.put_name.ensures.text ∙ ap (λ (row : SectionRow). c.put.new.self ++ 32 ∷ row.name) c.section.ensures) _
    ∙ word_first (codes "section") c.put.ensures c.new-line.ensures _)
    ∙ (λ k. spaced (codes "section" ∷ section_word plant x ∷ decimal (many k) ∷ decimal (long k) ∷ [])) in
    rw (← e) (record {
      adds = c.write_whole.ensures.adds;
      failed_adds_prefix = c.write_whole.ensures.failed_adds_prefix;
      failed_rose = c.write_whole.ensures.failed_rose;
      faults_never_fall = c.write_whole.ensures.faults_never_fall;
    })
