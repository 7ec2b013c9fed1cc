use Rattle.std.proofs.Common.{◌≡◌, [], ◌∷◌, codes, sym, ◌∙◌}
use Rattle.std.proofs.lemmas.List.{append-nil}
use Rattle.rail_base.specs.Clock.{time_text}
use Rattle.rail_text.specs.Names.{names_in, section_name}
use Rattle.rail_insert.specs.Texts.{bar_line, owner_word}
use Rattle.rail_text.proofs.CallerLemmas.{line_is, word_before, word_first}
use Rattle.rail_insert.proofs.writing.write_bar.Goals as goal

pub returns : goal.returns
returns g c =
    let names = names_in c.args.names.now in
    let bar = c.args.bar.now in
    let e : c.as_slice.result.now ≡ bar_line names c.args.train bar =
    line_is (codes "bar") (time_text bar.from ∷ time_text bar.to ∷ owner_word names c.args.train bar.owner ∷ section_name names bar.section ∷ []) (c.as_slice.ensures ∙ c.put-2.ensures)
    (sym (append-nil c.put_section.new.self)
    ∙ word_before _ _ c.put_section.ensures.text _
    ∙ word_before _ _ c.put_owner.ensures.text _
    ∙ word_before _ _ c.put_time-2.ensures.text _
    ∙ word_before _ _ c.put_time.ensures.text _
    ∙ word_first (codes "bar") c.put.ensures c.new-line.ensures _) in
    rw (← e) (record {
      adds = c.write_whole.ensures.adds;
      failed_adds_prefix = c.write_whole.ensures.failed_adds_prefix;
      failed_rose = c.write_whole.ensures.failed_rose;
      faults_never_fall = c.write_whole.ensures.faults_never_fall;
    })
