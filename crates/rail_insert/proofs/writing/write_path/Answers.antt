use Rattle.std.proofs.Common.{◌≡◌, [], ◌∷◌, codes, sym, ◌∙◌}
use Rattle.std.proofs.lemmas.List.{append-nil}
use Rattle.rail_base.specs.Clock.{time_text}
use Rattle.rail_insert.specs.Texts.{copy_word, path_line}
use Rattle.rail_text.proofs.CallerLemmas.{line_is, word_before, word_first}
use Rattle.rail_text.specs.Names.{names_in}
use Rattle.rail_insert.proofs.writing.write_path.Goals as goal

pub returns : goal.returns
returns g c =
    let names = names_in c.args.names.now in
    let e : c.as_slice.result.now ≡ path_line names c.args.train c.args.number c.args.begin =
    line_is (codes "path") (copy_word names c.args.train c.args.number ∷ time_text c.args.begin ∷ []) (c.as_slice.ensures ∙ c.put-2.ensures)
    (sym (append-nil c.put_time.new.self)
    ∙ word_before _ _ c.put_time.ensures.text _
    ∙ word_before _ _ c.put_copy.ensures.text _
    ∙ word_first (codes "path") c.put.ensures c.new-line.ensures _) in
    rw (← e) (record {
      adds = c.write_whole.ensures.adds;
      failed_adds_prefix = c.write_whole.ensures.failed_adds_prefix;
      failed_rose = c.write_whole.ensures.failed_rose;
      faults_never_fall = c.write_whole.ensures.faults_never_fall;
    })
