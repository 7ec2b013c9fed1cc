use Rattle.std.proofs.Common.{sym, ◌∙◌}
use Rattle.std.proofs.lemmas.List.{append-nil}
use Rattle.rail_text.proofs.CallerLemmas.{word_before}
use Rattle.rail_stairs.proofs.words.put_parts.Goals as goal

pub returns-clause-text : goal.returns-clause-text
returns-clause-text c =
    sym (append-nil c.put_number_or_dash-9.new.self)
    ∙ word_before _ _ c.put_number_or_dash-9.ensures.text _
    ∙ word_before _ _ c.put_number_or_dash-8.ensures.text _
    ∙ word_before _ _ c.put_number_or_dash-7.ensures.text _
    ∙ word_before _ _ c.put_number_or_dash-6.ensures.text _
    ∙ word_before _ _ c.put_number_or_dash-5.ensures.text _
    ∙ word_before _ _ c.put_number_or_dash-4.ensures.text _
    ∙ word_before _ _ c.put_number_or_dash-3.ensures.text _
    ∙ word_before _ _ c.put_number_or_dash-2.ensures.text _
    ∙ word_before _ _ c.put_number_or_dash.ensures.text _
