use Rattle.std.proofs.Common.{ℕ, ◌∷◌, ◌++◌, decimal, sym, ap, ◌∙◌}
use Rattle.std.proofs.lemmas.List.{append-nil}
use Rattle.rail_base.specs.declared.plant.SectionRow.{SectionRow}
use Rattle.rail_base.specs.declared.plant.TrainRow.{TrainRow}
use Rattle.rail_text.proofs.CallerLemmas.{word_before}
use Rattle.rail_stairs.proofs.words.put_interval.Goals as goal

pub returns-clause-text : goal.returns-clause-text
returns-clause-text c =
    sym (append-nil c.put_time_or_dash.new.self)
    ∙ word_before _ _ c.put_time_or_dash.ensures.text _
    ∙ word_before _ _ c.put_time.ensures.text _
    ∙ word_before _ _ (c.put_name-2.ensures.text ∙ ap (λ (row : SectionRow). c.put_number.new.self ++ 32 ∷ row.name) c.section.ensures) _
    ∙ word_before _ _ (c.put_number.ensures.text ∙ ap (λ (n : ℕ). c.put_name.new.self ++ 32 ∷ decimal n) c.from.ensures) _
    ∙ word_before _ _ (c.put_name.ensures.text ∙ ap (λ (row : TrainRow). c.args.line.now ++ 32 ∷ row.name) c.train.ensures.row) _
