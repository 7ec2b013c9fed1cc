use Rattle.std.proofs.Common.{◌++◌, codes, ap, ◌∙◌}
use Rattle.rail_rules.specs.Texts.{behind}
use Rattle.rail_stairs.specs.StairsTexts.{interval_words}
use Rattle.rail_text.proofs.CallerLemmas.{line_is}
use Rattle.rail_stairs.proofs.words.put_over.Goals as goal

pub returns : goal.returns
returns c =
    let words = interval_words c.args.plant.now c.args.interval.now in
    line_is (codes "over") words c.put-2.ensures
    (c.put_interval.ensures.text ∙ ap (λ line. line ++ behind words) (c.put.ensures ∙ ap (λ line. line ++ codes "over") c.requires.empty))
