use Rattle.std.proofs.Common.{◌+◌, ◌-◌, ◌∙◌, sym, length, drop, arith, length-drop}
use Rattle.std.proofs.lemmas.List.{take_all}
use Rattle.rail_history.proofs.Cut.{cut_none, cut_some}
use Rattle.rail_history.proofs.cutting.cut.Goals as goal

pub returns-in-Some-clause-words : goal.returns-in-Some-clause-words
returns-in-Some-clause-words c = λ words free same.
    let text = c.args.text.now in
    let parts = cut_some text c.in-Some.end (sym c.space.ensures ∙ c.in-Some.is) words free same in
    (parts.0, take_all (length text - (c.in-Some.end + 1)) (drop (c.in-Some.end + 1) text) (omega (arith, length-drop (c.in-Some.end + 1) text)) ∙ parts.1)

pub returns-in-None-clause-words : goal.returns-in-None-clause-words
returns-in-None-clause-words c = λ words free same. cut_none c.args.text.now (sym c.space.ensures ∙ c.in-None.is) words free same
