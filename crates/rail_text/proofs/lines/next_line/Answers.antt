use Rattle.std.proofs.Common.{◌+◌, ◌∙◌, sym}
use Rattle.std.proofs.lemmas.Bool.{eqb-false}
use Rattle.rail_text.proofs.Parts.{line_ended, line_unended, rest_whole}
use Rattle.rail_text.proofs.lines.next_line.Goals as goal

pub returns-in-Some-clause-lines : goal.returns-in-Some-clause-lines
returns-in-Some-clause-lines c =
    rw (rest_whole c.args.text.now (c.in-Some.end + 1), c.without_return.ensures) (line_ended c.args.text.now c.in-Some.end (sym c.first.ensures ∙ c.in-Some.is))

pub returns-in-None-clause-lines : goal.returns-in-None-clause-lines
returns-in-None-clause-lines c =
    line_unended c.args.text.now (sym c.first.ensures ∙ c.in-None.is) (eqb-false _ _ (sym c.is_empty.ensures ∙ c.if-is_empty.false))
