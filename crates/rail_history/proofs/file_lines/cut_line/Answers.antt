use Rattle.std.proofs.Common.{◌∙◌, sym}
use Rattle.rail_history.proofs.LineFeeds.{line_cut, line_found}
use Rattle.rail_history.proofs.file_lines.cut_line.Goals as goal

pub returns-in-Some-clause-line : goal.returns-in-Some-clause-line
returns-in-Some-clause-line c = λ body more free same. line_cut body more free c.args.text.now c.in-Some.end same (sym c.line_feed.ensures ∙ c.in-Some.is)

pub returns-in-None-clause-line : goal.returns-in-None-clause-line
returns-in-None-clause-line c = λ body more free same. absurd (line_found body more free c.args.text.now same (sym c.line_feed.ensures ∙ c.in-None.is))
