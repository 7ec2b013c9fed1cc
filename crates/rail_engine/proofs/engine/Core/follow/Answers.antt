use Rattle.rail_ledger.specs.Ledgers.{line_taken}
use Rattle.rail_engine.proofs.FollowedLines.{follows_stands, refuses_stands, unchanged_stands}
use Rattle.rail_engine.proofs.engine.Core.follow.Goals as goal

pub returns-clause-taken : goal.returns-clause-taken
returns-clause-taken g c = follows_stands c.args.self.now c.self.inside.ledger c.follow_line.new.ledger _ _ c.args.entry c.args.list.now c.follow_line.result c.self.view_is
    c.follow_line.ensures.line c.follow_line.ensures.run c.follow_line.ensures.listed

pub returns-clause-refused : goal.returns-clause-refused
returns-clause-refused g c = refuses_stands c.args.self.now c.self.inside.ledger _ (line_taken c.args.entry c.args.list.now) c.follow_line.result c.self.view_is c.follow_line.ensures.refused

pub returns-clause-unchanged : goal.returns-clause-unchanged
returns-clause-unchanged g c = unchanged_stands c.args.self.now c.self.inside.ledger c.follow_line.new.ledger _ _ c.args.entry c.args.list.now c.follow_line.result c.self.view_is
    c.follow_line.ensures.input c.follow_line.ensures.unchanged c.follow_line.ensures.desk c.follow_line.ensures.unlisted
