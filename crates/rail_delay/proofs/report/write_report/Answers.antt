use Rattle.std.proofs.Common.{List, subst}
use Rattle.rail_delay.specs.declared.account.Account.{Account}
use Rattle.rail_delay.specs.declared.visits.Visit.{Visit}
use Rattle.rail_delay.specs.Accounts.{visits}
use Rattle.rail_delay.specs.Reports.{report_of}
use Rattle.rail_text.specs.Writes.{WritesText}
use Rattle.rail_delay.proofs.report.write_report.Goals as goal

pub returns : goal.returns
returns g c = λ commands front noted.
    subst (λ (all : List Account). WritesText g.O.Sink c.args.out.now c.write_kept.new.out (report_of c.args.plant.now all (visits c.args.plant.now front)) c.write_kept.result) noted.accounts
    (subst (λ (rows : List (List Visit)). WritesText g.O.Sink c.args.out.now c.write_kept.new.out (report_of c.args.plant.now c.args.delays.now.accounts rows) c.write_kept.result) noted.visits
    c.write_kept.ensures)
