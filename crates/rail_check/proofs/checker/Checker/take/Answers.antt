use Rattle.std.proofs.Common.{◌+◌, refl}
use Rattle.rail_ledger.specs.Ledgers.{line_taken}
use Rattle.rail_check.specs.declared.checker.Checker.{Checker}
use Rattle.rail_check.proofs.SoFar.{taken}
use Rattle.rail_check.proofs.checker.Checker.take.Goals as goal

pub returns-clause-taken : goal.returns-clause-taken
returns-clause-taken c = λ _ input lines so_far.
    let old : Checker = c.args.self.now in
    let new : Checker = record { ledger = c.take.new.self; after_hold = c.is_hold-self.result; lines = old.lines + 1; room = old.room } in
    taken input lines old so_far (line_taken c.args.entry c.args.trains.now) new c.in_default.ensures.input (c.in_default.ensures.taken refl) c.is_hold-self.ensures refl
