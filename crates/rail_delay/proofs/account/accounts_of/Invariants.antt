use Rattle.std.proofs.Common.{◌≡◌, ◌≤◌, replicate, vec_capacity}
use Rattle.rail_delay.specs.Reports.{no_account}
use Rattle.rail_delay.proofs.account.accounts_of.Given as goal

abbrev pub invariant-loop : goal.invariant-loop
invariant-loop l = record {
  accounts : l.all.items ≡ replicate l.counter no_account;
  room : l.trains ≤ vec_capacity l.all;
}
