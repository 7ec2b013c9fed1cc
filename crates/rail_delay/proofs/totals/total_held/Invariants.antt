use Rattle.std.proofs.Common.{◌≡◌, ◌*◌, ◌^◌, ◌≤◌, take}
use Rattle.std.specs.List.{sum_by}
use Rattle.rail_delay.specs.declared.account.Account.{Account}
use Rattle.rail_delay.proofs.totals.total_held.Given as goal

abbrev pub invariant-loop-account : goal.invariant-loop-account
invariant-loop-account l = (l.held ≡ sum_by (λ (kept : Account). kept.held) (take l.account-index l.accounts)) × (l.held ≤ 2 ^ 64 * l.account-index)
