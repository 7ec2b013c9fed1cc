use Rattle.std.proofs.Common.{◌≡◌, ℕ, ◌<◌, ◌≤◌, length}
use Rattle.rail_base.specs.declared.history.What.TheVariants.{End}
use Rattle.rail_delay.specs.Noting.{account_of, after_line}
use Rattle.rail_delay.proofs.delays.note_end.Given as goal

abbrev pub invariant-loop-account : goal.invariant-loop-account
invariant-loop-account l = record {
  trains : length l.all ≡ length l.initial.all;
  noted : (t : ℕ) → t < l.account-index → account_of l.all t ≡ after_line l.at End (account_of l.initial.all t);
  left : (t : ℕ) → l.account-index ≤ t → account_of l.all t ≡ account_of l.initial.all t;
}
