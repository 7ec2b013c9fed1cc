-- How each line changes what is due.
use Rattle.std.proofs.Common.{◌≡◌, ◌+◌, Bool, not, ◌&&◌, arith}
use Rattle.std.specs.List.{filter}
use Rattle.rail_base.specs.declared.history.Entry.{Entry}
use Rattle.rail_rules.specs.Fronts.{Front, stands}
use Rattle.rail_rules.specs.Orders.{Input, told}
use Rattle.rail_rules.specs.Events.{commands_due, due_lines, events}
use Rattle.rail_laws_events.specs.Accounts.{tally, to_come}
use Rattle.rail_laws_events.proofs.CallerLemmas.{tally-append}
use Rattle.rail_laws_step.specs.KeptLines.{is_kept}
use Rattle.rail_laws_step.proofs.Staying.{open_kept}

pub due_split : (input : Input) (front : Front) (p : Entry → Bool) → tally p (due_lines input front) ≡ tally (λ e. is_kept (told input.commands front) e.what && p e) (to_come input.plant front) + tally p (commands_due input front 0 input.commands)
due_split input front p =
    omega (
      arith,
      tally-append p (filter (λ e. not (stands front e)) (events input front)) (commands_due input front 0 input.commands),
      open_kept input front p,
    )
