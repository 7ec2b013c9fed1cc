-- How each line changes what is due.
use Rattle.std.proofs.Common.{◌≡◌, ◌+◌, Bool, true, false, ◌&&◌, List, [], ◌∷◌, ◌++◌, refl, ap, ◌∙◌, inr, arith}
use Rattle.rail_base.specs.declared.history.Entry.{Entry}
use Rattle.rail_base.specs.declared.orders.Order.{Order}
use Rattle.rail_rules.specs.Fronts.{Front, Line}
use Rattle.rail_rules.specs.Orders.{Input, orders_of, told}
use Rattle.rail_rules.specs.Events.{due_lines}
use Rattle.rail_rules.specs.Lawful.{is_lawful}
use Rattle.rail_laws_front.specs.Premises.{IsWellFormed}
use Rattle.rail_laws_front.proofs.CallerLemmas.{lawful_last}
use Rattle.rail_laws_events.specs.Accounts.{tally, to_come}
use Rattle.rail_laws_events.proofs.CallerLemmas.{other_change, tally-same, command_new}
use Rattle.rail_rules.specs.LineCounts.{is_command}
use Rattle.rail_laws_step.specs.KeptLines.{IsBlind, is_kept}
use Rattle.rail_laws_step.proofs.Staying.{kept_both}
use Rattle.rail_laws_step.proofs.Commands.{command_left, commands_same}
use Rattle.rail_laws_step.proofs.Split.{due_split}
use Rattle.rail_laws_step.proofs.Sorts.{command_idle, command_no_train_event, follows_event}

-- the due lines after the line of a command
pub command_gone : (input : Input) → IsWellFormed input.plant → (line : Line) (front : Front) → is_lawful input (line ∷ front) ≡ true → is_command line.entry.what ≡ true → (p : Entry → Bool) → IsBlind p
    → tally p (due_lines input (line ∷ front)) + tally p (line.entry ∷ []) ≡ tally (λ e. is_kept (orders_of input.commands line.entry.what) e.what && p e) (due_lines input front)
command_gone input fine line front lawful kind p blind =
    let orders : List Order = told input.commands front in
    let tells : List Order = orders_of input.commands line.entry.what in
    let now : Entry → Bool = λ e. is_kept (tells ++ orders) e.what && p e in
    let q : Entry → Bool = λ e. is_kept tells e.what && p e in
    let new = command_new input front line (follows_event input front line (lawful_last input line front lawful) (inr kind)) kind in
    omega (
      arith,
      due_split input (line ∷ front) p,
      due_split input front q,
      other_change input fine line front lawful (command_no_train_event line.entry.what kind) (command_idle line.entry.what kind) now,
      tally-same now (λ e. is_kept orders e.what && q e) (to_come input.plant front) (λ e. ap (λ b. b && p e) (kept_both tells orders e.what) ∙ and_assoc (is_kept orders e.what) (is_kept tells e.what) (p e)),
      command_left p blind input line front new,
      commands_same p q blind blind input front (λ at k. refl),
    )
  where
    and_assoc : (a b c : Bool) → ((a && b) && c) ≡ (a && (b && c))
    and_assoc true b c = refl
    and_assoc false b c = refl
