-- How each line changes what is due.
use Rattle.std.proofs.Common.{◌≡◌, ◌+◌, Bool, true, false, ◌&&◌, List, [], ◌∷◌, ap, inl, arith}
use Rattle.rail_base.specs.declared.history.Entry.{Entry}
use Rattle.rail_base.specs.declared.orders.Order.{Order}
use Rattle.rail_rules.specs.Fronts.{Front, Line, is_admission}
use Rattle.rail_rules.specs.Orders.{Input, told}
use Rattle.rail_rules.specs.Events.{due_lines}
use Rattle.rail_rules.specs.Lawful.{is_lawful}
use Rattle.rail_laws_front.specs.Premises.{IsWellFormed}
use Rattle.rail_laws_front.proofs.CallerLemmas.{lawful_last}
use Rattle.rail_laws_events.specs.Accounts.{is_train_event, tally, to_come}
use Rattle.rail_laws_events.proofs.CallerLemmas.{other_change, train_event_change}
use Rattle.rail_rules.specs.LineCounts.{is_command}
use Rattle.rail_laws_step.specs.KeptLines.{IsBlind, is_kept}
use Rattle.rail_laws_step.proofs.Commands.{commands_left}
use Rattle.rail_laws_step.proofs.Split.{due_split}
use Rattle.rail_laws_step.proofs.Sorts.{follows_event, line_stays, one_stays, tells_none, train_event_no_command}

-- the due lines after an event line
pub event_left : (input : Input) → IsWellFormed input.plant → (line : Line) (front : Front)
    → is_lawful input (line ∷ front) ≡ true → is_train_event line.entry.what ≡ true → (p : Entry → Bool)
    → IsBlind p
    → tally p (due_lines input (line ∷ front)) + tally p (line.entry ∷ []) ≡ tally p (due_lines input front)
event_left input fine line front lawful kind p blind =
    let idle = train_event_no_command line.entry.what kind in
    let orders : List Order = told input.commands front in
    let k : Entry → Bool = λ e. is_kept orders e.what in
    let stays = line_stays input front line (follows_event input front line (lawful_last input line front lawful) (inl kind)) kind in
    omega (
      arith,
      due_split input (line ∷ front) p,
      due_split input front p,
      ap (λ os. tally (λ e. is_kept os e.what && p e) (to_come input.plant (line ∷ front))) (tells_none input line front idle),
      commands_left p blind input line front idle,
      train_event_change input fine line front lawful kind (λ e. k e && p e),
      one_stays k p line.entry stays,
    )

-- the due lines after a hold line or the end line
pub other_left : (input : Input) → IsWellFormed input.plant → (line : Line) (front : Front)
    → is_lawful input (line ∷ front) ≡ true → is_train_event line.entry.what ≡ false
    → is_admission line.entry.what ≡ false → is_command line.entry.what ≡ false → (p : Entry → Bool)
    → IsBlind p → tally p (due_lines input (line ∷ front)) ≡ tally p (due_lines input front)
other_left input fine line front lawful kind idle no_command p blind =
    let orders : List Order = told input.commands front in
    omega (
      arith,
      due_split input (line ∷ front) p,
      due_split input front p,
      ap (λ os. tally (λ e. is_kept os e.what && p e) (to_come input.plant (line ∷ front))) (tells_none input line front no_command),
      commands_left p blind input line front no_command,
      other_change input fine line front lawful kind idle (λ e. is_kept orders e.what && p e),
    )
