-- How each line changes what is due.
use Rattle.std.proofs.Common.{◌≡◌, ℕ, ◌+◌, Bool, true, false, ◌&&◌, List, ◌∷◌, ap, arith}
use Rattle.rail_base.specs.declared.history.Entry.{Entry}
use Rattle.rail_base.specs.declared.history.Note.{Note}
use Rattle.rail_base.specs.declared.orders.Order.{Order}
use Rattle.rail_rules.specs.Fronts.{Front, Line, admissions}
use Rattle.rail_rules.specs.Orders.{Input, told}
use Rattle.rail_rules.specs.Events.{due_lines}
use Rattle.rail_rules.specs.Causes.{place}
use Rattle.rail_rules.specs.Lawful.{is_lawful}
use Rattle.rail_laws_front.specs.Premises.{IsWellFormed}
use Rattle.rail_laws_front.specs.Views.{Admits}
use Rattle.rail_laws_front.proofs.CallerLemmas.{waiting_parts}
use Rattle.rail_laws_events.specs.Accounts.{tally, to_come}
use Rattle.rail_laws_events.specs.Changes.{taken_back, gained}
use Rattle.rail_laws_events.proofs.CallerLemmas.{admission_change}
use Rattle.rail_rules.specs.LineCounts.{is_command}
use Rattle.rail_laws_step.specs.KeptLines.{IsBlind, is_kept}
use Rattle.rail_laws_step.proofs.Staying.{tally_both}
use Rattle.rail_laws_step.proofs.Commands.{commands_left}
use Rattle.rail_laws_step.proofs.Split.{due_split}
use Rattle.rail_laws_step.proofs.Sorts.{tells_none}
use Rattle.rail_laws_step.proofs.DueAndToCome.{taken_back_stays, gained_stays}

-- the due lines after an admission
pub admission_due : (input : Input) → IsWellFormed input.plant → (line : Line) (front : Front) → is_lawful input (line ∷ front) ≡ true → (t m : ℕ) (note : Note) → Admits input front line t m note → (p : Entry → Bool) → IsBlind p
    → tally p (due_lines input (line ∷ front)) + tally p (taken_back input.plant t (admissions front t) (place front t)) ≡ tally p (due_lines input front) + tally p (gained input.plant t (admissions (line ∷ front) t) (place front t))
admission_due input fine line front lawful t m note admits p blind =
    let orders : List Order = told input.commands front in
    let k : Entry → Bool = λ e. is_kept orders e.what in
    let no_command : is_command line.entry.what ≡ false = ap is_command admits.what in
    let runs = (waiting_parts input front t admits.waiting).runs in
    omega (
      arith,
      due_split input (line ∷ front) p,
      due_split input front p,
      ap (λ os. tally (λ e. is_kept os e.what && p e) (to_come input.plant (line ∷ front))) (tells_none input line front no_command),
      commands_left p blind input line front no_command,
      admission_change input fine line front lawful t m note admits (λ e. k e && p e),
      tally_both k p (taken_back input.plant t (admissions front t) (place front t)) (taken_back_stays input.plant t (admissions front t) orders runs (place front t)),
      tally_both k p (gained input.plant t (admissions (line ∷ front) t) (place front t)) (gained_stays input.plant t (admissions (line ∷ front) t) orders runs (place front t)),
    )
