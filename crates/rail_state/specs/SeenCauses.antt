-- Pending events as due lines, and the causes that a run sees.
use Rattle.std.specs.Prelude.{◌≡◌, ℕ, suc, ◌+◌, ◌<◌, Bool, true, false, not, ◌&&◌, ◌||◌, List, [], ◌∷◌, count_by, length, Option, Some, None, is_some, find}
use Rattle.std.specs.Option.{option_map}
use Rattle.rail_base.specs.declared.history.Cause.{Cause}
use Rattle.rail_base.specs.declared.orders.Order.{Order}
use Rattle.rail_base.specs.declared.orders.Order.TheVariants.{Close, Reopen, Stop, Go, Cancel}
use Rattle.rail_rules.specs.Numbers.{is_in, or_else}
use Rattle.rail_rules.specs.Plant.{claimed}
use Rattle.rail_rules.specs.Fronts.{Front}
use Rattle.rail_rules.specs.Orders.{Input, told}
use Rattle.rail_rules.specs.Causes.{closed_cause, list_cause, place, stop_cause}
use Rattle.rail_rules.specs.Events.{due_lines}
use Rattle.rail_laws_events.specs.Accounts.{tally}
use Rattle.rail_laws_step.specs.HolderTables.{held_cause, own_overlap}
use Rattle.rail_queue.specs.declared.event.Event.{Event}
use Rattle.rail_queue.specs.Order.{is_ready_of}
use Rattle.rail_state.specs.Events.{event_of}

-- the pending events and those that are deferred are the due lines
abbrev pub AreDue : Input → Front → List Event → List Event → Type 0
AreDue input front events deferred = (q : Event → Bool)
    → count_by q events + count_by q deferred ≡ tally (λ e. q (event_of e)) (due_lines input front)

-- no event makes a train ready that one of the orders cancels
abbrev pub is_uncancelled : List Order → Event → Bool
is_uncancelled [] event = true
is_uncancelled (Cancel t ∷ orders) event = not (is_ready_of t event) && is_uncancelled orders event
is_uncancelled (_ ∷ orders) event = is_uncancelled orders event

-- the train that an order cancels
abbrev pub cancelled_by : Order → Option ℕ
cancelled_by (Cancel t) = Some t
cancelled_by _ = None

-- what bars the next move of a train over these sections, by the orders, the table of holders and the train's own overlap
abbrev pub seen_bar : List Order → List (Option ℕ) → ℕ → List ℕ → List ℕ → Option Cause
seen_bar orders holders t own sections = or_else (stop_cause t orders) (or_else (closed_cause sections orders) (held_cause holders t own sections))

-- the cause of a train's next move, as a run sees it
abbrev pub seen_cause : Input → Front → List (Option ℕ) → ℕ → Option Cause
seen_cause input front holders t =
    or_else (seen_bar (told input.commands front) holders t (own_overlap input.plant t (place front t)) (claimed input.plant t (place front t))) (list_cause input front t)

-- the order may change the cause of this train, whose next move is over these sections
abbrev pub touches : Order → ℕ → List ℕ → Bool
touches (Close x) t sections = is_in x sections
touches (Reopen x) t sections = is_in x sections
touches (Stop u) t sections = Rattle.std.specs.Prelude.◌==◌ u t
touches (Go u) t sections = Rattle.std.specs.Prelude.◌==◌ u t
touches _ t sections = false
