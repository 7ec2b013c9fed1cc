-- The events of commands.
use Rattle.std.proofs.Common.{◌≡◌, ℕ, suc, ◌+◌, ◌<◌, Bool, true, false, not, ◌&&◌, Some, None, List, [], ◌∷◌, length, drop, get_or, refl, sym, ap, ◌∙◌, arith}
use Rattle.std.specs.Prelude.{count_by}
use Rattle.std.specs.List.{filter}
use Rattle.std.proofs.lemmas.List.{drop_more}
use Rattle.std.proofs.lemmas.Option.{none-some, same_Some}
use Rattle.rail_base.specs.declared.orders.Command.{Command}
use Rattle.rail_base.specs.declared.orders.Order.{Order}
use Rattle.rail_base.specs.declared.orders.Order.TheVariants.{Policy, Retire, Close, Reopen, Stop, Go, Cancel, Priority}
use Rattle.rail_queue.specs.declared.event.Event.{Event}
use Rattle.rail_queue.specs.declared.event.Class.TheVariants.{Ready}
use Rattle.rail_queue.specs.Order.{is_of}
use Rattle.rail_state.specs.Events.{command_event, command_events}
use Rattle.rail_state.specs.SeenCauses.{cancelled_by, is_uncancelled}
use Rattle.rail_state.proofs.Counts.{count-append}

-- the events of the commands from one on, counted by a test: that one's, and those of the commands behind it
pub counted_from : (q : Event → Bool) (commands : List Command) (i : ℕ) (command : Command) → i < length commands → command ≡ get_or commands i command
    → count_by q (command_events i (drop i commands)) ≡ count_by q (command_event command.at (i + 1) ∷ []) + count_by q (command_events (i + 1) (drop (i + 1) commands))
counted_from q commands i command lt is =
    let rest : List Command = drop (i + 1) commands in
    let split : drop i commands ≡ command ∷ rest = drop_more commands i command lt ∙ ap (λ (c : Command). c ∷ rest) (sym is) in
    let next : suc i ≡ i + 1 = omega arith in
    ap (λ (cs : List Command). count_by q (command_events i cs)) split
    ∙ ap (λ n. count_by q (command_event command.at n ∷ command_events n rest)) next
    ∙ count-append q (command_event command.at (i + 1) ∷ []) (command_events (i + 1) rest)

-- where all pass a test, a filter by it keeps them
pub all_stay : (events : List Event) → filter (λ event. true) events ≡ events
all_stay [] = refl
all_stay (event ∷ events) = ap (λ (rest : List Event). event ∷ rest) (all_stay events)

-- an order that cancels nobody leaves what is pending
pub none_forgotten : (order : Order) (events : List Event) → cancelled_by order ≡ None → events ≡ filter (is_uncancelled (order ∷ [])) events
none_forgotten (Policy name) events none = sym (all_stay events)
none_forgotten (Retire name) events none = sym (all_stay events)
none_forgotten (Close x) events none = sym (all_stay events)
none_forgotten (Reopen x) events none = sym (all_stay events)
none_forgotten (Stop t) events none = sym (all_stay events)
none_forgotten (Go t) events none = sym (all_stay events)
none_forgotten (Priority t n) events none = sym (all_stay events)
none_forgotten (Cancel t) events none = absurd (none-some t (sym none))

-- an order that cancels a train leaves what doesn't make it ready
pub one_forgotten : (order : Order) (t : ℕ) (events : List Event) → cancelled_by order ≡ Some t → filter (λ event. not (is_of Ready t event)) events ≡ filter (is_uncancelled (order ∷ [])) events
one_forgotten (Cancel u) t events some =
    ap (λ v. filter (λ event. not (is_of Ready v event)) events) (sym (same_Some u t some))
    ∙ ap (λ (p : Event → Bool). filter p events) (λ i event. passes (not (is_of Ready u event)) i)
  where
    passes : (b : Bool) → b ≡ (b && true)
    passes true = refl
    passes false = refl
one_forgotten (Policy name) t events some = absurd (none-some t some)
one_forgotten (Retire name) t events some = absurd (none-some t some)
one_forgotten (Close x) t events some = absurd (none-some t some)
one_forgotten (Reopen x) t events some = absurd (none-some t some)
one_forgotten (Stop u) t events some = absurd (none-some t some)
one_forgotten (Go u) t events some = absurd (none-some t some)
one_forgotten (Priority u n) t events some = absurd (none-some t some)
