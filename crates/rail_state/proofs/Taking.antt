-- What a command's line takes out of the queue.
use Rattle.std.proofs.Common.{◌≡◌, ℕ, Bool, true, false, not, ◌&&◌, ◌||◌, cond, eqb, List, [], ◌∷◌, refl, sym, ap, ◌∙◌, arith}
use Rattle.std.specs.Prelude.{count_by}
use Rattle.std.specs.List.{filter, list_any}
use Rattle.std.proofs.lemmas.Bool.{false≢true, not_from_false, or_parts, true_from_ne_false}
use Rattle.rail_base.specs.declared.history.Entry.{Entry}
use Rattle.rail_base.specs.declared.history.What.{What}
use Rattle.rail_base.specs.declared.history.What.TheVariants as what
use Rattle.rail_base.specs.declared.orders.Order.{Order}
use Rattle.rail_base.specs.declared.orders.Order.TheVariants.{Policy, Retire, Close, Reopen, Stop, Go, Cancel, Priority}
use Rattle.rail_rules.specs.Fronts.{Front, Line}
use Rattle.rail_rules.specs.Lawful.{is_lawful}
use Rattle.rail_rules.specs.Orders.{Input, is_cancelled, orders_of}
use Rattle.rail_rules.specs.Events.{due_lines}
use Rattle.rail_laws_front.specs.Premises.{IsWellFormed}
use Rattle.rail_laws_events.proofs.CallerLemmas.{tally-same}
use Rattle.rail_rules.specs.LineCounts.{is_command}
use Rattle.rail_queue.specs.declared.event.Event.{Event}
use Rattle.rail_queue.specs.Order.{is_ready_of}
use Rattle.rail_queue.proofs.CallerLemmas.{count_left}
use Rattle.rail_laws_step.specs.KeptLines.{is_kept}
use Rattle.rail_laws_step.proofs.CallerLemmas.{command_gone}
use Rattle.rail_state.specs.Events.{event_of}
use Rattle.rail_state.specs.SeenCauses.{AreDue, is_uncancelled}
use Rattle.rail_state.proofs.EventCodes.{count-cons, flip}

not_or : (a b : Bool) → not (a || b) ≡ (not a && not b)
not_or true b = refl
not_or false b = refl

-- which events stay, by their lines
uncancelled_ready : (orders : List Order) (at t m : ℕ) → is_uncancelled orders (event_of (record { at = at; what = what.Ready t m })) ≡ not (is_cancelled t orders)
uncancelled_ready [] at t m = refl
uncancelled_ready (Cancel u ∷ orders) at t m = ap (λ b. not (eqb t u) && b) (uncancelled_ready orders at t m) ∙ ap (λ b. not b && not (is_cancelled t orders)) (flip t u) ∙ sym (not_or (eqb u t) (is_cancelled t orders))
uncancelled_ready (Policy name ∷ orders) at t m = uncancelled_ready orders at t m
uncancelled_ready (Retire name ∷ orders) at t m = uncancelled_ready orders at t m
uncancelled_ready (Close x ∷ orders) at t m = uncancelled_ready orders at t m
uncancelled_ready (Reopen x ∷ orders) at t m = uncancelled_ready orders at t m
uncancelled_ready (Stop u ∷ orders) at t m = uncancelled_ready orders at t m
uncancelled_ready (Go u ∷ orders) at t m = uncancelled_ready orders at t m
uncancelled_ready (Priority u n ∷ orders) at t m = uncancelled_ready orders at t m

pub uncancelled_other : (orders : List Order) (e : Event) → ((t : ℕ) → is_ready_of t e ≡ false) → is_uncancelled orders e ≡ true
uncancelled_other [] e other = refl
uncancelled_other (Cancel u ∷ orders) e other = ap (λ b. not b && is_uncancelled orders e) (other u) ∙ uncancelled_other orders e other
uncancelled_other (Policy name ∷ orders) e other = uncancelled_other orders e other
uncancelled_other (Retire name ∷ orders) e other = uncancelled_other orders e other
uncancelled_other (Close x ∷ orders) e other = uncancelled_other orders e other
uncancelled_other (Reopen x ∷ orders) e other = uncancelled_other orders e other
uncancelled_other (Stop u ∷ orders) e other = uncancelled_other orders e other
uncancelled_other (Go u ∷ orders) e other = uncancelled_other orders e other
uncancelled_other (Priority u n ∷ orders) e other = uncancelled_other orders e other

uncancelled_kept : (orders : List Order) (e : Entry) → is_kept orders e.what ≡ is_uncancelled orders (event_of e)
uncancelled_kept orders e = of e.at e.what
  where
    of : (at : ℕ) (w : What) → is_kept orders w ≡ is_uncancelled orders (event_of (record { at = at; what = w }))
    of at (what.Ready t m) = sym (uncancelled_ready orders at t m)
    of at (what.Free x t) = sym (uncancelled_other orders (event_of (record { at = at; what = what.Free x t })) (λ u. refl))
    of at (what.Arrive t m) = sym (uncancelled_other orders (event_of (record { at = at; what = what.Arrive t m })) (λ u. refl))
    of at (what.Enter t m x) = sym (uncancelled_other orders (event_of (record { at = at; what = what.Enter t m x })) (λ u. refl))
    of at (what.Out t) = sym (uncancelled_other orders (event_of (record { at = at; what = what.Out t })) (λ u. refl))
    of at (what.Told k) = sym (uncancelled_other orders (event_of (record { at = at; what = what.Told k })) (λ u. refl))
    of at (what.Untold k) = sym (uncancelled_other orders (event_of (record { at = at; what = what.Untold k })) (λ u. refl))
    of at (what.Admit t m note) = sym (uncancelled_other orders (event_of (record { at = at; what = what.Admit t m note })) (λ u. refl))
    of at (what.Hold t m why) = sym (uncancelled_other orders (event_of (record { at = at; what = what.Hold t m why })) (λ u. refl))
    of at what.End = sym (uncancelled_other orders (event_of (record { at = at; what = what.End })) (λ u. refl))

-- a command's own event is uncancelled
command_uncancelled : (orders : List Order) (e : Entry) → is_command e.what ≡ true → is_uncancelled orders (event_of e) ≡ true
command_uncancelled orders e kind = sym (uncancelled_kept orders e) ∙ of e.what kind
  where
    of : (w : What) → is_command w ≡ true → is_kept orders w ≡ true
    of (what.Told k) h = refl
    of (what.Untold k) h = refl
    of (what.Ready t m) h = absurd (false≢true h)
    of (what.Free x t) h = refl
    of (what.Arrive t m) h = refl
    of (what.Enter t m x) h = refl
    of (what.Out t) h = refl
    of (what.Admit t m note) h = refl
    of (what.Hold t m why) h = refl
    of what.End h = refl

count_both : (k p : Event → Bool) (xs : List Event) → list_any (λ e. not (k e)) xs ≡ false → count_by (λ e. k e && p e) xs ≡ count_by p xs
count_both k p [] all = refl
count_both k p (x ∷ xs) all =
    let both = or_parts (not (k x)) (list_any (λ e. not (k e)) xs) all in
    let here : k x ≡ true = true_from_ne_false (k x) (λ fails. false≢true (sym both.0 ∙ not_from_false (k x) fails)) in
    omega (arith, count-cons (λ e. k e && p e) x xs, count-cons p x xs, ap {B = ℕ} (λ b. cond (b && p x) 1 0) here, count_both k p xs both.1)

pub command_taken : (input : Input) → IsWellFormed input.plant → (line : Line) (front : Front) → is_lawful input (line ∷ front) ≡ true → is_command line.entry.what ≡ true
    → (events rest held : List Event) → AreDue input front events held → events ≡ event_of line.entry ∷ rest
    → list_any (λ event. not (is_uncancelled (orders_of input.commands line.entry.what) event)) held ≡ false
    → AreDue input (line ∷ front) (filter (is_uncancelled (orders_of input.commands line.entry.what)) rest) held
command_taken input fine line front lawful kind events rest held are first deferred_uncancelled q =
    let orders : List Order = orders_of input.commands line.entry.what in
    let both : Event → Bool = λ e. is_uncancelled orders e && q e in
    omega (
      arith,
      command_gone input fine line front lawful kind (λ e. q (event_of e)) (λ at k. refl),
      tally-same (λ e. is_kept orders e.what && q (event_of e)) (λ e. both (event_of e)) (due_lines input front) (λ e. ap (λ b. b && q (event_of e)) (uncancelled_kept orders e)),
      are both,
      ap (count_by both) first,
      count-cons both (event_of line.entry) rest,
      ap {B = ℕ} (λ b. cond (b && q (event_of line.entry)) 1 0) (command_uncancelled orders line.entry kind),
      count_left (is_uncancelled orders) q rest,
      count_both (is_uncancelled orders) q held deferred_uncancelled,
    )
