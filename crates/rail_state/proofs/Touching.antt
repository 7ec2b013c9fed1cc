-- Which causes a command's line leaves.
use Rattle.std.proofs.Common.{◌≡◌, ℕ, Bool, true, false, not, ◌&&◌, ◌||◌, cond, eqb, List, [], ◌∷◌, ◌++◌, Option, Some, None, refl, ap, ◌∙◌}
use Rattle.std.specs.Prelude.{find}
use Rattle.std.specs.Option.{option_map}
use Rattle.std.specs.List.{list_any}
use Rattle.std.proofs.lemmas.Bool.{or_parts}
use Rattle.rail_base.specs.declared.history.Cause.TheVariants.{Stopped, Closed}
use Rattle.rail_base.specs.declared.orders.Order.{Order}
use Rattle.rail_base.specs.declared.orders.Order.TheVariants.{Policy, Retire, Close, Reopen, Stop, Go, Cancel, Priority}
use Rattle.rail_rules.specs.Numbers.{is_in, or_else}
use Rattle.rail_rules.specs.Plant.{claimed}
use Rattle.rail_rules.specs.Fronts.{Front, Line}
use Rattle.rail_rules.specs.Orders.{Input, is_closed, is_stopped, orders_of, told}
use Rattle.rail_rules.specs.Causes.{closed_cause, list_cause, place, stop_cause}
use Rattle.rail_laws_step.specs.HolderTables.{held_cause, own_overlap}
use Rattle.rail_rules.specs.LineCounts.{is_command}
use Rattle.rail_laws_step.proofs.CallerLemmas.{list_cause_kept, command_idle}
use Rattle.rail_state.proofs.EventCodes.{flip}
use Rattle.rail_state.specs.SeenCauses.{seen_bar, seen_cause, touches}

-- sections that are none of a list's are no first of it
find_same : (f g : ℕ → Bool) (x : ℕ) (xs : List ℕ) → is_in x xs ≡ false → ((y : ℕ) → eqb y x ≡ false → f y ≡ g y) → find f xs ≡ find g xs
find_same f g x [] apart same = refl
find_same f g x (y ∷ ys) apart same =
    let parts = or_parts (eqb y x) (is_in x ys) apart in
    λ i. cond (same y parts.0 i) (Some y) (find_same f g x ys parts.1 same i)

-- an order that doesn't touch a train leaves what bars it
pub untouched : (order : Order) (orders : List Order) (holders : List (Option ℕ)) (t : ℕ) (own sections : List ℕ) → touches order t sections ≡ false → seen_bar (order ∷ orders) holders t own sections ≡ seen_bar orders holders t own sections
untouched (Close x) orders holders t own sections apart =
    ap (λ (o : Option ℕ). or_else (stop_cause t orders) (or_else (option_map Closed o) (held_cause holders t own sections)))
    (find_same (λ y. is_closed y (Close x ∷ orders)) (λ y. is_closed y orders) x sections apart (λ y other. ap (λ b. b || is_closed y orders) (flip x y ∙ other)))
untouched (Reopen x) orders holders t own sections apart =
    ap (λ (o : Option ℕ). or_else (stop_cause t orders) (or_else (option_map Closed o) (held_cause holders t own sections)))
    (find_same (λ y. is_closed y (Reopen x ∷ orders)) (λ y. is_closed y orders) x sections apart (λ y other. ap (λ b. not b && is_closed y orders) (flip x y ∙ other)))
untouched (Stop u) orders holders t own sections apart = ap (λ b. or_else (cond (b || is_stopped t orders) (Some Stopped) None) (or_else (closed_cause sections orders) (held_cause holders t own sections))) apart
untouched (Go u) orders holders t own sections apart = ap (λ b. or_else (cond (not b && is_stopped t orders) (Some Stopped) None) (or_else (closed_cause sections orders) (held_cause holders t own sections))) apart
untouched (Policy name) orders holders t own sections apart = refl
untouched (Retire name) orders holders t own sections apart = refl
untouched (Cancel u) orders holders t own sections apart = refl
untouched (Priority u n) orders holders t own sections apart = refl

all_untouched : (told_now orders : List Order) (holders : List (Option ℕ)) (t : ℕ) (own sections : List ℕ) → list_any (λ order. touches order t sections) told_now ≡ false → seen_bar (told_now ++ orders) holders t own sections ≡ seen_bar orders holders t own sections
all_untouched [] orders holders t own sections apart = refl
all_untouched (order ∷ rest) orders holders t own sections apart =
    let parts = or_parts (touches order t sections) (list_any (λ o. touches o t sections) rest) apart in
    untouched order (rest ++ orders) holders t own sections parts.0 ∙ all_untouched rest orders holders t own sections parts.1

pub causes_left : (input : Input) (line : Line) (front : Front) → is_command line.entry.what ≡ true → (holders : List (Option ℕ)) (t : ℕ)
    → list_any (λ order. touches order t (claimed input.plant t (place front t))) (orders_of input.commands line.entry.what) ≡ false
    → seen_cause input (line ∷ front) holders t ≡ seen_cause input front holders t
causes_left input line front kind holders t apart =
    let idle = command_idle line.entry.what kind in
    let kept = list_cause_kept input line front t idle in
    let tells : List Order = orders_of input.commands line.entry.what in
    let orders : List Order = told input.commands front in
    ap (λ p. or_else (seen_bar (tells ++ orders) holders t (own_overlap input.plant t p) (claimed input.plant t p)) (list_cause input (line ∷ front) t)) kept.1
    ∙ ap (λ c. or_else (seen_bar (tells ++ orders) holders t (own_overlap input.plant t (place front t)) (claimed input.plant t (place front t))) c) kept.0
    ∙ ap (λ c. or_else c (list_cause input front t)) (all_untouched tells orders holders t (own_overlap input.plant t (place front t)) (claimed input.plant t (place front t)) apart)
