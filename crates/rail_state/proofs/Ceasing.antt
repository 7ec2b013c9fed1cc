-- Who waits after a command's line.
use Rattle.std.proofs.Common.{◌≡◌, ℕ, Bool, true, false, not, ◌&&◌, ◌||◌, ltb, List, ◌∷◌, ◌++◌, length, refl, ap, ◌∙◌}
use Rattle.std.proofs.lemmas.Bool.{false≢true, false_from_ne_true}
use Rattle.rail_base.specs.declared.history.Entry.{Entry}
use Rattle.rail_base.specs.declared.history.What.TheVariants.{Ready}
use Rattle.rail_base.specs.declared.orders.Order.{Order}
use Rattle.rail_rules.specs.Plant.{moves}
use Rattle.rail_rules.specs.Fronts.{Front, Line, admissions, same_entry, stands}
use Rattle.rail_rules.specs.Orders.{Input, is_cancelled, orders_of, told}
use Rattle.rail_rules.specs.Causes.{is_ready, place}
use Rattle.rail_rules.specs.Events.{ready_line}
use Rattle.rail_rules.proofs.CallerLemmas.{admissions_kept}
use Rattle.rail_laws_events.proofs.CallerLemmas.{one_entry}
use Rattle.rail_rules.specs.LineCounts.{is_command}
use Rattle.rail_laws_step.proofs.CallerLemmas.{kept_both, command_idle}

arrange : (l c d s : Bool) → (l && (c && d) && s) ≡ (d && (l && c && s))
arrange true true true s = refl
arrange true true false s = refl
arrange true false true s = refl
arrange true false false s = refl
arrange false c true s = refl
arrange false c false s = refl

pub ceases : (input : Input) (line : Line) (front : Front) (t : ℕ) → is_command line.entry.what ≡ true → is_ready input (line ∷ front) t ≡ (not (is_cancelled t (orders_of input.commands line.entry.what)) && is_ready input front t)
ceases input line front t kind =
    let adms : admissions (line ∷ front) t ≡ admissions front t = admissions_kept line front t (command_idle line.entry.what kind) in
    let next : Entry = ready_line input.plant t (admissions front t) (place front t) in
    let orders : List Order = told input.commands front in
    let tells : List Order = orders_of input.commands line.entry.what in
    let no_match : same_entry next line.entry ≡ false = false_from_ne_true (same_entry next line.entry) (λ is. false≢true (ap (λ (e : Entry). is_command e.what) (one_entry next line.entry is) ∙ kind)) in
    let first : is_ready input (line ∷ front) t ≡ (ltb (length (admissions front t)) (moves input.plant t) && not (is_cancelled t (tells ++ orders)) && (same_entry next line.entry || stands front next)) =
    λ i. ltb (length (adms i)) (moves input.plant t) && not (is_cancelled t (tells ++ orders)) && stands (line ∷ front) (ready_line input.plant t (adms i) (length (adms i))) in
    first
    ∙ ap (λ b. ltb (length (admissions front t)) (moves input.plant t) && not (is_cancelled t (tells ++ orders)) && (b || stands front next)) no_match
    ∙ ap (λ b. ltb (length (admissions front t)) (moves input.plant t) && b && stands front next) (kept_both tells orders (Ready t 0))
    ∙ arrange (ltb (length (admissions front t)) (moves input.plant t)) (not (is_cancelled t orders)) (not (is_cancelled t tells)) (stands front next)
