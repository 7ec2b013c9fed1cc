-- A line that has what a view asks for may follow.
use Rattle.std.proofs.Common.{◌≡◌, ℕ, suc, Bool, true, false, not, ◌&&◌, ◌||◌, eqb, ◌∷◌, length, is_some, Some, refl, ap, ◌∙◌, ⊎_elim}
use Rattle.std.specs.List.{list_any}
use Rattle.std.proofs.lemmas.Bool.{and_from, or_left, or_right, eq-eqb, false≢true, not_from_false}
use Rattle.rail_base.specs.declared.history.What.{What}
use Rattle.rail_base.specs.declared.history.What.TheVariants.{Free, Arrive, Enter, Out, Ready, Told, Untold, Admit, Hold, End}
use Rattle.rail_base.specs.declared.history.Note.{Note}
use Rattle.rail_base.specs.declared.history.Cause.{Cause}
use Rattle.rail_rules.specs.Numbers.{all_below, comes_before, same_numbers}
use Rattle.rail_rules.specs.Places.{completes}
use Rattle.rail_rules.specs.Plant.{trains, moves_of}
use Rattle.rail_rules.specs.Fronts.{Line, Front, instant, has_ended, has_held, kept, rank, same_cause, same_entry}
use Rattle.rail_rules.specs.Orders.{Input}
use Rattle.rail_rules.specs.Events.{due_lines, is_least}
use Rattle.rail_rules.specs.Causes.{place, waits, bar, cause, could_go, is_deciding, is_settled, places_after}
use Rattle.rail_rules.specs.Lawful.{is_bare, is_hold_due, note_fits, remaining, may_happen, may_follow_as, may_follow}
use Rattle.rail_rules.proofs.CallerLemmas.{all_below_from}
use Rattle.rail_laws_front.specs.Views.{Happens, Admits, Holds, Ends, is_event}

as_event : (input : Input) (front : Front) (line : Line) (what : What) → is_event what ≡ true → may_follow_as input front line what ≡ may_happen input front line
as_event input front line (Admit t m note) h = absurd (false≢true h)
as_event input front line (Hold t m why) h = absurd (false≢true h)
as_event input front line End h = absurd (false≢true h)
as_event input front line (Free x t) h = refl
as_event input front line (Arrive t m) h = refl
as_event input front line (Enter t m x) h = refl
as_event input front line (Out t) h = refl
as_event input front line (Ready t m) h = refl
as_event input front line (Told k) h = refl
as_event input front line (Untold k) h = refl

follow_from : (input : Input) (front : Front) (line : Line) → has_ended front ≡ false → may_follow_as input front line line.entry.what ≡ true → may_follow input front line ≡ true
follow_from input front line going may = and_from (not (has_ended front)) (may_follow_as input front line line.entry.what) (not_from_false (has_ended front) going) may

pub happens_follows : (input : Input) (front : Front) (line : Line) → has_ended front ≡ false → Happens input front line → may_follow input front line ≡ true
happens_follows input front line going h =
    let listed : Bool = list_any (same_entry line.entry) (due_lines input front) in
    let earlier : Bool = list_any (λ d. comes_before (rank d) (rank line.entry)) (due_lines input front) in
    let now : Bool = eqb line.entry.at (instant front) in
    let settled : Bool = is_settled input front in
    follow_from input front line going
    (as_event input front line line.entry.what h.event
    ∙ and_from (is_bare line && is_least (due_lines input front) line.entry) (now || settled)
    (and_from (is_bare line) (is_least (due_lines input front) line.entry) h.bare (and_from listed (not earlier) h.due (not_from_false earlier h.least)))
    (⊎_elim (λ at_once. or_left now settled (eq-eqb line.entry.at (instant front) at_once)) (λ later. or_right now settled later) h.when))

pub admits_follows : (input : Input) (front : Front) (line : Line) (t m : ℕ) (note : Note) → has_ended front ≡ false → Admits input front line t m note → may_follow input front line ≡ true
admits_follows input front line t m note going h =
    let now : Bool = eqb line.entry.at (instant front) in
    let waiting : Bool = waits input front t in
    let free : Bool = not (is_some (bar input front t)) in
    let next : Bool = eqb m (suc (place front t)) in
    let no_hold : Bool = not (has_held front) in
    let fits : Bool = note_fits line (place front t) note in
    let list : Bool = completes (moves_of input.plant) (places_after input front t) (kept input.plant (line ∷ front)) in
    let p1 = and_from now waiting (eq-eqb line.entry.at (instant front) h.now) h.waiting in
    let p2 = and_from (now && waiting) free p1 (not_from_false (is_some (bar input front t)) h.unbarred) in
    let p3 = and_from (now && waiting && free) next p2 (eq-eqb m (suc (place front t)) h.next) in
    let p4 = and_from (now && waiting && free && next) no_hold p3 (not_from_false (has_held front) h.no_hold) in
    let p5 = and_from (now && waiting && free && next && no_hold) fits p4 h.fits in
    let p6 = and_from (now && waiting && free && next && no_hold && fits) list p5 h.completing in
    follow_from input front line going (ap (may_follow_as input front line) h.what ∙ p6)

pub holds_follows : (input : Input) (front : Front) (line : Line) (t m : ℕ) (why : Cause) → has_ended front ≡ false → Holds input front line t m why → may_follow input front line ≡ true
holds_follows input front line t m why going h =
    let bare : Bool = is_bare line in
    let now : Bool = eqb line.entry.at (instant front) in
    let deciding : Bool = is_deciding input front in
    let nobody : Bool = all_below (λ u. not (could_go input front u)) (trains input.plant) in
    let due : Bool = is_hold_due input front t in
    let first : Bool = all_below (λ u. not (is_hold_due input front u)) t in
    let next : Bool = eqb m (suc (place front t)) in
    let cause_is : Bool = same_cause (Some why) (cause input front t) in
    let p1 = and_from bare now h.bare (eq-eqb line.entry.at (instant front) h.now) in
    let p2 = and_from (bare && now) deciding p1 h.deciding in
    let p3 = and_from (bare && now && deciding) nobody p2 (all_below_from (λ u. not (could_go input front u)) (trains input.plant) (λ u _. not_from_false (could_go input front u) (h.nobody u))) in
    let p4 = and_from (bare && now && deciding && nobody) due p3 h.due in
    let p5 = and_from (bare && now && deciding && nobody && due) first p4 (all_below_from (λ u. not (is_hold_due input front u)) t (λ u lt. not_from_false (is_hold_due input front u) (h.first u lt))) in
    let p6 = and_from (bare && now && deciding && nobody && due && first) next p5 (eq-eqb m (suc (place front t)) h.next) in
    let p7 = and_from (bare && now && deciding && nobody && due && first && next) cause_is p6 h.true_cause in
    follow_from input front line going (ap (may_follow_as input front line) h.what ∙ p7)

pub ends_follows : (input : Input) (front : Front) (line : Line) → has_ended front ≡ false → Ends input front line → may_follow input front line ≡ true
ends_follows input front line going h =
    let now : Bool = eqb line.entry.at (instant front) in
    let settled : Bool = is_settled input front in
    let none : Bool = eqb (length (due_lines input front)) 0 in
    let names : Bool = same_numbers line.trains (remaining input front) in
    let p1 = and_from now settled (eq-eqb line.entry.at (instant front) h.now) h.settled in
    let p2 = and_from (now && settled) none p1 (eq-eqb (length (due_lines input front)) 0 h.nothing_due) in
    let p3 = and_from (now && settled && none) names p2 h.names in
    follow_from input front line going (ap (may_follow_as input front line) h.what ∙ p3)
