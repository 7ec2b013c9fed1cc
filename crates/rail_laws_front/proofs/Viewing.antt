-- A line may follow a front exactly where it follows as an event, an admission, a hold or the end.
use Rattle.std.proofs.Common.{◌≡◌, ℕ, suc, ◌≤◌, Bool, true, false, not, ◌&&◌, ◌||◌, eqb, ◌∷◌, length, is_some, Some, refl, ap, inl, inr, ⊎_elim, arith}
use Rattle.std.specs.List.{list_any}
use Rattle.std.proofs.lemmas.Bool.{and_parts, and_left, or_cases, cases_lt, eqb-true, not-true, le-ltb}
use Rattle.std.proofs.lemmas.List.{get_or_past}
use Rattle.rail_base.specs.declared.history.What.{What}
use Rattle.rail_base.specs.declared.history.What.TheVariants.{Free, Arrive, Enter, Out, Ready, Told, Untold, Admit, Hold, End}
use Rattle.rail_base.specs.declared.history.Note.{Note}
use Rattle.rail_base.specs.declared.history.Cause.{Cause}
use Rattle.rail_rules.specs.Numbers.{all_below, comes_before, same_numbers}
use Rattle.rail_rules.specs.Places.{completes}
use Rattle.rail_rules.specs.Plant.{Plant, no_train, trains, moves, moves_of}
use Rattle.rail_rules.specs.Fronts.{Line, Front, instant, has_ended, has_held, kept, rank, same_cause, same_entry}
use Rattle.rail_rules.specs.Orders.{Input}
use Rattle.rail_rules.specs.Events.{due_lines, is_least}
use Rattle.rail_rules.specs.Causes.{place, waits, is_ready, bar, cause, could_go, is_deciding, is_settled, places_after}
use Rattle.rail_rules.specs.Lawful.{is_bare, is_hold_due, note_fits, remaining, may_happen, may_admit, may_hold, may_end, may_follow_as, may_follow, is_lawful}
use Rattle.rail_rules.proofs.CallerLemmas.{all_below_at}
use Rattle.rail_laws_front.specs.Views.{Follows, is_event}
use Rattle.rail_laws_front.specs.Views.Follows.{by_event, by_admission, by_hold, by_end}

-- a train that the plant doesn't have has no moves
pub no_moves : (plant : Plant) (t : ℕ) → trains plant ≤ t → moves plant t ≡ 0
no_moves plant t past = ap (λ row. length row.moves) (get_or_past plant.tables.trains t no_train past)

-- and so can't be admitted
pub never_goes : (input : Input) (front : Front) (t : ℕ) → trains input.plant ≤ t → is_ready input front t ≡ false
never_goes input front t past =
    and_left _ _ (and_left _ _ (le-ltb (place front t) (moves input.plant t) (omega (arith, no_moves input.plant t past))))

happens_from : (input : Input) (front : Front) (line : Line) → is_event line.entry.what ≡ true → may_happen input front line ≡ true → Follows input front line
happens_from input front line event h =
    let two = and_parts (is_bare line && is_least (due_lines input front) line.entry) (eqb line.entry.at (instant front) || is_settled input front) h in
    let one = and_parts (is_bare line) (is_least (due_lines input front) line.entry) two.0 in
    let parts = and_parts (list_any (same_entry line.entry) (due_lines input front)) (not (list_any (λ d. comes_before (rank d) (rank line.entry)) (due_lines input front))) one.1 in
    by_event (record {
      event = event;
      bare = one.0;
      due = parts.0;
      least = not-true _ parts.1;
      when = ⊎_elim (λ now. inl (eqb-true line.entry.at (instant front) now)) (λ settled. inr settled) (or_cases (eqb line.entry.at (instant front)) (is_settled input front) two.1);
    })

admits_from : (input : Input) (front : Front) (line : Line) (t m : ℕ) (note : Note) → line.entry.what ≡ Admit t m note → may_admit input front line t m note ≡ true → Follows input front line
admits_from input front line t m note what h =
    let now : Bool = eqb line.entry.at (instant front) in
    let waiting : Bool = waits input front t in
    let free : Bool = not (is_some (bar input front t)) in
    let next : Bool = eqb m (suc (place front t)) in
    let no_hold : Bool = not (has_held front) in
    let fits : Bool = note_fits line (place front t) note in
    let list : Bool = completes (moves_of input.plant) (places_after input front t) (kept input.plant (line ∷ front)) in
    let p6 = and_parts (now && waiting && free && next && no_hold && fits) list h in
    let p5 = and_parts (now && waiting && free && next && no_hold) fits p6.0 in
    let p4 = and_parts (now && waiting && free && next) no_hold p5.0 in
    let p3 = and_parts (now && waiting && free) next p4.0 in
    let p2 = and_parts (now && waiting) free p3.0 in
    let p1 = and_parts now waiting p2.0 in
    by_admission t m note (record {
      what = what;
      now = eqb-true line.entry.at (instant front) p1.0;
      waiting = p1.1;
      unbarred = not-true (is_some (bar input front t)) p2.1;
      next = eqb-true m (suc (place front t)) p3.1;
      no_hold = not-true (has_held front) p4.1;
      fits = p5.1;
      completing = p6.1;
    })

holds_from : (input : Input) (front : Front) (line : Line) (t m : ℕ) (why : Cause) → line.entry.what ≡ Hold t m why → may_hold input front line t m why ≡ true → Follows input front line
holds_from input front line t m why what h =
    let bare : Bool = is_bare line in
    let now : Bool = eqb line.entry.at (instant front) in
    let deciding : Bool = is_deciding input front in
    let nobody : Bool = all_below (λ u. not (could_go input front u)) (trains input.plant) in
    let due : Bool = is_hold_due input front t in
    let first : Bool = all_below (λ u. not (is_hold_due input front u)) t in
    let next : Bool = eqb m (suc (place front t)) in
    let cause_is : Bool = same_cause (Some why) (cause input front t) in
    let p7 = and_parts (bare && now && deciding && nobody && due && first && next) cause_is h in
    let p6 = and_parts (bare && now && deciding && nobody && due && first) next p7.0 in
    let p5 = and_parts (bare && now && deciding && nobody && due) first p6.0 in
    let p4 = and_parts (bare && now && deciding && nobody) due p5.0 in
    let p3 = and_parts (bare && now && deciding) nobody p4.0 in
    let p2 = and_parts (bare && now) deciding p3.0 in
    let p1 = and_parts bare now p2.0 in
    by_hold t m why (record {
      what = what;
      bare = p1.0;
      now = eqb-true line.entry.at (instant front) p1.1;
      deciding = p2.1;
      nobody = λ u. ⊎_elim
          (λ lt. not-true (could_go input front u) (all_below_at (λ v. not (could_go input front v)) (trains input.plant) u p3.1 lt))
          (λ past. and_left (is_ready input front u) (not (is_some (cause input front u))) (never_goes input front u past))
          (cases_lt u (trains input.plant));
      due = p4.1;
      first = λ u lt. not-true (is_hold_due input front u) (all_below_at (λ v. not (is_hold_due input front v)) t u p5.1 lt);
      next = eqb-true m (suc (place front t)) p6.1;
      true_cause = p7.1;
    })

ends_from : (input : Input) (front : Front) (line : Line) → line.entry.what ≡ End → may_end input front line ≡ true → Follows input front line
ends_from input front line what h =
    let now : Bool = eqb line.entry.at (instant front) in
    let settled : Bool = is_settled input front in
    let none : Bool = eqb (length (due_lines input front)) 0 in
    let names : Bool = same_numbers line.trains (remaining input front) in
    let p3 = and_parts (now && settled && none) names h in
    let p2 = and_parts (now && settled) none p3.0 in
    let p1 = and_parts now settled p2.0 in
    by_end (record {
      what = what;
      now = eqb-true line.entry.at (instant front) p1.0;
      settled = p1.1;
      nothing_due = eqb-true (length (due_lines input front)) 0 p2.1;
      names = p3.1;
    })

follows_as : (input : Input) (front : Front) (line : Line) (what : What) → line.entry.what ≡ what → may_follow_as input front line what ≡ true → Follows input front line
follows_as input front line (Admit t m note) is h = admits_from input front line t m note is h
follows_as input front line (Hold t m why) is h = holds_from input front line t m why is h
follows_as input front line End is h = ends_from input front line is h
follows_as input front line (Free x t) is h = happens_from input front line (ap is_event is) h
follows_as input front line (Arrive t m) is h = happens_from input front line (ap is_event is) h
follows_as input front line (Enter t m x) is h = happens_from input front line (ap is_event is) h
follows_as input front line (Out t) is h = happens_from input front line (ap is_event is) h
follows_as input front line (Ready t m) is h = happens_from input front line (ap is_event is) h
follows_as input front line (Told k) is h = happens_from input front line (ap is_event is) h
follows_as input front line (Untold k) is h = happens_from input front line (ap is_event is) h

pub viewed : (input : Input) (front : Front) (line : Line) → may_follow input front line ≡ true → Follows input front line
viewed input front line h =
    follows_as input front line line.entry.what refl (and_parts (not (has_ended front)) (may_follow_as input front line line.entry.what) h).1

pub not_ended : (input : Input) (front : Front) (line : Line) → may_follow input front line ≡ true → has_ended front ≡ false
not_ended input front line h = not-true (has_ended front) (and_parts (not (has_ended front)) (may_follow_as input front line line.entry.what) h).0

-- the last line of a lawful front follows the lawful lines before it
pub lawful_before : (input : Input) (line : Line) (before : Front) → is_lawful input (line ∷ before) ≡ true → is_lawful input before ≡ true
lawful_before input line before h = (and_parts (is_lawful input before) (may_follow input before line) h).0

pub lawful_last : (input : Input) (line : Line) (before : Front) → is_lawful input (line ∷ before) ≡ true → Follows input before line
lawful_last input line before h = viewed input before line (and_parts (is_lawful input before) (may_follow input before line) h).1
