-- A line may follow exactly where no law applies.
use Rattle.std.proofs.Common.{◌≡◌, ℕ, suc, ◌≤◌, Bool, true, false, not, ◌&&◌, ◌||◌, cond, eqb, List, [], ◌∷◌, length, Option, Some, None, is_some, refl, sym, ap, ◌∙◌, ⊎_elim, arith, ◌+◌, zero-add}
use Rattle.std.specs.List.{list_any}
use Rattle.std.specs.Cmp.Lexicographic.{bytes_decides}
use Rattle.std.proofs.lemmas.Bool.{and_parts, and_from, and_left, and_right, cases_Bool, cond-false, eqb-true, eq-eqb, false≢true, false_from_ne_true, true_from_ne_false, not-true, not_from_false, not_from_true, or_from, or_parts, or_cases, or_left, or_right}
use Rattle.rail_base.specs.declared.history.Entry.{Entry}
use Rattle.rail_base.specs.declared.history.What.{What}
use Rattle.rail_base.specs.declared.history.What.TheVariants.{Free, Arrive, Enter, Out, Ready, Told, Untold, Admit, Hold, End}
use Rattle.rail_base.specs.declared.history.Cause.{Cause}
use Rattle.rail_rules.specs.Numbers.{all_below, comes_before, or_else, same_numbers}
use Rattle.rail_rules.specs.Places.{completes}
use Rattle.rail_rules.specs.Plant.{moves_of, claimed, trains}
use Rattle.rail_rules.specs.Fronts.{Line, Front, has_ended, has_held, instant, kept, option_code, rank, same_cause, same_entry}
use Rattle.rail_rules.specs.Orders.{Input, told}
use Rattle.rail_rules.specs.Events.{command_line, due_lines, is_least, is_quiet, is_written}
use Rattle.rail_rules.specs.Causes.{blocked_cause, cause, closed_cause, could_go, is_deciding, is_ready, is_settled, is_told_so, last_hold, place, places_after, stop_cause, waits}
use Rattle.rail_rules.specs.Lawful.{is_bare, is_hold_due, is_lawful, may_end, may_follow, may_follow_as, may_happen, may_hold, note_fits, remaining}
use Rattle.rail_laws_front.proofs.CallerLemmas.{well_formed_from_accepted, due_found, not_earlier, same_time, timely, deciding_quiet}
use Rattle.rail_rules.specs.Accepted.{is_accepted}
use Rattle.rail_laws_front.specs.Invariant.{IsTimely}
use Rattle.rail_laws_end.proofs.CallerLemmas.{not_now}
use Rattle.rail_laws_verdict.specs.Verdicts.{broken_law, law_of, is_undecided}
use Rattle.rail_laws_verdict.specs.Laws.{brings_its_own, does_break, is_wrong_hold, least_law}

both : (a b : Bool) → (a ≡ true → b ≡ true) → (b ≡ true → a ≡ true) → a ≡ b
both true b f g = sym (f refl)
both false b f g = sym (false_from_ne_true b (λ h. absurd (false≢true (g h))))

no_bar : {X : Type 0} (a b c : Option X) → is_some (or_else a (or_else b c)) ≡ (is_some a || is_some b) || is_some c
no_bar (Some x) b c = refl
no_bar None (Some y) c = refl
no_bar None None c = refl

-- admissions
pub admit_is : (n w m h f k s c b : Bool) → (((((((n && w) && not ((s || c) || b)) && m) && not h) && f) && k)) ≡ not (((((false || not (((n && w) && m) && not h)) || (s || c)) || b) || not (f && k)) || false)
admit_is n w m h f k s c b = both _ _ one two
  where
    one : (((((((n && w) && not ((s || c) || b)) && m) && not h) && f) && k)) ≡ true → not (((((false || not (((n && w) && m) && not h)) || (s || c)) || b) || not (f && k)) || false) ≡ true
    one all =
        let p6 = and_parts _ k all in
        let p5 = and_parts _ f p6.0 in
        let p4 = and_parts _ (not h) p5.0 in
        let p3 = and_parts _ m p4.0 in
        let p2 = and_parts (n && w) (not ((s || c) || b)) p3.0 in
        let bars = or_parts (s || c) b (not-true ((s || c) || b) p2.1) in
        not_from_false _
        (or_from _ false (or_from _ (not (f && k)) (or_from _ b (or_from _ (s || c) (not_from_true _ (and_from ((n && w) && m) (not h) (and_from (n && w) m p2.0 p3.1) p4.1)) bars.0) bars.1) (not_from_true (f && k) (and_from f k p5.1 p6.1))) refl)

    two : not (((((false || not (((n && w) && m) && not h)) || (s || c)) || b) || not (f && k)) || false) ≡ true → (((((((n && w) && not ((s || c) || b)) && m) && not h) && f) && k)) ≡ true
    two none =
        let q5 = or_parts ((((false || not (((n && w) && m) && not h)) || (s || c)) || b) || not (f && k)) false (not-true _ none) in
        let q4 = or_parts (((false || not (((n && w) && m) && not h)) || (s || c)) || b) (not (f && k)) q5.0 in
        let q3 = or_parts ((false || not (((n && w) && m) && not h)) || (s || c)) b q4.0 in
        let q2 = or_parts (not (((n && w) && m) && not h)) (s || c) q3.0 in
        let placed = and_parts ((n && w) && m) (not h) (unnot _ q2.0) in
        let moved = and_parts (n && w) m placed.0 in
        let listed = and_parts f k (unnot (f && k) q4.1) in
        and_from _ k (and_from _ f (and_from _ (not h) (and_from _ m (and_from (n && w) (not ((s || c) || b)) moved.0 (not_from_false ((s || c) || b) (or_from (s || c) b q2.1 q3.1))) moved.1) placed.1) listed.0) listed.1
      where
        unnot : (x : Bool) → not x ≡ false → x ≡ true
        unnot true h' = refl
        unnot false h' = absurd (false≢true (sym h'))

unnot : (x : Bool) → not x ≡ false → x ≡ true
unnot true h = refl
unnot false h = absurd (false≢true (sym h))

-- what isn't due at all isn't due at an instant
none_quiet : (due : List Entry) (now : ℕ) → eqb (length due) 0 ≡ true → is_quiet due now ≡ true
none_quiet [] now h = refl
none_quiet (d ∷ due) now h = absurd (omega (arith, eqb-true (suc (length due)) 0 h))

-- with five laws that can't apply
five : (a u : Bool) → (((((a || false) || false) || false) || false) || u) ≡ (a || u)
five true u = refl
five false u = refl

-- a due line is not before the instant
due_later : (input : Input) (line : Line) (front : Front) → IsTimely input front → list_any (same_entry line.entry) (due_lines input front) ≡ true → instant front ≤ line.entry.at
due_later input line front h there =
    ⊎_elim
    (λ is_due.
    let time = same_time line.entry is_due.entry is_due.passing in
    ⊎_elim
    (λ stood. absurd (false≢true (sym is_due.unwritten ∙ stood)))
    (λ to_come. omega (arith, time, to_come))
    (h.events is_due.train is_due.entry is_due.known is_due.event))
    (λ is_due.
    let time = same_time line.entry (command_line input front is_due.command (0 + is_due.index)) is_due.passing in
    let unwritten : is_written front is_due.command is_due.index ≡ false = sym (ap (is_written front is_due.command) (zero-add is_due.index)) ∙ is_due.unwritten in
    ⊎_elim
    (λ stood. absurd (false≢true (sym unwritten ∙ stood)))
    (λ to_come. omega (arith, time, to_come))
    (h.commands is_due.index is_due.command is_due.listed))
    (due_found input front (same_entry line.entry) there)

module _ (input : Input) (front : Front) (timely : IsTimely input front) (going : has_ended front ≡ false) (line : Line) where
  due : List Entry
  due = due_lines input front

  decided_where_settled : is_settled input front ≡ true → is_undecided input front ≡ false
  decided_where_settled settled = and_right (is_deciding input front) (not (is_settled input front)) (not_from_true (is_settled input front) settled)

  -- where nothing is due at the instant, it is decided who goes, or no line was given yet
  quiet_cases : (f : Front) → has_ended f ≡ false → is_quiet (due_lines input f) (instant f) ≡ true → is_undecided input f ≡ false → is_settled input f ≡ true
  quiet_cases [] none quiet decided = refl
  quiet_cases (l ∷ before) open_still quiet decided =
      let deciding : is_deciding input (l ∷ before) ≡ true = and_from (not (has_ended (l ∷ before))) (is_quiet (due_lines input (l ∷ before)) l.entry.at) (not_from_false (has_ended (l ∷ before)) open_still) quiet in
      true_from_ne_false (is_settled input (l ∷ before)) (λ unsettled. false≢true (sym decided ∙ and_from (is_deciding input (l ∷ before)) (not (is_settled input (l ∷ before))) deciding (not_from_false (is_settled input (l ∷ before)) unsettled)))

  end_is : may_end input front line ≡ not (not ((eqb line.entry.at (instant front) && eqb (length (due_lines input front)) 0) && same_numbers line.trains (remaining input front)) || is_undecided input front)
  end_is = both _ _ one two
    where
      now : Bool
      now = eqb line.entry.at (instant front)

      none : Bool
      none = eqb (length (due_lines input front)) 0

      names : Bool
      names = same_numbers line.trains (remaining input front)

      one : may_end input front line ≡ true → not (not ((eqb line.entry.at (instant front) && eqb (length (due_lines input front)) 0) && same_numbers line.trains (remaining input front)) || is_undecided input front) ≡ true
      one may =
          let p3 = and_parts ((eqb line.entry.at (instant front) && is_settled input front) && eqb (length (due_lines input front)) 0) (same_numbers line.trains (remaining input front)) may in
          let p2 = and_parts (eqb line.entry.at (instant front) && is_settled input front) (eqb (length (due_lines input front)) 0) p3.0 in
          let p1 = and_parts (eqb line.entry.at (instant front)) (is_settled input front) p2.0 in
          not_from_false _ (or_from _ (is_undecided input front)
          (not_from_true _ (and_from (eqb line.entry.at (instant front) && eqb (length (due_lines input front)) 0) (same_numbers line.trains (remaining input front)) (and_from (eqb line.entry.at (instant front)) (eqb (length (due_lines input front)) 0) p1.0 p2.1) p3.1))
          (decided_where_settled p1.1))

      two : not (not ((eqb line.entry.at (instant front) && eqb (length (due_lines input front)) 0) && same_numbers line.trains (remaining input front)) || is_undecided input front) ≡ true → may_end input front line ≡ true
      two ok =
          let q = or_parts (not ((eqb line.entry.at (instant front) && eqb (length (due_lines input front)) 0) && same_numbers line.trains (remaining input front))) (is_undecided input front) (not-true _ ok) in
          let r = and_parts (eqb line.entry.at (instant front) && eqb (length (due_lines input front)) 0) (same_numbers line.trains (remaining input front)) (unnot _ q.0) in
          let v = and_parts (eqb line.entry.at (instant front)) (eqb (length (due_lines input front)) 0) r.0 in
          let settled = quiet_cases front going (none_quiet (due_lines input front) (instant front) v.1) q.1 in
          and_from
          ((eqb line.entry.at (instant front) && is_settled input front) && eqb (length (due_lines input front)) 0)
          (same_numbers line.trains (remaining input front))
          (and_from (eqb line.entry.at (instant front) && is_settled input front)
          (eqb (length (due_lines input front)) 0)
          (and_from (eqb line.entry.at (instant front)) (is_settled input front) v.0 settled)
          v.1)
          r.1

  -- the least due line is not before the instant
  not_past : is_least (due_lines input front) line.entry ≡ true → instant front ≤ line.entry.at
  not_past least =
      let parts = and_parts (list_any (same_entry line.entry) (due_lines input front)) (not (list_any (λ d. comes_before (rank d) (rank line.entry)) (due_lines input front))) least in
      due_later input line front timely parts.0

  event_is : is_bare line ≡ true → may_happen input front line ≡ not (not (is_least (due_lines input front) line.entry) || is_undecided input front)
  event_is bare = both _ _ one two
    where
      one : may_happen input front line ≡ true → not (not (is_least (due_lines input front) line.entry) || is_undecided input front) ≡ true
      one may =
          let p2 = and_parts (is_bare line && is_least (due_lines input front) line.entry) (eqb line.entry.at (instant front) || is_settled input front) may in
          let p1 = and_parts (is_bare line) (is_least (due_lines input front) line.entry) p2.0 in
          let there = (and_parts (list_any (same_entry line.entry) (due_lines input front)) (not (list_any (λ d. comes_before (rank d) (rank line.entry)) (due_lines input front))) p1.1).0 in
          not_from_false _ (or_from (not (is_least (due_lines input front) line.entry)) (is_undecided input front) (not_from_true _ p1.1)
          (⊎_elim
          (λ now. and_left_of (not_deciding_now (due_lines input front) front line.entry there (eqb-true line.entry.at (instant front) now)))
          decided_where_settled
          (or_cases (eqb line.entry.at (instant front)) (is_settled input front) p2.1)))
        where
          and_left_of : is_deciding input front ≡ false → is_undecided input front ≡ false
          and_left_of h = and_left (is_deciding input front) (not (is_settled input front)) h

          not_deciding_now : (ds : List Entry) (f : Front) (e : Entry) → list_any (same_entry e) (due_lines input front) ≡ true → e.at ≡ instant front → is_deciding input front ≡ false
          not_deciding_now ds f e there at = false_from_ne_true (is_deciding input front) (λ deciding. not_now (due_lines input front) e (instant front) there (deciding_quiet input front deciding) at)

      two : not (not (is_least (due_lines input front) line.entry) || is_undecided input front) ≡ true → may_happen input front line ≡ true
      two ok =
          let q = or_parts (not (is_least (due_lines input front) line.entry)) (is_undecided input front) (not-true _ ok) in
          let least = unnot _ q.0 in
          let parts = and_parts (list_any (same_entry line.entry) (due_lines input front)) (not (list_any (λ d. comes_before (rank d) (rank line.entry)) (due_lines input front))) least in
          and_from (is_bare line && is_least (due_lines input front) line.entry) (eqb line.entry.at (instant front) || is_settled input front)
          (and_from (is_bare line) (is_least (due_lines input front) line.entry) bare least)
          (⊎_elim
          (λ quiet. or_right (eqb line.entry.at (instant front)) (is_settled input front) (quiet_cases front going quiet q.1))
          (λ busy. or_left (eqb line.entry.at (instant front)) (is_settled input front)
          (eq-eqb line.entry.at (instant front) (omega (arith, not_past least, early (due_lines input front) (unnot _ busy) (not-true _ parts.1)))))
          (cases_Bool (is_quiet (due_lines input front) (instant front))))
        where
          early : (ds : List Entry) → list_any (λ (d : Entry). eqb d.at (instant front)) ds ≡ true → list_any (λ d. comes_before (rank d) (rank line.entry)) ds ≡ false → line.entry.at ≤ instant front
          early [] some none = absurd (false≢true some)
          early (d ∷ ds) some none =
              let parts = or_parts (comes_before (rank d) (rank line.entry)) (list_any (λ x. comes_before (rank x) (rank line.entry)) ds) none in
              ⊎_elim
              (λ here. omega (arith, not_earlier d line.entry parts.0, eqb-true d.at (instant front) here))
              (λ there. early ds there parts.1)
              (or_cases (eqb d.at (instant front)) (list_any (λ (x : Entry). eqb x.at (instant front)) ds) some)

  module _ (t m : ℕ) (why : Cause) (bare : is_bare line ≡ true) where
    abbrev now : Bool
    now = eqb line.entry.at (instant front)

    abbrev next : Bool
    next = eqb m (suc (place front t))

    abbrev truly : Bool
    truly = same_cause (Some why) (cause input front t)

    abbrev named : Bool
    named = same_cause (last_hold front t m) (Some why)

    abbrev first : Bool
    first = all_below (λ u. not (is_hold_due input front u)) t

    abbrev nobody : Bool
    nobody = all_below (λ u. not (could_go input front u)) (trains input.plant)

    -- where the cause is the true one, it is named already exactly where the last hold line names it
    told_is : m ≡ suc (place front t) → truly ≡ true → is_told_so input front t ≡ named
    told_is number is_true =
        let same : option_code (Some why) ≡ option_code (cause input front t) = (bytes_decides (option_code (Some why)) (option_code (cause input front t))).0 is_true in
        λ i. same_numbers (option_code (last_hold front t (sym number i))) (sym same i)

    hold_is : may_hold input front line t m why ≡ not (is_wrong_hold input front line t m why)
    hold_is = both _ _ one two
      where
        one : may_hold input front line t m why ≡ true → not (is_wrong_hold input front line t m why) ≡ true
        one may =
            let p7 = and_parts ((((((is_bare line && now) && is_deciding input front) && nobody) && is_hold_due input front t) && first) && next) truly may in
            let p6 = and_parts (((((is_bare line && now) && is_deciding input front) && nobody) && is_hold_due input front t) && first) next p7.0 in
            let p5 = and_parts ((((is_bare line && now) && is_deciding input front) && nobody) && is_hold_due input front t) first p6.0 in
            let p4 = and_parts (((is_bare line && now) && is_deciding input front) && nobody) (is_hold_due input front t) p5.0 in
            let p3 = and_parts ((is_bare line && now) && is_deciding input front) nobody p4.0 in
            let p2 = and_parts (is_bare line && now) (is_deciding input front) p3.0 in
            let p1 = and_parts (is_bare line) now p2.0 in
            let h = and_parts (is_ready input front t) (not (is_told_so input front t)) p4.1 in
            let number = eqb-true m (suc (place front t)) p6.1 in
            not_from_false _
            (or_from (((not ((now && waits input front t) && next) || not truly) || named) || not first) (not nobody)
            (or_from ((not ((now && waits input front t) && next) || not truly) || named) (not first)
            (or_from (not ((now && waits input front t) && next) || not truly) named
            (or_from (not ((now && waits input front t) && next)) (not truly)
            (not_from_true _ (and_from (now && waits input front t) next (and_from now (waits input front t) p1.1 (and_from (is_deciding input front) (is_ready input front t) p2.1 h.0)) p6.1))
            (not_from_true truly p7.1))
            (sym (told_is number p7.1) ∙ not-true (is_told_so input front t) h.1))
            (not_from_true first p5.1))
            (not_from_true nobody p3.1))

        two : not (is_wrong_hold input front line t m why) ≡ true → may_hold input front line t m why ≡ true
        two ok =
            let q4 = or_parts (((not ((now && waits input front t) && next) || not truly) || named) || not first) (not nobody) (not-true _ ok) in
            let q3 = or_parts ((not ((now && waits input front t) && next) || not truly) || named) (not first) q4.0 in
            let q2 = or_parts (not ((now && waits input front t) && next) || not truly) named q3.0 in
            let q1 = or_parts (not ((now && waits input front t) && next)) (not truly) q2.0 in
            let r = and_parts (now && waits input front t) next (unnot _ q1.0) in
            let v = and_parts now (waits input front t) r.0 in
            let w = and_parts (is_deciding input front) (is_ready input front t) v.1 in
            let number = eqb-true m (suc (place front t)) r.1 in
            let is_true = unnot truly q1.1 in
            let is_due = and_from (is_ready input front t) (not (is_told_so input front t)) w.1 (not_from_false (is_told_so input front t) (told_is number is_true ∙ q2.1)) in
            and_from ((((((is_bare line && now) && is_deciding input front) && nobody) && is_hold_due input front t) && first) && next) truly
            (and_from (((((is_bare line && now) && is_deciding input front) && nobody) && is_hold_due input front t) && first) next
            (and_from ((((is_bare line && now) && is_deciding input front) && nobody) && is_hold_due input front t) first
            (and_from (((is_bare line && now) && is_deciding input front) && nobody) (is_hold_due input front t)
            (and_from ((is_bare line && now) && is_deciding input front) nobody
            (and_from (is_bare line && now) (is_deciding input front) (and_from (is_bare line) now bare v.0) w.0)
            (unnot nobody q4.1)) is_due) (unnot first q3.1)) r.1) is_true

  abbrev stop : ℕ → Option Cause
  stop t = stop_cause t (told input.commands front)

  abbrev closed : ℕ → Option Cause
  closed t = closed_cause (claimed input.plant t (place front t)) (told input.commands front)

  abbrev blocked : ℕ → Option Cause
  blocked t = blocked_cause input front t (claimed input.plant t (place front t))

  event : is_bare line ≡ true → may_happen input front line ≡ not (((((not (is_least (due_lines input front) line.entry) || false) || false) || false) || false) || is_undecided input front)
  event bare = event_is bare ∙ sym (ap not (five (not (is_least (due_lines input front) line.entry)) (is_undecided input front)))

  by_what : (w : What) → brings_its_own line w ≡ true → may_follow_as input front line w ≡ not (does_break input front line w)
  by_what (Admit t m note) own =
      let bars = no_bar (stop t) (closed t) (blocked t) in
      (λ i. (((((eqb line.entry.at (instant front) && waits input front t) && not (bars i)) && eqb m (suc (place front t))) && not (has_held front)) && note_fits line (place front t) note) && completes (moves_of input.plant) (places_after input front t) (kept input.plant (line ∷ front)))
      ∙ admit_is (eqb line.entry.at (instant front))
      (waits input front t)
      (eqb m (suc (place front t)))
      (has_held front)
      (note_fits line (place front t) note)
      (completes (moves_of input.plant) (places_after input front t) (kept input.plant (line ∷ front)))
      (is_some (stop t))
      (is_some (closed t))
      (is_some (blocked t))
  by_what (Hold t m why) own = hold_is t m why own
  by_what End own = end_is ∙ sym (ap not (five (not ((eqb line.entry.at (instant front) && eqb (length (due_lines input front)) 0) && same_numbers line.trains (remaining input front))) (is_undecided input front)))
  by_what (Free x t) own = event own
  by_what (Arrive t m) own = event own
  by_what (Enter t m x) own = event own
  by_what (Out t) own = event own
  by_what (Ready t m) own = event own
  by_what (Told k) own = event own
  by_what (Untold k) own = event own

pub exactly : (input : Input) → is_accepted input.plant ≡ true → (front : Front)
    → is_lawful input front ≡ true → has_ended front ≡ false → (line : Line)
    → brings_its_own line line.entry.what ≡ true
    → may_follow input front line ≡ not (does_break input front line line.entry.what)
exactly input accepted front lawful going line own =
    ap (λ b. not b && may_follow_as input front line line.entry.what) going
    ∙ by_what input front (timely input (well_formed_from_accepted input.plant accepted) front lawful) going line line.entry.what own

pub numbered : (input : Input) (front : Front) → has_ended front ≡ false → (line : Line) → does_break input front line line.entry.what ≡ true → broken_law input front line ≡ least_law input front line line.entry.what
numbered input front going line breaks = cond-false (has_ended front) 1 (law_of input front line line.entry.what) going ∙ of line.entry.what breaks
  where
    event : (a u : Bool) → (((((a || false) || false) || false) || false) || u) ≡ true → cond u 6 1 ≡ cond u 6 (cond a 1 (cond {A = ℕ} false 2 (cond false 3 (cond false 4 5))))
    event a true h = refl
    event true false h = refl
    event false false h = absurd (false≢true h)

    held : (u : Bool) → u ≡ true → 6 ≡ cond {A = ℕ} u 6 (cond false 1 (cond false 2 (cond false 3 (cond false 4 5))))
    held true h = refl
    held false h = absurd (false≢true h)

    of : (w : What) → does_break input front line w ≡ true → law_of input front line w ≡ least_law input front line w
    of (Admit t m note) h = refl
    of (Hold t m why) h = held (is_wrong_hold input front line t m why) h
    of (Free x t) h = event (not (is_least (due_lines input front) line.entry)) (is_undecided input front) h
    of (Arrive t m) h = event (not (is_least (due_lines input front) line.entry)) (is_undecided input front) h
    of (Enter t m x) h = event (not (is_least (due_lines input front) line.entry)) (is_undecided input front) h
    of (Out t) h = event (not (is_least (due_lines input front) line.entry)) (is_undecided input front) h
    of (Ready t m) h = event (not (is_least (due_lines input front) line.entry)) (is_undecided input front) h
    of (Told k) h = event (not (is_least (due_lines input front) line.entry)) (is_undecided input front) h
    of (Untold k) h = event (not (is_least (due_lines input front) line.entry)) (is_undecided input front) h
    of End h = event (not ((eqb line.entry.at (instant front) && eqb (length (due_lines input front)) 0) && same_numbers line.trains (remaining input front))) (is_undecided input front) h
