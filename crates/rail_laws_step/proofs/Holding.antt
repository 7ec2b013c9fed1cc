-- What hold lines say, and when everything is settled.
use Rattle.std.proofs.Common.{◌≡◌, ℕ, suc, ◌<◌, Bool, true, false, not, ◌&&◌, ◌||◌, cond, eqb, List, [], ◌∷◌, length, is_some, Option, Some, None, refl, sym, ap, ◌∙◌, ⊎_elim, arith}
use Rattle.std.specs.Cmp.Lexicographic.{bytes_decides}
use Rattle.std.proofs.lemmas.Bool.{cases_Bool, cases_lt, false≢true, and_parts, and_from, and_left, and_right, or_left, or_right, cond-true, cond-false, eqb-true, eq-eqb, not_from_false, not_from_true, false_from_ne_true}
use Rattle.rail_base.specs.declared.history.What.{What}
use Rattle.rail_base.specs.declared.history.What.TheVariants.{Free, Arrive, Enter, Out, Ready, Told, Untold, Admit, Hold, End}
use Rattle.rail_base.specs.declared.history.Cause.{Cause}
use Rattle.rail_base.specs.declared.history.Cause.TheVariants.{NoList}
use Rattle.rail_rules.specs.Numbers.{all_below, or_else}
use Rattle.rail_rules.specs.Places.{after, completes}
use Rattle.rail_rules.specs.Analysis.{finds}
use Rattle.rail_rules.specs.Plant.{trains, moves_of}
use Rattle.rail_rules.specs.Fronts.{Line, Front, instant, is_hold, is_admission, places, kept, without_first, with_rest_of, option_code, same_cause, hold_of}
use Rattle.rail_rules.specs.Orders.{Input}
use Rattle.rail_rules.specs.Causes.{place, is_ready, is_deciding, is_repairable, list_cause, cause, last_hold, is_told_so, is_settled}
use Rattle.rail_rules.specs.Lawful.{is_lawful}
use Rattle.rail_rules.proofs.CallerLemmas.{all_below_from, admissions_kept}
use Rattle.rail_laws_front.specs.Views.{Holds, Follows, is_event}
use Rattle.rail_laws_front.specs.Views.Follows.{by_event, by_admission, by_hold, by_end}
use Rattle.rail_laws_front.proofs.CallerLemmas.{never_goes, lawful_before, lawful_last, places_idle, kept_idle}
use Rattle.rail_laws_step.proofs.ReadyLines.{place_grows}

-- a line that is no admission
pub list_cause_kept : (input : Input) (line : Line) (front : Front) (t : ℕ) → is_admission line.entry.what ≡ false
    → (list_cause input (line ∷ front) t ≡ list_cause input front t)
    × (place (line ∷ front) t ≡ place front t)
    × (is_repairable input (line ∷ front) t ≡ is_repairable input front t)
list_cause_kept input line front t idle =
    let at : place (line ∷ front) t ≡ place front t = ap length (admissions_kept line front t idle) in
    let all : places input.plant (line ∷ front) ≡ places input.plant front = places_idle input.plant line front idle in
    let list : kept input.plant (line ∷ front) ≡ kept input.plant front = kept_idle input.plant (kept input.plant front) line line.entry.what idle in
    let repairs : is_repairable input (line ∷ front) t ≡ is_repairable input front t =
    λ i. completes (moves_of input.plant) (after (all i) t) (cond (eqb (at i) 0) (with_rest_of input.plant t (list i)) (without_first t (list i))) in (
      λ i. cond (repairs i || finds (moves_of input.plant) input.plant.tables.depth (after (all i) t)) None (Some NoList),
      at,
      repairs,
    )

-- which lines name a cause of a move
no_hold : (t m : ℕ) (what : What) → is_hold what ≡ false → hold_of t m what ≡ None
no_hold t m (Hold u n why) h = absurd (false≢true (sym h))
no_hold t m (Admit u n note) h = refl
no_hold t m End h = refl
no_hold t m (Free x u) h = refl
no_hold t m (Arrive u n) h = refl
no_hold t m (Enter u n x) h = refl
no_hold t m (Out u) h = refl
no_hold t m (Ready u n) h = refl
no_hold t m (Told k) h = refl
no_hold t m (Untold k) h = refl

pub unheld : (line : Line) (front : Front) (t m : ℕ) → is_hold line.entry.what ≡ false → last_hold (line ∷ front) t m ≡ last_hold front t m
unheld line front t m none = ap (λ o. or_else o (last_hold front t m)) (no_hold t m line.entry.what none)

pub held_other : (line : Line) (front : Front) (t m u n : ℕ) (why : Cause) → line.entry.what ≡ Hold u n why → (u ≡ t → n ≡ m → ⊥) → last_hold (line ∷ front) t m ≡ last_hold front t m
held_other line front t m u n why what other =
    let both : Bool = eqb u t && eqb n m in
    let differs : both ≡ false = false_from_ne_true both (λ is. let parts = and_parts (eqb u t) (eqb n m) is in other (eqb-true u t parts.0) (eqb-true n m parts.1)) in
    ap (λ o. or_else o (last_hold front t m)) (ap (hold_of t m) what ∙ cond-false both (Some why) None differs)

pub held_last : (line : Line) (front : Front) (t m : ℕ) (why : Cause) → line.entry.what ≡ Hold t m why → last_hold (line ∷ front) t m ≡ Some why
held_last line front t m why what =
    ap (λ o. or_else o (last_hold front t m)) (ap (hold_of t m) what ∙ cond-true (eqb t t && eqb m m) (Some why) None (and_from (eqb t t) (eqb m m) (eq-eqb t t refl) (eq-eqb m m refl)))

-- an event line is no hold line
pub event_holds_nothing : (what : What) → is_event what ≡ true → is_hold what ≡ false
event_holds_nothing (Hold t m why) h = absurd (false≢true h)
event_holds_nothing (Admit t m note) h = refl
event_holds_nothing End h = refl
event_holds_nothing (Free x t) h = refl
event_holds_nothing (Arrive t m) h = refl
event_holds_nothing (Enter t m x) h = refl
event_holds_nothing (Out t) h = refl
event_holds_nothing (Ready t m) h = refl
event_holds_nothing (Told k) h = refl
event_holds_nothing (Untold k) h = refl

-- no hold line names a move after the next one
pub no_later_hold : (input : Input) (front : Front) (t m : ℕ) → is_lawful input front ≡ true → place front t < m → last_hold front t (suc m) ≡ None
no_later_hold input [] t m lawful later = refl
no_later_hold input (line ∷ front) t m lawful later =
    let earlier : place front t < m = omega (arith, later, place_grows line front t) in
    step earlier (no_later_hold input front t m (lawful_before input line front lawful) earlier) (lawful_last input line front lawful)
  where
    step : place front t < m → last_hold front t (suc m) ≡ None → Follows input front line → last_hold (line ∷ front) t (suc m) ≡ None
    step earlier before (by_event happens) = unheld line front t (suc m) (event_holds_nothing line.entry.what happens.event) ∙ before
    step earlier before (by_admission u n note admits) = unheld line front t (suc m) (ap is_hold admits.what) ∙ before
    step earlier before (by_hold u n why holds) =
        let other : u ≡ t → n ≡ suc m → ⊥ = λ mine here.
        let next : n ≡ suc (place front t) = holds.next ∙ ap (λ v. suc (place front v)) mine in
        omega (arith, next, here, earlier) in
        held_other line front t (suc m) u n why holds.what other ∙ before
    step earlier before (by_end ends) = unheld line front t (suc m) (ap is_hold ends.what) ∙ before

-- one cause is itself
same_cause_refl : (o : Option Cause) → same_cause o o ≡ true
same_cause_refl o = (bytes_decides (option_code o) (option_code o)).1 refl

-- where each ready train has a cause and was told so
pub settled_where_told : (input : Input) (front : Front) → is_deciding input front ≡ true
    → ((t : ℕ) → t < trains input.plant → is_ready input front t ≡ true
    → (why : Cause) × (cause input front t ≡ Some why)
    × (last_hold front t (suc (place front t)) ≡ Some why))
    → is_settled input front ≡ true
settled_where_told input [] deciding told_all = refl
settled_where_told input (line ∷ before) deciding told_all =
    let front : Front = line ∷ before in
    let test : ℕ → Bool = λ t. not (is_ready input front t) || (is_some (cause input front t) && is_told_so input front t) in
    and_from (is_deciding input front) (all_below test (trains input.plant)) deciding
    (all_below_from test (trains input.plant) (λ t lt.
    ⊎_elim
    (λ ready.
    let why = told_all t lt ready in
    let told_it : is_told_so input front t ≡ true = (λ i. same_cause (why.2 i) (why.1 i)) ∙ same_cause_refl (Some why.0) in
    or_right (not (is_ready input front t)) (is_some (cause input front t) && is_told_so input front t) (and_from (is_some (cause input front t)) (is_told_so input front t) (ap is_some why.1) told_it))
    (λ idle. or_left (not (is_ready input front t)) (is_some (cause input front t) && is_told_so input front t) (not_from_false (is_ready input front t) idle))
    (cases_Bool (is_ready input front t))))

-- the hold line of the first ready train whose cause wasn't named
pub hold_due : (input : Input) (line : Line) (front : Front) (t : ℕ) (why : Cause)
    → line.entry.what ≡ Hold t (suc (place front t)) why → line.entry.at ≡ instant front → line.trains ≡ []
    → is_deciding input front ≡ true
    → ((u : ℕ) → u < trains input.plant → is_ready input front u ≡ true
    → is_some (cause input front u) ≡ true)
    → t < trains input.plant → is_ready input front t ≡ true → cause input front t ≡ Some why
    → same_cause (last_hold front t (suc (place front t))) (Some why) ≡ false
    → ((u : ℕ) → u < t → is_ready input front u ≡ true
    → last_hold front u (suc (place front u)) ≡ cause input front u)
    → Holds input front line t (suc (place front t)) why
hold_due input line front t why what now nobody_named deciding each known ready is unnamed earlier = record {
  what = what;
  bare = ap (λ (list : List ℕ). eqb (length list) 0) nobody_named;
  now = now;
  deciding = deciding;
  nobody = λ u. ⊎_elim
      (λ lt. ⊎_elim
      (λ here. and_right (is_ready input front u) (not (is_some (cause input front u))) (not_from_true (is_some (cause input front u)) (each u lt here)))
      (λ idle. and_left (is_ready input front u) (not (is_some (cause input front u))) idle)
      (cases_Bool (is_ready input front u)))
      (λ past. and_left (is_ready input front u) (not (is_some (cause input front u))) (never_goes input front u past))
      (cases_lt u (trains input.plant));
  due = and_from (is_ready input front t) (not (is_told_so input front t)) ready (not_from_false (is_told_so input front t) (ap (same_cause (last_hold front t (suc (place front t)))) is ∙ unnamed));
  first = λ u lt. ⊎_elim
      (λ here. and_right (is_ready input front u) (not (is_told_so input front u)) (not_from_true (is_told_so input front u) (ap (λ o. same_cause o (cause input front u)) (earlier u lt here) ∙ same_cause_refl (cause input front u))))
      (λ idle. and_left (is_ready input front u) (not (is_told_so input front u)) idle)
      (cases_Bool (is_ready input front u));
  next = refl;
  true_cause = ap (same_cause (Some why)) is ∙ same_cause_refl (Some why);
}
