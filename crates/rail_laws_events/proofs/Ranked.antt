-- Two due lines with one time, class and number are one.
use Rattle.std.proofs.Common.{◌≡◌, ℕ, suc, ◌<◌, ◌≤◌, Bool, true, false, not, ◌&&◌, ltb, List, [], ◌∷◌, ◌++◌, length, get_or, sym, ap, ◌∙◌, subst, ⊎_elim, arith}
use Rattle.std.proofs.lemmas.Bool.{or_parts, cases_eq, cases_lt, false≢true, and_parts}
use Rattle.rail_base.specs.declared.history.Entry.{Entry}
use Rattle.rail_base.specs.declared.history.What.TheVariants.{Free, Out, Ready}
use Rattle.rail_rules.specs.Plant.{Plant, trains, moves, claims, step_section}
use Rattle.rail_rules.specs.Fronts.{Front, at_time, admissions, is_admission, rank, stands}
use Rattle.rail_rules.specs.Orders.{Input, told, is_cancelled}
use Rattle.rail_rules.specs.Times.{out}
use Rattle.rail_rules.specs.Intervals.{is_open, is_taken_over, is_unfreed, end_time}
use Rattle.rail_rules.specs.Events.{enter_line, arrive_line, ready_line}
use Rattle.rail_rules.specs.Causes.{place, is_ready}
use Rattle.rail_rules.specs.Lawful.{is_lawful}
use Rattle.rail_rules.proofs.CallerLemmas.{admissions_kept}
use Rattle.rail_laws_front.specs.Premises.{IsWellFormed}
use Rattle.rail_laws_front.specs.EventLines.{IsEvent}
use Rattle.rail_laws_front.specs.EventLines.IsEvent.{entering, arriving, freeing, leaving, readying}
use Rattle.rail_laws_front.specs.Views.{Follows}
use Rattle.rail_laws_front.specs.Views.Follows.{by_event, by_admission, by_hold, by_end}
use Rattle.rail_laws_front.proofs.CallerLemmas.{lawful_before, lawful_last, agree_added, length_added, ready_agrees, end_after_begin, admission_added, admission_of_other, event_admits_nothing, stands_on, waiting_parts, never_overlap}
use Rattle.rail_rules.specs.Apart.AreApart.{one, first, second}
use Rattle.rail_laws_events.proofs.Written.{few_admissions}
use Rattle.rail_laws_events.proofs.Rising.{one_enter, one_arrival}
use Rattle.rail_rules.specs.Apart.{AreApart}

-- the ready lines of admitted moves stand
pub ready_stood : (input : Input) (front : Front) → is_lawful input front ≡ true → (t m : ℕ) → m < place front t → stands front (ready_line input.plant t (admissions front t) m) ≡ true
ready_stood input [] lawful t m lt = absurd (omega arith)
ready_stood input (line ∷ front) lawful t m lt = step (ready_stood input front (lawful_before input line front lawful) t m) (lawful_last input line front lawful)
  where
    kept_line : admissions (line ∷ front) t ≡ admissions front t → (m < place front t → stands front (ready_line input.plant t (admissions front t) m) ≡ true) → stands (line ∷ front) (ready_line input.plant t (admissions (line ∷ front) t) m) ≡ true
    kept_line same before =
        let P : List ℕ → Type 0 = λ adms. stands (line ∷ front) (ready_line input.plant t adms m) ≡ true in
        subst P (sym same) (stands_on line front (ready_line input.plant t (admissions front t) m) (before (omega (arith, lt, ap (length {A = ℕ}) same))))

    step : (m < place front t → stands front (ready_line input.plant t (admissions front t) m) ≡ true) → Follows input front line → stands (line ∷ front) (ready_line input.plant t (admissions (line ∷ front) t) m) ≡ true
    step before (by_event happens) = kept_line (admissions_kept line front t (event_admits_nothing line.entry.what happens.event)) before
    step before (by_admission u n note admits) =
        ⊎_elim
        (λ mine.
        let P : ℕ → Type 0 = λ v. is_ready input front v ≡ true in
        let Q : ℕ → Type 0 = λ v. admissions (line ∷ front) v ≡ admissions front v ++ line.entry.at ∷ [] in
        let is_ready_now = subst P (sym mine) (waiting_parts input front u admits.waiting).ready in
        let stood = (and_parts (ltb (place front t) (moves input.plant t) && not (is_cancelled t (told input.commands front))) (stands front (ready_line input.plant t (admissions front t) (place front t))) is_ready_now).1 in
        let added : admissions (line ∷ front) t ≡ admissions front t ++ line.entry.at ∷ [] = subst Q (sym mine) (admission_added line front u n note admits.what) in
        let adms : List ℕ = admissions front t in
        let few : m ≤ length adms = omega (arith, lt, ap (length {A = ℕ}) added, length_added adms line.entry.at) in
        let time = ready_agrees input.plant t (adms ++ line.entry.at ∷ []) adms (length adms) m (agree_added adms line.entry.at) few in
        let here : stands front (ready_line input.plant t adms m) ≡ true =
        ⊎_elim
        (λ below. before below)
        (λ above.
        let same : m ≡ place front t = omega (arith, few, above) in
        let R : ℕ → Type 0 = λ k. stands front (ready_line input.plant t adms k) ≡ true in
        subst R (sym same) stood)
        (cases_lt m (length adms)) in
        let S : List ℕ → Type 0 = λ list. stands (line ∷ front) (ready_line input.plant t list m) ≡ true in
        let T : ℕ → Type 0 = λ at. stands (line ∷ front) (at_time at (Ready t (suc m))) ≡ true in
        subst S (sym added) (subst T (sym time) (stands_on line front (ready_line input.plant t adms m) here)))
        (λ other. kept_line (admission_of_other line front u n note t admits.what other) before)
        (cases_eq t u)
    step before (by_hold u n why holds) = kept_line (admissions_kept line front t (ap is_admission holds.what)) before
    step before (by_end ends) = kept_line (admissions_kept line front t (ap is_admission ends.what)) before

-- the class of an entry, and its number
class : Entry → ℕ
class e = get_or (rank e) 1 9

number : Entry → ℕ
number e = get_or (rank e) 2 0

-- lines of one train
module _ (input : Input)
    (fine : IsWellFormed input.plant)
    (front : Front)
    (lawful : is_lawful input front ≡ true)
    (t : ℕ)
    (known : t < trains input.plant)
    (c : Bool)
    (d e : Entry)
    (new_d : stands front d ≡ false)
    (new_e : stands front e ≡ false)
    (time : d.at ≡ e.at)
    (kind : class d ≡ class e)
    (no_free : class d ≡ 0 → ⊥)
  where
    few : length (admissions front t) ≤ moves input.plant t
    few = few_admissions input fine front lawful t known

    unready : (m : ℕ) (x : Entry) → stands front x ≡ false → m ≤ place front t → x ≡ ready_line input.plant t (admissions front t) m → m ≡ place front t
    unready m x new le is =
        ⊎_elim
        (λ below. absurd (false≢true (sym new ∙ ap (stands front) is ∙ ready_stood input front lawful t m below)))
        (λ above. omega (arith, le, above))
        (cases_lt m (place front t))

    classes : (x y : Entry) → d ≡ x → e ≡ y → class x ≡ class y
    classes x y dx ey = sym (ap class dx) ∙ kind ∙ ap class ey

    same_train : IsEvent input.plant t (admissions front t) c d → IsEvent input.plant t (admissions front t) c e → d ≡ e
    unfolding class
    same_train (entering m j lm lj is) (entering n i ln li is2) =
        let same = one_enter input.plant fine t (admissions front t) m j n i (omega (arith, lm, few)) (omega (arith, ln, few)) lj li (sym (ap (λ (x : Entry). x.at) is) ∙ time ∙ ap (λ (x : Entry). x.at) is2) in
        is ∙ (λ k. enter_line input.plant t (admissions front t) (same.0 k) (same.1 k)) ∙ sym is2
    same_train (arriving m lm is) (arriving n ln is2) =
        let same = one_arrival input.plant fine t (admissions front t) m n (omega (arith, lm, few)) (omega (arith, ln, few)) (sym (ap (λ (x : Entry). x.at) is) ∙ time ∙ ap (λ (x : Entry). x.at) is2) in
        is ∙ ap (arrive_line input.plant t (admissions front t)) same ∙ sym is2
    same_train (leaving m lm last is) (leaving n ln last2 is2) =
        let same : m ≡ n = omega (arith, last, last2) in
        is ∙ ap (λ k. at_time (out input.plant t (admissions front t) k) (Out t)) same ∙ sym is2
    same_train (readying m lm lmoves runs is) (readying n ln lnmoves runs2 is2) =
        let same : m ≡ n = omega (arith, unready m d new_d lm is, unready n e new_e ln is2) in
        is ∙ ap (ready_line input.plant t (admissions front t)) same ∙ sym is2
    same_train (freeing m j lm lj closed is) event = absurd (no_free (ap class is))
    same_train event (freeing n i ln li closed is2) = absurd (no_free (kind ∙ ap class is2))
    same_train (entering m j lm lj is) (arriving n ln is2) = absurd (omega (arith, classes (enter_line input.plant t (admissions front t) m j) (arrive_line input.plant t (admissions front t) n) is is2))
    same_train (entering m j lm lj is) (leaving n ln last2 is2) = absurd (omega (arith, classes (enter_line input.plant t (admissions front t) m j) (at_time (out input.plant t (admissions front t) n) (Out t)) is is2))
    same_train (entering m j lm lj is) (readying n ln lnmoves runs2 is2) = absurd (omega (arith, classes (enter_line input.plant t (admissions front t) m j) (ready_line input.plant t (admissions front t) n) is is2))
    same_train (arriving m lm is) (entering n i ln li is2) = absurd (omega (arith, classes (arrive_line input.plant t (admissions front t) m) (enter_line input.plant t (admissions front t) n i) is is2))
    same_train (arriving m lm is) (leaving n ln last2 is2) = absurd (omega (arith, classes (arrive_line input.plant t (admissions front t) m) (at_time (out input.plant t (admissions front t) n) (Out t)) is is2))
    same_train (arriving m lm is) (readying n ln lnmoves runs2 is2) = absurd (omega (arith, classes (arrive_line input.plant t (admissions front t) m) (ready_line input.plant t (admissions front t) n) is is2))
    same_train (leaving m lm last is) (entering n i ln li is2) = absurd (omega (arith, classes (at_time (out input.plant t (admissions front t) m) (Out t)) (enter_line input.plant t (admissions front t) n i) is is2))
    same_train (leaving m lm last is) (arriving n ln is2) = absurd (omega (arith, classes (at_time (out input.plant t (admissions front t) m) (Out t)) (arrive_line input.plant t (admissions front t) n) is is2))
    same_train (leaving m lm last is) (readying n ln lnmoves runs2 is2) = absurd (omega (arith, classes (at_time (out input.plant t (admissions front t) m) (Out t)) (ready_line input.plant t (admissions front t) n) is is2))
    same_train (readying m lm lmoves runs is) (entering n i ln li is2) = absurd (omega (arith, classes (ready_line input.plant t (admissions front t) m) (enter_line input.plant t (admissions front t) n i) is is2))
    same_train (readying m lm lmoves runs is) (arriving n ln is2) = absurd (omega (arith, classes (ready_line input.plant t (admissions front t) m) (arrive_line input.plant t (admissions front t) n) is is2))
    same_train (readying m lm lmoves runs is) (leaving n ln last2 is2) = absurd (omega (arith, classes (ready_line input.plant t (admissions front t) m) (at_time (out input.plant t (admissions front t) n) (Out t)) is is2))

-- a line that frees no section has its train as its number
train_is : (plant : Plant) (t : ℕ) (adms : List ℕ) (c : Bool) (e : Entry) → IsEvent plant t adms c e → (class e ≡ 0 → ⊥) → number e ≡ t
unfolding class number
train_is plant t adms c e (entering m j lm lj is) no_free = ap (λ x. get_or (rank x) 2 0) is
train_is plant t adms c e (arriving m lm is) no_free = ap (λ x. get_or (rank x) 2 0) is
train_is plant t adms c e (freeing m j lm lj closed is) no_free = absurd (no_free (ap (λ x. get_or (rank x) 1 9) is))
train_is plant t adms c e (leaving m lm last is) no_free = ap (λ x. get_or (rank x) 2 0) is
train_is plant t adms c e (readying m lm lmoves runs is) no_free = ap (λ x. get_or (rank x) 2 0) is

-- what frees a section
pub record Frees (plant : Plant) (t : ℕ) (adms : List ℕ) (e : Entry) : Type 0 where
  pub move : ℕ
  pub step : ℕ
  pub is_admitted_move : move < length adms
  pub is_step : step < claims plant t move
  pub freed : is_unfreed plant t adms move step ≡ false
  pub is : e ≡ at_time (end_time plant t adms move step) (Free (step_section plant t move step) t)

frees_is : (plant : Plant) (t : ℕ) (adms : List ℕ) (c : Bool) (e : Entry) → IsEvent plant t adms c e → class e ≡ 0 → Frees plant t adms e
unfolding class
frees_is plant t adms c e (freeing m j lm lj closed is) h = record { move = m; step = j; is_admitted_move = lm; is_step = lj; freed = closed; is = is }
frees_is plant t adms c e (entering m j lm lj is) h = absurd (omega (arith, h, ap class is))
frees_is plant t adms c e (arriving m lm is) h = absurd (omega (arith, h, ap class is))
frees_is plant t adms c e (leaving m lm last is) h = absurd (omega (arith, h, ap class is))
frees_is plant t adms c e (readying m lm lmoves runs is) h = absurd (omega (arith, h, ap class is))

-- two due event lines of trains with one rank are one
pub one_rank : (input : Input) → IsWellFormed input.plant → (front : Front) → is_lawful input front ≡ true
    → (t u : ℕ) (d e : Entry) → t < trains input.plant → u < trains input.plant
    → IsEvent input.plant t (admissions front t) (is_cancelled t (told input.commands front)) d
    → IsEvent input.plant u (admissions front u) (is_cancelled u (told input.commands front)) e
    → stands front d ≡ false → stands front e ≡ false → rank d ≡ rank e → d ≡ e
unfolding class number
one_rank input fine front lawful t u d e lt lu event_d event_e new_d new_e same =
    let plant : Plant = input.plant in
    let time : d.at ≡ e.at = ap (λ r. get_or r 0 0) same in
    let kind : class d ≡ class e = ap (λ r. get_or r 1 9) same in
    let numbers : number d ≡ number e = ap (λ r. get_or r 2 0) same in
    ⊎_elim
    (λ free.
    let fd = frees_is plant t (admissions front t) (is_cancelled t (told input.commands front)) d event_d free in
    let fe = frees_is plant u (admissions front u) (is_cancelled u (told input.commands front)) e event_e (sym kind ∙ free) in
    let section : step_section plant t fd.move fd.step ≡ step_section plant u fe.move fe.step = sym (ap (λ x. get_or (rank x) 2 0) fd.is) ∙ numbers ∙ ap (λ x. get_or (rank x) 2 0) fe.is in
    let ends : end_time plant t (admissions front t) fd.move fd.step ≡ end_time plant u (admissions front u) fe.move fe.step = sym (ap (λ (x : Entry). x.at) fd.is) ∙ time ∙ ap (λ (x : Entry). x.at) fe.is in
    decide fd fe ends section
    (never_overlap input fine front lawful t fd.move fd.step u fe.move fe.step (record { known = lt; admitted_move = fd.is_admitted_move; step = fd.is_step }) (record { known = lu; admitted_move = fe.is_admitted_move; step = fe.is_step }) section))
    (λ no_free.
    let c : ℕ → Bool = λ v. is_cancelled v (told input.commands front) in
    let trains_same : u ≡ t =
    sym (train_is plant u (admissions front u) (c u) e event_e (λ h. no_free (kind ∙ h))) ∙ sym numbers ∙ train_is plant t (admissions front t) (c t) d event_d no_free in
    let P : ℕ → Type 0 = λ v. IsEvent plant v (admissions front v) (c v) e in
    same_train input fine front lawful t lt (c t) d e new_d new_e time kind no_free event_d (subst P trains_same event_e))
    (cases_eq (class d) 0)
  where
    untaken : (v m j : ℕ) → is_unfreed input.plant v (admissions front v) m j ≡ false → is_taken_over input.plant v (admissions front v) m j ≡ false
    untaken v m j freed = (or_parts (is_open input.plant v (admissions front v) m j) (is_taken_over input.plant v (admissions front v) m j) freed).1

    decide : (fd : Frees input.plant t (admissions front t) d) (fe : Frees input.plant u (admissions front u) e)
        → end_time input.plant t (admissions front t) fd.move fd.step
        ≡ end_time input.plant u (admissions front u) fe.move fe.step
        → step_section input.plant t fd.move fd.step ≡ step_section input.plant u fe.move fe.step
        → AreApart input.plant front t fd.move fd.step u fe.move fe.step → d ≡ e
    decide fd fe ends section (one a b x) = fd.is ∙ (λ i. at_time (ends i) (Free (section i) (a i))) ∙ sym fe.is
    decide fd fe ends section (first h) = absurd (omega (arith, h.by, ends, end_after_begin input.plant u fine (admissions front u) fe.move fe.step (omega (arith, fe.is_admitted_move, few_admissions input fine front lawful u lu)) (untaken u fe.move fe.step fe.freed)))
    decide fd fe ends section (second h) = absurd (omega (arith, h.by, ends, end_after_begin input.plant t fine (admissions front t) fd.move fd.step (omega (arith, fd.is_admitted_move, few_admissions input fine front lawful t lt)) (untaken t fd.move fd.step fd.freed)))
