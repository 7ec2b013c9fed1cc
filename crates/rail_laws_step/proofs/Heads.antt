-- Which section a train's head enters next.
use Rattle.std.proofs.Common.{◌≡◌, ℕ, suc, ◌<◌, ◌≤◌, true, false, ◌&&◌, ◌||◌, eqb, ltb, List, [], ◌∷◌, ◌++◌, length, refl, sym, ap, ◌∙◌, subst, ◌⊎◌, inl, inr, ⊎_elim, arith}
use Rattle.std.specs.Cmp.{both_ways}
use Rattle.std.proofs.lemmas.Bool.{and_parts, and_from, or_cases, or_left, or_right, cases_Bool, cases_lt, cases_eq, false≢true, eq-eqb, eqb-true, lt-ltb, le-ltb, ltb-true, cond-true, cond-false, false_from_ne_true}
use Rattle.rail_base.specs.declared.history.Entry.{Entry}
use Rattle.rail_base.specs.declared.history.What.TheVariants.{Free, Arrive, Enter, Out, Ready}
use Rattle.rail_rules.specs.Plant.{Plant, trains, moves, steps, step_section}
use Rattle.rail_rules.specs.Fronts.{Line, Front, at_time, is_admission, admits, admissions, same_entry, stands}
use Rattle.rail_rules.specs.Orders.{Input}
use Rattle.rail_rules.specs.Times.{enter, go, passes}
use Rattle.rail_rules.specs.Events.{enter_line}
use Rattle.rail_rules.specs.Causes.{place}
use Rattle.rail_rules.specs.Lawful.{is_lawful}
use Rattle.rail_rules.proofs.CallerLemmas.{head_time-le, admissions_kept}
use Rattle.rail_laws_front.specs.Premises.{IsWellFormed}
use Rattle.rail_laws_front.specs.Views.{Follows}
use Rattle.rail_laws_front.specs.Views.Follows.{by_event, by_admission, by_hold, by_end}
use Rattle.rail_laws_front.specs.EventLines.{IsEvent}
use Rattle.rail_laws_front.specs.EventLines.IsEvent.{entering, arriving, freeing, leaving, readying}
use Rattle.rail_laws_front.proofs.CallerLemmas.{lawful_before, lawful_last, agree_added, enter_agrees, length_added, admission_of_other, event_admits_nothing, waiting_parts, waiting_known, same_entry_refl}
use Rattle.rail_laws_events.specs.Accounts.{tally, to_come}
use Rattle.rail_laws_events.proofs.CallerLemmas.{one_entry, few_admissions, written_is_event, enters_rise, one_enter}
use Rattle.rail_laws_step.specs.Heads.{IsHead, enters, is_before, next_move, next_step}
use Rattle.rail_laws_step.proofs.Coming.{to_come_from}

-- the order of the steps on a train's way
before_move : (m j n i : ℕ) → m < n → is_before m j n i ≡ true
before_move m j n i lt = or_left (ltb m n) (eqb m n && ltb j i) (lt-ltb m n lt)

before_step : (m j n i : ℕ) → m ≡ n → j < i → is_before m j n i ≡ true
before_step m j n i same lt = or_right (ltb m n) (eqb m n && ltb j i) (and_from (eqb m n) (ltb j i) (eq-eqb m n same) (lt-ltb j i lt))

before_cases : (m j n i : ℕ) → is_before m j n i ≡ true → (m < n) ⊎ ((m ≡ n) × (j < i))
before_cases m j n i h =
    ⊎_elim
    (λ less. inl (ltb-true m n less))
    (λ here. let both = and_parts (eqb m n) (ltb j i) here in inr (eqb-true m n both.0, ltb-true j i both.1))
    (or_cases (ltb m n) (eqb m n && ltb j i) h)

not_before : (m j n i : ℕ) → (m < n → ⊥) → (m ≡ n → j < i → ⊥) → is_before m j n i ≡ false
not_before m j n i no_move no_step =
    false_from_ne_true (is_before m j n i) (λ h. ⊎_elim no_move (λ both. no_step both.0 both.1) (before_cases m j n i h))

-- no train that the plant doesn't have is admitted
admitted_known : (input : Input) (front : Front) → is_lawful input front ≡ true → (t : ℕ) → 0 < place front t → t < trains input.plant
admitted_known input [] lawful t some = absurd (omega arith)
admitted_known input (line ∷ front) lawful t some =
    step (lawful_last input line front lawful)
    (λ same. admitted_known input front (lawful_before input line front lawful) t (omega (arith, some, ap length same)))
  where
    step : Follows input front line → (admissions (line ∷ front) t ≡ admissions front t → t < trains input.plant) → t < trains input.plant
    step (by_event happens) earlier = earlier (admissions_kept line front t (event_admits_nothing line.entry.what happens.event))
    step (by_hold u m why holds) earlier = earlier (admissions_kept line front t (ap is_admission holds.what))
    step (by_end ends) earlier = earlier (admissions_kept line front t (ap is_admission ends.what))
    step (by_admission u m note admits) earlier =
        ⊎_elim
        (λ same. let known = waiting_known input.plant u (place front u) (waiting_parts input front u admits.waiting).room in omega (arith, known, same))
        (λ other. earlier (admission_of_other line front u m note t admits.what other))
        (cases_eq t u)

within_moves : (input : Input) → IsWellFormed input.plant → (front : Front) → is_lawful input front ≡ true → (t m : ℕ) → m < place front t → m < moves input.plant t
within_moves input fine front lawful t m lt =
    omega (arith, lt, few_admissions input fine front lawful t (admitted_known input front lawful t (omega (arith, lt))))

-- at first nothing was entered
pub head_first : (plant : Plant) → IsWellFormed plant → (t : ℕ) → IsHead plant [] t 0 0
head_first plant fine t = record {
  reached = omega arith;
  within = λ some. fine.some_step t 0 some;
  first = λ _. refl;
  entered = λ m j lm lj. absurd (omega (arith, lm));
}

-- the next line by which the train enters a section is that of the head
pub next_enter : (input : Input) → IsWellFormed input.plant → (front : Front) → is_lawful input front ≡ true → (t n i m j : ℕ) → t < trains input.plant → IsHead input.plant front t n i → m < place front t → j < steps input.plant t m
    → stands front (enter_line input.plant t (admissions front t) m j) ≡ false
    → tally (λ d. enters t d.what && ltb d.at (enter input.plant t (admissions front t) m j)) (to_come input.plant front) ≡ 0
    → (m ≡ n) × (j ≡ i)
next_enter input fine front lawful t n i m j known head lm lj fresh least =
    let plant : Plant = input.plant in
    let adms : List ℕ = admissions front t in
    let behind : is_before m j n i ≡ true → ⊥ = λ is. false≢true (sym fresh ∙ head.entered m j lm lj ∙ is) in
    let after : (n < m) ⊎ ((n ≡ m) × (i ≤ j)) =
    ⊎_elim
    (λ less. inl less)
    (λ no_less. ⊎_elim
    (λ below. absurd (behind (before_move m j n i below)))
    (λ not_below.
    let same : m ≡ n = omega (arith, no_less, not_below) in
    ⊎_elim (λ under. absurd (behind (before_step m j n i same under))) (λ no_under. inr (sym same, no_under)) (cases_lt j i))
    (cases_lt m n))
    (cases_lt n m) in
    let ln : n < place front t = ⊎_elim (λ less. omega (arith, less, lm)) (λ both. omega (arith, both.0, lm)) after in
    let li : i < steps plant t n = head.within (within_moves input fine front lawful t n ln) in
    let open_head : stands front (enter_line plant t adms n i) ≡ false = head.entered n i ln li ∙ not_before n i n i (λ lt. absurd (omega (arith, lt))) (λ _ lt. absurd (omega (arith, lt))) in
    let no_earlier : enter plant t adms n i < enter plant t adms m j → ⊥ = λ earlier.
    let some = to_come_from plant front (λ d. enters t d.what && ltb d.at (enter plant t adms m j)) t (enter_line plant t adms n i) known (entering n i ln li refl) open_head
    (and_from (eqb t t) (ltb (enter plant t adms n i) (enter plant t adms m j)) (eq-eqb t t refl) (lt-ltb (enter plant t adms n i) (enter plant t adms m j) earlier)) in
    absurd (omega (arith, some, least)) in
    ⊎_elim
    (λ less. absurd (no_earlier (enters_rise plant fine t adms n i m j less (within_moves input fine front lawful t n ln) li)))
    (λ both.
    let P : ℕ → Type 0 = λ k. enter plant t adms k i ≤ enter plant t adms m j in
    let no_later : enter plant t adms n i ≤ enter plant t adms m j = subst P (sym both.0) (head_time-le plant t m (go plant t adms m) (passes plant t adms m) i j both.1) in
    one_enter plant fine t adms m j n i (within_moves input fine front lawful t m lm) (within_moves input fine front lawful t n ln) lj li
    (⊎_elim (λ earlier. absurd (no_earlier earlier)) (λ not_earlier. omega (arith, no_later, not_earlier)) (cases_lt (enter plant t adms n i) (enter plant t adms m j))))
    after

-- the step behind this one
next_within : (plant : Plant) (t n i : ℕ) → suc i < steps plant t n → (next_move plant t n i ≡ n) × (next_step plant t n i ≡ suc i)
next_within plant t n i lt =
    let more = lt-ltb (suc i) (steps plant t n) lt in
    (cond-true (ltb (suc i) (steps plant t n)) n (suc n) more, cond-true (ltb (suc i) (steps plant t n)) (suc i) 0 more)

next_behind : (plant : Plant) (t n i : ℕ) → steps plant t n ≤ suc i → (next_move plant t n i ≡ suc n) × (next_step plant t n i ≡ 0)
next_behind plant t n i le =
    let last = le-ltb (suc i) (steps plant t n) le in
    (cond-false (ltb (suc i) (steps plant t n)) n (suc n) last, cond-false (ltb (suc i) (steps plant t n)) (suc i) 0 last)

-- the step behind the last of these moves is the first of the next one
pub next_first : (plant : Plant) (t n i p : ℕ) → n < p → next_move plant t n i ≡ p → next_step plant t n i ≡ 0
next_first plant t n i p lt is =
    ⊎_elim
    (λ more. absurd (omega (arith, lt, is, (next_within plant t n i more).0)))
    (λ last. (next_behind plant t n i last).1)
    (cases_lt (suc i) (steps plant t n))

-- what comes before the step behind this one is this step and what comes before it
before_itself : (plant : Plant) (t n i : ℕ) → is_before n i (next_move plant t n i) (next_step plant t n i) ≡ true
before_itself plant t n i =
    ⊎_elim
    (λ lt. let goes_on = next_within plant t n i lt in (λ k. is_before n i (goes_on.0 k) (goes_on.1 k)) ∙ before_step n i n (suc i) refl (omega arith))
    (λ le. let goes_on = next_behind plant t n i le in (λ k. is_before n i (goes_on.0 k) (goes_on.1 k)) ∙ before_move n i (suc n) 0 (omega arith))
    (cases_lt (suc i) (steps plant t n))

before_other : (plant : Plant) (t n i m j : ℕ) → j < steps plant t m → (m ≡ n → j ≡ i → ⊥) → is_before m j n i ≡ is_before m j (next_move plant t n i) (next_step plant t n i)
before_other plant t n i m j lj other =
    ⊎_elim
    (λ lt.
    let goes_on = next_within plant t n i lt in
    both_ways (is_before m j n i) (is_before m j n (suc i))
    (λ h. ⊎_elim (λ less. before_move m j n (suc i) less) (λ both. before_step m j n (suc i) both.0 (omega (arith, both.1))) (before_cases m j n i h))
    (λ h. ⊎_elim (λ less. before_move m j n i less) (λ both. before_step m j n i both.0 (under both.0 (omega (arith, both.1)))) (before_cases m j n (suc i) h))
    ∙ sym (λ k. is_before m j (goes_on.0 k) (goes_on.1 k)))
    (λ le.
    let goes_on = next_behind plant t n i le in
    both_ways (is_before m j n i) (is_before m j (suc n) 0)
    (λ h. before_move m j (suc n) 0 (⊎_elim (λ less. omega (arith, less)) (λ both. omega (arith, both.0)) (before_cases m j n i h)))
    (λ h. ⊎_elim
    (λ less. ⊎_elim
    (λ below. before_move m j n i below)
    (λ not_below.
    let same : m ≡ n = omega (arith, less, not_below) in
    let P : ℕ → Type 0 = λ k. j < steps plant t k in
    before_step m j n i same (under same (omega (arith, le, subst P same lj))))
    (cases_lt m n))
    (λ both. absurd (omega (arith, both.1)))
    (before_cases m j (suc n) 0 h))
    ∙ sym (λ k. is_before m j (goes_on.0 k) (goes_on.1 k)))
    (cases_lt (suc i) (steps plant t n))
  where
    under : m ≡ n → j ≤ i → j < i
    under same le = ⊎_elim (λ lt. lt) (λ ge. absurd (other same (omega (arith, le, ge)))) (cases_lt j i)

-- a head by the admissions of its train
head_from : (plant : Plant) (front : Front) (t n i : ℕ) (adms : List ℕ) → admissions front t ≡ adms
    → n ≤ length adms → (n < moves plant t → i < steps plant t n) → (n ≡ length adms → i ≡ 0)
    → ((m j : ℕ) → m < length adms → j < steps plant t m
    → stands front (enter_line plant t adms m j) ≡ is_before m j n i)
    → IsHead plant front t n i
head_from plant front t n i adms same reached within first entered =
    let P : List ℕ → Type 0 = λ list. (m j : ℕ) → m < length list → j < steps plant t m → stands front (enter_line plant t list m j) ≡ is_before m j n i in
    record {
      reached = omega (arith, reached, ap length same);
      within = within;
      first = λ is. first (is ∙ ap length same);
      entered = subst P (sym same) entered;
    }

-- the line by which the head enters its step
pub head_enters : (input : Input) → IsWellFormed input.plant → (line : Line) (front : Front)
    → is_lawful input (line ∷ front) ≡ true → (t n i : ℕ) → n < place front t
    → line.entry ≡ enter_line input.plant t (admissions front t) n i → IsHead input.plant front t n i
    → IsHead input.plant (line ∷ front) t (next_move input.plant t n i) (next_step input.plant t n i)
head_enters input fine line front lawful t n i lt same head =
    let lawful_front = lawful_before input line front lawful in
    let li : i < steps plant t n = head.within (within_moves input fine front lawful_front t n lt) in
    head_from plant (line ∷ front) t (next_move plant t n i) (next_step plant t n i) adms
    (admissions_kept line front t (ap (λ (x : Entry). is_admission x.what) same))
    (next_reached (place front t) lt)
    next_fits
    (next_first plant t n i (length adms) lt)
    (λ m j lm lj. ⊎_elim
    (λ same_move. ⊎_elim
    (λ same_step.
    let Q : ℕ → ℕ → Type 0 = λ k l. stands (line ∷ front) (enter_line plant t adms k l) ≡ is_before k l (next_move plant t n i) (next_step plant t n i) in
    let here : Q n i = or_left (same_entry (enter_line plant t adms n i) line.entry) (stands front (enter_line plant t adms n i)) written_now ∙ sym (before_itself plant t n i) in
    subst (λ k. Q k j) (sym same_move) (subst (λ l. Q n l) (sym same_step) here))
    (λ other_step. elsewhere lawful_front li m j lm lj (λ _ e. other_step e))
    (cases_eq j i))
    (λ other_move. elsewhere lawful_front li m j lm lj (λ e _. other_move e))
    (cases_eq m n))
  where
    plant : Plant
    plant = input.plant

    adms : List ℕ
    adms = admissions front t

    written_now : same_entry (enter_line plant t adms n i) line.entry ≡ true
    written_now = let P : Entry → Type 0 = λ x. same_entry (enter_line plant t adms n i) x ≡ true in subst P (sym same) (same_entry_refl (enter_line plant t adms n i))

    elsewhere : is_lawful input front ≡ true → i < steps plant t n → (m j : ℕ) → m < length adms → j < steps plant t m → (m ≡ n → j ≡ i → ⊥) → stands (line ∷ front) (enter_line plant t adms m j) ≡ is_before m j (next_move plant t n i) (next_step plant t n i)
    elsewhere lawful_front li m j lm lj other =
        let e : Entry = enter_line plant t adms m j in
        let apart : same_entry e line.entry ≡ false =
        false_from_ne_true (same_entry e line.entry) (λ one.
        let times : enter plant t adms m j ≡ enter plant t adms n i = ap (λ (x : Entry). x.at) (one_entry e line.entry one ∙ same) in
        let both = one_enter plant fine t adms m j n i (within_moves input fine front lawful_front t m lm) (within_moves input fine front lawful_front t n lt) lj li times in
        other both.0 both.1) in
        ap (λ b. b || stands front e) apart ∙ head.entered m j lm lj ∙ before_other plant t n i m j lj other

    next_reached : (p : ℕ) → n < p → next_move plant t n i ≤ p
    next_reached p before =
        ⊎_elim
        (λ more. omega (arith, before, (next_within plant t n i more).0))
        (λ last. omega (arith, before, (next_behind plant t n i last).0))
        (cases_lt (suc i) (steps plant t n))

    next_fits : next_move plant t n i < moves plant t → next_step plant t n i < steps plant t (next_move plant t n i)
    next_fits room =
        let P : ℕ → ℕ → Type 0 = λ k l. l < steps plant t k in
        ⊎_elim
        (λ more.
        let goes_on = next_within plant t n i more in
        subst (λ k. P k (next_step plant t n i)) (sym goes_on.0) (subst (λ l. P n l) (sym goes_on.1) more))
        (λ last.
        let goes_on = next_behind plant t n i last in
        subst (λ k. P k (next_step plant t n i)) (sym goes_on.0) (subst (λ l. P (suc n) l) (sym goes_on.1) (fine.some_step t (suc n) (omega (arith, room, goes_on.0)))))
        (cases_lt (suc i) (steps plant t n))

-- no line of a move that isn't admitted stands
unentered : (input : Input) → IsWellFormed input.plant → (front : Front) → is_lawful input front ≡ true → (t m x time : ℕ) → place front t ≤ m → stands front (at_time time (Enter t (suc m) x)) ≡ false
unentered input fine front lawful t m x time past =
    let e : Entry = at_time time (Enter t (suc m) x) in
    false_from_ne_true (stands front e) (λ stood.
    let of = written_is_event input fine front lawful e stood refl in
    clash of.train of.event)
  where
    clash : (u : ℕ) → IsEvent input.plant u (admissions front u) false (at_time time (Enter t (suc m) x)) → ⊥
    clash u (entering k j lk lj is) =
        let what : Enter t (suc m) x ≡ Enter u (suc k) (step_section input.plant u k j) = ap (λ (y : Entry). y.what) is in
        let train : t ≡ u = cc in
        let move : m ≡ k = cc in
        omega (arith, past, lk, move, ap (place front) train)
    clash u (arriving k lk is) = let what : Enter t (suc m) x ≡ Arrive u (suc k) = ap (λ (y : Entry). y.what) is in cc
    clash u (freeing k j lk lj closed is) = let what : Enter t (suc m) x ≡ Free (step_section input.plant u k j) u = ap (λ (y : Entry). y.what) is in cc
    clash u (leaving k lk last is) = let what : Enter t (suc m) x ≡ Out u = ap (λ (y : Entry). y.what) is in cc
    clash u (readying k lk lmoves runs is) = let what : Enter t (suc m) x ≡ Ready u (suc k) = ap (λ (y : Entry). y.what) is in cc

-- a line that is no enter line of the train is none of its steps
no_step : (plant : Plant) (line : Line) (t m j : ℕ) (adms : List ℕ) → enters t line.entry.what ≡ false → same_entry (enter_line plant t adms m j) line.entry ≡ false
no_step plant line t m j adms other =
    let e : Entry = enter_line plant t adms m j in
    false_from_ne_true (same_entry e line.entry) (λ one.
    false≢true (sym other ∙ sym (ap (λ (x : Entry). enters t x.what) (one_entry e line.entry one)) ∙ eq-eqb t t refl))

-- any other line: what was entered stays, and nothing of a new move was entered; at its admission a head that has no admitted step ahead is at the first step of the new move
pub head_kept : (input : Input) → IsWellFormed input.plant → (line : Line) (front : Front) → is_lawful input (line ∷ front) ≡ true → (t n i : ℕ) → enters t line.entry.what ≡ false → IsHead input.plant front t n i → IsHead input.plant (line ∷ front) t n i
head_kept input fine line front lawful t n i other head =
    let plant : Plant = input.plant in
    let adms : List ℕ = admissions front t in
    let more : List ℕ = adms ++ line.entry.at ∷ [] in
    let behind : (e : Entry) → same_entry e line.entry ≡ false → stands (line ∷ front) e ≡ stands front e = λ e apart. ap (λ b. b || stands front e) apart in
    ⊎_elim
    (λ admitted.
    head_from plant (line ∷ front) t n i more (cond-true (admits t line.entry.what) more adms admitted) (omega (arith, head.reached, length_added adms line.entry.at)) head.within
    (λ is. absurd (omega (arith, is, head.reached, length_added adms line.entry.at)))
    (λ m j lm lj.
    behind (enter_line plant t more m j) (no_step plant line t m j more other)
    ∙ ⊎_elim
    (λ old.
    ap (λ time. stands front (at_time time (Enter t (suc m) (step_section plant t m j)))) (enter_agrees plant t more adms (length adms) m j (agree_added adms line.entry.at) old)
    ∙ head.entered m j old lj)
    (λ new.
    let last : m ≡ length adms = omega (arith, new, lm, length_added adms line.entry.at) in
    unentered input fine front (lawful_before input line front lawful) t m (step_section plant t m j) (enter plant t more m j) (omega (arith, new))
    ∙ sym (not_before m j n i
    (λ less. absurd (omega (arith, less, new, head.reached)))
    (λ same under. absurd (omega (arith, under, head.first (sym same ∙ last))))))
    (cases_lt m (length adms))))
    (λ idle.
    head_from plant (line ∷ front) t n i adms (cond-false (admits t line.entry.what) more adms idle) head.reached head.within head.first
    (λ m j lm lj. behind (enter_line plant t adms m j) (no_step plant line t m j adms other) ∙ head.entered m j lm lj))
    (cases_Bool (admits t line.entry.what))
