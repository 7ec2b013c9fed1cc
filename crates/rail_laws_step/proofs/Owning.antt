-- The overlap of a train's last admitted move, and that admissions come in order.
use Rattle.std.proofs.Common.{◌≡◌, ℕ, zero, suc, ◌+◌, ◌-◌, ◌<◌, ◌≤◌, Bool, true, ◌&&◌, eqb, List, [], ◌∷◌, ◌++◌, length, get_or, refl, sym, ap, ◌∙◌, subst, ⊎_elim, arith}
use Rattle.std.proofs.lemmas.Bool.{and_from, cases_Bool, cases_eq, cases_lt, not-true, cond-true, eqb-true, eq-eqb, false≢true, or_cases, or_right}
use Rattle.std.proofs.lemmas.List.{get_or-append-add, get_or-append_right}
use Rattle.rail_rules.specs.Numbers.{is_in}
use Rattle.rail_rules.specs.Plant.{Plant, needed, overlap, steps, claims, step_section}
use Rattle.rail_rules.specs.Fronts.{Front, admissions, instant, is_admission}
use Rattle.rail_rules.specs.Orders.{Input}
use Rattle.rail_rules.specs.Times.{admitted}
use Rattle.rail_rules.specs.Intervals.{barring, end_time, has_interval, is_taken_over}
use Rattle.rail_rules.specs.Apart.{IsStep}
use Rattle.rail_rules.specs.Lawful.{is_lawful}
use Rattle.rail_rules.proofs.CallerLemmas.{admissions_kept, claims_are, end_taken, is_in-head, taken_parts}
use Rattle.rail_laws_front.specs.Premises.{IsWellFormed}
use Rattle.rail_laws_front.specs.Views.{Follows}
use Rattle.rail_laws_front.specs.Views.Follows.{by_event, by_admission, by_hold, by_end}
use Rattle.rail_laws_front.specs.Invariant.{IsTimely}
use Rattle.rail_laws_front.proofs.CallerLemmas.{lawful_before, lawful_last, admission_added, admission_of_other, event_admits_nothing, admitted_added, agree_added, end_after_begin, length_added, timely}
use Rattle.rail_laws_events.proofs.CallerLemmas.{few_admissions}
use Rattle.rail_laws_step.specs.HolderTables.{own_overlap}

-- of its own last admitted move, the needed sections alone bar a train
pub own_barring : (plant : Plant) (t made m i : ℕ) → suc m ≡ made → i < barring plant t t made m → i < steps plant t m
own_barring plant t made m i last lt =
    let P : ℕ → Type 0 = λ n. i < n in
    subst P (cond-true (eqb t t && eqb (suc m) made) (steps plant t m) (claims plant t m) (and_from (eqb t t) (eqb (suc m) made) (eq-eqb t t refl) (eq-eqb (suc m) made last))) lt

-- a section of the own overlap is that of a step behind the needed ones of the last admitted move
pub record IsOwnStep (plant : Plant) (t made x : ℕ) : Type 0 where
  pub move : ℕ
  pub step : ℕ
  pub last : suc move ≡ made
  pub over : steps plant t move ≤ step
  pub claimed : step < claims plant t move
  pub section : step_section plant t move step ≡ x

find_in : (x : ℕ) (xs : List ℕ) → is_in x xs ≡ true → (j : ℕ) × (j < length xs) × (get_or xs j 0 ≡ x)
find_in x [] is = absurd (false≢true is)
find_in x (y ∷ ys) is =
    ⊎_elim
    (λ same. (0, omega arith, eqb-true y x same))
    (λ later. let found = find_in x ys later in (suc found.0, omega (arith, found.1), found.2))
    (or_cases (eqb y x) (is_in x ys) is)

listed_in : (xs : List ℕ) (i : ℕ) → i < length xs → is_in (get_or xs i 0) xs ≡ true
listed_in [] i lt = absurd (omega (arith, lt))
listed_in (x ∷ xs) zero lt = is_in-head x xs
listed_in (x ∷ xs) (suc i) lt = or_right (eqb x (get_or xs i 0)) (is_in (get_or xs i 0) xs) (listed_in xs i (omega (arith, lt)))

pub own_step : (plant : Plant) (t made x : ℕ) → is_in x (own_overlap plant t made) ≡ true → IsOwnStep plant t made x
own_step plant t zero x there = absurd (false≢true there)
own_step plant t (suc m) x there =
    let found = find_in x (overlap plant t m) there in
    record {
      move = m;
      step = steps plant t m + found.0;
      last = refl;
      over = omega arith;
      claimed = omega (arith, found.1, claims_are plant t m);
      section = get_or-append-add (needed plant t m) (overlap plant t m) found.0 0 ∙ found.2;
    }

pub step_own : (plant : Plant) (t made m j : ℕ) → suc m ≡ made → steps plant t m ≤ j → j < claims plant t m → is_in (step_section plant t m j) (own_overlap plant t made) ≡ true
step_own plant t made m j last over lj =
    let P : ℕ → Type 0 = λ k. is_in (step_section plant t m j) (own_overlap plant t k) ≡ true in
    let Q : ℕ → Type 0 = λ x. is_in x (overlap plant t m) ≡ true in
    subst P last (subst Q (sym (get_or-append_right (needed plant t m) (overlap plant t m) (steps plant t m) j 0 refl over))
    (listed_in (overlap plant t m) (j - steps plant t m) (omega (arith, over, lj, claims_are plant t m))))

-- the admissions of a train come in the order of its moves
pub admissions_rise : (input : Input) → IsWellFormed input.plant → (front : Front) → is_lawful input front ≡ true → (t n m : ℕ) → n ≤ m → m < length (admissions front t) → admitted (admissions front t) n ≤ admitted (admissions front t) m
admissions_rise input fine [] lawful t n m le lm = absurd (omega (arith, lm))
admissions_rise input fine (line ∷ front) lawful t n m le lm =
    step (λ lt. admissions_rise input fine front (lawful_before input line front lawful) t n m le lt) (lawful_last input line front lawful)
  where
    same_as_before : (m < length (admissions front t) → admitted (admissions front t) n ≤ admitted (admissions front t) m) → admissions (line ∷ front) t ≡ admissions front t → admitted (admissions (line ∷ front) t) n ≤ admitted (admissions (line ∷ front) t) m
    same_as_before before same =
        let P : List ℕ → Type 0 = λ adms. m < length adms → admitted adms n ≤ admitted adms m in
        subst P (sym same) before lm

    added : (m < length (admissions front t) → admitted (admissions front t) n ≤ admitted (admissions front t) m) → (a : ℕ) → instant front ≤ a → admissions (line ∷ front) t ≡ admissions front t ++ a ∷ [] → admitted (admissions (line ∷ front) t) n ≤ admitted (admissions (line ∷ front) t) m
    added before a now grown =
        let adms : List ℕ = admissions front t in
        let time : IsTimely input front = timely input fine front (lawful_before input line front lawful) in
        let P : List ℕ → Type 0 = λ list. m < length list → admitted list n ≤ admitted list m in
        subst P (sym grown) (λ lt.
        ⊎_elim
        (λ old. omega (arith, before old, (agree_added adms a).same m old, (agree_added adms a).same n (omega (arith, old, le))))
        (λ new.
        let last : m ≡ length adms = omega (arith, new, lt, length_added adms a) in
        let at : admitted (adms ++ a ∷ []) m ≡ a = ap (admitted (adms ++ a ∷ [])) last ∙ admitted_added adms a in
        ⊎_elim
        (λ earlier. omega (arith, at, (agree_added adms a).same n earlier, time.admitted_by t n earlier, now))
        (λ same. let here : n ≡ m = omega (arith, same, le, last) in omega (arith, ap (admitted (adms ++ a ∷ [])) here))
        (cases_lt n (length adms)))
        (cases_lt m (length adms))) lm

    step : (m < length (admissions front t) → admitted (admissions front t) n ≤ admitted (admissions front t) m) → Follows input front line → admitted (admissions (line ∷ front) t) n ≤ admitted (admissions (line ∷ front) t) m
    step before (by_event happens) = same_as_before before (admissions_kept line front t (event_admits_nothing line.entry.what happens.event))
    step before (by_hold u k why holds) = same_as_before before (admissions_kept line front t (ap is_admission holds.what))
    step before (by_end ends) = same_as_before before (admissions_kept line front t (ap is_admission ends.what))
    step before (by_admission u k note admits) =
        ⊎_elim
        (λ same.
        let S : ℕ → Type 0 = λ v. admissions (line ∷ front) v ≡ admissions front v ++ line.entry.at ∷ [] in
        added before line.entry.at (omega (arith, admits.now)) (subst S (sym same) (admission_added line front u k note admits.what)))
        (λ other. same_as_before before (admission_of_other line front u k note t admits.what other))
        (cases_eq t u)

-- an interval that there is isn't empty
pub interval_lasts : (input : Input) → IsWellFormed input.plant → (front : Front) → is_lawful input front ≡ true → (t m j : ℕ) → IsStep input.plant front t m j
    → has_interval input.plant t (admissions front t) m j ≡ true → admitted (admissions front t) m < end_time input.plant t (admissions front t) m j
interval_lasts input fine front lawful t m j step there =
    let adms : List ℕ = admissions front t in
    let taken : Bool = is_taken_over input.plant t adms m j in
    let at_once : Bool = eqb (admitted adms (suc m)) (admitted adms m) in
    ⊎_elim
    (λ gone.
    let parts = taken_parts input.plant t adms m j gone in
    let apart : admitted adms (suc m) ≡ admitted adms m → ⊥ = λ same. false≢true (sym (not-true (taken && at_once) there) ∙ and_from taken at_once gone (eq-eqb (admitted adms (suc m)) (admitted adms m) same)) in
    ⊎_elim
    (λ lt. omega (arith, lt, end_taken input.plant t adms m j gone))
    (λ ge. absurd (apart (omega (arith, ge, admissions_rise input fine front lawful t m (suc m) (omega arith) parts.more))))
    (cases_lt (admitted adms m) (admitted adms (suc m))))
    (λ still. end_after_begin input.plant t fine adms m j (omega (arith, step.admitted_move, few_admissions input fine front lawful t step.known)) still)
    (cases_Bool taken)
