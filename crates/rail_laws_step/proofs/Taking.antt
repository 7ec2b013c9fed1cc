-- The table of holders after an admission.
use Rattle.std.proofs.Common.{◌≡◌, ℕ, zero, suc, ◌+◌, ◌<◌, ◌≤◌, Bool, true, false, not, ◌&&◌, ◌||◌, cond, eqb, leb, ltb, List, [], ◌∷◌, ◌++◌, length, get_or, Option, Some, None, refl, sym, ap, ◌∙◌, subst, ⊎_elim, arith}
use Rattle.std.specs.List.{list_all}
use Rattle.std.proofs.lemmas.Bool.{and_from, and_left, and_right, and_parts, cases_Bool, cases_lt, cases_eq, cond-true, cond-false, eqb-true, eq-eqb, ne_eqb, ltb-true, false≢true, le-leb, or_cases, or_right, not_from_true, not_from_false, lt-ltb}
use Rattle.rail_base.specs.declared.history.Note.{Note}
use Rattle.rail_rules.specs.Accepted.{is_accepted}
use Rattle.rail_base.specs.declared.history.Entry.{Entry}
use Rattle.rail_base.specs.declared.history.What.TheVariants.{Free}
use Rattle.rail_rules.specs.Events.{free_lines}
use Rattle.rail_rules.specs.Numbers.{any_below, gather, is_in, sum_below}
use Rattle.rail_rules.specs.Orders.{Input}
use Rattle.rail_rules.specs.Plant.{Plant, move_row, moves, overlap, claimed, steps, claims, step_section, trains}
use Rattle.rail_rules.specs.Fronts.{Front, Line, admissions, at_time, instant}
use Rattle.rail_rules.specs.Times.{admitted, go, passes}
use Rattle.rail_rules.specs.Intervals.{blocks, contains_instant, end_time, freed_at, is_open, is_taken_over, is_unfreed, timer_end}
use Rattle.rail_rules.specs.Apart.{IsStep}
use Rattle.rail_rules.specs.Causes.{place}
use Rattle.rail_rules.specs.Lawful.{is_lawful}
use Rattle.rail_rules.proofs.CallerLemmas.{accepted_parts, move_in_range, row_in_range, any_below_at, any_below_from, claims_are, end_timed, freed_from, gather_same, last_not_taken, needed_not_taken, taken_from, taken_parts}
use Rattle.rail_laws_front.specs.Premises.{IsWellFormed}
use Rattle.rail_laws_front.specs.Views.{Admits}
use Rattle.rail_laws_front.specs.Invariant.{IsTimely}
use Rattle.rail_laws_front.proofs.CallerLemmas.{well_formed_from_accepted, length_added, admitted_added, agree_added, taken_agrees, admission_added, admission_of_other, arrives_passing, arrives_stopping, claimed_step, end_kept, go_after_admission, over_not_open, passes_before_stop, passes_unadmitted, step_claimed, stop_agrees, timely, waiting_parts, waiting_known}
use Rattle.rail_laws_events.specs.Accounts.{is_train_event, tally, written}
use Rattle.rail_laws_events.specs.Changes.{overlap_frees}
use Rattle.rail_laws_step.specs.HolderTables.{AreHolders, bar_holder, frees, frees_for, is_train, own_overlap, taken, taken_by}
use Rattle.rail_laws_step.proofs.Amounts.{sum-equal, sum-only, sum-zero}
use Rattle.rail_laws_step.proofs.Blocking.{blocks_is, own_contains}
use Rattle.rail_laws_step.proofs.HoldersKept.{is_one, one_line, taken_in, taken_long, taken_out, written_after}
use Rattle.rail_laws_step.proofs.Owning.{own_step}

-- a number of the list passes where all do
all_of : (p : ℕ → Bool) (xs : List ℕ) (y : ℕ) → list_all p xs ≡ true → is_in y xs ≡ true → p y ≡ true
all_of p [] y all there = absurd (false≢true there)
all_of p (z ∷ zs) y all there =
    let both = and_parts (p z) (list_all p zs) all in
    ⊎_elim
    (λ here. subst (λ w. p w ≡ true) (eqb-true z y here) both.0)
    (λ later. all_of p zs y both.1 later)
    (or_cases (eqb z y) (is_in y zs) there)

-- the claimed sections are known
in_range : (plant : Plant) → is_accepted plant ≡ true → (t m : ℕ) → m < moves plant t → t < trains plant → (x : ℕ) → is_in x (claimed plant t m) ≡ true → x < length plant.tables.sections
in_range plant accepted t m lt known x there =
    let row = row_in_range plant (accepted_parts plant accepted).trains_in_range t known in
    let move = move_in_range (length plant.tables.sections) (move_row plant t m) (row.each_move m lt) in
    ltb-true x (length plant.tables.sections) (all_of (λ y. ltb y (length plant.tables.sections)) (claimed plant t m) x move.known there)

-- how often a move of a train took the section, without what the next move took over
abbrev took : Plant → ℕ → List ℕ → ℕ → ℕ → ℕ
took plant t adms x m = sum_below (λ j. cond (eqb (step_section plant t m j) x && not (is_taken_over plant t adms m j)) 1 0) (claims plant t m)

one_if : (a b : Bool) → a ≡ true → b ≡ true → ◌≡◌ {A = ℕ} (cond (a && b) 1 0) 1
one_if a b ha hb = cond-true {A = ℕ} (a && b) 1 0 (and_from a b ha hb)

none_first : (a b : Bool) → a ≡ false → ◌≡◌ {A = ℕ} (cond (a && b) 1 0) 0
none_first a b ha = cond-false {A = ℕ} (a && b) 1 0 (and_left a b ha)

none_second : (a b : Bool) → b ≡ false → ◌≡◌ {A = ℕ} (cond (a && b) 1 0) 0
none_second a b hb = cond-false {A = ℕ} (a && b) 1 0 (and_right a b hb)

module _ (plant : Plant) (fine : IsWellFormed plant) (t : ℕ) (adms : List ℕ) (m : ℕ) (room : m < moves plant t) (x : ℕ) where
  -- a section that isn't claimed isn't taken
  took_none : is_in x (claimed plant t m) ≡ false → took plant t adms x m ≡ 0
  took_none not_there =
      sum-zero (λ j. cond (eqb (step_section plant t m j) x && not (is_taken_over plant t adms m j)) 1 0) (claims plant t m)
      (λ j lj. none_first (eqb (step_section plant t m j) x) (not (is_taken_over plant t adms m j))
      (ne_eqb (step_section plant t m j) x (λ e. let P : ℕ → Type 0 = λ y. is_in y (claimed plant t m) ≡ true in false≢true (sym not_there ∙ subst P e (step_claimed plant t m j lj)))))

  -- one that is claimed counts at its step alone
  took_at : (j : ℕ) → j < claims plant t m → step_section plant t m j ≡ x → took plant t adms x m ≡ cond (not (is_taken_over plant t adms m j)) 1 0
  took_at j lj is =
      sum-only (λ i. cond (eqb (step_section plant t m i) x && not (is_taken_over plant t adms m i)) 1 0) (claims plant t m) j lj
      (λ i li other. none_first (eqb (step_section plant t m i) x) (not (is_taken_over plant t adms m i)) (ne_eqb (step_section plant t m i) x (λ e. other (fine.distinct t m i j room li lj (e ∙ sym is)))))
      ∙ ap {B = ℕ} (λ b. cond (b && not (is_taken_over plant t adms m j)) 1 0) (eq-eqb (step_section plant t m j) x is)

  took_last : length adms ≤ suc m → took plant t adms x m ≡ cond (is_in x (claimed plant t m)) 1 0
  took_last last =
      ⊎_elim
      (λ there.
      let found = claimed_step plant t m x there in
      took_at found.0 found.1 found.2
      ∙ cond-true {A = ℕ} (not (is_taken_over plant t adms m found.0)) 1 0 (not_from_false (is_taken_over plant t adms m found.0) (last_not_taken plant t adms m found.0 last))
      ∙ sym (cond-true {A = ℕ} (is_in x (claimed plant t m)) 1 0 there))
      (λ not_there. took_none not_there ∙ sym (cond-false {A = ℕ} (is_in x (claimed plant t m)) 1 0 not_there))
      (cases_Bool (is_in x (claimed plant t m)))

-- what an admission at a decision changes, where no holder of a section that the move claims bars its train
module _ (input : Input) (accepted : is_accepted input.plant ≡ true) (line : Line) (front : Front) (lawful : is_lawful input front ≡ true)
    (t m : ℕ) (note : Note) (admits : Admits input front line t m note) (h : List (Option ℕ)) (are : AreHolders input.plant front h)
    (free : (x : ℕ) → is_in x (claimed input.plant t (place front t)) ≡ true → bar_holder h t (own_overlap input.plant t (place front t)) x ≡ None)
  where
    abbrev plant : Plant
    plant = input.plant

    abbrev adms : List ℕ
    adms = admissions front t

    abbrev more : List ℕ
    more = admissions front t ++ line.entry.at ∷ []

    room : place front t < moves input.plant t
    room = (waiting_parts input front t admits.waiting).room

    known : t < trains input.plant
    known = waiting_known input.plant t (place front t) room

    fine : IsWellFormed input.plant
    fine = well_formed_from_accepted input.plant accepted

    time : IsTimely input front
    time = timely input fine front lawful

    -- the train holds the section already, and takes it over
    own_taken : ℕ → Bool
    own_taken x = is_train t (get_or h x None) && is_in x (claimed input.plant t (place front t))

    -- who holds a claimed section: nobody, or the train itself where it is one of its own overlap
    unheld : (x : ℕ) → is_in x (claimed input.plant t (place front t)) ≡ true → is_train t (get_or h x None) ≡ false → get_or h x None ≡ None
    unheld x there none =
        let own : Bool = is_in x (own_overlap input.plant t (place front t)) in
        sym (cond-false (is_train t (get_or h x None) && own) None (get_or h x None) (and_left (is_train t (get_or h x None)) own none)) ∙ free x there

    own_there : (x : ℕ) → is_in x (claimed input.plant t (place front t)) ≡ true → is_train t (get_or h x None) ≡ true → is_in x (own_overlap input.plant t (place front t)) ≡ true
    own_there x there held =
        let own : Bool = is_in x (own_overlap input.plant t (place front t)) in
        ⊎_elim
        (λ is. is)
        (λ isnt.
        let none : get_or h x None ≡ None = sym (cond-false (is_train t (get_or h x None) && own) None (get_or h x None) (and_right (is_train t (get_or h x None)) own isnt)) ∙ free x there in
        absurd (false≢true (sym (ap (is_train t) none) ∙ held)))
        (cases_Bool own)

    -- a section of the own overlap that the table says the train holds is taken over
    taken_now : (k j : ℕ) → IsStep input.plant front t k j → suc k ≡ place front t → steps input.plant t k ≤ j
        → is_in (step_section input.plant t k j) (claimed input.plant t (place front t)) ≡ true
        → is_train t (get_or h (step_section input.plant t k j) None) ≡ true
        → is_taken_over input.plant t (admissions front t ++ line.entry.at ∷ []) k j ≡ true
    taken_now k j step last over there held =
        let deciding = (waiting_parts input front t admits.waiting).deciding in
        let a : ℕ = line.entry.at in
        let contains = own_contains input accepted front lawful deciding h are t k j step last over (blocks_is input accepted front lawful deciding h are t (step_section input.plant t k j) known ∙ held) in
        let going : suc k ≡ moves input.plant t → ⊥ = λ e. omega (arith, e, last, room) in
        let running = (and_parts _ _ contains).1 in
        let before : instant front < end_time input.plant t adms k j =
        ⊎_elim
        (λ opens. absurd (false≢true (sym (over_not_open input.plant fine t k j over step.step adms) ∙ opens)))
        (λ lt. ltb-true (instant front) (end_time input.plant t adms k j) lt)
        (or_cases (is_open input.plant t adms k j) (ltb (instant front) (end_time input.plant t adms k j)) running) in
        let ends : end_time input.plant t adms k j ≡ timer_end input.plant t adms k = end_timed input.plant t adms k j over (last_not_taken input.plant t adms k j (omega (arith, last))) in
        let P : ℕ → Type 0 = λ i. admitted more i ≡ a in
        let at : admitted more (suc k) ≡ a = subst P (sym last) (admitted_added adms a) in
        let timer : a < timer_end input.plant t more k =
        ⊎_elim
        (λ passing.
        let Q : ℕ → Type 0 = λ i. admitted more i < go input.plant t more i in
        omega (arith, arrives_passing input.plant t more k going passing, at, subst Q (sym last) (go_after_admission input.plant t fine more (place front t) room)))
        (λ stopping.
        omega (
          arith,
          admits.now,
          before,
          ends,
          arrives_stopping input.plant t more k going stopping,
          stop_agrees input.plant t more adms (length adms) k (agree_added adms a) step.admitted_move,
          arrives_stopping input.plant t adms k going (passes_unadmitted input.plant t adms (suc k) (omega (arith, last))),
        ))
        (cases_Bool (passes input.plant t more (suc k))) in
        let R : ℕ → Type 0 = λ i. is_in (step_section input.plant t k j) (claimed input.plant t i) ≡ true in
        taken_from input.plant t more k j (record {
          over = over;
          more = omega (arith, last, length_added adms a);
          claiming = subst R (sym last) there;
          before = omega (arith, at, timer);
        })

    -- and one that nobody holds isn't
    untaken_now : (k j : ℕ) → IsStep input.plant front t k j → suc k ≡ place front t
        → get_or h (step_section input.plant t k j) None ≡ None
        → is_taken_over input.plant t (admissions front t ++ line.entry.at ∷ []) k j ≡ false
    untaken_now k j step last none =
        ⊎_elim
        (λ need. needed_not_taken input.plant t more k j need)
        (λ over.
        let deciding = (waiting_parts input front t admits.waiting).deciding in
        let x : ℕ = step_section input.plant t k j in
        let no_block : blocks input.plant t adms x (instant front) ≡ false = blocks_is input accepted front lawful deciding h are t x known ∙ ap (is_train t) none in
        let inner : ℕ → ℕ → Bool = λ n i. eqb (step_section input.plant t n i) x && contains_instant input.plant t adms n i (instant front) in
        let out : inner k j ≡ false = any_below_at (inner k) (claims input.plant t k) j (any_below_at (λ n. any_below (inner n) (claims input.plant t n)) (length adms) k no_block step.admitted_move) step.step in
        let closed : is_open input.plant t adms k j ≡ false = over_not_open input.plant fine t k j over step.step adms in
        let past : end_time input.plant t adms k j ≤ line.entry.at =
        ⊎_elim
        (λ later.
        absurd (false≢true (sym out ∙ and_from (eqb x x) (contains_instant input.plant t adms k j (instant front)) (eq-eqb x x refl)
        (and_from _ _ (le-leb (admitted adms k) (instant front) (time.admitted_by t k step.admitted_move))
        (or_right (is_open input.plant t adms k j) (ltb (instant front) (end_time input.plant t adms k j)) (lt-ltb (instant front) (end_time input.plant t adms k j) later))))))
        (λ over_now. omega (arith, admits.now, over_now))
        (cases_lt (instant front) (end_time input.plant t adms k j)) in
        (end_kept input.plant t fine adms line.entry.at k j room step.admitted_move step.step closed past).taken ∙ last_not_taken input.plant t adms k j (omega (arith, last)))
        (cases_lt j (steps input.plant t k))

    -- a section of the own overlap is taken over exactly where the move claims it and the table says that the train holds it
    pub taken_over_is : (k j : ℕ) → IsStep input.plant front t k j → suc k ≡ place front t → steps input.plant t k ≤ j
        → is_taken_over input.plant t (admissions front t ++ line.entry.at ∷ []) k j
        ≡ (is_in (step_section input.plant t k j) (claimed input.plant t (place front t)) && is_train t (get_or h (step_section input.plant t k j) None))
    taken_over_is k j step last over =
        let x : ℕ = step_section input.plant t k j in
        let next : Bool = is_in x (claimed input.plant t (place front t)) in
        let held : Bool = is_train t (get_or h x None) in
        ⊎_elim
        (λ there. ⊎_elim
        (λ is_held. taken_now k j step last over there is_held ∙ sym (and_from next held there is_held))
        (λ not_held. untaken_now k j step last (unheld x there not_held) ∙ sym (and_right next held not_held))
        (cases_Bool held))
        (λ not_there.
        ⊎_elim
        (λ gone.
        let Z : ℕ → Type 0 = λ n. is_in x (claimed input.plant t n) ≡ true in
        absurd (false≢true (sym not_there ∙ subst Z last (taken_parts input.plant t more k j gone).claiming)))
        (λ no. no ∙ sym (and_left next held not_there))
        (cases_Bool (is_taken_over input.plant t more k j)))
        (cases_Bool next)

    -- a train that passes still holds its whole own overlap
    pub passing_holds : (k j : ℕ) → IsStep input.plant front t k j → suc k ≡ place front t → steps input.plant t k ≤ j
        → passes input.plant t (admissions front t ++ line.entry.at ∷ []) (suc k) ≡ true
        → is_train t (get_or h (step_section input.plant t k j) None) ≡ true
    passing_holds k j step last over passing =
        let deciding = (waiting_parts input front t admits.waiting).deciding in
        let x : ℕ = step_section input.plant t k j in
        let inner : ℕ → ℕ → Bool = λ n i. eqb (step_section input.plant t n i) x && contains_instant input.plant t adms n i (instant front) in
        let going : suc k ≡ moves input.plant t → ⊥ = λ e. omega (arith, e, last, room) in
        let P : ℕ → Type 0 = λ i. admitted more i ≡ line.entry.at in
        let at : admitted more (suc k) ≡ line.entry.at = subst P (sym last) (admitted_added adms line.entry.at) in
        let later : instant front < end_time input.plant t adms k j = omega (
          arith,
          admits.now,
          at,
          passes_before_stop input.plant t fine more k (omega (arith, last, room)) passing,
          stop_agrees input.plant t more adms (length adms) k (agree_added adms line.entry.at) step.admitted_move,
          arrives_stopping input.plant t adms k going (passes_unadmitted input.plant t adms (suc k) (omega (arith, last))),
          end_timed input.plant t adms k j over (last_not_taken input.plant t adms k j (omega (arith, last))),
        ) in
        let contains : contains_instant input.plant t adms k j (instant front) ≡ true =
        and_from (leb (admitted adms k) (instant front)) (is_open input.plant t adms k j || ltb (instant front) (end_time input.plant t adms k j))
        (le-leb (admitted adms k) (instant front) (time.admitted_by t k step.admitted_move))
        (or_right (is_open input.plant t adms k j) (ltb (instant front) (end_time input.plant t adms k j)) (lt-ltb (instant front) (end_time input.plant t adms k j) later)) in
        let some : blocks input.plant t adms x (instant front) ≡ true =
        any_below_from (λ n. any_below (inner n) (claims input.plant t n)) (length adms) k step.admitted_move
        (any_below_from (inner k) (claims input.plant t k) j step.step (and_from (eqb x x) (contains_instant input.plant t adms k j (instant front)) (eq-eqb x x refl) contains)) in
        sym (blocks_is input accepted front lawful deciding h are t x known) ∙ some

    -- so the free lines of the own overlap are those of the sections that aren't taken over, at the end of the timer
    pub overlap_frees_after : (k : ℕ) → suc k ≡ place front t
        → overlap_frees input.plant t (admissions front t ++ line.entry.at ∷ []) k
        ≡ gather (λ i. cond
        (is_in (step_section input.plant t k (steps input.plant t k + i)) (claimed input.plant t (place front t))
        && is_train t (get_or h (step_section input.plant t k (steps input.plant t k + i)) None))
        []
        (at_time (timer_end input.plant t (admissions front t ++ line.entry.at ∷ []) k) (Free (step_section input.plant t k (steps input.plant t k + i)) t) ∷ []))
        (length (overlap input.plant t k))
    overlap_frees_after k last =
        gather_same (λ i. free_lines t (step_section input.plant t k (steps input.plant t k + i)) (freed_at input.plant t more k (steps input.plant t k + i)))
        (λ i. cond
        (is_in (step_section input.plant t k (steps input.plant t k + i)) (claimed input.plant t (place front t))
        && is_train t (get_or h (step_section input.plant t k (steps input.plant t k + i)) None))
        []
        (at_time (timer_end input.plant t more k) (Free (step_section input.plant t k (steps input.plant t k + i)) t) ∷ []))
        (length (overlap input.plant t k))
        (λ i li. one_free (steps input.plant t k + i) (omega arith) (omega (arith, li, claims_are input.plant t k)))
      where
        one_free : (j : ℕ) → steps input.plant t k ≤ j → j < claims input.plant t k
            → free_lines t (step_section input.plant t k j) (freed_at input.plant t (admissions front t ++ line.entry.at ∷ []) k j)
            ≡ cond
            (is_in (step_section input.plant t k j) (claimed input.plant t (place front t)) && is_train t (get_or h (step_section input.plant t k j) None))
            []
            (at_time (timer_end input.plant t (admissions front t ++ line.entry.at ∷ []) k) (Free (step_section input.plant t k j) t) ∷ [])
        one_free j over lj =
            let x : ℕ = step_section input.plant t k j in
            let step : IsStep input.plant front t k j = record { known = known; admitted_move = omega (arith, last); step = lj } in
            let is = taken_over_is k j step last over in
            let line_at : ℕ → List Entry = λ at. at_time at (Free x t) ∷ [] in
            let closed : is_open input.plant t more k j ≡ false = over_not_open input.plant fine t k j over lj more in
            ⊎_elim
            (λ gone.
            ap (free_lines t x) (cond-true (is_unfreed input.plant t more k j) None (Some (end_time input.plant t more k j)) (or_right (is_open input.plant t more k j) (is_taken_over input.plant t more k j) gone))
            ∙ sym (cond-true _ [] (line_at (timer_end input.plant t more k)) (sym is ∙ gone)))
            (λ still.
            ap (free_lines t x) (cond-false (is_unfreed input.plant t more k j) None (Some (end_time input.plant t more k j)) (freed_from input.plant t more k j closed still))
            ∙ ap line_at (end_timed input.plant t more k j over still)
            ∙ sym (cond-false _ [] (line_at (timer_end input.plant t more k)) (sym is ∙ still)))
            (cases_Bool (is_taken_over input.plant t more k j))

    -- of the last admitted move, what it took and isn't taken over now
    last_took : (k x : ℕ) → suc k ≡ place front t → took input.plant t (admissions front t ++ line.entry.at ∷ []) x k + cond (own_taken x) 1 0 ≡ took input.plant t (admissions front t) x k
    unfolding own_taken
    last_took k x last =
        let lk : k < moves input.plant t = omega (arith, last, room) in
        let held : Bool = is_train t (get_or h x None) in
        let next : Bool = is_in x (claimed input.plant t (place front t)) in
        ⊎_elim
        (λ there.
        let found = claimed_step input.plant t k x there in
        let j : ℕ = found.0 in
        let step : IsStep input.plant front t k j = record { known = known; admitted_move = omega (arith, last); step = found.1 } in
        let before : took input.plant t adms x k ≡ cond (not (is_taken_over input.plant t adms k j)) 1 0 = took_at input.plant fine t adms k lk x j found.1 found.2 in
        let now : took input.plant t more x k ≡ cond (not (is_taken_over input.plant t more k j)) 1 0 = took_at input.plant fine t more k lk x j found.1 found.2 in
        let one_before : ◌≡◌ {A = ℕ} (cond (not (is_taken_over input.plant t adms k j)) 1 0) 1 = cond-true {A = ℕ} (not (is_taken_over input.plant t adms k j)) 1 0 (not_from_false (is_taken_over input.plant t adms k j) (last_not_taken input.plant t adms k j (omega (arith, last)))) in
        let untaken : is_taken_over input.plant t more k j ≡ false → (held && next) ≡ false → took input.plant t more x k + cond (held && next) 1 0 ≡ took input.plant t adms x k = λ still no_own.
        omega (arith, before, now, one_before, cond-true {A = ℕ} (not (is_taken_over input.plant t more k j)) 1 0 (not_from_false (is_taken_over input.plant t more k j) still), cond-false {A = ℕ} (held && next) 1 0 no_own) in
        ⊎_elim
        (λ is_claimed. ⊎_elim
        (λ is_held.
        let own = own_step input.plant t (place front t) x (own_there x is_claimed is_held) in
        let same_move : own.move ≡ k = omega (arith, own.last, last) in
        let P : ℕ → Type 0 = λ n. own.step < claims input.plant t n in
        let Q : ℕ → Type 0 = λ n. step_section input.plant t n own.step ≡ x in
        let R : ℕ → Type 0 = λ n. steps input.plant t n ≤ own.step in
        let same_step : j ≡ own.step = fine.distinct t k j own.step lk found.1 (subst P same_move own.claimed) (found.2 ∙ sym (subst Q same_move own.section)) in
        let over : steps input.plant t k ≤ j = omega (arith, same_step, subst R same_move own.over) in
        let S : ℕ → Type 0 = λ y. is_in y (claimed input.plant t (place front t)) ≡ true in
        let T : ℕ → Type 0 = λ y. is_train t (get_or h y None) ≡ true in
        let gone : is_taken_over input.plant t more k j ≡ true = taken_now k j step last over (subst S (sym found.2) is_claimed) (subst T (sym found.2) is_held) in
        omega (arith, before, now, one_before, cond-false {A = ℕ} (not (is_taken_over input.plant t more k j)) 1 0 (not_from_true (is_taken_over input.plant t more k j) gone), one_if held next is_held is_claimed))
        (λ not_held.
        let U : ℕ → Type 0 = λ y. get_or h y None ≡ None in
        untaken (untaken_now k j step last (subst U (sym found.2) (unheld x is_claimed not_held))) (and_left held next not_held))
        (cases_Bool held))
        (λ not_claimed.
        let still : is_taken_over input.plant t more k j ≡ false =
        ⊎_elim
        (λ gone.
        let V : ℕ → ℕ → Type 0 = λ y n. is_in y (claimed input.plant t n) ≡ true in
        let W : ℕ → Type 0 = λ y. V y (suc k) in
        let Z : ℕ → Type 0 = λ n. V x n in
        absurd (false≢true (sym not_claimed ∙ subst Z last (subst W found.2 (taken_parts input.plant t more k j gone).claiming))))
        (λ no. no)
        (cases_Bool (is_taken_over input.plant t more k j)) in
        untaken still (and_right held next not_claimed))
        (cases_Bool next))
        (λ not_there.
        let no_own : (held && next) ≡ false =
        ⊎_elim
        (λ both_are.
        let both = and_parts held next both_are in
        let own = own_step input.plant t (place front t) x (own_there x both.1 both.0) in
        let same_move : own.move ≡ k = omega (arith, own.last, last) in
        let P : ℕ → Type 0 = λ n. own.step < claims input.plant t n in
        let Q : ℕ → Type 0 = λ n. step_section input.plant t n own.step ≡ x in
        let S : ℕ → Type 0 = λ y. is_in y (claimed input.plant t k) ≡ true in
        absurd (false≢true (sym not_there ∙ subst S (subst Q same_move own.section) (step_claimed input.plant t k own.step (subst P same_move own.claimed)))))
        (λ no. no)
        (cases_Bool (held && next)) in
        omega (arith, took_none input.plant fine t adms k lk x not_there, took_none input.plant fine t more k lk x not_there, cond-false {A = ℕ} (held && next) 1 0 no_own))
        (cases_Bool (is_in x (claimed input.plant t k)))

    -- before the first move nothing is held, so nothing is taken over
    first_own : (x : ℕ) → place front t ≡ 0 → ◌≡◌ {A = ℕ} (cond (own_taken x) 1 0) 0
    unfolding own_taken
    first_own x first =
        let held : Bool = is_train t (get_or h x None) in
        let next : Bool = is_in x (claimed input.plant t (place front t)) in
        ⊎_elim
        (λ both_are.
        let both = and_parts held next both_are in
        let P : ℕ → Type 0 = λ p. is_in x (own_overlap input.plant t p) ≡ true in
        absurd (false≢true (subst P first (own_there x both.1 both.0))))
        (λ none. cond-false {A = ℕ} (held && next) 1 0 none)
        (cases_Bool (held && next))

    moves_took : (n x : ℕ) → n ≡ place front t → sum_below (took input.plant t (admissions front t ++ line.entry.at ∷ []) x) n + cond (own_taken x) 1 0 ≡ sum_below (took input.plant t (admissions front t) x) n
    moves_took zero x is = omega (arith, first_own x (sym is))
    moves_took (suc k) x is =
        let earlier : sum_below (took input.plant t more x) k ≡ sum_below (took input.plant t adms x) k =
        sum-equal (took input.plant t more x) (took input.plant t adms x) k (λ i li.
        sum-equal (λ j. cond (eqb (step_section input.plant t i j) x && not (is_taken_over input.plant t more i j)) 1 0) (λ j. cond (eqb (step_section input.plant t i j) x && not (is_taken_over input.plant t adms i j)) 1 0) (claims input.plant t i)
        (λ j lj. ap {B = ℕ} (λ b. cond (eqb (step_section input.plant t i j) x && not b) 1 0) (taken_agrees input.plant t more adms (length adms) i j (agree_added adms line.entry.at) (omega (arith, li, is))))) in
        omega (arith, earlier, last_took k x is)

    -- the train took what it claims, and what it takes over counts no more for the move before
    more_taken : (x : ℕ) → taken input.plant t (admissions (line ∷ front) t) x + cond (own_taken x) 1 0 ≡ taken input.plant t (admissions front t) x + cond (is_in x (claimed input.plant t (place front t))) 1 0
    more_taken x =
        let grown : taken input.plant t (admissions (line ∷ front) t) x ≡ taken input.plant t more x = ap (λ list. taken input.plant t list x) (admission_added line front t m note admits.what) in
        let long : taken input.plant t more x ≡ sum_below (took input.plant t more x) (suc (length adms)) = ap (sum_below (took input.plant t more x)) (length_added adms line.entry.at) in
        omega (
          arith,
          grown,
          long,
          moves_took (place front t) x refl,
          took_last input.plant fine t more (place front t) room x (omega (arith, length_added adms line.entry.at)),
        )

    same_written : (x u : ℕ) → tally (frees x u) (written (line ∷ front)) ≡ tally (frees x u) (written front)
    same_written x u = omega (arith, written_after (frees x u) line front, one_line (frees x u) (is_train_event line.entry.what) line.entry (ap (frees_for x u) admits.what))

    section_in : (x : ℕ) → is_in x (claimed input.plant t (place front t)) ≡ true → x < length h
    section_in x there = omega (arith, in_range input.plant accepted t (place front t) room known x there, are.long)

    own_each : (x : ℕ) → cond (is_train t (get_or (taken_by h (claimed input.plant t (place front t)) t) x None)) 1 0 + tally (frees x t) (written (line ∷ front)) ≡ taken input.plant t (admissions (line ∷ front) t) x
    unfolding own_taken
    own_each x =
        let held : Bool = is_train t (get_or h x None) in
        let next : Bool = is_in x (claimed input.plant t (place front t)) in
        ⊎_elim
        (λ there.
        omega (
          arith,
          are.each t x known,
          same_written x t,
          more_taken x,
          cond-true {A = ℕ} next 1 0 there,
          ap {B = ℕ} (λ b. cond (held && b) 1 0) there,
          and_true held,
          ap {B = ℕ} (λ o. cond (is_train t o) 1 0) (taken_in h (claimed input.plant t (place front t)) t x (section_in x there) there),
          cond-true {A = ℕ} (eqb t t) 1 0 (eq-eqb t t refl),
        ))
        (λ not_there.
        omega (
          arith,
          are.each t x known,
          same_written x t,
          more_taken x,
          cond-false {A = ℕ} next 1 0 not_there,
          none_second held next not_there,
          ap {B = ℕ} (λ o. cond (is_train t o) 1 0) (taken_out h (claimed input.plant t (place front t)) t x not_there),
        ))
        (cases_Bool next)
      where
        and_true : (b : Bool) → ◌≡◌ {A = ℕ} (cond (b && true) 1 0) (cond b 1 0)
        and_true true = refl
        and_true false = refl

    other_each : (u x : ℕ) → u < trains input.plant → (u ≡ t → ⊥) → cond (is_train u (get_or (taken_by h (claimed input.plant t (place front t)) t) x None)) 1 0 + tally (frees x u) (written (line ∷ front)) ≡ taken input.plant u (admissions (line ∷ front) u) x
    other_each u x lt apart =
        let next : Bool = is_in x (claimed input.plant t (place front t)) in
        ⊎_elim
        (λ there.
        omega (
          arith,
          are.each u x lt,
          same_written x u,
          ap (λ list. taken input.plant u list x) (admission_of_other line front t m note u admits.what apart),
          ⊎_elim
              (λ held. ap {B = ℕ} (λ o. cond (is_train u o) 1 0) (holder_is x held) ∙ cond-false {A = ℕ} (eqb t u) 1 0 (ne_eqb t u (λ e. apart (sym e))))
              (λ not_held. ap {B = ℕ} (λ o. cond (is_train u o) 1 0) (unheld x there not_held))
              (cases_Bool (is_train t (get_or h x None))),
          ap {B = ℕ} (λ o. cond (is_train u o) 1 0) (taken_in h (claimed input.plant t (place front t)) t x (section_in x there) there),
          cond-false {A = ℕ} (eqb t u) 1 0 (ne_eqb t u (λ e. apart (sym e))),
        ))
        (λ not_there.
        omega (
          arith,
          are.each u x lt,
          same_written x u,
          ap (λ list. taken input.plant u list x) (admission_of_other line front t m note u admits.what apart),
          ap {B = ℕ} (λ o. cond (is_train u o) 1 0) (taken_out h (claimed input.plant t (place front t)) t x not_there),
        ))
        (cases_Bool next)
      where
        holder_is : (x : ℕ) → is_train t (get_or h x None) ≡ true → get_or h x None ≡ Some t
        holder_is x held = is_one t (get_or h x None) (omega (arith, cond-true {A = ℕ} (is_train t (get_or h x None)) 1 0 held))

    pub takes : AreHolders input.plant (line ∷ front) (taken_by h (claimed input.plant t (place front t)) t)
    takes = record {
      long = taken_long h (claimed input.plant t (place front t)) t ∙ are.long;
      each = λ u x lt.
          let P : ℕ → Type 0 = λ v. cond (is_train v (get_or (taken_by h (claimed input.plant t (place front t)) t) x None)) 1 0 + tally (frees x v) (written (line ∷ front)) ≡ taken input.plant v (admissions (line ∷ front) v) x in
          ⊎_elim
          (λ same. subst P (sym same) (own_each x))
          (λ other. other_each u x lt other)
          (cases_eq u t);
      known = λ u x is.
          let P : ℕ → Type 0 = λ v. v < trains input.plant in
          ⊎_elim
          (λ there. subst P (some_same (sym (taken_in h (claimed input.plant t (place front t)) t x (section_in x there) there) ∙ is)) known)
          (λ not_there. are.known u x (sym (taken_out h (claimed input.plant t (place front t)) t x not_there) ∙ is))
          (cases_Bool (is_in x (claimed input.plant t (place front t))));
    }
      where
        some_same : {a b : ℕ} → Some a ≡ Some b → a ≡ b
        some_same e = ap (λ o. Rattle.std.specs.Option.option_map_or (λ n. n) o 0) e
