-- No event line occurs twice among the event lines of a lawful front.
use Rattle.std.proofs.Common.{◌≡◌, ℕ, suc, ◌<◌, ◌≤◌, min, Bool, true, false, eqb, List, [], ◌∷◌, ◌++◌, length, Option, Some, None, refl, sym, ap, ◌∙◌, subst, ◌⊎◌, inl, inr, ⊎_elim, arith}
use Rattle.std.specs.List.{list_any}
use Rattle.std.proofs.lemmas.Bool.{cases_Bool, or_parts, false≢true, eqb-true, cond-true, cond-false}
use Rattle.rail_base.specs.declared.history.Entry.{Entry}
use Rattle.rail_base.specs.declared.history.What.{What}
use Rattle.rail_base.specs.declared.history.What.TheVariants.{Free, Arrive, Enter, Out, Ready}
use Rattle.rail_rules.specs.Numbers.{gather}
use Rattle.rail_rules.specs.Plant.{Plant, trains, moves, steps, claims, step_section}
use Rattle.rail_rules.specs.Fronts.{Front, at_time, admissions, same_entry}
use Rattle.rail_rules.specs.Times.{out}
use Rattle.rail_rules.specs.Intervals.{is_open, is_taken_over, is_unfreed, end_time, freed_at}
use Rattle.rail_rules.proofs.CallerLemmas.{steps_claimed}
use Rattle.rail_rules.specs.Events.{enter_line, arrive_line, free_lines, out_lines, ready_line, move_events, moved_events, ready_events, train_events}
use Rattle.rail_laws_front.specs.Premises.{IsWellFormed}
use Rattle.rail_laws_front.proofs.CallerLemmas.{append_cases, gather_found, one_found, end_after_begin}
use Rattle.rail_rules.specs.Apart.AreApart.{one, first, second}
use Rattle.rail_laws_events.specs.Accounts.{tally, all_events}
use Rattle.rail_laws_events.proofs.Coding.{one_entry}
use Rattle.rail_laws_events.proofs.Tallies.{tally-cons_yes, tally-cons_no, tally-append_one, tally-gather_one}
use Rattle.rail_rules.specs.Apart.{AreApart, NeverOverlap}

-- a list of one entry has it once at most
pub tally-single : (p : Entry → Bool) (x : Entry) → tally p (x ∷ []) ≤ 1
tally-single p x = ⊎_elim (λ is. omega (arith, tally-cons_yes p x [] is)) (λ isnt. omega (arith, tally-cons_no p x [] isnt)) (cases_Bool (p x))

-- the line names the train as its own
abbrev pub NamesTrain : ℕ → What → Type 0
NamesTrain t (Enter u m x) = u ≡ t
NamesTrain t (Arrive u m) = u ≡ t
NamesTrain t (Free x u) = u ≡ t
NamesTrain t (Out u) = u ≡ t
NamesTrain t (Ready u m) = u ≡ t
NamesTrain t _ = ⊥

-- what an event line of a move says
pub data OfMove (plant : Plant) (t : ℕ) (adms : List ℕ) (e : Entry) (m : ℕ) : Type 0 where
  enters : (j : ℕ) → j < steps plant t m → e.what ≡ Enter t (suc m) (step_section plant t m j) → OfMove plant t adms e m
  arrives : e.what ≡ Arrive t (suc m) → OfMove plant t adms e m
  frees : (j : ℕ) → j < claims plant t m → is_unfreed plant t adms m j ≡ false → e.what ≡ Free (step_section plant t m j) t → e.at ≡ end_time plant t adms m j → OfMove plant t adms e m
  leaves : suc m ≡ moves plant t → e.what ≡ Out t → OfMove plant t adms e m

module _ (plant : Plant)
    (fine : IsWellFormed plant)
    (t : ℕ)
    (adms : List ℕ)
    (admitted_known : length adms ≤ moves plant t)
    (apart : (m j n i : ℕ) → m < length adms → n < length adms → j < claims plant t m → i < claims plant t n
    → step_section plant t m j ≡ step_section plant t n i → is_unfreed plant t adms m j ≡ false
    → is_unfreed plant t adms n i ≡ false → end_time plant t adms m j ≡ end_time plant t adms n i → m ≡ n)
    (e : Entry)
  where
    enters_of : ℕ → List Entry
    enters_of m = gather (λ j. enter_line plant t adms m j ∷ []) (steps plant t m)

    frees_of : ℕ → List Entry
    frees_of m = gather (λ j. free_lines t (step_section plant t m j) (freed_at plant t adms m j)) (claims plant t m)

    is_line : (x : Entry) → list_any (same_entry e) (x ∷ []) ≡ true → e ≡ x
    is_line x h = one_entry e x (one_found (same_entry e) x h)

    free_line : (m j : ℕ) → list_any (same_entry e) (free_lines t (step_section plant t m j) (freed_at plant t adms m j)) ≡ true → (is_unfreed plant t adms m j ≡ false) × (e ≡ at_time (end_time plant t adms m j) (Free (step_section plant t m j) t))
    free_line m j h =
        let P : Option ℕ → Type 0 = λ o. list_any (same_entry e) (free_lines t (step_section plant t m j) o) ≡ true in
        ⊎_elim
        (λ unfreed. absurd (false≢true (subst P (cond-true (is_unfreed plant t adms m j) None (Some (end_time plant t adms m j)) unfreed) h)))
        (λ freed. (freed, is_line (at_time (end_time plant t adms m j) (Free (step_section plant t m j) t)) (subst P (cond-false (is_unfreed plant t adms m j) None (Some (end_time plant t adms m j)) freed) h)))
        (cases_Bool (is_unfreed plant t adms m j))

    in_enters : (m : ℕ) → list_any (same_entry e) (enters_of m) ≡ true → (j : ℕ) × (j < steps plant t m) × (e.what ≡ Enter t (suc m) (step_section plant t m j))
    unfolding enters_of
    in_enters m h =
        let found = gather_found (same_entry e) (λ j. enter_line plant t adms m j ∷ []) (steps plant t m) h in
        (found.0, found.1, ap (λ (x : Entry). x.what) (is_line (enter_line plant t adms m found.0) found.2))

    in_frees : (m : ℕ) → list_any (same_entry e) (frees_of m) ≡ true → (j : ℕ) × (j < claims plant t m) × (is_unfreed plant t adms m j ≡ false) × (e ≡ at_time (end_time plant t adms m j) (Free (step_section plant t m j) t))
    unfolding frees_of
    in_frees m h =
        let found = gather_found (same_entry e) (λ j. free_lines t (step_section plant t m j) (freed_at plant t adms m j)) (claims plant t m) h in
        let line = free_line m found.0 found.2 in
        (found.0, found.1, line.0, line.1)

    in_outs : (m : ℕ) → list_any (same_entry e) (out_lines plant t adms m) ≡ true → (suc m ≡ moves plant t) × (e.what ≡ Out t)
    in_outs m h =
        let line : Entry = at_time (out plant t adms m) (Out t) in
        let P : List Entry → Type 0 = λ xs. list_any (same_entry e) xs ≡ true in
        ⊎_elim
        (λ last. (eqb-true (suc m) (moves plant t) last, ap (λ (x : Entry). x.what) (is_line line (subst P (cond-true (eqb (suc m) (moves plant t)) (line ∷ []) [] last) h))))
        (λ more. absurd (false≢true (subst P (cond-false (eqb (suc m) (moves plant t)) (line ∷ []) [] more) h)))
        (cases_Bool (eqb (suc m) (moves plant t)))

    in_move : (m : ℕ) → list_any (same_entry e) (move_events plant t adms m) ≡ true → OfMove plant t adms e m
    unfolding enters_of frees_of
    in_move m h =
        ⊎_elim
        (λ three. ⊎_elim
        (λ two. ⊎_elim
        (λ one_list. let found = in_enters m one_list in enters found.0 found.1 found.2)
        (λ one_list. arrives (ap (λ (x : Entry). x.what) (is_line (arrive_line plant t adms m) one_list)))
        (append_cases (same_entry e) (enters_of m) (arrive_line plant t adms m ∷ []) two))
        (λ two. let found = in_frees m two in frees found.0 found.1 found.2 (ap (λ (x : Entry). x.what) found.3) (ap (λ (x : Entry). x.at) found.3))
        (append_cases (same_entry e) (enters_of m ++ arrive_line plant t adms m ∷ []) (frees_of m) three))
        (λ three. let found = in_outs m three in leaves found.0 found.1)
        (append_cases (same_entry e) (enters_of m ++ arrive_line plant t adms m ∷ [] ++ frees_of m) (out_lines plant t adms m) h)

    in_ready : list_any (same_entry e) (ready_events plant t adms) ≡ true → (m : ℕ) × (e.what ≡ Ready t (suc m))
    in_ready h =
        let found = gather_found (same_entry e) (λ m. ready_line plant t adms m ∷ []) (min (suc (length adms)) (moves plant t)) h in
        (found.0, ap (λ (x : Entry). x.what) (is_line (ready_line plant t adms found.0) found.2))

    -- a line of two moves is of one
    compare : (m n : ℕ) → m < length adms → n < length adms → OfMove plant t adms e m → OfMove plant t adms e n → m ≡ n
    compare m n lm ln (enters j lj a) (enters i li b) = cc
    compare m n lm ln (arrives a) (arrives b) = cc
    compare m n lm ln (frees j lj cj a ta) (frees i li ci b tb) =
        let same : step_section plant t m j ≡ step_section plant t n i = cc in
        apart m j n i lm ln lj li same cj ci (sym ta ∙ tb)
    compare m n lm ln (leaves a x) (leaves b y) = omega (arith, a, b)
    compare m n lm ln (enters j lj a) (arrives b) = cc
    compare m n lm ln (enters j lj a) (frees i li ci b tb) = cc
    compare m n lm ln (enters j lj a) (leaves b y) = cc
    compare m n lm ln (arrives a) (enters i li b) = cc
    compare m n lm ln (arrives a) (frees i li ci b tb) = cc
    compare m n lm ln (arrives a) (leaves b y) = cc
    compare m n lm ln (frees j lj cj a ta) (enters i li b) = cc
    compare m n lm ln (frees j lj cj a ta) (arrives b) = cc
    compare m n lm ln (frees j lj cj a ta) (leaves b y) = cc
    compare m n lm ln (leaves a x) (enters i li b) = cc
    compare m n lm ln (leaves a x) (arrives b) = cc
    compare m n lm ln (leaves a x) (frees i li ci b tb) = cc

    once_in_move : (m : ℕ) → m < length adms → tally (same_entry e) (move_events plant t adms m) ≤ 1
    unfolding enters_of frees_of
    once_in_move m lm =
        let room : m < moves plant t = omega arith in
        let once_enters : tally (same_entry e) (enters_of m) ≤ 1 =
        tally-gather_one (same_entry e) (λ j. enter_line plant t adms m j ∷ []) (steps plant t m)
        (λ j lj. tally-single (same_entry e) (enter_line plant t adms m j))
        (λ j i lj li hj hi.
        let a : e.what ≡ Enter t (suc m) (step_section plant t m j) = ap (λ (x : Entry). x.what) (is_line (enter_line plant t adms m j) hj) in
        let b : e.what ≡ Enter t (suc m) (step_section plant t m i) = ap (λ (x : Entry). x.what) (is_line (enter_line plant t adms m i) hi) in
        fine.distinct t m j i room (omega (arith, lj, steps_claimed plant t m)) (omega (arith, li, steps_claimed plant t m)) (same_enter (suc m) (step_section plant t m j) (step_section plant t m i) a b)) in
        let once_frees : tally (same_entry e) (frees_of m) ≤ 1 =
        tally-gather_one (same_entry e) (λ j. free_lines t (step_section plant t m j) (freed_at plant t adms m j)) (claims plant t m)
        (λ j lj. once_free (freed_at plant t adms m j) (step_section plant t m j))
        (λ j i lj li hj hi.
        let a : e.what ≡ Free (step_section plant t m j) t = ap (λ (x : Entry). x.what) (free_line m j hj).1 in
        let b : e.what ≡ Free (step_section plant t m i) t = ap (λ (x : Entry). x.what) (free_line m i hi).1 in
        fine.distinct t m j i room lj li (same_free (step_section plant t m j) (step_section plant t m i) a b)) in
        tally-append_one (same_entry e) (enters_of m ++ arrive_line plant t adms m ∷ [] ++ frees_of m) (out_lines plant t adms m)
        (tally-append_one (same_entry e) (enters_of m ++ arrive_line plant t adms m ∷ []) (frees_of m)
        (tally-append_one (same_entry e) (enters_of m) (arrive_line plant t adms m ∷ [])
        once_enters (tally-single (same_entry e) (arrive_line plant t adms m))
        (λ x y. clash_1 m (in_enters m x).0 (in_enters m x).2 (ap (λ (z : Entry). z.what) (is_line (arrive_line plant t adms m) y))))
        once_frees
        (λ x y. clash_2 m (in_frees m y).0 (append_cases (same_entry e) (enters_of m) (arrive_line plant t adms m ∷ []) x) (ap (λ (z : Entry). z.what) (in_frees m y).3)))
        (once_out m)
        (λ x y. clash_3 m (append_cases (same_entry e) (enters_of m ++ arrive_line plant t adms m ∷ []) (frees_of m) x) (in_outs m y).1)
      where
        same_enter : (k x y : ℕ) → e.what ≡ Enter t k x → e.what ≡ Enter t k y → x ≡ y
        same_enter k x y a b = cc

        same_free : (x y : ℕ) → e.what ≡ Free x t → e.what ≡ Free y t → x ≡ y
        same_free x y a b = cc

        once_free : (o : Option ℕ) (x : ℕ) → tally (same_entry e) (free_lines t x o) ≤ 1
        once_free None x = omega arith
        once_free (Some time) x = tally-single (same_entry e) (at_time time (Free x t))

        once_out : (m : ℕ) → tally (same_entry e) (out_lines plant t adms m) ≤ 1
        once_out m =
            let line : Entry = at_time (out plant t adms m) (Out t) in
            ⊎_elim
            (λ last. omega (arith, ap (tally (same_entry e)) (cond-true (eqb (suc m) (moves plant t)) (line ∷ []) [] last), tally-single (same_entry e) line))
            (λ more. omega (arith, ap (tally (same_entry e)) (cond-false (eqb (suc m) (moves plant t)) (line ∷ []) [] more)))
            (cases_Bool (eqb (suc m) (moves plant t)))

        clash_1 : (m j : ℕ) → e.what ≡ Enter t (suc m) (step_section plant t m j) → e.what ≡ Arrive t (suc m) → ⊥
        clash_1 m j a b = cc

        enter_or_arrive : (m : ℕ) → (list_any (same_entry e) (enters_of m) ≡ true) ⊎ (list_any (same_entry e) (arrive_line plant t adms m ∷ []) ≡ true) → OfMove plant t adms e m
        enter_or_arrive m (inl x) = let found = in_enters m x in enters found.0 found.1 found.2
        enter_or_arrive m (inr x) = arrives (ap (λ (z : Entry). z.what) (is_line (arrive_line plant t adms m) x))

        clash_2 : (m j : ℕ) → (list_any (same_entry e) (enters_of m) ≡ true) ⊎ (list_any (same_entry e) (arrive_line plant t adms m ∷ []) ≡ true) → e.what ≡ Free (step_section plant t m j) t → ⊥
        clash_2 m j (inl x) b = let a = (in_enters m x).2 in cc
        clash_2 m j (inr x) b = let a : e.what ≡ Arrive t (suc m) = ap (λ (z : Entry). z.what) (is_line (arrive_line plant t adms m) x) in cc

        clash_3 : (m : ℕ) → (list_any (same_entry e) (enters_of m ++ arrive_line plant t adms m ∷ []) ≡ true) ⊎ (list_any (same_entry e) (frees_of m) ≡ true) → e.what ≡ Out t → ⊥
        clash_3 m (inl x) b =
            ⊎_elim
            (λ y. let a = (in_enters m y).2 in cc)
            (λ y. let a : e.what ≡ Arrive t (suc m) = ap (λ (z : Entry). z.what) (is_line (arrive_line plant t adms m) y) in cc)
            (append_cases (same_entry e) (enters_of m) (arrive_line plant t adms m ∷ []) x)
        clash_3 m (inr x) b = let a : e.what ≡ Free (step_section plant t m (in_frees m x).0) t = ap (λ (z : Entry). z.what) (in_frees m x).3 in cc

    moved_no_ready : (m n : ℕ) → OfMove plant t adms e m → e.what ≡ Ready t (suc n) → ⊥
    moved_no_ready m n (enters j lj a) b = cc
    moved_no_ready m n (arrives a) b = cc
    moved_no_ready m n (frees j lj cj a ta) b = cc
    moved_no_ready m n (leaves a x) b = cc

    pub once_in_train : tally (same_entry e) (train_events plant t adms false) ≤ 1
    once_in_train =
        tally-append_one (same_entry e) (moved_events plant t adms) (ready_events plant t adms)
        (tally-gather_one (same_entry e) (move_events plant t adms) (length adms) once_in_move
        (λ m n lm ln hm hn. compare m n lm ln (in_move m hm) (in_move n hn)))
        (tally-gather_one (same_entry e) (λ m. ready_line plant t adms m ∷ []) (min (suc (length adms)) (moves plant t))
        (λ m lm. tally-single (same_entry e) (ready_line plant t adms m))
        (λ m n lm ln hm hn.
        let a : e.what ≡ Ready t (suc m) = ap (λ (x : Entry). x.what) (is_line (ready_line plant t adms m) hm) in
        let b : e.what ≡ Ready t (suc n) = ap (λ (x : Entry). x.what) (is_line (ready_line plant t adms n) hn) in
        same_ready m n a b))
        (λ moved readied.
        let move = gather_found (same_entry e) (move_events plant t adms) (length adms) moved in
        let line = in_ready readied in
        moved_no_ready move.0 line.0 (in_move move.0 move.2) line.1)
      where
        same_ready : (m n : ℕ) → e.what ≡ Ready t (suc m) → e.what ≡ Ready t (suc n) → m ≡ n
        same_ready m n a b = cc

    -- a line of a train names it
    train_of : list_any (same_entry e) (train_events plant t adms false) ≡ true → NamesTrain t e.what
    train_of h =
        ⊎_elim
        (λ moved.
        let move = gather_found (same_entry e) (move_events plant t adms) (length adms) moved in
        names_move move.0 (in_move move.0 move.2))
        (λ readied. let line = in_ready readied in let P : What → Type 0 = NamesTrain t in subst P (sym line.1) refl)
        (append_cases (same_entry e) (moved_events plant t adms) (ready_events plant t adms) h)
      where
        names_move : (m : ℕ) → OfMove plant t adms e m → NamesTrain t e.what
        names_move m (enters j lj a) = let P : What → Type 0 = NamesTrain t in subst P (sym a) refl
        names_move m (arrives a) = let P : What → Type 0 = NamesTrain t in subst P (sym a) refl
        names_move m (frees j lj cj a ta) = let P : What → Type 0 = NamesTrain t in subst P (sym a) refl
        names_move m (leaves a x) = let P : What → Type 0 = NamesTrain t in subst P (sym x) refl

-- a line is written of one train
names_one : (t u : ℕ) (what : What) → NamesTrain t what → NamesTrain u what → t ≡ u
names_one t u (Enter v m x) a b = sym a ∙ b
names_one t u (Arrive v m) a b = sym a ∙ b
names_one t u (Free x v) a b = sym a ∙ b
names_one t u (Out v) a b = sym a ∙ b
names_one t u (Ready v m) a b = sym a ∙ b
names_one t u _ a b = absurd a

-- intervals of one section that end together, each with its free line, are of one move
pub ends_apart : (plant : Plant) → IsWellFormed plant → (front : Front) (t : ℕ) → t < trains plant
    → length (admissions front t) ≤ moves plant t → NeverOverlap plant front → (m j n i : ℕ)
    → m < length (admissions front t) → n < length (admissions front t) → j < claims plant t m
    → i < claims plant t n → step_section plant t m j ≡ step_section plant t n i
    → is_unfreed plant t (admissions front t) m j ≡ false → is_unfreed plant t (admissions front t) n i ≡ false
    → end_time plant t (admissions front t) m j ≡ end_time plant t (admissions front t) n i → m ≡ n
ends_apart plant fine front t known few never m j n i lm ln lj li same cj ci together =
    decide (never t m j t n i (record { known = known; admitted_move = lm; step = lj }) (record { known = known; admitted_move = ln; step = li }) same)
  where
    untaken : (k l : ℕ) → is_unfreed plant t (admissions front t) k l ≡ false → is_taken_over plant t (admissions front t) k l ≡ false
    untaken k l freed = (or_parts (is_open plant t (admissions front t) k l) (is_taken_over plant t (admissions front t) k l) freed).1

    decide : AreApart plant front t m j t n i → m ≡ n
    decide (one a b c) = b
    decide (first h) = absurd (omega (arith, h.by, together, end_after_begin plant t fine (admissions front t) n i (omega (arith, few, ln)) (untaken n i ci)))
    decide (second h) = absurd (omega (arith, h.by, together, end_after_begin plant t fine (admissions front t) m j (omega (arith, few, lm)) (untaken m j cj)))

pub once_among_events : (plant : Plant) → IsWellFormed plant → (front : Front) → ((t : ℕ) → t < trains plant → length (admissions front t) ≤ moves plant t) → NeverOverlap plant front → (e : Entry) → tally (same_entry e) (all_events plant front) ≤ 1
once_among_events plant fine front few never e =
    tally-gather_one (same_entry e) (λ t. train_events plant t (admissions front t) false) (trains plant)
    (λ t lt. once_in_train plant fine t (admissions front t) (few t lt) (ends_apart plant fine front t lt (few t lt) never) e)
    (λ t u lt lu ht hu. names_one t u e.what
    (train_of plant fine t (admissions front t) (few t lt) (ends_apart plant fine front t lt (few t lt) never) e ht)
    (train_of plant fine u (admissions front u) (few u lu) (ends_apart plant fine front u lu (few u lu) never) e hu))
