-- The faults of tables in which the row of one train is changed.
use Rattle.std.proofs.Common.{◌≡◌, ◌≢◌, ℕ, zero, suc, ◌-◌, ◌<◌, ◌≤◌, Bool, true, false, cond, length, get_or, set, Option, Some, None, refl, sym, ap, ◌∙◌, subst, ⊎_elim, arith}
use Rattle.std.proofs.lemmas.Bool.{cases_eq, cases_lt}
use Rattle.std.proofs.lemmas.List.{get_or-set_other, length-set}
use Rattle.rail_base.specs.declared.plant.Tables.{Tables}
use Rattle.rail_base.specs.declared.plant.TrainRow.{TrainRow}
use Rattle.rail_rules.specs.Numbers.{or_else}
use Rattle.rail_rules.specs.Plant.{Plant, moves, no_train}
use Rattle.rail_plan.specs.PlanFaults.{bare, blocked_by, blocking, fault_at, fault_of, fault_of_train, fault_over, first_answer, is_too_long}
use Rattle.rail_plan.specs.declared.faults.PlanFault.{PlanFault}
use Rattle.rail_plan.proofs.CallerLemmas.{fault_same}
use Rattle.rail_plan.specs.declared.faults.PlanFault.TheVariants.{TooLong, SelfBlocked, OutOfMemory}

-- the tables with another row of the train
abbrev pub with_row : Tables → ℕ → TrainRow → Tables
with_row tables t row = record tables { trains = set tables.trains t row }

-- the fault is one of this train, at a place up to the last
abbrev pub IsFaultOf : ℕ → ℕ → PlanFault → Type 0
IsFaultOf t last (TooLong u place) = (u ≡ t) × (place ≤ last)
IsFaultOf t last (SelfBlocked u place x) = (u ≡ t) × (place ≤ last)
IsFaultOf t last OutOfMemory = ⊥

-- so it is where more places are counted
pub fault_within : (t few many : ℕ) (why : PlanFault) → few ≤ many → IsFaultOf t few why → IsFaultOf t many why
fault_within t few many (TooLong u place) le own = (own.0, omega (arith, le, own.1))
fault_within t few many (SelfBlocked u place x) le own = (own.0, omega (arith, le, own.1))
fault_within t few many OutOfMemory le own = own

-- the first answer is that of one of the numbers
answer_found : (f : ℕ → Option PlanFault) (n : ℕ) (why : PlanFault) → first_answer f n ≡ Some why → (k : ℕ) × (k < n) × (f k ≡ Some why)
answer_found f zero why is = cc
answer_found f (suc n) why is = by (first_answer f n) (λ found. answer_found f n why found) is
  where
    by : (o : Option PlanFault) → (o ≡ Some why → (k : ℕ) × (k < n) × (f k ≡ Some why)) → or_else o (f n) ≡ Some why → (k : ℕ) × (k < suc n) × (f k ≡ Some why)
    by None earlier found = (n, omega arith, found)
    by (Some other) earlier found = let there = earlier found in (there.0, omega (arith, there.1), there.2)

-- where there is none, none of the numbers has one
none_found : (f : ℕ → Option PlanFault) (n : ℕ) → first_answer f n ≡ None → (k : ℕ) → k < n → f k ≡ None
none_found f zero is k lt = absurd (omega (arith, lt))
none_found f (suc n) is k lt = by (first_answer f n) (λ none j below. none_found f n none j below) is
  where
    by : (o : Option PlanFault) → (o ≡ None → (j : ℕ) → j < n → f j ≡ None) → or_else o (f n) ≡ None → f k ≡ None
    by None earlier none = ⊎_elim
        (λ here. subst (λ j. f j ≡ None) (sym here) none)
        (λ other. earlier refl k (omega (arith, lt, other)))
        (cases_eq k n)
    by (Some other) earlier none = cc

-- a fault at a place of a train is one of that train
fault_own : (plant : Plant) (t m last : ℕ) (why : PlanFault) → suc m ≤ last → fault_at plant t m ≡ Some why → IsFaultOf t last why
fault_own plant t m last why le is = by (is_too_long plant t m) (blocking plant t m) is
  where
    by : (long : Bool) (blocks : Option ℕ) → or_else (cond long (Some (TooLong t (suc m))) None) (blocked_by t (suc m) blocks) ≡ Some why → IsFaultOf t last why
    by true blocks found = let same : TooLong t (suc m) ≡ why = cc in subst (IsFaultOf t last) same (refl, le)
    by false None found = cc
    by false (Some x) found = let same : SelfBlocked t (suc m) x ≡ why = cc in subst (IsFaultOf t last) same (refl, le)

-- where no other number has an answer, the first one is that of the number
only_one : (f : ℕ → Option PlanFault) (n t : ℕ) → t < n → ((u : ℕ) → u < n → u ≢ t → f u ≡ None) → first_answer f n ≡ f t
only_one f zero t lt others = absurd (omega (arith, lt))
only_one f (suc n) t lt others = ⊎_elim
    (λ last. ap (λ o. or_else o (f n)) (none_below f n (λ u below. others u (omega (arith, below)) (λ same. omega (arith, same, last, below)))) ∙ ap f last)
    (λ apart.
    ap (or_else (first_answer f n)) (others n (omega arith) apart)
    ∙ or_none (first_answer f n)
    ∙ only_one f n t (before n t lt apart) (λ u below other. others u (omega (arith, below)) other))
    (cases_eq n t)
  where
    before : (m k : ℕ) → k < suc m → m ≢ k → k < m
    before m k less apart = ⊎_elim (λ below. below) (λ past. absurd (apart (omega (arith, less, past)))) (cases_lt k m)

    or_none : (o : Option PlanFault) → or_else o None ≡ o
    or_none None = refl
    or_none (Some x) = refl

    none_below : (g : ℕ → Option PlanFault) (k : ℕ) → ((u : ℕ) → u < k → g u ≡ None) → first_answer g k ≡ None
    none_below g zero none = refl
    none_below g (suc k) none = ap (λ o. or_else o (g k)) (none_below g k (λ u below. none u (omega (arith, below)))) ∙ none k (omega arith)

-- the first fault is one of a train
pub fault_told : (tables : Tables) (why : PlanFault) → fault_of tables ≡ Some why → (t : ℕ) × (last : ℕ) × IsFaultOf t last why
fault_told tables why is =
    let found = answer_found (fault_of_train (bare tables)) (length tables.trains) why is in
    let at = answer_found (fault_at (bare tables) found.0) (moves (bare tables) found.0 - 1) why found.2 in
    (found.0, suc at.0, fault_own (bare tables) found.0 at.0 (suc at.0) why (omega arith) at.2)

module _ (tables : Tables) (t : ℕ) (row : TrainRow) where
  abbrev pub other : Tables
  other = with_row tables t row

  -- the fault of a train at a place, by its row
  abbrev fault_by : ℕ → ℕ → TrainRow → Option PlanFault
  fault_by u m r = fault_over (bare tables) u r.kind.length r.moves m

  of_tables : (u m : ℕ) → fault_at (bare tables) u m ≡ fault_by u m (get_or tables.trains u no_train)
  of_tables u m = refl

  of_other : (u m : ℕ) → fault_at (bare other) u m ≡ fault_by u m (get_or (set tables.trains t row) u no_train)
  of_other u m = fault_same tables (set tables.trains t row) u m

  -- where the tables have no fault, the first one of the changed tables is of the changed train
  pub changed_train : fault_of tables ≡ None → (why : PlanFault) → fault_of other ≡ Some why → IsFaultOf t (moves (bare other) t) why
  changed_train none why is =
      let found = answer_found (fault_of_train (bare other)) (length other.trains) why is in
      let u : ℕ = found.0 in
      let at = answer_found (fault_at (bare other) u) (moves (bare other) u - 1) why found.2 in
      ⊎_elim
      (λ same. subst (λ v. IsFaultOf v (moves (bare other) v) why) same (fault_own (bare other) u at.0 (moves (bare other) u) why (omega (arith, at.1)) at.2))
      (λ apart.
      let rows : get_or (set tables.trains t row) u no_train ≡ get_or tables.trains u no_train = get_or-set_other tables.trains t u row no_train apart in
      let before : fault_at (bare tables) u at.0 ≡ Some why = of_tables u at.0 ∙ ap (fault_by u at.0) (sym rows) ∙ sym (of_other u at.0) ∙ at.2 in
      let silent = none_found (fault_of_train (bare tables)) (length tables.trains) none u (omega (arith, found.1, length-set tables.trains t row)) in
      let nothing = none_found (fault_at (bare tables) u) (moves (bare tables) u - 1) silent at.0 (omega (arith, at.1, ap (λ (r : TrainRow). length r.moves) rows)) in
      let bad : None ≡ Some why = sym nothing ∙ before in cc)
      (cases_eq u t)

  -- the changed tables have no fault but one of the changed train
  pub only_changed : fault_of tables ≡ None → t < length tables.trains → fault_of other ≡ fault_of_train (bare other) t
  only_changed none lt = only_one (fault_of_train (bare other)) (length other.trains) t (omega (arith, lt, length-set tables.trains t row)) (λ u below apart.
      let rows : get_or (set tables.trains t row) u no_train ≡ get_or tables.trains u no_train = get_or-set_other tables.trains t u row no_train apart in
      let each : (m : ℕ) → fault_at (bare other) u m ≡ fault_at (bare tables) u m = λ m. of_other u m ∙ ap (fault_by u m) rows ∙ sym (of_tables u m) in
      (λ i. first_answer (λ m. each m i) (length (rows i).moves - 1))
      ∙ none_found (fault_of_train (bare tables)) (length tables.trains) none u (omega (arith, below, length-set tables.trains t row)))
