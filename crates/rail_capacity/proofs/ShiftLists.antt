-- The shifts of a table say of each train what its bound says.
use Rattle.std.proofs.Common.{◌≡◌, ℕ, zero, suc, ◌+◌, ◌<◌, ◌≤◌, length, Bool, true, false, ◌==◌, List, [], ◌∷◌, map, get_or, refl, sym, ap, ◌∙◌, subst, arith, ⊎_elim, Option, Some, None, is_none}
use Rattle.std.specs.List.{Contains, filter}
use Rattle.std.specs.List.Sorted.{IsStrictlyIncreasing}
use Rattle.std.specs.Option.{option_map_or}
use Rattle.std.proofs.lemmas.Bool.{cases_Bool, cond-true, cond-false, eq-eqb, ne_eqb, false≢true}
use Rattle.std.proofs.lemmas.List.Elements.{Contains-get_or}
use Rattle.rail_capacity.specs.declared.shifts.Shift.{Shift}
use Rattle.rail_capacity.specs.declared.shifts.Tight.{Tight}
use Rattle.rail_capacity.specs.declared.shifts.Tight.TheVariants.{Start}
use Rattle.rail_capacity.specs.declared.bounds.TrainBound.{TrainBound}
use Rattle.rail_capacity.specs.Shifts.{shift_for, earlier_of, tight_of, touched_train, leads_to_start}
use Rattle.rail_capacity.specs.Bounds.{bound_of, limit_of, is_fixed, Leads}
use Rattle.rail_capacity.specs.LeastBounds.{shifts_from}
use Rattle.rail_capacity.proofs.Members.{among, at_head, in_rest, in_none}

-- the shift of a train that is present
abbrev pub shift_at : List TrainBound → ℕ → ℕ → Shift
shift_at table number t = record { train = number + t; earlier = limit_of table t; tight = (bound_of table t).tight }

head_is :
    (number : ℕ) (bound : TrainBound) (table : List TrainBound)
    → shift_at (bound ∷ table) number 0 ≡ record { train = number; earlier = bound.earlier; tight = bound.tight }
head_is number bound table = ap (λ n. record { train = n; earlier = bound.earlier; tight = bound.tight }) (let e : number + 0 ≡ number = omega arith in e)

rest_is : (number t : ℕ) (bound : TrainBound) (table : List TrainBound) → shift_at table (suc number) t ≡ shift_at (bound ∷ table) number (suc t)
rest_is number t bound table = ap (λ n. record { train = n; earlier = limit_of table t; tight = (bound_of table t).tight }) (let e : suc number + t ≡ number + suc t = omega arith in e)

with_head :
    (number : ℕ) (bound : TrainBound) (table : List TrainBound) → bound.present ≡ true
    → shifts_from number (bound ∷ table) ≡ record { train = number; earlier = bound.earlier; tight = bound.tight } ∷ shifts_from (suc number) table
with_head number bound table is = cond-true bound.present _ (shifts_from (suc number) table) is

without_head :
    (number : ℕ) (bound : TrainBound) (table : List TrainBound) → bound.present ≡ false
    → shifts_from number (bound ∷ table) ≡ shifts_from (suc number) table
without_head number bound table is = cond-false bound.present (record { train = number; earlier = bound.earlier; tight = bound.tight } ∷ shifts_from (suc number) table) _ is

-- each train that is present has its shift
pub has_shift :
    (number : ℕ) (table : List TrainBound) (t : ℕ) → (bound_of table t).present ≡ true
    → Contains (shifts_from number table) (shift_at table number t)
has_shift number [] t here = absurd (false≢true here)
has_shift number (bound ∷ table) zero here =
    let P : List Shift → Type 0 = λ xs. Contains xs (shift_at (bound ∷ table) number 0) in
    subst P (sym (with_head number bound table here)) (at_head _ (shifts_from (suc number) table) _ (sym (head_is number bound table)))
has_shift number (bound ∷ table) (suc t) here =
    let found = has_shift (suc number) table t here in
    let Q : Shift → Type 0 = λ s. Contains (shifts_from (suc number) table) s in
    let later = subst Q (rest_is number t bound table) found in
    let P : List Shift → Type 0 = λ xs. Contains xs (shift_at (bound ∷ table) number (suc t)) in
    ⊎_elim
    (λ (is : bound.present ≡ true). subst P (sym (with_head number bound table is)) (in_rest _ (shifts_from (suc number) table) _ later))
    (λ (is : bound.present ≡ false). subst P (sym (without_head number bound table is)) later)
    (cases_Bool bound.present)

-- each shift is that of a train that is present
pub record IsShiftOf (number : ℕ) (table : List TrainBound) (shift : Shift) : Type 0 where
  pub place : ℕ
  pub present : (bound_of table place).present ≡ true
  pub is : shift ≡ shift_at table number place

later_shift :
    (number : ℕ) (bound : TrainBound) (table : List TrainBound) (shift : Shift) → IsShiftOf (suc number) table shift
    → IsShiftOf number (bound ∷ table) shift
later_shift number bound table shift of = record { place = suc of.place; present = of.present; is = of.is ∙ rest_is number of.place bound table }

pub shift_of : (number : ℕ) (table : List TrainBound) (shift : Shift) → Contains (shifts_from number table) shift → IsShiftOf number table shift
shift_of number [] shift has = in_none shift has
shift_of number (bound ∷ table) shift has =
    let P : List Shift → Type 0 = λ xs. Contains xs shift in
    ⊎_elim
    (λ (is : bound.present ≡ true). ⊎_elim
    (λ (same : record { train = number; earlier = bound.earlier; tight = bound.tight } ≡ shift). record { place = 0; present = is; is = sym same ∙ sym (head_is number bound table) })
    (λ (later : Contains (shifts_from (suc number) table) shift). later_shift number bound table shift (shift_of (suc number) table shift later))
    (among _ (shifts_from (suc number) table) shift (subst P (with_head number bound table is) has)))
    (λ (is : bound.present ≡ false). later_shift number bound table shift (shift_of (suc number) table shift (subst P (without_head number bound table is) has)))
    (cases_Bool bound.present)

-- the shifts stand by number
increasing_more : (x : ℕ) (xs : List ℕ) → ((y : ℕ) → Contains xs y → x < y) → IsStrictlyIncreasing xs → IsStrictlyIncreasing (x ∷ xs)
increasing_more x xs above rises zero within = above (get_or xs 0 0) (Contains-get_or xs 0 0 (let e : 0 < length xs = omega arith in e))
increasing_more x xs above rises (suc k) within =
    let step = rises k (omega arith) in
    let e : suc k + 1 ≡ suc (k + 1) = omega arith in
    let P : ℕ → Type 0 = λ n. get_or xs k 0 < get_or (x ∷ xs) n 0 in
    subst P (sym e) step

numbers_above :
    (number : ℕ) (table : List TrainBound) (y : ℕ) → Contains (map (λ (shift : Shift). shift.train) (shifts_from number table)) y
    → number ≤ y
numbers_above number [] y has = in_none y has
numbers_above number (bound ∷ table) y has =
    let P : List Shift → Type 0 = λ xs. Contains (map (λ (shift : Shift). shift.train) xs) y in
    ⊎_elim
    (λ (is : bound.present ≡ true). ⊎_elim
    (λ (same : number ≡ y). let e = same in omega arith)
    (λ (later : Contains (map (λ (shift : Shift). shift.train) (shifts_from (suc number) table)) y). let low = numbers_above (suc number) table y later in omega arith)
    (among number (map (λ (shift : Shift). shift.train) (shifts_from (suc number) table)) y (subst P (with_head number bound table is) has)))
    (λ (is : bound.present ≡ false). let low = numbers_above (suc number) table y (subst P (without_head number bound table is) has) in omega arith)
    (cases_Bool bound.present)

pub by_number : (number : ℕ) (table : List TrainBound) → IsStrictlyIncreasing (map (λ (shift : Shift). shift.train) (shifts_from number table))
by_number number [] = λ k within. absurd (omega arith)
by_number number (bound ∷ table) =
    let P : List Shift → Type 0 = λ xs. IsStrictlyIncreasing (map (λ (shift : Shift). shift.train) xs) in
    let rest = by_number (suc number) table in
    ⊎_elim
    (λ (is : bound.present ≡ true). subst P (sym (with_head number bound table is))
    (increasing_more number (map (λ (shift : Shift). shift.train) (shifts_from (suc number) table)) (λ y has. let low = numbers_above (suc number) table y has in omega arith) rest))
    (λ (is : bound.present ≡ false). subst P (sym (without_head number bound table is)) rest)
    (cases_Bool bound.present)

-- the shift that is found for a train is that of its bound
shift_is :
    (number : ℕ) (table : List TrainBound) (t : ℕ) → (bound_of table t).present ≡ true
    → shift_for (shifts_from number table) (number + t) ≡ Some (shift_at table number t)
shift_is number [] t here = absurd (false≢true here)
shift_is number (bound ∷ table) zero here =
    let own : Shift = record { train = number; earlier = bound.earlier; tight = bound.tight } in
    ap (λ (xs : List Shift). shift_for xs (number + 0)) (with_head number bound table here)
    ∙ cond-true (number == number + 0) (Some own) _ (eq-eqb number (number + 0) (let e : number ≡ number + 0 = omega arith in e))
    ∙ ap (λ (s : Shift). Some s) (sym (head_is number bound table))
shift_is number (bound ∷ table) (suc t) here =
    let own : Shift = record { train = number; earlier = bound.earlier; tight = bound.tight } in
    let later : shift_for (shifts_from (suc number) table) (number + suc t) ≡ Some (shift_at (bound ∷ table) number (suc t)) =
    ap (λ n. shift_for (shifts_from (suc number) table) n) (let e : number + suc t ≡ suc number + t = omega arith in e)
    ∙ shift_is (suc number) table t here ∙ ap (λ (s : Shift). Some s) (rest_is number t bound table) in
    ⊎_elim
    (λ (is : bound.present ≡ true). ap (λ (xs : List Shift). shift_for xs (number + suc t)) (with_head number bound table is)
    ∙ cond-false (number == number + suc t) (Some own) _ (ne_eqb number (number + suc t) (λ same. absurd (omega arith))) ∙ later)
    (λ (is : bound.present ≡ false). ap (λ (xs : List Shift). shift_for xs (number + suc t)) (without_head number bound table is) ∙ later)
    (cases_Bool bound.present)

-- what the shifts say of a train
pub earlier_is :
    (number : ℕ) (table : List TrainBound) (t : ℕ) → (bound_of table t).present ≡ true
    → earlier_of (shifts_from number table) (number + t) ≡ limit_of table t
earlier_is number table t here =
    ap (λ (o : Option Shift). option_map_or (λ (shift : Shift). shift.earlier) o 0) (shift_is number table t here)

tight_is :
    (number : ℕ) (table : List TrainBound) (t : ℕ) → (bound_of table t).present ≡ true
    → tight_of (shifts_from number table) (number + t) ≡ (bound_of table t).tight
tight_is number table t here =
    ap (λ (o : Option Shift). option_map_or (λ (shift : Shift). shift.tight) o Start) (shift_is number table t here)

-- there are as many shifts as fixed bounds, where the trains that are present are those that are fixed
pub as_many :
    (number : ℕ) (table : List TrainBound) → ((t : ℕ) → (bound_of table t).fixed ≡ (bound_of table t).present)
    → length (shifts_from number table) ≡ length (filter is_fixed table)
as_many number [] agree = refl
as_many number (bound ∷ table) agree =
    let rest = as_many (suc number) table (λ t. agree (suc t)) in
    let same : bound.fixed ≡ bound.present = agree 0 in
    ⊎_elim
    (λ (is : bound.present ≡ true). ap (λ (xs : List Shift). length xs) (with_head number bound table is) ∙ ap (λ n. suc n) rest
    ∙ ap (λ (xs : List TrainBound). length xs) (sym (cond-true bound.fixed (bound ∷ filter is_fixed table) (filter is_fixed table) (same ∙ is))))
    (λ (is : bound.present ≡ false). ap (λ (xs : List Shift). length xs) (without_head number bound table is) ∙ rest
    ∙ ap (λ (xs : List TrainBound). length xs) (sym (cond-false bound.fixed (bound ∷ filter is_fixed table) (filter is_fixed table) (same ∙ is))))
    (cases_Bool bound.present)

-- what leads to the begin of the window over the bounds does so over the shifts
ends : (o : Option ℕ) → ((a : ℕ) → o ≡ Some a → ⊥) → is_none o ≡ true
ends None never = refl
ends (Some a) never = absurd (never a refl)

goes_on : (f : ℕ → Bool) (o : Option ℕ) → ((a : ℕ) → o ≡ Some a → f a ≡ true) → option_map_or f o true ≡ true
goes_on f None on = refl
goes_on f (Some a) on = on a refl

pub leads :
    (table : List TrainBound) → ((t : ℕ) → (bound_of table t).fixed ≡ true → (bound_of table t).present ≡ true) → (steps t : ℕ)
    → Leads table steps t → leads_to_start (shifts_from 0 table) steps t ≡ true
leads table present zero t way =
    let e : 0 + t ≡ t = omega arith in
    let same : tight_of (shifts_from 0 table) t ≡ (bound_of table t).tight = ap (λ n. tight_of (shifts_from 0 table) n) (sym e) ∙ tight_is 0 table t (present t way.0) in
    ends (touched_train (tight_of (shifts_from 0 table) t)) (λ a is. way.1 a (sym (ap (λ (by : Tight). touched_train by) same) ∙ is))
leads table present (suc steps) t way =
    let e : 0 + t ≡ t = omega arith in
    let same : tight_of (shifts_from 0 table) t ≡ (bound_of table t).tight = ap (λ n. tight_of (shifts_from 0 table) n) (sym e) ∙ tight_is 0 table t (present t way.0) in
    goes_on (leads_to_start (shifts_from 0 table) steps) (touched_train (tight_of (shifts_from 0 table) t)) (λ a is. leads table present steps a (way.1 a (sym (ap (λ (by : Tight). touched_train by) same) ∙ is)))
