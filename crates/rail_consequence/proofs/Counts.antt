-- Counting the trains that need a section for a move that they have left.
use Rattle.std.proofs.Common.{◌≡◌, ◌≢◌, ℕ, zero, suc, ◌+◌, ◌*◌, ◌<◌, ◌≤◌, Bool, true, false, cond, not, ◌&&◌, ◌||◌, eqb, ltb, leb, List, [], ◌∷◌, length, get_or, set, take, replicate, refl, sym, ap, ◌∙◌, subst, ◌⊎◌, inl, inr, ⊎_elim, arith}
use Rattle.std.proofs.lemmas.Bool.{cases_lt, cases_eq, cases_Bool, false≢true, eqb-true, eq-eqb, le-leb, leb-true, lt-leb, lt-ltb, le-ltb, cond-true, cond-false, and_from, and_left, and_right, and_parts, or_cases, or_from, or_left, or_right}
use Rattle.std.proofs.lemmas.List.{get_or-set_same, get_or-set_other, length-set, get_or_past, get_or-replicate, length-replicate, take_all}
use Rattle.std.proofs.lemmas.List.Folds.{list_any_at, list_any_more}
use Rattle.std.proofs.lemmas.List.Sums.{sum_by-cons}
use Rattle.rail_base.specs.declared.limits.TheConstants.{TRAINS}
use Rattle.rail_rules.specs.Numbers.{sum_below, is_in}
use Rattle.rail_sets.specs.Counts.{Columns}
use Rattle.rail_sets.specs.Sets.{has}
use Rattle.rail_rules.specs.Moves.{Moves}
use Rattle.rail_rules.specs.Places.{place_of, after}
use Rattle.rail_rules.proofs.CallerLemmas.{any_below_at, any_below_found, any_below_from, any_below_none, sum_below_same}
use Rattle.rail_consequence.specs.Needs.{count_of, needs_from, needs_left, one_if, times, IsAmong, IsCounted, IsIdleBehind, IsRecounted, IsSet, IsTallyFor, Placed}

-- one where it is so
pub one_true : (is : Bool) → is ≡ true → one_if is ≡ 1
one_true is e = cond-true is 1 0 e

pub one_false : (is : Bool) → is ≡ false → one_if is ≡ 0
one_false is e = cond-false is 1 0 e

pub one_few : (is : Bool) → one_if is ≤ 1
one_few true = omega arith
one_few false = omega arith

pub one_none : (is : Bool) → one_if is ≡ 0 → is ≡ false
one_none is none = ⊎_elim (λ e. absurd (omega (arith, one_true is e, none))) (λ e. e) (cases_Bool is)

-- numbers in a list
pub times-cons : (x y : ℕ) (ys : List ℕ) → times x (y ∷ ys) ≡ cond (eqb y x) 1 0 + times x ys
times-cons x y ys = sum_by-cons (λ z. cond (eqb z x) 1 0) y ys

pub in_at : (x : ℕ) (xs : List ℕ) (i : ℕ) → i < length xs → x ≡ get_or xs i x → is_in x xs ≡ true
in_at x xs i lt is = list_any_at (λ y. eqb y x) xs i x lt (ap (λ y. eqb y x) (sym is) ∙ eq-eqb x x refl)

pub in_take_more : (x y : ℕ) (xs : List ℕ) (i : ℕ) → i < length xs → y ≡ get_or xs i y → is_in x (take (i + 1) xs) ≡ true → (is_in x (take i xs) ≡ true) ⊎ (y ≡ x)
in_take_more x y xs i lt is found =
    let split = or_cases (is_in x (take i xs)) (eqb y x) (ap (λ z. is_in x (take i xs) || eqb z x) is ∙ sym (list_any_more (λ z. eqb z x) xs i y lt) ∙ found) in
    ⊎_elim (λ earlier. inl earlier) (λ here. inr (eqb-true y x here)) split

pub in_take_earlier : (x y : ℕ) (xs : List ℕ) (i : ℕ) → i < length xs → y ≡ get_or xs i y → x ≢ y → is_in x (take (i + 1) xs) ≡ true → is_in x (take i xs) ≡ true
in_take_earlier x y xs i lt is ne found = ⊎_elim (λ earlier. earlier) (λ here. absurd (ne (sym here))) (in_take_more x y xs i lt is found)

pub in_take_all : (x : ℕ) (xs : List ℕ) (i : ℕ) → length xs ≤ i → is_in x xs ≡ true → is_in x (take i xs) ≡ true
in_take_all x xs i le is = ap (is_in x) (take_all i xs le) ∙ is

-- a number of a list has an index in it
pub in_index : (x : ℕ) (xs : List ℕ) → is_in x xs ≡ true → (i : ℕ) × (i < length xs) × (get_or xs i 0 ≡ x)
in_index x [] found = absurd (false≢true found)
in_index x (y ∷ ys) found = ⊎_elim
    (λ here. (0, omega arith, eqb-true y x here))
    (λ later. let rest = in_index x ys later in (suc rest.0, omega (arith, rest.1), rest.2))
    (or_cases (eqb y x) (is_in x ys) found)

-- counts that are all 0
pub zeros_at : (n i : ℕ) → get_or {A = ℕ} (replicate n 0) i 0 ≡ 0
zeros_at n i =
    ⊎_elim
    (λ within. get_or-replicate n i 0 0 within)
    (λ past. get_or_past (replicate n 0) i 0 (omega (arith, past, length-replicate {A = ℕ} n 0)))
    (cases_lt i n)

-- sums over numbers
pub sum_zero : (f : ℕ → ℕ) (n : ℕ) → ((i : ℕ) → i < n → f i ≡ 0) → sum_below f n ≡ 0
sum_zero f zero none = refl
sum_zero f (suc n) none = omega (arith, sum_zero f n (λ i lt. none i (omega arith)), none n (omega arith))

-- behind the sections that the moves need none is counted
pub none_behind : (plan : Moves) (s : List ℕ) (counts : Columns) (n : ℕ) → length s ≡ plan.trains → ((t i x : ℕ) → t < plan.trains → is_in x (plan.claim t i) ≡ true → x < n) → IsCounted plan s counts → IsIdleBehind n counts
none_behind plan s counts n long narrow counted x behind =
    counted x
    ∙ sum_zero (λ t. one_if (needs_left plan t (place_of s t) x)) (length s) (λ t lt.
    ⊎_elim
    (λ is.
    let needed = (and_parts (ltb 0 (place_of s t)) (needs_from plan t (place_of s t) x) is).1 in
    let found = any_below_found (λ m. leb (place_of s t) m && is_in x (plan.claim t m)) (plan.moves t) needed in
    let claimed = (and_parts (leb (place_of s t) found.0) (is_in x (plan.claim t found.0)) found.2).1 in
    absurd (omega (arith, behind, narrow t found.0 x (omega (arith, lt, long)) claimed)))
    (λ out. one_false (needs_left plan t (place_of s t) x) out)
    (cases_Bool (needs_left plan t (place_of s t) x)))

-- so counts are right that were taken over from right ones in front
pub counted_front :
    (plan : Moves)
    (s : List ℕ)
    (old counts new : Columns)
    (n : ℕ)
    → ((x : ℕ) → x < n → count_of new x ≡ count_of counts x)
    → ((x : ℕ) → n ≤ x → count_of new x ≡ count_of old x)
    → IsIdleBehind n old → IsIdleBehind n counts → IsCounted plan s counts → IsCounted plan s new
counted_front plan s old counts new n front rest idle none counted x =
    ⊎_elim (λ lt. front x lt) (λ past. rest x past ∙ idle x past ∙ sym (none x past)) (cases_lt x n) ∙ counted x

pub zero_at : (f : ℕ → ℕ) (n i : ℕ) → sum_below f n ≡ 0 → i < n → f i ≡ 0
zero_at f zero i none lt = absurd (omega arith)
zero_at f (suc n) i none lt =
    ⊎_elim
    (λ below. zero_at f n i (omega (arith, none)) below)
    (λ above. let same : i ≡ n = omega arith in ap f same ∙ omega (arith, none))
    (cases_lt i n)

pub sum_most : (f : ℕ → ℕ) (n k : ℕ) → ((i : ℕ) → i < n → f i ≤ k) → sum_below f n ≤ n * k
sum_most f zero k h = omega arith
sum_most f (suc n) k h = omega (arith, sum_most f n k (λ i lt. h i (omega arith)), h n (omega arith))

-- where one item changes and the others are the same, so does the sum
pub sum_shift : (f g : ℕ → ℕ) (n t c d : ℕ) → t < n → f t + c ≡ g t + d → ((i : ℕ) → i ≢ t → f i ≡ g i) → sum_below f n + c ≡ sum_below g n + d
sum_shift f g zero t c d lt here same = absurd (omega arith)
sum_shift f g (suc n) t c d lt here same =
    ⊎_elim
    (λ below. omega (arith, sum_shift f g n t c d below here same, same n (λ e. absurd (omega (arith, e)))))
    (λ above.
    let last : n ≡ t = omega arith in
    let before : sum_below f n ≡ sum_below g n = sum_below_same f g n (λ i lt. same i (λ e. absurd (omega (arith, e)))) in
    omega (arith, before, ap f last, ap g last, here))
    (cases_lt t n)

pub item_within : (f : ℕ → ℕ) (n t : ℕ) → t < n → f t ≤ sum_below f n
item_within f zero t lt = absurd (omega arith)
item_within f (suc n) t lt =
    ⊎_elim
    (λ below. omega (arith, item_within f n t below))
    (λ above. let last : t ≡ n = omega arith in omega (arith, ap f last))
    (cases_lt t n)

-- the moves from a place on are that from the place, and the later ones
module _ (plan : Moves) (t p x : ℕ) where
  abbrev later : ℕ → ℕ → Bool
  later from m = leb from m && is_in x (plan.claim t m)

  from_now : p < plan.moves t → is_in x (plan.claim t p) ≡ true → needs_from plan t p x ≡ true
  from_now lt is = any_below_from (later p) (plan.moves t) p lt (and_from (leb p p) (is_in x (plan.claim t p)) (le-leb p p (omega arith)) is)

  from_later : needs_from plan t (suc p) x ≡ true → needs_from plan t p x ≡ true
  from_later is =
      let found = any_below_found (later (suc p)) (plan.moves t) is in
      let parts = and_parts (leb (suc p) found.0) (is_in x (plan.claim t found.0)) found.2 in
      any_below_from (later p) (plan.moves t) found.0 found.1
      (and_from (leb p found.0) (is_in x (plan.claim t found.0)) (le-leb p found.0 (omega (arith, leb-true (suc p) found.0 parts.0))) parts.1)

  from_neither : is_in x (plan.claim t p) ≡ false → needs_from plan t (suc p) x ≡ false → needs_from plan t p x ≡ false
  from_neither now after =
      any_below_none (later p) (plan.moves t) (λ m lt.
      ⊎_elim
      (λ before. and_left (leb p m) (is_in x (plan.claim t m)) (lt-leb p m before))
      (λ from.
      ⊎_elim
      (λ past.
      and_right (leb p m) (is_in x (plan.claim t m))
      (⊎_elim
      (λ is. absurd (false≢true (sym (any_below_at (later (suc p)) (plan.moves t) m after lt) ∙ and_from (leb (suc p) m) (is_in x (plan.claim t m)) (le-leb (suc p) m (omega (arith, past))) is)))
      (λ out. out)
      (cases_Bool (is_in x (plan.claim t m)))))
      (λ here. and_right (leb p m) (is_in x (plan.claim t m)) (let same : m ≡ p = omega (arith, from, here) in ap (λ i. is_in x (plan.claim t i)) same ∙ now))
      (cases_lt p m))
      (cases_lt m p))

  pub from_next : p < plan.moves t → needs_from plan t p x ≡ (is_in x (plan.claim t p) || needs_from plan t (suc p) x)
  from_next lt =
      ⊎_elim
      (λ is. from_now lt is ∙ sym (or_left (is_in x (plan.claim t p)) (needs_from plan t (suc p) x) is))
      (λ out. ⊎_elim
      (λ is. from_later is ∙ sym (or_right (is_in x (plan.claim t p)) (needs_from plan t (suc p) x) is))
      (λ none. from_neither out none ∙ sym (or_from (is_in x (plan.claim t p)) (needs_from plan t (suc p) x) out none))
      (cases_Bool (needs_from plan t (suc p) x)))
      (cases_Bool (is_in x (plan.claim t p)))

  pub left_entered : 0 < p → needs_left plan t p x ≡ needs_from plan t p x
  left_entered low = ap (λ b. b && needs_from plan t p x) (lt-ltb 0 p low)

  pub left_end : plan.moves t ≤ p → needs_left plan t p x ≡ false
  left_end past = and_right (ltb 0 p) (needs_from plan t p x) (any_below_none (later p) (plan.moves t) (λ m lt. and_left (leb p m) (is_in x (plan.claim t m)) (lt-leb p m (omega (arith, past, lt)))))

  -- a section of a move that is left
  pub left_at : (i : ℕ) → 0 < p → p ≤ i → i < plan.moves t → is_in x (plan.claim t i) ≡ true → needs_left plan t p x ≡ true
  left_at i low from lt is = left_entered low ∙ any_below_from (later p) (plan.moves t) i lt (and_from (leb p i) (is_in x (plan.claim t i)) (le-leb p i from) is)

  pub left_not : (i : ℕ) → needs_left plan t p x ≡ false → 0 < p → p ≤ i → i < plan.moves t → is_in x (plan.claim t i) ≡ false
  left_not i none low from lt = ⊎_elim (λ is. absurd (false≢true (sym none ∙ left_at i low from lt is))) (λ out. out) (cases_Bool (is_in x (plan.claim t i)))

  pub left_none : ((i : ℕ) → 0 < p → p ≤ i → i < plan.moves t → is_in x (plan.claim t i) ≡ false) → needs_left plan t p x ≡ false
  left_none out =
      ⊎_elim
      (λ low.
      left_entered low
      ∙ any_below_none (later p) (plan.moves t) (λ i lt.
      ⊎_elim
      (λ before. and_left (leb p i) (is_in x (plan.claim t i)) (lt-leb p i before))
      (λ from. and_right (leb p i) (is_in x (plan.claim t i)) (out i low from lt))
      (cases_lt i p)))
      (λ zero. and_left (ltb 0 p) (needs_from plan t p x) (le-ltb 0 p zero))
      (cases_lt 0 p)

-- what is needed from a place on is needed from each place before it on
pub from_earlier : (plan : Moves) (t p q x : ℕ) → p ≤ q → needs_from plan t q x ≡ true → needs_from plan t p x ≡ true
from_earlier plan t p q x earlier needs =
    let found = any_below_found (λ m. leb q m && is_in x (plan.claim t m)) (plan.moves t) needs in
    let parts = and_parts (leb q found.0) (is_in x (plan.claim t found.0)) found.2 in
    any_below_from (λ m. leb p m && is_in x (plan.claim t m)) (plan.moves t) found.0 found.1
    (and_from (leb p found.0) (is_in x (plan.claim t found.0)) (le-leb p found.0 (omega (arith, earlier, leb-true q found.0 parts.0))) parts.1)

-- what is so, and was not, is counted once more
one_more : (was is : Bool) → (was ≡ true → is ≡ true) → one_if (is && not was) + one_if was ≡ one_if is
one_more true true still = refl
one_more true false still = absurd (false≢true (still refl))
one_more false true still = refl
one_more false false still = refl

-- sets of what a train needs from a place on, and from a later one on
module _ (plan : Moves) (t p q : ℕ) (low : 0 < p) (earlier : p ≤ q) (early late : List ℕ) (is_early : IsSet early (needs_from plan t p)) (is_late : IsSet late (needs_from plan t q)) where
  -- the needs at the two places differ by what is in the one set alone
  left_differs : (x : ℕ) → one_if (has early x && not (has late x)) + one_if (needs_left plan t q x) ≡ one_if (needs_left plan t p x)
  left_differs x =
      omega (
        arith,
        one_more (has late x) (has early x) (λ is. is_early x ∙ from_earlier plan t p q x earlier (sym (is_late x) ∙ is)),
        ap one_if (left_entered plan t p x low ∙ sym (is_early x)),
        ap one_if (left_entered plan t q x (omega (arith, low, earlier)) ∙ sym (is_late x)),
      )

  -- counted once less is what the train needs no more at the later place
  pub recounted_down : (from to : ℕ) (old new : Columns) → ((x : ℕ) → needs_left plan t p x ≡ needs_left plan t from x) → ((x : ℕ) → needs_left plan t q x ≡ needs_left plan t to x)
      → ((x : ℕ) → count_of new x + one_if (has early x && not (has late x)) ≡ count_of old x) → IsRecounted plan t from to old new
  recounted_down from to old new first last less = λ x. omega (arith, less x, left_differs x, ap one_if (first x), ap one_if (last x))

  -- and counted once more, where it goes back
  pub recounted_up : (from to : ℕ) (old new : Columns) → ((x : ℕ) → needs_left plan t q x ≡ needs_left plan t from x) → ((x : ℕ) → needs_left plan t p x ≡ needs_left plan t to x)
      → ((x : ℕ) → count_of new x ≡ count_of old x + one_if (has early x && not (has late x))) → IsRecounted plan t from to old new
  recounted_up from to old new first last more = λ x. omega (arith, more x, left_differs x, ap one_if (first x), ap one_if (last x))

-- the counts of a state
module _ (plan : Moves) (s : List ℕ) (a : Columns) (counted : IsCounted plan s a) (t : ℕ) (listed : t < length s) where
  abbrev needy : ℕ → ℕ → ℕ
  needy x u = one_if (needs_left plan u (place_of s u) x)

  pub among_counted : length s ≤ TRAINS → IsAmong plan t (place_of s t) a
  among_counted few = record {
    some = λ x. omega (arith, counted x, item_within (needy x) (length s) t listed);
    few = λ x. omega (arith, counted x, sum_most (needy x) (length s) 1 (λ u below. one_few (needs_left plan u (place_of s u) x)), few);
  }

  pub counted_on : (p : ℕ) (b : Columns) → IsRecounted plan t (place_of s t) p a b → IsCounted plan (set s t p) b
  counted_on p b moved = λ x.
      let next : ℕ → ℕ = λ u. one_if (needs_left plan u (place_of (set s t p) u) x) in
      let there : next t ≡ one_if (needs_left plan t p x) = ap (λ q. one_if (needs_left plan t q x)) (get_or-set_same s t p 0 listed) in
      omega (
        arith,
        counted x,
        moved x,
        there,
        sum_shift (needy x) next (length s) t (next t) (needy x t) listed (omega arith)
            (λ u ne. ap (λ q. one_if (needs_left plan u q x)) (sym (get_or-set_other s t u p 0 ne))),
        ap (sum_below next) (length-set s t p),
      )

-- one train of a tally at another place
pub tallied_on : (plan : Moves) (a : Placed) (t p : ℕ) (counts : Columns) → IsTallyFor plan a → t < plan.trains → p ≤ plan.moves t
    → IsRecounted plan t (place_of a.positions t) p a.counts counts → IsTallyFor plan (record { positions = set a.positions t p; counts = counts })
tallied_on plan a t p counts kept listed within moved = record {
  long = length-set a.positions t p ∙ kept.long;
  within = λ u lt.
      ⊎_elim
      (λ same.
      let P : ℕ → Type 0 = λ k. place_of (set a.positions t p) k ≤ plan.moves k in
      subst P (sym same) (omega (arith, get_or-set_same a.positions t p 0 (omega (arith, kept.long, listed)), within)))
      (λ ne. omega (arith, get_or-set_other a.positions t u p 0 ne, kept.within u lt))
      (cases_eq u t);
  counted = counted_on plan a.positions a.counts kept.counted t (omega (arith, kept.long, listed)) p counts moved;
}

-- nobody has entered
pub counted_none : (plan : Moves) (s : List ℕ) (a : Columns) → ((t : ℕ) → place_of s t ≡ 0) → ((x : ℕ) → count_of a x ≡ 0) → IsCounted plan s a
counted_none plan s a outside none = λ x.
    none x ∙ sym (sum_zero (λ t. one_if (needs_left plan t (place_of s t) x)) (length s) (λ t below. ap (λ q. one_if (needs_left plan t q x)) (outside t)))
