-- Counts in base 2, digit by digit.
use Rattle.std.proofs.Common.{◌≡◌, ◌≢◌, ℕ, zero, suc, ◌+◌, ◌-◌, ◌*◌, ◌/◌, ◌%◌, ◌^◌, ◌<◌, ◌≤◌, min, max, Bool, true, false, List, [], length, get_or, set, refl, sym, ap, ◌∙◌, subst, ⊎_elim, arith, w64}
use Rattle.std.specs.Prelude.{◌==◌, ◌&&◌, ◌||◌, bit_and, bit_or, bit_xor, nat_le, not}
use Rattle.std.specs.Cmp.{both_ways}
use Rattle.std.specs.Int.{bit_at, bit_not, trailing_zeros}
use Rattle.std.proofs.lemmas.Bool.{cases_Bool, cases_eq, cases_lt, eq-eqb, eqb-true, false≢true, le-leb, leb-false, leb-true}
use Rattle.std.proofs.lemmas.List.{get_or_past, get_or-set_same, get_or-set_other, length-set}
use Rattle.std.proofs.lemmas.Nat.{and_le_l, pow_pos}
use Rattle.std.proofs.lemmas.Nat.Bits.{bit_at_and, bit_at_not, bit_at_or, bit_at_xor, bit_at-lt, bit_at-trailing_zeros, bit_at-zero}
use Rattle.rail_base.specs.declared.limits.TheConstants.{TRAINS}
use Rattle.rail_sets.specs.declared.counts.TheConstants.{DIGITS}
use Rattle.rail_sets.specs.Counts.{Columns, column, count_of, digits_below, one_if}
use Rattle.rail_sets.specs.Sets.{has}
use Rattle.rail_sets.proofs.Words.{IsMade, bit_section, has_bit, has_past, made_more, or_out, same_word}
use native.Mathlib.Nat.{add_comm, pow-suc}

-- digits that are the same make up the same
pub digits_same : (a b : List ℕ) (n bit : ℕ) → ((m : ℕ) → m < n → get_or a m 0 ≡ get_or b m 0) → digits_below a n bit ≡ digits_below b n bit
digits_same a b zero bit same = refl
digits_same a b (suc n) bit same =
    ap (λ k. k + 2 ^ n * bit_at (get_or a n 0) bit) (digits_same a b n bit (λ m lt. same m (omega (arith, lt))))
    ∙ ap (λ w. digits_below b n bit + 2 ^ n * bit_at w bit) (same n (omega arith))

-- and digits that are the same behind the first so many add the same
pub digits_ahead : (a b : List ℕ) (n k bit : ℕ) → ((m : ℕ) → n ≤ m → get_or a m 0 ≡ get_or b m 0) → digits_below a (n + k) bit + digits_below b n bit ≡ digits_below b (n + k) bit + digits_below a n bit
digits_ahead a b n zero bit same = let e : n + 0 ≡ n = omega arith in ap (λ m. digits_below a m bit + digits_below b n bit) e ∙ add_comm (digits_below a n bit) (digits_below b n bit) ∙ ap (λ m. digits_below b m bit + digits_below a n bit) (sym e)
digits_ahead a b n (suc k) bit same =
    let e : n + suc k ≡ suc (n + k) = omega arith in
    let last = ap (λ w. 2 ^ (n + k) * bit_at w bit) (same (n + k) (omega arith)) in
    ap (λ m. digits_below a m bit + digits_below b n bit) e ∙ omega (arith, digits_ahead a b n k bit same, last) ∙ ap (λ m. digits_below b m bit + digits_below a n bit) (sym e)

pow_one : (n : ℕ) → 2 ^ (n + 1) ≡ 2 * 2 ^ n
pow_one n = let more : n + 1 ≡ suc n = omega arith in ap (λ m. 2 ^ m) more ∙ omega (arith, pow-suc 2 n)

-- what a digit and what is carried to it make together
adds : (p o c : ℕ) → o < 2 → c < 2 → p * ((o + c) % 2) + 2 * p * min o c ≡ p * o + p * c
adds p o c low_o low_c =
    let F : ℕ → ℕ → Type 0 = λ x y. p * ((x + y) % 2) + 2 * p * min x y ≡ p * x + p * y in
    let at : (x : ℕ) → F x 0 → F x 1 → F x c = λ x none one.
    ⊎_elim (λ is. subst (F x) (sym is) none) (λ some. let is : c ≡ 1 = omega (arith, some, low_c) in subst (F x) (sym is) one) (cases_eq c 0) in
    ⊎_elim
    (λ is. subst (λ x. F x c) (sym is) (at 0 (omega arith) (omega arith)))
    (λ some. let is : o ≡ 1 = omega (arith, some, low_o) in subst (λ x. F x c) (sym is) (at 1 (omega arith) (omega arith)))
    (cases_eq o 0)

-- what a digit and what is borrowed from it make together
takes : (p o b : ℕ) → o < 2 → b < 2 → p * ((o + b) % 2) + p * b ≡ p * o + 2 * p * min (1 - o) b
takes p o b low_o low_b =
    let F : ℕ → ℕ → Type 0 = λ x y. p * ((x + y) % 2) + p * y ≡ p * x + 2 * p * min (1 - x) y in
    let at : (x : ℕ) → F x 0 → F x 1 → F x b = λ x none one.
    ⊎_elim (λ is. subst (F x) (sym is) none) (λ some. let is : b ≡ 1 = omega (arith, some, low_b) in subst (F x) (sym is) one) (cases_eq b 0) in
    ⊎_elim
    (λ is. subst (λ x. F x b) (sym is) (at 0 (omega arith) (omega arith)))
    (λ some. let is : o ≡ 1 = omega (arith, some, low_o) in subst (λ x. F x b) (sym is) (at 1 (omega arith) (omega arith)))
    (cases_eq o 0)

-- with what is still carried, the first so many digits make up what they made up before and what is added
pub record IsCarry (old new : List ℕ) (more carried n : ℕ) : Type 0 where
  pub long : length new ≡ length old
  pub sum : (bit : ℕ) → bit < 64 → digits_below new n bit + 2 ^ n * bit_at carried bit ≡ digits_below old n bit + bit_at more bit
  pub rest : (m : ℕ) → n ≤ m → get_or new m 0 ≡ get_or old m 0

-- with what is still borrowed, the first so many digits make up what they made up before and what is taken off
pub record IsBorrow (old new : List ℕ) (less borrowed n : ℕ) : Type 0 where
  pub long : length new ≡ length old
  pub sum : (bit : ℕ) → bit < 64 → digits_below new n bit + bit_at less bit ≡ digits_below old n bit + 2 ^ n * bit_at borrowed bit
  pub rest : (m : ℕ) → n ≤ m → get_or new m 0 ≡ get_or old m 0

-- where nothing is carried any more all digits make up the sum
pub carried_out : (old new : List ℕ) (more carried n m : ℕ) → n ≤ m → carried ≡ 0 → IsCarry old new more carried n → (bit : ℕ) → bit < 64 → digits_below new m bit ≡ digits_below old m bit + bit_at more bit
carried_out old new more carried n m within none is bit low =
    let all : n + (m - n) ≡ m = omega (arith, within) in
    let nothing : 2 ^ n * bit_at carried bit ≡ 0 = ap (λ w. 2 ^ n * bit_at w bit) none ∙ ap (λ b. 2 ^ n * b) (bit_at-zero bit) ∙ omega arith in
    let ahead = digits_ahead new old n (m - n) bit is.rest in
    let sum = is.sum bit low in
    subst (λ k. digits_below new k bit ≡ digits_below old k bit + bit_at more bit) all (omega (arith, ahead, sum, nothing))

-- and where nothing is borrowed any more, the difference
pub borrowed_out : (old new : List ℕ) (less borrowed n m : ℕ) → n ≤ m → borrowed ≡ 0 → IsBorrow old new less borrowed n → (bit : ℕ) → bit < 64 → digits_below new m bit + bit_at less bit ≡ digits_below old m bit
borrowed_out old new less borrowed n m within none is bit low =
    let all : n + (m - n) ≡ m = omega (arith, within) in
    let nothing : 2 ^ n * bit_at borrowed bit ≡ 0 = ap (λ w. 2 ^ n * bit_at w bit) none ∙ ap (λ b. 2 ^ n * b) (bit_at-zero bit) ∙ omega arith in
    let ahead = digits_ahead new old n (m - n) bit is.rest in
    let sum = is.sum bit low in
    subst (λ k. digits_below new k bit + bit_at less bit ≡ digits_below old k bit) all (omega (arith, ahead, sum, nothing))

-- one digit more
module _ (old new : List ℕ) (n d : ℕ) (within : n < length new) where
  abbrev next : List ℕ
  next = set new n d

  before : (bit : ℕ) → digits_below next n bit ≡ digits_below new n bit
  before bit = digits_same next new n bit (λ m lt. get_or-set_other new n m d 0 (λ same. omega (arith, same, lt)))

  here : (bit : ℕ) → digits_below next (n + 1) bit ≡ digits_below new n bit + 2 ^ n * bit_at d bit
  here bit =
      let more : n + 1 ≡ suc n = omega arith in
      ap (λ m. digits_below next m bit) more ∙ omega (arith, before bit, ap (λ w. 2 ^ n * bit_at w bit) (get_or-set_same new n d 0 within))

  rest_same : ((m : ℕ) → n ≤ m → get_or new m 0 ≡ get_or old m 0) → (m : ℕ) → n + 1 ≤ m → get_or next m 0 ≡ get_or old m 0
  rest_same rest m from = get_or-set_other new n m d 0 (λ same. omega (arith, same, from)) ∙ rest m (omega (arith, from))

  pub carried_on : (more carried : ℕ) → IsCarry old new more carried n → d ≡ bit_xor (get_or new n 0) carried → IsCarry old next more (bit_and (get_or new n 0) carried) (n + 1)
  carried_on more carried is made = record {
    long = length-set new n d ∙ is.long;
    sum = λ bit low.
        let o : ℕ = bit_at (get_or new n 0) bit in
        let c : ℕ = bit_at carried bit in
        let old_here : digits_below old (n + 1) bit ≡ digits_below old n bit + 2 ^ n * o =
        (let one : n + 1 ≡ suc n = omega arith in ap (λ m. digits_below old m bit) one ∙ ap (λ w. digits_below old n bit + 2 ^ n * bit_at w bit) (sym (is.rest n (omega arith)))) in
        omega (
          arith,
          here bit,
          old_here,
          is.sum bit low,
          ap (λ x. 2 ^ n * x) (ap (λ w. bit_at w bit) made ∙ bit_at_xor (get_or new n 0) carried bit),
          ap (λ x. 2 ^ (n + 1) * x) (bit_at_and (get_or new n 0) carried bit),
          ap (λ x. x * min o c) (pow_one n),
          adds (2 ^ n) o c (bit_at-lt (get_or new n 0) bit) (bit_at-lt carried bit),
        );
    rest = rest_same is.rest;
  }

  pub borrowed_on : (less borrowed : ℕ) → get_or new n 0 < 2 ^ 64 → IsBorrow old new less borrowed n → d ≡ bit_xor (get_or new n 0) borrowed → IsBorrow old next less (bit_and (bit_not w64 (get_or new n 0)) borrowed) (n + 1)
  borrowed_on less borrowed fits is made = record {
    long = length-set new n d ∙ is.long;
    sum = λ bit low.
        let o : ℕ = bit_at (get_or new n 0) bit in
        let c : ℕ = bit_at borrowed bit in
        let old_here : digits_below old (n + 1) bit ≡ digits_below old n bit + 2 ^ n * o =
        (let one : n + 1 ≡ suc n = omega arith in ap (λ m. digits_below old m bit) one ∙ ap (λ w. digits_below old n bit + 2 ^ n * bit_at w bit) (sym (is.rest n (omega arith)))) in
        omega (
          arith,
          here bit,
          old_here,
          is.sum bit low,
          ap (λ x. 2 ^ n * x) (ap (λ w. bit_at w bit) made ∙ bit_at_xor (get_or new n 0) borrowed bit),
          ap (λ x. 2 ^ (n + 1) * x) (bit_at_and (bit_not w64 (get_or new n 0)) borrowed bit ∙ ap (λ x. min x c) (bit_at_not w64 (get_or new n 0) bit fits low)),
          ap (λ x. x * min (1 - o) c) (pow_one n),
          takes (2 ^ n) o c (bit_at-lt (get_or new n 0) bit) (bit_at-lt borrowed bit),
        );
    rest = rest_same is.rest;
  }

-- the word of the digits from the third one on, so many of them, has a section exactly where they make up something
pub record IsHigh (d : List ℕ) (high n : ℕ) : Type 0 where
  pub some : (bit : ℕ) → digits_below d 2 bit + 4 * bit_at high bit ≤ digits_below d (2 + n) bit
  pub none : (bit : ℕ) → bit_at high bit ≡ 0 → digits_below d (2 + n) bit ≡ digits_below d 2 bit

pub no_high : (d : List ℕ) → IsHigh d 0 0
no_high d = record {
  some = λ bit. let none = bit_at-zero bit in omega (arith, none);
  none = λ bit zero_bit. refl;
}

-- four times a power of 2 is the second one after it
four_more : (n : ℕ) → 2 ^ (2 + n) ≡ 4 * 2 ^ n
four_more n = let more : 2 + n ≡ suc (suc n) = omega arith in ap (λ m. 2 ^ m) more ∙ omega (arith, pow-suc 2 n, pow-suc 2 (suc n))

digit_more : (p b h : ℕ) → 1 ≤ p → b < 2 → h < 2 → (k low : ℕ) → low + 4 * h ≤ k → low + 4 * max h b ≤ k + 4 * p * b
digit_more p b h some low_b low_h k low is =
    ⊎_elim
    (λ (zero_b : b ≡ 0). omega (arith, is, zero_b))
    (λ (one : b ≢ 0). let is_one : b ≡ 1 = omega (arith, one, low_b) in subst (λ x. low + 4 * max h x ≤ k + 4 * p * x) (sym is_one) (omega (arith, is, some, low_h)))
    (cases_eq b 0)

-- a digit more
pub high_more : (d : List ℕ) (high n : ℕ) → IsHigh d high n → IsHigh d (bit_or high (get_or d (2 + n) 0)) (n + 1)
high_more d high n is =
    let one : 2 + (n + 1) ≡ suc (2 + n) = omega arith in
    let here : (bit : ℕ) → digits_below d (2 + (n + 1)) bit ≡ digits_below d (2 + n) bit + 4 * 2 ^ n * bit_at (get_or d (2 + n) 0) bit =
    λ bit. ap (λ m. digits_below d m bit) one ∙ ap (λ p. digits_below d (2 + n) bit + p * bit_at (get_or d (2 + n) 0) bit) (four_more n) in
    let either : (bit : ℕ) → bit_at (bit_or high (get_or d (2 + n) 0)) bit ≡ max (bit_at high bit) (bit_at (get_or d (2 + n) 0) bit) = λ bit. bit_at_or high (get_or d (2 + n) 0) bit in
    record {
      some = λ bit.
          let more = digit_more (2 ^ n) (bit_at (get_or d (2 + n) 0) bit) (bit_at high bit) (omega (arith, pow_pos n)) (bit_at-lt (get_or d (2 + n) 0) bit) (bit_at-lt high bit) (digits_below d (2 + n) bit) (digits_below d 2 bit) (is.some bit) in
          omega (arith, here bit, either bit, more);
      none = λ bit none.
          let zero_bit : bit_at (get_or d (2 + n) 0) bit ≡ 0 = omega (arith, none, either bit) in
          here bit ∙ omega (arith, ap (λ b. 4 * 2 ^ n * b) zero_bit, is.none bit (omega (arith, none, either bit)));
    }

-- tests on two numbers are the same where each is so exactly where the other is
same_test : (a b m n : ℕ) → ((a ≡ m) → (b ≡ n)) → ((b ≡ n) → (a ≡ m)) → (a == m) ≡ (b == n)
same_test a b m n there back = both_ways (a == m) (b == n) (λ is. eq-eqb b n (there (eqb-true a m is))) (λ is. eq-eqb a m (back (eqb-true b n is)))

twice_of : (ones twos high count o : ℕ) → ones < 2 → twos < 2 → high < 2 → ones + 2 * twos + 4 * high ≤ count → ((high ≡ 0) → count ≡ ones + 2 * twos)
    → o ≡ min (min twos (1 - ones)) (1 - high) → (o == 1) ≡ (count == 2)
twice_of ones twos high count o low_ones low_twos low_high some none made =
    same_test o count 1 2
    (λ is. omega (arith, none (omega (arith, is, made, low_high)), is, made, low_ones, low_twos))
    (λ is. let zero_high : high ≡ 0 = omega (arith, some, is, low_high) in omega (arith, none zero_high, zero_high, is, made, low_ones, low_twos))

many_of : (ones twos high count o : ℕ) → ones < 2 → twos < 2 → high < 2 → ones + 2 * twos + 4 * high ≤ count → ((high ≡ 0) → count ≡ ones + 2 * twos)
    → o ≡ max twos high → (o == 1) ≡ nat_le 2 count
many_of ones twos high count o low_ones low_twos low_high some none made =
    both_ways (o == 1) (nat_le 2 count)
    (λ is. le-leb 2 count (omega (arith, eqb-true o 1 is, some, made)))
    (λ is.
    eq-eqb o 1 (⊎_elim
    (λ (zero_high : high ≡ 0). omega (arith, none zero_high, leb-true 2 count is, low_ones, low_twos, made, zero_high))
    (λ (one : high ≢ 0). omega (arith, one, low_high, low_twos, made))
    (cases_eq high 0)))

low_digits : (d : List ℕ) (bit : ℕ) → digits_below d 2 bit ≡ bit_at (get_or d 0 0) bit + 2 * bit_at (get_or d 1 0) bit
low_digits d bit = omega arith

pub twice_by : (d : List ℕ) (high n bit : ℕ) → bit < 64 → get_or d 0 0 < 2 ^ 64 → high < 2 ^ 64 → IsHigh d high n
    → (bit_at (bit_and (bit_and (get_or d 1 0) (bit_not w64 (get_or d 0 0))) (bit_not w64 high)) bit == 1) ≡ (digits_below d (2 + n) bit == 2)
twice_by d high n bit low fits fits_high is =
    let c : ℕ = bit_at (get_or d 1 0) bit in
    twice_of (bit_at (get_or d 0 0) bit) c (bit_at high bit) (digits_below d (2 + n) bit) (bit_at (bit_and (bit_and (get_or d 1 0) (bit_not w64 (get_or d 0 0))) (bit_not w64 high)) bit)
    (bit_at-lt (get_or d 0 0) bit) (bit_at-lt (get_or d 1 0) bit) (bit_at-lt high bit)
    (omega (arith, is.some bit, low_digits d bit))
    (λ zero_high. is.none bit zero_high ∙ low_digits d bit)
    (bit_at_and (bit_and (get_or d 1 0) (bit_not w64 (get_or d 0 0))) (bit_not w64 high) bit
    ∙ ap (λ k. min k (bit_at (bit_not w64 high) bit)) (bit_at_and (get_or d 1 0) (bit_not w64 (get_or d 0 0)) bit ∙ ap (min c) (bit_at_not w64 (get_or d 0 0) bit fits low))
    ∙ ap (min (min c (1 - bit_at (get_or d 0 0) bit))) (bit_at_not w64 high bit fits_high low))

pub many_by : (d : List ℕ) (high n bit : ℕ) → IsHigh d high n → (bit_at (bit_or (get_or d 1 0) high) bit == 1) ≡ nat_le 2 (digits_below d (2 + n) bit)
many_by d high n bit is =
    many_of (bit_at (get_or d 0 0) bit) (bit_at (get_or d 1 0) bit) (bit_at high bit) (digits_below d (2 + n) bit) (bit_at (bit_or (get_or d 1 0) high) bit)
    (bit_at-lt (get_or d 0 0) bit) (bit_at-lt (get_or d 1 0) bit) (bit_at-lt high bit)
    (omega (arith, is.some bit, low_digits d bit))
    (λ zero_high. is.none bit zero_high ∙ low_digits d bit)
    (bit_at_or (get_or d 1 0) high bit)

digit_fits : (p b : ℕ) → b < 2 → p * b ≤ p
digit_fits p b low =
    ⊎_elim
    (λ (zero_b : b ≡ 0). subst (λ x. p * x ≤ p) (sym zero_b) (omega arith))
    (λ (one : b ≢ 0). let is_one : b ≡ 1 = omega (arith, one, low) in subst (λ x. p * x ≤ p) (sym is_one) (omega arith))
    (cases_eq b 0)

-- so many digits make up less than their power of 2
pub digits_fit : (d : List ℕ) (n bit : ℕ) → digits_below d n bit < 2 ^ n
digits_fit d zero bit = omega arith
digits_fit d (suc n) bit = omega (arith, digits_fit d n bit, digit_fits (2 ^ n) (bit_at (get_or d n 0) bit) (bit_at-lt (get_or d n 0) bit), pow-suc 2 n)

-- a count is below the power of all digits
pub column_fits : (d : List ℕ) (bit : ℕ) → column d bit < 2 ^ DIGITS
column_fits d bit = digits_fit d DIGITS bit

-- where there are no digits, nothing is counted
pub no_column : (bit : ℕ) → column [] bit ≡ 0
no_column bit = let none = bit_at-zero bit in omega (arith, none)

-- and nothing behind the columns
pub count_past : (columns : Columns) (x : ℕ) → length columns ≤ x / 64 → count_of columns x ≡ 0
count_past columns x past = ap (λ c. column c (x % 64)) (get_or_past columns (x / 64) [] past) ∙ no_column (x % 64)

-- each section of the first so many words that is in the one set and not in the other is counted once more
pub record IsUp (old new : Columns) (set other : List ℕ) (n : ℕ) : Type 0 where
  pub long : length new ≡ length old
  pub counted : (x : ℕ) → x < 64 * n → count_of new x ≡ count_of old x + one_if (has set x && not (has other x))
  pub rest : (k : ℕ) → n ≤ k → get_or new k [] ≡ get_or old k []

-- and is counted once less
pub record IsDown (old new : Columns) (set other : List ℕ) (n : ℕ) : Type 0 where
  pub long : length new ≡ length old
  pub counted : (x : ℕ) → x < 64 * n → count_of new x + one_if (has set x && not (has other x)) ≡ count_of old x
  pub rest : (k : ℕ) → n ≤ k → get_or new k [] ≡ get_or old k []

beyond_of : (a b : ℕ) → a < 2 → b < 2 → min a (1 - b) ≡ one_if ((a == 1) && not (b == 1))
beyond_of a b low_a low_b = grind (arith, low_a, low_b)

-- the bit of a word that is in the one set and not in the other
bit_beyond : (set other : List ℕ) (x : ℕ) → get_or other (x / 64) 0 < 2 ^ 64 → bit_at (bit_and (get_or set (x / 64) 0) (bit_not w64 (get_or other (x / 64) 0))) (x % 64) ≡ one_if (has set x && not (has other x))
bit_beyond set other x fits =
    let a : ℕ = bit_at (get_or set (x / 64) 0) (x % 64) in
    let b : ℕ = bit_at (get_or other (x / 64) 0) (x % 64) in
    bit_at_and (get_or set (x / 64) 0) (bit_not w64 (get_or other (x / 64) 0)) (x % 64)
    ∙ ap (min a) (bit_at_not w64 (get_or other (x / 64) 0) (x % 64) fits (omega arith))
    ∙ beyond_of a b (bit_at-lt (get_or set (x / 64) 0) (x % 64)) (bit_at-lt (get_or other (x / 64) 0) (x % 64))

-- a column more
module _ (old new : Columns) (one other : List ℕ) (n w : ℕ) (column_new : List ℕ) (within : n < length new) (fits : get_or other n 0 < 2 ^ 64) (is_word : w ≡ bit_and (get_or one n 0) (bit_not w64 (get_or other n 0))) where
  abbrev next_columns : Columns
  next_columns = set new n column_new

  at_n : (x : ℕ) → x / 64 ≡ n → count_of next_columns x ≡ column column_new (x % 64)
  at_n x at = ap (λ c. column c (x % 64)) (ap (λ k. get_or next_columns k []) at ∙ get_or-set_same new n column_new [] within)

  word_bit : (x : ℕ) → x / 64 ≡ n → bit_at w (x % 64) ≡ one_if (has one x && not (has other x))
  word_bit x at =
      ap (λ v. bit_at v (x % 64)) is_word
      ∙ ap (λ k. bit_at (bit_and (get_or one k 0) (bit_not w64 (get_or other k 0))) (x % 64)) (sym at)
      ∙ bit_beyond one other x (subst (λ k. get_or other k 0 < 2 ^ 64) (sym at) fits)

  elsewhere : (x : ℕ) → x / 64 ≢ n → count_of next_columns x ≡ count_of new x
  elsewhere x ne = ap (λ c. column c (x % 64)) (get_or-set_other new n (x / 64) column_new [] ne)

  kept_at : (x : ℕ) → x / 64 ≡ n → get_or new n [] ≡ get_or old n [] → count_of new x ≡ count_of old x
  kept_at x at same = ap (λ c. column c (x % 64)) (ap (λ k. get_or new k []) at ∙ same ∙ ap (λ k. get_or old k []) (sym at))

  not_counted : (x : ℕ) → x / 64 ≡ n → w ≡ 0 → one_if (has one x && not (has other x)) ≡ 0
  not_counted x at none = sym (word_bit x at) ∙ ap (λ v. bit_at v (x % 64)) none ∙ bit_at-zero (x % 64)

  pub up_more : IsUp old new one other n → ((bit : ℕ) → bit < 64 → column column_new bit ≡ column (get_or new n []) bit + bit_at w bit) → IsUp old next_columns one other (n + 1)
  up_more before counted = record {
    long = length-set new n column_new ∙ before.long;
    counted = λ x low.
        ⊎_elim
        (λ (at : x / 64 ≡ n).
        let was : column (get_or new n []) (x % 64) ≡ count_of old x = ap (λ c. column c (x % 64)) (before.rest n (omega arith)) ∙ ap (λ k. column (get_or old k []) (x % 64)) (sym at) in
        at_n x at ∙ counted (x % 64) (omega arith) ∙ ap (λ k. k + bit_at w (x % 64)) was ∙ ap (λ k. count_of old x + k) (word_bit x at))
        (λ (ne : x / 64 ≢ n). elsewhere x ne ∙ before.counted x (omega (arith, low, ne)))
        (cases_eq (x / 64) n);
    rest = λ k from. get_or-set_other new n k column_new [] (λ same. omega (arith, same, from)) ∙ before.rest k (omega (arith, from));
  }

  pub down_more : IsDown old new one other n → ((bit : ℕ) → bit < 64 → column column_new bit + bit_at w bit ≡ column (get_or new n []) bit) → IsDown old next_columns one other (n + 1)
  down_more before counted = record {
    long = length-set new n column_new ∙ before.long;
    counted = λ x low.
        ⊎_elim
        (λ (at : x / 64 ≡ n).
        let was : column (get_or new n []) (x % 64) ≡ count_of old x = ap (λ c. column c (x % 64)) (before.rest n (omega arith)) ∙ ap (λ k. column (get_or old k []) (x % 64)) (sym at) in
        ap (λ k. k + one_if (has one x && not (has other x))) (at_n x at) ∙ ap (λ k. column column_new (x % 64) + k) (sym (word_bit x at)) ∙ counted (x % 64) (omega arith) ∙ was)
        (λ (ne : x / 64 ≢ n). ap (λ k. k + one_if (has one x && not (has other x))) (elsewhere x ne) ∙ before.counted x (omega (arith, low, ne)))
        (cases_eq (x / 64) n);
    rest = λ k from. get_or-set_other new n k column_new [] (λ same. omega (arith, same, from)) ∙ before.rest k (omega (arith, from));
  }

  -- a column of which nothing is counted
  pub up_same : IsUp old new one other n → w ≡ 0 → IsUp old new one other (n + 1)
  up_same before none = record {
    long = before.long;
    counted = λ x low.
        ⊎_elim
        (λ (at : x / 64 ≡ n). omega (arith, kept_at x at (before.rest n (omega arith)), not_counted x at none))
        (λ (ne : x / 64 ≢ n). before.counted x (omega (arith, low, ne)))
        (cases_eq (x / 64) n);
    rest = λ k from. before.rest k (omega (arith, from));
  }

  pub down_same : IsDown old new one other n → w ≡ 0 → IsDown old new one other (n + 1)
  down_same before none = record {
    long = before.long;
    counted = λ x low.
        ⊎_elim
        (λ (at : x / 64 ≡ n). omega (arith, kept_at x at (before.rest n (omega arith)), not_counted x at none))
        (λ (ne : x / 64 ≢ n). before.counted x (omega (arith, low, ne)))
        (cases_eq (x / 64) n);
    rest = λ k from. before.rest k (omega (arith, from));
  }

-- behind the words of the one set no count changes
past_words : (old new : Columns) (one other : List ℕ) (x : ℕ) → length one ≤ x / 64 → get_or new (x / 64) [] ≡ get_or old (x / 64) []
    → (count_of new x ≡ count_of old x) × (one_if (has one x && not (has other x)) ≡ 0)
past_words old new one other x past same = (ap (λ c. column c (x % 64)) same, ap (λ b. one_if (b && not (has other x))) (has_past one x past))

pub up_all : (old new : Columns) (one other : List ℕ) (n : ℕ) → length one ≤ n → IsUp old new one other n
    → (x : ℕ) → count_of new x ≡ count_of old x + one_if (has one x && not (has other x))
up_all old new one other n all is x =
    ⊎_elim
    (λ low. is.counted x (omega (arith, low)))
    (λ past. let kept = past_words old new one other x (omega (arith, past, all)) (is.rest (x / 64) past) in omega (arith, kept.0, kept.1))
    (cases_lt (x / 64) n)

pub down_all : (old new : Columns) (one other : List ℕ) (n : ℕ) → length one ≤ n → IsDown old new one other n
    → (x : ℕ) → count_of new x + one_if (has one x && not (has other x)) ≡ count_of old x
down_all old new one other n all is x =
    ⊎_elim
    (λ low. is.counted x (omega (arith, low)))
    (λ past. let kept = past_words old new one other x (omega (arith, past, all)) (is.rest (x / 64) past) in omega (arith, kept.0, kept.1))
    (cases_lt (x / 64) n)

-- no count is too large for one more
pub few_at : (old new : Columns) (one other : List ℕ) (n w : ℕ) (col : List ℕ) → n < length new → get_or other n 0 < 2 ^ 64 → w ≡ bit_and (get_or one n 0) (bit_not w64 (get_or other n 0)) → IsUp old new one other n → col ≡ get_or new n []
    → ((x : ℕ) → (has one x && not (has other x)) ≡ true → count_of old x ≤ TRAINS) → (bit : ℕ) → bit < 64 → column col bit + bit_at w bit < 2 ^ DIGITS
few_at old new one other n w col within fits is_word before is few bit low =
    let x : ℕ = 64 * n + bit in
    let at : x / 64 ≡ n = omega (arith, low) in
    let place : x % 64 ≡ bit = omega (arith, low) in
    let same : column col bit ≡ count_of old x =
    ap (λ c. column c bit) (is ∙ before.rest n (omega arith)) ∙ ap (λ k. column (get_or old k []) bit) (sym at) ∙ ap (column (get_or old (x / 64) [])) (sym place) in
    let here : bit_at w bit ≡ one_if (has one x && not (has other x)) = ap (bit_at w) (sym place) ∙ word_bit old new one other n w col within fits is_word x at in
    ⊎_elim
    (λ (yes : (has one x && not (has other x)) ≡ true). omega (arith, same, few x yes, bit_at-lt w bit))
    (λ (no : (has one x && not (has other x)) ≡ false). omega (arith, here, ap one_if no, column_fits col bit))
    (cases_Bool (has one x && not (has other x)))

-- and each section that is counted less is counted
pub some_at : (old new : Columns) (one other : List ℕ) (n w : ℕ) (col : List ℕ) → n < length new → get_or other n 0 < 2 ^ 64 → w ≡ bit_and (get_or one n 0) (bit_not w64 (get_or other n 0)) → IsDown old new one other n → col ≡ get_or new n []
    → ((x : ℕ) → (has one x && not (has other x)) ≡ true → 0 < count_of old x) → (bit : ℕ) → bit < 64 → bit_at w bit ≤ column col bit
some_at old new one other n w col within fits is_word before is some bit low =
    let x : ℕ = 64 * n + bit in
    let at : x / 64 ≡ n = omega (arith, low) in
    let place : x % 64 ≡ bit = omega (arith, low) in
    let same : column col bit ≡ count_of old x =
    ap (λ c. column c bit) (is ∙ before.rest n (omega arith)) ∙ ap (λ k. column (get_or old k []) bit) (sym at) ∙ ap (column (get_or old (x / 64) [])) (sym place) in
    let here : bit_at w bit ≡ one_if (has one x && not (has other x)) = ap (bit_at w) (sym place) ∙ word_bit old new one other n w col within fits is_word x at in
    ⊎_elim
    (λ (yes : (has one x && not (has other x)) ≡ true). omega (arith, same, some x yes, here, ap one_if yes))
    (λ (no : (has one x && not (has other x)) ≡ false). omega (arith, here, ap one_if no))
    (cases_Bool (has one x && not (has other x)))

-- the word has those sections of the column that are counted more than once
abbrev pub HasMany : List ℕ → ℕ → Type 0
HasMany col word = (bit : ℕ) → bit < 64 → (bit_at word bit == 1) ≡ nat_le 2 (column col bit)

-- and those that are counted twice
abbrev pub HasTwice : List ℕ → ℕ → Type 0
HasTwice col word = (bit : ℕ) → bit < 64 → (bit_at word bit == 1) ≡ (column col bit == 2)

column_at : (counts : Columns) (n : ℕ) (col : List ℕ) (x : ℕ) → x / 64 ≡ n → col ≡ get_or counts n [] → column col (x % 64) ≡ count_of counts x
column_at counts n col x at is = ap (λ c. column c (x % 64)) (is ∙ ap (λ k. get_or counts k []) (sym at))

-- where a word has none of these sections, none of its sections is counted more than once
pub once_at : (counts : Columns) (words : List ℕ) (n m : ℕ) (col : List ℕ) → HasMany col m → col ≡ get_or counts n [] → bit_and (get_or words n 0) m ≡ 0
    → (x : ℕ) → x / 64 ≡ n → has words x ≡ true → count_of counts x ≤ 1
once_at counts words n m col many is none x at has_it =
    let a : ℕ = get_or words n 0 in
    let one : bit_at a (x % 64) ≡ 1 = ap (λ k. bit_at (get_or words k 0) (x % 64)) (sym at) ∙ has_bit words x has_it in
    let zero_bit : bit_at (bit_and a m) (x % 64) ≡ 0 = ap (λ n. bit_at n (x % 64)) none ∙ bit_at-zero (x % 64) in
    let away : bit_at m (x % 64) ≡ 0 = omega (arith, one, zero_bit, bit_at_and a m (x % 64)) in
    let few : nat_le 2 (column col (x % 64)) ≡ false = sym (many (x % 64) (omega arith)) ∙ ap (λ b. b == 1) away in
    omega (arith, leb-false 2 (column col (x % 64)) few, column_at counts n col x at is)

-- and where it has one, that one is
pub more_at : (counts : Columns) (words : List ℕ) (n m : ℕ) (col : List ℕ) → HasMany col m → col ≡ get_or counts n [] → get_or words n 0 < 2 ^ 64 → bit_and (get_or words n 0) m ≢ 0
    → (x : ℕ) × (has words x ≡ true) × (1 < count_of counts x)
more_at counts words n m col many is fits some =
    let a : ℕ = get_or words n 0 in
    let low = bit_at-trailing_zeros w64 (bit_and a m) (omega (arith, some)) (omega (arith, fits, and_le_l a m)) in
    let bit : ℕ = trailing_zeros w64 (bit_and a m) in
    let each = bit_at_and a m bit in
    let x : ℕ = n * 64 + bit in
    let at : x / 64 ≡ n = omega (arith, low.0) in
    let place : x % 64 ≡ bit = omega (arith, low.0) in
    let one : bit_at m bit ≡ 1 = omega (arith, low.1, each, bit_at-lt a bit, bit_at-lt m bit) in
    let count : 2 ≤ column col bit = leb-true 2 (column col bit) (sym (many bit low.0) ∙ ap (λ b. b == 1) one) in (
      x,
      bit_section n bit low.0 words (omega (arith, low.1, each, bit_at-lt a bit, bit_at-lt m bit)),
      omega (arith, count, ap (column col) place, column_at counts n col x at is),
    )

falls_of : (p q r s : Bool) (a b c d z : ℕ) → (p ≡ (a == 1)) → (q ≡ (b == 1)) → (r ≡ (c == 1)) → (s ≡ (d == 1)) → a < 2 → b < 2 → c < 2 → d < 2
    → z ≡ max a (min (min b (1 - c)) d) → (z == 1) ≡ (p || (q && not r && s))
falls_of p q r s a b c d z is_p is_q is_r is_s low_a low_b low_c low_d made = grind (arith, is_p, is_q, is_r, is_s, low_a, low_b, low_c, low_d, made)

-- the section is counted twice, and is in the one set and not in the other
abbrev pub falls : Columns → List ℕ → List ℕ → ℕ → Bool
falls counts from to x = has from x && not (has to x) && (count_of counts x == 2)

-- the set has what it had, and these
abbrev pub with_falls : Columns → List ℕ → List ℕ → List ℕ → ℕ → Bool
with_falls counts old from to x = has old x || falls counts from to x

pub falls_at : (counts : Columns) (old new from to : List ℕ) (n t : ℕ) (col : List ℕ) → HasTwice col t → col ≡ get_or counts n [] → get_or to n 0 < 2 ^ 64 → get_or new n 0 ≡ get_or old n 0
    → (x : ℕ) → x / 64 ≡ n → (bit_at (bit_or (get_or new n 0) (bit_and (bit_and (get_or from n 0) (bit_not w64 (get_or to n 0))) t)) (x % 64) == 1) ≡ with_falls counts old from to x
falls_at counts old new from to n t col twice is fits same x at =
    let bit : ℕ = x % 64 in
    let a : ℕ = get_or new n 0 in
    let b : ℕ = get_or from n 0 in
    let c : ℕ = get_or to n 0 in
    let low : bit < 64 = omega arith in
    falls_of (has old x) (has from x) (has to x) (count_of counts x == 2) (bit_at a bit) (bit_at b bit) (bit_at c bit) (bit_at t bit)
    (bit_at (bit_or a (bit_and (bit_and b (bit_not w64 c)) t)) bit)
    (ap (λ k. bit_at (get_or old k 0) bit == 1) at ∙ ap (λ v. bit_at v bit == 1) (sym same))
    (ap (λ k. bit_at (get_or from k 0) bit == 1) at)
    (ap (λ k. bit_at (get_or to k 0) bit == 1) at)
    (ap (λ v. v == 2) (sym (column_at counts n col x at is)) ∙ sym (twice bit low))
    (bit_at-lt a bit) (bit_at-lt b bit) (bit_at-lt c bit) (bit_at-lt t bit)
    (bit_at_or a (bit_and (bit_and b (bit_not w64 c)) t) bit
    ∙ ap (max (bit_at a bit)) (bit_at_and (bit_and b (bit_not w64 c)) t bit
    ∙ ap (λ v. min v (bit_at t bit)) (bit_at_and b (bit_not w64 c) bit ∙ ap (min (bit_at b bit)) (bit_at_not w64 c bit fits low))))

fall_of : (q r s : Bool) (b c d z : ℕ) → (q ≡ (b == 1)) → (r ≡ (c == 1)) → (s ≡ (d == 1)) → b < 2 → c < 2 → d < 2 → z ≡ min (min b (1 - c)) d → (z == 1) ≡ (q && not r && s)
fall_of q r s b c d z is_q is_r is_s low_b low_c low_d made = grind (arith, is_q, is_r, is_s, low_b, low_c, low_d, made)

-- a word of them alone
pub fall_at : (counts : Columns) (from to : List ℕ) (n t : ℕ) (col : List ℕ) → HasTwice col t → col ≡ get_or counts n [] → get_or to n 0 < 2 ^ 64
    → (x : ℕ) → x / 64 ≡ n → (bit_at (bit_and (bit_and (get_or from n 0) (bit_not w64 (get_or to n 0))) t) (x % 64) == 1) ≡ falls counts from to x
fall_at counts from to n t col twice is fits x at =
    let bit : ℕ = x % 64 in
    let b : ℕ = get_or from n 0 in
    let c : ℕ = get_or to n 0 in
    let low : bit < 64 = omega arith in
    fall_of (has from x) (has to x) (count_of counts x == 2) (bit_at b bit) (bit_at c bit) (bit_at t bit) (bit_at (bit_and (bit_and b (bit_not w64 c)) t) bit)
    (ap (λ k. bit_at (get_or from k 0) bit == 1) at)
    (ap (λ k. bit_at (get_or to k 0) bit == 1) at)
    (ap (λ v. v == 2) (sym (column_at counts n col x at is)) ∙ sym (twice bit low))
    (bit_at-lt b bit) (bit_at-lt c bit) (bit_at-lt t bit)
    (bit_at_and (bit_and b (bit_not w64 c)) t bit
    ∙ ap (λ v. min v (bit_at t bit)) (bit_at_and b (bit_not w64 c) bit ∙ ap (min (bit_at b bit)) (bit_at_not w64 c bit fits low)))

-- where a word has none of them, none of its sections is such a one
pub no_falls_at : (counts : Columns) (from to : List ℕ) (n t : ℕ) (col : List ℕ) → HasTwice col t → col ≡ get_or counts n [] → get_or to n 0 < 2 ^ 64
    → bit_and (bit_and (get_or from n 0) (bit_not w64 (get_or to n 0))) t ≡ 0 → (x : ℕ) → x / 64 ≡ n → falls counts from to x ≡ false
no_falls_at counts from to n t col twice is fits none x at =
    sym (fall_at counts from to n t col twice is fits x at) ∙ ap (λ v. v == 1) (ap (λ w. bit_at w (x % 64)) none ∙ bit_at-zero (x % 64))

pair_of : (q s : Bool) (b d z : ℕ) → (q ≡ (b == 1)) → (s ≡ (d == 1)) → b < 2 → d < 2 → z ≡ min b d → (z == 1) ≡ (q && s)
pair_of q s b d z is_q is_s low_b low_d made = grind (arith, is_q, is_s, low_b, low_d, made)

-- and where it has none that is counted twice, no section of it is
pub no_pairs_at : (counts : Columns) (words : List ℕ) (n t : ℕ) (col : List ℕ) → HasTwice col t → col ≡ get_or counts n [] → bit_and (get_or words n 0) t ≡ 0
    → (x : ℕ) → x / 64 ≡ n → (has words x && (count_of counts x == 2)) ≡ false
no_pairs_at counts words n t col twice is none x at =
    let bit : ℕ = x % 64 in
    let b : ℕ = get_or words n 0 in
    let low : bit < 64 = omega arith in
    sym (pair_of (has words x) (count_of counts x == 2) (bit_at b bit) (bit_at t bit) (bit_at (bit_and b t) bit)
    (ap (λ k. bit_at (get_or words k 0) bit == 1) at)
    (ap (λ v. v == 2) (sym (column_at counts n col x at is)) ∙ sym (twice bit low))
    (bit_at-lt b bit) (bit_at-lt t bit) (bit_at_and b t bit))
    ∙ ap (λ v. v == 1) (ap (λ w. bit_at w bit) none ∙ bit_at-zero bit)

-- behind the words of the set there is none
pub no_pairs_past : (counts : Columns) (words : List ℕ) (x : ℕ) → length words ≤ x / 64 → (has words x && (count_of counts x == 2)) ≡ false
no_pairs_past counts words x past = ap (λ b. b && (count_of counts x == 2)) (has_past words x past)

-- and behind the words of the one set there is none
pub no_falls_past : (counts : Columns) (from to : List ℕ) (x : ℕ) → length from ≤ x / 64 → (has from x && not (has to x) && (count_of counts x == 2)) ≡ false
no_falls_past counts from to x past = ap (λ b. b && not (has to x) && (count_of counts x == 2)) (has_past from x past)

falls_past : (p q r s : Bool) → q ≡ false → (p || (q && not r && s)) ≡ p
falls_past p q r s none = ap (λ b. p || (b && not r && s)) none ∙ or_out p false refl

pub falls_all : (counts : Columns) (old new from to : List ℕ) (n : ℕ) → length from ≤ n → IsMade (with_falls counts old from to) old new n
    → (x : ℕ) → has new x ≡ with_falls counts old from to x
falls_all counts old new from to n all is x =
    ⊎_elim
    (λ low. is.made x (omega (arith, low)))
    (λ past. same_word old new x (is.rest (x / 64) past) ∙ sym (falls_past (has old x) (has from x) (has to x) (count_of counts x == 2) (has_past from x (omega (arith, past, all)))))
    (cases_lt (x / 64) n)

shared_of : (p q : Bool) (a b z : ℕ) → (p ≡ (a == 1)) → (q ≡ (b == 1)) → a < 2 → b < 2 → z ≡ min a (1 - b) → (z == 1) ≡ (p && not q)
shared_of p q a b z is_p is_q low_a low_b made = grind (arith, is_p, is_q, low_a, low_b, made)

-- the section is counted more than once, and does not fall
abbrev pub shared : Columns → List ℕ → List ℕ → ℕ → Bool
shared counts from to x = nat_le 2 (count_of counts x) && not (falls counts from to x)

pub shared_at : (counts : Columns) (from to : List ℕ) (n m t : ℕ) (col : List ℕ) → HasMany col m → HasTwice col t → col ≡ get_or counts n [] → get_or from n 0 < 2 ^ 64 → get_or to n 0 < 2 ^ 64
    → (x : ℕ) → x / 64 ≡ n
    → (bit_at (bit_and m (bit_not w64 (bit_and (bit_and (get_or from n 0) (bit_not w64 (get_or to n 0))) t))) (x % 64) == 1) ≡ shared counts from to x
shared_at counts from to n m t col many twice is fits_from fits x at =
    let bit : ℕ = x % 64 in
    let a : ℕ = get_or from n 0 in
    let b : ℕ = get_or to n 0 in
    let f : ℕ = bit_and (bit_and a (bit_not w64 b)) t in
    let low : bit < 64 = omega arith in
    shared_of (nat_le 2 (count_of counts x)) (falls counts from to x) (bit_at m bit) (bit_at f bit) (bit_at (bit_and m (bit_not w64 f)) bit)
    (ap (nat_le 2) (sym (column_at counts n col x at is)) ∙ sym (many bit low))
    (sym (fall_at counts from to n t col twice is fits x at))
    (bit_at-lt m bit) (bit_at-lt f bit)
    (bit_at_and m (bit_not w64 f) bit
    ∙ ap (min (bit_at m bit)) (bit_at_not w64 f bit (omega (arith, fits_from, and_le_l a (bit_not w64 b), and_le_l (bit_and a (bit_not w64 b)) t)) low))

-- both sets of the first so many words, and whether there is one that falls
pub record IsSorted (counts : Columns) (from to old new beside_old beside : List ℕ) (any : Bool) (n : ℕ) : Type 0 where
  pub fell : IsMade (falls counts from to) old new n
  pub shared : IsMade (shared counts from to) beside_old beside n
  pub none : any ≡ false → (x : ℕ) → x < 64 * n → falls counts from to x ≡ false

-- no word so far had one, and this word has none
any_none : (any : Bool) (w : ℕ) → (any || not (w == 0)) ≡ false → (any ≡ false) × (w ≡ 0)
any_none true w is = absurd (false≢true (sym is))
any_none false w is = (refl, ⊎_elim (λ zero. eqb-true w 0 zero) (λ some. absurd (false≢true (sym is ∙ ap not some))) (cases_Bool (w == 0)))

-- a word more
pub sorted_more : (counts : Columns) (from to old new beside_old beside : List ℕ) (any : Bool) (n m t : ℕ) (col : List ℕ)
    → n < length new → n < length beside → HasMany col m → HasTwice col t → col ≡ get_or counts n [] → get_or from n 0 < 2 ^ 64 → get_or to n 0 < 2 ^ 64
    → IsSorted counts from to old new beside_old beside any n
    → let w = bit_and (bit_and (get_or from n 0) (bit_not w64 (get_or to n 0))) t in
    IsSorted counts from to old (set new n w) beside_old (set beside n (bit_and m (bit_not w64 w))) (any || not (w == 0)) (n + 1)
sorted_more counts from to old new beside_old beside any n m t col within beside_within many twice is fits_from fits before =
    let w : ℕ = bit_and (bit_and (get_or from n 0) (bit_not w64 (get_or to n 0))) t in
    record {
      fell = made_more (falls counts from to) old new n w within before.fell (fall_at counts from to n t col twice is fits);
      shared = made_more (shared counts from to) beside_old beside n (bit_and m (bit_not w64 w)) beside_within before.shared (shared_at counts from to n m t col many twice is fits_from fits);
      none = λ no x low.
          let without = any_none any w no in
          ⊎_elim
          (λ (at : x / 64 ≡ n). no_falls_at counts from to n t col twice is fits without.1 x at)
          (λ (ne : x / 64 ≢ n). before.none without.0 x (omega (arith, low, ne)))
          (cases_eq (x / 64) n);
    }
