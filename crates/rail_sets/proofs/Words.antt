-- Bits of words.
use Rattle.std.proofs.Common.{◌≡◌, ◌≢◌, ℕ, ◌+◌, ◌-◌, ◌*◌, ◌/◌, ◌%◌, ◌^◌, ◌<◌, ◌≤◌, min, max, Bool, List, length, get_or, replicate, take, true, false, not, ◌&&◌, ◌||◌, set, refl, sym, ap, ◌∙◌, ⊎_elim, arith, eq-eqb, eqb-true, w64}
use Rattle.std.proofs.lemmas.Bool.{cases_Bool, cases_eq, cases_lt, ne_eqb, or_right}
use Rattle.std.proofs.lemmas.List.{get_or_past, get_or-set_same, get_or-set_other, get_or-replicate, get_or-take, length-replicate, length-set, length-take}
use Rattle.std.proofs.lemmas.Nat.{and_le_l}
use Rattle.std.proofs.lemmas.Nat.Bits.{bit_at_and, bit_at-lt, bit_at-zero, bit_at_not, bit_at_or, bit_at_set_same, bit_at_set_other, bit_at-trailing_zeros}
use Rattle.std.specs.Prelude.{bit_and, bit_or, ◌==◌}
use Rattle.std.specs.Int.{bit_at, bit_not, trailing_zeros}
use Rattle.rail_sets.specs.Sets.{has}

-- a section of a set is a bit of a word
pub has_bit : (set : List ℕ) (x : ℕ) → has set x ≡ true → bit_at (get_or set (x / 64) 0) (x % 64) ≡ 1
has_bit set x is = eqb-true (bit_at (get_or set (x / 64) 0) (x % 64)) 1 is

pub bit_has : (set : List ℕ) (x : ℕ) → bit_at (get_or set (x / 64) 0) (x % 64) ≡ 1 → has set x ≡ true
bit_has set x is = eq-eqb (bit_at (get_or set (x / 64) 0) (x % 64)) 1 is

-- in one of its words
pub has_within : (set : List ℕ) (x : ℕ) → has set x ≡ true → x / 64 < length set
has_within set x is =
    ⊎_elim
    (λ within. within)
    (λ past. absurd (omega (arith, has_bit set x is, ap (λ n. bit_at n (x % 64)) (get_or_past set (x / 64) 0 past), bit_at-zero (x % 64))))
    (cases_lt (x / 64) (length set))

-- and no section of it is one that is not set
pub has_no_bit : (set : List ℕ) (x : ℕ) → bit_at (get_or set (x / 64) 0) (x % 64) ≡ 0 → has set x ≡ false
has_no_bit set x none = ⊎_elim (λ is. absurd (omega (arith, has_bit set x is, none))) (λ out. out) (cases_Bool (has set x))

-- the section of the bit of the word
module _ (k bit : ℕ) (low : bit < 64) where
  abbrev at : ℕ
  at = k * 64 + bit

  word : at / 64 ≡ k
  word = omega (arith, low)

  place : at % 64 ≡ bit
  place = omega (arith, low)

  pub bit_section : (set : List ℕ) → bit_at (get_or set k 0) bit ≡ 1 → has set at ≡ true
  bit_section set is = bit_has set at (ap (λ w. bit_at (get_or set w 0) (at % 64)) word ∙ ap (bit_at (get_or set k 0)) place ∙ is)

  pub bit_no_section : (set : List ℕ) → bit_at (get_or set k 0) bit ≡ 0 → has set at ≡ false
  bit_no_section set none = has_no_bit set at (ap (λ w. bit_at (get_or set w 0) (at % 64)) word ∙ ap (bit_at (get_or set k 0)) place ∙ none)

-- where two words have a bit in common, two sets have a section in common
pub both_at : (first second : List ℕ) (k : ℕ) → get_or first k 0 < 2 ^ 64 → bit_and (get_or first k 0) (get_or second k 0) ≢ 0
    → (x : ℕ) × (has first x ≡ true) × (has second x ≡ true)
both_at first second k fits some =
    let a : ℕ = get_or first k 0 in
    let b : ℕ = get_or second k 0 in
    let low = bit_at-trailing_zeros w64 (bit_and a b) (omega (arith, some)) (omega (arith, fits, and_le_l a b)) in
    let bit : ℕ = trailing_zeros w64 (bit_and a b) in
    let each = bit_at_and a b bit in (
      k * 64 + bit,
      bit_section k bit low.0 first (omega (arith, low.1, each, bit_at-lt a bit, bit_at-lt b bit)),
      bit_section k bit low.0 second (omega (arith, low.1, each, bit_at-lt a bit, bit_at-lt b bit)),
    )

-- and where no two words have one, the sets have none
pub none_at : (first second : List ℕ) (x : ℕ) → bit_and (get_or first (x / 64) 0) (get_or second (x / 64) 0) ≡ 0 → has first x ≡ true → has second x ≡ false
none_at first second x none is =
    let a : ℕ = get_or first (x / 64) 0 in
    let b : ℕ = get_or second (x / 64) 0 in
    let zero_bit : bit_at (bit_and a b) (x % 64) ≡ 0 = ap (λ n. bit_at n (x % 64)) none ∙ bit_at-zero (x % 64) in
    has_no_bit second x (omega (arith, zero_bit, bit_at_and a b (x % 64), has_bit first x is, bit_at-lt b (x % 64)))

-- the same of a third set that has not got the section
pub beyond_at : (first second third : List ℕ) (k : ℕ) → get_or first k 0 < 2 ^ 64 → get_or third k 0 < 2 ^ 64
    → bit_and (bit_and (get_or first k 0) (get_or second k 0)) (bit_not w64 (get_or third k 0)) ≢ 0
    → let x = k * 64 + trailing_zeros w64 (bit_and (bit_and (get_or first k 0) (get_or second k 0)) (bit_not w64 (get_or third k 0))) in
    (has first x ≡ true) × (has second x ≡ true) × (has third x ≡ false)
beyond_at first second third k fits fits_third some =
    let a : ℕ = get_or first k 0 in
    let b : ℕ = get_or second k 0 in
    let c : ℕ = get_or third k 0 in
    let all : ℕ = bit_and (bit_and a b) (bit_not w64 c) in
    let low = bit_at-trailing_zeros w64 all (omega (arith, some)) (omega (arith, fits, and_le_l a b, and_le_l (bit_and a b) (bit_not w64 c))) in
    let bit : ℕ = trailing_zeros w64 all in
    let outer = bit_at_and (bit_and a b) (bit_not w64 c) bit in
    let inner = bit_at_and a b bit in
    let away = bit_at_not w64 c bit fits_third low.0 in (
      bit_section k bit low.0 first (omega (arith, low.1, outer, inner, bit_at-lt a bit, bit_at-lt b bit)),
      bit_section k bit low.0 second (omega (arith, low.1, outer, inner, bit_at-lt a bit, bit_at-lt b bit)),
      bit_no_section k bit low.0 third (omega (arith, low.1, outer, away, bit_at-lt (bit_and a b) bit, bit_at-lt c bit)),
    )

pub none_beyond : (first second third : List ℕ) (x : ℕ) → get_or third (x / 64) 0 < 2 ^ 64
    → bit_and (bit_and (get_or first (x / 64) 0) (get_or second (x / 64) 0)) (bit_not w64 (get_or third (x / 64) 0)) ≡ 0
    → has first x ≡ true → has second x ≡ true → has third x ≡ true
none_beyond first second third x fits none in_first in_second =
    let a : ℕ = get_or first (x / 64) 0 in
    let b : ℕ = get_or second (x / 64) 0 in
    let c : ℕ = get_or third (x / 64) 0 in
    let low : x % 64 < 64 = omega arith in
    let zero_bit : bit_at (bit_and (bit_and a b) (bit_not w64 c)) (x % 64) ≡ 0 = ap (λ n. bit_at n (x % 64)) none ∙ bit_at-zero (x % 64) in
    bit_has third x (omega (arith, zero_bit, bit_at_and (bit_and a b) (bit_not w64 c) (x % 64), bit_at_and a b (x % 64), bit_at_not w64 c (x % 64) fits low, has_bit first x in_first, has_bit second x in_second, bit_at-lt c (x % 64)))

-- what one and another bit make together
pub or_by_bits : (p q r : Bool) (a b c : ℕ) → (p ≡ (a == 1)) → (q ≡ (b == 1)) → (r ≡ (c == 1)) → a < 2 → b < 2 → c ≡ max a b → r ≡ (p || q)
or_by_bits p q r a b c is_p is_q is_r low_a low_b made = grind (arith, is_p, is_q, is_r, low_a, low_b, made)

pub replaced_by_bits : (p q r s : Bool) (a b c d : ℕ) → (p ≡ (a == 1)) → (q ≡ (b == 1)) → (r ≡ (c == 1)) → (s ≡ (d == 1)) → a < 2 → b < 2 → c < 2 → d ≡ max (min a (1 - b)) c → s ≡ ((p && not q) || r)
replaced_by_bits p q r s a b c d is_p is_q is_r is_s low_a low_b low_c made = grind (arith, is_p, is_q, is_r, is_s, low_a, low_b, low_c, made)

pub or_out : (p q : Bool) → q ≡ false → (p || q) ≡ p
or_out true q none = refl
or_out false q none = none

-- a set with one bit more
added : (words : List ℕ) (y x word : ℕ) → y / 64 < length words → word ≡ bit_or (get_or words (y / 64) 0) (1 * 2 ^ (y % 64) % 2 ^ 64) → has (set words (y / 64) word) x ≡ (has words x || (x == y))
added words y x word within made =
    let k : ℕ = y / 64 in
    let bit : ℕ = y % 64 in
    let low : bit < 64 = omega arith in
    let new : List ℕ = set words k word in
    ⊎_elim
    (λ same.
    let here : get_or new k 0 ≡ word = get_or-set_same words k word 0 within in
    let one : bit_at (get_or new k 0) bit ≡ 1 = ap (λ n. bit_at n bit) (here ∙ made) ∙ bit_at_set_same w64 (get_or words k 0) bit low in
    let is : has new x ≡ true = bit_has new x (ap (λ z. bit_at (get_or new (z / 64) 0) (z % 64)) same ∙ one) in
    is ∙ sym (or_right (has words x) (x == y) (eq-eqb x y same)))
    (λ other.
    let kept : bit_at (get_or new (x / 64) 0) (x % 64) ≡ bit_at (get_or words (x / 64) 0) (x % 64) =
    ⊎_elim
    (λ there.
    let here : get_or new (x / 64) 0 ≡ word = ap (λ w. get_or new w 0) there ∙ get_or-set_same words k word 0 within in
    let apart : x % 64 ≢ bit = λ e. other (omega (arith, e, there)) in
    ap (λ n. bit_at n (x % 64)) (here ∙ made) ∙ bit_at_set_other w64 (get_or words k 0) bit low (x % 64) apart ∙ ap (λ w. bit_at (get_or words w 0) (x % 64)) (sym there))
    (λ away. ap (λ n. bit_at n (x % 64)) (get_or-set_other words k (x / 64) word 0 away))
    (cases_eq (x / 64) k) in
    ap (λ n. n == 1) kept ∙ sym (or_out (has words x) (x == y) (ne_eqb x y other)))
    (cases_eq x y)

pub added_at : (words : List ℕ) (y x k bit : ℕ) → k ≡ y / 64 → bit ≡ y % 64 → k < length words
    → has (set words k (bit_or (get_or words k 0) (1 * 2 ^ bit % 2 ^ 64))) x ≡ (has words x || (x == y))
added_at words y x k bit at place within =
    let F : ℕ → ℕ → Bool = λ j b. has (set words j (bit_or (get_or words j 0) (1 * 2 ^ b % 2 ^ 64))) x in
    ap (λ j. F j bit) at ∙ ap (F (y / 64)) place ∙ added words y x (bit_or (get_or words (y / 64) 0) (1 * 2 ^ (y % 64) % 2 ^ 64)) (omega (arith, at, within)) refl

-- a set with a section has a word that is not 0
pub has_some : (words : List ℕ) (x : ℕ) → has words x ≡ true → get_or words (x / 64) 0 ≢ 0
has_some words x is none = omega (arith, has_bit words x is, ap (λ n. bit_at n (x % 64)) none, bit_at-zero (x % 64))

zeros_at : (n i : ℕ) → get_or {A = ℕ} (replicate n 0) i 0 ≡ 0
zeros_at n i =
    ⊎_elim
    (λ within. get_or-replicate n i 0 0 within)
    (λ past. get_or_past (replicate n 0) i 0 (omega (arith, past, length-replicate {A = ℕ} n 0)))
    (cases_lt i n)

-- a set of words that are all 0 has no section
pub none_in_zeros : (n x : ℕ) → has (replicate n 0) x ≡ false
none_in_zeros n x = has_no_bit (replicate n 0) x (ap (λ w. bit_at w (x % 64)) (zeros_at n (x / 64)) ∙ bit_at-zero (x % 64))

-- the first so many words of a set whose sections all stand there
pub has_first : (words : List ℕ) (n x : ℕ) → (has words x ≡ true → x < 64 * n) → has (take n words) x ≡ has words x
has_first words n x narrow =
    ⊎_elim
    (λ low. ap (λ w. bit_at w (x % 64) == 1) (get_or-take n words (x / 64) 0 low))
    (λ high.
    let past : has (take n words) x ≡ false = ⊎_elim (λ is. absurd (omega (arith, has_within (take n words) x is, high, length-take n words))) (λ out. out) (cases_Bool (has (take n words) x)) in
    past ∙ sym (⊎_elim (λ is. absurd (omega (arith, narrow is, high))) (λ out. out) (cases_Bool (has words x))))
    (cases_lt (x / 64) n)

-- a set has no section behind its words
pub has_past : (words : List ℕ) (x : ℕ) → length words ≤ x / 64 → has words x ≡ false
has_past words x past = has_no_bit words x (ap (λ n. bit_at n (x % 64)) (get_or_past words (x / 64) 0 past) ∙ bit_at-zero (x % 64))

-- sets with the same word have the same sections there
pub same_word : (old new : List ℕ) (x : ℕ) → get_or new (x / 64) 0 ≡ get_or old (x / 64) 0 → has new x ≡ has old x
same_word old new x same = ap (λ n. bit_at n (x % 64) == 1) same

pub kept_by : (p q r : Bool) → q ≡ false → r ≡ false → ((p && not q) || r) ≡ p
kept_by true q r none_q none_r = or_out (true && not q) r none_r ∙ ap not none_q
kept_by false q r none_q none_r = none_r

-- a word that is not 0 has a section
pub some_section : (words : List ℕ) (k : ℕ) → get_or words k 0 < 2 ^ 64 → get_or words k 0 ≢ 0 → (x : ℕ) × (has words x ≡ true)
some_section words k fits some =
    let low = bit_at-trailing_zeros w64 (get_or words k 0) (omega (arith, some)) fits in
    (k * 64 + trailing_zeros w64 (get_or words k 0), bit_section k (trailing_zeros w64 (get_or words k 0)) low.0 words low.1)

-- the first so many words of the set have these sections, and its other words are as they were
pub record IsMade (wanted : ℕ → Bool) (old new : List ℕ) (n : ℕ) : Type 0 where
  pub long : length new ≡ length old
  pub made : (x : ℕ) → x < 64 * n → has new x ≡ wanted x
  pub rest : (k : ℕ) → n ≤ k → get_or new k 0 ≡ get_or old k 0

-- a word more
pub made_more : (wanted : ℕ → Bool) (old new : List ℕ) (n w : ℕ) → n < length new → IsMade wanted old new n → ((x : ℕ) → x / 64 ≡ n → (bit_at w (x % 64) == 1) ≡ wanted x)
    → IsMade wanted old (set new n w) (n + 1)
made_more wanted old new n w within before here = record {
  long = length-set new n w ∙ before.long;
  made = λ x low.
      ⊎_elim
      (λ (at : x / 64 ≡ n). ap (λ k. bit_at (get_or (set new n w) k 0) (x % 64) == 1) at ∙ ap (λ v. bit_at v (x % 64) == 1) (get_or-set_same new n w 0 within) ∙ here x at)
      (λ (ne : x / 64 ≢ n). same_word new (set new n w) x (get_or-set_other new n (x / 64) w 0 ne) ∙ before.made x (omega (arith, low, ne)))
      (cases_eq (x / 64) n);
  rest = λ k from. get_or-set_other new n k w 0 (λ same. omega (arith, same, from)) ∙ before.rest k (omega (arith, from));
}

-- the set has those of another set, of which some go and some come
abbrev pub replaced : List ℕ → List ℕ → List ℕ → ℕ → Bool
replaced other gone come x = (has other x && not (has gone x)) || has come x

pub replaced_at : (other gone come : List ℕ) (n : ℕ) → get_or gone n 0 < 2 ^ 64
    → (x : ℕ) → x / 64 ≡ n → (bit_at (bit_or (bit_and (get_or other n 0) (bit_not w64 (get_or gone n 0))) (get_or come n 0)) (x % 64) == 1) ≡ replaced other gone come x
replaced_at other gone come n fits x at =
    let bit : ℕ = x % 64 in
    let a : ℕ = get_or other n 0 in
    let b : ℕ = get_or gone n 0 in
    let c : ℕ = get_or come n 0 in
    let low : bit < 64 = omega arith in
    replaced_by_bits (has other x) (has gone x) (has come x) (bit_at (bit_or (bit_and a (bit_not w64 b)) c) bit == 1) (bit_at a bit) (bit_at b bit) (bit_at c bit)
    (bit_at (bit_or (bit_and a (bit_not w64 b)) c) bit)
    (ap (λ k. bit_at (get_or other k 0) bit == 1) at) (ap (λ k. bit_at (get_or gone k 0) bit == 1) at) (ap (λ k. bit_at (get_or come k 0) bit == 1) at) refl
    (bit_at-lt a bit) (bit_at-lt b bit) (bit_at-lt c bit)
    (bit_at_or (bit_and a (bit_not w64 b)) c bit
    ∙ ap (λ v. max v (bit_at c bit)) (bit_at_and a (bit_not w64 b) bit ∙ ap (min (bit_at a bit)) (bit_at_not w64 b bit fits low)))
