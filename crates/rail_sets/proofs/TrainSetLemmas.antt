-- Trains of a set are bits of its words.
use Rattle.std.proofs.Common.{◌≡◌, ◌≢◌, ℕ, zero, suc, ◌+◌, ◌-◌, ◌*◌, ◌/◌, ◌%◌, ◌^◌, ◌<◌, ◌≤◌, ◌==◌, not, ◌&&◌, ◌||◌, List, [], ◌∷◌, length, get_or, true, false, set, sym, ap, ◌∙◌, ⊎_elim, arith, eq-eqb, eqb-true, w64}
use Rattle.std.proofs.lemmas.Bool.{cases_Bool, cases_eq, cases_lt}
use Rattle.std.proofs.lemmas.Bool.Decides.{nat_tests}
use Rattle.std.proofs.lemmas.List.{get_or-set_same, get_or-set_other}
use Rattle.std.proofs.Math.Nat.{div-div-eq-div-mul}
use Rattle.std.proofs.lemmas.Nat.{and_le_l, pow-add}
use Rattle.std.proofs.lemmas.Nat.Bits.{bit_at_above, bit_at_clear_other, bit_at_clear_same, bit_at-zero, bit_at_set_same, bit_at_set_other, bit_at-trailing_zeros}
use Rattle.std.specs.Prelude.{bit_and, bit_or}
use Rattle.std.specs.Int.{bit_at, bit_not, trailing_zeros}
use Rattle.rail_sets.specs.declared.train_set.TrainSet.{TrainSet}
use Rattle.rail_sets.specs.TrainSets.{has_train, size_of}

-- the set of these words
abbrev pub of_words : List ℕ → TrainSet
of_words words = record { words = words }

-- a train is in the set where its bit is 1
pub bit_has : (words : List ℕ) (t : ℕ) → bit_at (get_or words (t / 64) 0) (t % 64) ≡ 1 → has_train (of_words words) t ≡ true
bit_has words t is = eq-eqb (bit_at (get_or words (t / 64) 0) (t % 64)) 1 is

pub bit_lacks : (words : List ℕ) (t : ℕ) → bit_at (get_or words (t / 64) 0) (t % 64) ≡ 0 → has_train (of_words words) t ≡ false
bit_lacks words t none =
    ⊎_elim
    (λ (is : has_train (of_words words) t ≡ true). absurd (omega (arith, eqb-true (bit_at (get_or words (t / 64) 0) (t % 64)) 1 is, none)))
    (λ out. out)
    (cases_Bool (has_train (of_words words) t))

-- a train whose word is 0 isn't there
pub no_train : (words : List ℕ) (t : ℕ) → get_or words (t / 64) 0 ≡ 0 → has_train (of_words words) t ≡ false
no_train words t none = bit_lacks words t (ap (λ n. bit_at n (t % 64)) none ∙ bit_at-zero (t % 64))

-- one word is another one, with the same bit of the train
same_in : (words : List ℕ) (k v u : ℕ) → k < length words → (u / 64 ≡ k → bit_at v (u % 64) ≡ bit_at (get_or words k 0) (u % 64))
    → has_train (of_words (set words k v)) u ≡ has_train (of_words words) u
same_in words k v u within same =
    ap (λ b. b == 1)
    (⊎_elim
    (λ (e : u / 64 ≡ k).
    ap (λ j. bit_at (get_or (set words k v) j 0) (u % 64)) e ∙ ap (λ n. bit_at n (u % 64)) (get_or-set_same words k v 0 within)
    ∙ same e ∙ ap (λ j. bit_at (get_or words j 0) (u % 64)) (sym e))
    (λ (ne : u / 64 ≢ k). ap (λ n. bit_at n (u % 64)) (get_or-set_other words k (u / 64) v 0 ne))
    (cases_eq (u / 64) k))

-- the bit of the train in the word that is another one
bit_in : (words : List ℕ) (k v t : ℕ) → k < length words → k ≡ t / 64 → bit_at (get_or (set words k v) (t / 64) 0) (t % 64) ≡ bit_at v (t % 64)
bit_in words k v t within at = ap (λ j. bit_at (get_or (set words k v) j 0) (t % 64)) (sym at) ∙ ap (λ n. bit_at n (t % 64)) (get_or-set_same words k v 0 within)

-- the place of another train in the same word is another one
apart : (t u k bit : ℕ) → k ≡ t / 64 → bit ≡ t % 64 → u ≢ t → u / 64 ≡ k → u % 64 ≢ bit
apart t u k bit at place ne same = λ (e : u % 64 ≡ bit). ne (omega (arith, at, place, same, e))

module _ (words : List ℕ) (t k bit : ℕ) (at : k ≡ t / 64) (place : bit ≡ t % 64) (within : k < length words) where
  low : bit < 64
  low = omega (arith, place)

  -- a train is put in
  pub put_in : (u : ℕ) → has_train (of_words (set words k (bit_or (get_or words k 0) (1 * 2 ^ bit % 2 ^ 64)))) u ≡ (u == t || has_train (of_words words) u)
  put_in u =
      let v : ℕ = bit_or (get_or words k 0) (1 * 2 ^ bit % 2 ^ 64) in
      ⊎_elim
      (λ (same : u ≡ t).
      ap (has_train (of_words (set words k v))) same
      ∙ bit_has (set words k v) t (bit_in words k v t within at ∙ ap (bit_at v) (sym place) ∙ bit_at_set_same w64 (get_or words k 0) bit low)
      ∙ sym (ap (λ b. b || has_train (of_words words) u) (eq-eqb u t same)))
      (λ (ne : u ≢ t).
      same_in words k v u within (λ same. bit_at_set_other w64 (get_or words k 0) bit low (u % 64) (apart t u k bit at place ne same))
      ∙ sym (ap (λ b. b || has_train (of_words words) u) (let off : (u == t) ≡ false = grind (arith, nat_tests) in off)))
      (cases_eq u t)

  -- a train is taken out
  pub taken_out : (u : ℕ) → has_train (of_words (set words k (bit_and (get_or words k 0) (bit_not w64 (1 * 2 ^ bit % 2 ^ 64))))) u ≡ (not (u == t) && has_train (of_words words) u)
  taken_out u =
      let v : ℕ = bit_and (get_or words k 0) (bit_not w64 (1 * 2 ^ bit % 2 ^ 64)) in
      ⊎_elim
      (λ (same : u ≡ t).
      ap (has_train (of_words (set words k v))) same
      ∙ bit_lacks (set words k v) t (bit_in words k v t within at ∙ ap (bit_at v) (sym place) ∙ bit_at_clear_same w64 (get_or words k 0) bit low)
      ∙ sym (ap (λ b. not b && has_train (of_words words) u) (eq-eqb u t same)))
      (λ (ne : u ≢ t).
      same_in words k v u within (λ same. bit_at_clear_other w64 (get_or words k 0) bit low (u % 64) (omega arith) (apart t u k bit at place ne same))
      ∙ sym (ap (λ b. not b && has_train (of_words words) u) (let off : (u == t) ≡ false = grind (arith, nat_tests) in off)))
      (cases_eq u t)

  -- the set is less where the train was there
  pub taken_less : has_train (of_words words) t ≡ true → size_of (of_words (set words k (bit_and (get_or words k 0) (bit_not w64 (1 * 2 ^ bit % 2 ^ 64))))) < size_of (of_words words)
  taken_less was =
      let w : ℕ = get_or words k 0 in
      let v : ℕ = bit_and w (bit_not w64 (1 * 2 ^ bit % 2 ^ 64)) in
      let on : bit_at w bit ≡ 1 =
      ap (λ j. bit_at (get_or words j 0) bit) at ∙ ap (bit_at (get_or words (t / 64) 0)) place ∙ eqb-true (bit_at (get_or words (t / 64) 0) (t % 64)) 1 was in
      let off : bit_at v bit ≡ 0 = bit_at_clear_same w64 w bit low in
      let other : v ≢ w = λ (e : v ≡ w). absurd (omega (arith, on, off, ap (λ n. bit_at n bit) e)) in
      size_less words k v within (omega (arith, other, and_le_l w (bit_not w64 (1 * 2 ^ bit % 2 ^ 64))))
    where
      -- where a word is less the set is less
      size_less : (words : List ℕ) (k v : ℕ) → k < length words → v < get_or words k 0 → size_of (of_words (set words k v)) < size_of (of_words words)
      size_less [] k v within less = absurd (omega (arith, within))
      size_less (w ∷ words) zero v within less = omega (arith, less)
      size_less (w ∷ words) (suc k) v within less = omega (arith, size_less words k v (omega (arith, within)) less)

-- ---- the first bit of a word from one on

-- the bits from one on are those of the word that is shifted
bit_shifted : (w b i : ℕ) → bit_at (w / 2 ^ b) i ≡ bit_at w (b + i)
bit_shifted w b i = ap (λ n. n % 2) (div-div-eq-div-mul w (2 ^ b) (2 ^ i) ∙ ap (λ n. w / n) (sym (pow-add 2 b i)))

-- no bit is 1
pub none_above : (w b : ℕ) → w / 2 ^ b ≡ 0 → (i : ℕ) → b ≤ i → bit_at w i ≡ 0
none_above w b none i le =
    let there : b + (i - b) ≡ i = omega (arith, le) in
    ap (bit_at w) (sym there) ∙ sym (bit_shifted w b (i - b)) ∙ ap (λ n. bit_at n (i - b)) none ∙ bit_at-zero (i - b)

-- the lowest bit of the shifted word is the first one
pub first_above : (w b : ℕ) → w < 2 ^ 64 → w / 2 ^ b ≢ 0 → w / 2 ^ b < 2 ^ 64
    → (b ≤ b + trailing_zeros w64 (w / 2 ^ b)) × (b + trailing_zeros w64 (w / 2 ^ b) < 64) × (bit_at w (b + trailing_zeros w64 (w / 2 ^ b)) ≡ 1)
    × ((i : ℕ) → b ≤ i → i < b + trailing_zeros w64 (w / 2 ^ b) → bit_at w i ≡ 0)
first_above w b fits some small =
    let high : ℕ = w / 2 ^ b in
    let found = bit_at-trailing_zeros w64 high (omega (arith, some)) small in
    let z : ℕ = trailing_zeros w64 high in
    let on : bit_at w (b + z) ≡ 1 = sym (bit_shifted w b z) ∙ found.1 in
    let inside : b + z < 64 = ⊎_elim (λ below. below) (λ past. absurd (omega (arith, on, bit_at_above w 64 (b + z) fits past))) (cases_lt (b + z) 64) in (
      omega arith,
      inside,
      on,
      λ i le lt.
          let there : b + (i - b) ≡ i = omega (arith, le) in
          ap (bit_at w) (sym there) ∙ sym (bit_shifted w b (i - b)) ∙ found.2 (i - b) (omega (arith, le, lt)),
    )
