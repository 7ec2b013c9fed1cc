-- What the marks of the chains say after a change, and which one is first.
use Rattle.std.proofs.Common.{◌≡◌, ℕ, zero, suc, ◌+◌, ◌-◌, ◌*◌, ◌^◌, ◌/◌, ◌%◌, ◌<◌, ◌≤◌, ◌≢◌, List, [], ◌∷◌, ◌++◌, length, get_or, set, replicate, bit_and, bit_or, refl, sym, ap, ◌∙◌, ⊎_elim, arith}
use Rattle.std.specs.Int.{bit_at, bit_not, trailing_zeros, w64}
use Rattle.std.proofs.lemmas.Bool.{cases_eq, cases_lt}
use Rattle.std.proofs.lemmas.Nat.{pow-add}
use Rattle.std.proofs.lemmas.Nat.Bits.{bit_at_set_same, bit_at_set_other, bit_at_clear_same, bit_at_clear_other, bit_at-trailing_zeros, bit_at-zero, bit_at_above}
use Rattle.std.proofs.lemmas.List.{get_or-set_same, get_or-set_other}
use Rattle.std.proofs.Math.Nat.{div-div-eq-div-mul}
use Rattle.rail_queue.specs.declared.event.Event.{Event}
use Rattle.rail_queue.proofs.Ringed.{empty_chain}
use Rattle.rail_queue.specs.Choice.{turn, AreNearEmpty, IsNearest}
use Rattle.rail_queue.specs.Marks.{mark_at, mark_of, AreMarked, AreBare, IsFirstMarked}

pub mark_read : (words : List ℕ) (c : ℕ) → mark_at words c ≡ bit_at (get_or words (c / 64) 0) (c % 64)
unfolding mark_at
mark_read words c = refl

-- one word changed
here : (words : List ℕ) (c v : ℕ) → c / 64 < length words → mark_at (set words (c / 64) v) c ≡ bit_at v (c % 64)
here words c v within = mark_read (set words (c / 64) v) c ∙ ap (λ n. bit_at n (c % 64)) (get_or-set_same words (c / 64) v 0 within)

there : (words : List ℕ) (c other v : ℕ) → c / 64 < length words → other ≢ c → ((i : ℕ) → i < 64 → i ≢ c % 64 → bit_at v i ≡ bit_at (get_or words (c / 64) 0) i) → mark_at (set words (c / 64) v) other ≡ mark_at words other
there words c other v within ne same =
    ⊎_elim
    (λ (e : other / 64 ≡ c / 64).
    mark_read (set words (c / 64) v) other ∙ ap (λ k. bit_at (get_or (set words (c / 64) v) k 0) (other % 64)) e ∙ ap (λ n. bit_at n (other % 64)) (get_or-set_same words (c / 64) v 0 within)
    ∙ same (other % 64) (omega arith) (λ h. ne (omega (arith, e, h)))
    ∙ ap (λ k. bit_at (get_or words k 0) (other % 64)) (sym e) ∙ sym (mark_read words other))
    (λ (differ : other / 64 ≢ c / 64).
    mark_read (set words (c / 64) v) other ∙ ap (λ n. bit_at n (other % 64)) (get_or-set_other words (c / 64) (other / 64) v 0 differ) ∙ sym (mark_read words other))
    (cases_eq (other / 64) (c / 64))

pub set_here : (words : List ℕ) (c : ℕ) → c / 64 < length words → mark_at (set words (c / 64) (bit_or (get_or words (c / 64) 0) (1 * 2 ^ (c % 64) % 2 ^ 64))) c ≡ 1
set_here words c within = here words c _ within ∙ bit_at_set_same w64 (get_or words (c / 64) 0) (c % 64) (omega arith)

pub set_there : (words : List ℕ) (c other : ℕ) → c / 64 < length words → other ≢ c → mark_at (set words (c / 64) (bit_or (get_or words (c / 64) 0) (1 * 2 ^ (c % 64) % 2 ^ 64))) other ≡ mark_at words other
set_there words c other within ne = there words c other _ within ne (λ i low differ. bit_at_set_other w64 (get_or words (c / 64) 0) (c % 64) (omega arith) i differ)

pub cleared_here : (words : List ℕ) (c : ℕ) → c / 64 < length words → mark_at (set words (c / 64) (bit_and (get_or words (c / 64) 0) (bit_not w64 (1 * 2 ^ (c % 64) % 2 ^ 64)))) c ≡ 0
cleared_here words c within = here words c _ within ∙ bit_at_clear_same w64 (get_or words (c / 64) 0) (c % 64) (omega arith)

pub cleared_there : (words : List ℕ) (c other : ℕ) → c / 64 < length words → other ≢ c → mark_at (set words (c / 64) (bit_and (get_or words (c / 64) 0) (bit_not w64 (1 * 2 ^ (c % 64) % 2 ^ 64)))) other ≡ mark_at words other
cleared_there words c other within ne = there words c other _ within ne (λ i low differ. bit_at_clear_other w64 (get_or words (c / 64) 0) (c % 64) (omega arith) i low differ)

pub none_marked : (n c : ℕ) → mark_at (replicate n 0) c ≡ 0
none_marked n c = mark_read (replicate n 0) c ∙ ap (λ m. bit_at m (c % 64)) (empty n (c / 64)) ∙ bit_at-zero (c % 64)
  where
    empty : (n k : ℕ) → get_or (replicate {A = ℕ} n 0) k 0 ≡ 0
    empty zero k = refl
    empty (suc n) zero = refl
    empty (suc n) (suc k) = empty n k

-- a word without its lowest bits
shifted : (n p i : ℕ) → bit_at (n / 2 ^ p) i ≡ bit_at n (p + i)
shifted n p i = ap (λ k. k % 2) (div-div-eq-div-mul n (2 ^ p) (2 ^ i) ∙ ap (λ k. n / k) (sym (pow-add 2 p i)))

-- where the chains around the ring have their bits
word_of : (start s j : ℕ) → 64 * s ≤ start % 64 + j → start % 64 + j < 64 * s + 64 → (start + j) % 1024 / 64 ≡ (start / 64 + s) % 16
word_of start s j low high = omega arith

bit_of : (start s j : ℕ) → 64 * s ≤ start % 64 + j → start % 64 + j < 64 * s + 64 → (start + j) % 1024 % 64 ≡ start % 64 + j - 64 * s
bit_of start s j low high = omega arith

around : (words : List ℕ) (start s j : ℕ) → 64 * s ≤ start % 64 + j → start % 64 + j < 64 * s + 64 → mark_at words ((start + j) % 1024) ≡ bit_at (get_or words ((start / 64 + s) % 16) 0) (start % 64 + j - 64 * s)
around words start s j low high =
    mark_read words ((start + j) % 1024) ∙ ap (λ k. bit_at (get_or words k 0) ((start + j) % 1024 % 64)) (word_of start s j low high)
    ∙ ap (λ k. bit_at (get_or words ((start / 64 + s) % 16) 0) k) (bit_of start s j low high)

-- in the rest of the first word
around_first : (words : List ℕ) (start j : ℕ) → start < 1024 → start % 64 + j < 64 → mark_at words ((start + j) % 1024) ≡ bit_at (get_or words (start / 64) 0 / 2 ^ (start % 64)) j
around_first words start j within high =
    let word : (start / 64 + 0) % 16 ≡ start / 64 = omega arith in
    let place : start % 64 + j - 64 * 0 ≡ start % 64 + j = omega arith in
    around words start 0 j (omega arith) (omega (arith, high)) ∙ ap (λ k. bit_at (get_or words k 0) (start % 64 + j - 64 * 0)) word ∙ ap (λ k. bit_at (get_or words (start / 64) 0) k) place
    ∙ sym (shifted (get_or words (start / 64) 0) (start % 64) j)

zero_one : (n : ℕ) → n ≡ 0 → n ≡ 1 → ⊥
zero_one n none one = omega (arith, none, one)

within_word : (word place tz : ℕ) → word < 2 ^ 64 → bit_at (word / 2 ^ place) tz ≡ 1 → place + tz < 64
within_word word place tz fits one =
    ⊎_elim
    (λ less. less)
    (λ most. absurd (zero_one _ (bit_at_above word 64 (place + tz) fits most) (sym (shifted word place tz) ∙ one)))
    (cases_lt (place + tz) 64)

pub first_in_rest : (words : List ℕ) (start n : ℕ) → start < 1024 → get_or words (start / 64) 0 < 2 ^ 64 → n ≡ get_or words (start / 64) 0 / 2 ^ (start % 64) → 0 < n → n < 2 ^ 64 → IsFirstMarked words start (start + trailing_zeros w64 n)
first_in_rest words start n within fits is some small =
    let bits = bit_at-trailing_zeros w64 n some small in
    let tz : ℕ = trailing_zeros w64 n in
    let one : bit_at (get_or words (start / 64) 0 / 2 ^ (start % 64)) tz ≡ 1 = ap (λ m. bit_at m tz) (sym is) ∙ bits.1 in
    let low : start % 64 + tz < 64 = within_word (get_or words (start / 64) 0) (start % 64) tz fits one in
    let at : start + tz ≡ (start + tz) % 1024 = omega (arith, within, low) in
    record {
      step = tz;
      low = omega (arith, low);
      at = at;
      marked = ap (mark_at words) at ∙ around_first words start tz within low ∙ one;
      bare = λ j less. around_first words start j within (omega (arith, low, less)) ∙ ap (λ m. bit_at m j) (sym is) ∙ bits.2 j less;
    }

pub rest_bare : (words : List ℕ) (start : ℕ) → start < 1024 → get_or words (start / 64) 0 / 2 ^ (start % 64) ≡ 0 → AreBare words start (64 * 1 - start % 64)
rest_bare words start within none j low = around_first words start j within (omega (arith, low)) ∙ ap (λ m. bit_at m j) none ∙ bit_at-zero j

-- in a later word
turned : (start s tz : ℕ) → 1 ≤ s → tz < 64 → (start / 64 + s) % 16 * 64 + tz ≡ (start + (64 * s - start % 64 + tz)) % 1024
turned start s tz some low = omega arith

turned_again : (start step : ℕ) → 1024 ≤ step → (start + (step - 1024)) % 1024 ≡ (start + step) % 1024
turned_again start step high = omega arith

later_bit : (words : List ℕ) (start s r bits : ℕ) → 1 ≤ s → r < 64 → bits ≡ get_or words ((start / 64 + s) % 16) 0 → mark_at words ((start + (64 * s - start % 64 + r)) % 1024) ≡ bit_at bits r
later_bit words start s r bits some low is =
    let place : start % 64 + (64 * s - start % 64 + r) - 64 * s ≡ r = omega (arith, some) in
    around words start s (64 * s - start % 64 + r) (omega (arith, some)) (omega (arith, some, low)) ∙ ap (λ k. bit_at (get_or words ((start / 64 + s) % 16) 0) k) place ∙ ap (λ m. bit_at m r) (sym is)

later_bare : (words : List ℕ) (start s n bits : ℕ) → 1 ≤ s → n ≤ 64 → AreBare words start (64 * s - start % 64) → bits ≡ get_or words ((start / 64 + s) % 16) 0 → ((i : ℕ) → i < n → bit_at bits i ≡ 0) → AreBare words start (64 * s - start % 64 + n)
later_bare words start s n bits some low so_far is none j less =
    ⊎_elim
    (λ (before : j < 64 * s - start % 64). so_far j before)
    (λ (most : 64 * s - start % 64 ≤ j).
    let r : ℕ = j - (64 * s - start % 64) in
    let e : 64 * s - start % 64 + r ≡ j = omega (arith, most) in
    let r_low : r < n = omega (arith, most, less) in
    ap (λ k. mark_at words ((start + k) % 1024)) (sym e) ∙ later_bit words start s r bits some (omega (arith, r_low, low)) is ∙ none r r_low)
    (cases_lt j (64 * s - start % 64))

pub bare_more : (words : List ℕ) (start s bits : ℕ) → 1 ≤ s → AreBare words start (64 * s - start % 64) → bits ≡ get_or words ((start / 64 + s) % 16) 0 → bits ≡ 0 → AreBare words start (64 * (s + 1) - start % 64)
bare_more words start s bits some so_far is none j low =
    later_bare words start s 64 bits some (omega arith) so_far is (λ i _. ap (λ m. bit_at m i) none ∙ bit_at-zero i) j (omega (arith, low, some))

once_around : (words : List ℕ) (start s step : ℕ) → 1 ≤ s → s < 17 → step < 64 * s - start % 64 + 64 → AreBare words start (64 * s - start % 64) → mark_at words ((start + step) % 1024) ≡ 1 → step < 1024
once_around words start s step some few low so_far one =
    ⊎_elim
    (λ less. less)
    (λ most. absurd (zero_one _ (so_far (step - 1024) (omega (arith, most, low, some, few))) (ap (mark_at words) (turned_again start step most) ∙ one)))
    (cases_lt step 1024)

pub first_in_word : (words : List ℕ) (start s bits : ℕ) → 1 ≤ s → s < 17 → AreBare words start (64 * s - start % 64) → bits ≡ get_or words ((start / 64 + s) % 16) 0 → 0 < bits → bits < 2 ^ 64 → IsFirstMarked words start ((start / 64 + s) % 16 * 64 + trailing_zeros w64 bits)
first_in_word words start s bits some few so_far is pos small =
    let found = bit_at-trailing_zeros w64 bits pos small in
    let tz : ℕ = trailing_zeros w64 bits in
    let low : tz < 64 = found.0 in
    let step : ℕ = 64 * s - start % 64 + tz in
    let one : mark_at words ((start + step) % 1024) ≡ 1 = later_bit words start s tz bits some low is ∙ found.1 in
    let at : (start / 64 + s) % 16 * 64 + tz ≡ (start + step) % 1024 = turned start s tz some low in
    record {
      step = step;
      low = once_around words start s step some few (omega (arith, low)) so_far one;
      at = at;
      marked = ap (mark_at words) at ∙ one;
      bare = later_bare words start s tz bits some (omega (arith, low)) so_far is found.2;
    }

-- what the marks say of the chains
unmarked : (list : List (ℕ × Event)) → mark_of list ≡ 0 → list ≡ []
unmarked [] none = refl
unmarked (x ∷ xs) none = absurd (omega (arith, none))

marked : (list : List (ℕ × Event)) → mark_of list ≡ 1 → (x : ℕ × Event) × (rest : List (ℕ × Event)) × (list ≡ x ∷ rest)
marked [] some = absurd (omega (arith, some))
marked (x ∷ xs) some = (x, xs, refl)

pub bare_near : (base n : ℕ) (words : List ℕ) (chains : List (List (ℕ × Event))) → AreMarked words chains 1024 → AreBare words (base % 1024) n → AreNearEmpty chains base n
bare_near base n words chains all bare j low = unmarked (get_or chains (turn base j) []) (sym (all (turn base j) (omega arith)) ∙ bare j low)

pub nearest_of : (base chain : ℕ) (words : List ℕ) (chains : List (List (ℕ × Event))) → AreMarked words chains 1024 → IsFirstMarked words (base % 1024) chain → IsNearest chains base chain
nearest_of base chain words chains all first =
    let found = marked (get_or chains chain []) (sym (all chain (omega (arith, first.at))) ∙ first.marked) in
    record {
      step = first.step;
      low = first.low;
      at = first.at;
      before = bare_near base first.step words chains all first.bare;
      slot = found.0.0;
      first = found.0.1;
      rest = found.1;
      is = found.2;
    }

-- where there is no event there is no mark
pub marked_none : (words : List ℕ) (chains : List (List (ℕ × Event))) (n : ℕ) → ((c : ℕ) → mark_at words c ≡ 0) → chains ≡ replicate n [] → AreMarked words chains 1024
marked_none words chains n none is c low = none c ∙ sym (ap (λ cs. mark_of (get_or cs c [])) is ∙ ap mark_of (empty_chain n c))

-- a chain with an event is to be marked
pub mark_some : (front : List (ℕ × Event)) (x : ℕ × Event) (rest : List (ℕ × Event)) → mark_of (front ++ x ∷ rest) ≡ 1
mark_some [] x rest = refl
mark_some (y ∷ front) x rest = refl

-- the marks after a change of one chain
pub marked_set : (words now : List ℕ) (chains new : List (List (ℕ × Event))) (k : ℕ) (list : List (ℕ × Event)) → AreMarked words chains 1024 → new ≡ set chains k list → (k < 1024 → mark_at now k ≡ mark_of (get_or new k [])) → ((other : ℕ) → other ≢ k → mark_at now other ≡ mark_at words other) → AreMarked now new 1024
marked_set words now chains new k list all is mine others c low =
    ⊎_elim
    (λ (e : c ≡ k). ap (mark_at now) e ∙ mine (omega (arith, low, e)) ∙ ap (λ n. mark_of (get_or new n [])) (sym e))
    (λ (ne : c ≢ k). others c ne ∙ all c low ∙ ap mark_of (sym (ap (λ cs. get_or cs c []) is ∙ get_or-set_other chains k c list [] ne)))
    (cases_eq c k)
