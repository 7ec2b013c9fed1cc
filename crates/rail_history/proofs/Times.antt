-- The parts of a time's text, and which bytes stand in it.
use Rattle.std.proofs.Common.{◌≡◌, ℕ, ◌+◌, ◌/◌, ◌%◌, ◌-◌, ◌<◌, ◌≤◌, ◌^◌, Bool, true, false, eqb, leb, List, [], ◌∷◌, ◌++◌, length, take, get_or, refl, ap, ◌∙◌, arith, append_assoc, length-append}
use Rattle.std.specs.Char.{is_ascii_digit}
use Rattle.std.specs.List.{list_any}
use Rattle.std.proofs.lemmas.Bool.{and_parts, leb-true, ne_eqb, or_from}
use Rattle.std.proofs.lemmas.List.{take_at, get_or-append_right}
use Rattle.std.proofs.lemmas.List.Folds.{list_any-append}
use Rattle.std.specs.Str.{all_ascii_digits}
use Rattle.rail_base.specs.Clock.{hours_text, time_text, two_digits}
use Rattle.rail_history.proofs.Reading.{hours_spell}

pub front_at : (text front tail : List ℕ) (n : ℕ) → text ≡ front ++ tail → length tail ≡ n → take (length text - n) text ≡ front
front_at text front tail n e l =
    rw e (take_at front tail (length (front ++ tail) - n) (omega (arith, length-append front tail)))

end_at : (text front tail : List ℕ) (n : ℕ) → text ≡ front ++ tail → n ≤ length tail → get_or text (length text - n) 0 ≡ get_or tail (length tail - n) 0
end_at text front tail n e l =
    let place : length (front ++ tail) - n - length front ≡ length tail - n = omega (arith, length-append front tail) in
    rw e (get_or-append_right front tail (length front) (length (front ++ tail) - n) 0 refl (omega (arith, length-append front tail)) ∙ ap (λ (k : ℕ). get_or tail k 0) place)

-- what stands behind the hours
pub clock_text : ℕ → List ℕ
clock_text time = 58 ∷ (48 + time / 600 % 60 / 10) ∷ (48 + time / 600 % 60 % 10) ∷ 58 ∷ (48 + time / 10 % 60 / 10) ∷ (48 + time / 10 % 60 % 10) ∷ 46 ∷ (48 + time % 10) ∷ []

time_split : (time : ℕ) → time_text time ≡ hours_text (time / 36000) ++ clock_text time
unfolding clock_text
time_split time =
    let hours : List ℕ = hours_text (time / 36000) in
    let minutes : List ℕ = 58 ∷ two_digits (time / 600 % 60) in
    let seconds : List ℕ = 58 ∷ two_digits (time / 10 % 60) in
    let tenths : List ℕ = 46 ∷ (48 + time % 10) ∷ [] in
    append_assoc (hours ++ minutes) seconds tenths ∙ append_assoc hours minutes (seconds ++ tenths)

-- the parts of a time's text, counted from its end
pub record AreParts (text : List ℕ) (time : ℕ) : Type 0 where
  pub long : 8 ≤ length text
  pub hours : take (length text - 8) text ≡ hours_text (time / 36000)
  pub m1 : get_or text (length text - 7) 0 ≡ 48 + time / 600 % 60 / 10
  pub m0 : get_or text (length text - 6) 0 ≡ 48 + time / 600 % 60 % 10
  pub s1 : get_or text (length text - 4) 0 ≡ 48 + time / 10 % 60 / 10
  pub s0 : get_or text (length text - 3) 0 ≡ 48 + time / 10 % 60 % 10
  pub tenth : get_or text (length text - 1) 0 ≡ 48 + time % 10

pub parts_of : (text : List ℕ) (time : ℕ) → text ≡ time_text time → AreParts text time
unfolding clock_text
parts_of text time e =
    let front : List ℕ = hours_text (time / 36000) in
    let tail : List ℕ = clock_text time in
    let split : text ≡ front ++ tail = e ∙ time_split time in
    record {
      long = omega (arith, ap (length {A = ℕ}) split, length-append front tail);
      hours = front_at text front tail 8 split refl;
      m1 = end_at text front tail 7 split (omega arith);
      m0 = end_at text front tail 6 split (omega arith);
      s1 = end_at text front tail 4 split (omega arith);
      s0 = end_at text front tail 3 split (omega arith);
      tenth = end_at text front tail 1 split (omega arith);
    }

-- a mark that isn't in the text of a time
module _ (mark : ℕ) (low : mark < 46) where
  abbrev pub is_mark : ℕ → Bool
  is_mark c = eqb c mark

  other : (c : ℕ) → 46 ≤ c → is_mark c ≡ false
  other c high = ne_eqb c mark (λ e. omega (arith, low, high, e))

  pub digits_free : (ds : List ℕ) → all_ascii_digits ds ≡ true → list_any is_mark ds ≡ false
  digits_free [] all = refl
  digits_free (c ∷ cs) all =
      let both = and_parts (is_ascii_digit c) (all_ascii_digits cs) all in
      let digit = and_parts (leb 48 c) (leb c 57) both.0 in
      or_from (is_mark c) (list_any is_mark cs) (other c (omega (arith, leb-true 48 c digit.0))) (digits_free cs both.1)

  clock_free : (time : ℕ) → list_any is_mark (clock_text time) ≡ false
  unfolding clock_text
  clock_free time =
      or_from (is_mark 58) _ (other 58 (omega arith))
      (or_from (is_mark (48 + time / 600 % 60 / 10)) _ (other (48 + time / 600 % 60 / 10) (omega arith))
      (or_from (is_mark (48 + time / 600 % 60 % 10)) _ (other (48 + time / 600 % 60 % 10) (omega arith))
      (or_from (is_mark 58) _ (other 58 (omega arith))
      (or_from (is_mark (48 + time / 10 % 60 / 10)) _ (other (48 + time / 10 % 60 / 10) (omega arith))
      (or_from (is_mark (48 + time / 10 % 60 % 10)) _ (other (48 + time / 10 % 60 % 10) (omega arith))
      (or_from (is_mark 46) _ (other 46 (omega arith))
      (or_from (is_mark (48 + time % 10)) false (other (48 + time % 10) (omega arith)) refl)))))))

  pub time_free : (time : ℕ) → time < 2 ^ 64 → list_any is_mark (time_text time) ≡ false
  time_free time fits =
      let hours : List ℕ = hours_text (time / 36000) in
      ap (list_any is_mark) (time_split time) ∙ list_any-append is_mark hours (clock_text time)
      ∙ or_from (list_any is_mark hours) (list_any is_mark (clock_text time)) (digits_free hours (hours_spell (time / 36000) (omega (arith, fits))).digits) (clock_free time)
