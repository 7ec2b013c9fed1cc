-- The text of a time, and its parts.
use Rattle.std.proofs.Common.{◌≡◌, ℕ, ◌+◌, ◌/◌, ◌%◌, ◌-◌, ◌<◌, ◌≤◌, ◌≢◌, ◌⊎◌, inl, inr, Bool, true, false, List, [], ◌∷◌, ◌++◌, length, take, get_or, nat_lt, cond, decimal, refl, sym, ap, ◌∙◌, arith, append_assoc, length-append}
use Rattle.std.proofs.lemmas.Bool.{ltb-true, ltb-false}
use Rattle.std.proofs.lemmas.Fmt.{decimal_digit, decimal_step}
use Rattle.std.proofs.lemmas.List.{take_at, get_or-append_right, same_from_push}
use Rattle.rail_base.specs.Clock.{IsLenientTime, hours_text, seconds_text, time_text, two_digits}

-- what holds of the decimal digits, and of them behind a zero, holds of the hours
pub hours_cases : (P : List ℕ → Type 0) (hours : ℕ) → P (48 ∷ decimal hours) → P (decimal hours) → P (hours_text hours)
hours_cases P hours led plain =
    elim (nat_lt hours 10) as (λ (b : Bool). P (cond b (48 ∷ decimal hours) (decimal hours))) [ true ↦ led | _ ↦ plain ]

-- hours below 100 have two digits
pub hours_text-pair : (hours : ℕ) → hours < 100 → two_digits hours ≡ hours_text hours
hours_text-pair hours short =
    elim (nat_lt hours 10) as (λ (b : Bool). nat_lt hours 10 ≡ b → two_digits hours ≡ cond b (48 ∷ decimal hours) (decimal hours)) [
      | true ↦ λ e. let low : hours < 10 = ltb-true hours 10 e in
          let tens : hours / 10 ≡ 0 = omega (arith, low) in
          let ones : hours % 10 ≡ hours = omega (arith, low) in
          rw (decimal_digit hours low, tens, ones)
      | false ↦ λ e. let high : 10 ≤ hours = ltb-false hours 10 e in
          rw (decimal_step hours high (omega (arith, short)), decimal_digit (hours / 10) (omega (arith, short)))
    ] refl

-- a time is its whole seconds, and its tenths
pub time_text-split : (time : ℕ) → time_text time ≡ seconds_text (time / 10) ++ (46 ∷ (48 + time % 10) ∷ [])
time_text-split time =
    let hours : time / 36000 ≡ time / 10 / 3600 = omega arith in
    let minutes : time / 600 ≡ time / 10 / 60 = omega arith in
    rw (hours, minutes)

-- the front of a text, and the bytes counted from its end
pub front_at : (text front tail : List ℕ) (n : ℕ) → text ≡ front ++ tail → length tail ≡ n → take (length text - n) text ≡ front
front_at text front tail n e l =
    rw e (take_at front tail (length (front ++ tail) - n) (omega (arith, length-append front tail)))

pub end_at : (text front tail : List ℕ) (n : ℕ) → text ≡ front ++ tail → n ≤ length tail → get_or text (length text - n) 0 ≡ get_or tail (length tail - n) 0
end_at text front tail n e l =
    let place : length (front ++ tail) - n - length front ≡ length tail - n = omega (arith, length-append front tail) in
    rw e (get_or-append_right front tail (length front) (length (front ++ tail) - n) 0 refl (omega (arith, length-append front tail)) ∙ ap (λ (k : ℕ). get_or tail k 0) place)

-- two texts that end in two bytes
pub same_ends : (xs ys : List ℕ) (a b c d : ℕ) → xs ++ (a ∷ b ∷ []) ≡ ys ++ (c ∷ d ∷ []) → (xs ≡ ys) × (a ≡ c) × (b ≡ d)
same_ends xs ys a b c d e =
    let outer = same_from_push (xs ++ (a ∷ [])) (ys ++ (c ∷ [])) b d (append_assoc xs (a ∷ []) (b ∷ []) ∙ e ∙ sym (append_assoc ys (c ∷ []) (d ∷ []))) in
    let inner = same_from_push xs ys a c outer.0 in
    (inner.0, inner.1, outer.1)

-- a text of the lenient form, by its end
pub record IsDotted (text : List ℕ) (time : ℕ) : Type 0 where
  pub long : 2 ≤ length text
  pub dot : get_or text (length text - 2) 0 ≡ 46
  pub tenth : get_or text (length text - 1) 0 ≡ 48 + time % 10
  pub front : take (length text - 2) text ≡ seconds_text (time / 10)

pub record IsPlain (text : List ℕ) (time : ℕ) : Type 0 where
  pub no_dot : get_or text (length text - 2) 0 ≢ 46
  pub whole : time % 10 ≡ 0
  pub same : text ≡ seconds_text (time / 10)

-- the parts of `H:MM:SS`, counted from its end
pub record AreParts (text : List ℕ) (seconds : ℕ) : Type 0 where
  pub hours : take (length text - 6) text ≡ hours_text (seconds / 3600)
  pub m1 : get_or text (length text - 5) 0 ≡ 48 + seconds / 60 % 60 / 10
  pub m0 : get_or text (length text - 4) 0 ≡ 48 + seconds / 60 % 60 % 10
  pub s1 : get_or text (length text - 2) 0 ≡ 48 + seconds % 60 / 10
  pub s0 : get_or text (length text - 1) 0 ≡ 48 + seconds % 60 % 10

pub parts_of : (text : List ℕ) (seconds : ℕ) → text ≡ seconds_text seconds → AreParts text seconds
parts_of text seconds e =
    let front : List ℕ = hours_text (seconds / 3600) in
    let tail : List ℕ = 58 ∷ (48 + seconds / 60 % 60 / 10) ∷ (48 + seconds / 60 % 60 % 10) ∷ 58 ∷ (48 + seconds % 60 / 10) ∷ (48 + seconds % 60 % 10) ∷ [] in
    let split : text ≡ front ++ tail = e ∙ append_assoc front (58 ∷ two_digits (seconds / 60 % 60)) (58 ∷ two_digits (seconds % 60)) in
    record {
      hours = front_at text front tail 6 split refl;
      m1 = end_at text front tail 5 split (omega arith);
      m0 = end_at text front tail 4 split (omega arith);
      s1 = end_at text front tail 2 split (omega arith);
      s0 = end_at text front tail 1 split (omega arith);
    }

pub lenient_ends : (text : List ℕ) (time : ℕ) → IsLenientTime text time → IsDotted text time ⊎ IsPlain text time
lenient_ends text time lenient =
    elim lenient.spelled [
      | inl e ↦
          let split : text ≡ seconds_text (time / 10) ++ (46 ∷ (48 + time % 10) ∷ []) = e ∙ time_text-split time in
          inl (record {
            long = omega (arith, ap length split, length-append (seconds_text (time / 10)) (46 ∷ (48 + time % 10) ∷ []));
            dot = end_at text (seconds_text (time / 10)) (46 ∷ (48 + time % 10) ∷ []) 2 split (omega arith);
            tenth = end_at text (seconds_text (time / 10)) (46 ∷ (48 + time % 10) ∷ []) 1 split (omega arith);
            front = front_at text (seconds_text (time / 10)) (46 ∷ (48 + time % 10) ∷ []) 2 split refl;
          })
      | inr e ↦
          let ends = same_ends text (seconds_text (time / 10)) 46 48 46 (48 + time % 10) (e ∙ time_text-split time) in
          let parts = parts_of text (time / 10) ends.0 in
          inr (record {
            no_dot = λ h. absurd (omega (arith, parts.s1, h));
            whole = omega (arith, ends.2);
            same = ends.0;
          })
    ]
