-- A text tells its time.
use Rattle.std.proofs.Common.{◌≡◌, ℕ, ◌+◌, ◌/◌, ◌%◌, ◌<◌, ◌^◌, List, inl, inr, refl, sym, ◌∙◌, arith}
use Rattle.rail_base.specs.Clock.{IsLenientTime, seconds_text, time_text}
use Rattle.rail_base.proofs.Reading.{hours_injective}
use Rattle.rail_base.proofs.Writing.{lenient_ends, parts_of, same_ends, time_text-split}

-- two times in whole seconds with one text are one
seconds_injective : (a b : ℕ) → a < 2 ^ 64 → b < 2 ^ 64 → seconds_text a ≡ seconds_text b → a ≡ b
seconds_injective a b fits_a fits_b same =
    let of_a = parts_of (seconds_text a) a refl in
    let of_b = parts_of (seconds_text a) b same in
    let hours : a / 3600 ≡ b / 3600 = hours_injective (a / 3600) (b / 3600) (omega arith) (omega arith) (sym of_a.hours ∙ of_b.hours) in
    omega (arith, hours, of_a.m1, of_a.m0, of_a.s1, of_a.s0, of_b.m1, of_b.m0, of_b.s1, of_b.s0)

-- two times with one text are one
pub time_text-injective : (a b : ℕ) → a < 2 ^ 64 → b < 2 ^ 64 → time_text a ≡ time_text b → a ≡ b
time_text-injective a b fits_a fits_b same =
    let ends = same_ends (seconds_text (a / 10)) (seconds_text (b / 10)) 46 (48 + a % 10) 46 (48 + b % 10) (sym (time_text-split a) ∙ same ∙ time_text-split b) in
    let seconds : a / 10 ≡ b / 10 = seconds_injective (a / 10) (b / 10) (omega arith) (omega arith) ends.0 in
    omega (arith, seconds, ends.2)

-- a text of the lenient form is of one time
pub lenient_time : (text : List ℕ) (a b : ℕ) → IsLenientTime text a → IsLenientTime text b → a ≡ b
lenient_time text a b is_a is_b =
    elim (lenient_ends text a is_a) [
      | inl of_a ↦ elim (lenient_ends text b is_b) [
        | inl of_b ↦
            let seconds : a / 10 ≡ b / 10 = seconds_injective (a / 10) (b / 10) (omega (arith, is_a.short)) (omega (arith, is_b.short)) (sym of_a.front ∙ of_b.front) in
            omega (arith, seconds, of_a.tenth, of_b.tenth)
        | inr of_b ↦ absurd (of_b.no_dot of_a.dot)
      ]
      | inr of_a ↦ elim (lenient_ends text b is_b) [
        | inl of_b ↦ absurd (of_a.no_dot of_b.dot)
        | inr of_b ↦
            let seconds : a / 10 ≡ b / 10 = seconds_injective (a / 10) (b / 10) (omega (arith, is_a.short)) (omega (arith, is_b.short)) (sym of_a.same ∙ of_b.same) in
            omega (arith, seconds, of_a.whole, of_b.whole)
      ]
    ]
