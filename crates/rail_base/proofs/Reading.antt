-- What the digits of the hours are read as.
use Rattle.std.proofs.Common.{◌≡◌, ℕ, ◌+◌, ◌*◌, ◌-◌, ◌<◌, ◌^◌, true, false, List, [], ◌∷◌, length, decimal, Result, Ok, Err, Bor, Some, sym, ap, ◌∙◌, subst, arith, rules}
use Rattle.std.proofs.lemmas.Fmt.{IsAscii-decimal, decimal_nonempty, digits_decimal, digits_value-decimal}
use Rattle.std.proofs.lemmas.Str.{IsUtf8-from_ascii}
use Rattle.std.proofs.lemmas.Str.Ascii.{IsAscii-cons}
use Rattle.std.proofs.lemmas.Str.Parse.{IsNumeralModel, numerals_by_fold, parse_gives}
use Rattle.std.specs.Result.{MatchResult, is_ok, result_ok}
use Rattle.std.specs.Str.{IsAscii, IsUtf8, all_ascii_digits}
use Rattle.std.specs.Str.Parse.{ParsesUnsigned}
use Rattle.rail_base.specs.Clock.{hours_text}
use Rattle.rail_base.proofs.Writing.{hours_cases}

abbrev read_on : ℕ → List ℕ → ℕ
read_on n [] = n
read_on n (c ∷ cs) = read_on (10 * n + (c - 48)) cs

own : IsNumeralModel (λ ds. all_ascii_digits ds ≡ true) (read_on 0)
own = numerals_by_fold _ (search rules) read_on (search rules)

pub hours_text-utf8 : (hours : ℕ) → hours < 2 ^ 64 → IsUtf8 (hours_text hours)
hours_text-utf8 hours fits =
    let digits : IsAscii (decimal hours) = IsAscii-decimal hours fits in
    IsUtf8-from_ascii (hours_text hours) (hours_cases IsAscii hours (IsAscii-cons 48 (decimal hours) (omega arith) digits) digits)

are_digits : (hours : ℕ) → hours < 2 ^ 64 → all_ascii_digits (hours_text hours) ≡ true
are_digits hours fits =
    let digits : all_ascii_digits (decimal hours) ≡ true = digits_decimal own hours fits in
    hours_cases (λ (ds : List ℕ). all_ascii_digits ds ≡ true) hours digits digits

value_of : (hours : ℕ) → hours < 2 ^ 64 → read_on 0 (hours_text hours) ≡ hours
value_of hours fits =
    let value : read_on 0 (decimal hours) ≡ hours = digits_value-decimal own hours fits in
    hours_cases (λ (ds : List ℕ). read_on 0 ds ≡ hours) hours value value

some_digit : (hours : ℕ) → hours < 2 ^ 64 → 0 < length (hours_text hours)
some_digit hours fits =
    let some : 0 < length (decimal hours) = decimal_nonempty hours fits in
    hours_cases (λ (ds : List ℕ). 0 < length ds) hours (omega arith) some

-- the parse of the hours' text gives the hours
pub parse_hours : {E : Type 0} (hours : ℕ) (bs : List ℕ) (r : Result ℕ E) → hours < 2 ^ 64 → bs ≡ hours_text hours → ParsesUnsigned 64 10 bs r → r ≡ Ok hours
parse_hours hours bs r fits same parsed =
    let value : read_on 0 bs ≡ hours = ap (read_on 0) same ∙ value_of hours fits in
    parse_gives own 64 bs r parsed (ap all_ascii_digits same ∙ are_digits hours fits) (omega (arith, ap (length {A = ℕ}) same, some_digit hours fits)) (omega (arith, value, fits)) ∙ ap Ok value

-- the hours' text is text
pub no_text : {E : Type 0} (bs : List ℕ) (hours : ℕ) → hours < 2 ^ 64 → bs ≡ hours_text hours → {S : Type 0} (Q : S → Type 0) (R : E → Type 0) (r : Result S E) → MatchResult r Q (λ e. ¬ (IsUtf8 bs) × R e) → false ≡ is_ok r → ⊥
no_text bs hours fits same Q R r cases err =
    elim r as (λ r. MatchResult r Q (λ e. ¬ (IsUtf8 bs) × R e) → false ≡ is_ok r → ⊥) [ Ok s ↦ λ q bad. cc | Err e ↦ λ q bad. q.0 (subst IsUtf8 (sym same) (hours_text-utf8 hours fits)) ] cases err

-- what is read of the hours' text, as it was checked to be text
pub read_hours : {E F : Type 0} (bs : List ℕ) (hours : ℕ) → hours < 2 ^ 64 → bs ≡ hours_text hours
    → (R : E → Type 0) (r : Result (Bor (List ℕ)) E) → MatchResult r (λ s. (s.now ≡ bs) × IsUtf8 bs) R
    → (s : Bor (List ℕ)) → Some s ≡ result_ok r → (p : Result ℕ F) → ParsesUnsigned 64 10 s.now p
    → p ≡ Ok hours
read_hours bs hours fits same R r cases s some p parsed =
    elim r as (λ r. MatchResult r (λ s. (s.now ≡ bs) × IsUtf8 bs) R → Some s ≡ result_ok r → p ≡ Ok hours) [
      | Ok t ↦ λ q is. let one : s ≡ t = cc is in parse_hours hours s.now p fits (ap (λ (v : Bor (List ℕ)). v.now) one ∙ q.0 ∙ same) parsed
      | Err e ↦ λ q is. cc
    ] cases some

-- two counts of hours with one text are one
pub hours_injective : (a b : ℕ) → a < 2 ^ 64 → b < 2 ^ 64 → hours_text a ≡ hours_text b → a ≡ b
hours_injective a b fits_a fits_b same = sym (value_of a fits_a) ∙ ap (read_on 0) same ∙ value_of b fits_b
