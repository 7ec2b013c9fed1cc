-- What the digits of a number are read as.
use Rattle.std.proofs.Common.{◌≡◌, ℕ, ◌+◌, ◌*◌, ◌-◌, ◌<◌, ◌^◌, true, false, List, [], ◌∷◌, length, decimal, Result, Ok, Err, Bor, Some, sym, ap, ◌∙◌, subst, arith, rules}
use Rattle.std.proofs.lemmas.Fmt.{IsAscii-decimal, decimal_nonempty, digits_decimal, digits_value-decimal}
use Rattle.std.proofs.lemmas.Str.{IsUtf8-from_ascii}
use Rattle.std.proofs.lemmas.Str.Parse.{IsNumeralModel, numerals_by_fold, parse_gives}
use Rattle.std.specs.Result.{MatchResult, is_ok, result_ok}
use Rattle.std.specs.Str.{IsUtf8, all_ascii_digits}
use Rattle.std.specs.Str.Parse.{ParsesUnsigned}

abbrev read_on : ℕ → List ℕ → ℕ
read_on n [] = n
read_on n (c ∷ cs) = read_on (10 * n + (c - 48)) cs

own : IsNumeralModel (λ ds. all_ascii_digits ds ≡ true) (read_on 0)
own = numerals_by_fold _ (search rules) read_on (search rules)

decimal-utf8 : (n : ℕ) → n < 2 ^ 64 → IsUtf8 (decimal n)
decimal-utf8 n fits = IsUtf8-from_ascii (decimal n) (IsAscii-decimal n fits)

-- the parse of a number's digits gives the number
parse_digits : {E : Type 0} (n : ℕ) (bs : List ℕ) (r : Result ℕ E) → n < 2 ^ 64 → bs ≡ decimal n → ParsesUnsigned 64 10 bs r → r ≡ Ok n
parse_digits n bs r fits same parsed =
    let value : read_on 0 bs ≡ n = ap (read_on 0) same ∙ digits_value-decimal own n fits in
    parse_gives own 64 bs r parsed (ap all_ascii_digits same ∙ digits_decimal own n fits) (omega (arith, ap (length {A = ℕ}) same, decimal_nonempty n fits)) (omega (arith, value, fits)) ∙ ap Ok value

-- a number's digits are text
pub no_text : {E : Type 0} (bs : List ℕ) (n : ℕ) → n < 2 ^ 64 → bs ≡ decimal n → {S : Type 0} (Q : S → Type 0) (R : E → Type 0) (r : Result S E) → MatchResult r Q (λ e. ¬ (IsUtf8 bs) × R e) → false ≡ is_ok r → ⊥
no_text bs n fits same Q R r cases err =
    elim r as (λ r. MatchResult r Q (λ e. ¬ (IsUtf8 bs) × R e) → false ≡ is_ok r → ⊥) [ Ok s ↦ λ q bad. cc | Err e ↦ λ q bad. q.0 (subst IsUtf8 (sym same) (decimal-utf8 n fits)) ] cases err

-- what is read of a number's digits, as they were checked to be text
pub read_digits : {E F : Type 0} (bs : List ℕ) (n : ℕ) → n < 2 ^ 64 → bs ≡ decimal n →
    (R : E → Type 0) (r : Result (Bor (List ℕ)) E) → MatchResult r (λ s. (s.now ≡ bs) × IsUtf8 bs) R →
    (s : Bor (List ℕ)) → Some s ≡ result_ok r → (p : Result ℕ F) → ParsesUnsigned 64 10 s.now p → p ≡ Ok n
read_digits bs n fits same R r cases s some p parsed =
    elim r as (λ r. MatchResult r (λ s. (s.now ≡ bs) × IsUtf8 bs) R → Some s ≡ result_ok r → p ≡ Ok n) [
      | Ok t ↦ λ q is. let one : s ≡ t = cc is in parse_digits n s.now p fits (ap (λ (v : Bor (List ℕ)). v.now) one ∙ q.0 ∙ same) parsed
      | Err e ↦ λ q is. cc
    ] cases some
