-- What digits are read as.
use Rattle.std.proofs.Common.{◌≡◌, ℕ, ◌+◌, ◌*◌, ◌-◌, ◌<◌, ◌^◌, true, false, List, [], ◌∷◌, length, decimal, Result, Ok, Err, Bor, Some, sym, ap, ◌∙◌, subst, arith, rules}
use Rattle.std.proofs.lemmas.Fmt.{IsAscii-decimal, decimal_nonempty, digits_decimal, digits_value-decimal}
use Rattle.std.proofs.lemmas.Str.{IsUtf8-from_ascii}
use Rattle.std.proofs.lemmas.Str.Ascii.{IsAscii-cons}
use Rattle.std.proofs.lemmas.Str.Parse.{IsNumeralModel, numerals_by_fold, parse_gives}
use Rattle.std.specs.Result.{MatchResult, is_ok, result_ok}
use Rattle.std.specs.Str.{IsAscii, IsUtf8, all_ascii_digits}
use Rattle.std.specs.Str.Parse.{ParsesUnsigned}
use Rattle.rail_base.specs.Clock.{hours_text}
use Rattle.rail_base.proofs.CallerLemmas.{hours_cases}

abbrev read_on : ℕ → List ℕ → ℕ
read_on n [] = n
read_on n (c ∷ cs) = read_on (10 * n + (c - 48)) cs

own : IsNumeralModel (λ ds. all_ascii_digits ds ≡ true) (read_on 0)
own = numerals_by_fold _ (search rules) read_on (search rules)

-- digits that spell a number
pub record SpellNumber (bytes : List ℕ) (n : ℕ) : Type 0 where
  pub digits : all_ascii_digits bytes ≡ true
  pub value : read_on 0 bytes ≡ n
  pub some : 0 < length bytes
  pub ascii : IsAscii bytes

pub decimal_spells : (n : ℕ) → n < 2 ^ 64 → SpellNumber (decimal n) n
decimal_spells n fits = record {
  digits = digits_decimal own n fits;
  value = digits_value-decimal own n fits;
  some = decimal_nonempty n fits;
  ascii = IsAscii-decimal n fits;
}

-- hours have a zero in front, if they are below ten
pub hours_spell : (hours : ℕ) → hours < 2 ^ 64 → SpellNumber (hours_text hours) hours
hours_spell hours fits =
    let plain = decimal_spells hours fits in
    hours_cases (λ (ds : List ℕ). SpellNumber ds hours) hours
    (record { digits = plain.digits; value = plain.value; some = omega arith; ascii = IsAscii-cons 48 (decimal hours) (omega arith) plain.ascii })
    plain

-- the parse of a number's digits gives the number
parse_digits : {E : Type 0} (bits n : ℕ) (bs : List ℕ) (r : Result ℕ E) → n < 2 ^ bits → SpellNumber bs n → ParsesUnsigned bits 10 bs r → r ≡ Ok n
parse_digits bits n bs r fits spell parsed =
    let P : ℕ → Type 0 = λ k. k < 2 ^ bits in
    parse_gives own bits bs r parsed spell.digits spell.some (subst P (sym spell.value) fits) ∙ ap Ok spell.value

-- a number's digits are text
pub no_text : {E : Type 0} (bs : List ℕ) (n : ℕ) → SpellNumber bs n → {S : Type 0} (Q : S → Type 0) (R : E → Type 0) (r : Result S E) → MatchResult r Q (λ e. ¬ (IsUtf8 bs) × R e) → false ≡ is_ok r → ⊥
no_text bs n spell Q R r cases err =
    elim r as (λ r. MatchResult r Q (λ e. ¬ (IsUtf8 bs) × R e) → false ≡ is_ok r → ⊥) [ Ok s ↦ λ q bad. cc | Err e ↦ λ q bad. q.0 (IsUtf8-from_ascii bs spell.ascii) ] cases err

-- what is read of a number's digits, as they were checked to be text
pub read_digits : {E F : Type 0} (bits : ℕ) (bs : List ℕ) (n : ℕ) → n < 2 ^ bits → SpellNumber bs n
    → (R : E → Type 0) (r : Result (Bor (List ℕ)) E) → MatchResult r (λ s. (s.now ≡ bs) × IsUtf8 bs) R
    → (s : Bor (List ℕ)) → Some s ≡ result_ok r → (p : Result ℕ F) → ParsesUnsigned bits 10 s.now p
    → p ≡ Ok n
read_digits bits bs n fits spell R r cases s some p parsed =
    elim r as (λ r. MatchResult r (λ s. (s.now ≡ bs) × IsUtf8 bs) R → Some s ≡ result_ok r → p ≡ Ok n) [
      | Ok t ↦ λ q is.
          let one : s ≡ t = cc is in
          let same : bs ≡ s.now = sym (ap (λ (v : Bor (List ℕ)). v.now) one ∙ q.0) in
          let P : List ℕ → Type 0 = λ ds. SpellNumber ds n in
          parse_digits bits n s.now p fits (subst P same spell) parsed
      | Err e ↦ λ q is. cc
    ] cases some
