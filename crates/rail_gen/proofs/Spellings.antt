-- Digits in names.
use Rattle.std.proofs.Common.{◌≡◌, ℕ, ◌+◌, ◌<◌, true, ◌&&◌, [], ◌∷◌, arith}
use Rattle.std.proofs.lemmas.Bool.Decides.{nat_tests}
use Rattle.rail_base.specs.NameForms.{is_name, is_name_byte}

pub digit_byte : (k : ℕ) → k < 10 → is_name_byte (48 + k) ≡ true
digit_byte k low = grind (arith, nat_tests)

pub letter_name : (letter k : ℕ) → is_name_byte letter ≡ true → k < 10 → is_name (letter ∷ (48 + k) ∷ []) ≡ true
letter_name letter k is low = λ i. is i && (digit_byte k low i && true)

pub in_name : (way k track : ℕ) → is_name_byte way ≡ true → k < 10 → is_name_byte track ≡ true → is_name (way ∷ 105 ∷ 110 ∷ (48 + k) ∷ track ∷ []) ≡ true
in_name way k track is low letter = λ i. is i && (digit_byte k low i && (letter i && true))

pub out_name : (way k track : ℕ) → is_name_byte way ≡ true → k < 10 → is_name_byte track ≡ true → is_name (way ∷ 111 ∷ 117 ∷ 116 ∷ (48 + k) ∷ track ∷ []) ≡ true
out_name way k track is low letter = λ i. is i && (digit_byte k low i && (letter i && true))

pub train_is_name : (a b : ℕ) → a < 10 → b < 10 → is_name (84 ∷ (48 + a) ∷ (48 + b) ∷ []) ≡ true
train_is_name a b low few = λ i. digit_byte a low i && (digit_byte b few i && true)
