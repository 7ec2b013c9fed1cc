use Rattle.std.proofs.Common.{◌≡◌, ℕ, ◌+◌, ◌*◌, ◌-◌, ◌^◌, ◌<◌, min, List, [], ◌∷◌, ◌++◌, length, take, get_or, refl, ap, ◌∙◌, arith}
use Rattle.std.proofs.lemmas.List.{take_more, take_all}
use Rattle.rail_text.specs.Decimals.{value_on}
use Rattle.rail_text.proofs.decimals.value_of.Goals as goal

value_on-more : (n : ℕ) (xs : List ℕ) (d : ℕ) → value_on n (xs ++ d ∷ []) ≡ 10 * value_on n xs + (d - 48)
value_on-more n [] d = refl
value_on-more n (x ∷ xs) d = value_on-more (10 * n + (x - 48)) xs d

pub loop-digit-preserved : goal.loop-digit-preserved
loop-digit-preserved c =
    let i : ℕ = c.loop-digit.digit-index in
    let digits : List ℕ = c.args.digits.now in
    let within : i < length digits = omega arith in
    let more : value_on 0 (take (i + 1) digits) ≡ 10 * value_on 0 (take i digits) + (get_or digits i 0 - 48) =
    ap (value_on 0) (take_more digits i 0 within) ∙ value_on-more 0 (take i digits) (get_or digits i 0) in
    let now : c.saturating_add-value.result ≡ min (value_on 0 (take (i + 1) digits)) (2 ^ 64 - 1) =
    omega (arith, more, c.loop-digit.invariant, c.saturating_add-value.ensures, c.saturating_mul.ensures, c.from.ensures, c.saturating_sub.ensures) in
    now

pub returns : goal.returns
returns c = rw (← take_all c.loop-digit.digit-index c.args.digits.now (omega arith)) c.loop-digit.invariant
