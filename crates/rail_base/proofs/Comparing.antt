-- What comparing a text with the canonical one tells.
use Rattle.std.proofs.Common.{◌≡◌, ◌≢◌, ℕ, ◌-◌, ◌+◌, ◌⊎◌, inl, inr, Bool, true, false, IsTrue, List, ◌++◌, length, take, drop, Bor, Option, Some, None, MatchOption, eqb, sym, ap, ◌∙◌}
use Rattle.std.specs.Cmp.Lexicographic.{pointwise, bytes_decides}
use Rattle.std.proofs.lemmas.Bool.Decides.{Decides-eqb}
use Rattle.std.proofs.lemmas.List.{append_cancel_right}
use Rattle.std.proofs.lemmas.Slice.Eq.{strip_suffix_is}

-- what taking an end off a text answers
abbrev pub IsStripped : List ℕ → List ℕ → Option (Bor (List ℕ)) → Type 0
IsStripped whole tail r =
    MatchOption r
    (pointwise eqb (drop (length whole - length tail) whole) tail ≡ false)
    (λ x. (pointwise eqb (drop (length whole - length tail) whole) tail ≡ true) × (x.now ≡ take (length whole - length tail) whole) × (length x.now + length tail ≡ length whole))

-- a text that is not the whole is the whole without its end exactly where what is left of the whole is the text
pub tells_whole : (text whole tail : List ℕ) (b : Bool) → pointwise eqb text whole ≡ false
    → (r : Option (Bor (List ℕ))) → IsStripped whole tail r
    → MatchOption r (b ≡ false) (λ x. b ≡ pointwise eqb text x.now)
    → (IsTrue b → (text ≡ whole) ⊎ (text ++ tail ≡ whole))
    × ((text ≡ whole) ⊎ (text ++ tail ≡ whole) → IsTrue b)
tells_whole text whole tail b differ r stripped tells =
    let apart : text ≢ whole = λ e. let t : pointwise eqb text whole ≡ true = (bytes_decides text whole).1 e in cc in
    let front = strip_suffix_is {E = eqb} Decides-eqb whole tail r stripped in
    elim r as (λ (r : Option (Bor (List ℕ))).
    MatchOption r ((front : List ℕ) → whole ≢ front ++ tail) (λ x. whole ≡ x.now ++ tail)
    → MatchOption r (b ≡ false) (λ x. b ≡ pointwise eqb text x.now)
    → (IsTrue b → (text ≡ whole) ⊎ (text ++ tail ≡ whole))
    × ((text ≡ whole) ⊎ (text ++ tail ≡ whole) → IsTrue b)) [
      | None ↦ λ no_front no. (λ yes. cc, λ either. elim either [ inl e ↦ absurd (apart e) | inr e ↦ absurd (no_front text (sym e)) ])
      | Some x ↦ λ is_front same. (
        λ yes. let e : text ≡ x.now = (bytes_decides text x.now).0 (sym same ∙ yes) in inr (ap (λ (f : List ℕ). f ++ tail) e ∙ sym is_front),
        λ either. elim either [ inl e ↦ absurd (apart e) | inr e ↦ same ∙ (bytes_decides text x.now).1 (append_cancel_right text x.now tail (e ∙ is_front)) ],
      )
    ] front tells
