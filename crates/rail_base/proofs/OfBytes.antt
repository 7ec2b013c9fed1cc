-- Tests none of which refuses a file for its size.
use Rattle.std.proofs.Common.{◌≡◌, Bool, true, false, cond, List, [], ◌∷◌, ◌++◌, Some, subst}
use Rattle.std.proofs.lemmas.Option.{none-some, same_Some}
use Rattle.rail_base.specs.FirstRefusals.{Test, first_failing}
use Rattle.rail_base.specs.Refusals.{is_file}
use Rattle.rail_base.specs.declared.refusals.Refusal.{Refusal}

-- none of the tests refuses a file
abbrev pub AreOfBytes : List (Test Refusal) → Type 0
AreOfBytes [] = Unit {0}
AreOfBytes (t ∷ ts) = (is_file t.answer.part ≡ false) × AreOfBytes ts

-- and so the first that fails does not
pub first_of_bytes : (ts : List (Test Refusal)) (refusal : Refusal) → AreOfBytes ts → first_failing ts ≡ Some refusal → is_file refusal.part ≡ false
first_of_bytes [] refusal all is = absurd (none-some refusal is)
first_of_bytes (t ∷ ts) refusal all is = by t.fails (first_of_bytes ts refusal all.1) is
  where
    by : (b : Bool) → (first_failing ts ≡ Some refusal → is_file refusal.part ≡ false) → cond b (Some t.answer) (first_failing ts) ≡ Some refusal → is_file refusal.part ≡ false
    by true rest is = subst (λ (r : Refusal). is_file r.part ≡ false) (same_Some t.answer refusal is) all.0
    by false rest is = rest is

pub of_both : (ts us : List (Test Refusal)) → AreOfBytes ts → AreOfBytes us → AreOfBytes (ts ++ us)
of_both [] us first second = second
of_both (t ∷ ts) us first second = (first.0, of_both ts us first.1 second)
