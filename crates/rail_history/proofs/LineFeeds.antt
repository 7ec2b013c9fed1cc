-- The lines of a file, from the first on.
use Rattle.std.proofs.Common.{◌≡◌, ℕ, ◌+◌, Bool, false, eqb, List, [], ◌∷◌, ◌++◌, length, take, Some, None, refl, sym, ap, ◌∙◌}
use Rattle.std.specs.List.{list_any, position}
use Rattle.std.proofs.Math.Seq.{take-append-add}
use Rattle.rail_history.proofs.Cut.{mark_found}

abbrev pub is_feed : ℕ → Bool
is_feed b = eqb b 10

at_feed : (body more text : List ℕ) → list_any is_feed body ≡ false → text ≡ body ++ 10 ∷ more → position is_feed text ≡ Some (length body)
at_feed body more text free same = ap (position is_feed) same ∙ mark_found is_feed 10 refl body more free

pub line_cut : (body more : List ℕ) → list_any is_feed body ≡ false → (text : List ℕ) (end : ℕ) → text ≡ body ++ 10 ∷ more → position is_feed text ≡ Some end → take (end + 1) text ≡ body ++ 10 ∷ []
line_cut body more free text end same found =
    let here : end ≡ length body = some_is (sym found ∙ at_feed body more text free same) in
    ap (λ (n : ℕ). take (n + 1) text) here ∙ ap (take (length body + 1)) same ∙ take-append-add body (10 ∷ more) 1
  where
    some_is : {x y : ℕ} → Some x ≡ Some y → x ≡ y
    some_is e = cc

pub line_found : (body more : List ℕ) → list_any is_feed body ≡ false → (text : List ℕ) → text ≡ body ++ 10 ∷ more → position is_feed text ≡ None → ⊥
line_found body more free text same nowhere = none_some (sym nowhere ∙ at_feed body more text free same)
  where
    none_some : {x : ℕ} → None ≡ Some x → ⊥
    none_some e = cc
