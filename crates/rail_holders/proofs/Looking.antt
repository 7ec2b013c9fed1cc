-- The first of some sections that somebody holds, looked for in a part of them first.
use Rattle.std.proofs.Common.{◌≡◌, ℕ, zero, suc, List, [], ◌∷◌, Option, Some, None, take, drop, get_or, refl, sym}
use Rattle.std.proofs.lemmas.Option.{none-some}
use Rattle.rail_holders.specs.FirstHeld.{first_held, held_or}

passed : (x : ℕ) (holder : Option ℕ) (front all rest : Option (ℕ × ℕ)) → (front ≡ None → all ≡ rest) → held_or x holder front ≡ None → held_or x holder all ≡ rest
passed x (Some t) front all rest h is = absurd (none-some (x, t) (sym is))
passed x None front all rest h is = h is

-- where none of them is held, it is that of those behind
pub none_in_front : (holders : List (Option ℕ)) (n : ℕ) (xs : List ℕ) → first_held holders (take n xs) ≡ None → first_held holders xs ≡ first_held holders (drop n xs)
none_in_front holders zero xs is = refl
none_in_front holders (suc n) [] is = refl
none_in_front holders (suc n) (x ∷ xs) is = passed x (get_or holders x None) (first_held holders (take n xs)) (first_held holders xs) (first_held holders (drop n xs)) (none_in_front holders n xs) is
