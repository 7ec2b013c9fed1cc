-- Lists of one item where it is there, and of none where it is not.
use Rattle.std.proofs.Common.{◌≡◌, ◌≤◌, Bool, true, false, cond, [], ◌∷◌, length, map, Option, Some, None, refl, sym, arith}
use Rattle.std.specs.List.{list_all}
use Rattle.std.proofs.lemmas.Bool.{and_from}
use Rattle.std.proofs.lemmas.Option.{none-some}

-- what was found is the item of the list
pub there_some : {X : Type 0} (b : Bool) (x y : X) → Some y ≡ cond b (Some x) None → y ∷ [] ≡ cond b (x ∷ []) []
there_some true x y h = cc
there_some false x y h = absurd (none-some y (sym h))

-- and where nothing was found it has none
pub there_none : {X : Type 0} (b : Bool) (x : X) → (let nothing : Option X = None in nothing) ≡ cond b (Some x) None → [] ≡ cond b (x ∷ []) []
there_none true x h = absurd (none-some x h)
there_none false x h = refl

-- such a list has no more than one item
pub there_short : {X : Type 0} (b : Bool) (x : X) → length (cond b (x ∷ []) []) ≤ 1
there_short true x = omega arith
there_short false x = omega arith

-- all its items pass
pub there_all : {X : Type 0} (p : X → Bool) (b : Bool) (x : X) → (b ≡ true → p x ≡ true) → list_all p (cond b (x ∷ []) []) ≡ true
there_all p true x h = and_from (p x) true (h refl) refl
there_all p false x h = refl

pub there_map : {X Y : Type 0} (g : X → Y) (b : Bool) (x : X) → map g (cond b (x ∷ []) []) ≡ cond b (g x ∷ []) []
there_map g true x = refl
there_map g false x = refl
