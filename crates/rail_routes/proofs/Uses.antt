-- How often the items of a list use a name.
use Rattle.std.proofs.Common.{◌≡◌, ℕ, ◌+◌, ◌*◌, ◌≤◌, Bool, true, false, cond, ◌||◌, ◌&&◌, List, [], ◌∷◌, length, count_by, nat_lt, Some, is_some, refl, sym, ap, ◌∙◌, arith}
use Rattle.std.specs.List.{find, list_any, list_all, sum_by}
use Rattle.std.proofs.lemmas.List.Sums.{sum_by-cons}
use Rattle.std.proofs.lemmas.Bool.Decides.{nat_tests}
use Rattle.rail_track.specs.Lists.{without}
use Rattle.rail_track.proofs.CallerLemmas.{list_any-count_by}

-- a test finds an item where one passes
pub list_any-find : {X : Type 0} (p : X → Bool) (xs : List X) → list_any p xs ≡ is_some (find p xs)
list_any-find p [] = refl
list_any-find p (x ∷ xs) = by (p x) (list_any-find p xs)
  where
    by : (b : Bool) → list_any p xs ≡ is_some (find p xs) → (b || list_any p xs) ≡ is_some (cond b (Some x) (find p xs))
    by true rest = refl
    by false rest = rest

pub sum_by-without : {X : Type 0} (p : X → Bool) (f : X → ℕ) (xs : List X) (y : X) → find p xs ≡ Some y → sum_by f (without p xs) + f y ≡ sum_by f xs
sum_by-without p f [] y found = cc
sum_by-without p f (x ∷ xs) y found = by (p x) (sum_by-without p f xs y) found
  where
    by : (b : Bool) → (find p xs ≡ Some y → sum_by f (without p xs) + f y ≡ sum_by f xs) → cond b (Some x) (find p xs) ≡ Some y → sum_by f (cond b xs (x ∷ without p xs)) + f y ≡ sum_by f (x ∷ xs)
    by true rest found = let same : x ≡ y = cc in omega (arith, sum_by-cons f x xs, ap f same)
    by false rest found = omega (arith, sum_by-cons f x xs, sum_by-cons f x (without p xs), rest found)

-- what at least one item uses is used more than never
pub list_any-sum_by : {X K : Type 0} (q : K → Bool) (f : X → List K) (xs : List X) → list_any (λ x. list_any q (f x)) xs ≡ nat_lt 0 (sum_by (λ x. count_by q (f x)) xs)
list_any-sum_by q f [] = refl
list_any-sum_by q f (x ∷ xs) = by (list_any q (f x)) (list_any-count_by q (f x)) (list_any-sum_by q f xs)
  where
    by : (b : Bool) → b ≡ nat_lt 0 (count_by q (f x)) → list_any (λ y. list_any q (f y)) xs ≡ nat_lt 0 (sum_by (λ y. count_by q (f y)) xs) → (b || list_any (λ y. list_any q (f y)) xs) ≡ nat_lt 0 (sum_by (λ y. count_by q (f y)) (x ∷ xs))
    by true here rest = let split = sum_by-cons (λ y. count_by q (f y)) x xs in grind (arith, nat_tests)
    by false here rest = let split = sum_by-cons (λ y. count_by q (f y)) x xs in rest ∙ grind (arith, nat_tests)

-- items that use a few names each use few together
pub sum_by-le-few : {X : Type 0} (f : X → ℕ) (few : X → Bool) (m : ℕ) → ((x : X) → few x ≡ true → f x ≤ m) → (xs : List X) → list_all few xs ≡ true → sum_by f xs ≤ m * length xs
sum_by-le-few f few m bound [] all = omega arith
sum_by-le-few f few m bound (x ∷ xs) all = by (few x) refl (sum_by-le-few f few m bound xs) all
  where
    by : (b : Bool) → few x ≡ b → (list_all few xs ≡ true → sum_by f xs ≤ m * length xs) → (b && list_all few xs) ≡ true → sum_by f (x ∷ xs) ≤ m * length (x ∷ xs)
    by true is rest all = omega (arith, sum_by-cons f x xs, bound x is, rest all)
    by false is rest all = cc

pub all_pass : {X : Type 0} (xs : List X) → list_all (λ (x : X). true) xs ≡ true
all_pass [] = refl
all_pass (x ∷ xs) = all_pass xs

shuffle : (a b c d : Bool) → ((a || b) || (c || d)) ≡ ((a || c) || (b || d))
shuffle true b c d = refl
shuffle false true true d = refl
shuffle false true false d = refl
shuffle false false c d = refl

pub any_or : {X : Type 0} (p q : X → Bool) (xs : List X) → list_any (λ x. p x || q x) xs ≡ (list_any p xs || list_any q xs)
any_or p q [] = refl
any_or p q (x ∷ xs) = ap (λ b. (p x || q x) || b) (any_or p q xs) ∙ shuffle (p x) (q x) (list_any p xs) (list_any q xs)

pub any_false : {X : Type 0} (xs : List X) → list_any (λ (x : X). false) xs ≡ false
any_false [] = refl
any_false (x ∷ xs) = any_false xs

-- it does not matter over which list a test of pairs goes first
pub any_swap : {X Y : Type 0} (both : X → Y → Bool) (xs : List X) (ys : List Y) → list_any (λ x. list_any (both x) ys) xs ≡ list_any (λ y. list_any (λ x. both x y) xs) ys
any_swap both [] ys = sym (any_false ys)
any_swap both (x ∷ xs) ys = ap (λ b. list_any (both x) ys || b) (any_swap both xs ys) ∙ sym (any_or (both x) (λ y. list_any (λ z. both z y) xs) ys)

pub any_agree : {X : Type 0} (p q : X → Bool) → ((x : X) → p x ≡ q x) → (xs : List X) → list_any p xs ≡ list_any q xs
any_agree p q same [] = refl
any_agree p q same (x ∷ xs) = λ i. same x i || any_agree p q same xs i
