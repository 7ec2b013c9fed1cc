-- What is found by a test in a list.
use Rattle.std.proofs.Common.{◌≡◌, ℕ, ◌+◌, ◌<◌, Bool, true, false, not, ◌||◌, cond, List, [], ◌∷◌, length, get_or, is_some, unwrap_or, Option, Some, None, refl, sym, ap, ◌∙◌, ⊎_elim, arith}
use Rattle.std.specs.List.{find, list_any, list_all, position, position_or_len}
use Rattle.std.proofs.lemmas.Bool.{and_parts, cases_Bool, cond-true, cond-false, lt-ltb, false≢true}
use Rattle.std.proofs.lemmas.List.Folds.{list_all_at}

-- a list that is tested has an item that is found exactly where one passes
pub is_some-find : {X : Type 0} (p : X → Bool) (xs : List X) → is_some (find p xs) ≡ list_any p xs
is_some-find p [] = refl
is_some-find p (x ∷ xs) = by (p x) (is_some-find p xs)
  where
    by : (b : Bool) → is_some (find p xs) ≡ list_any p xs → is_some (cond b (Some x) (find p xs)) ≡ (b || list_any p xs)
    by true rest = refl
    by false rest = rest

-- and passes what each item passes
pub found_passes : {X : Type 0} (p q : X → Bool) (xs : List X) (x : X) → find p xs ≡ Some x → list_all q xs ≡ true → q x ≡ true
found_passes p q [] x is all = absurd (cc)
found_passes {X} p q (y ∷ ys) x is all =
    let parts = and_parts (q y) (list_all q ys) all in
    ⊎_elim
    (λ yes. let here : Some y ≡ Some x = sym (cond-true (p y) (Some y) (find p ys) yes) ∙ is in let same : y ≡ x = cc in ap q (sym same) ∙ parts.0)
    (λ no. found_passes p q ys x (sym (cond-false (p y) (Some y) (find p ys) no) ∙ is) parts.1)
    (cases_Bool (p y))

pub all_at : {X : Type 0} (p : X → Bool) (xs : List X) (i : ℕ) (d : X) → list_all p xs ≡ true → i < length xs → p (get_or xs i d) ≡ true
all_at p xs i d all lt = ⊎_elim (λ yes. yes) (λ no. absurd (false≢true (sym (list_all_at p xs i d lt no) ∙ all))) (cases_Bool (p (get_or xs i d)))

pub all_read : {X : Type 0} (p : X → Bool) (xs : List X) (i : ℕ) (x : X) → list_all p xs ≡ true → i < length xs → x ≡ get_or xs i x → p x ≡ true
all_read p xs i x all lt is = ap p is ∙ all_at p xs i x all lt

-- an item that passes has a position
position_within : {X : Type 0} (p : X → Bool) (xs : List X) → list_any p xs ≡ true → position_or_len p xs < length xs
position_within p [] any = absurd (false≢true any)
position_within p (x ∷ xs) any =
    ⊎_elim
    (λ yes. omega (arith, ap (λ b. cond (not b) (1 + position_or_len p xs) 0) yes))
    (λ no. omega (arith, ap (λ b. cond (not b) (1 + position_or_len p xs) 0) no, position_within p xs (sym (ap (λ b. b || list_any p xs) no) ∙ any)))
    (cases_Bool (p x))

pub position_some : {X : Type 0} (p : X → Bool) (xs : List X) → list_any p xs ≡ true → is_some (position p xs) ≡ true
position_some p xs any = ap (λ b. is_some (cond b (Some (position_or_len p xs)) None)) (lt-ltb (position_or_len p xs) (length xs) (position_within p xs any))

pub unwrapped : {X : Type 0} (o : Option X) (x d : X) → o ≡ Some x → unwrap_or o d ≡ x
unwrapped o x d is = ap (λ p. unwrap_or p d) is

pub some_unwrapped : {X : Type 0} (o : Option X) (d : X) → is_some o ≡ true → o ≡ Some (unwrap_or o d)
some_unwrapped None d some = absurd (false≢true some)
some_unwrapped (Some x) d some = refl
