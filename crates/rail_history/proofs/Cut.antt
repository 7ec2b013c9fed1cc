-- The first of joined words.
use Rattle.std.proofs.Common.{◌≡◌, ℕ, ◌+◌, ◌<◌, ◌≤◌, Bool, true, false, not, cond, eqb, ltb, List, [], ◌∷◌, ◌++◌, length, take, drop, get_or, Some, None, refl, sym, ap, ◌∙◌, subst, arith, length-append}
use Rattle.std.specs.List.{list_all, list_any, position, position_or_len}
use Rattle.std.proofs.lemmas.Bool.{and_parts, cond-true, cond-false, lt-ltb, le-ltb, not-true, or_parts}
use Rattle.std.proofs.Math.Seq.{take-append_seam, drop-append-add}
use Rattle.rail_history.specs.ReadWords.{is_spaceless, joined}

abbrev pub is_space : ℕ → Bool
is_space b = eqb b 32

pub or_len_hit : {X : Type 0} (p : X → Bool) (x : X) (xs : List X) → p x ≡ true → position_or_len p (x ∷ xs) ≡ 0
or_len_hit p x xs h = ap (λ b. cond (not b) (1 + position_or_len p xs) 0) h

pub or_len_miss : {X : Type 0} (p : X → Bool) (x : X) (xs : List X) → p x ≡ false → position_or_len p (x ∷ xs) ≡ 1 + position_or_len p xs
or_len_miss p x xs h = ap (λ b. cond (not b) (1 + position_or_len p xs) 0) h

pub position_found : {X : Type 0} (p : X → Bool) (xs : List X) → position_or_len p xs < length xs → position p xs ≡ Some (position_or_len p xs)
position_found p xs lt = cond-true (ltb (position_or_len p xs) (length xs)) (Some (position_or_len p xs)) None (lt-ltb (position_or_len p xs) (length xs) lt)

position_nowhere : {X : Type 0} (p : X → Bool) (xs : List X) → length xs ≤ position_or_len p xs → position p xs ≡ None
position_nowhere p xs le = cond-false (ltb (position_or_len p xs) (length xs)) (Some (position_or_len p xs)) None (le-ltb (position_or_len p xs) (length xs) le)

-- the first mark stands behind a text without one
module _ (mark : ℕ → Bool) where
  mark_behind : (m : ℕ) → mark m ≡ true → (w rest : List ℕ) → list_any mark w ≡ false → position_or_len mark (w ++ m ∷ rest) ≡ length w
  mark_behind m is [] rest free = or_len_hit mark m rest is
  mark_behind m is (b ∷ w) rest free =
      let parts = or_parts (mark b) (list_any mark w) free in
      omega (arith, or_len_miss mark b (w ++ m ∷ rest) parts.0, mark_behind m is w rest parts.1)

  no_mark_there : (w : List ℕ) → list_any mark w ≡ false → position_or_len mark w ≡ length w
  no_mark_there [] free = refl
  no_mark_there (b ∷ w) free =
      let parts = or_parts (mark b) (list_any mark w) free in
      omega (arith, or_len_miss mark b w parts.0, no_mark_there w parts.1)

  pub mark_found : (m : ℕ) → mark m ≡ true → (w rest : List ℕ) → list_any mark w ≡ false → position mark (w ++ m ∷ rest) ≡ Some (length w)
  mark_found m is w rest free =
      let at = mark_behind m is w rest free in
      position_found mark (w ++ m ∷ rest) (omega (arith, at, length-append w (m ∷ rest))) ∙ ap Some at

  pub mark_nowhere : (w : List ℕ) → list_any mark w ≡ false → position mark w ≡ None
  mark_nowhere w free = position_nowhere mark w (omega (arith, no_mark_there w free))

-- where the first space of joined words is
pub data Seen (words : List (List ℕ)) (text : List ℕ) : Type 0 where
  last : position is_space text ≡ None → text ≡ get_or words 0 [] → joined (drop 1 words) ≡ [] → Seen words text
  inner : (n : ℕ) → position is_space text ≡ Some n → take n text ≡ get_or words 0 [] → drop (n + 1) text ≡ joined (drop 1 words) → Seen words text

pub seen : (words : List (List ℕ)) → list_all is_spaceless words ≡ true → Seen words (joined words)
seen [] free = last (position_nowhere is_space [] (omega arith)) refl refl
seen (w ∷ []) free =
    let one = not-true (list_any is_space w) (and_parts (is_spaceless w) true free).0 in
    last (mark_nowhere is_space w one) refl refl
seen (w ∷ v ∷ words) free =
    let one = not-true (list_any is_space w) (and_parts (is_spaceless w) (list_all is_spaceless (v ∷ words)) free).0 in
    let rest : List ℕ = joined (v ∷ words) in
    inner (length w)
    (mark_found is_space 32 refl w rest one)
    (take-append_seam w (32 ∷ rest))
    (drop-append-add w (32 ∷ rest) 1)

pub cut_some : (text : List ℕ) (n : ℕ) → position is_space text ≡ Some n → (words : List (List ℕ)) → list_all is_spaceless words ≡ true → text ≡ joined words → (take n text ≡ get_or words 0 []) × (drop (n + 1) text ≡ joined (drop 1 words))
cut_some text n found words free same =
    let P : List ℕ → Type 0 = λ t. position is_space t ≡ Some n in
    let Q : List ℕ → Type 0 = λ t. (take n t ≡ get_or words 0 []) × (drop (n + 1) t ≡ joined (drop 1 words)) in
    subst Q (sym same) (of (seen words free) (subst P same found))
  where
    of : Seen words (joined words) → position is_space (joined words) ≡ Some n → (take n (joined words) ≡ get_or words 0 []) × (drop (n + 1) (joined words) ≡ joined (drop 1 words))
    of (last none is rest) here = absurd (none_some n (sym none ∙ here))
      where
        none_some : (k : ℕ) → None ≡ Some k → ⊥
        none_some k e = cc
    of (inner k at is rest) here =
        let same_place : k ≡ n = some_is (sym at ∙ here) in
        (subst (λ i. take i (joined words) ≡ get_or words 0 []) same_place is, subst (λ i. drop (i + 1) (joined words) ≡ joined (drop 1 words)) same_place rest)
      where
        some_is : {x y : ℕ} → Some x ≡ Some y → x ≡ y
        some_is e = cc

pub cut_none : (text : List ℕ) → position is_space text ≡ None → (words : List (List ℕ)) → list_all is_spaceless words ≡ true → text ≡ joined words → (text ≡ get_or words 0 []) × ([] ≡ joined (drop 1 words))
cut_none text nowhere words free same =
    let P : List ℕ → Type 0 = λ t. position is_space t ≡ None in
    let Q : List ℕ → Type 0 = λ t. (t ≡ get_or words 0 []) × ([] ≡ joined (drop 1 words)) in
    subst Q (sym same) (of (seen words free) (subst P same nowhere))
  where
    of : Seen words (joined words) → position is_space (joined words) ≡ None → (joined words ≡ get_or words 0 []) × ([] ≡ joined (drop 1 words))
    of (last none is rest) here = (is, sym rest)
    of (inner k at is rest) here = absurd (some_none k (sym at ∙ here))
      where
        some_none : (n : ℕ) → Some n ≡ None → ⊥
        some_none n e = cc
