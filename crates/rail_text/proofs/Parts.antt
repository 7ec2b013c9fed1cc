-- Lines and words of a text, the first one and those behind it.
use Rattle.std.proofs.Common.{◌≡◌, ℕ, suc, ◌+◌, ◌-◌, ◌<◌, ◌≤◌, ◌≢◌, Bool, true, false, not, cond, eqb, ltb, List, [], ◌∷◌, length, take, drop, filter, Some, None, refl, sym, ap, ◌∙◌, subst, arith, ⊎_elim, length-drop, length-take}
use Rattle.std.specs.List.{slice_split, onto_first, position, position_or_len}
use Rattle.std.specs.Str.Lines.{lines, lines_of_parts, strip_carriage_return}
use Rattle.std.proofs.lemmas.Bool.{cases_Bool, cases_lt, cond-true, cond-false, lt-ltb, le-ltb}
use Rattle.std.proofs.lemmas.List.{take_all, drop_all}
use Rattle.std.proofs.lemmas.List.Splits.{slice_split_first, slice_split-cons_yes, slice_split-cons_no}
use borrow.Author.Tests.{ne_eqb}
use Rattle.rail_text.specs.Lines.{words}

-- where a position was found
pub found_at : {X : Type 0} (p : X → Bool) (xs : List X) (k : ℕ) → position p xs ≡ Some k → (k ≡ position_or_len p xs) × (k < length xs)
found_at p xs k h =
    ⊎_elim
    (λ lt. let e : Some (position_or_len p xs) ≡ Some k = sym (cond-true (ltb (position_or_len p xs) (length xs)) _ None (lt-ltb _ _ lt)) ∙ h in
    let same : position_or_len p xs ≡ k = cc in (sym same, omega arith))
    (λ le. let e : None ≡ Some k = sym (cond-false (ltb (position_or_len p xs) (length xs)) (Some (position_or_len p xs)) None (le-ltb _ _ le)) ∙ h in absurd (cc))
    (cases_lt (position_or_len p xs) (length xs))

pub found_nowhere : {X : Type 0} (p : X → Bool) (xs : List X) → position p xs ≡ None → length xs ≤ position_or_len p xs
found_nowhere p xs h =
    ⊎_elim
    (λ lt. let e : Some (position_or_len p xs) ≡ None = sym (cond-true (ltb (position_or_len p xs) (length xs)) _ None (lt-ltb _ _ lt)) ∙ h in absurd (cc))
    (λ le. le)
    (cases_lt (position_or_len p xs) (length xs))

-- the place of the first hit, one element more
or_len_hit : {X : Type 0} (p : X → Bool) (x : X) (xs : List X) → p x ≡ true → position_or_len p (x ∷ xs) ≡ 0
or_len_hit p x xs h = ap (λ b. cond (not b) (1 + position_or_len p xs) 0) h

or_len_miss : {X : Type 0} (p : X → Bool) (x : X) (xs : List X) → p x ≡ false → position_or_len p (x ∷ xs) ≡ 1 + position_or_len p xs
or_len_miss p x xs h = ap (λ b. cond (not b) (1 + position_or_len p xs) 0) h

drop_one : {X : Type 0} (n k : ℕ) (x : X) (xs : List X) → n ≡ 1 + k → drop n (x ∷ xs) ≡ drop k xs
drop_one n k x xs h = let e : n ≡ suc k = omega arith in rw e refl

-- where nothing passes there is one part
pub one_part : {X : Type 0} (p : X → Bool) (xs : List X) → length xs ≤ position_or_len p xs → slice_split p xs ≡ xs ∷ []
one_part p [] h = refl
one_part p (x ∷ xs) h = ⊎_elim
    (λ passes. absurd (omega (arith, or_len_hit p x xs passes)))
    (λ fails. slice_split-cons_no p x xs fails ∙ ap (onto_first x) (one_part p xs (omega (arith, or_len_miss p x xs fails))))
    (cases_Bool (p x))

-- a text has at least one part
pub some_part : {X : Type 0} (p : X → Bool) (xs : List X) → (y : List X) × (ys : List (List X)) × (slice_split p xs ≡ y ∷ ys)
some_part p [] = ([], [], refl)
some_part {X} p (x ∷ xs) = ⊎_elim
    (λ passes. ([], slice_split p xs, slice_split-cons_yes p x xs passes))
    (λ fails. let rest = some_part p xs in (x ∷ rest.0, rest.1, slice_split-cons_no p x xs fails ∙ ap (onto_first x) rest.2))
    (cases_Bool (p x))

first_of_parts : (part : List ℕ) (parts : List (List ℕ)) (y : List ℕ) (ys : List (List ℕ)) → parts ≡ y ∷ ys → lines_of_parts (part ∷ parts) ≡ strip_carriage_return part ∷ lines_of_parts parts
first_of_parts part parts y ys e = rw e refl

-- the first line that ends with a line feed, and the others
pub line_ended : (text : List ℕ) (k : ℕ) → position (λ b. eqb b 10) text ≡ Some k → lines text ≡ strip_carriage_return (take k text) ∷ lines (drop (k + 1) text)
line_ended text k h =
    let p : ℕ → Bool = λ b. eqb b 10 in
    let at = found_at p text k h in
    let parts : slice_split p text ≡ take k text ∷ slice_split p (drop (k + 1) text) = rw (at.0) (slice_split_first p text 0 (omega (arith, at.0, at.1))) in
    let some = some_part p (drop (k + 1) text) in
    ap lines_of_parts parts ∙ first_of_parts (take k text) (slice_split p (drop (k + 1) text)) some.0 some.1 some.2

-- a text without a line feed is one line
pub line_unended : (text : List ℕ) → position (λ b. eqb b 10) text ≡ None → length text ≢ 0 → lines text ≡ text ∷ []
line_unended text h some =
    let p : ℕ → Bool = λ b. eqb b 10 in
    ap lines_of_parts (one_part p text (found_nowhere p text h)) ∙ cond-false (eqb (length text) 0) [] (text ∷ []) (ne_eqb (length text) 0 some)

-- what stands from a place on
pub rest_whole : (xs : List ℕ) (k : ℕ) → take (length xs - k) (drop k xs) ≡ drop k xs
rest_whole xs k = take_all (length xs - k) (drop k xs) (omega (arith, length-drop k xs))

-- words: spaces in front are passed over
pub words_from : (xs : List ℕ) → words xs ≡ words (drop (position_or_len (λ b. not (eqb b 32)) xs) xs)
words_from [] = refl
words_from (x ∷ xs) =
    let p : ℕ → Bool = λ b. not (eqb b 32) in
    ⊎_elim
    (λ space.
    let none : p x ≡ false = ap not space in
    let past : drop (position_or_len p (x ∷ xs)) (x ∷ xs) ≡ drop (position_or_len p xs) xs = drop_one _ _ x xs (or_len_miss p x xs none) in
    ap (filter (λ (word : List ℕ). not (eqb (length word) 0))) (slice_split-cons_yes (λ b. eqb b 32) x xs space) ∙ words_from xs ∙ sym (ap words past))
    (λ other.
    let some : p x ≡ true = ap not other in
    sym (ap (λ k. words (drop k (x ∷ xs))) (or_len_hit p x xs some)))
    (cases_Bool (eqb x 32))

-- a text of spaces has no word
pub no_word : (xs : List ℕ) → position (λ b. not (eqb b 32)) xs ≡ None → words xs ≡ []
no_word xs h =
    let le = found_nowhere (λ b. not (eqb b 32)) xs h in
    words_from xs ∙ ap words (drop_all (position_or_len (λ b. not (eqb b 32)) xs) xs le)

-- what begins at the first byte that is no space
pub record Begins (xs : List ℕ) : Type 0 where
  pub byte : ℕ
  pub rest : List ℕ
  pub is : xs ≡ byte ∷ rest
  pub other : eqb byte 32 ≡ false

begins : (xs : List ℕ) → position_or_len (λ b. not (eqb b 32)) xs < length xs → Begins (drop (position_or_len (λ b. not (eqb b 32)) xs) xs)
begins [] h = absurd (omega arith)
begins (x ∷ xs) h =
    let p : ℕ → Bool = λ b. not (eqb b 32) in
    ⊎_elim
    (λ space.
    let none : p x ≡ false = ap not space in
    let miss = or_len_miss p x xs none in
    let past : drop (position_or_len p (x ∷ xs)) (x ∷ xs) ≡ drop (position_or_len p xs) xs = drop_one _ _ x xs miss in
    subst Begins (sym past) (begins xs (omega (arith, miss))))
    (λ other.
    let some : p x ≡ true = ap not other in
    let hit = or_len_hit p x xs some in
    record { byte = x; rest = xs; is = ap (λ k. drop k (x ∷ xs)) hit; other = other })
    (cases_Bool (eqb x 32))

-- a text that begins with no space has a first word, up to the first space or to its end
word_before : (ys : List ℕ) (e : ℕ) → Begins ys → position (λ b. eqb b 32) ys ≡ Some e → words ys ≡ take e ys ∷ words (drop (e + 1) ys)
word_before ys e b h =
    let p : ℕ → Bool = λ b. eqb b 32 in
    let at = found_at p ys e h in
    let first : position_or_len p ys ≡ 1 + position_or_len p b.rest = ap (position_or_len p) b.is ∙ or_len_miss p b.byte b.rest b.other in
    let parts : slice_split p ys ≡ take e ys ∷ slice_split p (drop (e + 1) ys) = rw (at.0) (slice_split_first p ys 0 (omega (arith, at.0, at.1))) in
    let some : eqb (length (take e ys)) 0 ≡ false = ne_eqb (length (take e ys)) 0 (omega (arith, at.0, at.1, first, length-take e ys)) in
    ap (filter (λ (word : List ℕ). not (eqb (length word) 0))) parts ∙ cond-true (not (eqb (length (take e ys)) 0)) _ _ (ap not some)

word_whole : (ys : List ℕ) → Begins ys → position (λ b. eqb b 32) ys ≡ None → words ys ≡ ys ∷ []
word_whole ys b h =
    let p : ℕ → Bool = λ b. eqb b 32 in
    let parts : slice_split p ys ≡ ys ∷ [] = one_part p ys (found_nowhere p ys h) in
    let some : eqb (length ys) 0 ≡ false = ne_eqb (length ys) 0 (omega (arith, ap (length {A = ℕ}) b.is)) in
    ap (filter (λ (word : List ℕ). not (eqb (length word) 0))) parts ∙ cond-true (not (eqb (length ys) 0)) (ys ∷ []) [] (ap not some)

from_start : (text : List ℕ) (s : ℕ) → position (λ b. not (eqb b 32)) text ≡ Some s → (words text ≡ words (drop s text)) × Begins (drop s text)
from_start text s h =
    let p : ℕ → Bool = λ b. not (eqb b 32) in
    let at = found_at p text s h in (
      words_from text ∙ sym (ap (λ k. words (drop k text)) at.0),
      subst (λ (k : ℕ). Begins (drop k text)) (sym at.0) (begins text (omega (arith, at.0, at.1))),
    )

-- the first word begins at the first byte that is no space, and ends at the first space behind it
pub word_ended : (text : List ℕ) (s e : ℕ) → position (λ b. not (eqb b 32)) text ≡ Some s → position (λ b. eqb b 32) (drop s text) ≡ Some e → words text ≡ take e (drop s text) ∷ words (drop (e + 1) (drop s text))
word_ended text s e hs he = let from = from_start text s hs in from.0 ∙ word_before (drop s text) e from.1 he

pub word_unended : (text : List ℕ) (s : ℕ) → position (λ b. not (eqb b 32)) text ≡ Some s → position (λ b. eqb b 32) (drop s text) ≡ None → words text ≡ drop s text ∷ []
word_unended text s hs he = let from = from_start text s hs in from.0 ∙ word_whole (drop s text) from.1 he
