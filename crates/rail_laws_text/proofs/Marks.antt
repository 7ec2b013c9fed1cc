-- Where a text falls apart at marks, it does so in one way.
use Rattle.std.proofs.Common.{◌≡◌, ℕ, Bool, true, false, eqb, List, [], ◌∷◌, ◌++◌, drop, get_or, refl, sym, ap, ◌∙◌, subst}
use Rattle.std.specs.List.{list_any, list_all}
use Rattle.std.proofs.lemmas.Bool.{false≢true, and_parts, or_parts, or_from, or_left, or_right}
use Rattle.std.proofs.lemmas.List.{append-nil}
use Rattle.std.proofs.lemmas.List.Folds.{list_any-append}
use Rattle.rail_rules.specs.Texts.{behind, spaced}

-- what passes one test doesn't pass another
pub none_of : {X : Type 0} (p q : X → Bool) → ((c : X) → p c ≡ true → q c ≡ false) → (xs : List X) → list_all p xs ≡ true → list_any q xs ≡ false
none_of p q h [] all = refl
none_of p q h (x ∷ xs) all =
    let both = and_parts (p x) (list_all p xs) all in
    or_from (q x) (list_any q xs) (h x both.0) (none_of p q h xs both.1)

pub none_in_both : {X : Type 0} (q : X → Bool) (xs ys : List X) → list_any q xs ≡ false → list_any q ys ≡ false → list_any q (xs ++ ys) ≡ false
none_in_both q xs ys first second = list_any-append q xs ys ∙ or_from (list_any q xs) (list_any q ys) first second

-- a text that is empty or begins with a mark
abbrev pub begins : (ℕ → Bool) → List ℕ → Bool
begins p [] = true
begins p (c ∷ cs) = p c

pub heads : {X : Type 0} (d x y : X) (xs ys : List X) → x ∷ xs ≡ y ∷ ys → x ≡ y
heads d x y xs ys e = ap (λ l. get_or l 0 d) e

pub tails : {X : Type 0} (x y : X) (xs ys : List X) → x ∷ xs ≡ y ∷ ys → xs ≡ ys
tails x y xs ys e = ap (drop 1) e

-- two texts without marks that stand before marks
pub split_left : (p : ℕ → Bool) (xs ys r s : List ℕ) → list_any p xs ≡ false → list_any p ys ≡ false → begins p r ≡ true → begins p s ≡ true → xs ++ r ≡ ys ++ s → (xs ≡ ys) × (r ≡ s)
split_left p [] [] r s fx fy br bs e = (refl, e)
split_left p [] (y ∷ ys) r s fx fy br bs e =
    let P : List ℕ → Type 0 = λ l. begins p l ≡ true in
    absurd (false≢true (sym (or_parts (p y) (list_any p ys) fy).0 ∙ subst P e br))
split_left p (x ∷ xs) [] r s fx fy br bs e =
    let P : List ℕ → Type 0 = λ l. begins p l ≡ true in
    absurd (false≢true (sym (or_parts (p x) (list_any p xs) fx).0 ∙ subst P (sym e) bs))
split_left p (x ∷ xs) (y ∷ ys) r s fx fy br bs e =
    let rest : (xs ≡ ys) × (r ≡ s) = split_left p xs ys r s (or_parts (p x) (list_any p xs) fx).1 (or_parts (p y) (list_any p ys) fy).1 br bs (tails x y (xs ++ r) (ys ++ s) e) in
    let first : x ≡ y = heads 0 x y (xs ++ r) (ys ++ s) e in
    (λ i. first i ∷ rest.0 i, rest.1)

-- a text that is empty or ends with a mark
abbrev pub ends : (ℕ → Bool) → List ℕ → Bool
ends p [] = true
ends p (c ∷ []) = p c
ends p (c ∷ d ∷ cs) = ends p (d ∷ cs)

pub ends_with : (p : ℕ → Bool) (c : ℕ) → p c ≡ true → (xs : List ℕ) → ends p (xs ++ c ∷ []) ≡ true
ends_with p c is [] = is
ends_with p c is (x ∷ []) = is
ends_with p c is (x ∷ y ∷ xs) = ends_with p c is (y ∷ xs)

ends_tail : (p : ℕ → Bool) (x : ℕ) (xs : List ℕ) → ends p (x ∷ xs) ≡ true → ends p xs ≡ true
ends_tail p x [] h = refl
ends_tail p x (y ∷ xs) h = h

has_mark : (p : ℕ → Bool) (x : ℕ) (xs : List ℕ) → ends p (x ∷ xs) ≡ true → list_any p (x ∷ xs) ≡ true
has_mark p x [] h = or_left (p x) false h
has_mark p x (y ∷ xs) h = or_right (p x) (list_any p (y ∷ xs)) (has_mark p y xs h)

-- two texts without marks that stand behind marks
pub split_right : (p : ℕ → Bool) (r s xs ys : List ℕ) → list_any p xs ≡ false → list_any p ys ≡ false → ends p r ≡ true → ends p s ≡ true → r ++ xs ≡ s ++ ys → (r ≡ s) × (xs ≡ ys)
split_right p [] [] xs ys fx fy er es e = (refl, e)
split_right p [] (d ∷ s) xs ys fx fy er es e =
    absurd (false≢true (sym fx ∙ ap (list_any p) e ∙ list_any-append p (d ∷ s) ys ∙ or_left (list_any p (d ∷ s)) (list_any p ys) (has_mark p d s es)))
split_right p (c ∷ r) [] xs ys fx fy er es e =
    absurd (false≢true (sym fy ∙ ap (list_any p) (sym e) ∙ list_any-append p (c ∷ r) xs ∙ or_left (list_any p (c ∷ r)) (list_any p xs) (has_mark p c r er)))
split_right p (c ∷ r) (d ∷ s) xs ys fx fy er es e =
    let rest : (r ≡ s) × (xs ≡ ys) = split_right p r s xs ys fx fy (ends_tail p c r er) (ends_tail p d s es) (tails c d (r ++ xs) (s ++ ys) e) in
    let first : c ≡ d = heads 0 c d (r ++ xs) (s ++ ys) e in
    (λ i. first i ∷ rest.0 i, rest.1)

-- a space, and a line feed
abbrev pub is_space : ℕ → Bool
is_space c = eqb c 32

abbrev pub is_feed : ℕ → Bool
is_feed c = eqb c 10

-- neither a space nor a line feed stands in the text
pub record IsWord (w : List ℕ) : Type 0 where
  pub no_space : list_any is_space w ≡ false
  pub no_feed : list_any is_feed w ≡ false

-- each of them is a word
pub data AreWords : List (List ℕ) → Type 0 where
  none : AreWords []
  one_more : (w : List ℕ) (ws : List (List ℕ)) → IsWord w → AreWords ws → AreWords (w ∷ ws)

-- words with one space between two of them
unfoldable pub joined : List (List ℕ) → List ℕ
joined [] = []
joined (w ∷ []) = w
joined (w ∷ v ∷ words) = w ++ 32 ∷ joined (v ∷ words)

-- the first word, and the others each behind a space
joined-behind : (w : List ℕ) (words : List (List ℕ)) → joined (w ∷ words) ≡ w ++ behind words
unfolding joined
joined-behind w [] = sym (append-nil w)
joined-behind w (v ∷ words) = ap (λ rest. w ++ 32 ∷ rest) (joined-behind v words)

pub spaced-joined : (words : List (List ℕ)) → spaced words ≡ joined words ++ 10 ∷ []
unfolding joined
spaced-joined [] = refl
spaced-joined (w ∷ words) = ap (λ text. text ++ 10 ∷ []) (sym (joined-behind w words))

pub joined_no_feed : (words : List (List ℕ)) → AreWords words → list_any is_feed (joined words) ≡ false
unfolding joined
joined_no_feed [] none = refl
joined_no_feed (w ∷ []) (one_more _ _ is rest) = is.no_feed
joined_no_feed (w ∷ v ∷ words) (one_more _ _ is rest) = none_in_both is_feed w (32 ∷ joined (v ∷ words)) is.no_feed (or_from (is_feed 32) (list_any is_feed (joined (v ∷ words))) refl (joined_no_feed (v ∷ words) rest))

-- joined words are joined in one way
pub words_back : (ws vs : List (List ℕ)) (w v : List ℕ) → AreWords (w ∷ ws) → AreWords (v ∷ vs) → joined (w ∷ ws) ≡ joined (v ∷ vs) → (w ≡ v) × (ws ≡ vs)
unfolding joined
words_back [] [] w v aw av e = (e, refl)
words_back [] (v2 ∷ vs) w v (one_more _ _ iw rw) av e =
    absurd (false≢true (sym iw.no_space ∙ ap (list_any is_space) e ∙ list_any-append is_space v (32 ∷ joined (v2 ∷ vs)) ∙ or_right (list_any is_space v) (list_any is_space (32 ∷ joined (v2 ∷ vs))) refl))
words_back (w2 ∷ ws) [] w v aw (one_more _ _ iv rv) e =
    absurd (false≢true (sym iv.no_space ∙ ap (list_any is_space) (sym e) ∙ list_any-append is_space w (32 ∷ joined (w2 ∷ ws)) ∙ or_right (list_any is_space w) (list_any is_space (32 ∷ joined (w2 ∷ ws))) refl))
words_back (w2 ∷ ws) (v2 ∷ vs) w v (one_more _ _ iw rw) (one_more _ _ iv rv) e =
    let parts = split_left is_space w v (32 ∷ joined (w2 ∷ ws)) (32 ∷ joined (v2 ∷ vs)) iw.no_space iv.no_space refl refl e in
    let rest : (w2 ≡ v2) × (ws ≡ vs) = words_back ws vs w2 v2 rw rv (tails 32 32 (joined (w2 ∷ ws)) (joined (v2 ∷ vs)) parts.1) in
    (parts.0, λ i. rest.0 i ∷ rest.1 i)
