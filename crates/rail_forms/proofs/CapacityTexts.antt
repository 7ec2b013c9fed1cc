-- The text of a compression, put together part by part.
use Rattle.std.proofs.Common.{◌≡◌, ℕ, ◌+◌, ◌<◌, List, [], ◌∷◌, ◌++◌, length, take, drop, get_or, sym, ap, ◌∙◌, append_assoc}
use Rattle.std.specs.Prelude.{flat_map}
use Rattle.std.proofs.lemmas.Grind.{flat_map-append}
use Rattle.std.proofs.lemmas.List.{append-nil, take-append-drop, take_more}
use Rattle.rail_rules.specs.Texts.{behind, spaced}

-- a second line, of one word behind the first one, is put behind the words of another line
pub second_line : (first : List ℕ) (words : List (List ℕ)) (word last : List ℕ) {l1 l2 l3 l4 : List ℕ}
    → l1 ≡ first ++ behind words → l2 ≡ l1 ++ (10 ∷ word) → l3 ≡ l2 ++ 32 ∷ last → l4 ≡ l3 ++ 10 ∷ []
    → l4 ≡ spaced (first ∷ words) ++ spaced (word ∷ last ∷ [])
second_line first words word last {l1} {l2} {l3} {l4} a b c d =
    let line : List ℕ = first ++ behind words in
    d ∙ ap (λ (t : List ℕ). t ++ 10 ∷ []) (c ∙ ap (λ (t : List ℕ). t ++ 32 ∷ last) (b ∙ ap (λ (t : List ℕ). t ++ (10 ∷ word)) a))
    ∙ ap (λ (t : List ℕ). (t ++ 32 ∷ last) ++ 10 ∷ []) (sym (append_assoc line (10 ∷ []) word))
    ∙ ap (λ (t : List ℕ). t ++ 10 ∷ []) (append_assoc (line ++ 10 ∷ []) word (32 ∷ last))
    ∙ append_assoc (line ++ 10 ∷ []) (word ++ 32 ∷ last) (10 ∷ [])
    ∙ ap (λ (t : List ℕ). (line ++ 10 ∷ []) ++ ((word ++ 32 ∷ t) ++ 10 ∷ [])) (sym (append-nil last))

-- the text of one thing more
pub texts_more : {X : Type 0} (f : X → List ℕ) (xs : List X) (i : ℕ) (x : X) → i < length xs → x ≡ get_or xs i x
    → flat_map f (take (i + 1) xs) ≡ flat_map f (take i xs) ++ f x
texts_more {X} f xs i x lt is =
    ap (flat_map f) (take_more xs i x lt) ∙ flat_map-append f (take i xs) (get_or xs i x ∷ [])
    ∙ ap (λ (t : List ℕ). flat_map f (take i xs) ++ t) (append-nil (f (get_or xs i x)))
    ∙ ap (λ (y : X). flat_map f (take i xs) ++ f y) (sym is)

-- the texts of the first things, that of the next one and those of the others are all
pub texts_whole : {X : Type 0} (f : X → List ℕ) (xs : List X) (i : ℕ) (x : X) → i < length xs → x ≡ get_or xs i x
    → flat_map f xs ≡ (flat_map f (take i xs) ++ f x) ++ flat_map f (drop (i + 1) xs)
texts_whole f xs i x lt is =
    ap (flat_map f) (sym (take-append-drop (i + 1) xs)) ∙ flat_map-append f (take (i + 1) xs) (drop (i + 1) xs)
    ∙ ap (λ (t : List ℕ). t ++ flat_map f (drop (i + 1) xs)) (texts_more f xs i x lt is)
