-- Lines that are put together word by word.
use Rattle.std.proofs.Common.{◌≡◌, ℕ, List, [], ◌∷◌, ◌++◌, refl, sym, ap, ◌∙◌, append_assoc}
use Rattle.rail_rules.specs.Texts.{behind, spaced}

-- one more word in front of those that are behind
pub word_before : (old word : List ℕ) {new : List ℕ} → new ≡ old ++ 32 ∷ word → (rest : List ℕ) → new ++ rest ≡ old ++ 32 ∷ (word ++ rest)
word_before old word is rest = ap (λ xs. xs ++ rest) is ∙ append_assoc old (32 ∷ word) rest

-- the first word of a line
pub word_first : (first : List ℕ) {start new : List ℕ} → new ≡ start ++ first → start ≡ [] → (rest : List ℕ) → new ++ rest ≡ first ++ rest
word_first first is none rest = ap (λ xs. xs ++ rest) (is ∙ ap (λ xs. xs ++ first) none)

-- a line of a first word and the words behind it
pub line_is : {whole front : List ℕ} (first : List ℕ) (words : List (List ℕ)) → whole ≡ front ++ 10 ∷ [] → front ≡ first ++ behind words → whole ≡ spaced (first ∷ words)
line_is first words last is = last ∙ ap (λ xs. xs ++ 10 ∷ []) is

-- words behind others
pub behind_append : (xs ys : List (List ℕ)) → behind (xs ++ ys) ≡ behind xs ++ behind ys
behind_append [] ys = refl
behind_append (x ∷ xs) ys =
    ap (λ zs. 32 ∷ x ++ zs) (behind_append xs ys) ∙ sym (append_assoc (32 ∷ x) (behind xs) (behind ys))
