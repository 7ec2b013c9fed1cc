-- A line that is put together word by word.
use Rattle.std.proofs.Common.{◌≡◌, ℕ, List, [], ◌∷◌, ◌++◌, refl, sym, ap, ◌∙◌, append_assoc}
use Rattle.std.proofs.lemmas.List.{append-nil}
use Rattle.rail_rules.specs.Texts.{behind, spaced}

behind_both : (words more : List (List ℕ)) → behind (words ++ more) ≡ behind words ++ behind more
behind_both [] more = refl
behind_both (word ∷ words) more =
    ap (λ (text : List ℕ). 32 ∷ word ++ text) (behind_both words more) ∙ sym (append_assoc (32 ∷ word) (behind words) (behind more))

-- the first word
pub first_word : {start line : List ℕ} (word : List ℕ) → line ≡ start ++ word → start ≡ [] → line ≡ word ++ behind []
first_word word put none = put ∙ ap (λ (text : List ℕ). text ++ word) none ∙ sym (append-nil word)

-- further words
pub more_words : (word : List ℕ) {line next : List ℕ} (words more : List (List ℕ)) → line ≡ word ++ behind words → next ≡ line ++ behind more → next ≡ word ++ behind (words ++ more)
more_words word {line} {next} words more so_far put =
    put ∙ ap (λ (text : List ℕ). text ++ behind more) so_far ∙ append_assoc word (behind words) (behind more) ∙ ap (λ (text : List ℕ). word ++ text) (sym (behind_both words more))

-- one further word
pub one_word : (word : List ℕ) {line next : List ℕ} (words : List (List ℕ)) (last : List ℕ) → line ≡ word ++ behind words → next ≡ line ++ 32 ∷ last → next ≡ word ++ behind (words ++ last ∷ [])
one_word word {line} {next} words last so_far put =
    more_words word words (last ∷ []) so_far (put ∙ ap (λ (text : List ℕ). line ++ 32 ∷ text) (sym (append-nil last)))

-- the line feed
pub ended_line : (word : List ℕ) {line next : List ℕ} (words : List (List ℕ)) → line ≡ word ++ behind words → next ≡ line ++ 10 ∷ [] → next ≡ spaced (word ∷ words)
ended_line word {line} {next} words so_far put = put ∙ ap (λ (text : List ℕ). text ++ 10 ∷ []) so_far
