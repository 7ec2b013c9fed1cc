-- The number of a name is found.
use Rattle.std.proofs.Common.{◌≡◌, ℕ, zero, suc, ◌<◌, Bool, true, false, List, [], ◌∷◌, length, map, get_or, Some, refl, sym, ap, ◌∙◌, arith}
use Rattle.std.specs.List.{position, position_or_len}
use Rattle.std.specs.Cmp.Lexicographic.{bytes_decides}
use Rattle.std.proofs.lemmas.Bool.{false_from_ne_true}
use Rattle.rail_base.specs.NameForms.{same_name}
use Rattle.rail_base.specs.declared.names.Names.{Names}
use Rattle.rail_base.specs.declared.plant.SectionRow.{SectionRow}
use Rattle.rail_base.specs.declared.plant.TrainRow.{TrainRow}
use Rattle.rail_text.specs.Names.{HasNames}
use Rattle.rail_rules.specs.Plant.{Plant, section, train, trains}
use Rattle.rail_rules.specs.Texts.{section_word, train_word}
use Rattle.rail_rules.specs.WritableLines.{IsNamed}
use Rattle.rail_history.proofs.Cut.{or_len_hit, or_len_miss, position_found}

-- the first element that passes is at this place
or_len_at : {X : Type 0} (p : X → Bool) (xs : List X) (t : ℕ) (d : X) → t < length xs → p (get_or xs t d) ≡ true → ((k : ℕ) → k < t → p (get_or xs k d) ≡ false) → position_or_len p xs ≡ t
or_len_at p [] t d lt here before = absurd (omega (arith, lt))
or_len_at p (x ∷ xs) zero d lt here before = or_len_hit p x xs here
or_len_at p (x ∷ xs) (suc t) d lt here before =
    omega (arith, or_len_miss p x xs (before 0 (omega arith)), or_len_at p xs t d (omega (arith, lt)) here (λ k lk. before (suc k) (omega (arith, lk))))

get_map : {X : Type 0} (f : X → List ℕ) (xs : List X) (t : ℕ) (d : X) → get_or (map f xs) t (f d) ≡ f (get_or xs t d)
get_map f [] t d = refl
get_map f (x ∷ xs) zero d = refl
get_map f (x ∷ xs) (suc t) d = get_map f xs t d

long_map : {X : Type 0} (f : X → List ℕ) (xs : List X) → length (map f xs) ≡ length xs
long_map f [] = refl
long_map f (x ∷ xs) = ap suc (long_map f xs)

-- the number of a name among distinct ones
number_found : {X : Type 0} (f : X → List ℕ) (rows : List X) (d : X) (t : ℕ) → t < length rows
    → ((u : ℕ) → u < length rows → f (get_or rows u d) ≡ f (get_or rows t d) → u ≡ t)
    → (word : List ℕ) → word ≡ f (get_or rows t d) → position (same_name word) (map f rows) ≡ Some t
number_found f rows d t lt only word is =
    let long = long_map f rows in
    let here : same_name word (get_or (map f rows) t (f d)) ≡ true = (bytes_decides word (get_or (map f rows) t (f d))).1 (is ∙ sym (get_map f rows t d)) in
    let at : position_or_len (same_name word) (map f rows) ≡ t =
    or_len_at (same_name word) (map f rows) t (f d) (omega (arith, lt, long)) here
    (λ k lk. false_from_ne_true (same_name word (get_or (map f rows) k (f d)))
    (λ same. absurd (omega (arith, lk, only k (omega (arith, lk, lt)) (sym (get_map f rows k d) ∙ sym ((bytes_decides word (get_or (map f rows) k (f d))).0 same) ∙ is))))) in
    position_found (same_name word) (map f rows) (omega (arith, at, lt, long)) ∙ ap Some at

pub train_found : (plant : Plant) (names : Names) → HasNames plant names → IsNamed plant → (t : ℕ) → t < trains plant → (word : List ℕ) → word ≡ train_word plant t → position (same_name word) names.trains.keys ≡ Some t
train_found plant names has named t lt word is =
    ap (position (same_name word)) has.trains
    ∙ number_found (λ (row : TrainRow). row.name) plant.tables.trains Rattle.rail_rules.specs.Plant.no_train t lt (λ u lu same. named.train_of u t lu lt same) word is

pub section_found : (plant : Plant) (names : Names) → HasNames plant names → IsNamed plant → (x : ℕ) → x < length plant.tables.sections → (word : List ℕ) → word ≡ section_word plant x → position (same_name word) names.sections.keys ≡ Some x
section_found plant names has named x lt word is =
    ap (position (same_name word)) has.sections
    ∙ number_found (λ (row : SectionRow). row.name) plant.tables.sections Rattle.rail_rules.specs.Plant.no_section x lt (λ u lu same. named.section_of u x lu lt same) word is
