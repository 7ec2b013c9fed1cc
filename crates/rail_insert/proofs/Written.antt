-- Texts that are written one after another.
use Rattle.std.proofs.Common.{◌≡◌, ℕ, suc, ◌+◌, ◌<◌, List, [], ◌∷◌, ◌++◌, length, take, drop, get_or, take-append-drop, append_assoc, Result, Ok, Err, IsErr, sym, ap, ◌∙◌, subst, arith}
use Rattle.std.specs.Prelude.{flat_map}
use Rattle.std.proofs.lemmas.List.{append-nil, length-take}
use Rattle.std.proofs.lemmas.Grind.{flat_map-append}
use Rattle.rail_io.specs.declared.sink.Sink.{Ghosts}
use Rattle.rail_io.specs.declared.sink.Failed.{Failed}
use Rattle.rail_insert.specs.declared.insertion.Placed.{Placed}
use Rattle.rail_insert.specs.Texts.{copies_text, copy_text}
use Rattle.rail_text.specs.Names.{NameLists}
use Rattle.rail_text.specs.Writes.{WritesText}
use Rattle.rail_text.proofs.CallerLemmas.{both_written, part_written}
use Rattle.rail_insert.proofs.Members.{take_next}

-- the same text was written
pub same_text : {O : Type 0} (sink : Ghosts O) (before now : O) {result : Result (Unit {0}) Failed} {t u : List ℕ} → t ≡ u
    → WritesText sink before now t result → WritesText sink before now u result
same_text sink before now {result} same h = subst (λ (xs : List ℕ). WritesText sink before now xs result) same h

-- where a later line was not written to its end, a first part of the whole was
pub stopped : {O : Type 0} (sink : Ghosts O) (before mid now : O) (whole done line rest : List ℕ) (failed : Failed) (result : Result (Unit {0}) Failed) → IsErr result
    → whole ≡ (done ++ line) ++ rest → WritesText sink before mid done (Ok tt) → WritesText sink mid now line (Err failed)
    → WritesText sink before now whole result
stopped sink before mid now whole done line rest failed result is parts first last =
    same_text sink before now (sym parts) (part_written sink before now (done ++ line) rest failed result is (both_written sink before mid now done line (Err failed) first last))

-- one more item
pub items_more : {X : Type 0} (f : X → List ℕ) (xs : List X) (k : ℕ) (x : X) → k < length xs → get_or xs k x ≡ x
    → flat_map f (take (k + 1) xs) ≡ flat_map f (take k xs) ++ f x
items_more f xs k x within at =
    ap (flat_map f) (take_next xs k x within at) ∙ flat_map-append f (take k xs) (x ∷ []) ∙ ap (λ t. flat_map f (take k xs) ++ t) (append-nil (f x))

-- and those behind it
pub items_split : {X : Type 0} (f : X → List ℕ) (xs : List X) (k : ℕ) (x : X) → k < length xs → get_or xs k x ≡ x
    → flat_map f xs ≡ (flat_map f (take k xs) ++ f x) ++ flat_map f (drop (k + 1) xs)
items_split f xs k x within at =
    ap (flat_map f) (sym (take-append-drop (k + 1) xs)) ∙ flat_map-append f (take (k + 1) xs) (drop (k + 1) xs)
    ∙ ap (λ t. t ++ flat_map f (drop (k + 1) xs)) (items_more f xs k x within at)

-- the texts of copies one after another
copies_append : (names : NameLists) (train number : ℕ) (xs ys : List Placed)
    → copies_text names train number (xs ++ ys) ≡ copies_text names train number xs ++ copies_text names train (number + length xs) ys
copies_append names train number [] ys = ap (λ n. copies_text names train n ys) (let e : number ≡ number + 0 = omega arith in e)
copies_append names train number (x ∷ xs) ys =
    ap (λ t. copy_text names train number x ++ t) (copies_append names train (suc number) xs ys)
    ∙ sym (append_assoc (copy_text names train number x) (copies_text names train (suc number) xs) (copies_text names train (suc number + length xs) ys))
    ∙ ap (λ n. (copy_text names train number x ++ copies_text names train (suc number) xs) ++ copies_text names train n ys) (let e : suc number + length xs ≡ number + suc (length xs) = omega arith in e)

pub copies_more : (names : NameLists) (train : ℕ) (xs : List Placed) (k : ℕ) (x : Placed) → k < length xs → get_or xs k x ≡ x
    → copies_text names train 1 (take (k + 1) xs) ≡ copies_text names train 1 (take k xs) ++ copy_text names train (k + 1) x
copies_more names train xs k x within at =
    let cut = length-take k xs in
    ap (copies_text names train 1) (take_next xs k x within at) ∙ copies_append names train 1 (take k xs) (x ∷ [])
    ∙ ap (λ t. copies_text names train 1 (take k xs) ++ t) (append-nil (copy_text names train (1 + length (take k xs)) x))
    ∙ ap (λ n. copies_text names train 1 (take k xs) ++ copy_text names train n x) (let e : 1 + length (take k xs) ≡ k + 1 = omega arith in e)

pub copies_split : (names : NameLists) (train : ℕ) (xs : List Placed) (k : ℕ) (x : Placed) → k < length xs → get_or xs k x ≡ x
    → copies_text names train 1 xs ≡ (copies_text names train 1 (take k xs) ++ copy_text names train (k + 1) x) ++ copies_text names train (1 + length (take (k + 1) xs)) (drop (k + 1) xs)
copies_split names train xs k x within at =
    ap (copies_text names train 1) (sym (take-append-drop (k + 1) xs)) ∙ copies_append names train 1 (take (k + 1) xs) (drop (k + 1) xs)
    ∙ ap (λ t. t ++ copies_text names train (1 + length (take (k + 1) xs)) (drop (k + 1) xs)) (copies_more names train xs k x within at)
