-- The items of a list, from its front on.
use Rattle.std.proofs.Common.{◌≡◌, ◌≢◌, ℕ, suc, ◌+◌, eqb, List, [], ◌∷◌, ◌++◌, map, drop, refl, sym, subst, ap, ◌∙◌, arith, inl, inr}
use Rattle.std.proofs.Math.Numerals.{one-add}
use Rattle.std.proofs.lemmas.Bool.{cond-true, cond-false, eq-eqb, ne_eqb}
use Rattle.std.proofs.lemmas.Bool.Decides.{eqb_tells}
use Rattle.std.specs.Prelude.{nat_eq}
use Rattle.std.specs.List.{prefix_len}
use Rattle.rail_rules.specs.Texts.{Item, behind, items_of, with_train}

-- the train, so many times in a row, and the items of what is behind them
IsFirst : ℕ → List ℕ → Type 0
IsFirst t us = items_of (t ∷ us) ≡ record { train = t; count = prefix_len (nat_eq t) us + 1 } ∷ items_of (drop (prefix_len (nat_eq t) us) us)

with_same : (t n : ℕ) (items : List Item) → with_train t (record { train = t; count = n } ∷ items) ≡ record { train = t; count = suc n } ∷ items
with_same t n items = cond-true (eqb t t) (record { train = t; count = suc n } ∷ items) (record { train = t; count = 1 } ∷ record { train = t; count = n } ∷ items) (eq-eqb t t refl)

with_other : (t u n : ℕ) (items : List Item) → t ≢ u → with_train t (record { train = u; count = n } ∷ items) ≡ record { train = t; count = 1 } ∷ record { train = u; count = n } ∷ items
with_other t u n items ne = cond-false (eqb u t) (record { train = t; count = suc n } ∷ items) (record { train = t; count = 1 } ∷ record { train = u; count = n } ∷ items) (ne_eqb u t (λ e. ne (sym e)))

-- once more the same train
same_next : (t : ℕ) (us : List ℕ) → IsFirst t us → IsFirst t (t ∷ us)
unfolding IsFirst
same_next t us h =
    let k : ℕ = prefix_len (nat_eq t) us in
    let p : prefix_len (nat_eq t) (t ∷ us) ≡ suc k = cond-true (eqb t t) (1 + k) 0 (eq-eqb t t refl) ∙ one-add k in
    let n : suc (k + 1) ≡ suc k + 1 = omega arith in
    ap (with_train t) h
    ∙ with_same t (k + 1) (items_of (drop k us))
    ∙ ap (λ (m : ℕ). record { train = t; count = m } ∷ items_of (drop k us)) n
    ∙ sym (ap (λ (m : ℕ). record { train = t; count = m + 1 } ∷ items_of (drop m (t ∷ us))) p)

-- another train in front
other_next : (t u : ℕ) (us : List ℕ) → t ≢ u → IsFirst u us → IsFirst t (u ∷ us)
unfolding IsFirst
other_next t u us ne h =
    let k : ℕ = prefix_len (nat_eq u) us in
    let p : prefix_len (nat_eq t) (u ∷ us) ≡ 0 = cond-false (eqb t u) (1 + prefix_len (nat_eq t) us) 0 (ne_eqb t u ne) in
    ap (with_train t) h
    ∙ with_other t u (k + 1) (items_of (drop k us)) ne
    ∙ sym (ap (λ (items : List Item). record { train = t; count = 1 } ∷ items) h)
    ∙ sym (ap (λ (m : ℕ). record { train = t; count = m + 1 } ∷ items_of (drop m (u ∷ us))) p)

next_first : (t u : ℕ) (us : List ℕ) → ((v : ℕ) → IsFirst v us) → IsFirst t (u ∷ us)
next_first t u us h = elim (eqb_tells t u) as (λ _. IsFirst t (u ∷ us)) [ inl same ↦ subst (λ v. IsFirst t (v ∷ us)) same.1 (same_next t us (h t)) | inr other ↦ other_next t u us other.1 (h u) ]

each_first : (us : List ℕ) (t : ℕ) → IsFirst t us
unfolding IsFirst
each_first [] t = refl
each_first (u ∷ us) t = next_first t u us (each_first us)

-- the items of a list are the first train, as often as it stands there in a row, and those of what is behind
pub first_item : (t : ℕ) (us : List ℕ) → items_of (t ∷ us) ≡ record { train = t; count = prefix_len (nat_eq t) us + 1 } ∷ items_of (drop (prefix_len (nat_eq t) us) us)
unfolding IsFirst
first_item t us = each_first us t

-- the words of a list: that of the first train, as often as it stands there in a row, and those of what is behind
pub first_word : (word : Item → List ℕ) (list : List ℕ) (t : ℕ) (others : List ℕ) (k : ℕ) → list ≡ t ∷ others → k ≡ prefix_len (nat_eq t) others
    → behind (map word (items_of list)) ≡ (32 ∷ word (record { train = t; count = k + 1 })) ++ behind (map word (items_of (drop k others)))
first_word word list t others k front count =
    ap (λ (ts : List ℕ). behind (map word (items_of ts))) front
    ∙ ap (λ (items : List Item). behind (map word items)) (first_item t others)
    ∙ sym (ap (λ (n : ℕ). (32 ∷ word (record { train = t; count = n + 1 })) ++ behind (map word (items_of (drop n others)))) count)
