-- Lists that are gathered.
use Rattle.std.proofs.Common.{◌≡◌, ℕ, zero, suc, ◌+◌, ◌*◌, ◌<◌, ◌≤◌, List, [], ◌++◌, length, add-one, sym, ap, ◌∙◌, ⊎_elim, append_assoc, length-append, arith}
use Rattle.std.proofs.lemmas.Bool.{cases_lt}
use Rattle.std.proofs.lemmas.List.{append-nil}
use Rattle.rail_rules.specs.Numbers.{gather}

-- the lists before a number, and what comes with it and behind it
pub gather_split : {X : Type 0} (f : ℕ → List X) (n i : ℕ) → i < n → (rest : List X) × (gather f n ≡ gather f (suc i) ++ rest)
gather_split f zero i lt = absurd (omega arith)
gather_split f (suc n) i lt =
    ⊎_elim
    (λ below. let split = gather_split f n i below in (split.0 ++ f n, ap (λ xs. xs ++ f n) split.1 ∙ append_assoc (gather f (suc i)) split.0 (f n)))
    (λ above. let same : n ≡ i = omega (arith, lt, above) in ([], ap (λ k. gather f (suc k)) same ∙ sym (append-nil (gather f (suc i)))))
    (cases_lt i n)

-- gathered lists are no longer than so much each
pub gather_short : {X : Type 0} (f : ℕ → List X) (n most : ℕ) → ((i : ℕ) → i < n → length (f i) ≤ most) → length (gather f n) ≤ n * most
gather_short f zero most each = omega arith
gather_short f (suc n) most each =
    omega (arith, length-append (gather f n) (f n), gather_short f n most (λ i lt. each i (omega (arith, lt))), each n (omega arith))

-- gathered lists, and one more
pub gather_more : {X : Type 0} (f : ℕ → List X) (i : ℕ) (before now new : List X) → now ≡ before ++ gather f i → new ≡ now ++ f i
    → new ≡ before ++ gather f (i + 1)
gather_more f i before now new is more =
    more ∙ ap (λ xs. xs ++ f i) is ∙ append_assoc before (gather f i) (f i) ∙ ap (λ xs. before ++ xs) (sym (ap (gather f) (add-one i)))
