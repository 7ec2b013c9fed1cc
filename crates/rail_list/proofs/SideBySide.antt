-- Entries of one train that stand side by side.
use Rattle.std.proofs.Common.{◌≡◌, ◌≢◌, ℕ, zero, suc, ◌+◌, ◌-◌, ◌<◌, ◌≤◌, eqb, List, [], ◌∷◌, ◌++◌, length, nat_eq, replicate, get_or, drop, set, refl, sym, ap, ◌∙◌, subst, ⊎_elim, arith}
use Rattle.std.specs.List.{prefix_len}
use Rattle.std.proofs.lemmas.Bool.{cases_eq, cond-true, cond-false, eq-eqb, ne_eqb}
use Rattle.std.proofs.lemmas.List.{drop-drop, drop_more, get_or-drop, get_or-set_other, get_or-set_same, length-drop, length-replicate}
use Rattle.rail_list.specs.KeptLists.{AreRuns, counts_of_run, entries_at_start}

-- the entries at the start, where the first is one of the train and where it is one of another
pub start_same : (u : ℕ) (rest : List ℕ) → entries_at_start u (u ∷ rest) ≡ suc (entries_at_start u rest)
start_same u rest = cond-true (eqb u u) (suc (entries_at_start u rest)) 0 (eq-eqb u u refl)

pub start_other : (u v : ℕ) (rest : List ℕ) → v ≢ u → entries_at_start u (v ∷ rest) ≡ 0
start_other u v rest ne = cond-false (eqb v u) (suc (entries_at_start u rest)) 0 (ne_eqb v u ne)

-- the entries at the start are those that equal the train
pub start_equal : (u : ℕ) (list : List ℕ) → entries_at_start u list ≡ prefix_len (nat_eq u) list
start_equal u [] = refl
start_equal u (v ∷ rest) =
    ⊎_elim
    (λ same.
    let more : suc (entries_at_start u rest) ≡ 1 + prefix_len (nat_eq u) rest = omega (arith, start_equal u rest) in
    ap (λ k. entries_at_start u (k ∷ rest)) same
    ∙ start_same u rest
    ∙ more
    ∙ sym (cond-true (nat_eq u v) (1 + prefix_len (nat_eq u) rest) 0 (eq-eqb u v (sym same))))
    (λ other. start_other u v rest other ∙ sym (cond-false (nat_eq u v) (1 + prefix_len (nat_eq u) rest) 0 (ne_eqb u v (λ is. other (sym is)))))
    (cases_eq v u)

-- some entries of the train at the start begin with one of it
pub start_head : (u : ℕ) (list : List ℕ) → 1 ≤ entries_at_start u list → (get_or list 0 0 ≡ u) × (1 ≤ length list)
start_head u [] some = absurd (omega (arith, some))
start_head u (v ∷ rest) some =
    ⊎_elim
    (λ same. (same, omega arith))
    (λ other. absurd (omega (arith, some, start_other u v rest other)))
    (cases_eq v u)

-- so many entries at the start, or fewer, and the rest
split_start : (n u : ℕ) (list : List ℕ) → n ≤ entries_at_start u list → list ≡ replicate n u ++ drop n list
split_start zero u list few = refl
split_start (suc n) u [] few = absurd (omega (arith, few))
split_start (suc n) u (v ∷ rest) few =
    ⊎_elim
    (λ same.
    let Q : ℕ → Type 0 = λ k. suc n ≤ entries_at_start u (k ∷ rest) in
    let here : suc n ≤ entries_at_start u (u ∷ rest) = subst Q same few in
    ap (λ k. k ∷ rest) same
    ∙ ap (λ xs. u ∷ xs) (split_start n u rest (omega (arith, here, start_same u rest))))
    (λ other. absurd (omega (arith, few, start_other u v rest other)))
    (cases_eq v u)

-- the run that begins with an entry
pub split_run : (list counts : List ℕ) (i u n : ℕ) → AreRuns list counts → i < length list → u ≡ get_or list i 0 → n ≡ get_or counts i 0
    → drop i list ≡ replicate n u ++ drop (i + n) list
split_run list counts i u n are lt is many =
    let known = (are i lt).1 in
    let few : n ≤ entries_at_start u (drop i list) = omega (arith, known, many, ap (λ k. entries_at_start k (drop i list)) is) in
    split_start n u (drop i list) few ∙ ap (λ xs. replicate n u ++ xs) (drop-drop n i list)

-- a first entry with its count before the others with theirs
runs_at : (u c : ℕ) (list counts : List ℕ) → 1 ≤ c → c ≤ suc (entries_at_start u list) → AreRuns list counts
    → (i : ℕ) → i < length (u ∷ list) → (1 ≤ get_or (c ∷ counts) i 0) × (get_or (c ∷ counts) i 0 ≤ entries_at_start (get_or (u ∷ list) i 0) (drop i (u ∷ list)))
runs_at u c list counts some few are zero below = (some, omega (arith, few, start_same u list))
runs_at u c list counts some few are (suc i) below = are i (omega (arith, below))

runs_cons : (u c : ℕ) (list counts : List ℕ) → 1 ≤ c → c ≤ suc (entries_at_start u list) → AreRuns list counts → AreRuns (u ∷ list) (c ∷ counts)
runs_cons u c list counts some few are = λ i below. runs_at u c list counts some few are i below

runs_tail : (u c : ℕ) (list counts : List ℕ) → AreRuns (u ∷ list) (c ∷ counts) → AreRuns list counts
runs_tail u c list counts are = λ i below. are (suc i) (omega (arith, below))

runs_first : (u c : ℕ) (list counts : List ℕ) → AreRuns (u ∷ list) (c ∷ counts) → (1 ≤ c) × (c ≤ suc (entries_at_start u list))
runs_first u c list counts are =
    let now = are 0 (omega arith) in
    (now.0, omega (arith, now.1, start_same u list))

-- entries behind leave the runs as they are
start_more : (u : ℕ) (list more : List ℕ) → entries_at_start u list ≤ entries_at_start u (list ++ more)
start_more u [] more = omega arith
start_more u (v ∷ rest) more =
    ⊎_elim
    (λ same.
    let Q : ℕ → Type 0 = λ k. entries_at_start u (k ∷ rest) ≤ entries_at_start u (k ∷ (rest ++ more)) in
    subst Q (sym same) (omega (arith, start_same u rest, start_same u (rest ++ more), start_more u rest more)))
    (λ other. omega (arith, start_other u v rest other))
    (cases_eq v u)

pub runs_append : (list counts more those : List ℕ) → length counts ≡ length list → AreRuns list counts → AreRuns more those → AreRuns (list ++ more) (counts ++ those)
runs_append [] [] more those long are behind = behind
runs_append [] (c ∷ counts) more those long are behind = absurd (omega (arith, long))
runs_append (u ∷ list) [] more those long are behind = absurd (omega (arith, long))
runs_append (u ∷ list) (c ∷ counts) more those long are behind =
    let now = runs_first u c list counts are in
    runs_cons u c (list ++ more) (counts ++ those) now.0 (omega (arith, now.1, start_more u list more))
    (runs_append list counts more those (omega (arith, long)) (runs_tail u c list counts are) behind)

-- a run of one train
start_all : (n u : ℕ) → entries_at_start u (replicate n u) ≡ n
start_all zero u = refl
start_all (suc n) u = start_same u (replicate n u) ∙ ap suc (start_all n u)

pub long_run : (n : ℕ) → length (counts_of_run n) ≡ n
long_run zero = refl
long_run (suc n) = ap suc (length-replicate n 1)

each_alone : (n u : ℕ) → AreRuns (replicate n u) (replicate n 1)
each_alone zero u = λ i below. absurd (omega (arith, below))
each_alone (suc n) u = runs_cons u 1 (replicate n u) (replicate n 1) (omega arith) (omega arith) (each_alone n u)

pub runs_of_one : (n u : ℕ) → AreRuns (replicate n u) (counts_of_run n)
runs_of_one zero u = λ i below. absurd (omega (arith, below))
runs_of_one (suc n) u = runs_cons u (suc n) (replicate n u) (replicate n 1) (omega arith) (omega (arith, start_all n u)) (each_alone n u)

-- another count that is one
pub runs_set : (list counts : List ℕ) (k c : ℕ) → k < length counts → 1 ≤ c → c ≤ entries_at_start (get_or list k 0) (drop k list) → AreRuns list counts → AreRuns list (set counts k c)
runs_set list counts k c lt some few are = λ i below.
    ⊎_elim
    (λ same.
    let R : ℕ → Type 0 = λ j. (1 ≤ get_or (set counts k c) j 0) × (get_or (set counts k c) j 0 ≤ entries_at_start (get_or list j 0) (drop j list)) in
    let here : get_or (set counts k c) k 0 ≡ c = get_or-set_same counts k c 0 lt in
    subst R (sym same) (omega (arith, here, some), omega (arith, here, few)))
    (λ other.
    let here : get_or (set counts k c) i 0 ≡ get_or counts i 0 = get_or-set_other counts k i c 0 other in
    let now = are i below in
    (omega (arith, here, now.0), omega (arith, here, now.1)))
    (cases_eq i k)

-- the entry behind the first of a run
pub record IsNextOf (list : List ℕ) (k c : ℕ) : Type 0 where
  pub within : k + 1 < length list
  pub few : c ≤ entries_at_start (get_or list (k + 1) 0) (drop (k + 1) list)

pub run_next : (list counts : List ℕ) (k : ℕ) → AreRuns list counts → k < length list → 1 < get_or counts k 0 → IsNextOf list k (get_or counts k 0 - 1)
run_next list counts k are lt some =
    let u : ℕ = get_or list k 0 in
    let rest : List ℕ = drop (k + 1) list in
    let now = (are k lt).1 in
    let here : entries_at_start u (drop k list) ≡ suc (entries_at_start u rest) = ap (entries_at_start u) (drop_more list k 0 lt) ∙ start_same u rest in
    let head = start_head u rest (omega (arith, some, now, here)) in
    let next : get_or list (k + 1) 0 ≡ u = sym (get_or-drop (k + 1) list 0 0 ∙ ap (λ j. get_or list j 0) (omega arith)) ∙ head.0 in
    record {
      within = omega (arith, head.1, length-drop (k + 1) list);
      few = omega (arith, now, here, ap (λ v. entries_at_start v rest) next);
    }
