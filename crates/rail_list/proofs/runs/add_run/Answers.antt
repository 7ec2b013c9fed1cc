use Rattle.std.proofs.Common.{◌≡◌, ℕ, zero, suc, ◌-◌, ◌≤◌, List, [], ◌∷◌, ◌++◌, replicate, sym, ap, ◌∙◌, arith}
use Rattle.std.proofs.lemmas.List.{append-nil, append_assoc}
use Rattle.rail_list.specs.KeptLists.{counts_of_run}
use Rattle.rail_list.proofs.runs.add_run.Goals as goal

-- the counts for some entries
first_counts : (n : ℕ) → 1 ≤ n → counts_of_run n ≡ n ∷ replicate (n - 1) 1
first_counts zero some = absurd (omega (arith, some))
first_counts (suc n) some =
    let same : n ≡ suc n - 1 = omega arith in
    ap (λ k. suc n ∷ replicate k 1) same

pub returns-then-count-gt0-clause-rows : goal.returns-then-count-gt0-clause-rows
returns-then-count-gt0-clause-rows c =
    let old : List ℕ = c.args.runs.now.items in
    let n = c.args.count in
    let ones : List ℕ = replicate c.from.result 1 in
    c.add_copies.ensures.rows
    ∙ ap (λ (xs : List ℕ). xs ++ ones) c.push_reserved.ensures.items
    ∙ append_assoc old (n ∷ []) ones
    ∙ ap (λ k. old ++ (n ∷ replicate k 1)) c.from.ensures
    ∙ ap (λ (xs : List ℕ). old ++ xs) (sym (first_counts n (omega (arith, c.if-count-gt0.true))))

pub returns-else-count-gt0-clause-rows : goal.returns-else-count-gt0-clause-rows
returns-else-count-gt0-clause-rows c =
    let old : List ℕ = c.args.runs.now.items in
    let none : 0 ≡ c.args.count = omega (arith, c.if-count-gt0.false) in
    sym (append-nil old) ∙ ap (λ n. old ++ counts_of_run n) none
