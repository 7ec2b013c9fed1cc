-- The table of the sections with one more interval.
use Rattle.std.proofs.Common.{◌≡◌, ℕ, ◌+◌, ◌<◌, ◌≤◌, ◌^◌, cond, eqb, List, [], ◌∷◌, ◌++◌, length, get_or, set, sym, ap, ◌∙◌, ⊎_elim, length-append, arith}
use Rattle.std.specs.Prelude.{count_by}
use Rattle.std.proofs.lemmas.Bool.{cases_eq, cond_both, cond-true, cond-false, eq-eqb, ne_eqb}
use Rattle.std.proofs.lemmas.List.{get_or-set_same, get_or-set_other, length-set}
use Rattle.std.proofs.lemmas.List.Sums.{sum_by-append, sum_by-cons}
use Rattle.rail_base.specs.declared.intervals.Interval.{Interval}
use Rattle.rail_base.specs.declared.limits.TheConstants.{SECTIONS}
use Rattle.rail_stairs.specs.declared.tallies.Tallies.{Tallies}
use Rattle.rail_stairs.specs.Stairways.{length_until, occupation, visits}
use Rattle.rail_stairs.specs.Tallies.{IsTallied}

-- a number of a table after one of them grew
grown : (old : List ℕ) (s n more x : ℕ) → s < length old → n ≡ get_or old s 0 → get_or (set old s (n + more)) x 0 ≡ get_or old x 0 + cond (eqb s x) more 0
grown old s n more x known is =
    ⊎_elim
    (λ same.
    let here : cond (eqb s x) more 0 ≡ more = cond-true (eqb s x) more 0 (eq-eqb s x (sym same)) in
    ap (λ k. get_or (set old s (n + more)) k 0) same ∙ get_or-set_same old s (n + more) 0 known
    ∙ omega (arith, is, ap (λ k. get_or old k 0) same, here))
    (λ other.
    let gone : cond (eqb s x) more 0 ≡ 0 = cond-false (eqb s x) more 0 (ne_eqb s x (λ e. other (sym e))) in
    omega (arith, get_or-set_other old s x (n + more) 0 other, gone))
    (cases_eq x s)

module _ (ended : ℕ) (seen : List Interval) (interval : Interval) where
  visits_more : (x : ℕ) → visits (seen ++ interval ∷ []) x ≡ visits seen x + cond (eqb interval.section x) 1 0
  visits_more x =
      let ones : Interval → ℕ = λ (i : Interval). cond (eqb i.section x) 1 0 in
      let last : count_by (λ (i : Interval). eqb i.section x) (interval ∷ []) ≡ ones interval = omega (arith, sum_by-cons ones interval []) in
      omega (arith, sum_by-append ones seen (interval ∷ []), last)

  occupation_more : (x : ℕ) → occupation ended (seen ++ interval ∷ []) x ≡ occupation ended seen x + cond (eqb interval.section x) (length_until ended interval) 0
  occupation_more x =
      let each : Interval → ℕ = λ (i : Interval). cond (eqb i.section x) (length_until ended i) 0 in
      omega (arith, sum_by-append each seen (interval ∷ []), sum_by-cons each interval [])

  part_small : (x n most : ℕ) → n ≤ most → cond (eqb interval.section x) n 0 ≤ most
  part_small x n most le = cond_both (eqb interval.section x) n 0 (λ k. k ≤ most) (λ _. le) (λ _. omega arith)

  pub tallied_more : (old new : Tallies) (s count sum long : ℕ) → IsTallied ended seen old → s ≡ interval.section → interval.section < SECTIONS
      → long ≡ length_until ended interval → long < 2 ^ 64
      → count ≡ get_or old.visits s 0 → sum ≡ get_or old.occupied s 0
      → new.visits ≡ set old.visits s (count + 1) → new.occupied ≡ set old.occupied s (sum + long)
      → IsTallied ended (seen ++ interval ∷ []) new
  tallied_more old new s count sum long h at known is_long short is_count is_sum v o =
      let here : s < length old.visits = omega (arith, at, known, h.sections) in
      let there : s < length old.occupied = omega (arith, at, known, h.sums) in
      let more : length (seen ++ interval ∷ []) ≡ length seen + 1 = length-append seen (interval ∷ []) in
      let visits_at : (x : ℕ) → get_or new.visits x 0 ≡ get_or old.visits x 0 + cond (eqb interval.section x) 1 0 =
      λ x. ap (λ xs. get_or xs x 0) v ∙ grown old.visits s count 1 x here is_count ∙ ap (λ k. get_or old.visits x 0 + cond (eqb k x) 1 0) at in
      let sum_at : (x : ℕ) → get_or new.occupied x 0 ≡ get_or old.occupied x 0 + cond (eqb interval.section x) (length_until ended interval) 0 =
      λ x. ap (λ xs. get_or xs x 0) o ∙ grown old.occupied s sum long x there is_sum
      ∙ ap (λ k. get_or old.occupied x 0 + cond (eqb k x) long 0) at ∙ ap (λ n. get_or old.occupied x 0 + cond (eqb interval.section x) n 0) is_long in
      record {
        sections = ap length v ∙ length-set old.visits s (count + 1) ∙ h.sections;
        sums = ap length o ∙ length-set old.occupied s (sum + long) ∙ h.sums;
        visits = λ x lt. omega (arith, visits_at x, h.visits x lt, visits_more x);
        occupied = λ x lt. omega (arith, sum_at x, h.occupied x lt, occupation_more x);
        few = λ x lt. omega (arith, visits_at x, h.few x lt, part_small x 1 1 (omega arith), more);
        short = λ x lt. omega (arith, sum_at x, h.short x lt, part_small x (length_until ended interval) (2 ^ 64) (omega (arith, is_long, short)), more);
      }
