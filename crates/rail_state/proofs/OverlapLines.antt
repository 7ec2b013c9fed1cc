-- The lines that an admission changes: the arrival before it, and the lines that give overlaps free.
use Rattle.std.proofs.Common.{◌≡◌, ℕ, zero, suc, ◌+◌, ◌<◌, Bool, true, false, ◌||◌, cond, List, [], ◌∷◌, length, Option, Some, None, refl, sym, ap, ◌∙◌, arith}
use Rattle.rail_base.specs.declared.history.Entry.{Entry}
use Rattle.rail_rules.specs.Numbers.{gather, sum_below}
use Rattle.rail_rules.specs.Plant.{Plant, claims, overlap, step_section, steps}
use Rattle.rail_rules.specs.Intervals.{end_of, end_time, freed_at, is_open}
use Rattle.rail_rules.specs.Events.{arrive_line, free_lines}
use Rattle.rail_rules.proofs.CallerLemmas.{claims_are, gather_same, needed_not_taken}
use Rattle.rail_laws_events.specs.Accounts.{tally}
use Rattle.rail_laws_events.specs.Changes.{overlap_frees, taken_back}
use Rattle.rail_laws_events.proofs.CallerLemmas.{tally-gather}

-- the arrival before a move, where there is one
abbrev pub arrival_before : Plant → ℕ → List ℕ → ℕ → List Entry
arrival_before plant t adms zero = []
arrival_before plant t adms (suc m) = arrive_line plant t adms m ∷ []

-- the free lines of the overlap before a move
abbrev pub frees_before : Plant → ℕ → List ℕ → ℕ → List Entry
frees_before plant t adms zero = []
frees_before plant t adms (suc m) = overlap_frees plant t adms m

module _ (p : Entry → Bool) (plant : Plant) (t : ℕ) (adms : List ℕ) where
  pub taken_back_parts : (k : ℕ) → tally p (taken_back plant t adms k) ≡ tally p (arrival_before plant t adms k) + tally p (frees_before plant t adms k)
  taken_back_parts zero = refl
  taken_back_parts (suc m) = omega arith

  or_none : (b : Bool) → (b || false) ≡ b
  or_none true = refl
  or_none false = refl

  -- a needed section is given free where its interval has an end
  freed_needed : (m j : ℕ) → j < steps plant t m → freed_at plant t adms m j ≡ end_of plant t adms m j
  freed_needed m j lt =
      let ends : Bool → Option ℕ = λ b. cond b None (Some (end_time plant t adms m j)) in
      ap (λ b. ends (is_open plant t adms m j || b)) (needed_not_taken plant t adms m j lt) ∙ ap ends (or_none (is_open plant t adms m j))

  sum_parts : (f : ℕ → ℕ) (n k : ℕ) → sum_below f (n + k) ≡ sum_below f n + sum_below (λ i. f (n + i)) k
  sum_parts f n zero = let same : n + 0 ≡ n = omega arith in ap (sum_below f) same ∙ omega arith
  sum_parts f n (suc k) = let next : n + suc k ≡ suc (n + k) = omega arith in ap (sum_below f) next ∙ omega (arith, sum_parts f n k)

  -- the free lines of a move are those of the needed sections, and those of the overlap
  pub frees_parts : (m : ℕ) → tally p (gather (λ j. free_lines t (step_section plant t m j) (freed_at plant t adms m j)) (claims plant t m))
      ≡ tally p (gather (λ j. free_lines t (step_section plant t m j) (end_of plant t adms m j)) (steps plant t m)) + tally p (overlap_frees plant t adms m)
  frees_parts m =
      let free : ℕ → List Entry = λ j. free_lines t (step_section plant t m j) (freed_at plant t adms m j) in
      let n : ℕ = steps plant t m in
      let over : ℕ = length (overlap plant t m) in
      tally-gather p free (claims plant t m)
      ∙ ap (sum_below (λ j. tally p (free j))) (claims_are plant t m)
      ∙ sum_parts (λ j. tally p (free j)) n over
      ∙ ap (λ x. sum_below (λ j. tally p (free j)) n + x) (sym (tally-gather p (λ i. free (n + i)) over))
      ∙ ap (λ x. x + tally p (overlap_frees plant t adms m)) (sym (tally-gather p free n)
      ∙ ap (tally p) (gather_same free (λ j. free_lines t (step_section plant t m j) (end_of plant t adms m j)) n (λ j lt. ap (free_lines t (step_section plant t m j)) (freed_needed m j lt))))
