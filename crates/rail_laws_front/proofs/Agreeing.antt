-- The times of a move depend on the admissions so far alone.
use Rattle.std.proofs.Common.{◌≡◌, ℕ, zero, suc, ◌+◌, ◌<◌, ◌≤◌, Bool, true, false, not, ◌&&◌, ◌||◌, cond, eqb, ltb, List, [], ◌∷◌, ◌++◌, length, refl, sym, ap, ◌∙◌, arith, length-append}
use Rattle.std.proofs.lemmas.Bool.{ne_eqb, lt-ltb, cond-false}
use Rattle.std.proofs.lemmas.List.{get_or_append_left, get_or_push}
use Rattle.rail_rules.specs.Plant.{Plant, moves, steps, claimed, step_section}
use Rattle.rail_rules.specs.Times.{does_pass, start_time, head_time, ready_time, stop_time, start_loss, admitted, previous, is_admitted, free_run, ready, passes, go, enter, stop_at, arrive, leave, clearing}
use Rattle.rail_rules.specs.Intervals.{does_stand, is_over, is_open, is_taken_over, is_unfreed, end_time}
use Rattle.rail_rules.specs.Numbers.{is_in}
use Rattle.rail_rules.proofs.CallerLemmas.{end_needed}

-- two lists of admissions have the same first k admissions
pub record Agree (adms other : List ℕ) (k : ℕ) : Type 0 where
  pub same : (i : ℕ) → i < k → admitted adms i ≡ admitted other i
  pub known : (i : ℕ) → i < k → is_admitted adms i ≡ is_admitted other i

-- more admissions agree with those that they were added to
pub agree_added : (adms : List ℕ) (a : ℕ) → Agree (adms ++ a ∷ []) adms (length adms)
agree_added adms a = record {
  same = λ i lt. get_or_append_left adms (a ∷ []) 0 i lt;
  known = λ i lt. lt-ltb i (length (adms ++ a ∷ [])) (omega (arith, length-append adms (a ∷ []))) ∙ sym (lt-ltb i (length adms) lt);
}

-- the admission that was added
pub admitted_added : (adms : List ℕ) (a : ℕ) → admitted (adms ++ a ∷ []) (length adms) ≡ a
admitted_added adms a = get_or_push adms a 0 (length adms) refl

pub length_added : (adms : List ℕ) (a : ℕ) → length (adms ++ a ∷ []) ≡ suc (length adms)
length_added adms a = length-append adms (a ∷ []) ∙ omega arith

pub is_added : (adms : List ℕ) (a : ℕ) → is_admitted (adms ++ a ∷ []) (length adms) ≡ true
is_added adms a = lt-ltb (length adms) (length (adms ++ a ∷ [])) (omega (arith, length_added adms a))

module _ (plant : Plant) (t : ℕ) (adms other : List ℕ) where
  pub previous_agrees : (k m : ℕ) → Agree adms other k → m ≤ k → previous adms m ≡ previous other m
  previous_agrees k zero h le = refl
  previous_agrees k (suc m) h le = h.same m (omega arith)

  pub free_run_agrees : (k m : ℕ) → Agree adms other k → m ≤ k → free_run plant t adms m ≡ free_run plant t other m
  free_run_agrees k zero h le = refl
  free_run_agrees k (suc m) h le =
      let before = free_run_agrees k m h (omega arith) in
      let prev = previous_agrees k m h (omega arith) in
      let at = h.same m (omega arith) in
      let is = h.known m (omega arith) in
      λ i.
      let passing : Bool = is i && does_pass plant t m (prev i) (before i) (at i) in
      head_time plant t m (start_time plant t m (before i) (at i) passing) passing (steps plant t m)

  pub ready_agrees : (k m : ℕ) → Agree adms other k → m ≤ k → ready plant t adms m ≡ ready plant t other m
  ready_agrees k m h le =
      let before = free_run_agrees k m h le in
      let prev = previous_agrees k m h le in
      λ i. ready_time plant t m (prev i) (before i)

  pub passes_agree : (k m : ℕ) → Agree adms other k → m < k → passes plant t adms m ≡ passes plant t other m
  passes_agree k m h lt =
      let before = free_run_agrees k m h (omega arith) in
      let prev = previous_agrees k m h (omega arith) in
      let at = h.same m lt in
      let is = h.known m lt in
      λ i. is i && does_pass plant t m (prev i) (before i) (at i)

  pub go_agrees : (k m : ℕ) → Agree adms other k → m < k → go plant t adms m ≡ go plant t other m
  go_agrees k m h lt =
      let before = free_run_agrees k m h (omega arith) in
      let at = h.same m lt in
      let passing = passes_agree k m h lt in
      λ i. start_time plant t m (before i) (at i) (passing i)

  pub enter_agrees : (k m j : ℕ) → Agree adms other k → m < k → enter plant t adms m j ≡ enter plant t other m j
  enter_agrees k m j h lt =
      let start = go_agrees k m h lt in
      let passing = passes_agree k m h lt in
      λ i. head_time plant t m (start i) (passing i) j

  pub stop_agrees : (k m : ℕ) → Agree adms other k → m < k → stop_at plant t adms m ≡ stop_at plant t other m
  stop_agrees k m h lt = ap (stop_time plant t) (free_run_agrees k (suc m) h lt)

  -- the arrival of a move depends on its next move too
  pub arrive_agrees : (k m : ℕ) → Agree adms other k → suc m < k → arrive plant t adms m ≡ arrive plant t other m
  arrive_agrees k m h lt =
      let run = free_run_agrees k (suc m) h (omega arith) in
      let passing = passes_agree k (suc m) h lt in
      let start = go_agrees k (suc m) h lt in
      let stop = stop_agrees k m h (omega arith) in
      λ i. cond (eqb (suc m) (moves plant t)) (run i) (cond (passing i) (start i) (stop i))

  pub leave_agrees : (k m j : ℕ) → Agree adms other k → suc m < k → leave plant t adms m j ≡ leave plant t other m j
  leave_agrees k m j h lt =
      let arrives = arrive_agrees k m h lt in
      let enters = enter_agrees k m (suc j) h (omega arith) in
      λ i. cond (eqb (suc j) (steps plant t m)) (arrives i) (enters i)

  -- but leaving an inner step doesn't
  pub leave_inner_agrees : (k m j : ℕ) → Agree adms other k → m < k → (suc j ≡ steps plant t m → ⊥) → leave plant t adms m j ≡ leave plant t other m j
  leave_inner_agrees k m j h lt inner =
      cond-false (eqb (suc j) (steps plant t m)) (arrive plant t adms m) (enter plant t adms m (suc j)) (ne_eqb (suc j) (steps plant t m) inner)
      ∙ enter_agrees k m (suc j) h lt
      ∙ sym (cond-false (eqb (suc j) (steps plant t m)) (arrive plant t other m) (enter plant t other m (suc j)) (ne_eqb (suc j) (steps plant t m) inner))

  pub is_open_agrees : (k m j : ℕ) → Agree adms other k → suc m < k → is_open plant t adms m j ≡ is_open plant t other m j
  is_open_agrees k m j h lt = ap (λ b. does_stand plant t m j && not b) (h.known (suc m) lt)

  -- whether the next move took over
  pub taken_agrees : (k m j : ℕ) → Agree adms other k → suc m < k → is_taken_over plant t adms m j ≡ is_taken_over plant t other m j
  taken_agrees k m j h lt =
      let arrives = arrive_agrees k m h lt in
      let is = h.known (suc m) lt in
      let at = h.same (suc m) lt in
      λ i. is_over plant t m j && is i && is_in (step_section plant t m j) (claimed plant t (suc m)) && ltb (at i) (arrives i + plant.tables.overlap_time)

  pub unfreed_agrees : (k m j : ℕ) → Agree adms other k → suc m < k → is_unfreed plant t adms m j ≡ is_unfreed plant t other m j
  unfreed_agrees k m j h lt =
      let opens = is_open_agrees k m j h lt in
      let taken = taken_agrees k m j h lt in
      λ i. opens i || taken i

  pub end_agrees : (k m j : ℕ) → Agree adms other k → suc m < k → end_time plant t adms m j ≡ end_time plant t other m j
  end_agrees k m j h lt =
      let start = go_agrees k (suc m) h lt in
      let passing = passes_agree k (suc m) h lt in
      let leaves = leave_agrees k m j h lt in
      let arrives = arrive_agrees k m h lt in
      let at = h.same (suc m) lt in
      let taken = taken_agrees k m j h lt in
      λ i. cond (is_over plant t m j) (cond (taken i) (at i) (arrives i + plant.tables.overlap_time))
      (cond (does_stand plant t m j) (start i + start_loss plant t (passing i)) (leaves i) + clearing plant t (step_section plant t m j) + plant.tables.release)

  -- the end of an inner section that the train runs through
  pub end_inner_agrees : (k m j : ℕ) → Agree adms other k → m < k → j < steps plant t m → (suc j ≡ steps plant t m → ⊥) → does_stand plant t m j ≡ false → end_time plant t adms m j ≡ end_time plant t other m j
  end_inner_agrees k m j h lt lj inner runs =
      end_needed plant t adms m j lj
      ∙ ap (λ n. n + clearing plant t (step_section plant t m j) + plant.tables.release)
      (cond-false (does_stand plant t m j) (go plant t adms (suc m) + start_loss plant t (passes plant t adms (suc m))) (leave plant t adms m j) runs
      ∙ leave_inner_agrees k m j h lt inner
      ∙ sym (cond-false (does_stand plant t m j) (go plant t other (suc m) + start_loss plant t (passes plant t other (suc m))) (leave plant t other m j) runs))
      ∙ sym (end_needed plant t other m j lj)
