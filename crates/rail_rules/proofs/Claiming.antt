-- The sections that a move claims: those that it needs, then those of the overlap; and when their intervals end.
use Rattle.std.proofs.Common.{◌≡◌, ℕ, suc, ◌+◌, ◌*◌, ◌<◌, ◌≤◌, Bool, true, false, ◌&&◌, eqb, ltb, List, ◌++◌, length, refl, get_or, ap, ◌∙◌, sym, arith, length-append}
use Rattle.std.proofs.lemmas.Bool.{and_parts, and_from, and_left, or_from, cond-true, cond-false, cond_both, le-leb, leb-true, lt-leb, lt-ltb, ltb-true, le-ltb}
use Rattle.std.proofs.lemmas.List.{append-nil, get_or_append_left}
use Rattle.rail_rules.specs.Numbers.{any_below, is_in}
use Rattle.rail_rules.specs.Plant.{HasNoOverlaps, Plant, needed, overlap, claimed, steps, claims, step_section, move_lines}
use Rattle.rail_rules.specs.Times.{admitted, is_admitted}
use Rattle.rail_rules.specs.Intervals.{barring, bars, blocks, contains_instant, is_over, is_open, clear_end, timer_end, is_taken_over, overlap_end, end_time, is_unfreed}

module _ (plant : Plant) (t m : ℕ) where
  pub claims_are : claims plant t m ≡ steps plant t m + length (overlap plant t m)
  claims_are = length-append (needed plant t m) (overlap plant t m)

  pub steps_claimed : steps plant t m ≤ claims plant t m
  steps_claimed = omega (arith, claims_are)

  -- a needed section is none of the overlap
  pub not_over : (j : ℕ) → j < steps plant t m → is_over plant t m j ≡ false
  not_over j lt = lt-leb (steps plant t m) j lt

  pub is_over_from : (j : ℕ) → steps plant t m ≤ j → is_over plant t m j ≡ true
  is_over_from j le = le-leb (steps plant t m) j le

  pub needed_section : (j : ℕ) → j < steps plant t m → step_section plant t m j ≡ get_or (needed plant t m) j 0
  needed_section j lt = get_or_append_left (needed plant t m) (overlap plant t m) 0 j lt

-- the next move takes over: it is admitted before the timer runs out, and claims the section
pub record IsTakenOver (plant : Plant) (t : ℕ) (adms : List ℕ) (m j : ℕ) : Type 0 where
  pub over : steps plant t m ≤ j
  pub more : suc m < length adms
  pub claiming : is_in (step_section plant t m j) (claimed plant t (suc m)) ≡ true
  pub before : admitted adms (suc m) < timer_end plant t adms m

module _ (plant : Plant) (t : ℕ) (adms : List ℕ) (m j : ℕ) where
  pub taken_parts : is_taken_over plant t adms m j ≡ true → IsTakenOver plant t adms m j
  taken_parts h =
      let a : Bool = is_over plant t m j in
      let b : Bool = is_admitted adms (suc m) in
      let c : Bool = is_in (step_section plant t m j) (claimed plant t (suc m)) in
      let d : Bool = ltb (admitted adms (suc m)) (timer_end plant t adms m) in
      let p3 = and_parts (a && b && c) d h in
      let p2 = and_parts (a && b) c p3.0 in
      let p1 = and_parts a b p2.0 in
      record {
        over = leb-true (steps plant t m) j p1.0;
        more = ltb-true (suc m) (length adms) p1.1;
        claiming = p2.1;
        before = ltb-true (admitted adms (suc m)) (timer_end plant t adms m) p3.1;
      }

  pub taken_from : IsTakenOver plant t adms m j → is_taken_over plant t adms m j ≡ true
  taken_from h =
      let a : Bool = is_over plant t m j in
      let b : Bool = is_admitted adms (suc m) in
      let c : Bool = is_in (step_section plant t m j) (claimed plant t (suc m)) in
      let d : Bool = ltb (admitted adms (suc m)) (timer_end plant t adms m) in
      and_from (a && b && c) d
      (and_from (a && b) c
      (and_from a b (le-leb (steps plant t m) j h.over) (lt-ltb (suc m) (length adms) h.more))
      h.claiming)
      (lt-ltb (admitted adms (suc m)) (timer_end plant t adms m) h.before)

  -- a needed section isn't taken over
  pub needed_not_taken : j < steps plant t m → is_taken_over plant t adms m j ≡ false
  needed_not_taken lt =
      let a : Bool = is_over plant t m j in
      let b : Bool = is_admitted adms (suc m) in
      let c : Bool = is_in (step_section plant t m j) (claimed plant t (suc m)) in
      let d : Bool = ltb (admitted adms (suc m)) (timer_end plant t adms m) in
      and_left (a && b && c) d (and_left (a && b) c (and_left a b (not_over plant t m j lt)))

  -- and nothing is where the next move isn't admitted
  pub last_not_taken : length adms ≤ suc m → is_taken_over plant t adms m j ≡ false
  last_not_taken last =
      let a : Bool = is_over plant t m j in
      let b : Bool = is_admitted adms (suc m) in
      let c : Bool = is_in (step_section plant t m j) (claimed plant t (suc m)) in
      let d : Bool = ltb (admitted adms (suc m)) (timer_end plant t adms m) in
      and_left (a && b && c) d (and_left (a && b) c (and_second a b (le-ltb (suc m) (length adms) last)))
    where
      and_second : (a b : Bool) → b ≡ false → (a && b) ≡ false
      and_second true b h = h
      and_second false b h = λ _. false

  -- the interval of a needed section ends as it is cleared and released
  pub end_needed : j < steps plant t m → end_time plant t adms m j ≡ clear_end plant t adms m j
  end_needed lt = cond-false (is_over plant t m j) (overlap_end plant t adms m j) (clear_end plant t adms m j) (not_over plant t m j lt)

  pub end_over : steps plant t m ≤ j → end_time plant t adms m j ≡ overlap_end plant t adms m j
  end_over le = cond-true (is_over plant t m j) (overlap_end plant t adms m j) (clear_end plant t adms m j) (is_over_from plant t m j le)

  -- that of an overlap's section as the next move takes it over
  pub end_taken : is_taken_over plant t adms m j ≡ true → end_time plant t adms m j ≡ admitted adms (suc m)
  end_taken taken =
      end_over (taken_parts taken).over
      ∙ cond-true (is_taken_over plant t adms m j) (admitted adms (suc m)) (timer_end plant t adms m) taken

  -- and else with the timer
  pub end_timed : steps plant t m ≤ j → is_taken_over plant t adms m j ≡ false → end_time plant t adms m j ≡ timer_end plant t adms m
  end_timed le untaken =
      end_over le
      ∙ cond-false (is_taken_over plant t adms m j) (admitted adms (suc m)) (timer_end plant t adms m) untaken

  pub freed_from : is_open plant t adms m j ≡ false → is_taken_over plant t adms m j ≡ false → is_unfreed plant t adms m j ≡ false
  freed_from closed untaken = or_from (is_open plant t adms m j) (is_taken_over plant t adms m j) closed untaken

-- in a plant without overlaps
module _ (plant : Plant) (none : HasNoOverlaps plant) where
  pub claims_needed : (t m : ℕ) → claimed plant t m ≡ needed plant t m
  claims_needed t m = ap (λ xs. needed plant t m ++ xs) (none t m) ∙ append-nil (needed plant t m)

  claims_steps : (t m : ℕ) → claims plant t m ≡ steps plant t m
  claims_steps t m = ap length (claims_needed t m)

  pub lines_without : (t m : ℕ) → move_lines plant t m ≡ 2 * steps plant t m + 3
  lines_without t m = omega (arith, claims_steps t m)

  pub taken_without : (t : ℕ) (adms : List ℕ) (m j : ℕ) → j < claims plant t m → is_taken_over plant t adms m j ≡ false
  taken_without t adms m j lt = needed_not_taken plant t adms m j (omega (arith, lt, claims_steps t m))

  pub ends_without : (t : ℕ) (adms : List ℕ) (m j : ℕ) → j < claims plant t m → end_time plant t adms m j ≡ clear_end plant t adms m j
  ends_without t adms m j lt = end_needed plant t adms m j (omega (arith, lt, claims_steps t m))

  pub bars_without : (t u : ℕ) (adms : List ℕ) (x instant : ℕ) → bars plant t u adms x instant ≡ blocks plant u adms x instant
  bars_without t u adms x instant =
      let many : (m : ℕ) → barring plant t u (length adms) m ≡ claims plant u m = λ m.
      cond_both (eqb u t && eqb (suc m) (length adms)) (steps plant u m) (claims plant u m) (λ n. n ≡ claims plant u m)
      (λ _. sym (claims_steps u m))
      (λ _. refl) in
      λ i. any_below (λ m. any_below (λ j. eqb (step_section plant u m j) x && contains_instant plant u adms m j instant) (many m i)) (length adms)
