-- When the next move takes a section of the overlap over, and when its interval ends.
use Rattle.std.proofs.Common.{◌≡◌, ℕ, suc, ◌≤◌, Bool, true, false, cond, eqb, ltb, is_lt, nat_cmp, Less, Equal, Greater, List, Option, Some, None, refl, sym, ap, ◌∙◌, ⊎_elim}
use Rattle.std.specs.Option.{unwrap_or}
use Rattle.std.proofs.lemmas.Bool.{cases_Bool, cond-true, cond-false}
use Rattle.rail_rules.specs.Plant.{Plant, steps}
use Rattle.rail_rules.specs.Times.{admitted}
use Rattle.rail_rules.specs.Intervals.{end_time, is_taken_over, timer_end}
use Rattle.rail_rules.proofs.CallerLemmas.{IsTakenOver, end_over, taken_from, taken_parts}
use Rattle.rail_block.specs.KnownMoves.{taken_at}

-- a time is before another
is_lt_cond : (less same : Bool) → is_lt (cond less Less (cond same Equal Greater)) ≡ less
is_lt_cond true same = refl
is_lt_cond false true = refl
is_lt_cond false false = refl

pub is_before : (a b : ℕ) → is_lt (nat_cmp a b) ≡ ltb a b
is_before a b = is_lt_cond (ltb a b) (eqb a b)

module _ (plant : Plant) (t : ℕ) (adms : List ℕ) (m j : ℕ) where
  abbrev taking : Option ℕ
  taking = Some (admitted adms (suc m))

  pub taken_some : (at : ℕ) → at ≡ admitted adms (suc m) → IsTakenOver plant t adms m j → Some at ≡ taken_at plant t adms m j
  taken_some at is taken = ap Some is ∙ sym (cond-true (is_taken_over plant t adms m j) taking None (taken_from plant t adms m j taken))

  pub taken_none : (IsTakenOver plant t adms m j → ⊥) → None ≡ taken_at plant t adms m j
  taken_none untaken =
      ⊎_elim
      (λ yes. absurd (untaken (taken_parts plant t adms m j yes)))
      (λ no. sym (cond-false (is_taken_over plant t adms m j) taking None no))
      (cases_Bool (is_taken_over plant t adms m j))

  or_timer : (taken : Bool) (at timer : ℕ) → unwrap_or (cond taken (Some at) None) timer ≡ cond taken at timer
  or_timer true at timer = refl
  or_timer false at timer = refl

  -- the interval ends then, else with the timer
  pub taken_or_timed : steps plant t m ≤ j → unwrap_or (taken_at plant t adms m j) (timer_end plant t adms m) ≡ end_time plant t adms m j
  taken_or_timed over = or_timer (is_taken_over plant t adms m j) (admitted adms (suc m)) (timer_end plant t adms m) ∙ sym (end_over plant t adms m j over)
