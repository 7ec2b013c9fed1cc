-- Which steps have an interval, as it is found by the time at which the next move takes the section over.
use Rattle.std.proofs.Common.{◌≡◌, ℕ, zero, suc, ◌-◌, ◌<◌, ◌≤◌, Bool, true, false, not, ◌&&◌, eqb, List, Option, Some, None, sym, ap, ◌∙◌, ⊎_elim, arith}
use Rattle.std.specs.Prelude.{unwrap_or}
use Rattle.std.proofs.lemmas.Bool.{and_left, cases_Bool, cond-true, cond-false, not_from_false}
use Rattle.std.proofs.lemmas.Option.{none-some}
use Rattle.rail_block.specs.CarriedTimes.{AreTimes, next_at, times_at}
use Rattle.rail_block.specs.KnownMoves.{AreTimesOf, taken_at}
use Rattle.rail_block.specs.declared.moves.KnownMove.{KnownMove}
use Rattle.rail_block.specs.declared.times.MoveTimes.{MoveTimes}
use Rattle.rail_rules.specs.Intervals.{has_interval, is_taken_over}
use Rattle.rail_rules.specs.Plant.{Plant, steps}
use Rattle.rail_rules.specs.Times.{admitted}
use Rattle.rail_rules.proofs.CallerLemmas.{needed_not_taken}

module _ (plant : Plant) (t : ℕ) (adms : List ℕ) (m j : ℕ) where
  abbrev taken : Bool
  taken = is_taken_over plant t adms m j

  abbrev same : Bool
  same = eqb (admitted adms (suc m)) (admitted adms m)

  -- where the section is not taken over
  has_where_kept : taken ≡ false → true ≡ has_interval plant t adms m j
  has_where_kept untaken = sym (not_from_false (taken && same) (and_left taken same untaken))

  pub has_needed : j < steps plant t m → true ≡ has_interval plant t adms m j
  has_needed lt = has_where_kept (needed_not_taken plant t adms m j lt)

  pub has_untaken : (let nothing : Option ℕ = None in nothing) ≡ taken_at plant t adms m j → true ≡ has_interval plant t adms m j
  has_untaken is =
      ⊎_elim
      (λ yes. absurd (none-some (admitted adms (suc m)) (is ∙ cond-true taken (Some (admitted adms (suc m))) None yes)))
      (λ no. has_where_kept no)
      (cases_Bool taken)

  -- where it is, at another time than that of the admission
  pub has_taken : (at own : ℕ) → Some at ≡ taken_at plant t adms m j → own ≡ admitted adms m → not (eqb at own) ≡ has_interval plant t adms m j
  has_taken at own is own_is =
      ⊎_elim
      (λ yes.
      let at_is : at ≡ admitted adms (suc m) = ap (λ (o : Option ℕ). unwrap_or o at) (is ∙ cond-true taken (Some (admitted adms (suc m))) None yes) in
      (λ k. not (eqb (at_is k) (own_is k))) ∙ sym (ap (λ b. not (b && same)) yes))
      (λ no. absurd (none-some at (sym (is ∙ cond-false taken (Some (admitted adms (suc m))) None no))))
      (cases_Bool taken)

-- when the move to a place was admitted
pub admitted_at : (plant : Plant) (t : ℕ) (adms : List ℕ) (place : ℕ) → 1 ≤ place → (times : MoveTimes) → times ≡ times_at plant t adms place → times.admitted ≡ admitted adms (place - 1)
admitted_at plant t adms zero le times is = absurd (omega (arith, le))
admitted_at plant t adms (suc m) le times is =
    let one : m ≡ suc m - 1 = omega arith in
    ap (λ (own : MoveTimes). own.admitted) is ∙ ap (admitted adms) one

-- the times of a move that was made for this plant, train and place
pub same_times : (known : KnownMove) (plant : Plant) (t place : ℕ) (adms : List ℕ) (own : MoveTimes) (next : Option MoveTimes)
    → known.plant.now ≡ plant → known.train ≡ t → known.place ≡ place → AreTimes plant t adms place own next → AreTimesOf known adms own next
same_times known plant t place adms own next a b c h = record {
  times = h.times ∙ (λ k. times_at (sym a k) (sym b k) adms (sym c k));
  next = h.next ∙ (λ k. next_at (sym a k) (sym b k) adms (sym c k));
}
