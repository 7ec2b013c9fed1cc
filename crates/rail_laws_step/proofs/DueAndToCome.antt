-- How each line changes what is due.
use Rattle.std.proofs.Common.{◌≡◌, ℕ, zero, suc, ◌+◌, ◌<◌, ◌≤◌, Bool, true, false, not, ◌&&◌, cond, List, [], ◌∷◌, ◌++◌, length, Option, Some, None, refl, sym, ap, ◌∙◌, subst, ◌⊎◌, inl, inr, ⊎_elim, arith}
use Rattle.std.specs.List.{list_any}
use Rattle.rail_base.specs.declared.history.Entry.{Entry}
use Rattle.rail_base.specs.declared.history.What.TheVariants.{Free, Out}
use Rattle.rail_base.specs.declared.orders.Order.{Order}
use Rattle.rail_rules.specs.Numbers.{gather}
use Rattle.rail_rules.specs.Plant.{Plant, moves, overlap, steps, claims, step_section}
use Rattle.rail_rules.specs.Intervals.{does_stand, end_time, freed_at}
use Rattle.rail_rules.specs.Fronts.{at_time}
use Rattle.rail_rules.specs.Orders.{is_cancelled}
use Rattle.rail_rules.specs.Events.{arrive_line, enter_line, free_lines, move_events, out_lines, ready_line}
use Rattle.rail_laws_front.proofs.CallerLemmas.{append_none}
use Rattle.rail_laws_events.specs.Changes.{taken_back, freed_before, gained, ready_after}
use Rattle.rail_laws_step.specs.KeptLines.{is_kept}

-- lists that are gathered, in each of which all stays
gather_none : (lost : Entry → Bool) (f : ℕ → List Entry) (n : ℕ) → ((i : ℕ) → list_any lost (f i) ≡ false) → list_any lost (gather f n) ≡ false
gather_none lost f zero each = refl
gather_none lost f (suc n) each = append_none lost (gather f n) (f n) (gather_none lost f n each) (each n)

-- what comes with an admission stays
module _ (plant : Plant) (t : ℕ) (adms : List ℕ) (orders : List Order) (runs : is_cancelled t orders ≡ false) where
  abbrev lost : Entry → Bool
  lost e = not (is_kept orders e.what)

  free_stays : (x : ℕ) (o : Option ℕ) → list_any lost (free_lines t x o) ≡ false
  free_stays x None = refl
  free_stays x (Some at) = refl

  pub taken_back_stays : (m : ℕ) → list_any lost (taken_back plant t adms m) ≡ false
  taken_back_stays zero = refl
  taken_back_stays (suc m) =
      gather_none lost (λ i. free_lines t (step_section plant t m (steps plant t m + i)) (freed_at plant t adms m (steps plant t m + i))) (length (overlap plant t m))
      (λ i. free_stays (step_section plant t m (steps plant t m + i)) (freed_at plant t adms m (steps plant t m + i)))

  freed_stays : (m : ℕ) → list_any lost (freed_before plant t adms m) ≡ false
  freed_stays zero = refl
  freed_stays (suc m) = gather_none lost (λ j. cond (does_stand plant t m j) (at_time (end_time plant t adms m j) (Free (step_section plant t m j) t) ∷ []) []) (steps plant t m) (λ j. of (does_stand plant t m j) (end_time plant t adms m j) (step_section plant t m j))
    where
      of : (b : Bool) (at x : ℕ) → list_any lost (cond b (at_time at (Free x t) ∷ []) []) ≡ false
      of true at x = refl
      of false at x = refl

  out_stays : (m : ℕ) → list_any lost (out_lines plant t adms m) ≡ false
  out_stays m = of (Rattle.std.proofs.Common.eqb (suc m) (moves plant t))
    where
      of : (b : Bool) → list_any lost (cond b (at_time (Rattle.rail_rules.specs.Times.out plant t adms m) (Out t) ∷ []) []) ≡ false
      of true = refl
      of false = refl

  enters : ℕ → List Entry
  enters m = gather (λ j. enter_line plant t adms m j ∷ []) (steps plant t m)

  frees : ℕ → List Entry
  frees m = gather (λ j. free_lines t (step_section plant t m j) (freed_at plant t adms m j)) (claims plant t m)

  move_stays : (m : ℕ) → list_any lost (move_events plant t adms m) ≡ false
  unfolding enters frees
  move_stays m =
      append_none lost (enters m ++ arrive_line plant t adms m ∷ [] ++ frees m) (out_lines plant t adms m)
      (append_none lost (enters m ++ arrive_line plant t adms m ∷ []) (frees m)
      (append_none lost (enters m) (arrive_line plant t adms m ∷ []) (gather_none lost (λ j. enter_line plant t adms m j ∷ []) (steps plant t m) (λ j. refl)) refl)
      (gather_none lost (λ j. free_lines t (step_section plant t m j) (freed_at plant t adms m j)) (claims plant t m) (λ j. free_stays (step_section plant t m j) (freed_at plant t adms m j))))
      (out_stays m)

  ready_stays : (m : ℕ) → list_any lost (ready_after plant t adms m) ≡ false
  ready_stays m = of (Rattle.std.proofs.Common.ltb (suc m) (moves plant t))
    where
      of : (b : Bool) → list_any lost (cond b (ready_line plant t adms (suc m) ∷ []) []) ≡ false
      of true = ap {B = Bool} (λ c. Rattle.std.proofs.Common.◌||◌ (not (not c)) false) runs
      of false = refl

  pub gained_stays : (m : ℕ) → list_any lost (gained plant t adms m) ≡ false
  gained_stays m =
      append_none lost (taken_back plant t adms m ++ freed_before plant t adms m ++ move_events plant t adms m) (ready_after plant t adms m)
      (append_none lost (taken_back plant t adms m ++ freed_before plant t adms m) (move_events plant t adms m)
      (append_none lost (taken_back plant t adms m) (freed_before plant t adms m) (taken_back_stays m) (freed_stays m))
      (move_stays m))
      (ready_stays m)
