-- A core is one for all plans that differ in the moves of a train that is none of it.
use Rattle.std.proofs.Common.{◌≡◌, ◌≢◌, ℕ, zero, suc, ◌+◌, Bool, true, false, not, ◌&&◌, ◌||◌, eqb, ltb, leb, cond, List, [], ◌∷◌, length, set, Option, Some, IfSome, refl, sym, ap, ◌∙◌, subst, inl, ⊎_elim, arith}
use Rattle.std.proofs.lemmas.Bool.{and_parts, and_from, cases_eq, cases_lt, false≢true}
use Rattle.std.proofs.lemmas.List.{get_or_past, get_or-set_other, get_or-set_same, length-set}
use Rattle.std.specs.List.{list_any}
use Rattle.rail_rules.specs.Numbers.{all_below, any_below, are_apart, is_in}
use Rattle.rail_rules.specs.Moves.{Moves, stand}
use Rattle.rail_rules.specs.Places.{has_holder, is_inside, is_legal, nobody_inside, place_of}
use Rattle.rail_rules.specs.Analysis.{Finds, Leg, after_leg, clears, free_legs, is_leg, is_safe, needs_later}
use Rattle.rail_consequence.specs.AnalystStates.{AreAlikeBut}
use Rattle.rail_consequence.specs.Cores.{IsAhead, IsCore}
use Rattle.rail_consequence.proofs.CallerLemmas.{inside_parts}
use Rattle.rail_sets.specs.declared.train_set.TrainSet.{TrainSet}
use Rattle.rail_sets.specs.TrainSets.{has_train}

module _ (plan other : Moves) (t : ℕ) (alike : AreAlikeBut t plan other) where
  stand_same : (u p : ℕ) → u ≢ t → stand other u p ≡ stand plan u p
  stand_same u zero ne = refl
  stand_same u (suc m) ne = λ i. cond (ltb (suc m) (alike.moves u ne i)) (alike.stands u ne i m) []

  -- where the train is outside, all trains stand on the same sections
  stand_at : (r : List ℕ) → place_of r t ≡ 0 → (u : ℕ) → stand other u (place_of r u) ≡ stand plan u (place_of r u)
  stand_at r out u =
      ⊎_elim
      (λ same. let here : place_of r u ≡ 0 = ap (place_of r) same ∙ out in ap (stand other u) here ∙ sym (ap (stand plan u) here))
      (λ ne. stand_same u (place_of r u) ne)
      (cases_eq u t)

  holder_same : (r : List ℕ) → place_of r t ≡ 0 → (x : ℕ) → has_holder other r x ≡ has_holder plan r x
  holder_same r out x = λ i. any_below (λ u. is_in x (stand_at r out u i)) (length r)

  inside_same : (r : List ℕ) → place_of r t ≡ 0 → (u : ℕ) → is_inside other r u ≡ is_inside plan r u
  inside_same r out u =
      ⊎_elim
      (λ same.
      let here : place_of r u ≡ 0 = ap (place_of r) same ∙ out in
      ap (λ p. ltb 0 p && ltb p (other.moves u)) here ∙ sym (ap (λ p. ltb 0 p && ltb p (plan.moves u)) here))
      (λ ne. λ i. ltb 0 (place_of r u) && ltb (place_of r u) (alike.moves u ne i))
      (cases_eq u t)

  legal_same : (r : List ℕ) (u : ℕ) → place_of r t ≡ 0 → u ≢ t → is_legal other r u ≡ is_legal plan r u
  legal_same r u out ne = λ i. ltb (place_of r u) (alike.moves u ne i) && not (list_any (λ x. holder_same r out x i) (alike.claims u ne i (place_of r u)))

  leg_same : (r : List ℕ) (leg : Leg) → place_of r t ≡ 0 → leg.train ≢ t → is_leg other r leg ≡ is_leg plan r leg
  leg_same r leg out ne =
      let u : ℕ = leg.train in
      let away : (j : ℕ) → place_of (set r u j) t ≡ 0 = λ j. get_or-set_other r u t j 0 (λ same. ne (sym same)) ∙ out in
      λ i. inside_same r out u i && ltb (place_of r u) leg.place && leb leg.place (alike.moves u ne i) && all_below (λ j. ltb j (place_of r u) || legal_same (set r u j) u (away j) ne i) leg.place

  needs_same : (r sections : List ℕ) → place_of r t ≡ 0 → (u : ℕ) → needs_later other r sections u ≡ needs_later plan r sections u
  needs_same r sections out u =
      ⊎_elim
      (λ same.
      let here : place_of r u ≡ 0 = ap (place_of r) same ∙ out in
      let nobody : (some : Moves) → needs_later some r sections u ≡ false = λ some.
      ap (λ p. ltb 0 p && ltb p (some.moves u) && any_below (λ j. leb (place_of r u) j && not (are_apart (some.claim u j) sections)) (some.moves u)) here in
      nobody other ∙ sym (nobody plan))
      (λ ne. λ i. inside_same r out u i && any_below (λ j. leb (place_of r u) j && not (are_apart (alike.claims u ne i j) sections)) (alike.moves u ne i))
      (cases_eq u t)

  safe_same : (r : List ℕ) (leg : Leg) → place_of r t ≡ 0 → leg.train ≢ t → is_safe other r leg ≡ is_safe plan r leg
  safe_same r leg out ne =
      ap (λ (sections : List ℕ). eqb leg.place (other.moves leg.train) || not (any_below (λ u. not (eqb u leg.train) && needs_later other r sections u) (length r))) (stand_same leg.train leg.place ne)
      ∙ (λ i. eqb leg.place (alike.moves leg.train ne i) || not (any_below (λ u. not (eqb u leg.train) && needs_same r (stand plan leg.train leg.place) out u i) (length r)))

  -- a leg is of another train
  leg_other : (r : List ℕ) (leg : Leg) → place_of r t ≡ 0 → is_leg other r leg ≡ true → leg.train ≢ t
  leg_other r leg out is same =
      let parts = and_parts (is_inside other r leg.train && ltb (place_of r leg.train) leg.place && leb leg.place (other.moves leg.train)) (all_below (λ j. ltb j (place_of r leg.train) || is_legal other (set r leg.train j) leg.train) leg.place) is in
      let two = and_parts (is_inside other r leg.train && ltb (place_of r leg.train) leg.place) (leb leg.place (other.moves leg.train)) parts.0 in
      let one = and_parts (is_inside other r leg.train) (ltb (place_of r leg.train) leg.place) two.0 in
      omega (arith, (inside_parts other r leg.train one.0).0, ap (place_of r) same, out)

  legs_same : (r : List ℕ) (legs : List Leg) → place_of r t ≡ 0 → clears other r legs ≡ true → (clears plan r legs ≡ true) × (free_legs plan r legs ≡ free_legs other r legs)
  legs_same r [] out done =
      let same : nobody_inside other r ≡ nobody_inside plan r = λ i. not (any_below (λ u. inside_same r out u i) (length r)) in
      (sym same ∙ done, refl)
  legs_same r (leg ∷ legs) out done =
      let both = and_parts (is_leg other r leg) (clears other (after_leg r leg) legs) done in
      let ne : leg.train ≢ t = leg_other r leg out both.0 in
      let away : place_of (after_leg r leg) t ≡ 0 = get_or-set_other r leg.train t leg.place 0 (λ same. ne (sym same)) ∙ out in
      let later = legs_same (after_leg r leg) legs away both.1 in (
        and_from (is_leg plan r leg) (clears plan (after_leg r leg) legs) (sym (leg_same r leg out ne) ∙ both.0) later.0,
        λ i. cond (sym (safe_same r leg out ne) i) 0 1 + later.1 i,
      )

  finds_same : (k : ℕ) (r : List ℕ) → place_of r t ≡ 0 → Finds other k r → Finds plan k r
  finds_same k r out found =
      let same = legs_same r found.0 out found.1 in
      (found.0, same.0, omega (arith, same.1, found.2))

-- what can be found can be found ahead
abbrev pub Law : Type 0
Law = (plan : Moves) (k : ℕ) (s ahead : List ℕ) → IsAhead plan s ahead → Finds plan k s → Finds plan k ahead

-- a core that has not the train is one for any moves of it
pub core_alike : (plan other : Moves) (t k : ℕ) (s : List ℕ) (core : ℕ → Bool) → Law → AreAlikeBut t plan other → core t ≡ false → IsCore plan k s core → IsCore other k s core
core_alike plan other t k s core law alike none is = λ r long like found.
    let r0 : List ℕ = set r t 0 in
    let out : place_of r0 t ≡ 0 =
    ⊎_elim
    (λ lt. get_or-set_same r t 0 0 lt)
    (λ past. get_or_past r0 t 0 (omega (arith, past, length-set r t 0)))
    (cases_lt t (length r)) in
    let kept : (u : ℕ) → u ≢ t → place_of r0 u ≡ place_of r u = λ u ne. get_or-set_other r t u 0 0 ne in
    let stays : (u : ℕ) → is_inside other r0 u ≡ true → place_of r0 u ≡ place_of r u = λ u inside.
    ⊎_elim
    (λ same. absurd (omega (arith, (inside_parts other r0 u inside).0, ap (place_of r0) same, out)))
    (λ ne. kept u ne)
    (cases_eq u t) in
    is r0 (length-set r t 0 ∙ long)
    (λ u one. kept u (λ same. false≢true (sym none ∙ ap core (sym same) ∙ one)) ∙ like u one)
    (finds_same plan other t alike k r0 out (law other k r r0 (record {
      long = length-set r t 0;
      entered = λ u inside. omega (arith, stays u inside, (inside_parts other r0 u inside).0);
      later = λ u inside. omega (arith, stays u inside);
      clear = λ u inside. inl (sym (stays u inside));
    }) found))

-- a core that has not the train is one wherever the train stands
pub core_anywhere : (plan : Moves) (t p k : ℕ) (s : List ℕ) (core : ℕ → Bool) → core t ≡ false → IsCore plan k (set s t p) core → IsCore plan k s core
core_anywhere plan t p k s core none is = λ r long like found.
    is r (long ∙ sym (length-set s t p))
    (λ u one. like u one ∙ sym (get_or-set_other s t u p 0 (λ same. false≢true (sym none ∙ ap core (sym same) ∙ one))))
    found

-- what is known of a core is known of the same one
pub knows : (plan now : Moves) (k d : ℕ) (s r : List ℕ) (core same : Option TrainSet) → now ≡ plan → d ≡ k → r ≡ s → same ≡ core
    → IfSome core (λ trains. IsCore plan k s (has_train trains)) → IfSome same (λ trains. IsCore now d r (has_train trains))
knows plan now k d s r core same is_plan is_depth is_state is_core known =
    subst (λ (x : Option TrainSet). IfSome x (λ trains. IsCore now d r (has_train trains))) (sym is_core)
    (subst (λ (x : List ℕ). IfSome core (λ trains. IsCore now d x (has_train trains))) (sym is_state)
    (subst (λ (x : ℕ). IfSome core (λ trains. IsCore now x s (has_train trains))) (sym is_depth)
    (subst (λ (x : Moves). IfSome core (λ trains. IsCore x k s (has_train trains))) (sym is_plan) known)))

-- the core that is known is one
pub known_core : (plan : Moves) (k : ℕ) (s : List ℕ) (core : Option TrainSet) (trains : TrainSet) → core ≡ Some trains → IfSome core (λ some. IsCore plan k s (has_train some)) → IsCore plan k s (has_train trains)
known_core plan k s core trains is known = subst (λ (x : Option TrainSet). IfSome x (λ some. IsCore plan k s (has_train some))) is known
