-- A core lasts behind a safe leg of one of its trains.
use Rattle.std.proofs.Common.{◌≡◌, ◌≢◌, ℕ, zero, suc, ◌+◌, ◌<◌, Bool, true, false, cond, List, [], ◌∷◌, length, set, refl, sym, ap, ◌∙◌, subst, inl, ⊎_elim, arith}
use Rattle.std.proofs.lemmas.Bool.{cases_Bool, cases_eq, cases_lt, cond-true, cond-false, false≢true}
use Rattle.std.proofs.lemmas.List.{get_or_past, get_or-set_same, get_or-set_other, length-set, set-set, set-get_or}
use Rattle.rail_rules.specs.Numbers.{is_in}
use Rattle.rail_rules.specs.Moves.{Moves, stand}
use Rattle.rail_rules.specs.Places.{place_of, is_inside}
use Rattle.rail_rules.specs.Analysis.{Leg, is_leg, is_safe, after_leg, Finds}
use Rattle.rail_consequence.specs.Cores.{IsAhead, IsClear, IsCore, StandAlike}
use Rattle.rail_consequence.proofs.Legs.{Goes, goes_parts, leg_from, clear_later, legal_kept, inside_parts, inside_same, inside_listed}
use Rattle.rail_consequence.proofs.Safe.{clear_from_safe, cost-safe, found_ahead, found_front, safe_from_clear, stand_out}

-- the trains that are none of the core are out; trains count from the number
abbrev alone : Moves → (ℕ → Bool) → ℕ → List ℕ → List ℕ
alone plan core n [] = []
alone plan core n (p ∷ s) = cond (core n) p (plan.moves n) ∷ alone plan core (suc n) s

alone_long : (plan : Moves) (core : ℕ → Bool) (n : ℕ) (s : List ℕ) → length (alone plan core n s) ≡ length s
alone_long plan core n [] = refl
alone_long plan core n (p ∷ s) = ap suc (alone_long plan core (suc n) s)

alone_at : (plan : Moves) (core : ℕ → Bool) (n : ℕ) (s : List ℕ) (t : ℕ) → t < length s → place_of (alone plan core n s) t ≡ cond (core (n + t)) (place_of s t) (plan.moves (n + t))
alone_at plan core n [] t lt = absurd (omega (arith, lt))
alone_at plan core n (p ∷ s) zero lt =
    let same : n ≡ n + 0 = omega arith in
    ap (λ k. cond (core k) p (plan.moves k)) same
alone_at plan core n (p ∷ s) (suc t) lt =
    let same : suc n + t ≡ n + suc t = omega arith in
    alone_at plan core (suc n) s t (omega (arith, lt)) ∙ ap (λ k. cond (core k) (place_of s t) (plan.moves k)) same

alone_from_0 : (plan : Moves) (core : ℕ → Bool) (s : List ℕ) (t : ℕ) → t < length s → place_of (alone plan core 0 s) t ≡ cond (core t) (place_of s t) (plan.moves t)
alone_from_0 plan core s t lt =
    let same : 0 + t ≡ t = omega arith in
    alone_at plan core 0 s t lt ∙ ap (λ k. cond (core k) (place_of s t) (plan.moves k)) same

module _ (plan : Moves) (core : ℕ → Bool) (r : List ℕ) where
  abbrev pub left : List ℕ
  left = alone plan core 0 r

  pub left_in : (t : ℕ) → core t ≡ true → place_of left t ≡ place_of r t
  left_in t one =
      ⊎_elim
      (λ lt. alone_from_0 plan core r t lt ∙ cond-true (core t) (place_of r t) (plan.moves t) one)
      (λ past. get_or_past left t 0 (omega (arith, alone_long plan core 0 r, past)) ∙ sym (get_or_past r t 0 past))
      (cases_lt t (length r))

  -- a train that is none of the core stands nowhere
  pub left_none : (t : ℕ) → core t ≡ false → stand plan t (place_of left t) ≡ []
  left_none t none =
      ⊎_elim
      (λ lt. let at : place_of left t ≡ plan.moves t = alone_from_0 plan core r t lt ∙ cond-false (core t) (place_of r t) (plan.moves t) none in stand_out plan t (place_of left t) (omega (arith, at)))
      (λ past. let at : place_of left t ≡ 0 = get_or_past left t 0 (omega (arith, alone_long plan core 0 r, past)) in ap (stand plan t) at)
      (cases_lt t (length r))

  -- who is left inside, is one of the core
  pub left_core : (t : ℕ) → is_inside plan left t ≡ true → core t ≡ true
  left_core t inside =
      ⊎_elim
      (λ one. one)
      (λ none.
      let lt : t < length r = omega (arith, inside_listed plan left t inside, alone_long plan core 0 r) in
      let at : place_of left t ≡ plan.moves t = alone_from_0 plan core r t lt ∙ cond-false (core t) (place_of r t) (plan.moves t) none in
      absurd (omega (arith, at, (inside_parts plan left t inside).1)))
      (cases_Bool (core t))

  pub left_ahead : IsAhead plan r left
  left_ahead = record {
    long = alone_long plan core 0 r;
    entered = λ t inside. omega (arith, left_in t (left_core t inside), (inside_parts plan left t inside).0);
    later = λ t inside. omega (arith, left_in t (left_core t inside));
    clear = λ t inside. inl (sym (left_in t (left_core t inside)));
  }

-- the train of the leg is one of the core: alone, the core finds no more behind the leg than before it
leg_alone : (plan : Moves) (k : ℕ) (s r : List ℕ) (core : ℕ → Bool) (leg : Leg) → IsCore plan k s core → is_leg plan s leg ≡ true → is_safe plan s leg ≡ true
    → core leg.train ≡ true → length r ≡ length s → StandAlike core (after_leg s leg) r → Finds plan k r → ⊥
leg_alone plan k s r core leg is goes_leg safe one long alike found =
    let u : ℕ = leg.train in
    let goes : Goes plan s u leg.place = goes_parts plan s leg goes_leg in
    let lt : u < length s = inside_listed plan s u goes.inside in
    let q : List ℕ = alone plan core 0 r in
    let long_q : length q ≡ length s = alone_long plan core 0 r ∙ long in
    let lt_q : u < length q = omega (arith, long_q, lt) in
    let b : List ℕ = set q u (place_of s u) in
    let long_b : length b ≡ length s = length-set q u (place_of s u) ∙ long_q in
    let there : place_of q u ≡ leg.place = left_in plan core r u one ∙ alike u one ∙ get_or-set_same s u leg.place 0 lt in
    let here : place_of b u ≡ place_of s u = get_or-set_same q u (place_of s u) 0 lt_q in
    let other_b : (v : ℕ) → v ≢ u → place_of b v ≡ place_of q v = λ v ne. get_or-set_other q u v (place_of s u) 0 ne in
    let other_q : (v : ℕ) → v ≢ u → core v ≡ true → place_of q v ≡ place_of s v = λ v ne one_v. left_in plan core r v one_v ∙ alike v one_v ∙ get_or-set_other s u v leg.place 0 ne in
    let alike_b : StandAlike core s b = λ v one_v.
    ⊎_elim
    (λ is_u. ap (place_of b) is_u ∙ here ∙ ap (place_of s) (sym is_u))
    (λ not_u. other_b v not_u ∙ other_q v not_u one_v)
    (cases_eq v u) in
    let goes_b : Goes plan b u leg.place = record {
      inside = inside_same plan s b u here goes.inside;
      ahead = omega (arith, here, goes.ahead);
      within = goes.within;
      legal = λ i from below.
          let at_s : place_of (set s u i) u ≡ i = get_or-set_same s u i 0 lt in
          let at_b : place_of (set b u i) u ≡ i = get_or-set_same b u i 0 (omega (arith, long_b, lt)) in
          legal_kept plan (set s u i) (set b u i) u
          (length-set b u i ∙ long_b ∙ sym (length-set s u i))
          (at_b ∙ sym at_s)
          (λ v x needed free.
          ⊎_elim
          (λ is_u. ap (λ w. is_in x (stand plan w (place_of (set b u i) w))) is_u ∙ ap (λ p. is_in x (stand plan u p)) (at_b ∙ sym at_s) ∙ ap (λ w. is_in x (stand plan w (place_of (set s u i) w))) (sym is_u) ∙ free)
          (λ not_u.
          let on_b : place_of (set b u i) v ≡ place_of q v = get_or-set_other b u v i 0 not_u ∙ other_b v not_u in
          let on_s : place_of (set s u i) v ≡ place_of s v = get_or-set_other s u v i 0 not_u in
          ⊎_elim
          (λ one_v. ap (λ p. is_in x (stand plan v p)) (on_b ∙ other_q v not_u one_v ∙ sym on_s) ∙ free)
          (λ none_v. ap (λ p. is_in x (stand plan v p)) on_b ∙ ap (is_in x) (left_none plan core r v none_v))
          (cases_Bool (core v)))
          (cases_eq v u))
          (goes.legal i (omega (arith, from, here)) below);
    } in
    let clear_b : IsClear plan b u (stand plan u leg.place) =
    clear_later plan s b u (stand plan u leg.place) (λ v ne inside.
    let inside_q : is_inside plan q v ≡ true = inside_same plan b q v (sym (other_b v ne)) inside in
    let same : place_of b v ≡ place_of s v = other_b v ne ∙ other_q v ne (left_core plan core r v inside_q) in
    (inside_same plan b s v (sym same) inside, omega (arith, same)))
    (clear_from_safe plan s leg safe) in
    let back : after_leg b leg ≡ q = set-set q u (place_of s u) leg.place ∙ ap (set q u) (sym there) ∙ set-get_or q u 0 in
    let P : List ℕ → Type 0 = λ w. Finds plan k w in
    let found_q : P q = found_ahead plan k r q (left_ahead plan core r) found in
    is b long_b alike_b
    (found_front plan k k b leg (leg_from plan b leg goes_b) (omega (arith, cost-safe plan b leg (safe_from_clear plan b leg clear_b))) (subst P (sym back) found_q))

-- a core is one behind a safe leg, too
pub core_leg : (plan : Moves) (k : ℕ) (s : List ℕ) (core : ℕ → Bool) (leg : Leg) → is_leg plan s leg ≡ true → is_safe plan s leg ≡ true → IsCore plan k s core → IsCore plan k (after_leg s leg) core
core_leg plan k s core leg goes safe is = λ r long alike found.
    let long_s : length r ≡ length s = long ∙ length-set s leg.train leg.place in
    ⊎_elim
    (λ one. leg_alone plan k s r core leg is goes safe one long_s alike found)
    (λ none. is r long_s (λ t one_t.
    let ne : t ≢ leg.train = λ same. false≢true (sym none ∙ ap core (sym same) ∙ one_t) in
    alike t one_t ∙ get_or-set_other s leg.train t leg.place 0 ne) found)
    (cases_Bool (core leg.train))
