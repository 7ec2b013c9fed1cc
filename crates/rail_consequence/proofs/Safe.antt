-- What can be found can be found ahead: with trains further on, each where no other train inside needs later what it stands on, or out. So a safe leg keeps what can be found, and what can be found can be found without a train.
use Rattle.std.proofs.Common.{◌≡◌, ◌≢◌, ℕ, zero, suc, ◌+◌, ◌<◌, ◌≤◌, Bool, true, false, not, ◌&&◌, cond, eqb, ltb, List, [], ◌∷◌, length, set, refl, sym, ap, ◌∙◌, subst, inl, inr, ⊎_elim, arith}
use Rattle.std.proofs.lemmas.Bool.{and_parts, and_from, or_cases, or_right, cases_lt, cases_eq, cases_Bool, false≢true, eqb-true, not-true, not_from_false, cond-true, cond-false, le-ltb}
use Rattle.std.proofs.lemmas.List.{get_or-set_same, get_or-set_other, length-set, set-set}
use Rattle.rail_rules.specs.Numbers.{any_below, is_in, are_apart}
use Rattle.rail_rules.specs.Moves.{Moves, stand}
use Rattle.rail_rules.specs.Places.{place_of, is_inside, holds}
use Rattle.rail_rules.specs.Analysis.{Leg, is_leg, after_leg, needs_later, is_safe, clears, free_legs, Finds}
use Rattle.rail_rules.proofs.CallerLemmas.{apart_at, apart_from}
use Rattle.rail_consequence.specs.Cores.{IsAhead, IsClear}
use Rattle.rail_consequence.proofs.Legs.{Goes, goes_parts, leg_from, clear_from, clear_to, clear_later, legal_kept, inside_from, inside_parts, inside_same, inside_listed, nobody_from, nobody_at}

pub safe_from_clear : (plan : Moves) (s : List ℕ) (leg : Leg) → IsClear plan s leg.train (stand plan leg.train leg.place) → is_safe plan s leg ≡ true
safe_from_clear plan s leg clear =
    let test : Bool = any_below (λ u. not (eqb u leg.train) && needs_later plan s (stand plan leg.train leg.place) u) (length s) in
    or_right (eqb leg.place (plan.moves leg.train)) (not test) (not_from_false test (clear_to plan s leg.train (stand plan leg.train leg.place) clear))

-- at the end of its moves a train stands nowhere
pub stand_out : (plan : Moves) (t p : ℕ) → plan.moves t ≤ p → stand plan t p ≡ []
stand_out plan t zero high = refl
stand_out plan t (suc m) high = cond-false (ltb (suc m) (plan.moves t)) (plan.standing t m) [] (le-ltb (suc m) (plan.moves t) high)

pub apart_none : (xs : List ℕ) → are_apart xs [] ≡ true
apart_none xs = apart_from xs [] (λ x _. refl)

pub clear_from_safe : (plan : Moves) (s : List ℕ) (leg : Leg) → is_safe plan s leg ≡ true → IsClear plan s leg.train (stand plan leg.train leg.place)
clear_from_safe plan s leg safe =
    let test : Bool = any_below (λ u. not (eqb u leg.train) && needs_later plan s (stand plan leg.train leg.place) u) (length s) in
    ⊎_elim
    (λ out.
    let same : leg.place ≡ plan.moves leg.train = eqb-true leg.place (plan.moves leg.train) out in
    let none : stand plan leg.train leg.place ≡ [] = stand_out plan leg.train leg.place (omega arith) in
    λ u i ne inside from below. ap (are_apart (plan.claim u i)) none ∙ apart_none (plan.claim u i))
    (λ clear. clear_from plan s leg.train (stand plan leg.train leg.place) (not-true test clear))
    (or_cases (eqb leg.place (plan.moves leg.train)) (not test) safe)

-- a train that is not inside stands nowhere
stand_idle : (plan : Moves) (s : List ℕ) (t : ℕ) → is_inside plan s t ≡ false → stand plan t (place_of s t) ≡ []
stand_idle plan s t idle =
    ⊎_elim
    (λ entered.
    ⊎_elim
    (λ left. absurd (false≢true (sym idle ∙ inside_from plan s t entered left)))
    (λ out. stand_out plan t (place_of s t) out)
    (cases_lt (place_of s t) (plan.moves t)))
    (λ none. let at : place_of s t ≡ 0 = omega arith in ap (stand plan t) at)
    (cases_lt 0 (place_of s t))

-- who is inside ahead, is inside before
pub inside_before : (plan : Moves) (r q : List ℕ) (t : ℕ) → IsAhead plan r q → is_inside plan q t ≡ true → is_inside plan r t ≡ true
inside_before plan r q t ahead inside =
    inside_from plan r t (ahead.entered t inside) (omega (arith, ahead.later t inside, (inside_parts plan q t inside).1))

-- ahead no train needs more
clear_ahead : (plan : Moves) (r q : List ℕ) (t : ℕ) (sections : List ℕ) → IsAhead plan r q → IsClear plan r t sections → IsClear plan q t sections
clear_ahead plan r q t sections ahead = clear_later plan r q t sections (λ u ne inside. (inside_before plan r q u ahead inside, ahead.later u inside))

safe_ahead : (plan : Moves) (r q : List ℕ) (leg : Leg) → IsAhead plan r q → is_safe plan r leg ≡ true → is_safe plan q leg ≡ true
safe_ahead plan r q leg ahead safe =
    safe_from_clear plan q leg (clear_ahead plan r q leg.train (stand plan leg.train leg.place) ahead (clear_from_safe plan r leg safe))

-- a leg goes past the place where the train stands ahead: the rest of it is a leg there
goes_ahead : (plan : Moves) (r q : List ℕ) (u n : ℕ) → IsAhead plan r q → is_inside plan q u ≡ true → place_of q u < n → Goes plan r u n → Goes plan q u n
goes_ahead plan r q u n ahead inside past goes =
    let lt : u < length r = inside_listed plan r u goes.inside in
    let lt_q : u < length q = inside_listed plan q u inside in
    record {
      inside = inside;
      ahead = past;
      within = goes.within;
      legal = λ i from below.
          let here_r : place_of (set r u i) u ≡ i = get_or-set_same r u i 0 lt in
          let here_q : place_of (set q u i) u ≡ i = get_or-set_same q u i 0 lt_q in
          legal_kept plan (set r u i) (set q u i) u
          (length-set q u i ∙ ahead.long ∙ sym (length-set r u i))
          (here_q ∙ sym here_r)
          (λ v x needed free.
          let keep : place_of (set q u i) v ≡ place_of (set r u i) v → holds plan (set q u i) v x ≡ false = λ e. ap (λ k. is_in x (stand plan v k)) e ∙ free in
          ⊎_elim
          (λ is_u. keep (ap (place_of (set q u i)) is_u ∙ here_q ∙ sym here_r ∙ ap (place_of (set r u i)) (sym is_u)))
          (λ not_u.
          let at_r : place_of (set r u i) v ≡ place_of r v = get_or-set_other r u v i 0 not_u in
          let at_q : place_of (set q u i) v ≡ place_of q v = get_or-set_other q u v i 0 not_u in
          let there : holds plan (set q u i) v x ≡ is_in x (stand plan v (place_of q v)) = ap (λ k. is_in x (stand plan v k)) at_q in
          ⊎_elim
          (λ inside_v.
          ⊎_elim
          (λ stays. keep (at_q ∙ sym stays ∙ sym at_r))
          (λ clear.
          let needed_i : is_in x (plan.claim u i) ≡ true = ap (λ k. is_in x (plan.claim u k)) (sym here_r) ∙ needed in
          there ∙ apart_at (plan.claim u i) (stand plan v (place_of q v)) x (clear u i (λ e. not_u (sym e)) inside from (omega (arith, below, goes.within))) needed_i)
          (ahead.clear v inside_v))
          (λ idle. there ∙ ap (is_in x) (stand_idle plan q v idle))
          (cases_Bool (is_inside plan q v)))
          (cases_eq v u))
          (goes.legal i (omega (arith, from, ahead.later u inside)) below);
    }

-- a leg that ends no further than where the train stands ahead, or of a train that is not inside there
ahead_skip : (plan : Moves) (r q : List ℕ) (u n : ℕ) → IsAhead plan r q → (is_inside plan q u ≡ true → n ≤ place_of q u) → Goes plan r u n → IsAhead plan (set r u n) q
ahead_skip plan r q u n ahead short goes =
    let here : place_of (set r u n) u ≡ n = get_or-set_same r u n 0 (inside_listed plan r u goes.inside) in
    let other : (t : ℕ) → t ≢ u → place_of (set r u n) t ≡ place_of r t = λ t ne. get_or-set_other r u t n 0 ne in
    let at : (t : ℕ) → t ≡ u → place_of (set r u n) t ≡ n = λ t is_u. ap (place_of (set r u n)) is_u ∙ here in
    let upto : (t : ℕ) → is_inside plan q t ≡ true → t ≡ u → n ≤ place_of q t = λ t inside is_u. omega (arith, short (ap (is_inside plan q) (sym is_u) ∙ inside), ap (place_of q) is_u) in
    record {
      long = ahead.long ∙ sym (length-set r u n);
      entered = λ t inside.
          ⊎_elim
          (λ is_u. omega (arith, at t is_u, goes.ahead))
          (λ not_u. omega (arith, other t not_u, ahead.entered t inside))
          (cases_eq t u);
      later = λ t inside.
          ⊎_elim
          (λ is_u. omega (arith, at t is_u, upto t inside is_u))
          (λ not_u. omega (arith, other t not_u, ahead.later t inside))
          (cases_eq t u);
      clear = λ t inside.
          ⊎_elim
          (λ stays.
          ⊎_elim
          (λ is_u. absurd (omega (arith, stays, goes.ahead, ap (place_of r) is_u, upto t inside is_u)))
          (λ not_u. inl (other t not_u ∙ stays))
          (cases_eq t u))
          (λ clear. inr clear)
          (ahead.clear t inside);
    }

-- ahead the train went on from where others stand alike
clear_on : (plan : Moves) (q : List ℕ) (u n t : ℕ) (sections : List ℕ) → is_inside plan q u ≡ true → place_of q u < n → IsClear plan q t sections → IsClear plan (set q u n) t sections
clear_on plan q u n t sections inside past =
    let here : place_of (set q u n) u ≡ n = get_or-set_same q u n 0 (inside_listed plan q u inside) in
    clear_later plan q (set q u n) t sections (λ v ne still.
    ⊎_elim
    (λ is_u. (ap (is_inside plan q) is_u ∙ inside, omega (arith, ap (place_of q) is_u, ap (place_of (set q u n)) is_u, here, past)))
    (λ not_u.
    let same : place_of (set q u n) v ≡ place_of q v = get_or-set_other q u v n 0 not_u in
    (inside_same plan (set q u n) q v (sym same) still, omega (arith, same)))
    (cases_eq v u))

-- the train went on ahead alone
pub ahead_on : (plan : Moves) (r q : List ℕ) (u n : ℕ) → IsAhead plan r q → is_inside plan q u ≡ true → place_of q u < n
    → IsClear plan (set q u n) u (stand plan u n)
    → IsAhead plan r (set q u n)
ahead_on plan r q u n ahead inside past clear =
    let here : place_of (set q u n) u ≡ n = get_or-set_same q u n 0 (inside_listed plan q u inside) in
    let other : (t : ℕ) → t ≢ u → place_of (set q u n) t ≡ place_of q t = λ t ne. get_or-set_other q u t n 0 ne in
    let was : (t : ℕ) → is_inside plan (set q u n) t ≡ true → is_inside plan q t ≡ true = λ t still.
    ⊎_elim
    (λ is_u. ap (is_inside plan q) is_u ∙ inside)
    (λ not_u. inside_same plan (set q u n) q t (sym (other t not_u)) still)
    (cases_eq t u) in
    record {
      long = length-set q u n ∙ ahead.long;
      entered = λ t still. ahead.entered t (was t still);
      later = λ t still.
          ⊎_elim
          (λ is_u. omega (arith, ahead.later t (was t still), ap (place_of q) is_u, ap (place_of (set q u n)) is_u, here, past))
          (λ not_u. omega (arith, ahead.later t (was t still), other t not_u))
          (cases_eq t u);
      clear = λ t still.
          ⊎_elim
          (λ is_u.
          let P : ℕ → Type 0 = λ v. IsClear plan (set q u n) v (stand plan v (place_of (set q u n) v)) in
          let Q : ℕ → Type 0 = λ k. IsClear plan (set q u n) u (stand plan u k) in
          inr (subst P (sym is_u) (subst Q (sym here) clear)))
          (λ not_u.
          ⊎_elim
          (λ stays. inl (stays ∙ sym (other t not_u)))
          (λ before.
          let Q : ℕ → Type 0 = λ k. IsClear plan (set q u n) t (stand plan t k) in
          inr (subst Q (sym (other t not_u)) (clear_on plan q u n t (stand plan t (place_of q t)) inside past before)))
          (ahead.clear t (was t still)))
          (cases_eq t u);
    }

-- both trains went on to the same place
ahead_both : (plan : Moves) (r q : List ℕ) (u n : ℕ) → IsAhead plan r q → is_inside plan q u ≡ true → place_of q u < n → Goes plan r u n → IsAhead plan (set r u n) (set q u n)
ahead_both plan r q u n ahead inside past goes =
    let here_r : place_of (set r u n) u ≡ n = get_or-set_same r u n 0 (inside_listed plan r u goes.inside) in
    let here_q : place_of (set q u n) u ≡ n = get_or-set_same q u n 0 (inside_listed plan q u inside) in
    let other_r : (t : ℕ) → t ≢ u → place_of (set r u n) t ≡ place_of r t = λ t ne. get_or-set_other r u t n 0 ne in
    let other_q : (t : ℕ) → t ≢ u → place_of (set q u n) t ≡ place_of q t = λ t ne. get_or-set_other q u t n 0 ne in
    let at_r : (t : ℕ) → t ≡ u → place_of (set r u n) t ≡ n = λ t is_u. ap (place_of (set r u n)) is_u ∙ here_r in
    let at_q : (t : ℕ) → t ≡ u → place_of (set q u n) t ≡ n = λ t is_u. ap (place_of (set q u n)) is_u ∙ here_q in
    let was : (t : ℕ) → t ≢ u → is_inside plan (set q u n) t ≡ true → is_inside plan q t ≡ true = λ t ne still. inside_same plan (set q u n) q t (sym (other_q t ne)) still in
    record {
      long = length-set q u n ∙ ahead.long ∙ sym (length-set r u n);
      entered = λ t still.
          ⊎_elim
          (λ is_u. omega (arith, at_r t is_u, past))
          (λ not_u. omega (arith, other_r t not_u, ahead.entered t (was t not_u still)))
          (cases_eq t u);
      later = λ t still.
          ⊎_elim
          (λ is_u. omega (arith, at_r t is_u, at_q t is_u))
          (λ not_u. omega (arith, other_r t not_u, other_q t not_u, ahead.later t (was t not_u still)))
          (cases_eq t u);
      clear = λ t still.
          ⊎_elim
          (λ is_u. inl (at_r t is_u ∙ sym (at_q t is_u)))
          (λ not_u.
          ⊎_elim
          (λ stays. inl (other_r t not_u ∙ stays ∙ sym (other_q t not_u)))
          (λ before.
          let Q : ℕ → Type 0 = λ k. IsClear plan (set q u n) t (stand plan t k) in
          inr (subst Q (sym (other_q t not_u)) (clear_on plan q u n t (stand plan t (place_of q t)) inside past before)))
          (ahead.clear t (was t not_u still)))
          (cases_eq t u);
    }

-- a leg that stays a leg, and is no dearer
-- what a leg counts among the free ones
pub cost : Moves → List ℕ → Leg → ℕ
cost plan s leg = cond (is_safe plan s leg) 0 1

pub cost-safe : (plan : Moves) (s : List ℕ) (leg : Leg) → is_safe plan s leg ≡ true → cost plan s leg ≡ 0
unfolding cost
cost-safe plan s leg safe = cond-true (is_safe plan s leg) 0 1 safe

pub cost-free : (plan : Moves) (s : List ℕ) (leg : Leg) → is_safe plan s leg ≡ false → cost plan s leg ≡ 1
unfolding cost
cost-free plan s leg unsafe = cond-false (is_safe plan s leg) 0 1 unsafe

pub free_legs-cons : (plan : Moves) (s : List ℕ) (leg : Leg) (legs : List Leg) → free_legs plan s (leg ∷ legs) ≡ cost plan s leg + free_legs plan (after_leg s leg) legs
unfolding cost
free_legs-cons plan s leg legs = refl

-- a leg in front of what is found after it
pub found_front : (plan : Moves) (k j : ℕ) (s : List ℕ) (leg : Leg) → is_leg plan s leg ≡ true → cost plan s leg + j ≤ k → Finds plan j (after_leg s leg) → Finds plan k s
found_front plan k j s leg is enough rest = (leg ∷ rest.0, and_from (is_leg plan s leg) (clears plan (after_leg s leg) rest.0) is rest.1, rw free_legs-cons (omega (arith, enough, rest.2)))

keep_leg : (plan : Moves) (k : ℕ) (r q : List ℕ) (leg : Leg) (legs : List Leg)
    → (is_safe plan r leg ≡ true → is_safe plan q leg ≡ true) → is_leg plan q leg ≡ true
    → free_legs plan r (leg ∷ legs) ≤ k
    → ((j : ℕ) → free_legs plan (after_leg r leg) legs ≤ j → Finds plan j (after_leg q leg))
    → Finds plan k q
keep_leg plan k r q leg legs kept is free later =
    let counted : cost plan r leg + free_legs plan (after_leg r leg) legs ≤ k = rw (← free_legs-cons plan r leg legs) free in
    let j : ℕ = free_legs plan (after_leg r leg) legs in
    let rest : Finds plan j (after_leg q leg) = later j (omega arith) in
    ⊎_elim
    (λ safe. found_front plan k j q leg is (omega (arith, counted, cost-safe plan q leg (kept safe))) rest)
    (λ unsafe.
    ⊎_elim
    (λ safe_q. found_front plan k j q leg is (omega (arith, counted, cost-safe plan q leg safe_q)) rest)
    (λ unsafe_q. found_front plan k j q leg is (omega (arith, counted, cost-free plan q leg unsafe_q, cost-free plan r leg unsafe)) rest)
    (cases_Bool (is_safe plan q leg)))
    (cases_Bool (is_safe plan r leg))

follow : (plan : Moves) (k : ℕ) (r q : List ℕ) (legs : List Leg) → IsAhead plan r q → clears plan r legs ≡ true → free_legs plan r legs ≤ k → Finds plan k q
follow plan k r q [] ahead clear free = (
  [],
  nobody_from plan q (λ u.
      ⊎_elim
      (λ inside. absurd (false≢true (sym (nobody_at plan r u clear) ∙ inside_before plan r q u ahead inside)))
      (λ out. out)
      (cases_Bool (is_inside plan q u))),
  omega arith,
)
follow plan k r q (leg ∷ legs) ahead clear free =
    let both = and_parts (is_leg plan r leg) (clears plan (after_leg r leg) legs) clear in
    let goes = goes_parts plan r leg both.0 in
    let counted : cost plan r leg + free_legs plan (after_leg r leg) legs ≤ k = rw (← free_legs-cons plan r leg legs) free in
    let skip : (is_inside plan q leg.train ≡ true → leg.place ≤ place_of q leg.train) → Finds plan k q = λ short.
    follow plan k (after_leg r leg) q legs (ahead_skip plan r q leg.train leg.place ahead short goes) both.1 (omega (arith, counted)) in
    ⊎_elim
    (λ inside.
    ⊎_elim
    (λ past.
    keep_leg plan k r q leg legs (safe_ahead plan r q leg ahead) (leg_from plan q leg (goes_ahead plan r q leg.train leg.place ahead inside past goes)) free
    (λ j le. follow plan j (after_leg r leg) (after_leg q leg) legs (ahead_both plan r q leg.train leg.place ahead inside past goes) both.1 le))
    (λ short. skip (λ still. short))
    (cases_lt (place_of q leg.train) leg.place))
    (λ idle. skip (λ inside. absurd (false≢true (sym idle ∙ inside))))
    (cases_Bool (is_inside plan q leg.train))

-- what can be found can be found ahead
pub found_ahead : (plan : Moves) (k : ℕ) (r q : List ℕ) → IsAhead plan r q → Finds plan k r → Finds plan k q
found_ahead plan k r q ahead found = follow plan k r q found.0 ahead found.1 found.2

pub ahead_still : (plan : Moves) (s : List ℕ) → IsAhead plan s s
ahead_still plan s = record {
  long = refl;
  entered = λ t inside. (inside_parts plan s t inside).0;
  later = λ t inside. omega arith;
  clear = λ t inside. inl refl;
}

-- a safe leg leads ahead
pub ahead_leg : (plan : Moves) (s r : List ℕ) (leg : Leg) → IsAhead plan s r → is_leg plan r leg ≡ true → is_safe plan r leg ≡ true → IsAhead plan s (after_leg r leg)
ahead_leg plan s r leg ahead is safe =
    let goes = goes_parts plan r leg is in
    ahead_on plan s r leg.train leg.place ahead goes.inside goes.ahead
    (clear_on plan r leg.train leg.place leg.train (stand plan leg.train leg.place) goes.inside goes.ahead (clear_from_safe plan r leg safe))

pub safe_leg_keeps : (plan : Moves) (k : ℕ) (s : List ℕ) (leg : Leg) → is_leg plan s leg ≡ true → is_safe plan s leg ≡ true → Finds plan k s → Finds plan k (after_leg s leg)
safe_leg_keeps plan k s leg is safe = found_ahead plan k s (after_leg s leg) (ahead_leg plan s s leg (ahead_still plan s) is safe)

-- a train that is taken out where it stands
ahead_out : (plan : Moves) (s : List ℕ) (t : ℕ) → is_inside plan s t ≡ true → IsAhead plan s (set s t (plan.moves t))
ahead_out plan s t inside =
    let none : stand plan t (plan.moves t) ≡ [] = stand_out plan t (plan.moves t) (omega arith) in
    ahead_on plan s s t (plan.moves t) (ahead_still plan s) inside (inside_parts plan s t inside).1
    (λ u i ne is from below. ap (are_apart (plan.claim u i)) none ∙ apart_none (plan.claim u i))

pub found_without : (plan : Moves) (k : ℕ) (s : List ℕ) (t : ℕ) → is_inside plan s t ≡ true → Finds plan k s → Finds plan k (set s t (plan.moves t))
found_without plan k s t inside = found_ahead plan k s (set s t (plan.moves t)) (ahead_out plan s t inside)

-- so where nothing is found without the train, nothing is found after a leg of it
pub found_past_leg : (plan : Moves) (k : ℕ) (s : List ℕ) (t p : ℕ) → is_leg plan s (record { train = t; place = p }) ≡ true → Finds plan k (set s t p) → Finds plan k (set s t (plan.moves t))
found_past_leg plan k s t p is found =
    let goes = goes_parts plan s (record { train = t; place = p }) is in
    let lt : t < length s = inside_listed plan s t goes.inside in
    let here : place_of (set s t p) t ≡ p = get_or-set_same s t p 0 lt in
    let low : 0 < place_of s t = (inside_parts plan s t goes.inside).0 in
    let P : List ℕ → Type 0 = λ r. Finds plan k r in
    ⊎_elim
    (λ still. subst P (set-set s t p (plan.moves t)) (found_without plan k (set s t p) t (inside_from plan (set s t p) t (omega (arith, here, low, goes.ahead)) (omega (arith, here, still))) found))
    (λ out. let same : p ≡ plan.moves t = omega (arith, goes.within) in subst P (ap (set s t) same) found)
    (cases_lt p (plan.moves t))
