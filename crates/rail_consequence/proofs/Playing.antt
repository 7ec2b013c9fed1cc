-- A list that is played by runs of one train, on the sections that are taken: as a leg where it is one, and else the list does not complete.
use Rattle.std.proofs.Common.{◌≡◌, ℕ, zero, suc, ◌+◌, ◌<◌, ◌≤◌, true, false, ◌&&◌, eqb, ltb, nat_eq, List, [], ◌∷◌, ◌++◌, length, replicate, get_or, drop, set, refl, sym, ap, ◌∙◌, ⊎_elim, arith}
use Rattle.std.specs.List.{prefix_len}
use Rattle.std.proofs.lemmas.Bool.{and_parts, cases_Bool, cases_eq, cond-true, eq-eqb, false≢true, ltb-true}
use Rattle.std.proofs.lemmas.List.{drop_at, get_or-set_same, length-replicate, length-set, set-set, set-get_or}
use Rattle.rail_rules.specs.Numbers.{is_in}
use Rattle.rail_rules.specs.Moves.{Moves, is_valid, stand}
use Rattle.rail_rules.specs.Places.{after, completes, has_holder, holds, is_inside, is_legal, is_valid_state, nobody_inside, place_of}
use Rattle.rail_rules.specs.Analysis.{is_leg}
use Rattle.rail_rules.proofs.CallerLemmas.{any_below_found, any_below_from, is_in-head, state_parts}
use Rattle.rail_place.specs.Plays.{IsPlayed}
use Rattle.rail_place.proofs.CallerLemmas.{holder_listed, move_valid}
use Rattle.rail_sets.specs.Sets.{has}
use Rattle.rail_consequence.specs.Needs.{IsSet}
use Rattle.rail_consequence.proofs.Backward.{front_repeats}
use Rattle.rail_consequence.proofs.Going.{leg_played}
use Rattle.rail_consequence.proofs.Holding.{AreTaken, holder_inside, no_bar, other_bar, same_truth}
use Rattle.rail_consequence.proofs.Legs.{inside_listed, inside_parts, leg_from, nobody_at, nobody_from}
use Rattle.rail_consequence.proofs.Played.{played_valid}
use Rattle.rail_consequence.proofs.Stopping.{free_leads, leg_short}
use Rattle.rail_consequence.specs.Ways.{IsWayFree}

-- the set that has what trains hold
pub taken_held : (plan : Moves) (s set : List ℕ) → IsSet set (has_holder plan s) → AreTaken plan s set
taken_held plan s set is_set = record {
  only = λ x is. let found = any_below_found (λ u. holds plan s u x) (length s) (sym (is_set x) ∙ is) in (found.0, found.2);
  all = λ v x holder. is_set x ∙ any_below_from (λ u. holds plan s u x) (length s) v (holder_listed plan s v x holder) holder;
}

pub held_taken : (plan : Moves) (s set : List ℕ) → AreTaken plan s set → IsSet set (has_holder plan s)
held_taken plan s set taken x =
    same_truth (has set x) (has_holder plan s x)
    (λ is. let v = taken.only x is in any_below_from (λ u. holds plan s u x) (length s) v.0 (holder_listed plan s v.0 x v.1) v.1)
    (λ held. let found = any_below_found (λ u. holds plan s u x) (length s) held in taken.all found.0 x found.2)

-- a list of some numbers has one
some_in : (xs : List ℕ) → 0 < length xs → (x : ℕ) × (is_in x xs ≡ true)
some_in [] some = absurd (omega (arith, some))
some_in (x ∷ xs) some = (x, is_in-head x xs)

-- a train inside holds a section
inside_holds : (plan : Moves) (s : List ℕ) (t : ℕ) → is_valid plan ≡ true → t < plan.trains → is_inside plan s t ≡ true → (x : ℕ) × (holds plan s t x ≡ true)
inside_holds plan s t valid known inside = by (place_of s t) refl
  where
    by : (p : ℕ) → place_of s t ≡ p → (x : ℕ) × (holds plan s t x ≡ true)
    by zero at = absurd (omega (arith, at, (inside_parts plan s t inside).0))
    by (suc m) at =
        let more : suc m < plan.moves t = omega (arith, at, (inside_parts plan s t inside).1) in
        let standing : List ℕ = stand plan t (suc m) in
        let some : 0 < length standing = ltb-true 0 (length standing) (and_parts (ltb 0 (length standing)) _ (and_parts _ _ (move_valid plan t m valid known more)).0).0 in
        let found = some_in standing some in
        (found.0, ap (λ q. is_in found.0 (stand plan t q)) at ∙ found.1)

-- so nobody is inside where nothing is taken
pub nobody_where_none : (plan : Moves) (s set : List ℕ) → is_valid plan ≡ true → is_valid_state plan s ≡ true → AreTaken plan s set → ((x : ℕ) → has set x ≡ false) → nobody_inside plan s ≡ true
nobody_where_none plan s set valid state taken none =
    nobody_from plan s (λ t.
    ⊎_elim
    (λ inside.
    let known : t < plan.trains = omega (arith, inside_listed plan s t inside, (state_parts plan s state).long) in
    let held = inside_holds plan s t valid known inside in
    absurd (false≢true (sym (none held.0) ∙ taken.all t held.0 held.1)))
    (λ out. out)
    (cases_Bool (is_inside plan s t)))

-- and somebody is where something is
pub somebody_where_some : (plan : Moves) (s set : List ℕ) (x : ℕ) → AreTaken plan s set → has set x ≡ true → nobody_inside plan s ≡ false
somebody_where_some plan s set x taken is =
    let v = taken.only x is in
    ⊎_elim
    (λ nobody. absurd (false≢true (sym (nobody_at plan s v.0 nobody) ∙ holder_inside plan s v.0 x v.1)))
    (λ out. out)
    (cases_Bool (nobody_inside plan s))

-- behind moves that are played the list goes on from where they lead
completes_on : (plan : Moves) (s xs q ys : List ℕ) → IsPlayed plan s xs q → completes plan s (xs ++ ys) ≡ completes plan q ys
completes_on plan s [] q ys same = ap (λ r. completes plan r ys) same
completes_on plan s (t ∷ xs) q ys played =
    ap (λ b. b && is_legal plan s t && completes plan (after s t) (xs ++ ys)) played.0
    ∙ ap (λ b. b && completes plan (after s t) (xs ++ ys)) played.1
    ∙ completes_on plan (after s t) xs q ys played.2

-- a list that completes begins with moves that are played
completing_front : (plan : Moves) (s xs ys : List ℕ) → completes plan s (xs ++ ys) ≡ true → (q : List ℕ) × IsPlayed plan s xs q
completing_front plan s [] ys is = (s, refl)
completing_front plan s (t ∷ xs) ys is =
    let both = and_parts (is_inside plan s t && is_legal plan s t) (completes plan (after s t) (xs ++ ys)) is in
    let parts = and_parts (is_inside plan s t) (is_legal plan s t) both.0 in
    let later = completing_front plan (after s t) xs ys both.1 in
    (later.0, (parts.0, parts.1, later.1))

-- moves of one train that are played are legal, each from where the one before ended
run_legal : (plan : Moves) (t k : ℕ) (s r : List ℕ) → t < length s → place_of s t ≤ plan.moves t → IsPlayed plan s (replicate k t) r
    → (place_of s t + k ≤ plan.moves t) × ((i : ℕ) → place_of s t ≤ i → i < place_of s t + k → is_legal plan (set s t i) t ≡ true)
run_legal plan t zero s r lt within played = (omega (arith, within), λ i from below. absurd (omega (arith, from, below)))
run_legal plan t (suc k) s r lt within played =
    let p : ℕ = place_of s t in
    let there : place_of (after s t) t ≡ suc p = get_or-set_same s t (suc p) 0 lt in
    let more = (inside_parts plan s t played.0).1 in
    let later = run_legal plan t k (after s t) r (omega (arith, length-set s t (suc p), lt)) (omega (arith, there, more)) played.2 in (
      omega (arith, later.0, there),
      λ i from below.
          ⊎_elim
          (λ (first : i ≡ p). ap (λ n. is_legal plan (set s t n) t) first ∙ ap (λ q. is_legal plan q t) (set-get_or s t 0) ∙ played.1)
          (λ ne. ap (λ q. is_legal plan q t) (sym (set-set s t (suc p) i)) ∙ later.1 i (omega (arith, there, from, ne)) (omega (arith, there, below)))
          (cases_eq i p),
    )

-- so they are a leg
run_leg : (plan : Moves) (t k : ℕ) (s r : List ℕ) → 0 < k → IsPlayed plan s (replicate k t) r → is_leg plan s (record { train = t; place = place_of s t + k }) ≡ true
run_leg plan t zero s r some played = absurd (omega (arith, some))
run_leg plan t (suc k) s r some played =
    let lt = inside_listed plan s t played.0 in
    let legal = run_legal plan t (suc k) s r lt (omega (arith, (inside_parts plan s t played.0).1)) played in
    leg_from plan s (record { train = t; place = place_of s t + suc k }) (record {
      inside = played.0;
      ahead = omega arith;
      within = legal.0;
      legal = legal.1;
    })

-- a list begins with as many entries of a train as stand there side by side
split_run : (t n : ℕ) (xs : List ℕ) → n ≡ prefix_len (nat_eq t) xs → xs ≡ replicate n t ++ drop n xs
split_run t n xs count =
    let front = front_repeats t xs in
    let whole : xs ≡ replicate n t ++ front.0 = front.1 ∙ ap (λ k. replicate k t ++ front.0) (sym count) in
    let rest : drop n xs ≡ front.0 = ap (drop n) whole ∙ drop_at (replicate n t) front.0 n (length-replicate {A = ℕ} n t) in
    whole ∙ ap (λ ys. replicate n t ++ ys) (sym rest)

-- which is one at least, where its first entry is the train
pub starts_run : (t : ℕ) (xs : List ℕ) → 0 < length xs → t ≡ get_or xs 0 t → 0 < prefix_len (nat_eq t) xs
starts_run t [] some is = absurd (omega (arith, some))
starts_run t (x ∷ xs) some is = omega (arith, cond-true (eqb t x) (1 + prefix_len (nat_eq t) xs) 0 (eq-eqb t x is))

-- where its first run is a leg, the list completes exactly where the rest does behind it
pub run_on : (plan : Moves) (s xs : List ℕ) (t n : ℕ) → n ≡ prefix_len (nat_eq t) xs → is_leg plan s (record { train = t; place = place_of s t + n }) ≡ true
    → completes plan s xs ≡ completes plan (set s t (place_of s t + n)) (drop n xs)
run_on plan s xs t n count leg =
    ap (completes plan s) (split_run t n xs count)
    ∙ completes_on plan s (replicate n t) (set s t (place_of s t + n)) (drop n xs) (leg_played plan s t (place_of s t + n) n leg refl)

-- and else it does not
pub run_barred : (plan : Moves) (s xs : List ℕ) (t n : ℕ) → n ≡ prefix_len (nat_eq t) xs → 0 < n → is_leg plan s (record { train = t; place = place_of s t + n }) ≡ false → completes plan s xs ≡ false
run_barred plan s xs t n count some none =
    ⊎_elim
    (λ is.
    let front = completing_front plan s (replicate n t) (drop n xs) (sym (ap (completes plan s) (split_run t n xs count)) ∙ is) in
    absurd (false≢true (sym none ∙ run_leg plan t n s front.0 some front.1)))
    (λ out. out)
    (cases_Bool (completes plan s xs))

-- a way that is free is a leg
pub way_leg : (plan : Moves) (s set_of : List ℕ) (t p q : ℕ) → is_valid plan ≡ true → is_valid_state plan s ≡ true → AreTaken plan s set_of → t < plan.trains → p ≡ place_of s t → 0 < p → p < q → q ≤ plan.moves t
    → IsWayFree plan t p q set_of → is_leg plan s (record { train = t; place = q }) ≡ true
way_leg plan s set_of t p q valid state taken known at low ahead within free =
    free_leads plan s t q valid known (omega (arith, known, (state_parts plan s state).long)) (omega (arith, at, low)) (omega (arith, at, ahead)) within
    (λ i from below x needed bar.
    no_bar plan s set_of state taken t x (λ is. ap (λ k. is_in x (stand plan t k)) (sym at) ∙ free i x (omega (arith, at, from)) below needed is) bar)

-- and a leg is a way that is free
pub leg_way : (plan : Moves) (s set_of : List ℕ) (t p q : ℕ) → is_valid_state plan s ≡ true → AreTaken plan s set_of → p ≡ place_of s t → is_leg plan s (record { train = t; place = q }) ≡ true → IsWayFree plan t p q set_of
leg_way plan s set_of t p q state taken at leg = λ i x from below needed is.
    ⊎_elim
    (λ own. own)
    (λ out.
    let bar = other_bar plan s set_of state taken t x is (ap (λ k. is_in x (stand plan t k)) (sym at) ∙ out) in
    absurd (omega (arith, leg_short plan s t x i q (omega (arith, at, from)) needed bar leg, below)))
    (cases_Bool (is_in x (stand plan t p)))

-- a leg leads to a valid state
pub leg_state : (plan : Moves) (s : List ℕ) (t n : ℕ) → is_valid plan ≡ true → is_valid_state plan s ≡ true → is_leg plan s (record { train = t; place = place_of s t + n }) ≡ true → is_valid_state plan (set s t (place_of s t + n)) ≡ true
leg_state plan s t n valid state leg = played_valid plan s (replicate n t) (set s t (place_of s t + n)) valid state (leg_played plan s t (place_of s t + n) n leg refl)
