-- Which sections are taken, as a set.
use Rattle.std.proofs.Common.{◌≡◌, ◌≢◌, ℕ, zero, suc, ◌+◌, ◌<◌, ◌≤◌, Bool, true, false, not, ◌&&◌, ◌||◌, ltb, List, [], Option, None, Some, is_some, length, get_or, set, take, refl, sym, ap, ◌∙◌, ⊎_elim, arith}
use Rattle.std.proofs.lemmas.Bool.{and_from, and_parts, cases_Bool, cases_eq, cases_lt, cond-false, false≢true, le-ltb, not_from_false, not-true, or_cases, or_left, or_right}
use Rattle.std.proofs.lemmas.List.{get_or-set_same, get_or-set_other}
use Rattle.rail_rules.specs.Numbers.{is_in}
use Rattle.rail_rules.specs.Moves.{Moves, stand}
use Rattle.rail_rules.specs.Places.{holds, is_inside, is_valid_state, place_of}
use Rattle.rail_rules.proofs.CallerLemmas.{apart_at, state_parts}
use Rattle.rail_place.specs.PlaceStates.{IsFreeBehind, IsMadeFor, State}
use Rattle.rail_place.specs.Tables.{MoveLists, moves_in}
use Rattle.rail_place.proofs.CallerLemmas.{holder_listed, state_apart}
use Rattle.rail_sets.specs.Sets.{has}
use Rattle.rail_consequence.specs.Needs.{IsSet}
use Rattle.rail_consequence.specs.Stops.{IsTakenByOther}
use Rattle.rail_consequence.specs.Workspace.{IsListing}
use Rattle.rail_consequence.proofs.Counts.{in_take_all, in_take_more}
use Rattle.rail_consequence.proofs.Legs.{inside_from}
use Rattle.rail_consequence.proofs.SetLemmas.{stands_at}

-- two truths are the same where each follows from the other
pub same_truth : (p q : Bool) → (p ≡ true → q ≡ true) → (q ≡ true → p ≡ true) → p ≡ q
same_truth p q there back =
    ⊎_elim
    (λ yes. yes ∙ sym (there yes))
    (λ no. no ∙ sym (⊎_elim (λ is. absurd (false≢true (sym no ∙ back is))) (λ out. out) (cases_Bool q)))
    (cases_Bool p)

-- an option that is one
some_of : (o : Option ℕ) → is_some o ≡ true → (v : ℕ) × (o ≡ Some v)
some_of None is = absurd (false≢true is)
some_of (Some v) is = (v, refl)

-- no two trains hold a section
pub one_holds : (plan : Moves) (s : List ℕ) (u v x : ℕ) → is_valid_state plan s ≡ true → holds plan s u x ≡ true → holds plan s v x ≡ true → u ≢ v → ⊥
one_holds plan s u v x state first second ne =
    false≢true (sym (apart_at (stand plan u (place_of s u)) (stand plan v (place_of s v)) x (state_apart plan s u v state (holder_listed plan s u x first) (λ same. ne (sym same))) first) ∙ second)

-- the set has what the trains hold, and nothing that no train holds
pub record AreTaken (plan : Moves) (s set : List ℕ) : Type 0 where
  pub only : (x : ℕ) → has set x ≡ true → (v : ℕ) × (holds plan s v x ≡ true)
  pub all : (v x : ℕ) → holds plan s v x ≡ true → has set x ≡ true

-- so it has what the owners tell
pub are_owned : (table : List MoveLists) (state : State) → IsMadeFor table state → (set : List ℕ) → IsSet set (λ x. is_some (get_or state.owners x None)) → AreTaken (moves_in table) state.positions set
are_owned table state made set is_set = record {
  only = λ x is.
      let owner = some_of (get_or state.owners x None) (sym (is_set x) ∙ is) in
      (owner.0, (made.told x owner.0).0 owner.1);
  all = λ v x holder. is_set x ∙ ap is_some ((made.told x v).1 holder);
}

-- and the owners tell what it has
pub owned_from : (table : List MoveLists) (state : State) → IsMadeFor table state → (set : List ℕ) → AreTaken (moves_in table) state.positions set → IsSet set (λ x. is_some (get_or state.owners x None))
owned_from table state made set taken x =
    same_truth (has set x) (is_some (get_or state.owners x None))
    (λ is. let v = taken.only x is in ap is_some ((made.told x v.0).1 v.1))
    (λ owned.
    let v = some_of (get_or state.owners x None) owned in
    taken.all v.0 x ((made.told x v.0).0 v.1))

module _ (plan : Moves) (s taken : List ℕ) (state : is_valid_state plan s ≡ true) (are : AreTaken plan s taken) where
  -- a section of the set on which a train does not stand is taken by another
  pub other_bar : (t x : ℕ) → has taken x ≡ true → is_in x (stand plan t (place_of s t)) ≡ false → IsTakenByOther plan s t x
  other_bar t x is out =
      let v = are.only x is in
      record {
        holder = v.0;
        other = λ same. false≢true (sym out ∙ ap (λ u. holds plan s u x) (sym same) ∙ v.1);
        taken = v.1;
      }

  -- and one that is not taken by another is not in the set, or the train stands on it
  pub no_bar : (t x : ℕ) → (has taken x ≡ true → is_in x (stand plan t (place_of s t)) ≡ true) → IsTakenByOther plan s t x → ⊥
  no_bar t x own bar =
      one_holds plan s t bar.holder x state (own (are.all bar.holder x bar.taken)) bar.taken (λ same. bar.other (sym same))

  -- a section that stays, or comes, where a train goes to another place is taken there by a train
  pub then_holder_at : (t p : ℕ) → t < length s → (gone come new : List ℕ) → IsSet gone (λ x. is_in x (stand plan t (place_of s t))) → IsSet come (λ x. is_in x (stand plan t p))
      → (x : ℕ) → has new x ≡ ((has taken x && not (has gone x)) || has come x) → has new x ≡ true → (v : ℕ) × (holds plan (set s t p) v x ≡ true)
  then_holder_at t p known gone come new is_gone is_come x replaced is =
      ⊎_elim
      (λ stays.
      let parts = and_parts (has taken x) (not (has gone x)) stays in
      let v = are.only x parts.0 in
      let other : v.0 ≢ t = λ same. false≢true (sym (not-true (has gone x) parts.1) ∙ is_gone x ∙ ap (λ u. holds plan s u x) (sym same) ∙ v.1) in
      (v.0, ap (λ q. is_in x (stand plan v.0 q)) (get_or-set_other s t v.0 p 0 other) ∙ v.1))
      (λ comes. (t, ap (λ q. is_in x (stand plan t q)) (get_or-set_same s t p 0 known) ∙ sym (is_come x) ∙ comes))
      (or_cases (has taken x && not (has gone x)) (has come x) (sym replaced ∙ is))

  -- after a train went to another place: what it gives free is taken away, and what it then holds is added
  pub taken_then : (t p : ℕ) → t < length s → (gone come new : List ℕ) → IsSet gone (λ x. is_in x (stand plan t (place_of s t))) → IsSet come (λ x. is_in x (stand plan t p))
      → ((x : ℕ) → has new x ≡ ((has taken x && not (has gone x)) || has come x)) → AreTaken plan (set s t p) new
  taken_then t p known gone come new is_gone is_come replaced =
      let next : List ℕ = set s t p in
      record {
        only = λ x is. then_holder_at t p known gone come new is_gone is_come x (replaced x) is;
        all = λ v x holder.
            replaced x
            ∙ ⊎_elim
            (λ same. or_right (has taken x && not (has gone x)) (has come x) (is_come x ∙ ap (λ q. is_in x (stand plan t q)) (sym (get_or-set_same s t p 0 known)) ∙ ap (λ u. holds plan next u x) (sym same) ∙ holder))
            (λ ne.
            let was : holds plan s v x ≡ true = ap (λ q. is_in x (stand plan v q)) (sym (get_or-set_other s t v p 0 ne)) ∙ holder in
            let kept : has gone x ≡ false = is_gone x ∙ ⊎_elim (λ own. absurd (one_holds plan s t v x state own was (λ same. ne (sym same)))) (λ out. out) (cases_Bool (is_in x (stand plan t (place_of s t)))) in
            or_left (has taken x && not (has gone x)) (has come x) (and_from (has taken x) (not (has gone x)) (are.all v x was) (not_from_false (has gone x) kept)))
            (cases_eq v t);
      }

-- each train stands at one of its places
pub place_within : (table : List MoveLists) (state : State) (t : ℕ) → IsMadeFor table state → t < length table → place_of state.positions t ≤ (moves_in table).moves t
place_within table state t made known =
    let parts = state_parts (moves_in table) state.positions made.valid in
    parts.within t (omega (arith, known, parts.long))

-- behind the sections that the moves need nobody holds one
pub free_behind : (table : List MoveLists) (state : State) (n : ℕ) → IsMadeFor table state → ((t i x : ℕ) → t < length table → is_in x ((moves_in table).claim t i) ≡ true → x < n) → IsFreeBehind n state.owners
free_behind table state n made narrow x behind = nobody (get_or state.owners x None) refl
  where
    nobody : (o : Option ℕ) → get_or state.owners x None ≡ o → o ≡ None
    nobody None at = refl
    nobody (Some u) at =
        let plan : Moves = moves_in table in
        let holder : holds plan state.positions u x ≡ true = (made.told x u).0 at in
        let known : u < length table = omega (arith, holder_listed plan state.positions u x holder, (state_parts plan state.positions made.valid).long) in
        let needed = stands_at plan u (place_of state.positions u) x made.moves.valid known holder in
        absurd (omega (arith, narrow u needed.0 x known needed.1, behind))

-- the set has what these trains hold, and nothing that no train holds
pub record HasTaken (plan : Moves) (s trains set : List ℕ) : Type 0 where
  pub wide : length set ≡ 8
  pub only : (x : ℕ) → has set x ≡ true → (v : ℕ) × (holds plan s v x ≡ true)
  pub all : (v x : ℕ) → is_in v trains ≡ true → holds plan s v x ≡ true → has set x ≡ true

-- with what one more train holds
pub taken_more : (plan : Moves) (s inside old new stands : List ℕ) (t p i : ℕ) → HasTaken plan s (take i inside) old → i < length inside → t ≡ get_or inside i t → p ≡ place_of s t
    → length new ≡ length old → ((x : ℕ) → has new x ≡ (has old x || has stands x)) → IsSet stands (λ x. is_in x (stand plan t p)) → HasTaken plan s (take (i + 1) inside) new
taken_more plan s inside old new stands t p i before lt is at long joined stood = record {
  wide = omega (arith, long, before.wide);
  only = λ x found.
      ⊎_elim
      (λ earlier. before.only x earlier)
      (λ here. (t, ap (λ q. is_in x (stand plan t q)) (sym at) ∙ sym (stood x) ∙ here))
      (or_cases (has old x) (has stands x) (sym (joined x) ∙ found));
  all = λ v x member holder.
      joined x
      ∙ ⊎_elim
      (λ earlier. or_left (has old x) (has stands x) (before.all v x earlier holder))
      (λ here. or_right (has old x) (has stands x) (stood x ∙ ap (λ q. is_in x (stand plan t q)) at ∙ ap (λ u. holds plan s u x) here ∙ holder))
      (in_take_more v t inside i lt is member);
}

-- a train that holds a section is inside
pub holder_inside : (plan : Moves) (s : List ℕ) (v x : ℕ) → holds plan s v x ≡ true → is_inside plan s v ≡ true
holder_inside plan s v x holder = by (place_of s v) refl holder
  where
    by : (p : ℕ) → place_of s v ≡ p → is_in x (stand plan v p) ≡ true → is_inside plan s v ≡ true
    by zero at is = absurd (false≢true is)
    by (suc m) at is =
        ⊎_elim
        (λ before. inside_from plan s v (omega (arith, at)) (omega (arith, at, before)))
        (λ past. absurd (false≢true (sym (ap (is_in x) (cond-false (ltb (suc m) (plan.moves v)) (plan.standing v m) [] (le-ltb (suc m) (plan.moves v) past))) ∙ is)))
        (cases_lt (suc m) (plan.moves v))

-- what the trains inside hold is all that is taken
pub all_taken : (table : List MoveLists) (state : State) → IsMadeFor table state → (inside : List ℕ) → IsListing (moves_in table) state.positions inside → (set : List ℕ) (n : ℕ) → length inside ≤ n
    → HasTaken (moves_in table) state.positions (take n inside) set → IsSet set (λ x. is_some (get_or state.owners x None))
all_taken table state made inside listed set n whole taken =
    let plan : Moves = moves_in table in
    let s = state.positions in
    owned_from table state made set (record {
      only = taken.only;
      all = λ v x holder. taken.all v x (in_take_all v inside n whole (listed.all v (holder_inside plan s v x holder))) holder;
    })
