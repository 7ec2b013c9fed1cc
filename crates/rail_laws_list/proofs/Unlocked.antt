-- Where a list completes no trains lock each other: none of them can make the next move of the list, so all of them are inside at its end.
use Rattle.std.proofs.Common.{◌≡◌, ℕ, suc, ◌<◌, Bool, true, false, not, ◌&&◌, ltb, List, [], ◌∷◌, length, sym, ◌∙◌, subst, ⊎_elim, arith}
use Rattle.std.specs.List.{list_any}
use Rattle.std.proofs.lemmas.Bool.{and_parts, cases_Bool, cases_lt, false≢true, ltb-true, not-true}
use Rattle.std.proofs.lemmas.List.{get_or-set_other, get_or_past}
use Rattle.rail_rules.specs.Numbers.{is_in}
use Rattle.rail_rules.specs.Moves.{Moves, stand}
use Rattle.rail_rules.specs.Places.{place_of, is_inside, holds, has_holder, is_legal, after, completes}
use Rattle.rail_rules.proofs.CallerLemmas.{any_below_at, any_below_from, list_any_at}
use Rattle.rail_laws_list.specs.Locked.{IsHeldUp, AreLocked}

-- a train inside is listed
pub inside_listed : (plan : Moves) (s : List ℕ) (t : ℕ) → is_inside plan s t ≡ true → t < length s
inside_listed plan s t inside =
    let parts = and_parts (ltb 0 (place_of s t)) (ltb (place_of s t) (plan.moves t)) inside in
    ⊎_elim (λ lt. lt) (λ past. absurd (omega (arith, ltb-true 0 (place_of s t) parts.0, get_or_past s t 0 past))) (cases_lt t (length s))

-- a train that is held up by one inside can't move
held_up_stays : (plan : Moves) (s : List ℕ) (among : ℕ → Bool) (t : ℕ) → AreLocked plan s among → among t ≡ true → is_legal plan s t ≡ true → ⊥
held_up_stays plan s among t locked is legal =
    let held = locked.held_up t is in
    let parts = and_parts (ltb (place_of s t) (plan.moves t)) (not (list_any (has_holder plan s) (plan.claim t (place_of s t)))) legal in
    let free = list_any_at (has_holder plan s) (plan.claim t (place_of s t)) held.section (not-true (list_any (has_holder plan s) (plan.claim t (place_of s t))) parts.1) held.claims in
    let listed = inside_listed plan s held.holder (locked.inside held.holder held.is_one) in
    false≢true (sym free ∙ any_below_from (λ u. holds plan s u held.section) (length s) held.holder listed held.held)

-- and so they lock each other after a move of another
still_locked : (plan : Moves) (s : List ℕ) (among : ℕ → Bool) (u : ℕ) → AreLocked plan s among → among u ≡ false → AreLocked plan (after s u) among
still_locked plan s among u locked out =
    let other : (t : ℕ) → among t ≡ true → t ≡ u → ⊥ = λ t is same. false≢true (sym out ∙ (let P : ℕ → Type 0 = λ k. among k ≡ true in subst P same is)) in
    let kept : (t : ℕ) → among t ≡ true → place_of (after s u) t ≡ place_of s t = λ t is. get_or-set_other s u t (suc (place_of s u)) 0 (other t is) in
    record {
      inside = λ t is. (let P : ℕ → Type 0 = λ p. (ltb 0 p && ltb p (plan.moves t)) ≡ true in subst P (sym (kept t is)) (locked.inside t is));
      held_up = λ t is. (
          let held : IsHeldUp plan s among t = locked.held_up t is in
          let P : ℕ → Type 0 = λ p. is_in held.section (plan.claim t p) ≡ true in
          let Q : ℕ → Type 0 = λ p. is_in held.section (stand plan held.holder p) ≡ true in
          let result : IsHeldUp plan (after s u) among t = record {
            section = held.section;
            holder = held.holder;
            claims = subst P (sym (kept t is)) held.claims;
            is_one = held.is_one;
            held = subst Q (sym (kept held.holder held.is_one)) held.held;
          } in
          result
          );
    }

none_of_them : (plan : Moves) (list s : List ℕ) → completes plan s list ≡ true → (among : ℕ → Bool) → AreLocked plan s among → (t : ℕ) → among t ≡ true → ⊥
none_of_them plan [] s done among locked t is =
    let inside = locked.inside t is in
    false≢true (sym (any_below_at (is_inside plan s) (length s) t (not-true _ done) (inside_listed plan s t inside)) ∙ inside)
none_of_them plan (u ∷ rest) s done among locked t is =
    let parts = and_parts (is_inside plan s u && is_legal plan s u) (completes plan (after s u) rest) done in
    let first = and_parts (is_inside plan s u) (is_legal plan s u) parts.0 in
    ⊎_elim
    (λ one. held_up_stays plan s among u locked one first.1)
    (λ out. none_of_them plan rest (after s u) parts.1 among (still_locked plan s among u locked out) t is)
    (cases_Bool (among u))

pub none_locked : (plan : Moves) (s list : List ℕ) → completes plan s list ≡ true → (among : ℕ → Bool) → AreLocked plan s among → (t : ℕ) → among t ≡ false
none_locked plan s list done among locked t =
    ⊎_elim (λ one. absurd (none_of_them plan list s done among locked t one)) (λ out. out) (cases_Bool (among t))
