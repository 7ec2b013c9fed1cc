-- The moves of a leg, made at once.
use Rattle.std.proofs.Common.{◌≡◌, ◌≢◌, ℕ, zero, suc, ◌+◌, ◌<◌, ◌≤◌, true, List, length, replicate, set, sym, ap, ◌∙◌, subst, arith}
use Rattle.std.proofs.lemmas.List.{get_or-set_same, get_or-set_other, length-set, set-set, set-get_or}
use Rattle.rail_rules.specs.Numbers.{are_apart}
use Rattle.rail_rules.specs.Moves.{Moves, is_valid, stand}
use Rattle.rail_rules.specs.Places.{place_of, is_legal, is_valid_state}
use Rattle.rail_rules.specs.Analysis.{is_leg}
use Rattle.rail_place.specs.Plays.{IsPlayed}
use Rattle.rail_place.proofs.CallerLemmas.{state_apart}
use Rattle.rail_consequence.proofs.Legs.{goes_parts, inside_from, inside_listed, inside_parts}
use Rattle.rail_consequence.proofs.Played.{played_valid}

-- so many legal moves of a train, one after the other
moves_played : (plan : Moves) (t k : ℕ) (s : List ℕ) → t < length s → 0 < place_of s t → place_of s t + k ≤ plan.moves t
    → ((i : ℕ) → place_of s t ≤ i → i < place_of s t + k → is_legal plan (set s t i) t ≡ true)
    → IsPlayed plan s (replicate k t) (set s t (place_of s t + k))
moves_played plan t zero s lt low within legal = sym (ap (set s t) (omega arith) ∙ set-get_or s t 0)
moves_played plan t (suc k) s lt low within legal =
    let p : ℕ = place_of s t in
    let r : List ℕ = set s t (suc p) in
    let there : place_of r t ≡ suc p = get_or-set_same s t (suc p) 0 lt in
    let end : set r t (place_of r t + k) ≡ set s t (p + suc k) = set-set s t (suc p) (place_of r t + k) ∙ ap (set s t) (omega (arith, there)) in
    let P : List ℕ → Type 0 = λ q. IsPlayed plan r (replicate k t) q in (
      inside_from plan s t low (omega (arith, within)),
      ap (λ q. is_legal plan q t) (sym (set-get_or s t 0)) ∙ legal p (omega arith) (omega arith),
      subst P end
          (moves_played plan t k r (omega (arith, length-set s t (suc p), lt)) (omega (arith, there)) (omega (arith, there, within))
          (λ i from below. ap (λ q. is_legal plan q t) (set-set s t (suc p) i) ∙ legal i (omega (arith, there, from)) (omega (arith, there, below)))),
    )

-- the moves of a leg
pub leg_played : (plan : Moves) (s : List ℕ) (t p k : ℕ) → is_leg plan s (record { train = t; place = p }) ≡ true → place_of s t + k ≡ p → IsPlayed plan s (replicate k t) (set s t p)
leg_played plan s t p k is at =
    let goes = goes_parts plan s (record { train = t; place = p }) is in
    let P : ℕ → Type 0 = λ q. IsPlayed plan s (replicate k t) (set s t q) in
    subst P at (moves_played plan t k s (inside_listed plan s t goes.inside) (inside_parts plan s t goes.inside).0 (omega (arith, at, goes.within)) (λ i from below. goes.legal i from (omega (arith, at, below))))

-- at its end no other train holds a section on which the train stands
pub leg_free : (plan : Moves) (s : List ℕ) (t p k : ℕ) → is_valid plan ≡ true → is_valid_state plan s ≡ true → is_leg plan s (record { train = t; place = p }) ≡ true → place_of s t + k ≡ p
    → (u : ℕ) → u ≢ t → are_apart (stand plan t p) (stand plan u (place_of s u)) ≡ true
leg_free plan s t p k valid state is at u ne =
    let r : List ℕ = set s t p in
    let lt : t < length s = inside_listed plan s t (goes_parts plan s (record { train = t; place = p }) is).inside in
    let later : is_valid_state plan r ≡ true = played_valid plan s (replicate k t) r valid state (leg_played plan s t p k is at) in
    ap (λ q. are_apart (stand plan t q) (stand plan u (place_of s u))) (sym (get_or-set_same s t p 0 lt))
    ∙ ap (λ q. are_apart (stand plan t (place_of r t)) (stand plan u q)) (sym (get_or-set_other s t u p 0 ne))
    ∙ state_apart plan r t u later (omega (arith, length-set s t p, lt)) ne
