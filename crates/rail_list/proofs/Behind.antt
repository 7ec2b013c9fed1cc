-- Safe moves: which of them are safe legs behind the next move of another train, too.
use Rattle.std.proofs.Common.{◌≡◌, ◌≢◌, ℕ, suc, ◌+◌, ◌-◌, ◌<◌, ◌≤◌, Bool, true, false, not, ◌&&◌, ◌||◌, ltb, leb, List, length, set, refl, sym, ap, ◌∙◌, subst, ⊎_elim, arith}
use Rattle.std.proofs.lemmas.Bool.{and_from, and_left, and_parts, and_right, cases_Bool, cases_eq, cases_lt, false≢true, le-leb, lt-leb, lt-ltb, not-true, not_from_false, or_left, or_right}
use Rattle.std.proofs.lemmas.List.{get_or-set_same, set-get_or}
use Rattle.rail_rules.specs.Numbers.{all_below, any_below, are_apart}
use Rattle.rail_rules.specs.Moves.{Moves, stand}
use Rattle.rail_rules.specs.Places.{after, is_inside, is_legal, place_of}
use Rattle.rail_rules.specs.Analysis.{Leg, is_leg, is_safe}
use Rattle.rail_rules.proofs.CallerLemmas.{all_below_from, any_below_at, any_below_none, state_parts}
use Rattle.rail_place.specs.PlaceStates.{IsMadeFor, State}
use Rattle.rail_place.specs.Tables.{moves_in, MoveLists}
use Rattle.rail_place.proofs.CallerLemmas.{legal_ahead, made_long}
use Rattle.rail_consequence.proofs.CallerLemmas.{clear_from_safe, core_leg, inside_from, inside_same, safe_from_clear, stand_out}
use Rattle.rail_consequence.specs.Cores.{IsCore}
use Rattle.rail_list.specs.Failures.{HasMoved, is_core_kept, is_safe_move}
use Rattle.rail_list.proofs.Beside.{legal_beside}
use Rattle.rail_list.proofs.Pulling.{after_comm, inside_kept, place_kept}

-- two answers are one where each is yes where the other is
both_ways : (a b : Bool) → (a ≡ true → b ≡ true) → (b ≡ true → a ≡ true) → a ≡ b
both_ways true b there back = sym (there refl)
both_ways false true there back = back refl
both_ways false false there back = refl

-- the next move of the train, as a leg
abbrev next : List ℕ → ℕ → Leg
next s t = record { train = t; place = suc (place_of s t) }

-- a legal move of a train that is inside is a leg
leg_of_move : (plan : Moves) (s : List ℕ) (t : ℕ) → is_inside plan s t ≡ true → is_legal plan s t ≡ true → is_leg plan s (next s t) ≡ true
leg_of_move plan s t inside legal =
    let p : ℕ = place_of s t in
    let ahead : p < plan.moves t = legal_ahead plan s t legal in
    let step : ℕ → Bool = λ i. ltb i p || is_legal plan (set s t i) t in
    and_from (is_inside plan s t && ltb p (suc p) && leb (suc p) (plan.moves t)) (all_below step (suc p))
    (and_from (is_inside plan s t && ltb p (suc p)) (leb (suc p) (plan.moves t))
    (and_from (is_inside plan s t) (ltb p (suc p)) inside (lt-ltb p (suc p) (omega arith)))
    (le-leb (suc p) (plan.moves t) (omega (arith, ahead))))
    (all_below_from step (suc p) (λ i below.
    ⊎_elim
    (λ earlier. or_left (ltb i p) (is_legal plan (set s t i) t) (lt-ltb i p earlier))
    (λ from.
    let same : i ≡ p = omega (arith, from, below) in
    let still : set s t i ≡ s = ap (set s t) same ∙ set-get_or s t 0 in
    or_right (ltb i p) (is_legal plan (set s t i) t) (ap (λ q. is_legal plan q t) still ∙ legal))
    (cases_lt i p)))

-- a safe move is a safe leg
leg_of_safe_move : (plan : Moves) (s : List ℕ) (t : ℕ) → is_safe_move plan s t ≡ true → (is_leg plan s (next s t) ≡ true) × (is_safe plan s (next s t) ≡ true)
leg_of_safe_move plan s t safe =
    let two = and_parts (is_inside plan s t && is_legal plan s t) (is_safe plan s (next s t)) safe in
    let one = and_parts (is_inside plan s t) (is_legal plan s t) two.0 in
    (leg_of_move plan s t one.0 one.1, two.1)

-- where the move is a safe leg also behind the next move of the waiting train, a core of which its train is one lasts
pub core_kept : (plan : Moves) (depth : ℕ) (s : List ℕ) (moved waiting : ℕ) (core : ℕ → Bool) → waiting ≢ moved → is_core_kept plan s moved waiting ≡ true
    → IsCore plan depth (after s waiting) core → IsCore plan depth (after (after s moved) waiting) core
core_kept plan depth s moved waiting core ne kept is =
    let safe = leg_of_safe_move plan (after s waiting) moved (and_parts (is_safe_move plan s moved) (is_safe_move plan (after s waiting) moved) kept).1 in
    let P : List ℕ → Type 0 = λ r. IsCore plan depth r core in
    subst P (after_comm s waiting moved ne) (core_leg plan depth (after s waiting) core (next (after s waiting) moved) safe.0 safe.1 is)

-- a leg is as safe where the other trains stand at the same places
safe_alike : (plan : Moves) (s r : List ℕ) (leg : Leg) → ((u : ℕ) → u ≢ leg.train → place_of r u ≡ place_of s u) → is_safe plan s leg ≡ true → is_safe plan r leg ≡ true
safe_alike plan s r leg same safe = safe_from_clear plan r leg (λ u i ne inside from below.
    clear_from_safe plan s leg safe u i ne (inside_same plan r s u (sym (same u ne)) inside) (omega (arith, from, same u ne)) below)

-- so it is safe behind the move exactly where it was before it
safe_moved : (plan : Moves) (s : List ℕ) (t p : ℕ) → is_safe plan (after s t) (record { train = t; place = p }) ≡ is_safe plan s (record { train = t; place = p })
safe_moved plan s t p =
    let leg : Leg = record { train = t; place = p } in
    both_ways (is_safe plan (after s t) leg) (is_safe plan s leg)
    (safe_alike plan (after s t) s leg (λ u ne. sym (place_kept s u t ne)))
    (safe_alike plan s (after s t) leg (λ u ne. place_kept s u t ne))

and_yes : (a b : Bool) → a ≡ true → (a && b) ≡ b
and_yes a b is = ap (λ c. c && b) is

-- a later legal move is a safe leg exactly where, seen from behind it, it ended safely
pub later_is_safe : (plan : Moves) (s : List ℕ) (t p : ℕ) → is_legal plan s t ≡ true → 0 < place_of s t → p ≡ suc (place_of s t)
    → is_safe plan (after s t) (record { train = t; place = p }) ≡ is_safe_move plan s t
later_is_safe plan s t p legal some at =
    let inside : is_inside plan s t ≡ true = inside_from plan s t some (legal_ahead plan s t legal) in
    safe_moved plan s t p
    ∙ ap (λ q. is_safe plan s (record { train = t; place = q })) at
    ∙ sym (and_yes (is_inside plan s t && is_legal plan s t) (is_safe plan s (next s t)) (and_from (is_inside plan s t) (is_legal plan s t) inside legal))

-- the train claims one of the sections for a move from its next place on
abbrev needs_from_next : Moves → List ℕ → ℕ → List ℕ → Bool
needs_from_next plan s t sections = any_below (λ i. leb (suc (place_of s t)) i && not (are_apart (plan.claim t i) sections)) (plan.moves t)

-- a leg that is safe is so behind the next move of another train exactly where that train then needs nothing of what it ends on
safe_behind : (plan : Moves) (s : List ℕ) (t : ℕ) (leg : Leg) → t < length s → t ≢ leg.train → is_safe plan s leg ≡ true
    → is_safe plan (after s t) leg ≡ not (needs_from_next plan s t (stand plan leg.train leg.place))
safe_behind plan s t leg lt ne safe =
    let q : ℕ = suc (place_of s t) in
    let r : List ℕ = after s t in
    let sections : List ℕ = stand plan leg.train leg.place in
    let test : ℕ → Bool = λ i. leb q i && not (are_apart (plan.claim t i) sections) in
    let there : place_of r t ≡ q = get_or-set_same s t q 0 lt in
    both_ways (is_safe plan r leg) (not (any_below test (plan.moves t)))
    (λ is. not_from_false (any_below test (plan.moves t)) (any_below_none test (plan.moves t) (λ i below.
    ⊎_elim
    (λ earlier. and_left (leb q i) (not (are_apart (plan.claim t i) sections)) (lt-leb q i earlier))
    (λ from. and_right (leb q i) (not (are_apart (plan.claim t i) sections))
    (ap not (clear_from_safe plan r leg is t i ne (inside_from plan r t (omega (arith, there)) (omega (arith, there, from, below))) (omega (arith, there, from)) below)))
    (cases_lt i q))))
    (λ unneeded. safe_from_clear plan r leg (λ v i not_leg inside from below.
    ⊎_elim
    (λ is_t.
    let from_q : q ≤ i = omega (arith, from, there, ap (place_of r) is_t) in
    let below_t : i < plan.moves t = omega (arith, below, ap plan.moves is_t) in
    let none : test i ≡ false = any_below_at test (plan.moves t) i (not-true (any_below test (plan.moves t)) unneeded) below_t in
    let apart : are_apart (plan.claim t i) sections ≡ true =
    ⊎_elim (λ yes. yes)
    (λ meets. absurd (false≢true (sym none ∙ and_from (leb q i) (not (are_apart (plan.claim t i) sections)) (le-leb q i from_q) (not_from_false (are_apart (plan.claim t i) sections) meets))))
    (cases_Bool (are_apart (plan.claim t i) sections)) in
    ap (λ w. are_apart (plan.claim w i) sections) is_t ∙ apart)
    (λ not_t.
    let same : place_of r v ≡ place_of s v = place_kept s v t not_t in
    clear_from_safe plan s leg safe v i not_leg (inside_same plan r s v (sym same) inside) (omega (arith, from, same)) below)
    (cases_eq v t)))

-- a safe move is one behind the next move of another train exactly where it needs nothing on which that one then stands, and that one needs nothing then of what it ends on
pub safe_move_behind : (plan : Moves) (s : List ℕ) (t u : ℕ) → t < length s → t ≢ u → is_safe_move plan s u ≡ true
    → is_safe_move plan (after s t) u
    ≡ (are_apart (stand plan t (suc (place_of s t))) (plan.claim u (place_of s u)) && not (needs_from_next plan s t (stand plan u (suc (place_of s u)))))
safe_move_behind plan s t u lt ne safe =
    let r : List ℕ = after s t in
    let other : u ≢ t = λ e. ne (sym e) in
    let two = and_parts (is_inside plan s u && is_legal plan s u) (is_safe plan s (next s u)) safe in
    let one = and_parts (is_inside plan s u) (is_legal plan s u) two.0 in
    let inside : is_inside plan r u ≡ true = inside_kept plan s u t other ∙ one.0 in
    let legs : is_safe plan r (next r u) ≡ is_safe plan r (next s u) = ap (λ p. is_safe plan r (record { train = u; place = suc p })) (place_kept s u t other) in
    ap (λ b. b && is_safe plan r (next r u)) (and_yes (is_inside plan r u) (is_legal plan r u) inside ∙ legal_beside plan s t u lt other one.1)
    ∙ ap (λ b. are_apart (stand plan t (suc (place_of s t))) (plan.claim u (place_of s u)) && b) (legs ∙ safe_behind plan s t (next s u) lt ne two.1)

-- and behind the next place of a train that is out
pub safe_move_out : (plan : Moves) (s : List ℕ) (t u : ℕ) → t < length s → t ≢ u → plan.moves t ≤ place_of s t → is_safe_move plan s u ≡ true → is_safe_move plan (after s t) u ≡ true
safe_move_out plan s t u lt ne out safe =
    let q : ℕ = suc (place_of s t) in
    let sections : List ℕ = stand plan u (suc (place_of s u)) in
    let test : ℕ → Bool = λ i. leb q i && not (are_apart (plan.claim t i) sections) in
    let none : any_below test (plan.moves t) ≡ false = any_below_none test (plan.moves t) (λ i below. and_left (leb q i) (not (are_apart (plan.claim t i) sections)) (lt-leb q i (omega (arith, below, out)))) in
    safe_move_behind plan s t u lt ne safe
    ∙ and_from (are_apart (stand plan t q) (plan.claim u (place_of s u))) (not (any_below test (plan.moves t)))
    (ap (λ xs. are_apart xs (plan.claim u (place_of s u))) (stand_out plan t q (omega (arith, out))))
    (not_from_false (any_below test (plan.moves t)) none)

-- a train that has moved is not outside
pub has_begun : (s r : List ℕ) (t : ℕ) → t < length s → r ≡ after s t → 0 < place_of r t
has_begun s r t lt there = omega (arith, ap (λ q. place_of q t) there, get_or-set_same s t (suc (place_of s t)) 0 lt)

not_not : (b : Bool) → not (not b) ≡ b
not_not true = refl
not_not false = refl

-- what is looked at where the train has moved: what the waiting one would stand on, and what it would need then
pub stays_where : (plan : Moves) (s r : List ℕ) (t u place end : ℕ) (standing sections : List ℕ) (one from : Bool)
    → HasMoved plan s u r → t < length s → u < length s → t ≢ u → is_safe_move plan s u ≡ true
    → place ≡ place_of r t → end ≡ place_of r u → standing ≡ stand plan t (place + 1) → sections ≡ stand plan u end
    → one ≡ not (are_apart standing (plan.claim u (end - 1)))
    → from ≡ any_below (λ i. leb (place + 1) i && not (are_apart (plan.claim t i) sections)) (plan.moves t)
    → (not one && not from) ≡ is_safe_move plan (after s t) u
stays_where plan s r t u place end standing sections one from came lt lt_u ne safe at ends stands ends_on one_is from_is =
    let q : ℕ = suc (place_of s t) in
    let next_t : place + 1 ≡ q = omega (arith, at, ap (λ w. place_of w t) came.0, place_kept s t u ne) in
    let end_is : end ≡ suc (place_of s u) = ends ∙ ap (λ w. place_of w u) came.0 ∙ get_or-set_same s u (suc (place_of s u)) 0 lt_u in
    let before : end - 1 ≡ place_of s u = omega (arith, end_is) in
    let standing_is : standing ≡ stand plan t q = stands ∙ ap (stand plan t) next_t in
    let apart : not one ≡ are_apart (stand plan t q) (plan.claim u (place_of s u)) =
    ap not one_is ∙ not_not (are_apart standing (plan.claim u (end - 1)))
    ∙ ap (λ xs. are_apart xs (plan.claim u (end - 1))) standing_is
    ∙ ap (λ p. are_apart (stand plan t q) (plan.claim u p)) before in
    let sections_are : sections ≡ stand plan u (suc (place_of s u)) = ends_on ∙ ap (stand plan u) end_is in
    let needs : not from ≡ not (needs_from_next plan s t (stand plan u (suc (place_of s u)))) =
    ap not (from_is
    ∙ ap (λ k. any_below (λ i. leb k i && not (are_apart (plan.claim t i) sections)) (plan.moves t)) next_t
    ∙ ap (λ xs. any_below (λ i. leb q i && not (are_apart (plan.claim t i) xs)) (plan.moves t)) sections_are) in
    ap (λ b. b && not from) apart
    ∙ ap (λ b. are_apart (stand plan t q) (plan.claim u (place_of s u)) && b) needs
    ∙ sym (safe_move_behind plan s t u lt ne safe)

-- no train stands past its last place
pub place_within : (table : List MoveLists) (now : State) (t : ℕ) → IsMadeFor table now → t < length table → place_of now.positions t ≤ (moves_in table).moves t
place_within table now t made lt = (state_parts (moves_in table) now.positions made.valid).within t (omega (arith, lt, made_long table now made))
