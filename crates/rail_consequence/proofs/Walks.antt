-- Legs and searches that lead back to where they began, and what they find.
use Rattle.std.proofs.Common.{◌≡◌, ◌↔◌, ℕ, ◌+◌, ◌-◌, ◌<◌, ◌≤◌, Bool, true, false, not, ◌&&◌, eqb, List, [], ◌∷◌, length, set, sym, ap, ◌∙◌, subst, ⊎_elim, arith}
use Rattle.std.proofs.lemmas.Bool.{and_parts, cases_eq, cases_lt, cases_Bool, false≢true, ne_eqb}
use Rattle.std.proofs.lemmas.List.{get_or_past, append-nil}
use Rattle.rail_rules.specs.Moves.{Moves}
use Rattle.rail_rules.specs.Places.{place_of, nobody_inside}
use Rattle.rail_rules.specs.Analysis.{Leg, is_leg, after_leg, is_safe, clears, free_legs, Finds, moves_left}
use Rattle.rail_rules.proofs.CallerLemmas.{state_parts}
use Rattle.rail_place.specs.Tables.{moves_in, MoveLists}
use Rattle.rail_sets.specs.TrainSets.{has_train}
use Rattle.rail_sets.specs.declared.train_set.TrainSet.{TrainSet}
use Rattle.rail_consequence.specs.Searches.{IsCleared}
use Rattle.rail_consequence.specs.Workspace.{Work, IsReady, GoesOn, IsBack}
use Rattle.rail_consequence.proofs.Safe.{safe_leg_keeps, found_front, cost, cost-safe, cost-free, free_legs-cons}

pub finds_at : (plan : Moves) (k : ℕ) (s r : List ℕ) → s ≡ r → Finds plan k s → Finds plan k r
finds_at plan k s r same found = let P : List ℕ → Type 0 = λ q. Finds plan k q in subst P same found

-- the same of a leg that was made at once
pub leg_finds : (plan : Moves) (k : ℕ) (s r : List ℕ) (leg : Leg) → is_leg plan s leg ≡ true → is_safe plan s leg ≡ true → r ≡ after_leg s leg → Finds plan k s ↔ Finds plan k r
leg_finds plan k s r leg is safe at = (
  λ found. finds_at plan k (after_leg s leg) r (sym at) (safe_leg_keeps plan k s leg is safe found),
  λ found. found_front plan k k s leg is (omega (arith, cost-safe plan s leg safe)) (finds_at plan k r (after_leg s leg) at found),
)

pub cost_most : (plan : Moves) (s : List ℕ) (leg : Leg) → cost plan s leg ≤ 1
cost_most plan s leg =
    ⊎_elim
    (λ safe. omega (arith, cost-safe plan s leg safe))
    (λ unsafe. omega (arith, cost-free plan s leg unsafe))
    (cases_Bool (is_safe plan s leg))

pub goes_back : (plan : Moves) (a c : Work) → IsBack a c → GoesOn plan a c
goes_back plan a c back = record { more = []; list = back.list ∙ sym (append-nil a.list); played = sym back.positions }

-- a search goes on, whether it finds a list or not
pub goes_searched : (plan : Moves) (depth : ℕ) (b d : Work) (found : Bool) → (found ≡ true → IsCleared plan depth b d) → (found ≡ false → IsBack b d × (Finds plan depth b.places.positions → ⊥)) → GoesOn plan b d
goes_searched plan depth b d found cleared none = ⊎_elim (λ yes. (cleared yes).0) (λ no. goes_back plan b d (none no).0) (cases_Bool found)

pub within_at : (table : List MoveLists) (w : Work) (t : ℕ) → IsReady table w → place_of w.places.positions t ≤ (moves_in table).moves t
within_at table w t ready =
    ⊎_elim
    (λ lt. (state_parts (moves_in table) w.places.positions ready.made.valid).within t lt)
    (λ past. omega (arith, get_or_past w.places.positions t 0 past))
    (cases_lt t (length w.places.positions))

first_leg : (plan : Moves) (k : ℕ) (s : List ℕ) → nobody_inside plan s ≡ false
    → ((leg : Leg) → is_leg plan s leg ≡ true → is_safe plan s leg ≡ false) → (legs : List Leg)
    → clears plan s legs ≡ true → free_legs plan s legs ≤ k
    → (leg : Leg) × (is_leg plan s leg ≡ true) × (0 < k) × Finds plan (k - 1) (after_leg s leg)
first_leg plan k s inside unsafe [] clear free = absurd (false≢true (sym inside ∙ clear))
first_leg plan k s inside unsafe (leg ∷ legs) clear free =
    let both = and_parts (is_leg plan s leg) (clears plan (after_leg s leg) legs) clear in
    let counted : cost plan s leg + free_legs plan (after_leg s leg) legs ≤ k = rw (← free_legs-cons plan s leg legs) free in
    let one : cost plan s leg ≡ 1 = cost-free plan s leg (unsafe leg both.0) in
    let rest : Finds plan (k - 1) (after_leg s leg) = (legs, both.1, omega (arith, counted, one)) in
    (leg, both.0, omega (arith, counted, one), rest)

-- free legs alone are left: what is found begins with one of them
pub found_by_free : (plan : Moves) (k : ℕ) (s : List ℕ) → nobody_inside plan s ≡ false → ((leg : Leg) → is_leg plan s leg ≡ true → is_safe plan s leg ≡ false) → Finds plan k s → (leg : Leg) × (is_leg plan s leg ≡ true) × (0 < k) × Finds plan (k - 1) (after_leg s leg)
found_by_free plan k s inside unsafe found = first_leg plan k s inside unsafe found.0 found.1 found.2

pub false_both : (b go : Bool) → ((b ≡ true) ↔ (go ≡ true)) → b ≡ false → go ≡ false
false_both b go both out = ⊎_elim (λ is. absurd (false≢true (sym out ∙ both.1 is))) (λ no. no) (cases_Bool go)

pub left_back : (plan : Moves) (a c : Work) → IsBack a c → moves_left plan c.places.positions ≡ moves_left plan a.places.positions
left_back plan a c back = ap (moves_left plan) back.positions

pub back_twice : (a b c : Work) → IsBack a b → IsBack b c → IsBack a c
back_twice a b c first later = record { list = later.list ∙ first.list; positions = later.positions ∙ first.positions }

pub both_ways : (plan : Moves) (a b c : List ℕ) → ((k : ℕ) → Finds plan k a ↔ Finds plan k b) → ((k : ℕ) → Finds plan k b ↔ Finds plan k c) → (k : ℕ) → Finds plan k a ↔ Finds plan k c
both_ways plan a b c first later k = (λ found. (later k).0 ((first k).0 found), λ found. (first k).1 ((later k).1 found))

pub found_nobody : (plan : Moves) (k : ℕ) (s : List ℕ) → nobody_inside plan s ≡ true → Finds plan k s
found_nobody plan k s nobody = ([], nobody, omega arith)

-- the legs of one train more were tried, which was taken out of the set of those that are left
pub tried_more : (plan : Moves) (k : ℕ) (a b : List ℕ) (n : ℕ) (left fewer : TrainSet) → b ≡ a
    → ((t : ℕ) → has_train fewer t ≡ (not (eqb t n) && has_train left t))
    → ((u p : ℕ) → has_train left u ≡ false → is_leg plan a (record { train = u; place = p }) ≡ true
    → Finds plan k (set a u p) → ⊥)
    → ((p : ℕ) → is_leg plan b (record { train = n; place = p }) ≡ true → Finds plan k (set b n p) → ⊥)
    → (u p : ℕ) → has_train fewer u ≡ false
    → is_leg plan a (record { train = u; place = p }) ≡ true → Finds plan k (set a u p) → ⊥
tried_more plan k a b n left fewer same taken before here u p off is found =
    let leg_of : ℕ → Leg = λ v. record { train = v; place = p } in
    ⊎_elim
    (λ last.
    here p (ap (λ s. is_leg plan s (leg_of n)) same ∙ ap (λ v. is_leg plan a (leg_of v)) (sym last) ∙ is)
    (finds_at plan k (set a u p) (set b n p) (ap (λ v. set a v p) last ∙ ap (λ s. set s n p) (sym same)) found))
    (λ ne. before u p (sym (ap (λ b. not b && has_train left u) (ne_eqb u n ne)) ∙ sym (taken u) ∙ off) is found)
    (cases_eq u n)
