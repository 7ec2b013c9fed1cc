-- Stopped trains have no safe leg, and which moves of others leave them so.
use Rattle.std.proofs.Common.{◌≡◌, ◌≢◌, ℕ, zero, suc, ◌+◌, ◌<◌, ◌≤◌, true, false, not, ◌&&◌, eqb, ltb, List, length, set, sym, ap, ◌∙◌, subst, ⊎_elim, arith}
use Rattle.std.proofs.lemmas.Bool.{and_parts, and_from, cases_Bool, cases_eq, cases_lt, false≢true, lt-ltb, eq-eqb, or_left, not-true, not_from_false}
use Rattle.std.proofs.lemmas.List.{get_or-set_same, get_or-set_other, length-set}
use Rattle.std.specs.List.{list_any}
use Rattle.rail_rules.specs.Numbers.{any_below, is_in, are_apart, sum_below}
use Rattle.rail_rules.specs.Moves.{Moves, stand, is_valid}
use Rattle.rail_rules.specs.Places.{place_of, is_inside, is_legal, has_holder, holds, is_valid_state}
use Rattle.rail_rules.specs.Analysis.{is_leg, is_safe, needs_later}
use Rattle.rail_rules.proofs.CallerLemmas.{any_below_at, any_below_none, list_any_at, list_any_none, apart_at, apart_from, state_parts, stand_needed}
use Rattle.rail_place.proofs.CallerLemmas.{holder_listed, state_apart, move_valid}
use Rattle.rail_consequence.specs.Needs.{needs_left, one_if}
use Rattle.rail_consequence.specs.Stops.{IsBehind, IsTakenByOther, IsStopped}
use Rattle.rail_consequence.specs.Cores.{IsClear}
use Rattle.rail_consequence.proofs.Legs.{goes_parts, leg_from, inside_parts, inside_from, inside_listed}
use Rattle.rail_consequence.proofs.Safe.{safe_from_clear, clear_from_safe}
use Rattle.rail_consequence.proofs.Counts.{left_at, one_false, one_true}
use Rattle.rail_consequence.proofs.Clear.{none_from_clear, sum_alone}

-- no leg leads over a move that needs a section which another train holds
pub leg_short : (plan : Moves) (s : List ℕ) (t x q p : ℕ) → place_of s t ≤ q → is_in x (plan.claim t q) ≡ true → IsTakenByOther plan s t x → is_leg plan s (record { train = t; place = p }) ≡ true → p ≤ q
leg_short plan s t x q p from needed taken is =
    let goes = goes_parts plan s (record { train = t; place = p }) is in
    let r : List ℕ = set s t q in
    ⊎_elim
    (λ further.
    let at : place_of r t ≡ q = get_or-set_same s t q 0 (inside_listed plan s t goes.inside) in
    let free = not-true (list_any (has_holder plan r) (plan.claim t (place_of r t))) (and_parts (ltb (place_of r t) (plan.moves t)) (not (list_any (has_holder plan r) (plan.claim t (place_of r t)))) (goes.legal q from further)).1 in
    let here : has_holder plan r x ≡ false = list_any_at (has_holder plan r) (plan.claim t q) x (ap (λ k. list_any (has_holder plan r) (plan.claim t k)) (sym at) ∙ free) needed in
    let v : ℕ = taken.holder in
    let same : holds plan r v x ≡ true = ap (λ k. is_in x (stand plan v k)) (get_or-set_other s t v q 0 taken.other) ∙ taken.taken in
    absurd (false≢true (sym (any_below_at (λ w. holds plan r w x) (length r) v here (holder_listed plan r v x same)) ∙ same)))
    (λ within. within)
    (cases_lt q p)

-- a stopped train has no safe leg
pub stopped_unsafe : (plan : Moves) (s : List ℕ) (u x p : ℕ) → IsStopped plan s u x → is_leg plan s (record { train = u; place = p }) ≡ true → is_safe plan s (record { train = u; place = p }) ≡ false
stopped_unsafe plan s u x p stop is =
    stop.unsafe p (goes_parts plan s (record { train = u; place = p }) is).ahead (leg_short plan s u x stop.place p stop.from stop.needed stop.taken is)

-- a move is legal, with the train there and all others standing, where no other train holds a section that it needs
pub free_legal : (plan : Moves) (s : List ℕ) (t i : ℕ) → is_valid plan ≡ true → t < plan.trains → t < length s → 0 < i → i < plan.moves t → ((x : ℕ) → is_in x (plan.claim t i) ≡ true → IsTakenByOther plan s t x → ⊥) → is_legal plan (set s t i) t ≡ true
free_legal plan s t zero valid known listed low high free = absurd (omega arith)
free_legal plan s t (suc m) valid known listed low high free =
    let i : ℕ = suc m in
    let r : List ℕ = set s t i in
    let at : place_of r t ≡ i = get_or-set_same s t i 0 listed in
    let apart : are_apart (plan.claim t i) (stand plan t i) ≡ true = (and_parts _ (are_apart (plan.claim t i) (stand plan t i)) (move_valid plan t m valid known high)).1 in
    let none : list_any (has_holder plan r) (plan.claim t i) ≡ false = list_any_none (has_holder plan r) (plan.claim t i) (λ x needed.
    any_below_none (λ w. holds plan r w x) (length r) (λ w lt.
    ⊎_elim
    (λ same. ap (λ k. holds plan r k x) same ∙ ap (λ k. is_in x (stand plan t k)) at ∙ apart_at (plan.claim t i) (stand plan t i) x apart needed)
    (λ ne.
    ⊎_elim
    (λ taken. absurd (free x needed (record { holder = w; other = ne; taken = ap (λ k. is_in x (stand plan w k)) (sym (get_or-set_other s t w i 0 ne)) ∙ taken })))
    (λ out. out)
    (cases_Bool (holds plan r w x)))
    (cases_eq w t))) in
    and_from (ltb (place_of r t) (plan.moves t)) (not (list_any (has_holder plan r) (plan.claim t (place_of r t))))
    (ap (λ k. ltb k (plan.moves t)) at ∙ lt-ltb i (plan.moves t) high)
    (not_from_false (list_any (has_holder plan r) (plan.claim t (place_of r t))) (ap (λ k. list_any (has_holder plan r) (plan.claim t k)) at ∙ none))

-- a train does not stand on what its next move needs
pub claim_apart : (plan : Moves) (s : List ℕ) (t x : ℕ) → is_valid plan ≡ true → t < plan.trains → is_inside plan s t ≡ true → is_in x (plan.claim t (place_of s t)) ≡ true → is_in x (stand plan t (place_of s t)) ≡ false
claim_apart plan s t x valid known inside needed =
    let parts = inside_parts plan s t inside in
    at_place (place_of s t) parts.0 parts.1 needed
  where
    at_place : (i : ℕ) → 0 < i → i < plan.moves t → is_in x (plan.claim t i) ≡ true → is_in x (stand plan t i) ≡ false
    at_place zero low high needed = absurd (omega arith)
    at_place (suc m) low high needed = apart_at (plan.claim t (suc m)) (stand plan t (suc m)) x (and_parts _ (are_apart (plan.claim t (suc m)) (stand plan t (suc m))) (move_valid plan t m valid known high)).1 needed

-- the moves of the train up to the place are free: no other train holds a section that they need
abbrev pub IsOpen : Moves → List ℕ → ℕ → ℕ → Type 0
IsOpen plan s t made = (i : ℕ) → place_of s t ≤ i → i < made → (x : ℕ) → is_in x (plan.claim t i) ≡ true → IsTakenByOther plan s t x → ⊥

-- one more move that is free
pub open_more : (plan : Moves) (s : List ℕ) (t made : ℕ) → IsOpen plan s t made → ((x : ℕ) → is_in x (plan.claim t made) ≡ true → IsTakenByOther plan s t x → ⊥) → IsOpen plan s t (made + 1)
open_more plan s t made before free = λ i at lt.
    ⊎_elim
    (λ earlier. before i at earlier)
    (λ ge. let last : i ≡ made = omega arith in let P : ℕ → Type 0 = λ k. (x : ℕ) → is_in x (plan.claim t k) ≡ true → IsTakenByOther plan s t x → ⊥ in subst P (sym last) free)
    (cases_lt i made)

-- a leg over moves that are free
pub open_leads : (plan : Moves) (s : List ℕ) (t made : ℕ) → is_valid plan ≡ true → t < plan.trains
    → t < length s → 0 < place_of s t → place_of s t ≤ made → made < plan.moves t → IsOpen plan s t (made + 1)
    → is_leg plan s (record { train = t; place = made + 1 }) ≡ true
open_leads plan s t made valid known listed low from below free =
    leg_from plan s (record { train = t; place = made + 1 }) (record {
      inside = inside_from plan s t low (omega arith);
      ahead = omega arith;
      within = omega arith;
      legal = λ i at lt. free_legal plan s t i valid known listed (omega arith) (omega arith) (free i at (omega arith));
    })

-- and to each place on the way
pub free_leads : (plan : Moves) (s : List ℕ) (t place : ℕ) → is_valid plan ≡ true → t < plan.trains → t < length s → 0 < place_of s t → place_of s t < place → place ≤ plan.moves t → IsOpen plan s t place
    → is_leg plan s (record { train = t; place = place }) ≡ true
free_leads plan s t zero valid known listed low ahead within free = absurd (omega arith)
free_leads plan s t (suc m) valid known listed low ahead within free =
    let same : m + 1 ≡ suc m = omega arith in
    let P : ℕ → Type 0 = λ n. IsOpen plan s t n in
    ap (λ n. is_leg plan s (record { train = t; place = n })) (sym same) ∙ open_leads plan s t m valid known listed low (omega arith) (omega (arith, within)) (subst P (sym same) free)

-- out, over moves that are all free
pub leads_out_free : (plan : Moves) (s : List ℕ) (t last : ℕ) → is_valid plan ≡ true → t < plan.trains → t < length s → 0 < place_of s t → place_of s t < last → last ≡ plan.moves t → IsOpen plan s t last
    → (is_leg plan s (record { train = t; place = last }) ≡ true) × (is_safe plan s (record { train = t; place = last }) ≡ true)
leads_out_free plan s t last valid known listed low ahead out free = (
  free_leads plan s t last valid known listed low ahead (omega (arith, out)) free,
  or_left (eqb last (plan.moves t)) (not (any_below (λ u. not (eqb u t) && needs_later plan s (stand plan t last) u) (length s))) (eq-eqb last (plan.moves t) out),
)

-- a train is stopped where its next move needs what another train holds
pub next_stopped : (plan : Moves) (s : List ℕ) (u x : ℕ) → is_inside plan s u ≡ true → is_in x (plan.claim u (place_of s u)) ≡ true → IsTakenByOther plan s u x → IsStopped plan s u x
next_stopped plan s u x inside needed taken = record {
  inside = inside;
  place = place_of s u;
  from = omega arith;
  below = (inside_parts plan s u inside).1;
  needed = needed;
  taken = taken;
  unsafe = λ p low high. absurd (omega (arith, low, high));
}

-- or where a later one does, and no leg up to there is safe
pub later_stopped : (plan : Moves) (s : List ℕ) (u x : ℕ) → is_inside plan s u ≡ true → IsBehind plan s u x → IsTakenByOther plan s u x → IsStopped plan s u x
later_stopped plan s u x inside behind taken = record {
  inside = inside;
  place = behind.place;
  from = behind.from;
  below = behind.below;
  needed = behind.needed;
  taken = taken;
  unsafe = behind.unsafe;
}

-- another train went on: a section that it needed for that, and needs no more, is not left to the stopped train alone
abbrev pub IsPassed : Moves → List ℕ → ℕ → ℕ → ℕ → Type 0
IsPassed plan r t u from = (i x : ℕ) → from ≤ i → i < place_of r t → i < plan.moves t → is_in x (plan.claim t i) ≡ true → needs_left plan t (place_of r t) x ≡ false
    → sum_below (λ v. one_if (needs_left plan v (place_of r v) x)) (length r) ≡ 1 → needs_left plan u (place_of r u) x ≡ false

module _ (plan : Moves) (s : List ℕ) (t to u : ℕ) (valid : is_valid plan ≡ true) (state : is_valid_state plan s ≡ true) (was_inside : is_inside plan s t ≡ true) (gone : place_of s t < to) (ne : u ≢ t) where
  abbrev next : List ℕ
  next = set s t to

  listed : t < length s
  listed = inside_listed plan s t was_inside

  here : place_of next t ≡ to
  here = get_or-set_same s t to 0 listed

  there : (v : ℕ) → v ≢ t → place_of next v ≡ place_of s v
  there v other = get_or-set_other s t v to 0 other

  -- a section that stopped a train and is taken is taken by another
  taken_still : (x v : ℕ) → u < length s → IsStopped plan s u x → holds plan next v x ≡ true → IsTakenByOther plan next u x
  taken_still x v known stop taken = record {
    holder = v;
    other = λ same.
        let own : holds plan s u x ≡ true = ap (λ k. is_in x (stand plan u k)) (sym (there u ne)) ∙ ap (λ w. holds plan next w x) (sym same) ∙ taken in
        let apart = state_apart plan s u stop.taken.holder state known stop.taken.other in
        false≢true (sym (apart_at (stand plan u (place_of s u)) (stand plan stop.taken.holder (place_of s stop.taken.holder)) x apart own) ∙ stop.taken.taken);
    taken = taken;
  }

  -- so a train that it stops at its next move is still stopped
  pub stopped_next : (x v : ℕ) → u < length s → IsStopped plan s u x → holds plan next v x ≡ true → is_in x (plan.claim u (place_of next u)) ≡ true → IsStopped plan next u x
  stopped_next x v known stop taken needed =
      let parts = inside_parts plan s u stop.inside in
      let at : place_of next u ≡ place_of s u = there u ne in
      record {
        inside = inside_from plan next u (omega (arith, at, parts.0)) (omega (arith, at, parts.1));
        place = place_of next u;
        from = omega arith;
        below = omega (arith, at, parts.1);
        needed = needed;
        taken = taken_still x v known stop taken;
        unsafe = λ p low high. absurd (omega (arith, low, high));
      }

  module _ (passed : IsPassed plan next t u (place_of s t)) where
    -- where the moves that were made needed a section of a stop, and nobody else does, the train itself does not
    gap : (p i x : ℕ) → u < length s → place_of s u < p → p < plan.moves u → 0 < place_of s u → is_in x (stand plan u p) ≡ true → IsClear plan next u (stand plan u p) → place_of s t ≤ i → i < to → i < plan.moves t → is_in x (plan.claim t i) ≡ true → ⊥
    gap zero i x known ahead inner entered in_stand clear from below within needed = omega arith
    gap (suc m) i x known ahead inner entered in_stand clear from below within needed =
        let listed_next : (v : ℕ) → v < length s → v < length next = λ v lt. omega (arith, lt, length-set s t to) in
        let none = none_from_clear plan next u (stand plan u (suc m)) clear in
        let gone : needs_left plan t (place_of next t) x ≡ false = none x t in_stand (listed_next t listed) (λ e. ne (sym e)) in
        let alone = sum_alone (λ v. one_if (needs_left plan v (place_of next v) x)) (length next) u (listed_next u known) (λ v lt other. one_false (needs_left plan v (place_of next v) x) (none x v in_stand lt other)) in
        let in_need : is_in x (plan.claim u m) ≡ true = stand_needed plan u m x valid (omega (arith, known, (state_parts plan s state).long)) in_stand in
        let at : place_of next u ≡ place_of s u = there u ne in
        let some : needs_left plan u (place_of next u) x ≡ true = left_at plan u (place_of next u) x m (omega (arith, at, entered)) (omega (arith, at, ahead)) (omega arith) in_need in
        let one : sum_below (λ v. one_if (needs_left plan v (place_of next v) x)) (length next) ≡ 1 = alone ∙ one_true (needs_left plan u (place_of next u) x) some in
        false≢true (sym (passed i x from (omega (arith, here)) within needed gone one) ∙ some)

    clear_before : (p : ℕ) → u < length s → place_of s u < p → p < plan.moves u → 0 < place_of s u → IsClear plan next u (stand plan u p) → IsClear plan s u (stand plan u p)
    clear_before p known ahead inner entered clear v i other inside from below =
        ⊎_elim
        (λ same.
        let at_t : place_of s t ≤ i = omega (arith, ap (place_of s) same, from) in
        let below_t : i < plan.moves t = omega (arith, ap plan.moves same, below) in
        let apart : are_apart (plan.claim t i) (stand plan u p) ≡ true =
        ⊎_elim
        (λ made.
        apart_from (plan.claim t i) (stand plan u p) (λ x needed.
        ⊎_elim
        (λ in_stand. absurd (gap p i x known ahead inner entered in_stand clear at_t made below_t needed))
        (λ out. out)
        (cases_Bool (is_in x (stand plan u p)))))
        (λ left.
        clear t i (λ e. ne (sym e)) (inside_from plan next t (omega (arith, here, gone)) (omega (arith, here))) (omega (arith, here)) below_t)
        (cases_lt i to) in
        ap (λ w. are_apart (plan.claim w i) (stand plan u p)) same ∙ apart)
        (λ third.
        let at : place_of next v ≡ place_of s v = there v third in
        let parts = inside_parts plan s v inside in
        clear v i other (inside_from plan next v (omega (arith, parts.0, at)) (omega (arith, parts.1, at))) (omega (arith, from, at)) below)
        (cases_eq v t)

    -- so a leg of another train that was not safe is not
    unsafe_still : (p : ℕ) → u < length s → place_of s u < p → p < plan.moves u → 0 < place_of s u → is_safe plan s (record { train = u; place = p }) ≡ false → is_safe plan next (record { train = u; place = p }) ≡ false
    unsafe_still p known ahead inner entered unsafe =
        ⊎_elim
        (λ safe.
        absurd (false≢true (sym unsafe ∙ safe_from_clear plan s (record { train = u; place = p }) (clear_before p known ahead inner entered (clear_from_safe plan next (record { train = u; place = p }) safe)))))
        (λ out. out)
        (cases_Bool (is_safe plan next (record { train = u; place = p })))

    -- so no leg up to a later move is safe where none was
    pub behind_still : (x : ℕ) → is_inside plan s u ≡ true → IsBehind plan s u x → IsBehind plan next u x
    behind_still x inside behind =
        let at : place_of next u ≡ place_of s u = there u ne in
        record {
          apart = ap (λ q. is_in x (stand plan u q)) at ∙ behind.apart;
          place = behind.place;
          from = omega (arith, at, behind.from);
          below = behind.below;
          needed = behind.needed;
          unsafe = λ p low high.
              unsafe_still p (inside_listed plan s u inside) (omega (arith, low, at)) (omega (arith, high, behind.below)) (inside_parts plan s u inside).0 (behind.unsafe p (omega (arith, low, at)) high);
        }

    -- and a train whose section is still taken is still stopped
    pub stopped_still : (x v : ℕ) → u < length s → IsStopped plan s u x → holds plan next v x ≡ true → IsStopped plan next u x
    stopped_still x v known stop taken =
        let parts = inside_parts plan s u stop.inside in
        let at : place_of next u ≡ place_of s u = there u ne in
        record {
          inside = inside_from plan next u (omega (arith, at, parts.0)) (omega (arith, at, parts.1));
          place = stop.place;
          from = omega (arith, at, stop.from);
          below = stop.below;
          needed = stop.needed;
          taken = taken_still x v known stop taken;
          unsafe = λ p low high. unsafe_still p known (omega (arith, low, at)) (omega (arith, high, stop.below)) parts.0 (stop.unsafe p (omega (arith, low, at)) high);
        }
