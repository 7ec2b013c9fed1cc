-- Sets of sections: what they have, and how those of one place follow from those of the next.
use Rattle.std.proofs.Common.{cond, ltb, refl, ◌≡◌, ℕ, zero, suc, ◌+◌, ◌*◌, ◌-◌, ◌<◌, ◌≤◌, Bool, true, false, ◌||◌, ◌&&◌, List, [], ◌∷◌, ◌++◌, length, get_or, sym, ap, ◌∙◌, subst, ⊎_elim, arith}
use Rattle.std.proofs.lemmas.Bool.{and_from, and_left, and_parts, cases_Bool, cases_lt, false≢true, le-leb, lt-leb}
use Rattle.rail_rules.specs.Numbers.{any_below, is_in}
use Rattle.rail_rules.specs.Moves.{Moves, is_valid, stand}
use Rattle.std.proofs.lemmas.List.{get_or_append_left, get_or_default, get_or_past, get_or_push, get_or-reverse, length_push, length-reverse}
use Rattle.std.specs.Prelude.{nat_le, reverse}
use Rattle.rail_rules.proofs.CallerLemmas.{any_below_from, any_below_found, any_below_none, stand_needed}
use Rattle.rail_place.specs.Tables.{moves_in, MoveLists, no_lists}
use Rattle.rail_consequence.proofs.Counts.{from_next}
use Rattle.rail_sets.specs.Sets.{has}
use Rattle.rail_sets.proofs.CallerLemmas.{has_within}
use Rattle.rail_consequence.specs.Needs.{needs_from}
use Rattle.rail_consequence.specs.Needs.{AreRows, IsPlaceSets, IsSet, IsSetRow, no_sets}
use Rattle.rail_base.specs.declared.limits.TheConstants.{SECTIONS}
use Rattle.rail_consequence.specs.declared.rows.PlaceSets.{PlaceSets}

-- a set has exactly some sections where it does so within its words, and these all stand there
pub is_set : (set : List ℕ) (n : ℕ) (f : ℕ → Bool) → length set ≡ n → ((x : ℕ) → x < 64 * n → has set x ≡ f x) → ((x : ℕ) → f x ≡ true → x < 64 * n) → IsSet set f
is_set set n f long within narrow x =
    ⊎_elim
    (λ low. within x low)
    (λ high.
    ⊎_elim (λ is. absurd (omega (arith, has_within set x is, long, high))) (λ out. out) (cases_Bool (has set x))
    ∙ sym (⊎_elim (λ is. absurd (omega (arith, narrow x is, high))) (λ out. out) (cases_Bool (f x))))
    (cases_lt x (64 * n))

-- a train at its last place needs nothing
pub needs_past : (plan : Moves) (t p x : ℕ) → plan.moves t ≤ p → needs_from plan t p x ≡ false
needs_past plan t p x past =
    any_below_none (λ m. nat_le p m && is_in x (plan.claim t m)) (plan.moves t) (λ m lt.
    and_left (nat_le p m) (is_in x (plan.claim t m)) (lt-leb p m (omega (arith, past, lt))))

-- what a train needs from a place on is what its next move needs, and what it needs from the next place on
pub needs_next : (plan : Moves) (t p x : ℕ) → ((m : ℕ) → plan.moves t ≤ m → plan.claim t m ≡ []) → needs_from plan t p x ≡ (is_in x (plan.claim t p) || needs_from plan t (p + 1) x)
needs_next plan t p x none =
    ⊎_elim
    (λ before. let same : suc p ≡ p + 1 = omega arith in from_next plan t p x before ∙ ap (λ q. is_in x (plan.claim t p) || needs_from plan t q x) same)
    (λ past.
    needs_past plan t p x past
    ∙ sym (ap (λ b. b || needs_from plan t (p + 1) x) (ap (is_in x) (none p past)) ∙ needs_past plan t (p + 1) x (omega (arith, past))))
    (cases_lt p (plan.moves t))

-- a table has no claims behind the last move of a train
pub claims_past : (table : List MoveLists) (t m : ℕ) → (moves_in table).moves t ≤ m → (moves_in table).claim t m ≡ []
claims_past table t m past = get_or_past (get_or table t no_lists).claims m [] past

-- a section that is needed from a place on is needed by a move
pub needs_at : (plan : Moves) (t p x : ℕ) → needs_from plan t p x ≡ true → (i : ℕ) × (is_in x (plan.claim t i) ≡ true)
needs_at plan t p x needs =
    let found = any_below_found (λ m. nat_le p m && is_in x (plan.claim t m)) (plan.moves t) needs in
    (found.0, (and_parts (nat_le p found.0) (is_in x (plan.claim t found.0)) found.2).1)

-- a section that a move needs is needed from each place before it on
pub needs_where : (plan : Moves) (t p i x : ℕ) → p ≤ i → i < plan.moves t → is_in x (plan.claim t i) ≡ true → needs_from plan t p x ≡ true
needs_where plan t p i x from lt is = any_below_from (λ m. nat_le p m && is_in x (plan.claim t m)) (plan.moves t) i lt (and_from (nat_le p i) (is_in x (plan.claim t i)) (le-leb p i from) is)

-- and from the first place on
pub needs_any : (plan : Moves) (t i x : ℕ) → i < plan.moves t → is_in x (plan.claim t i) ≡ true → needs_from plan t 0 x ≡ true
needs_any plan t i x lt is = needs_where plan t 0 i x (omega arith) lt is

-- a row that tells so many places of the train from the last one back
pub record IsRowBack (plan : Moves) (t n : ℕ) (row : List PlaceSets) : Type 0 where
  pub long : length row ≡ n
  pub told : (i : ℕ) → i < n → IsPlaceSets plan t (plan.moves t - i) (get_or row i no_sets)

-- what such a row tells of its places, and of one more
pub row_more_sets : (plan : Moves) (t n : ℕ) (row : List PlaceSets) (sets : PlaceSets) → IsRowBack plan t n row → IsPlaceSets plan t (plan.moves t - n) sets → IsRowBack plan t (n + 1) (row ++ sets ∷ [])
row_more_sets plan t n row sets before here = record {
  long = length_push row sets ∙ ap (λ k. k + 1) before.long;
  told = λ i lt.
      ⊎_elim
      (λ earlier.
      let P : PlaceSets → Type 0 = λ s. IsPlaceSets plan t (plan.moves t - i) s in
      subst P (sym (get_or_append_left row (sets ∷ []) no_sets i (omega (arith, earlier, before.long)))) (before.told i earlier))
      (λ last.
      let same : n ≡ i = omega (arith, lt, last) in
      let P : PlaceSets → Type 0 = λ s. IsPlaceSets plan t (plan.moves t - i) s in
      let Q : ℕ → Type 0 = λ k. IsPlaceSets plan t (plan.moves t - k) sets in
      subst P (sym (get_or_push row sets no_sets i (omega (arith, same, before.long)))) (subst Q same here))
      (cases_lt i n);
}

-- the other way round it tells all places in order
pub row_reversed : (plan : Moves) (t n : ℕ) (row : List PlaceSets) → n ≡ plan.moves t + 1 → IsRowBack plan t n row → IsSetRow plan t (plan.moves t + 1) (reverse row)
row_reversed plan t n row all back = record {
  long = length-reverse row ∙ back.long ∙ all;
  told = λ i lt.
      let at : get_or (reverse row) i no_sets ≡ get_or row (plan.moves t - i) no_sets =
      get_or-reverse row i no_sets (omega (arith, lt, back.long, all)) ∙ ap (λ k. get_or row k no_sets) (omega (arith, lt, back.long, all)) in
      let place : plan.moves t - (plan.moves t - i) ≡ i = omega (arith, lt) in
      let P : PlaceSets → Type 0 = λ s. IsPlaceSets plan t i s in
      let Q : ℕ → Type 0 = λ k. IsPlaceSets plan t k (get_or row (plan.moves t - i) no_sets) in
      subst P (sym at) (subst Q place (back.told (plan.moves t - i) (omega (arith, lt, all))));
}

-- and what rows tell of their trains, and of one more
pub rows_more : (plan : Moves) (n width wider : ℕ) (rows : List (List PlaceSets)) (row : List PlaceSets) → AreRows plan n (record { width = width; rows = rows }) → IsSetRow plan n (plan.moves n + 1) row
    → ((i x : ℕ) → is_in x (plan.claim n i) ≡ true → x < 64 * wider) → width ≤ wider → 64 * wider ≤ SECTIONS → AreRows plan (n + 1) (record { width = wider; rows = rows ++ row ∷ [] })
rows_more plan n width wider rows row before here narrow more wide = record {
  long = length_push rows row ∙ ap (λ k. k + 1) before.long;
  told = λ t lt.
      ⊎_elim
      (λ earlier.
      let P : List PlaceSets → Type 0 = λ r. IsSetRow plan t (plan.moves t + 1) r in
      subst P (sym (get_or_append_left rows (row ∷ []) [] t (omega (arith, earlier, before.long)))) (before.told t earlier))
      (λ last.
      let same : n ≡ t = omega (arith, lt, last) in
      let P : List PlaceSets → Type 0 = λ r. IsSetRow plan t (plan.moves t + 1) r in
      let Q : ℕ → Type 0 = λ k. IsSetRow plan k (plan.moves k + 1) row in
      subst P (sym (get_or_push rows row [] t (omega (arith, same, before.long)))) (subst Q same here))
      (cases_lt t n);
  wide = wide;
  narrow = λ t i x lt is.
      ⊎_elim
      (λ earlier. omega (arith, before.narrow t i x earlier is, more))
      (λ last.
      let same : t ≡ n = omega (arith, lt, last) in
      narrow i x (ap (λ k. is_in x (plan.claim k i)) (sym same) ∙ is))
      (cases_lt t n);
}

-- a section on which a train stands was needed by a move
pub stands_at : (plan : Moves) (t p x : ℕ) → is_valid plan ≡ true → t < plan.trains → is_in x (stand plan t p) ≡ true → (i : ℕ) × (is_in x (plan.claim t i) ≡ true)
stands_at plan t zero x valid known is = absurd (false≢true is)
stands_at plan t (suc m) x valid known is = (m, stand_needed plan t m x valid known is)

-- what a row tells of a place
pub place_of_row : (plan : Moves) (t p i : ℕ) (row : List PlaceSets) (sets : PlaceSets) → IsSetRow plan t (plan.moves t + 1) row → p ≤ plan.moves t → i ≡ p → sets ≡ get_or row i sets → IsPlaceSets plan t p sets
place_of_row plan t p i row sets told within at is =
    let same : get_or row p no_sets ≡ sets =
    get_or_default row p no_sets sets (omega (arith, told.long, within)) ∙ ap (λ k. get_or row k sets) (sym at) ∙ sym is in
    let P : PlaceSets → Type 0 = λ s. IsPlaceSets plan t p s in
    subst P same (told.told p (omega (arith, within)))

-- trains with the same moves stand on the same sections
stand_alike : (table : List MoveLists) (t u i : ℕ) → get_or table t no_lists ≡ get_or table u no_lists → stand (moves_in table) t i ≡ stand (moves_in table) u i
stand_alike table t u zero same = refl
stand_alike table t u (suc m) same = ap (λ (r : MoveLists). cond (ltb (suc m) (length r.claims)) (get_or r.stands m []) []) same

-- what a row tells of a train it tells of another one with the same moves
pub row_alike : (table : List MoveLists) (t u : ℕ) (row : List PlaceSets) → get_or table t no_lists ≡ get_or table u no_lists → IsSetRow (moves_in table) t ((moves_in table).moves t + 1) row → IsSetRow (moves_in table) u ((moves_in table).moves u + 1) row
row_alike table t u row same told =
    let count : (moves_in table).moves t ≡ (moves_in table).moves u = ap (λ (r : MoveLists). length r.claims) same in
    record {
      long = told.long ∙ ap (λ n. n + 1) count;
      told = λ i lt.
          let here = told.told i (omega (arith, lt, count)) in
          record {
            need = λ x. here.need x ∙ ap (λ (r : MoveLists). is_in x (get_or r.claims i [])) same;
            rest = λ x. here.rest x ∙ ap (λ (r : MoveLists). any_below (λ m. nat_le i m && is_in x (get_or r.claims m [])) (length r.claims)) same;
            stand = λ x. here.stand x ∙ ap (is_in x) (stand_alike table t u i same);
          };
    }
