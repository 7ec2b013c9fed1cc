-- A train that is set aside, and sets of it that are put in.
use Rattle.std.proofs.Common.{◌≡◌, ◌≢◌, ℕ, zero, suc, ◌+◌, ◌*◌, ◌<◌, ◌≤◌, Bool, true, false, not, ◌&&◌, cond, ltb, leb, eqb, List, [], length, get_or, set, max, refl, sym, ap, ◌∙◌, subst, ⊎_elim, arith}
use Rattle.std.proofs.lemmas.Bool.{and_parts, and_from, cases_eq, false≢true, ne_eqb}
use Rattle.std.proofs.lemmas.List.{get_or-set_other, get_or-set_same, length-set}
use Rattle.rail_rules.specs.Moves.{Moves, stand}
use Rattle.rail_rules.specs.Numbers.{any_below, is_in, sum_below}
use Rattle.rail_rules.specs.Places.{is_inside, place_of}
use Rattle.rail_sets.specs.Sets.{has}
use Rattle.rail_consequence.specs.AnalystStates.{AreAlikeBut}
use Rattle.rail_consequence.specs.Needs.{AreRowsBut, AreRowsFor, IsRowsOf, IsSetRow, IsTallyFor, Placed, SetRows, needs_from, needs_left, one_if, with_row}
use Rattle.rail_consequence.specs.Stops.{IsNoted, IsNotedTo, stop_of}
use Rattle.rail_consequence.specs.Workspace.{IsListing}
use Rattle.rail_consequence.specs.declared.notes.SearchNotes.{SearchNotes}
use Rattle.rail_consequence.specs.declared.notes.Stop.{Stop}
use Rattle.rail_consequence.specs.declared.notes.Stop.TheVariants.{Unknown}
use Rattle.rail_consequence.specs.declared.rows.PlaceSets.{PlaceSets}

-- the wider of two widths is within what both are
max_within : (a b : ℕ) (n : ℕ) → 64 * a ≤ n → 64 * b ≤ n → 64 * max a b ≤ n
max_within a b n one other = omega (arith, one, other)

max_left : (a b x : ℕ) → x < 64 * a → x < 64 * max a b
max_left a b x lt = omega (arith, lt)

max_right : (a b x : ℕ) → x < 64 * b → x < 64 * max a b
max_right a b x lt = omega (arith, lt)

-- with the sets of the one train, all trains have theirs
pub rows_put : (plan : Moves) (t : ℕ) (rows others : SetRows) → t < plan.trains → AreRowsBut plan t rows → AreRowsFor plan t others
    → IsRowsOf plan (with_row rows others.width t (get_or others.rows 0 []))
rows_put plan t rows others lt but own =
    let row : List PlaceSets = get_or others.rows 0 [] in
    record {
      long = length-set rows.rows t row ∙ but.long;
      told = λ u below. ⊎_elim
          (λ same.
          let at : row ≡ get_or (set rows.rows t row) u [] = sym (ap (λ i. get_or (set rows.rows t row) i []) same ∙ get_or-set_same rows.rows t row [] (omega (arith, lt, but.long))) in
          subst (λ (r : List PlaceSets). IsSetRow plan u (plan.moves u + 1) r) at (subst (λ v. IsSetRow plan v (plan.moves v + 1) row) (sym same) own.told))
          (λ apart. subst (λ (r : List PlaceSets). IsSetRow plan u (plan.moves u + 1) r) (sym (get_or-set_other rows.rows t u row [] apart)) (but.told u below apart))
          (cases_eq u t);
      wide = max_within rows.width others.width _ but.wide own.wide;
      narrow = λ u i x below is. ⊎_elim
          (λ same. max_right rows.width others.width x (own.narrow i x (ap (λ v. is_in x (plan.claim v i)) (sym same) ∙ is)))
          (λ apart. max_left rows.width others.width x (but.narrow u i x below apart is))
          (cases_eq u t);
    }

module _ (plan other : Moves) (t : ℕ) (h : AreAlikeBut t plan other) where
  needs_same : (u p x : ℕ) → u ≢ t → needs_from other u p x ≡ needs_from plan u p x
  needs_same u p x apart =
      λ i. any_below (λ m. leb p m && is_in x (h.claims u apart i m)) (h.moves u apart i)

  stand_same : (u p : ℕ) → u ≢ t → stand other u p ≡ stand plan u p
  stand_same u zero apart = refl
  stand_same u (suc m) apart = λ i. cond (ltb (suc m) (h.moves u apart i)) (h.stands u apart i m) []

  -- the sets of the other trains are theirs still
  pub rows_but : (rows : SetRows) → IsRowsOf plan rows → AreRowsBut other t rows
  rows_but rows own = record {
    long = own.long ∙ sym h.trains;
    told = λ u below apart.
        let was = own.told u (omega (arith, below, h.trains)) in
        record {
          long = was.long ∙ ap (λ n. n + 1) (sym (h.moves u apart));
          told = λ i lt.
              let sets = was.told i (omega (arith, lt, h.moves u apart)) in
              record {
                need = λ x. sets.need x ∙ ap (λ (claims : ℕ → List ℕ). is_in x (claims i)) (sym (h.claims u apart));
                rest = λ x. sets.rest x ∙ sym (needs_same u i x apart);
                stand = λ x. sets.stand x ∙ ap (is_in x) (sym (stand_same u i apart));
              };
        };
    wide = own.wide;
    narrow = λ u i x below apart is. own.narrow u i x (omega (arith, below, h.trains)) (ap (λ (claims : ℕ → List ℕ). is_in x (claims i)) (sym (h.claims u apart)) ∙ is);
  }

  -- a train at place 0 counts for nothing
  left_same : (s : List ℕ) (x : ℕ) → place_of s t ≡ 0 → (u : ℕ) → needs_left other u (place_of s u) x ≡ needs_left plan u (place_of s u) x
  left_same s x outside u = ⊎_elim
      (λ same.
      let at : place_of s u ≡ 0 = ap (place_of s) same ∙ outside in
      ap (λ p. needs_left other u p x) at ∙ sym (ap (λ p. needs_left plan u p x) at))
      (λ apart. ap (λ (b : Bool). ltb 0 (place_of s u) && b) (needs_same u (place_of s u) x apart))
      (cases_eq u t)

  -- a tally in which it is outside is one for both
  pub tally_same : (placed : Placed) → place_of placed.positions t ≡ 0 → IsTallyFor plan placed → IsTallyFor other placed
  tally_same placed outside own = record {
    long = own.long ∙ sym h.trains;
    within = λ u lt. ⊎_elim
        (λ same. omega (arith, ap (place_of placed.positions) same, outside))
        (λ apart. omega (arith, own.within u (omega (arith, lt, h.trains)), h.moves u apart))
        (cases_eq u t);
    counted = λ x. own.counted x ∙ ap (λ f. sum_below f (length placed.positions)) (λ i u. one_if (sym (left_same placed.positions x outside u) i));
  }

  -- so is a list of the trains inside from which it is taken
  pub listing_same : (s r inside taken : List ℕ) → r ≡ set s t 0 → place_of r t ≡ 0 → IsListing plan s inside → ((u : ℕ) → is_in u taken ≡ (not (eqb u t) && is_in u inside)) → IsListing other r taken
  listing_same s r inside taken moved outside own out = record {
    trains = λ u is. omega (arith, own.trains u (and_parts (not (eqb u t)) (is_in u inside) (sym (out u) ∙ is)).1, h.trains);
    all = λ u inner. ⊎_elim
        (λ same. absurd (false≢true (sym (ap (λ p. ltb 0 p && ltb p (other.moves u)) (ap (place_of r) same ∙ outside)) ∙ inner)))
        (λ apart.
        let at : place_of s u ≡ place_of r u = sym (ap (λ places. place_of places u) moved ∙ get_or-set_other s t u 0 0 apart) in
        let was : is_inside plan s u ≡ true = (λ i. ltb 0 (at i) && ltb (at i) (sym (h.moves u apart) i)) ∙ inner in
        out u ∙ and_from (not (eqb u t)) (is_in u inside) (ap not (ne_eqb u t apart)) (own.all u was))
        (cases_eq u t);
  }

-- where nothing is noted, it is noted for any moves
pub noted_none : (plan : Moves) (s : List ℕ) (notes : SearchNotes) → ((u : ℕ) → stop_of notes.stops u ≡ Unknown) → ((x : ℕ) → has notes.fell x ≡ false) → IsNotedTo plan s notes
noted_none plan s notes stops fell = record {
  each = λ u inside. let P : Stop → Type 0 = λ stop. IsNoted plan s notes.fell u stop in subst P (sym (stops u)) tt;
  none = λ none. fell;
}

-- the sets of the first train of other moves are those of a train with the same moves
pub rows_for : (plan other : Moves) (t : ℕ) (rows : SetRows) → other.moves 0 ≡ plan.moves t → other.claim 0 ≡ plan.claim t → other.standing 0 ≡ plan.standing t → 0 < other.trains
    → IsRowsOf other rows → AreRowsFor plan t rows
rows_for plan other t rows moves claims stands some own =
    let was = own.told 0 some in
    record {
      some = omega (arith, own.long, some);
      told = record {
        long = was.long ∙ ap (λ n. n + 1) moves;
        told = λ i lt.
            let sets = was.told i (omega (arith, lt, moves)) in
            record {
              need = λ x. sets.need x ∙ ap (λ (given : ℕ → List ℕ). is_in x (given i)) claims;
              rest = λ x. sets.rest x ∙ (λ j. any_below (λ m. leb i m && is_in x (claims j m)) (moves j));
              stand = λ x. sets.stand x ∙ ap (is_in x) (standing i);
            };
      };
      wide = own.wide;
      narrow = λ i x is. own.narrow 0 i x some (ap (λ (given : ℕ → List ℕ). is_in x (given i)) claims ∙ is);
    }
  where
    standing : (p : ℕ) → stand other 0 p ≡ stand plan t p
    standing zero = refl
    standing (suc m) = λ i. cond (ltb (suc m) (moves i)) (stands i m) []
