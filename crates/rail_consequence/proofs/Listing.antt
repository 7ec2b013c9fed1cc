-- The list of the trains that were inside when a search began: it names all that are inside later.
use Rattle.std.proofs.Common.{◌≡◌, ◌≢◌, ℕ, suc, ◌<◌, true, false, not, ◌&&◌, ◌||◌, ◌==◌, eqb, List, [], ◌∷◌, set, sym, ap, ◌∙◌, subst, ⊎_elim, arith}
use Rattle.std.proofs.lemmas.Bool.{and_parts, cases_eq, eq-eqb, eqb-true, ne_eqb, false≢true, or_cases, or_left, or_right}
use Rattle.std.proofs.lemmas.List.{get_or-set_other}
use Rattle.rail_rules.specs.Numbers.{is_in}
use Rattle.rail_rules.specs.Moves.{Moves}
use Rattle.rail_rules.specs.Places.{place_of, is_inside, after}
use Rattle.rail_place.specs.Plays.{IsPlayed}
use Rattle.rail_consequence.specs.Workspace.{Work, GoesOn, IsListing}
use Rattle.rail_consequence.proofs.Legs.{inside_same}

-- a train that is inside after moves was inside before them
played_inside : (plan : Moves) (s xs r : List ℕ) (u : ℕ) → IsPlayed plan s xs r → is_inside plan r u ≡ true → is_inside plan s u ≡ true
played_inside plan s [] r u same inside = ap (λ q. is_inside plan q u) same ∙ inside
played_inside plan s (t ∷ rest) r u played inside =
    ⊎_elim
    (λ is. ap (is_inside plan s) is ∙ played.0)
    (λ ne. inside_same plan (after s t) s u (sym (get_or-set_other s t u (suc (place_of s t)) 0 ne)) (played_inside plan (after s t) rest r u played.2 inside))
    (cases_eq u t)

pub listed_on : (plan : Moves) (a b : Work) (inside : List ℕ) → GoesOn plan a b → IsListing plan a.places.positions inside → IsListing plan b.places.positions inside
listed_on plan a b inside goes listed = record {
  trains = listed.trains;
  all = λ u is. listed.all u (played_inside plan a.places.positions goes.more b.places.positions u goes.played is);
}

pub listed_at : (plan : Moves) (s r inside : List ℕ) → s ≡ r → IsListing plan s inside → IsListing plan r inside
listed_at plan s r inside same listed = let P : List ℕ → Type 0 = λ q. IsListing plan q inside in subst P same listed

module _ (plan : Moves) (s inside new : List ℕ) (t p : ℕ) (listed : IsListing plan s inside) where
  elsewhere : (u : ℕ) → u ≢ t → is_inside plan (set s t p) u ≡ true → is_in u inside ≡ true
  elsewhere u ne is = listed.all u (inside_same plan (set s t p) s u (sym (get_or-set_other s t u p 0 ne)) is)

  -- a train moved, and is listed
  pub listed_with : t < plan.trains → ((u : ℕ) → is_in u new ≡ ((u == t) || is_in u inside)) → IsListing plan (set s t p) new
  listed_with lt with = record {
    trains = λ u is.
        ⊎_elim
        (λ same. omega (arith, eqb-true u t same))
        (λ earlier. listed.trains u earlier)
        (or_cases (eqb u t) (is_in u inside) (sym (with u) ∙ is));
    all = λ u is.
        with u
        ∙ ⊎_elim
        (λ same. or_left (eqb u t) (is_in u inside) (eq-eqb u t same))
        (λ ne. or_right (eqb u t) (is_in u inside) (elsewhere u ne is))
        (cases_eq u t);
  }

  -- a train moved that is not inside, and is not listed
  pub listed_without : is_inside plan (set s t p) t ≡ false → ((u : ℕ) → is_in u new ≡ (not (u == t) && is_in u inside)) → IsListing plan (set s t p) new
  listed_without out without = record {
    trains = λ u is. listed.trains u (and_parts (not (eqb u t)) (is_in u inside) (sym (without u) ∙ is)).1;
    all = λ u is.
        ⊎_elim
        (λ same. absurd (false≢true (sym out ∙ ap (is_inside plan (set s t p)) (sym same) ∙ is)))
        (λ ne. without u ∙ ap (λ b. not b && is_in u inside) (ne_eqb u t ne) ∙ elsewhere u ne is)
        (cases_eq u t);
  }
