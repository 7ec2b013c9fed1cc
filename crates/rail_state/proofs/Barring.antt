-- Whether the holder of a section bars a train, whose own overlap this is.
use Rattle.std.proofs.Common.{◌≡◌, ℕ, Bool, true, false, ◌&&◌, cond, eqb, List, Option, Some, None, refl, sym, ap, ◌⊎◌, inl, inr}
use Rattle.std.proofs.lemmas.Bool.{eqb-true}
use Rattle.std.proofs.lemmas.Option.{none-some}
use Rattle.rail_rules.specs.Numbers.{is_in}
use Rattle.rail_laws_step.specs.HolderTables.{is_train}

-- where none does, nobody holds the section, or the train itself
pub unbarred : (t x : ℕ) (own : List ℕ) (o : Option ℕ) → cond (is_train t o && is_in x own) None o ≡ None → (o ≡ None) ⊎ (o ≡ Some t)
unbarred t x own None free = inl refl
unbarred t x own (Some u) free = of (eqb u t) refl (is_in x own) free
  where
    of : (same : Bool) → eqb u t ≡ same → (mine : Bool) → cond (same && mine) None (Some u) ≡ None → (Some u ≡ None) ⊎ (Some u ≡ Some t)
    of true is mine free' = inr (ap Some (eqb-true u t is))
    of false is mine free' = absurd (none-some u (sym free'))

-- a holder that bars the train holds the section
pub barred_is : (t y : ℕ) (own : List ℕ) (o : Option ℕ) (v : ℕ) → cond (is_train t o && is_in y own) None o ≡ Some v → o ≡ Some v
barred_is t y own o v = at (is_train t o && is_in y own)
  where
    at : (b : Bool) → cond b None o ≡ Some v → o ≡ Some v
    at true is = absurd (none-some v is)
    at false is = is
