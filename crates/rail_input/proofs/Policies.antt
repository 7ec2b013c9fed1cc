-- The index of a policy in a deck.
use Rattle.std.proofs.Common.{◌≡◌, ℕ, suc, ◌+◌, ◌<◌, ◌≤◌, Bool, true, false, not, ◌||◌, cond, ltb, List, [], ◌∷◌, length, Some, None, refl, sym, ap, ◌∙◌, arith, ⊎_elim}
use Rattle.std.specs.List.{list_any, position, position_or_len}
use Rattle.std.proofs.lemmas.Bool.{cases_lt, cond-true, lt-ltb}
use Rattle.std.proofs.lemmas.List.Folds.{list_any_at}
use Rattle.std.proofs.lemmas.List.Quantifiers.{position-Some}
use Rattle.std.proofs.lemmas.Option.{none-some}
use Rattle.rail_base.specs.NameForms.{same_name}
use Rattle.rail_input.specs.Inputs.{index_in_deck, policy_refusal, unknown_policy}

-- where no index was found, none is within the list
nowhere : {X : Type 0} (p : X → Bool) (xs : List X) → position p xs ≡ None → length xs ≤ position_or_len p xs
nowhere p xs none =
    ⊎_elim
    (λ lt. absurd (none-some _ (sym none ∙ cond-true (ltb (position_or_len p xs) (length xs)) (Some (position_or_len p xs)) None (lt-ltb _ _ lt))))
    (λ le. le)
    (cases_lt (position_or_len p xs) (length xs))

-- and no item passes
none_passes : {X : Type 0} (p : X → Bool) (xs : List X) → length xs ≤ position_or_len p xs → list_any p xs ≡ false
none_passes p [] le = refl
none_passes {X} p (x ∷ xs) le = by (p x) (none_passes p xs) le
  where
    by : (passes : Bool) → (length xs ≤ position_or_len p xs → list_any p xs ≡ false) → suc (length xs) ≤ cond (not passes) (1 + position_or_len p xs) 0
        → (passes || list_any p xs) ≡ false
    by true rest le = absurd (omega (arith, le))
    by false rest le = rest (omega (arith, le))

-- a policy with a index in the deck is not refused, and one without is
pub policy_known : (policy : List ℕ) (deck : List (List ℕ)) (index : ℕ) → index_in_deck policy deck ≡ Some index → (policy_refusal policy deck ≡ None) × (index < length deck)
policy_known policy deck index is =
    let found = position-Some (same_name policy) deck index [] is in
    (ap (λ known. cond known None (Some unknown_policy)) (list_any_at (same_name policy) deck index [] found.0 found.1), found.0)

pub policy_unknown : (policy : List ℕ) (deck : List (List ℕ)) → index_in_deck policy deck ≡ None → policy_refusal policy deck ≡ Some unknown_policy
policy_unknown policy deck none = ap (λ known. cond known None (Some unknown_policy)) (none_passes (same_name policy) deck (nowhere (same_name policy) deck none))
