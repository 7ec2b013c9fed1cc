-- What a policy may choose among the offers.
use Rattle.std.specs.Prelude.{◌≡◌, ℕ, false, Some, List, All, slice_get}
use Rattle.rail_base.specs.declared.orders.PolicyKind.{PolicyKind}
use Rattle.rail_base.specs.declared.orders.PolicyKind.TheVariants.{Custom}
use Rattle.rail_policy.specs.declared.offer.Offer.{Offer}
use Rattle.rail_policy.specs.Keys.{goes_before}

-- the offer at this index is there, and no offer goes before it
pub record HasLeastKey (kind : PolicyKind) (mark : ℕ) (offers : List Offer) (index : ℕ) : Type 0 where
  pub chosen : Offer
  pub there : slice_get offers index ≡ Some chosen
  pub least : All (λ offer. goes_before kind mark offer chosen ≡ false) offers

-- a policy of a built-in kind chooses an offer with the least key, and a custom one answers anything
abbrev pub MayChoose : PolicyKind → ℕ → List Offer → ℕ → Type 0
MayChoose Custom mark offers answer = Unit {0}
MayChoose kind mark offers answer = HasLeastKey kind mark offers answer
