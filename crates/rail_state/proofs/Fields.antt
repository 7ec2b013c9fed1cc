-- What a line leaves as it is of what is kept of a train.
use Rattle.std.proofs.Common.{◌≡◌, ℕ, eqb, Bool, true, false, cond, Option, refl}
use Rattle.rail_base.specs.declared.history.What.{What}
use Rattle.rail_base.specs.declared.history.What.TheVariants.{Free, Arrive, Enter, Out, Ready, Told, Untold, Admit, Hold, End}
use Rattle.rail_rules.specs.Plant.{Plant}
use Rattle.rail_state.specs.declared.train.TrainState.{TrainState}
use Rattle.rail_state.specs.TrainStates.{state_after, head_behind}

-- both branches have the same part
pub cond_same : {A B : Type 0} (f : A → B) (b : Bool) (x y : A) → f x ≡ f y → f (cond b x y) ≡ f y
cond_same f true x y same = same
cond_same f false x y same = refl

module _ {B : Type 0} (part : TrainState → B) (plant : Plant) (t : ℕ) (train_state : TrainState) where
  -- a part that no event line changes
  pub unchanged :
      ((known : Option _) → part (record train_state { known = known }) ≡ part train_state)
      → ((head : _) → part (record train_state { head = head }) ≡ part train_state)
      → ((waits : Bool) → part (record train_state { waits = waits }) ≡ part train_state)
      → ((out : Bool) → part (record train_state { is_out = out }) ≡ part train_state)
      → (what : What) → part (state_after plant what t train_state) ≡ part train_state
  unchanged known head waits out (Free x u) = known _
  unchanged known head waits out (Enter u m x) = cond_same part (eqb u t) (record train_state { head = head_behind plant t train_state.head }) train_state (head _)
  unchanged known head waits out (Out u) = cond_same part (eqb u t) (record train_state { is_out = true }) train_state (out true)
  unchanged known head waits out (Ready u m) = cond_same part (eqb u t) (record train_state { waits = true }) train_state (waits true)
  unchanged known head waits out (Arrive u m) = refl
  unchanged known head waits out (Told k) = refl
  unchanged known head waits out (Untold k) = refl
  unchanged known head waits out (Admit u m note) = refl
  unchanged known head waits out (Hold u m why) = refl
  unchanged known head waits out End = refl
