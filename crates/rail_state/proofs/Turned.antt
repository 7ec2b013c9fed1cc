-- Trains that are changed one after the other, as they are taken out of a set.
use Rattle.std.proofs.Common.{◌≡◌, ◌≢◌, ℕ, ◌<◌, ◌==◌, Bool, true, false, not, ◌&&◌, cond, List, length, get_or, set, refl, sym, ◌∙◌, ap, subst, ◌⊎◌, inl, inr, ⊎_elim, arith}
use Rattle.std.proofs.lemmas.Bool.{cases_Bool, cond-false, cond-true, eq-eqb, eqb-true, false≢true}
use Rattle.std.proofs.lemmas.Bool.Decides.{nat_tests}
use Rattle.std.proofs.lemmas.List.{get_or_default, length-set}
use Rattle.rail_state.specs.declared.train.TrainState.{TrainState}
use Rattle.rail_sets.specs.declared.train_set.TrainSet.{TrainSet}
use Rattle.rail_sets.specs.TrainSets.{has_train}
use Rattle.rail_state.specs.TrainStates.{no_state, state_of}
use Rattle.rail_state.specs.TrainSearches.{IsSetOf}
use Rattle.rail_state.proofs.Sets.{passing_known, written}

-- each train is changed that is no more in the set, and the others are as they were
pub record IsTurned (change : ℕ → TrainState → TrainState) (old now : List TrainState) (left : TrainSet) : Type 0 where
  pub long : length now ≡ length old
  pub each : (t : ℕ) → state_of now t ≡ cond (has_train left t) (state_of old t) (change t (state_of old t))

-- the train is taken out of the set
abbrev pub IsTaken : TrainSet → TrainSet → ℕ → Type 0
IsTaken left fewer t = (u : ℕ) → has_train fewer u ≡ (not (u == t) && has_train left u)

-- the trains that are in the set pass the test
abbrev pub AllPass : (TrainState → Bool) → List TrainState → TrainSet → Type 0
AllPass test states left = (t : ℕ) → has_train left t ≡ true → test (state_of states t) ≡ true

-- those of the set of all that pass do
pub set_passes : (test : TrainState → Bool) (states : List TrainState) (those : TrainSet) → IsSetOf test states those → AllPass test states those
set_passes test states those are t is = sym (are t) ∙ is

module _ (left fewer : TrainSet) (t : ℕ) (taken : IsTaken left fewer t) where
  -- the train is no more in the set
  pub taken_out : has_train fewer t ≡ false
  taken_out = taken t ∙ ap (λ b. not b && has_train left t) (eq-eqb t t refl)

  -- the others are in the set as before
  pub others_left : (u : ℕ) → u ≢ t → has_train fewer u ≡ has_train left u
  others_left u ne = taken u ∙ ap (λ b. not b && has_train left u) (let apart : (u == t) ≡ false = grind (arith, nat_tests) in apart)

  -- who is not in it is the train, or wasn't in it
  pub out_before : (u : ℕ) → has_train fewer u ≡ false → (u ≡ t) ⊎ (has_train left u ≡ false)
  out_before u off =
      ⊎_elim
      (λ same. inl (eqb-true u t same))
      (λ apart. inr (sym (ap (λ b. not b && has_train left u) apart) ∙ sym (taken u) ∙ off))
      (cases_Bool (u == t))

  -- who wasn't in it isn't
  pub out_still : (u : ℕ) → has_train left u ≡ false → has_train fewer u ≡ false
  out_still u off = taken u ∙ ap (λ b. not (u == t) && b) off ∙ and_false (not (u == t))
    where
      and_false : (b : Bool) → (b && false) ≡ false
      and_false true = refl
      and_false false = refl

  -- who is in it was in it
  in_before : (u : ℕ) → has_train fewer u ≡ true → has_train left u ≡ true
  in_before u on = ⊎_elim (λ was. was) (λ off. absurd (false≢true (sym (out_still u off) ∙ on))) (cases_Bool (has_train left u))

  -- those that are left pass
  pub passes_left : (test : TrainState → Bool) (states : List TrainState) → AllPass test states left → AllPass test states fewer
  passes_left test states pass u on = pass u (in_before u on)

  -- the train is changed
  pub turned_at : (change : ℕ → TrainState → TrainState) (old now : List TrainState) → t < length now → has_train left t ≡ true → IsTurned change old now left
      → IsTurned change old (set now t (change t (state_of now t))) fewer
  turned_at change old now lt on before = record {
    long = length-set now t (change t (state_of now t)) ∙ before.long;
    each = written (λ u r. r ≡ cond (has_train fewer u) (state_of old u) (change u (state_of old u))) now t (change t (state_of now t)) lt
        (ap (change t) (before.each t ∙ cond-true (has_train left t) (state_of old t) (change t (state_of old t)) on)
        ∙ sym (cond-false (has_train fewer t) (state_of old t) (change t (state_of old t)) taken_out))
        (λ u ne. before.each u ∙ ap (λ b. cond b (state_of old u) (change u (state_of old u))) (sym (others_left u ne)));
  }

-- before the first one is taken out
pub turned_none : (change : ℕ → TrainState → TrainState) (old : List TrainState) (left : TrainSet) → ((t : ℕ) → has_train left t ≡ false → change t (state_of old t) ≡ state_of old t) → IsTurned change old old left
turned_none change old left same = record {
  long = refl;
  each = λ t.
      ⊎_elim
      (λ on. sym (cond-true (has_train left t) (state_of old t) (change t (state_of old t)) on))
      (λ off. sym (same t off) ∙ sym (cond-false (has_train left t) (state_of old t) (change t (state_of old t)) off))
      (cases_Bool (has_train left t));
}

-- once nobody is left, each train is changed
pub turned_all : (change : ℕ → TrainState → TrainState) (old now : List TrainState) (left : TrainSet) → ((t : ℕ) → has_train left t ≡ false) → IsTurned change old now left → (t : ℕ)
    → state_of now t ≡ change t (state_of old t)
turned_all change old now left none turned t = turned.each t ∙ cond-false (has_train left t) (state_of old t) (change t (state_of old t)) (none t)

-- a train that is in the set is as it was
pub turned_not : (change : ℕ → TrainState → TrainState) (old now : List TrainState) (left : TrainSet) (t : ℕ) → has_train left t ≡ true → IsTurned change old now left → state_of now t ≡ state_of old t
turned_not change old now left t on turned = turned.each t ∙ cond-true (has_train left t) (state_of old t) (change t (state_of old t)) on

-- one of those that pass is one of the trains
pub left_known : (test : TrainState → Bool) (change : ℕ → TrainState → TrainState) (old now : List TrainState) (left : TrainSet) (t : ℕ) → test no_state ≡ false → AllPass test old left
    → has_train left t ≡ true → IsTurned change old now left → t < length now
left_known test change old now left t none pass on turned = omega (arith, passing_known test old t none (pass t on), turned.long)

-- what is read of a train that is in the set is that train as it was
pub item_left : (change : ℕ → TrainState → TrainState) (old now : List TrainState) (left : TrainSet) (t i : ℕ) (item : TrainState) → i ≡ t → t < length now → has_train left t ≡ true → IsTurned change old now left
    → get_or now i item ≡ state_of old t
item_left change old now left t i item here lt on turned =
    get_or_default now i item no_state (omega (arith, here, lt)) ∙ ap (state_of now) here ∙ turned_not change old now left t on turned

-- what is made of the item that was read is written over the train, which is taken out
pub turned_item : (change : ℕ → TrainState → TrainState) (old now : List TrainState) (left fewer : TrainSet) (t i : ℕ) (item made : TrainState) → i ≡ t → t < length now → has_train left t ≡ true
    → IsTaken left fewer t → IsTurned change old now left → made ≡ change t (get_or now i item) → IsTurned change old (set now i made) fewer
turned_item change old now left fewer t i item made here lt on taken turned is =
    let made_is : made ≡ change t (state_of now t) = is ∙ ap (change t) (get_or_default now i item no_state (omega (arith, here, lt)) ∙ ap (state_of now) here) in
    subst (λ (k : ℕ). IsTurned change old (set now k made) fewer) (sym here)
    (subst (λ (r : TrainState). IsTurned change old (set now t r) fewer) (sym made_is) (turned_at left fewer t taken change old now lt on turned))
