-- The trains that are looked at one after the other: which of those that are untried then is the first.
use Rattle.std.proofs.Common.{◌≡◌, ◌≢◌, ℕ, ◌<◌, Bool, true, false, not, cond, List, [], ◌∷◌, length, Option, Some, None, MatchOption, refl, sym, ◌∙◌, ap, subst, ⊎_elim, arith}
use Rattle.std.proofs.lemmas.Bool.{cases_Bool, cond-true, cond-false, false≢true}
use Rattle.std.proofs.lemmas.Bool.Decides.{nat_tests}
use Rattle.rail_base.specs.declared.history.Cause.{Cause}
use Rattle.rail_rules.specs.Plant.{Plant, claimed}
use Rattle.rail_rules.specs.Numbers.{comes_before}
use Rattle.rail_state.specs.declared.train.TrainState.{TrainState}
use Rattle.rail_sets.specs.declared.train_set.TrainSet.{TrainSet}
use Rattle.rail_sets.specs.TrainSets.{has_train}
use Rattle.rail_laws_step.specs.HolderTables.{own_overlap}
use Rattle.rail_state.specs.TrainStates.{IsReadyFirst, is_at_first, is_untried, looked_at, state_of, turn}
use Rattle.rail_state.specs.TrainSearches.{earlier}
use Rattle.rail_state.proofs.Sets.{passing_known}
use Rattle.rail_state.proofs.Turned.{IsTaken, out_before, out_still, taken_out}

-- of the trains that were taken out this one is the first untried one
pub record IsFirstOut (states : List TrainState) (left : TrainSet) (t : ℕ) : Type 0 where
  pub out : has_train left t ≡ false
  pub untried : is_untried (state_of states t) ≡ true
  pub first : (u : ℕ) → has_train left u ≡ false → is_untried (state_of states u) ≡ true → comes_before (turn states u) (turn states t) ≡ false

-- the first untried one of the trains that were taken out, where one is untried
abbrev pub IsFirstOf : List TrainState → TrainSet → Option ℕ → Type 0
IsFirstOf states left first = MatchOption first ((t : ℕ) → has_train left t ≡ false → is_untried (state_of states t) ≡ false) (IsFirstOut states left)

-- a train isn't before itself
not_itself : (a x : ℕ) → comes_before (a ∷ x ∷ []) (a ∷ x ∷ []) ≡ false
not_itself a x = grind (arith, nat_tests)

-- what doesn't come before the one doesn't come before what does
not_before : (a x b y c z : ℕ) → comes_before (a ∷ x ∷ []) (b ∷ y ∷ []) ≡ true → comes_before (c ∷ z ∷ []) (b ∷ y ∷ []) ≡ false → comes_before (c ∷ z ∷ []) (a ∷ x ∷ []) ≡ false
not_before a x b y c z before none = grind (arith, nat_tests)

-- one that isn't untried is as it was where it is looked at
pub looked_not : (plant : Plant) (bar : ℕ → List ℕ → List ℕ → Option Cause) (t : ℕ) (train_state : TrainState) → is_untried train_state ≡ false → looked_at plant bar t train_state ≡ train_state
looked_not plant bar t train_state off =
    let sections : List ℕ = claimed plant t train_state.place in
    let own : List ℕ = own_overlap plant t train_state.place in
    ap (λ b. record train_state { known = cond b (bar t own sections) train_state.known; at_first = cond b (is_at_first (bar t own sections) sections) train_state.at_first }) off

-- the first one of the trains that were taken out before, where those are as they were
first_same : (old now : List TrainState) (left : TrainSet) (first : Option ℕ) → ((t : ℕ) → has_train left t ≡ false → state_of now t ≡ state_of old t) → IsFirstOf old left first → IsFirstOf now left first
first_same old now left None same h = λ t off. ap is_untried (same t off) ∙ h t off
first_same old now left (Some t) same h = record {
  out = h.out;
  untried = ap is_untried (same t h.out) ∙ h.untried;
  first = λ u off untried.
      let before : TrainState → TrainState → Bool = λ a b. comes_before (a.times.next_ready ∷ u ∷ []) (b.times.next_ready ∷ t ∷ []) in
      ap (λ a. before a (state_of now t)) (same u off) ∙ ap (before (state_of old u)) (same t h.out) ∙ h.first u off (sym (ap is_untried (same u off)) ∙ untried);
}

module _ (states : List TrainState) (left fewer : TrainSet) (i : ℕ) (taken : IsTaken left fewer i) where
  -- a train that isn't untried leaves the first one
  first_kept : (first : Option ℕ) → is_untried (state_of states i) ≡ false → IsFirstOf states left first → IsFirstOf states fewer first
  first_kept None not h = λ t off. ⊎_elim (λ same. ap (λ k. is_untried (state_of states k)) same ∙ not) (λ before. h t before) (out_before left fewer i taken t off)
  first_kept (Some t) not h = record {
    out = out_still left fewer i taken t h.out;
    untried = h.untried;
    first = λ u off untried.
        ⊎_elim
        (λ same. absurd (false≢true (sym not ∙ ap (λ k. is_untried (state_of states k)) (sym same) ∙ untried)))
        (λ before. h.first u before untried)
        (out_before left fewer i taken u off);
  }

  -- the train itself, where none of the others comes before it
  first_itself : is_untried (state_of states i) ≡ true → ((u : ℕ) → has_train left u ≡ false → is_untried (state_of states u) ≡ true → comes_before (turn states u) (turn states i) ≡ false)
      → IsFirstOut states fewer i
  first_itself waits none = record {
    out = taken_out left fewer i taken;
    untried = waits;
    first = λ u off untried.
        ⊎_elim
        (λ same. ap (λ k. comes_before (turn states k) (turn states i)) same ∙ not_itself (state_of states i).times.next_ready i)
        (λ before. none u before untried)
        (out_before left fewer i taken u off);
  }

  -- of the first one and an untried train
  first_earlier : (first : Option ℕ) → is_untried (state_of states i) ≡ true → IsFirstOf states left first → IsFirstOut states fewer (earlier states first i)
  first_earlier None waits h = first_itself waits (λ u off untried. absurd (false≢true (sym (h u off) ∙ untried)))
  first_earlier (Some t) waits h =
      let P : ℕ → Type 0 = λ k. IsFirstOut states fewer k in
      let ready : ℕ → ℕ = λ k. (state_of states k).times.next_ready in
      ⊎_elim
      (λ (is : comes_before (turn states i) (turn states t) ≡ true).
      subst P (sym (cond-true (comes_before (turn states i) (turn states t)) i t is))
      (first_itself waits (λ u off untried. not_before (ready i) i (ready t) t (ready u) u is (h.first u off untried))))
      (λ (none : comes_before (turn states i) (turn states t) ≡ false).
      subst P (sym (cond-false (comes_before (turn states i) (turn states t)) i t none))
      (record {
        out = out_still left fewer i taken t h.out;
        untried = h.untried;
        first = λ u off untried.
            ⊎_elim
            (λ same. ap (λ k. comes_before (turn states k) (turn states t)) same ∙ none)
            (λ before. h.first u before untried)
            (out_before left fewer i taken u off);
      }))
      (cases_Bool (comes_before (turn states i) (turn states t)))

-- one more train is looked at
pub first_more : (old states : List TrainState) (left fewer : TrainSet) (i : ℕ) (first chosen : Option ℕ) → IsTaken left fewer i → has_train left i ≡ true
    → ((t : ℕ) → t ≢ i → state_of states t ≡ state_of old t) → IsFirstOf old left first → chosen ≡ cond (is_untried (state_of states i)) (Some (earlier states first i)) first → IsFirstOf states fewer chosen
first_more old states left fewer i first chosen taken on others h chosen_is =
    let P : Option ℕ → Type 0 = λ f. IsFirstOf states fewer f in
    let before : IsFirstOf states left first =
    first_same old states left first (λ t off. others t (λ same. false≢true (sym off ∙ ap (has_train left) same ∙ on))) h in
    subst P (sym chosen_is)
    (⊎_elim
    (λ waits. subst P (sym (cond-true (is_untried (state_of states i)) (Some (earlier states first i)) first waits)) (first_earlier states left fewer i taken first waits before))
    (λ no. subst P (sym (cond-false (is_untried (state_of states i)) (Some (earlier states first i)) first no)) (first_kept states left fewer i taken first no before))
    (cases_Bool (is_untried (state_of states i))))

-- once all were taken out, the first one is the first of all
pub first_of_all : (states : List TrainState) (left : TrainSet) (first : Option ℕ) → ((t : ℕ) → has_train left t ≡ false) → IsFirstOf states left first
    → MatchOption first ((t : ℕ) → is_untried (state_of states t) ≡ false) (λ train. (train < length states) × IsReadyFirst states train)
first_of_all states left None none h = λ t. h t (none t)
first_of_all states left (Some t) none h = (passing_known is_untried states t refl h.untried, record { untried = h.untried; first = λ u untried. h.first u (none u) untried })
