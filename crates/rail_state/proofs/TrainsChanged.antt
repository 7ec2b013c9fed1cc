-- The numbers of the trains that are left, one after the other.
use Rattle.std.proofs.Common.{◌≡◌, ℕ, ◌+◌, ◌<◌, Bool, true, false, not, ◌||◌, List, [], ◌∷◌, ◌++◌, length, get_or, add-one, sym, ◌∙◌, ap}
use Rattle.std.specs.List.{filter}
use Rattle.std.proofs.lemmas.List.{get_or_default}
use Rattle.rail_rules.specs.Numbers.{listed}
use Rattle.rail_state.specs.declared.train.TrainState.{TrainState}
use Rattle.rail_state.specs.TrainStates.{no_state, state_of}
use Rattle.rail_state.proofs.TrainNumbers.{numbers, passes_too, passes_not}

-- the item that was read says whether the train is left
pub left_read : (states : List TrainState) (cancelled : List Bool) (i : ℕ) (train_state : TrainState) (result left : Bool) → i < length states → train_state ≡ get_or states i train_state
    → result ≡ not (train_state.is_out || get_or cancelled i false) → result ≡ left → not ((state_of states i).is_out || get_or cancelled i false) ≡ left
left_read states cancelled i train_state result left lt read said is =
    ap (λ (r : TrainState). not (r.is_out || get_or cancelled i false)) (sym (read ∙ get_or_default states i train_state no_state lt)) ∙ sym said ∙ is

-- the numbers that pass, with the next one, which passes
pub passed_here : (p : ℕ → Bool) (i : ℕ) (old new : List ℕ) → p i ≡ true → old ≡ filter p (listed (λ t. t) i) → new ≡ old ++ i ∷ [] → new ≡ filter p (listed (λ t. t) (i + 1))
passed_here p i old new passes old_is new_is =
    new_is ∙ ap (λ list. list ++ i ∷ []) old_is ∙ sym (passes_too p i passes) ∙ ap (λ k. filter p (numbers k)) (sym (add-one i))

-- the numbers that pass, with the next one, which doesn't
pub passed_over : (p : ℕ → Bool) (i : ℕ) (old new : List ℕ) → p i ≡ false → old ≡ filter p (listed (λ t. t) i) → new ≡ old → new ≡ filter p (listed (λ t. t) (i + 1))
passed_over p i old new fails old_is new_is = new_is ∙ old_is ∙ sym (passes_not p i fails) ∙ ap (λ k. filter p (numbers k)) (sym (add-one i))
