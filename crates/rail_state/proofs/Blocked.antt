-- That at first no train is blocked anywhere.
use Rattle.std.proofs.Common.{◌≡◌, ℕ, ◌<◌, ◌≤◌, List, [], replicate, false, refl, ap, ◌∙◌, ⊎_elim, arith}
use Rattle.std.proofs.lemmas.List.{get_or_past, get_or-replicate, length-replicate}
use Rattle.std.proofs.lemmas.Bool.{cases_lt}
use Rattle.rail_sets.specs.TrainSets.{has_train}
use Rattle.rail_sets.specs.declared.train_set.TrainSet.{TrainSet}
use Rattle.rail_sets.proofs.CallerLemmas.{no_train}
use Rattle.rail_state.specs.BlockedAt.{no_trains, set_at}

-- no section has a train
pub none_blocked : (sets : List TrainSet) (n : ℕ) (none : TrainSet) → ((t : ℕ) → has_train none t ≡ false) → sets ≡ replicate n none
    → (x t : ℕ) → has_train (set_at sets x) t ≡ false
none_blocked sets n none is all x t =
    ap (λ (list : List TrainSet). has_train (set_at list x) t) all
    ∙ ⊎_elim
    (λ (low : x < n). ap (λ (set : TrainSet). has_train set t) (get_or-replicate n x none no_trains low) ∙ is t)
    (λ (past : n ≤ x). ap (λ (set : TrainSet). has_train set t) (get_or_past (replicate n none) x no_trains (omega (arith, past, length-replicate n none))) ∙ no_train [] t refl)
    (cases_lt x n)
