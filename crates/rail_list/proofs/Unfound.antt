-- What stays unfound behind the move of another train.
use Rattle.std.proofs.Common.{◌≡◌, ◌≢◌, ℕ, ◌<◌, Bool, true, false, ◌||◌, List, length, sym, ap, ◌∙◌}
use Rattle.rail_rules.specs.Moves.{Moves}
use Rattle.rail_rules.specs.Places.{after}
use Rattle.rail_rules.specs.Analysis.{finds}
use Rattle.rail_consequence.specs.Cores.{IsCore}
use Rattle.rail_consequence.proofs.CallerLemmas.{core_behind, core_none}
use Rattle.rail_list.specs.Failures.{is_core_kept}
use Rattle.rail_list.specs.Repairs.{is_known, is_repairable_for}
use Rattle.rail_list.proofs.Behind.{core_kept}
use Rattle.rail_list.proofs.Finding.{finds_none}

-- nothing is known where a core bars what the train's next move would lead to, and the list can't be repaired
barred_unknown : (plan : Moves) (depth : ℕ) (s list : List ℕ) (t : ℕ) (core : ℕ → Bool)
    → IsCore plan depth (after s t) core → is_repairable_for plan s list t ≡ false → is_known plan depth s list t ≡ false
barred_unknown plan depth s list t core is unrepaired =
    ap (λ b. b || finds plan depth (after s t)) unrepaired
    ∙ finds_none plan depth (after s t) (core_none plan depth (after s t) core is)

pub unknown_behind : (plan : Moves) (depth : ℕ) (s list : List ℕ) (t u : ℕ) (core : ℕ → Bool)
    → t < length s → u ≢ t → core u ≡ false
    → IsCore plan depth (after s t) core
    → is_repairable_for plan (after s u) list t ≡ false
    → is_known plan depth (after s u) list t ≡ false
unknown_behind plan depth s list t u core lt ne out is unrepaired =
    barred_unknown plan depth (after s u) list t core (core_behind plan depth s t u core lt ne out is) unrepaired

pub unknown_behind_safe : (plan : Moves) (depth : ℕ) (s list : List ℕ) (t u : ℕ) (core : ℕ → Bool)
    → u ≢ t → is_core_kept plan s u t ≡ true
    → IsCore plan depth (after s t) core
    → is_repairable_for plan (after s u) list t ≡ false
    → is_known plan depth (after s u) list t ≡ false
unknown_behind_safe plan depth s list t u core ne kept is unrepaired =
    barred_unknown plan depth (after s u) list t core (core_kept plan depth s u t core (λ e. ne (sym e)) kept is) unrepaired
