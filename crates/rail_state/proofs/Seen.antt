-- The causes that a run sees, after lines that tell nothing.
use Rattle.std.proofs.Common.{◌≡◌, ℕ, false, List, ◌∷◌, Option, Some, None, set, sym, ap, ◌∙◌}
use Rattle.std.proofs.lemmas.Bool.{false≢true}
use Rattle.rail_base.specs.declared.history.Cause.{Cause}
use Rattle.rail_rules.specs.Numbers.{or_else}
use Rattle.rail_rules.specs.Plant.{Plant, claimed}
use Rattle.rail_rules.specs.Fronts.{Front, Line, is_admission}
use Rattle.rail_rules.specs.Orders.{told, Dispatch, input_of}
use Rattle.rail_laws_step.specs.HolderTables.{held_cause, own_overlap}
use Rattle.rail_laws_front.proofs.CallerLemmas.{told_kept}
use Rattle.rail_rules.specs.LineCounts.{is_command}
use Rattle.rail_state.specs.TrainStates.{is_blocked_at}
use Rattle.rail_laws_step.proofs.CallerLemmas.{list_cause_kept}
use Rattle.rail_state.specs.SeenCauses.{seen_bar, seen_cause}
use Rattle.rail_state.proofs.Freed.{cause_unfreed}

pub tells_none : (dispatch : Dispatch) (line : Line) (front : Front) → is_command line.entry.what ≡ false → told dispatch.commands (line ∷ front) ≡ told dispatch.commands front
tells_none dispatch line front none = told_kept dispatch.commands line front (λ k is. false≢true (sym none ∙ ap is_command is))

pub seen_kept : (dispatch : Dispatch) (plant : Plant) (line : Line) (front : Front) (h : List (Option ℕ)) (t : ℕ) → is_admission line.entry.what ≡ false → is_command line.entry.what ≡ false → seen_cause (input_of dispatch plant) (line ∷ front) h t ≡ seen_cause (input_of dispatch plant) front h t
seen_kept dispatch plant line front h t idle none =
    let kept = list_cause_kept (input_of dispatch plant) line front t idle in
    let orders = tells_none dispatch line front none in
    λ i. or_else (seen_bar (orders i) h t (own_overlap plant t (kept.1 i)) (claimed plant t (kept.1 i))) (kept.0 i)

pub seen_unfreed : (h : List (Option ℕ)) (x t : ℕ) (own xs : List ℕ) (a b c : Option Cause) (why : Cause) → or_else (or_else a (or_else b (held_cause h t own xs))) c ≡ Some why → is_blocked_at x (Some why) ≡ false → or_else (or_else a (or_else b (held_cause (set h x None) t own xs))) c ≡ Some why
seen_unfreed h x t own xs (Some d) b c why is other = is
seen_unfreed h x t own xs None (Some d) c why is other = is
seen_unfreed h x t own xs None None c why is other = cause_unfreed h x t own xs c why is other
