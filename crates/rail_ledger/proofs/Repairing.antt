-- Whether the repaired list completes, by what is kept.
use Rattle.std.proofs.Common.{◌≡◌, ℕ, ◌<◌, cond, eqb, List, ap, ◌∙◌}
use Rattle.rail_rules.specs.Causes.{is_repairable}
use Rattle.rail_rules.specs.Fronts.{Front, kept, places, with_rest_of, without_first}
use Rattle.rail_rules.specs.Places.{after, completes}
use Rattle.rail_rules.specs.Plant.{Plant, moves_of, trains}
use Rattle.rail_laws_front.proofs.CallerLemmas.{place_in}
use Rattle.rail_place.specs.Tables.{moves_in, MoveLists}
use Rattle.rail_list.specs.Repairs.{is_repairable_for}
use Rattle.rail_ledger.specs.declared.ledger.Ledger.{Ledger}
use Rattle.rail_ledger.specs.Inputs.{input_in}
use Rattle.rail_ledger.specs.Ledgers.{IsAt}

-- the repaired list completes by the places and the kept list where it does by the front
pub repairable_at : (table : List MoveLists) (front : Front) (ledger : Ledger) (t : ℕ) → moves_in table ≡ moves_of ledger.input.plant → IsAt front ledger → t < trains ledger.input.plant
    → is_repairable_for (moves_in table) ledger.places.positions ledger.kept.trains t ≡ is_repairable (input_in ledger.input) front t
repairable_at table front ledger t same at known =
    let plant : Plant = ledger.input.plant in
    (λ i. is_repairable_for (same i) (at.placed.positions i) (at.keeps.is_list i) t)
    ∙ ap (λ p. completes (moves_of plant) (after (places plant front) t) (cond (eqb p 0) (with_rest_of plant t (kept plant front)) (without_first t (kept plant front)))) (place_in plant front t known)
