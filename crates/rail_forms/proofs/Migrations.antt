-- A text of a scene has the runs of each file that spells the scene.
use Rattle.std.proofs.Common.{◌≡◌, ℕ, List, Option, Some, None, sym, ◌∙◌}
use Rattle.std.proofs.lemmas.Option.{none-some}
use Rattle.rail_base.specs.declared.refusals.Refusal.{Refusal}
use Rattle.rail_rules.specs.Numbers.{or_else}
use Rattle.rail_compile.specs.Itineraries.{plant_of_scene}
use Rattle.rail_compile.specs.Refusals.{compile_refusal}
use Rattle.rail_input.specs.Inputs.{calls_refusal, commands_of, force_of, orders_refusal, plant_refusal, policy_refusal, with_timetable}
use Rattle.rail_scene.specs.Order.{scene_refusal}
use Rattle.rail_scene.specs.SpelledScenes.{spelled_scene}
use Rattle.rail_forms.specs.declared.status.Status.{Status}
use Rattle.rail_forms.specs.declared.status.Status.TheVariants.{Done, Usage, Refused, ReadFault, WriteFault, OutOfMemory, CheckedNo}
use Rattle.rail_forms.specs.Answers.{IsAnswer}
use Rattle.rail_forms.specs.Migration.{HaveSameRuns, Migrates}
use Rattle.rail_forms.specs.SceneTexts.{WritesScene}

second_none : (first second : Option Refusal) → or_else first second ≡ None → second ≡ None
second_none None second none = none
second_none (Some first) second none = absurd (none-some first (sym none))

same_runs : (text bytes : List ℕ) → scene_refusal text ≡ None → plant_refusal bytes ≡ None → spelled_scene text ≡ spelled_scene bytes → HaveSameRuns text bytes
same_runs text bytes accepted fine same =
    let plant : plant_refusal text ≡ plant_refusal bytes =
    (λ i. or_else (accepted i) (compile_refusal (same i))) ∙ second_none (scene_refusal bytes) (compile_refusal (spelled_scene bytes)) fine ∙ sym fine in
    record {
      refusal = λ timetable commands deck i.
          or_else (plant i) (or_else (policy_refusal (same i).policy deck) (or_else (calls_refusal (plant_of_scene (same i)).tables timetable) (orders_refusal (plant_of_scene (same i)).tables commands)));
      input = λ timetable commands deck i. record {
        plant = with_timetable (plant_of_scene (same i)) timetable;
        commands = commands_of (plant_of_scene (same i)).tables commands;
        deck = deck;
        force = force_of (same i).policy deck;
      };
    }

pub migrates : (bytes : List ℕ) (adds : List ℕ → Type 0) → plant_refusal bytes ≡ None → WritesScene (spelled_scene bytes) adds → Migrates bytes adds
migrates bytes adds fine writes = record { writes = writes; runs = same_runs writes.text bytes writes.accepted fine writes.same }

-- what was answered without a refusal, where there is none
pub answered_as : {whole whole' part part' : Type 0} (first : Option Refusal) (status : Status) → first ≡ None → (whole → whole') → (part → part')
    → IsAnswer None whole part status → IsAnswer first whole' part' status
answered_as first Done none f g answer = (none, f answer.1)
answered_as first Usage none f g answer = answer
answered_as first (Refused refusal) none f g answer = none ∙ answer
answered_as first ReadFault none f g answer = tt
answered_as first WriteFault none f g answer = (none, g answer.1)
answered_as first OutOfMemory none f g answer = tt
answered_as first (CheckedNo line law) none f g answer = answer
