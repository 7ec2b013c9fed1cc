use Rattle.std.proofs.Common.{◌≡◌, ℕ, true, List, Option, None, option_copied, sym, ap, subst, ◌∙◌}
use Rattle.rail_base.proofs.CallerLemmas.{passed_up}
use Rattle.rail_base.specs.Refusals.{AnswersFirst}
use Rattle.rail_base.specs.declared.plant.Tables.{Tables}
use Rattle.rail_base.specs.declared.refusals.Refusal.{Refusal}
use Rattle.rail_rules.specs.Accepted.{is_accepted, is_accepted_input}
use Rattle.rail_rules.specs.Plant.{Plant}
use Rattle.rail_scene.specs.declared.scene.Scene.{Scene}
use Rattle.rail_scene.specs.SpelledScenes.{spelled_scene}
use Rattle.rail_input.specs.Inputs.{calls_refusal, commands_of, force_of, input_refusal, orders_refusal, plant_in, plant_refusal, policy_refusal, with_timetable}
use Rattle.rail_input.proofs.FileOrder.{behind_none, fine_input}
use Rattle.rail_input.proofs.inputs.read_input.Goals as goal

-- where neither the scene nor its plant, its policy or the timetable is refused, the commands decide
left_to_commands : (bytes : List ℕ) (timetable commands : Option (List ℕ)) (deck : List (List ℕ)) (scene : Scene) (plant called : Plant)
    → scene ≡ spelled_scene bytes → plant ≡ plant_in bytes → called.tables ≡ plant.tables
    → plant_refusal bytes ≡ None → policy_refusal scene.policy deck ≡ None → calls_refusal plant.tables timetable ≡ None
    → input_refusal bytes timetable commands deck ≡ orders_refusal called.tables commands
left_to_commands bytes timetable commands deck scene plant called scene_is plant_is kept no_plant no_policy no_calls =
    let tables : plant.tables ≡ (plant_in bytes).tables = ap (λ (p : Plant). p.tables) plant_is in
    behind_none _ _ no_plant
    ∙ behind_none _ _ (ap (λ (s : Scene). policy_refusal s.policy deck) (sym scene_is) ∙ no_policy)
    ∙ behind_none _ _ (ap (λ t. calls_refusal t timetable) (sym tables) ∙ no_calls)
    ∙ ap (λ t. orders_refusal t commands) (sym tables ∙ sym kept)

pub returns-in_err-commands-clause-refused : goal.returns-in_err-commands-clause-refused
returns-in_err-commands-clause-refused c =
    let left = left_to_commands c.args.scene.now (option_copied c.args.timetable) (option_copied c.args.commands) c.args.deck.now c.in_ok-scene.field-0.scene c.in_ok-scene.field-0.plant c.in_ok-plant.plant
    c.in_ok-scene.ensures.scene c.in_ok-scene.ensures.plant c.in_ok-plant.ensures.tables
    c.in_ok-scene.ensures.accepted c.in_ok-force.ensures.accepted c.in_ok-plant.ensures.accepted in
    passed_up c.from_residual-in_err-commands.result c.in_err-commands.field-0.0 (AnswersFirst (input_refusal c.args.scene.now (option_copied c.args.timetable) (option_copied c.args.commands) c.args.deck.now)) c.from_residual-in_err-commands.ensures.1
    (subst (λ (first : Option Refusal). AnswersFirst first c.in_err-commands.field-0.0) (sym left) c.in_err-commands.ensures.refused)

pub returns-clause-accepted : goal.returns-clause-accepted
returns-clause-accepted c =
    left_to_commands c.args.scene.now (option_copied c.args.timetable) (option_copied c.args.commands) c.args.deck.now c.in_ok-scene.field-0.scene c.in_ok-scene.field-0.plant c.in_ok-plant.plant
    c.in_ok-scene.ensures.scene c.in_ok-scene.ensures.plant c.in_ok-plant.ensures.tables
    c.in_ok-scene.ensures.accepted c.in_ok-force.ensures.accepted c.in_ok-plant.ensures.accepted
    ∙ c.in_ok-commands.ensures.accepted

pub returns-clause-commands : goal.returns-clause-commands
returns-clause-commands c =
    c.in_ok-commands.ensures.commands
    ∙ ap (λ (tables : Tables). commands_of tables (option_copied c.args.commands)) (c.in_ok-plant.ensures.tables ∙ ap (λ (p : Plant). p.tables) c.in_ok-scene.ensures.plant)

pub returns-clause-fine : goal.returns-clause-fine
returns-clause-fine c few distinct =
    let bytes : List ℕ = c.args.scene.now in
    let timetable : Option (List ℕ) = option_copied c.args.timetable in
    let plant : c.in_ok-plant.plant ≡ with_timetable (plant_in bytes) timetable = c.in_ok-plant.ensures.plant ∙ ap (λ (p : Plant). with_timetable p timetable) c.in_ok-scene.ensures.plant in
    let commands = returns-clause-commands c in
    let force : c.in_ok-force.force ≡ force_of (spelled_scene bytes).policy c.args.deck.now =
    c.in_ok-force.ensures.force ∙ ap (λ (s : Scene). force_of s.policy c.args.deck.now) c.in_ok-scene.ensures.scene in
    let valid : is_accepted c.in_ok-plant.plant ≡ true = c.in_ok-plant.ensures.valid (ap is_accepted c.in_ok-scene.ensures.plant ∙ c.in_ok-scene.ensures.valid) in
    let deck : List (List ℕ) = c.args.deck.now in
    sym (λ i. is_accepted_input (record { plant = plant i; commands = commands i; deck = deck; force = force i }))
    ∙ fine_input (record { plant = c.in_ok-plant.plant; commands = c.in_ok-commands.commands.items; deck = deck; force = c.in_ok-force.force })
    valid c.in_ok-commands.ensures.few c.in_ok-commands.ensures.in_range few distinct c.in_ok-force.ensures.in_range
