use Rattle.std.proofs.Common.{subst, true}
use Rattle.rail_rules.specs.Plant.{Plant}
use Rattle.rail_rules.specs.Numbers.{or_else}
use Rattle.rail_io.specs.Writes.{Adds, AddsPrefix}
use Rattle.rail_input.specs.Inputs.{plant_refusal}
use Rattle.rail_forms.specs.Answers.{IsAnswer}
use Rattle.rail_forms.specs.Plays.{list_refusal, play_text}
use Rattle.rail_forms.specs.Promises.{ended}
use Rattle.rail_forms.proofs.Answers.{answer_after}
use Rattle.rail_forms.proofs.play.play_list.Goals as goal

pub returns-clause-answer : goal.returns-clause-answer
returns-clause-answer g c =
    let before = g.O.Sink.written c.args.out.now in
    let now = g.O.Sink.written c.play_on_plant.new.out in
    subst (λ (plant : Plant). IsAnswer (or_else (plant_refusal c.args.bytes.now) (list_refusal plant true c.args.list.now)) (Adds before now (play_text plant c.args.list.now)) (AddsPrefix before now (play_text plant c.args.list.now)) (ended c.play_on_plant.result))
    c.in_ok-planned.ensures.plant (answer_after _ _ _ _ _ c.in_ok-planned.ensures.accepted c.play_on_plant.ensures.answer)
