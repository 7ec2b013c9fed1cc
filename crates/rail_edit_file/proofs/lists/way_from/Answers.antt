use Rattle.std.proofs.Common.{◌≡◌, List, ◌∷◌, ◌++◌, Option, None, false, option_map, refl, sym, ap, ◌∙◌}
use Rattle.rail_rules.specs.Numbers.{same_numbers}
use Rattle.rail_routes.specs.declared.items.Step.{Step}
use Rattle.rail_text.specs.Lines.{words}
use Rattle.rail_edit_file.specs.declared.lists.Way.{Way}
use Rattle.rail_edit_file.specs.EditLines.{is_slash, way_from}
use Rattle.rail_edit_file.proofs.Steps.{one_more_step}
use Rattle.rail_edit_file.proofs.lists.way_from.Goals as goal

pub loop-word-preserved : goal.loop-word-preserved
loop-word-preserved c =
    let steps : List Step = c.loop-word.steps.items in
    let step : Step = c.in-Some-step.step in
    let other : is_slash c.in-Some.word.now ≡ false = ap (same_numbers c.in-Some.word.now) (sym c.as_slice.ensures) ∙ sym c.if-eq.ensures in
    let behind : Option Way → Option Way = option_map (λ (way : Way). record way { steps = steps ++ way.steps }) in
    one_more_step steps c.push.new.self.items step (way_from step.to (words c.in-Some-step.rest.now)) c.in_ok-push.ensures.items
    ∙ ap behind (sym (c.in-Some-step.ensures.way other))
    ∙ ap (λ ws. behind (way_from c.loop-word.from ws)) (sym c.in-Some.ensures.words)
    ∙ c.loop-word.invariant

pub returns-in_default-step : goal.returns-in_default-step
returns-in_default-step c =
    let steps : List Step = c.loop-word.steps.items in
    let other : is_slash c.in-Some.word.now ≡ false = ap (same_numbers c.in-Some.word.now) (sym c.as_slice.ensures) ∙ sym c.if-eq.ensures in
    let behind : Option Way → Option Way = option_map (λ (way : Way). record way { steps = steps ++ way.steps }) in
    sym (ap behind (ap (way_from c.loop-word.from) c.in-Some.ensures.words ∙ c.in_default-step.ensures.way other)) ∙ c.loop-word.invariant
