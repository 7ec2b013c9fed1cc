use Rattle.std.proofs.Common.{◌≡◌, ℕ, ◌+◌, ◌<◌, List, [], ◌∷◌, ◌++◌, length, take, get_or, ◌∙◌, ap, sym, arith, append_assoc}
use Rattle.std.specs.List.{flat_map}
use Rattle.std.proofs.lemmas.List.{take_all, take_more, flat_map_more}
use Rattle.rail_routes.specs.declared.items.Step.{Step}
use Rattle.rail_scene_text.proofs.tables.push_steps.Goals as goal

abbrev passed : Step → List (List ℕ)
passed step = step.section ∷ step.to ∷ []

-- one step more: its section, and the joint at its end
one_more : (first names more both : List (List ℕ)) (steps : List Step) (i : ℕ) (step : Step) → i < length steps → step ≡ get_or steps i step
    → names ≡ first ++ flat_map passed (take i steps) → more ≡ names ++ step.section ∷ [] → both ≡ more ++ step.to ∷ []
    → both ≡ first ++ flat_map passed (take (i + 1) steps)
one_more first names more both steps i step within is so_far section to =
    to ∙ ap (λ xs. xs ++ step.to ∷ []) section ∙ append_assoc names (step.section ∷ []) (step.to ∷ []) ∙ ap (λ xs. xs ++ passed step) so_far
    ∙ flat_map_more passed first (take i steps) step
    ∙ ap (λ xs. first ++ flat_map passed xs) (ap (λ x. take i steps ++ x ∷ []) is ∙ sym (take_more steps i step within))

pub loop-step-preserved : goal.loop-step-preserved
loop-step-preserved c =
    one_more c.args.names.now.items c.loop-step.names.items c.push.new.self.items c.push-in-loop-step.new.self.items c.args.steps.now c.loop-step.step-index c.step-item.result
    c.loop-step-test.true c.step-item.is c.loop-step.invariant c.in_ok-push.ensures.items c.in_ok-push-2.ensures.items

pub returns : goal.returns
returns c =
    c.loop-step.invariant ∙ ap (λ steps. c.args.names.now.items ++ flat_map passed steps) (take_all c.loop-step.step-index c.args.steps.now (omega arith))
