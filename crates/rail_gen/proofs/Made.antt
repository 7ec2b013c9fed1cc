-- The scene of each number is one, and is accepted.
use Rattle.std.proofs.Common.{◌≡◌, ℕ, ◌+◌, ◌<◌, true, None, ap, ◌∙◌, arith}
use Rattle.rand_pcg.specs.Lcg.{Lcg}
use Rattle.rail_scene.specs.Scenes.{IsScene}
use Rattle.rail_scene.specs.declared.scene.Scene.{Scene}
use Rattle.rail_compile.specs.Refusals.{compile_refusal}
use Rattle.rail_gen.specs.AcceptedNetworks.{is_accepted_in_order}
use Rattle.rail_gen.specs.MadeScenes.{drawn, generator_of, trains_from, line_scene, made_scene}
use Rattle.rail_gen.proofs.MadeTrains.{all_made, trains_count, trains_apart, is_scene}
use Rattle.rail_gen.proofs.Compiled.{compiled}
use Rattle.rail_gen.proofs.LineAccepted.{line_accepted}

module _ (stations trains : ℕ) (few : stations < 7) (many : trains < 29) (generator : Lcg) where
  pub line_is_scene : IsScene (line_scene (2 + stations) (trains_from (2 + stations) 1 (4 + trains) generator))
  line_is_scene =
      let counted = trains_count (2 + stations) 1 (4 + trains) generator in
      is_scene (2 + stations) (omega arith) (trains_from (2 + stations) 1 (4 + trains) generator) (all_made (2 + stations) 1 (4 + trains) generator)
      (omega (arith, counted)) (trains_apart (2 + stations) 1 (4 + trains) generator (omega arith))

  pub line_compiled : compile_refusal (line_scene (2 + stations) (trains_from (2 + stations) 1 (4 + trains) generator)) ≡ None
  line_compiled = compiled (2 + stations) (omega arith) (omega arith) (trains_from (2 + stations) 1 (4 + trains) generator) (all_made (2 + stations) 1 (4 + trains) generator)

drawn_below : (modulus : ℕ) (generator : Lcg) → 0 < modulus → (drawn modulus generator).0 < modulus
drawn_below modulus generator some = omega arith

pub made_is_scene : (number : ℕ) → IsScene (made_scene number)
unfolding made_scene
made_is_scene number =
    let stations = drawn 7 (generator_of number) in
    let trains = drawn 29 stations.1 in
    line_is_scene stations.0 trains.0 (drawn_below 7 (generator_of number) (omega arith)) (drawn_below 29 stations.1 (omega arith)) trains.1

pub made_compiled : (number : ℕ) → compile_refusal (made_scene number) ≡ None
unfolding made_scene
made_compiled number =
    let stations = drawn 7 (generator_of number) in
    let trains = drawn 29 stations.1 in
    line_compiled stations.0 trains.0 (drawn_below 7 (generator_of number) (omega arith)) (drawn_below 29 stations.1 (omega arith)) trains.1

pub made_accepted : (number : ℕ) → is_accepted_in_order (made_scene number).network ≡ true
unfolding made_scene
made_accepted number =
    let few = drawn_below 7 (generator_of number) (omega arith) in
    line_accepted (2 + (drawn 7 (generator_of number)).0) (omega arith) (omega (arith, few))

-- what is put together from the words in order is the scene of the number
pub scene_made : (number : ℕ) (generator first second : Lcg) (stations trains : ℕ) (scene : Scene) → generator ≡ generator_of number
    → stations ≡ (drawn 7 generator).0 → first ≡ (drawn 7 generator).1 → trains ≡ (drawn 29 first).0 → second ≡ (drawn 29 first).1
    → scene ≡ line_scene (2 + stations) (trains_from (2 + stations) 1 (4 + trains) second) → scene ≡ made_scene number
unfolding made_scene
scene_made number generator first second stations trains scene seeded few left many rest is =
    let few_of = few ∙ ap (λ g. (drawn 7 g).0) seeded in
    let left_of = left ∙ ap (λ g. (drawn 7 g).1) seeded in
    let many_of = many ∙ ap (λ g. (drawn 29 g).0) left_of in
    let rest_of = rest ∙ ap (λ g. (drawn 29 g).1) left_of in
    is ∙ (λ i. line_scene (2 + few_of i) (trains_from (2 + few_of i) 1 (4 + many_of i) (rest_of i)))
