-- The form `infra`: the counts of a scene, and its routes.
use Rattle.std.specs.Prelude.{◌≡◌, ℕ, List, [], ◌∷◌, ◌++◌, length, flat_map, sum_by, codes, decimal, Option, Some, None}
use Rattle.std.specs.Option.{option_map_or}
use Rattle.rail_rules.specs.Numbers.{or_else}
use Rattle.rail_track.specs.declared.section.Section.{Section}
use Rattle.rail_track.specs.Joints.{section_named}
use Rattle.rail_routes.specs.declared.items.Route.{Route}
use Rattle.rail_routes.specs.declared.items.Step.{Step}
use Rattle.rail_routes.specs.Net.{Net}
use Rattle.rail_scene.specs.declared.scene.Scene.{Scene}
use Rattle.rail_scene.specs.SpelledScenes.{spelled_scene}
use Rattle.rail_rules.specs.Texts.{behind}
use Rattle.rail_command_line.specs.declared.files.FileRole.TheVariants as role
use Rattle.rail_forms.specs.declared.status.Status.{Status}
use Rattle.rail_input.specs.Inputs.{plant_refusal}
use Rattle.rail_forms.specs.Answers.{IsTextAnswer, Told}
use Rattle.rail_forms.specs.Files.{too_large}
use Rattle.rail_forms.specs.Terms.{Terms, is_done, never}

-- a word and the number of the things that it counts
abbrev pub count_words : List ℕ → ℕ → List (List ℕ)
count_words word n = word ∷ decimal n ∷ []

-- how many sections and posts the network has
abbrev pub section_and_post_counts : Net → List (List ℕ)
section_and_post_counts net =
    count_words (codes "sections") (length net.sections) ++ count_words (codes "portals") (length net.portals)
    ++ count_words (codes "signals") (length net.signals) ++ count_words (codes "boards") (length net.boards)

-- how many turns and routes
abbrev pub turn_and_route_counts : Net → List (List ℕ)
turn_and_route_counts net = count_words (codes "turns") (length net.turns) ++ count_words (codes "routes") (length net.routes)

-- how many train kinds and trains the scene has
abbrev pub train_counts : Scene → List (List ℕ)
train_counts scene = count_words (codes "kinds") (length scene.kinds) ++ count_words (codes "trains") (length scene.trains)

-- the line of the counts
unfoldable pub counts_line : Scene → List ℕ
counts_line scene =
    codes "infra" ++ behind (section_and_post_counts scene.network) ++ behind (turn_and_route_counts scene.network)
    ++ behind (train_counts scene) ++ 10 ∷ []

-- the metres of the section of a step
abbrev pub step_length : List Section → Step → ℕ
step_length sections step = option_map_or (λ (section : Section). section.length) (section_named step.section sections) 0

-- the metres of the sections of a route together
abbrev pub route_length : List Section → Route → ℕ
route_length sections route = sum_by (step_length sections) route.steps

-- the line of a route: its name, its first and last post, its metres and how many sections it has
unfoldable pub route_line : List Section → Route → List ℕ
route_line sections route =
    codes "route" ++ behind (route.name ∷ route.from ∷ route.to ∷ decimal (route_length sections route)
    ∷ decimal (length route.steps) ∷ []) ++ 10 ∷ []

-- the lines of the routes
abbrev pub route_lines : List Section → List Route → List ℕ
route_lines sections routes = flat_map (route_line sections) routes

-- the counts, and a line for each route
unfoldable pub infra_text : Scene → List ℕ
infra_text scene = counts_line scene ++ route_lines scene.network.sections scene.network.routes

-- the counts and routes of the scene, where the bytes of its file are told
abbrev pub AnswersInfra : List ℕ → Told → Option (List ℕ) → Option (List ℕ) → Status → Type 0
AnswersInfra scene told before now status = (bytes : List ℕ) → told scene ≡ Some bytes
    → IsTextAnswer (or_else (too_large role.Scene bytes) (plant_refusal bytes)) (infra_text (spelled_scene bytes)) before now status

-- the terms of `infra`
abbrev pub infra_terms : Terms (List ℕ)
infra_terms = record {
  answers = λ scene deck told before now status. AnswersInfra scene told before now status;
  accepted = λ scene deck told. (bytes : List ℕ) × (told scene ≡ Some bytes)
      × (or_else (too_large role.Scene bytes) (plant_refusal bytes) ≡ None);
  done = is_done;
  alone = never;
}
