-- Files of proposals: what they spell, and why they are refused.
use Rattle.std.specs.Prelude.{ℕ, Bool, false, not, ◌&&◌, nat_lt, nat_le, is_some, List, [], ◌∷◌, drop, get_or, length, map, Option, unwrap_or}
use Rattle.std.specs.List.{flat_map, list_all}
use Rattle.rail_base.specs.FirstRefusals.{Test, first_failing}
use Rattle.rail_base.specs.NameForms.{is_name}
use Rattle.rail_base.specs.declared.refusals.Refusal.{Refusal}
use Rattle.rail_base.specs.declared.refusals.Reason.TheVariants.{RerouteForm, RerouteName}
use Rattle.rail_compile.specs.Refusals.{are_known}
use Rattle.rail_routes.specs.declared.items.Route.{Route}
use Rattle.rail_scene.specs.declared.scene.Scene.{Scene}
use Rattle.rail_scene.specs.declared.scene.SceneTrain.{SceneTrain}
use Rattle.rail_text.specs.Lines.{Line, lines_of, number_of_name, refused_line}
use Rattle.rail_reroute.specs.declared.proposals.Proposal.{Proposal}

-- the names of the scene's trains, in the order of their numbers
abbrev pub train_names : Scene → List (List ℕ)
train_names scene = map (λ (train : SceneTrain). train.name) scene.trains

-- the names of the scene's routes, in their order
abbrev pub route_names : Scene → List (List ℕ)
route_names scene = map (λ (route : Route). route.name) scene.network.routes

-- a line proposes a way: the name of a train, and the name of one route or more
abbrev pub is_proposal : List (List ℕ) → Bool
is_proposal words = nat_le 2 (length words) && list_all is_name words

-- one of these has the name
abbrev pub is_in_names : List (List ℕ) → List ℕ → Bool
is_in_names names name = is_some (number_of_name names name)

-- a train has the first name, and routes have the others
abbrev pub are_in : List (List ℕ) → List (List ℕ) → List (List ℕ) → Bool
are_in trains routes [] = false
are_in trains routes (train ∷ names) = is_in_names trains train && list_all (is_in_names routes) names

-- the tests of a line, in their order
abbrev pub line_tests : List (List ℕ) → List (List ℕ) → Line → List (Test Refusal)
line_tests trains routes line =
    refused_line RerouteForm line.number (not (is_proposal line.words))
    ∷ refused_line RerouteName line.number (not (are_in trains routes line.words))
    ∷ []

-- why lines are refused
abbrev pub lines_refusal : List (List ℕ) → List (List ℕ) → List Line → Option Refusal
lines_refusal trains routes lines = first_failing (flat_map (line_tests trains routes) lines)

-- why a file of proposals is refused, for trains and routes of these names
abbrev pub proposals_refusal : List (List ℕ) → List (List ℕ) → List ℕ → Option Refusal
proposals_refusal trains routes bytes = lines_refusal trains routes (lines_of bytes)

-- the proposal of a line that passes its tests
abbrev pub proposal_on : List (List ℕ) → Line → Proposal
proposal_on trains line = record {
  line = line.number;
  train = unwrap_or (number_of_name trains (get_or line.words 0 [])) 0;
  routes = drop 1 line.words;
}

-- the proposals of lines
abbrev pub proposals_on : List (List ℕ) → List Line → List Proposal
proposals_on trains lines = map (proposal_on trains) lines

-- the proposals of a file
abbrev pub proposals_in : List (List ℕ) → List ℕ → List Proposal
proposals_in trains bytes = proposals_on trains (lines_of bytes)

-- the proposal can be judged: its train is one of the scene's, and its routes are some and known
abbrev pub is_ready : Scene → Proposal → Bool
is_ready scene proposal = nat_lt proposal.train (length scene.trains) && nat_lt 0 (length proposal.routes)
    && are_known scene.network proposal.routes
