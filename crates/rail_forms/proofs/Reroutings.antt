-- What is answered to proposals, one after another.
use Rattle.std.proofs.Common.{◌≡◌, ℕ, ◌+◌, ◌<◌, ◌≤◌, true, false, ◌&&◌, nat_lt, List, [], ◌∷◌, ◌++◌, length, get_or, take, Option, Some, None, ap, ◌∙◌, subst, sym, arith}
use Rattle.std.specs.List.{list_all}
use Rattle.std.proofs.lemmas.Bool.{and_parts, ltb-true}
use Rattle.std.proofs.lemmas.List.{length-map, take_more}
use Rattle.std.proofs.lemmas.Option.{none-some}
use Rattle.rail_base.specs.declared.refusals.Refusal.{Refusal}
use Rattle.rail_input.specs.Inputs.{plant_in, plant_refusal}
use Rattle.rail_compile.proofs.CallerLemmas.{all_at}
use Rattle.rail_compile.specs.Itineraries.{plant_of_scene, train_row}
use Rattle.rail_compile.specs.Refusals.{are_known, compile_refusal}
use Rattle.rail_reroute.specs.Proposals.{is_ready, proposals_in, proposals_refusal, route_names, train_names}
use Rattle.rail_reroute.specs.declared.proposals.Proposal.{Proposal}
use Rattle.rail_rules.specs.Moves.{Moves}
use Rattle.rail_rules.specs.Numbers.{or_else}
use Rattle.rail_rules.specs.Places.{is_valid_state, place_of}
use Rattle.rail_rules.specs.Plant.{Plant, moves, moves_of, trains}
use Rattle.rail_rules.proofs.CallerLemmas.{state_parts}
use Rattle.rail_scene.specs.Order.{scene_refusal}
use Rattle.rail_scene.specs.SpelledScenes.{spelled_scene}
use Rattle.rail_scene.specs.declared.scene.Scene.{Scene}
use Rattle.rail_text.specs.Lines.{lines_of}
use Rattle.rail_text.specs.Names.{names_of}
use Rattle.rail_command_line.specs.ListAnswers.{ReadList, read_of}
use Rattle.rail_command_line.specs.Lists.{listed_in}
use Rattle.rail_forms.specs.declared.reroute.Answered.{Answered}
use Rattle.rail_forms.specs.Plays.{list_refusal, listed_for, places_refusal}
use Rattle.rail_forms.specs.Reroutes.{AreAnswered, IsAnswered, JudgesFiles, answered_text, reroute_refusal}

-- one answer more
pub one_more_answered : (scene : Scene) (s : List ℕ) (proposals : List Proposal) (answers : List Answered) (proposal : Proposal) (answer : Answered)
    → AreAnswered scene s proposals answers → IsAnswered scene s proposal answer → AreAnswered scene s (proposals ++ proposal ∷ []) (answers ++ answer ∷ [])
one_more_answered scene s [] [] proposal answer all is = (is, tt)
one_more_answered scene s [] (first ∷ answers) proposal answer all is = absurd all
one_more_answered scene s (first ∷ proposals) [] proposal answer all is = absurd all
one_more_answered scene s (first ∷ proposals) (given ∷ answers) proposal answer all is = (all.0, one_more_answered scene s proposals answers proposal answer all.1 is)

-- the first proposals with one more of them
pub next_answered : (scene : Scene) (s : List ℕ) (proposals : List Proposal) (k : ℕ) (answers after : List Answered) (proposal : Proposal) (answer : Answered)
    → k < length proposals → proposal ≡ get_or proposals k proposal → AreAnswered scene s (take k proposals) answers → after ≡ answers ++ answer ∷ []
    → IsAnswered scene s proposal answer → AreAnswered scene s (take (k + 1) proposals) after
next_answered scene s proposals k answers after proposal answer lt at all pushed is =
    subst (λ (made : List Answered). AreAnswered scene s (take (k + 1) proposals) made) (sym pushed)
    (subst (λ (ps : List Proposal). AreAnswered scene s ps (answers ++ answer ∷ []))
    (ap (λ (p : Proposal). take k proposals ++ p ∷ []) at ∙ sym (take_more proposals k proposal lt))
    (one_more_answered scene s (take k proposals) answers proposal answer all is))

-- a valid state has a place for each train, within its moves
module _ (scene : Scene) (s : List ℕ) (valid : is_valid_state (moves_of (plant_of_scene scene)) s ≡ true) where
  pub as_many : length s ≡ length scene.trains
  as_many = (state_parts (moves_of (plant_of_scene scene)) s valid).long ∙ length-map scene.trains (train_row scene)

  pub within : (t : ℕ) → t < length scene.trains → place_of s t ≤ moves (plant_of_scene scene) t
  within t lt = (state_parts (moves_of (plant_of_scene scene)) s valid).within t (omega (arith, lt, as_many))

-- what is ready to be judged
pub record IsReady (scene : Scene) (proposal : Proposal) : Type 0 where
  pub train : proposal.train < length scene.trains
  pub some : 0 < length proposal.routes
  pub known : are_known scene.network proposal.routes ≡ true

pub ready_parts : (scene : Scene) (proposal : Proposal) → is_ready scene proposal ≡ true → IsReady scene proposal
ready_parts scene proposal is =
    let both = and_parts (nat_lt proposal.train (length scene.trains) && nat_lt 0 (length proposal.routes)) (are_known scene.network proposal.routes) is in
    let first = and_parts (nat_lt proposal.train (length scene.trains)) (nat_lt 0 (length proposal.routes)) both.0 in
    record {
      train = ltb-true proposal.train (length scene.trains) first.0;
      some = ltb-true 0 (length proposal.routes) first.1;
      known = both.1;
    }

-- each of those that are ready is
pub ready_at : (scene : Scene) (proposals : List Proposal) (k : ℕ) (proposal : Proposal) → k < length proposals → proposal ≡ get_or proposals k proposal
    → list_all (is_ready scene) proposals ≡ true → is_ready scene proposal ≡ true
ready_at scene proposals k proposal lt at all = ap (is_ready scene) at ∙ all_at (is_ready scene) proposals k proposal all lt

-- a scene that is accepted has a plant
pub compiled_scene : (bytes : List ℕ) (scene : Scene) → scene ≡ spelled_scene bytes → plant_refusal bytes ≡ None → compile_refusal scene ≡ None
compiled_scene bytes scene same none =
    subst (λ (s : Scene). compile_refusal s ≡ None) (sym same) (last_none (scene_refusal bytes) (compile_refusal (spelled_scene bytes)) none)
  where
    last_none : (a b : Option Refusal) → or_else a b ≡ None → b ≡ None
    last_none None b none = none
    last_none (Some refusal) b none = absurd (none-some refusal (sym none))

-- the places of a list are a valid state of the plant that the scene has
pub valid_places : (bytes : List ℕ) (scene : Scene) (plant : Plant) (plan : Moves) (s positions : List ℕ) → scene ≡ spelled_scene bytes → plant ≡ plant_in bytes → plan ≡ moves_of plant → s ≡ positions
    → is_valid_state plan s ≡ true → is_valid_state (moves_of (plant_of_scene scene)) positions ≡ true
valid_places bytes scene plant plan s positions same plant_is plan_is at valid =
    let there : plan ≡ moves_of (plant_of_scene scene) = plan_is ∙ ap moves_of plant_is ∙ ap (λ (read : Scene). moves_of (plant_of_scene read)) (sym same) in
    subst (λ (m : Moves). is_valid_state m positions ≡ true) there (subst (λ (xs : List ℕ). is_valid_state plan xs ≡ true) at valid)

-- the refusals of a list are those of the plant's trains
pub list_same : (bytes list : List ℕ) (plant : Plant) (names : List (List ℕ)) (plan : Moves) (count : ℕ) → plant ≡ plant_in bytes → names ≡ (names_of plant).trains → plan ≡ moves_of plant → count ≡ trains plant
    → places_refusal names plan count false list ≡ list_refusal (plant_in bytes) false list
list_same bytes list plant names plan count plant_is names_are plan_is count_is =
    (λ i. places_refusal (names_are i) (plan_is i) (count_is i) false list) ∙ ap (λ (p : Plant). list_refusal p false list) plant_is

-- what was judged is told of the files
pub files_judged : (bytes list lines : List ℕ) (scene : Scene) (plant : Plant) (names : List (List ℕ)) (count : ℕ) (file : ReadList) (answers : List Answered) (X : List ℕ → Type 0)
    → scene ≡ spelled_scene bytes → plant ≡ plant_in bytes → names ≡ (names_of plant).trains → count ≡ trains plant → file ≡ read_of names count (lines_of list)
    → AreAnswered scene file.positions (proposals_in (train_names scene) lines) answers → X (answered_text scene answers) → JudgesFiles bytes list lines X
files_judged bytes list lines scene plant names count file answers X same plant_is names_are count_is listed right added =
    let at : file.positions ≡ (listed_for (plant_in bytes) list).positions = ap (λ (read : ReadList). read.positions) listed
    ∙ (λ i. (listed_in (names_are i) (count_is i) list).positions) ∙ ap (λ (p : Plant). (listed_for p list).positions) plant_is in
    record {
      answers = answers;
      right = subst (λ (read : Scene). AreAnswered read (listed_for (plant_in bytes) list).positions (proposals_in (train_names read) lines) answers) same
          (subst (λ (s : List ℕ). AreAnswered scene s (proposals_in (train_names scene) lines) answers) at right);
      added = subst (λ (read : Scene). X (answered_text read answers)) same added;
    }

-- where nothing else is refused, the refusals of the files are those of the proposals
pub only_proposals : (bytes list lines : List ℕ) (scene : Scene) → scene ≡ spelled_scene bytes → plant_refusal bytes ≡ None → list_refusal (plant_in bytes) false list ≡ None
    → reroute_refusal bytes list lines ≡ proposals_refusal (train_names scene) (route_names scene) lines
only_proposals bytes list lines scene same none fine =
    let rest : Option Refusal = proposals_refusal (train_names (spelled_scene bytes)) (route_names (spelled_scene bytes)) lines in
    ap (λ (o : Option Refusal). or_else o (or_else (list_refusal (plant_in bytes) false list) rest)) none ∙ ap (λ (o : Option Refusal). or_else o rest) fine
    ∙ ap (λ (read : Scene). proposals_refusal (train_names read) (route_names read) lines) (sym same)
