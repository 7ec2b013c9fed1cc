-- The form `reroute`: what each proposal leads to that a train takes other routes from where it stands.
use Rattle.std.specs.Prelude.{◌≡◌, ◌≢◌, ℕ, false, flat_map, List, [], ◌∷◌, Option, Some, None}
use Rattle.rail_base.specs.declared.refusals.Refusal.{Refusal}
use Rattle.rail_rules.specs.Numbers.{or_else}
use Rattle.rail_io.specs.Writes.{Adds, AddsPrefix}
use Rattle.rail_input.specs.Inputs.{plant_in, plant_refusal}
use Rattle.rail_scene.specs.SpelledScenes.{spelled_scene}
use Rattle.rail_scene.specs.declared.scene.Scene.{Scene}
use Rattle.rail_reroute.specs.Judgements.{IsJudged}
use Rattle.rail_reroute.specs.Lines.{judged_line, scene_names}
use Rattle.rail_reroute.specs.Proposals.{proposals_in, proposals_refusal, route_names, train_names}
use Rattle.rail_reroute.specs.declared.proposals.Proposal.{Proposal}
use Rattle.rail_command_line.specs.declared.files.FileRole.TheVariants as role
use Rattle.rail_forms.specs.declared.reroute.Answered.{Answered}
use Rattle.rail_forms.specs.declared.status.Status.{Status}
use Rattle.rail_forms.specs.declared.status.Status.TheVariants.{Refused}
use Rattle.rail_forms.specs.Answers.{Decides, IsAnswer, Told}
use Rattle.rail_forms.specs.Files.{too_large, too_many_bytes}
use Rattle.rail_forms.specs.Plays.{list_refusal, listed_for}
use Rattle.rail_command_line.specs.Forms.{SceneAndTwo}
use Rattle.rail_forms.specs.Terms.{Terms, is_done, never}

-- the answer is right for the proposal, and told at its line
pub record IsAnswered (scene : Scene) (s : List ℕ) (proposal : Proposal) (answer : Answered) : Type 0 where
  pub line : answer.line ≡ proposal.line
  pub right : IsJudged scene s proposal.train proposal.routes answer.judged

-- each answer is right for its proposal, and each proposal has one, in their order
abbrev pub AreAnswered : Scene → List ℕ → List Proposal → List Answered → Type 0
AreAnswered scene s [] [] = Unit {0}
AreAnswered scene s [] (answer ∷ answers) = ⊥
AreAnswered scene s (proposal ∷ proposals) [] = ⊥
AreAnswered scene s (proposal ∷ proposals) (answer ∷ answers) =
    IsAnswered scene s proposal answer × AreAnswered scene s proposals answers

-- the line of an answer
abbrev pub answered_line : Scene → Answered → List ℕ
answered_line scene answer = judged_line (scene_names scene) answer.line answer.judged

-- a line for each answer
abbrev pub answered_text : Scene → List Answered → List ℕ
answered_text scene answers = flat_map (answered_line scene) answers

-- what was added is the lines of right answers, one for each proposal in its order
pub record Judges (scene : Scene) (s : List ℕ) (proposals : List Proposal) (adds : List ℕ → Type 0) : Type 0 where
  pub answers : List Answered
  pub right : AreAnswered scene s proposals answers
  pub added : adds (answered_text scene answers)

-- what is judged: the proposals of a file, for the scene that the bytes spell and the places of a list
abbrev pub JudgesFiles : List ℕ → List ℕ → List ℕ → (List ℕ → Type 0) → Type 0
JudgesFiles bytes list proposals adds = let scene = spelled_scene bytes in
    Judges scene (listed_for (plant_in bytes) list).positions (proposals_in (train_names scene) proposals) adds

-- why the scene, the places and the proposals are refused: no line of the list may move a train
abbrev pub reroute_refusal : List ℕ → List ℕ → List ℕ → Option Refusal
reroute_refusal bytes list proposals = let scene = spelled_scene bytes in
    or_else (plant_refusal bytes) (or_else (list_refusal (plant_in bytes) false list)
    (proposals_refusal (train_names scene) (route_names scene) proposals))

-- what is answered to the three files
pub record AnswersReroute (scene list proposals : List ℕ) (told : Told) (before now : Option (List ℕ)) (status : Status) : Type 0 where
  -- where the bytes of all are told
  pub all : (bytes places lines : List ℕ) → told scene ≡ Some bytes → told list ≡ Some places → told proposals ≡ Some lines
      → IsAnswer (or_else (too_large role.Scene bytes) (or_else (too_large role.List places) (or_else (too_large role.Proposals lines)
      (reroute_refusal bytes places lines))))
      (JudgesFiles bytes places lines (Adds before now)) (JudgesFiles bytes places lines (AddsPrefix before now)) status
  -- where those of the scene are told, whatever the other files are: the size of the scene's file, and behind those of the
  -- other files the refusals of the scene
  pub of_size : (bytes : List ℕ) → told scene ≡ Some bytes → Decides (too_large role.Scene bytes) status
  pub of_scene : (bytes : List ℕ) → told scene ≡ Some bytes → status ≢ Refused (too_many_bytes role.List)
      → status ≢ Refused (too_many_bytes role.Proposals) → Decides (or_else (too_large role.Scene bytes) (plant_refusal bytes)) status

-- the bytes of a scene, of a list and of proposals are told, and nothing is refused
pub record AreAcceptedProposals (files : SceneAndTwo) (told : Told) : Type 0 where
  pub bytes : List ℕ
  pub places : List ℕ
  pub lines : List ℕ
  pub scene_told : told files.scene ≡ Some bytes
  pub places_told : told files.list ≡ Some places
  pub lines_told : told files.proposals ≡ Some lines
  pub fine : or_else (too_large role.Scene bytes) (or_else (too_large role.List places) (or_else (too_large role.Proposals lines)
      (reroute_refusal bytes places lines))) ≡ None

-- the terms of `reroute`
abbrev pub reroute_terms : Terms SceneAndTwo
reroute_terms = record {
  answers = λ files deck told before now status. AnswersReroute files.scene files.list files.proposals told before now status;
  accepted = λ files deck told. AreAcceptedProposals files told;
  done = is_done;
  alone = never;
}
