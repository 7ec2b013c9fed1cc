-- The line that is written for an answer.
use Rattle.std.specs.Prelude.{ℕ, ◌==◌, cond, List, [], ◌∷◌, ◌++◌, map, codes, decimal}
use Rattle.rail_base.specs.Refusals.{number_of}
use Rattle.rail_rules.specs.Texts.{Item, behind, items_of}
use Rattle.rail_scene.specs.declared.scene.Scene.{Scene}
use Rattle.rail_text.specs.Names.{NameLists, section_name, train_name}
use Rattle.rail_track.specs.declared.section.Section.{Section}
use Rattle.rail_reroute.specs.Proposals.{train_names}
use Rattle.rail_reroute.specs.declared.judgements.Judged.{Judged}
use Rattle.rail_reroute.specs.declared.judgements.Judged.TheVariants as judged

-- the names of the scene's sections and trains, in the order of their numbers
abbrev pub scene_names : Scene → NameLists
scene_names scene = record {
  sections = map (λ (section : Section). section.name) scene.network.sections;
  trains = train_names scene;
}

-- an item of a list is spelled TRAIN, or TRAIN*COUNT from two on
abbrev pub item_word : NameLists → Item → List ℕ
item_word names item = train_name names item.train ++ cond (item.count == 1) [] (42 ∷ decimal item.count)

-- the words of an answer, but for its list
abbrev pub head_words : NameLists → Judged → List (List ℕ)
head_words names judged.Out = codes "out" ∷ []
head_words names (judged.Refused why place) = codes "refused" ∷ decimal (number_of why) ∷ decimal place ∷ []
head_words names (judged.Overlap x t u) = codes "overlap" ∷ section_name names x ∷ train_name names t ∷ train_name names u ∷ []
head_words names judged.NoList = codes "nolist" ∷ []
head_words names (judged.List list) = codes "list" ∷ []

-- the words of its list
abbrev pub list_words : NameLists → Judged → List (List ℕ)
list_words names (judged.List list) = map (item_word names) (items_of list)
list_words names answer = []

-- the words of an answer
abbrev pub judged_words : NameLists → Judged → List (List ℕ)
judged_words names answer = head_words names answer ++ list_words names answer

-- the line for the answer to the proposal on line n
abbrev pub judged_line : NameLists → ℕ → Judged → List ℕ
judged_line names n answer = codes "line" ++ behind (decimal n ∷ judged_words names answer) ++ 10 ∷ []
