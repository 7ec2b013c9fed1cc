-- One step of the loops that add items.
use Rattle.std.proofs.Common.{◌≡◌, ℕ, ◌+◌, ◌<◌, List, [], ◌∷◌, ◌++◌, map, length, drop, get_or, None, sym, ap, subst, ◌∙◌, append_assoc}
use Rattle.std.proofs.lemmas.List.{at_drop_more}
use Rattle.toml.specs.Data.{Data}
use Rattle.toml.specs.View.{view}
use Rattle.toml.specs.declared.value.Value.{Value}
use Rattle.rail_base.specs.declared.refusals.Fault.{Fault}
use Rattle.rail_track.specs.declared.section.NetFault.{NetFault}
use Rattle.rail_base.specs.declared.refusals.Refusal.{Refusal}
use Rattle.rail_base.specs.FirstRefusals.{Test, first_failing}
use Rattle.rail_track.specs.NetFaults.{Answers}
use Rattle.rail_scene.specs.SceneItems.{SceneItems}
use Rattle.rail_scene.specs.declared.keys.Key.{Key}
use Rattle.rail_scene.specs.declared.keys.ListPart.{ListPart}
use Rattle.rail_scene.specs.declared.keys.ListPart.TheVariants.{Section, Portal, Signal, Board, Turn, Route, Kind, Train}
use Rattle.rail_scene.specs.declared.versions.Version.{Version}
use Rattle.rail_scene.specs.Keys.{list_key, part_of}
use Rattle.rail_scene.specs.Fields.{elements_at}
use Rattle.rail_scene.specs.Entries.{section_of, portal_of, signal_of, board_of, turn_of, route_of, kind_of, train_of}
use Rattle.rail_scene.specs.SceneItems.{item_tests, with_items}
use Rattle.rail_base.specs.Refusals.{AnswersFirst}
use Rattle.rail_scene.specs.Order.{located, list_values, values_of, with_lists, fault_at, item_number}
use Rattle.rail_scene.proofs.Segments.{passed_on, scene_before}
use Rattle.rail_scene.proofs.Locating.{located_none, answers_located}
use Rattle.rail_scene.proofs.Views.{view_more}

-- a table, then the others, are all of them
pub with_more : (part : ListPart) (version : Version) (node : Data) (nodes : List Data) (draft : SceneItems) → with_items part version nodes (with_items part version (node ∷ []) draft) ≡ with_items part version (node ∷ nodes) draft
with_more Section version node nodes draft = ap (λ xs. record draft { network = record draft.network { sections = xs } }) (append_assoc draft.network.sections (section_of node ∷ []) (map section_of nodes))
with_more Portal version node nodes draft = ap (λ xs. record draft { network = record draft.network { portals = xs } }) (append_assoc draft.network.portals (portal_of node ∷ []) (map portal_of nodes))
with_more Signal version node nodes draft = ap (λ xs. record draft { network = record draft.network { signals = xs } }) (append_assoc draft.network.signals (signal_of node ∷ []) (map signal_of nodes))
with_more Board version node nodes draft = ap (λ xs. record draft { network = record draft.network { boards = xs } }) (append_assoc draft.network.boards (board_of node ∷ []) (map board_of nodes))
with_more Turn version node nodes draft = ap (λ xs. record draft { network = record draft.network { turns = xs } }) (append_assoc draft.network.turns (turn_of node ∷ []) (map turn_of nodes))
with_more Route version node nodes draft = ap (λ xs. record draft { network = record draft.network { routes = xs } }) (append_assoc draft.network.routes (route_of version node ∷ []) (map (route_of version) nodes))
with_more Kind version node nodes draft = ap (λ xs. record draft { kinds = xs }) (append_assoc draft.kinds (kind_of node ∷ []) (map kind_of nodes))
with_more Train version node nodes draft = ap (λ xs. record draft { trains = xs }) (append_assoc draft.trains (train_of node ∷ []) (map train_of nodes))

module _ (part : ListPart) (version : Version) (draft : SceneItems) (tables : List Value) (i : ℕ) (table : Value) (within : i < length tables) (is : table ≡ get_or tables i table) where
  abbrev own : List (Test NetFault)
  own = item_tests part version draft (view table)

  abbrev next : SceneItems
  next = with_items part version (view table ∷ []) draft

  abbrev rest : List (Test Refusal)
  rest = list_values part version (i + 1 + 1) next (map view (drop (i + 1) tables))

  more : first_failing (list_values part version (i + 1) draft (map view (drop i tables))) ≡ first_failing (located (part_of part) (i + 1) own ++ rest)
  more = view_more (λ ys. first_failing (list_values part version (i + 1) draft ys)) tables i table within is

  pub value_stop : (fault : NetFault) → Answers (first_failing own) fault → AnswersFirst (first_failing (list_values part version (i + 1) draft (map view (drop i tables)))) (fault_at (part_of part) (item_number (i + 1)) fault)
  value_stop fault answers =
      let placed = fault_at (part_of part) (item_number (i + 1)) fault in
      subst (λ first. AnswersFirst first placed) (sym more) (scene_before (located (part_of part) (i + 1) own) rest placed (answers_located (part_of part) (i + 1) own fault answers))

  pub value_pass : first_failing own ≡ None → first_failing (list_values part version (i + 1) draft (map view (drop i tables))) ≡ first_failing rest
  value_pass none = more ∙ passed_on (located (part_of part) (i + 1) own) rest (located_none (part_of part) (i + 1) own none)

  pub draft_pass : with_items part version (map view (drop i tables)) draft ≡ with_items part version (map view (drop (i + 1) tables)) next
  draft_pass = view_more (λ ys. with_items part version ys draft) tables i table within is ∙ sym (with_more part version (view table) (map view (drop (i + 1) tables)) draft)

module _ (version : Version) (root : Data) (draft : SceneItems) (parts : List ListPart) (i : ℕ) (d : ListPart) (within : i < length parts) where
  abbrev part : ListPart
  part = get_or parts i d

  module _ (key : Key) (nodes : List Data) (has : key ≡ list_key part) (are : nodes ≡ elements_at key root) where
    stand : nodes ≡ elements_at (list_key part) root
    stand = are ∙ ap (λ k. elements_at k root) has

    abbrev later : List (Test Refusal)
    later = values_of version root (with_items part version nodes draft) (drop (i + 1) parts)

    unfolded : first_failing (values_of version root draft (drop i parts)) ≡ first_failing (list_values part version 1 draft nodes ++ later)
    unfolded =
        at_drop_more (λ ys. first_failing (values_of version root draft ys)) parts i d within
        ∙ ap (λ ys. first_failing (list_values part version 1 draft ys ++ values_of version root (with_items part version ys draft) (drop (i + 1) parts))) (sym stand)

    pub values_stop : (fault : Fault) → AnswersFirst (first_failing (list_values part version 1 draft nodes)) fault → AnswersFirst (first_failing (values_of version root draft (drop i parts))) fault
    values_stop fault answers = subst (λ first. AnswersFirst first fault) (sym unfolded) (scene_before (list_values part version 1 draft nodes) later fault answers)

    pub values_pass : first_failing (list_values part version 1 draft nodes) ≡ None → first_failing (values_of version root draft (drop i parts)) ≡ first_failing later
    values_pass none = unfolded ∙ passed_on (list_values part version 1 draft nodes) later none

    pub lists_pass : with_lists version root (drop i parts) draft ≡ with_lists version root (drop (i + 1) parts) (with_items part version nodes draft)
    lists_pass =
        at_drop_more (λ ys. with_lists version root ys draft) parts i d within
        ∙ ap (λ ys. with_lists version root (drop (i + 1) parts) (with_items part version ys draft)) (sym stand)
