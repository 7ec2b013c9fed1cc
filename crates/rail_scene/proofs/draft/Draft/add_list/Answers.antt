use Rattle.std.proofs.Common.{◌≡◌, ◌+◌, map, drop, sym, ap, subst, ◌∙◌}
use Rattle.toml.specs.View.{view}
use Rattle.rail_base.specs.FirstRefusals.{first_failing}
use Rattle.rail_scene.specs.SceneItems.{SceneItems}
use Rattle.rail_scene.specs.Keys.{part_of}
use Rattle.rail_scene.specs.SceneItems.{with_items}
use Rattle.rail_base.specs.Refusals.{AnswersFirst}
use Rattle.rail_scene.specs.Order.{fault_at, item_number, list_values}
use Rattle.rail_scene.proofs.Drafting.{value_stop, value_pass, draft_pass}
use Rattle.rail_scene.proofs.draft.Draft.add_list.Goals as goal

pub returns-in-Err-clause-refused : goal.returns-in-Err-clause-refused
returns-in-Err-clause-refused c =
    let part = c.args.part in
    let i = c.loop-index.index in
    let fault = c.in-Err.fault in
    let stops = value_stop part c.args.version c.loop-index.self c.args.tables.now i c.index-tables-index.result c.loop-index-test.true c.index-tables-index.is fault c.in-Err.ensures.refused in
    let placed : c.located.result ≡ fault_at (part_of part) (item_number (i + 1)) fault = c.located.ensures ∙ (λ k. fault_at (c.part.ensures k) (c.item_number.ensures k) fault) in
    let same = c.loop-index.invariant.0 ∙ ap (λ (draft : SceneItems). first_failing (list_values part c.args.version 1 draft (map view c.args.tables.now))) c.reserve.ensures in
    rw placed (subst (λ first. AnswersFirst first (fault_at (part_of part) (item_number (i + 1)) fault)) same stops)

pub loop-index-preserved : goal.loop-index-preserved
loop-index-preserved c =
    let part = c.args.part in
    let tables = c.args.tables.now in
    let i = c.loop-index.index in
    let table = c.index-tables-index.result in
    let draft = c.loop-index.self in
    let added = c.in-Ok.ensures.added in (
      ap (λ (next : SceneItems). first_failing (list_values part c.args.version (i + 1 + 1) next (map view (drop (i + 1) tables)))) added
          ∙ sym (value_pass part c.args.version draft tables i table c.loop-index-test.true c.index-tables-index.is c.in-Ok.ensures.accepted)
          ∙ c.loop-index.invariant.0,
      ap (λ (next : SceneItems). with_items part c.args.version (map view (drop (i + 1) tables)) next) added
          ∙ sym (draft_pass part c.args.version draft tables i table c.loop-index-test.true c.index-tables-index.is)
          ∙ c.loop-index.invariant.1,
    )
