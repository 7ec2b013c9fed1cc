use Rattle.std.proofs.Common.{◌≡◌, map, sym, ap, ◌∙◌, subst}
use Rattle.std.specs.List.{list_all}
use Rattle.rail_base.specs.declared.plant.Tables.{Tables}
use Rattle.rail_plan.specs.PlanFaults.{IsPlannable}
use Rattle.rail_compile.specs.Itineraries.{section_row, train_row, tables_of, with_trains}
use Rattle.rail_compile.specs.RowTypes.{is_named_row, is_typed_row}
use Rattle.rail_compile.proofs.Tables.{plannable}
use Rattle.rail_compile.proofs.compiling.spelling.tables_of.Goals as goal

pub returns-clause-plannable : goal.returns-clause-plannable
returns-clause-plannable c =
    let scene = with_trains c.args.scene.now c.args.trains.now in
    let sections : c.in_ok-sections.sections.items ≡ map section_row scene.network.sections = c.in_ok-sections.ensures.rows ∙ ap (map section_row) c.sections.ensures.sections in
    let trains : c.in_ok-trains.trains.items ≡ map (train_row scene) scene.trains = c.in_ok-trains.ensures.rows in
    let P : Tables → Type 0 = λ tables. IsPlannable tables in
    let spelled : Tables = record { sections = c.from_vec.result; release = scene.release; overlap_time = scene.overlap_time; depth = scene.depth; trains = c.from_vec-2.result } in
    let same : spelled ≡ tables_of scene = λ i. record { sections = (c.from_vec.ensures ∙ sections) i; release = scene.release; overlap_time = scene.overlap_time; depth = scene.depth; trains = (c.from_vec-2.ensures ∙ trains) i } in
    subst P (sym same)
    (plannable scene c.requires.scene c.sections.ensures.sound c.in_ok-trains.ensures.accepted
    (ap (list_all is_named_row) (sym sections) ∙ c.in_ok-sections.ensures.named)
    (ap (list_all is_typed_row) (sym trains) ∙ c.in_ok-trains.ensures.typed))
