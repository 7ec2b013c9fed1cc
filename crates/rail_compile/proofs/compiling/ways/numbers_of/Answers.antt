use Rattle.std.proofs.Common.{◌≡◌, true, is_some, ap, ◌∙◌}
use Rattle.std.specs.List.{list_any}
use Rattle.rail_track.specs.Joints.{is_named}
use Rattle.rail_compile.specs.Ways.{is_known_step}
use Rattle.rail_compile.proofs.Finds.{position_some, all_read}
use Rattle.rail_compile.proofs.compiling.ways.numbers_of.Goals as goal

pub unwrap-index-requires : goal.unwrap-index-requires
unwrap-index-requires c =
    let net = c.args.network.now in
    let step = c.step-item.result in
    let known : list_any (is_named step.section) net.sections ≡ true =
    all_read (is_known_step net.sections) c.args.steps.now c.loop-step.step-index step c.requires c.loop-step-test.true c.step-item.is in
    ap is_some c.section_index.ensures ∙ position_some (is_named step.section) net.sections known
