use Rattle.std.proofs.Common.{◌<◌, ◌^◌, ◌∙◌, ap, arith}
use Rattle.toml.specs.Data.{string}
use Rattle.toml.proofs.Views.{view-String}
use Rattle.rail_scene_text.proofs.Texts.{time_utf8}
use Rattle.rail_scene_text.proofs.values.time_value.Goals as goal

pub returns : goal.returns
returns c =
    let fits : c.args.time < 2 ^ 64 = omega arith in
    view-String c.in_ok-from_utf8_lossy.field-0
    ∙ ap string (c.in_ok-from_utf8_lossy.ensures.ok (rw c.write_time-len.ensures.text (time_utf8 c.args.time fits)) ∙ c.write_time-len.ensures.text)
