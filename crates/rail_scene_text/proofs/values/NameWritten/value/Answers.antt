use Rattle.std.proofs.Common.{◌∙◌, ap}
use Rattle.toml.specs.Data.{string}
use Rattle.toml.proofs.Views.{view-String}
use Rattle.rail_scene_text.proofs.Texts.{name_utf8}
use Rattle.rail_scene_text.proofs.values.NameWritten.value.Goals as goal

pub returns-clause-value : goal.returns-clause-value
returns-clause-value c =
    view-String c.in_ok-from_utf8_lossy.field-0
    ∙ ap string (c.in_ok-from_utf8_lossy.ensures.ok (rw c.as_bytes.ensures.value (name_utf8 c.args.self.now c.as_bytes.ensures.name)) ∙ c.as_bytes.ensures.value)
