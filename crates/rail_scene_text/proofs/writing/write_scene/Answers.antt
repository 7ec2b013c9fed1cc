use Rattle.std.proofs.Common.{◌≡◌, Some, string_bytes}
use Rattle.std.proofs.lemmas.Str.{IsUtf8-string_bytes}
use Rattle.toml.specs.Parse.{parse_document}
use Rattle.rail_scene_text.specs.Tables.{scene_members}
use Rattle.rail_scene_text.proofs.Depths.{shallow}
use Rattle.rail_scene_text.proofs.Whole.{accepted, same, versioned}
use Rattle.rail_scene_text.proofs.writing.write_scene.Goals as goal

pub returns-in-Ok-clause-accepted : goal.returns-in-Ok-clause-accepted
returns-in-Ok-clause-accepted c =
    let scene = c.args.scene.now in
    let read : parse_document (string_bytes c.in-Ok.text) ≡ Some (scene_members scene) = rw c.in_ok-root.ensures.table at c.in-Ok.ensures.reads_back (shallow scene) in
    rw c.into_bytes.ensures.value
    (accepted scene c.a_text_stands_for_one_time.ensures c.requires.kept c.in_ok-root.ensures.typed c.sections-sections.ensures.sound (string_bytes c.in-Ok.text) (IsUtf8-string_bytes c.in-Ok.text) read)

pub returns-in-Ok-clause-same : goal.returns-in-Ok-clause-same
returns-in-Ok-clause-same c =
    let scene = c.args.scene.now in
    let read : parse_document (string_bytes c.in-Ok.text) ≡ Some (scene_members scene) = rw c.in_ok-root.ensures.table at c.in-Ok.ensures.reads_back (shallow scene) in
    rw c.into_bytes.ensures.value
    (same scene c.a_text_stands_for_one_time.ensures c.requires.kept c.in_ok-root.ensures.typed c.sections-sections.ensures.sound (string_bytes c.in-Ok.text) (IsUtf8-string_bytes c.in-Ok.text) read)

pub returns-in-Ok-clause-text : goal.returns-in-Ok-clause-text
returns-in-Ok-clause-text c = rw c.into_bytes.ensures.value (rw c.in_ok-root.ensures.table at c.in-Ok.ensures.text)

pub returns-in-Ok-clause-version : goal.returns-in-Ok-clause-version
returns-in-Ok-clause-version c =
    let scene = c.args.scene.now in
    let read : parse_document (string_bytes c.in-Ok.text) ≡ Some (scene_members scene) = rw c.in_ok-root.ensures.table at c.in-Ok.ensures.reads_back (shallow scene) in
    rw c.into_bytes.ensures.value
    (versioned scene c.a_text_stands_for_one_time.ensures c.requires.kept c.in_ok-root.ensures.typed c.sections-sections.ensures.sound (string_bytes c.in-Ok.text) (IsUtf8-string_bytes c.in-Ok.text) read)
