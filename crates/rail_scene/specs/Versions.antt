-- The versions of the scene format.
use Rattle.std.specs.Prelude.{ℕ, ◌==◌, if◌then◌else◌, Option, Some, None}
use Rattle.rail_scene.specs.declared.versions.Version.{Version}
use Rattle.rail_scene.specs.declared.versions.Version.TheVariants.{One, Two}

-- the newest version
abbrev pub newest : Version
newest = Two

-- the number by which the root of a scene file names its version
abbrev pub version_number : Version → ℕ
version_number One = 1
version_number Two = 2

-- the version that a number names, if one does
abbrev pub version_named : ℕ → Option Version
version_named number =
    if number == version_number One then Some One
    else if number == version_number Two then Some Two
    else None
