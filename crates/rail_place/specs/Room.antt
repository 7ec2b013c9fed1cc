-- The room that places keep: for any number of trains within the limits and for all sections, and no more.
use Rattle.std.specs.Prelude.{◌≡◌, ℕ, ◌<◌, ◌≤◌, ◌^◌, Option, length, vec_capacity}
use Rattle.std.specs.Global.{Vec}
use Rattle.rail_base.specs.declared.limits.TheConstants.{SECTIONS, TRAINS}

-- room for the trains, an entry for each section and no room beside, and a count that fits its type
pub record IsRoomy (positions : Vec ℕ) (owners : Vec (Option ℕ)) (played : ℕ) : Type 0 where
  pub room : vec_capacity positions ≡ TRAINS
  pub few : length positions.items ≤ TRAINS
  pub sections : length owners.items ≡ SECTIONS
  pub full : vec_capacity owners ≡ SECTIONS
  pub counted : played < 2 ^ 64
