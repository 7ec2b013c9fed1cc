-- How a track is stored: its sections, and the number of sections at each joint.
use Rattle.std.specs.Prelude.{◌≡◌, ℕ, List}
use Rattle.rail_track.specs.declared.track.Track.TheInside.{Inside}
use Rattle.rail_base.specs.NameForms.{same_name}
use Rattle.rail_track.specs.KeyCounts.{times}
use Rattle.rail_track.specs.Joints.{sections_at}
use Rattle.rail_track.specs.SoundTracks.{IsSoundTrack}

-- the track is sound, and each joint is counted once for each section that it is in
pub record IsTrackInside (a : Inside) : Type 0 where
  pub sound : IsSoundTrack a.sections
  pub counted : (joint : List ℕ) → times same_name a.uses joint ≡ sections_at a.sections joint
