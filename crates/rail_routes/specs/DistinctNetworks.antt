-- Distinct networks.
use Rattle.std.specs.Prelude.{ℕ, ◌+◌, ◌≤◌, List, length, count_by}
use Rattle.rail_base.specs.Limits.{most, Posts, Turns, Routes}
use Rattle.rail_track.specs.SoundTracks.{IsSoundTrack}
use Rattle.rail_routes.specs.Net.{Net, is_post, is_turn, is_route, stands_at, guards_at}

-- a network is distinct where its track is sound, no list is past its limit, and no name, place or pair is taken twice
pub record IsDistinctNetwork (net : Net) : Type 0 where
  pub track : IsSoundTrack net.sections
  pub few_posts : length net.portals + length net.signals + length net.boards ≤ most Posts
  pub few_turns : length net.turns ≤ most Turns
  pub few_routes : length net.routes ≤ most Routes
  pub posts_by_name : (name : List ℕ) →
      count_by (is_post name) net.portals + count_by (is_post name) net.signals + count_by (is_post name) net.boards ≤ 1
  pub ends_by_joint : (joint : List ℕ) → count_by (stands_at joint) net.portals + count_by (stands_at joint) net.boards ≤ 1
  pub signals_by_place : (joint ahead : List ℕ) → count_by (guards_at joint ahead) net.signals ≤ 1
  pub turns_by_posts : (arriving leaving : List ℕ) → count_by (is_turn arriving leaving) net.turns ≤ 1
  pub routes_by_name : (name : List ℕ) → count_by (is_route name) net.routes ≤ 1
