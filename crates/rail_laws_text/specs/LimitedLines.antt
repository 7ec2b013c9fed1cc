-- Lines whose numbers are within the limits of a scene and of its commands.
use Rattle.std.specs.Prelude.{ℕ, Bool, true, ◌&&◌, nat_le, List, length}
use Rattle.rail_base.specs.Limits.{is_from_one, most, Commands, FreshTrains, ItineraryRoutes}
use Rattle.rail_base.specs.declared.history.Note.{Note}
use Rattle.rail_base.specs.declared.history.Note.TheVariants.{Fresh}
use Rattle.rail_base.specs.declared.history.What.{What}
use Rattle.rail_base.specs.declared.history.What.TheVariants.{Arrive, Enter, Ready, Told, Untold, Admit, Hold}

-- a fresh list has one train or more, and no more than there are moves
abbrev pub is_limited_note : Note → List ℕ → Bool
is_limited_note Fresh trains = is_from_one (most FreshTrains) (length trains)
is_limited_note _ trains = true

-- the number of a move is within those of an itinerary, that of a command within those of a run, and a fresh list within
-- the moves of a plant
abbrev pub is_limited_what : What → List ℕ → Bool
is_limited_what (Arrive t m) trains = nat_le m (most ItineraryRoutes)
is_limited_what (Enter t m x) trains = nat_le m (most ItineraryRoutes)
is_limited_what (Ready t m) trains = nat_le m (most ItineraryRoutes)
is_limited_what (Told k) trains = nat_le k (most Commands)
is_limited_what (Untold k) trains = nat_le k (most Commands)
is_limited_what (Admit t m note) trains = nat_le m (most ItineraryRoutes) && is_limited_note note trains
is_limited_what (Hold t m why) trains = nat_le m (most ItineraryRoutes)
is_limited_what _ trains = true
