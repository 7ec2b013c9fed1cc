use Rattle.rail_stairs.proofs.Rooms.{room_for}
use Rattle.rail_stairs.proofs.laws.a_lawful_line_finds_room.Goals as goal

pub returns : goal.returns
returns c = room_for
