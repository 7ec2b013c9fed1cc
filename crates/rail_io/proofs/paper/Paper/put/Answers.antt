-- A piece that fits the room is told behind the bytes before it.
use Rattle.std.proofs.Common.{arith, rules}
use Rattle.rail_io.proofs.Told.{told_put}
use Rattle.rail_io.proofs.paper.Paper.put.Goals as goal

pub returns-clause-told : goal.returns-clause-told
returns-clause-told c =
    let counted = c.args.self.now.bytes.ok in
    told_put c.args.self.now.is_full c.args.self.now.room _ _ _ c.if-self.false (omega arith) (search rules)
