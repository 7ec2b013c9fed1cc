use Rattle.std.proofs.Common.{ℕ, ◌<◌, ◌≤◌, arith}
use Rattle.rail_rules.specs.Moves.{Moves}
use Rattle.rail_place.specs.Tables.{moves_in}
use Rattle.rail_consequence.proofs.Counts.{recounted_down, recounted_up}
use Rattle.rail_consequence.proofs.needs.recount.Goals as goal

pub returns-then-first-last : goal.returns-then-first-last
returns-then-first-last g c =
    let plan : Moves = moves_in c.args.moves.now in
    let first : ℕ = c.place_or_last-first.result in
    let last : ℕ = c.place_or_last-last.result in
    let before : first < last = c.if-first-last.true in
    let some : 0 < first = c.place_or_last-first.ensures.entered (omega (arith, before, c.place_or_last-last.ensures.within)) in
    let earlier : first ≤ last = omega (arith, before) in
    recounted_down plan c.args.train first last some earlier c.rest.result.now c.rest-then-first-last.result.now c.rest.ensures.set c.rest-then-first-last.ensures.set c.args.from c.args.to c.args.needs.now c.count_down.new.self
    c.place_or_last-first.ensures.alike c.place_or_last-last.ensures.alike c.count_down.ensures

pub returns-then-last-first : goal.returns-then-last-first
returns-then-last-first g c =
    let plan : Moves = moves_in c.args.moves.now in
    let first : ℕ = c.place_or_last-first.result in
    let last : ℕ = c.place_or_last-last.result in
    let before : last < first = c.if-last-first.true in
    let some : 0 < last = c.place_or_last-last.ensures.entered (omega (arith, before, c.place_or_last-first.ensures.within)) in
    let earlier : last ≤ first = omega (arith, before) in
    recounted_up plan c.args.train last first some earlier c.rest-then-last-first.result.now c.rest-then-last-first-2.result.now c.rest-then-last-first.ensures.set c.rest-then-last-first-2.ensures.set c.args.from c.args.to c.args.needs.now c.count_up.new.self
    c.place_or_last-first.ensures.alike c.place_or_last-last.ensures.alike c.count_up.ensures
