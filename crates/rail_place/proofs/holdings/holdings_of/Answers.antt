use Rattle.std.proofs.Common.{◌≡◌, ℕ, ◌+◌, ◌<◌, length, get_or, sym, ap, ◌∙◌, subst, arith}
use Rattle.std.proofs.Common.{List}
use Rattle.rail_base.specs.declared.limits.TheConstants.{SECTIONS}
use Rattle.rail_rules.specs.Moves.{Moves}
use Rattle.rail_place.specs.declared.holdings.Holding.{Holding}
use Rattle.rail_place.specs.declared.holdings.Holding.TheVariants.{Free}
use Rattle.rail_place.specs.Tables.{moves_in}
use Rattle.rail_place.specs.Holdings.{TellsBelow}
use Rattle.rail_place.proofs.Taking.{tells_on, length-taken_up}
use Rattle.rail_place.proofs.holdings.holdings_of.Goals as goal

pub loop-number-preserved : goal.loop-number-preserved
loop-number-preserved c =
    let plan : Moves = moves_in c.args.moves.now in
    let s = c.args.positions.now in
    let hs = c.loop-number.holdings.items in
    let xs = c.stand.result.now in
    let P : List Holding → Type 0 = λ h. (x : ℕ) → x < SECTIONS → TellsBelow plan s x (c.loop-number.number + 1) (get_or h x Free) in
    record {
      room = ap length c.take_up.ensures ∙ length-taken_up hs xs c.loop-number.number ∙ c.loop-number.invariant.room;
      told = subst P (sym c.take_up.ensures) (λ x lt. tells_on plan s hs x c.loop-number.number xs (omega (arith, c.loop-number.invariant.room)) c.stand.ensures.sections (c.loop-number.invariant.told x lt));
    }

pub returns-clause-told : goal.returns-clause-told
returns-clause-told c =
    let plan : Moves = moves_in c.args.moves.now in
    let all : c.loop-number.number ≡ length c.args.positions.now = omega arith in
    λ x lt.
    let P : ℕ → Type 0 = λ n. TellsBelow plan c.args.positions.now x n (get_or c.loop-number.holdings.items x Free) in
    subst P all (c.loop-number.invariant.told x lt)
