use Rattle.std.proofs.Common.{◌≡◌, ℕ, ◌<◌, length, get_or}
use Rattle.rail_base.specs.declared.limits.TheConstants.{SECTIONS}
use Rattle.rail_place.specs.Tables.{moves_in}
use Rattle.rail_place.specs.Holdings.{TellsBelow}
use Rattle.rail_place.specs.declared.holdings.Holding.TheVariants.{Free}
use Rattle.rail_place.proofs.holdings.holdings_of.Given as goal

abbrev pub invariant-loop-number : goal.invariant-loop-number
invariant-loop-number l = record {
  room : length l.holdings.items ≡ SECTIONS;
  told : (x : ℕ) → x < SECTIONS → TellsBelow (moves_in l.moves) l.positions x l.number (get_or l.holdings.items x Free);
}
