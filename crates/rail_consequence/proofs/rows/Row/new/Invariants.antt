use Rattle.std.proofs.Common.{◌≡◌, ◌+◌, ◌-◌, vec_capacity}
use Rattle.rail_place.specs.Tables.{moves_in}
use Rattle.rail_consequence.specs.Needs.{needs_from}
use Rattle.rail_consequence.specs.Needs.{IsSet}
use Rattle.rail_consequence.proofs.SetLemmas.{IsRowBack}
use Rattle.rail_consequence.proofs.rows.Row.new.Given as goal

abbrev pub invariant-loop-back : goal.invariant-loop-back
invariant-loop-back l = record {
  row : IsRowBack (moves_in l.moves) l.train l.back l.places.items;
  later : IsSet l.later (needs_from (moves_in l.moves) l.train (l.last + 1 - l.back));
  room : vec_capacity l.places ≡ l.last + 1;
}
