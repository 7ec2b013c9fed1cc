use Rattle.std.proofs.Common.{◌≡◌, ℕ, List, length, get_or, replicate, ap, ◌∙◌, arith}
use Rattle.std.proofs.lemmas.List.{length-replicate}
use Rattle.rail_rules.specs.Moves.{Moves}
use Rattle.rail_rules.specs.Places.{place_of}
use Rattle.rail_place.specs.Tables.{moves_in}
use Rattle.rail_consequence.proofs.Counts.{counted_none, zeros_at}
use Rattle.rail_consequence.proofs.tally.NeedTally.new.Goals as goal

-- every train is outside
all_outside : (xs : List ℕ) (n t : ℕ) → xs ≡ replicate n 0 → place_of xs t ≡ 0
all_outside xs n t zeros = ap (λ ys. get_or ys t 0) zeros ∙ zeros_at n t

pub returns-clause-kept : goal.returns-clause-kept
returns-clause-kept c =
    let plan : Moves = moves_in c.args.moves.now in
    let n : ℕ = c.from-trains.result in
    let zeros : c.in_ok-copies.field-0.items ≡ replicate n 0 = c.in_ok-copies.ensures.rows in
    let outside : (t : ℕ) → place_of c.in_ok-copies.field-0.items t ≡ 0 = λ t. all_outside c.in_ok-copies.field-0.items n t zeros in
    record {
      long = ap length zeros ∙ length-replicate {A = ℕ} n 0 ∙ omega (arith, c.from-trains.ensures, c.trains.ensures.count);
      within = λ t lt. omega (arith, outside t);
      counted = counted_none plan c.in_ok-copies.field-0.items c.in_ok-new.field-0 outside c.in_ok-new.ensures;
    }

pub returns-clause-outside : goal.returns-clause-outside
returns-clause-outside c = λ t. all_outside c.in_ok-copies.field-0.items c.from-trains.result t c.in_ok-copies.ensures.rows
