use Rattle.std.proofs.Common.{◌≡◌, ℕ, ◌+◌, ◌∷◌, [], ◌++◌, true, Some, List, take, drop, refl, sym, ap, ◌∙◌, subst, arith}
use Rattle.std.proofs.lemmas.List.{take_more, length-take-le}
use Rattle.rail_rules.specs.Moves.{Moves}
use Rattle.rail_rules.specs.Places.{is_inside, is_legal, after}
use Rattle.rail_place.specs.Tables.{moves_in}
use Rattle.rail_place.specs.Bars.{bar_in_list, moves_made, outcome}
use Rattle.rail_place.specs.Plays.{IsPlayed}
use Rattle.rail_place.proofs.Playing.{played_push, played_few, made_one, made_none, outcome_one, bar_from_move, barred_stops}
use Rattle.rail_place.proofs.player.play_on.Goals as goal

pub loop-made-init : goal.loop-made-init
loop-made-init c = record {
  made = c.requires.made;
  moves = refl;
  count = omega arith;
  played = omega (arith, c.requires.made.counted);
  answer = refl;
}

pub returns-in-Err-clause-few : goal.returns-in-Err-clause-few
returns-in-Err-clause-few c =
    let few = played_few c.args.moves.now c.args.places.now (take c.loop-made.made c.args.list.now) c.loop-made.places.positions c.requires.made c.loop-made.invariant.moves in
    omega (arith, few, length-take-le c.loop-made.made c.args.list.now (omega arith))

pub returns-in-Err-clause-count : goal.returns-in-Err-clause-count
returns-in-Err-clause-count c =
    let plan : Moves = moves_in c.args.moves.now in
    let s = c.loop-made.places.positions in
    let t = c.index-list-made.result in
    let barred : bar_in_list plan s t ≡ Some c.in-Err.why = c.in-Err.ensures.exact in
    omega (arith, c.loop-made.invariant.count, made_none plan s c.args.list.now c.loop-made.made t c.loop-made-test.true c.index-list-made.is (barred_stops plan s t c.in-Err.why barred))

pub loop-made-preserved : goal.loop-made-preserved
loop-made-preserved c =
    let plan : Moves = moves_in c.args.moves.now in
    let s0 = c.args.places.now.positions in
    let s = c.loop-made.places.positions in
    let xs = c.args.list.now in
    let k = c.loop-made.made in
    let t = c.index-list-made.result in
    let inside : is_inside plan s t ≡ true = c.in_default.ensures.inside in
    let legal : is_legal plan s t ≡ true = c.in_default.ensures.legal in
    let next : c.advance.new.self.positions ≡ after s t = c.advance.ensures.positions in
    let pushed : IsPlayed plan s0 (take k xs ++ t ∷ []) (after s t) = played_push plan s0 (take k xs) s t c.loop-made.invariant.moves inside legal in
    let more : take (k + 1) xs ≡ take k xs ++ t ∷ [] = take_more xs k t c.loop-made-test.true ∙ ap (λ x. take k xs ++ x ∷ []) (sym c.index-list-made.is) in
    let P : List ℕ → Type 0 = λ ys. IsPlayed plan s0 ys c.advance.new.self.positions in
    let Q : List ℕ → Type 0 = λ r. IsPlayed plan s0 (take k xs ++ t ∷ []) r in
    record {
      made = c.advance.ensures.made;
      moves = subst P (sym more) (subst Q (sym next) pushed);
      count = omega (arith, c.loop-made.invariant.count, made_one plan s xs k t c.loop-made-test.true c.index-list-made.is inside legal, ap (λ r. moves_made plan r (drop (k + 1) xs)) next);
      played = omega (arith, c.loop-made.invariant.played, c.advance.ensures.played);
      answer =
          ap (λ r. outcome plan r (k + 1 + 1) (drop (k + 1) xs)) next
          ∙ sym (outcome_one plan s xs (k + 1) k t c.loop-made-test.true c.index-list-made.is (bar_from_move plan s t inside legal))
          ∙ c.loop-made.invariant.answer;
    }

pub returns-clause-few : goal.returns-clause-few
returns-clause-few c =
    let few = played_few c.args.moves.now c.args.places.now (take c.loop-made.made c.args.list.now) c.loop-made.places.positions c.requires.made c.loop-made.invariant.moves in
    omega (arith, few, length-take-le c.loop-made.made c.args.list.now (omega arith))
