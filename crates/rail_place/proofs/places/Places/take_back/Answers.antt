use Rattle.std.proofs.Common.{◌≡◌, ℕ, ◌<◌, ◌∷◌, [], ◌++◌, List, Some, length, sym, ◌∙◌, subst}
use Rattle.std.proofs.lemmas.List.Elements.{All-pop}
use Rattle.rail_rules.specs.Moves.{Moves}
use Rattle.rail_place.specs.Tables.{moves_in}
use Rattle.rail_place.specs.Plays.{IsPlayed}
use Rattle.rail_place.proofs.Playing.{way_last, step_back}
use Rattle.rail_place.proofs.places.Places.take_back.Goals as goal

-- the moves that are left, by the last of them
left_is : (plan : Moves) (s left earlier r : List ℕ) (t : ℕ) → left ≡ earlier ++ t ∷ [] → IsPlayed plan s left r → IsPlayed plan s (earlier ++ t ∷ []) r
left_is plan s left earlier r t same played = let P : List ℕ → Type 0 = λ xs. IsPlayed plan s xs r in subst P same played

pub retreat-requires-clause-moved : goal.retreat-requires-clause-moved
retreat-requires-clause-moved c =
    let plan : Moves = moves_in c.args.moves.now in
    let s = c.requires.moves.0 in
    let r = c.loop-last.self.positions in
    (way_last plan s c.in-Some.earlier.now r c.in-Some.last.now c.requires.made.moves.valid c.requires.moves.1
    (left_is plan s c.loop-last.left.now c.in-Some.earlier.now r c.in-Some.last.now c.in-Some.ensures.cases.0 (c.loop-last.invariant.back s c.requires.moves.2))).2.moved

pub retreat-requires-clause-free : goal.retreat-requires-clause-free
retreat-requires-clause-free c =
    let plan : Moves = moves_in c.args.moves.now in
    let s = c.requires.moves.0 in
    let r = c.loop-last.self.positions in
    (way_last plan s c.in-Some.earlier.now r c.in-Some.last.now c.requires.made.moves.valid c.requires.moves.1
    (left_is plan s c.loop-last.left.now c.in-Some.earlier.now r c.in-Some.last.now c.in-Some.ensures.cases.0 (c.loop-last.invariant.back s c.requires.moves.2))).2.free

pub loop-last-preserved : goal.loop-last-preserved
loop-last-preserved c = record {
  made = c.retreat.ensures.made;
  trains = (All-pop (λ t. t < length c.args.moves.now) c.loop-last.left.now c.in-Some.earlier.now (Some c.in-Some.last.now) c.in-Some.ensures.cases.0 c.loop-last.invariant.trains).0;
  back = λ s played.
      let plan : Moves = moves_in c.args.moves.now in
      let r = c.loop-last.self.positions in
      let P : List ℕ → Type 0 = λ q. IsPlayed plan s c.in-Some.earlier.now q in
      subst P (sym c.retreat.ensures.positions)
      (step_back plan s c.in-Some.earlier.now r c.in-Some.last.now (left_is plan s c.loop-last.left.now c.in-Some.earlier.now r c.in-Some.last.now c.in-Some.ensures.cases.0 (c.loop-last.invariant.back s played)));
  played = c.retreat.ensures.played ∙ c.loop-last.invariant.played;
}
