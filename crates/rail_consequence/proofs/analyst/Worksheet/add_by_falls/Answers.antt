use Rattle.std.proofs.Common.{ℕ, [], sym, ap, ◌∙◌, subst, inl, inr}
use Rattle.std.proofs.lemmas.Bool.{false≢true}
use Rattle.rail_rules.specs.Moves.{Moves}
use Rattle.rail_rules.specs.Places.{is_inside}
use Rattle.rail_place.specs.Tables.{moves_in}
use Rattle.rail_sets.proofs.CallerLemmas.{none_in_zeros}
use Rattle.rail_consequence.specs.Freeing.{FallsInVain, HasFalls, IsLookahead}
use Rattle.rail_consequence.specs.Workspace.{Work}
use Rattle.rail_consequence.proofs.analyst.Worksheet.add_by_falls.Goals as goal
use Rattle.rail_consequence.proofs.analyst.Worksheet.add_by_falls.Goals.{then-is_next-via-then-is_next, then-is_next-via-else-is_next+then-not-stands_inside, then-is_next-via-else-is_next+else-not-stands_inside+then-not-has_pairs, then-is_next-via-else-is_next+else-not-stands_inside+else-not-has_pairs+then-has}

pub falls_are_in_vain-requires-clause-ahead : goal.falls_are_in_vain-requires-clause-ahead
falls_are_in_vain-requires-clause-ahead g c =
    let plan : Moves = moves_in c.args.moves.now in
    let w = c.args.self.now in
    let P : ℕ → Type 0 = λ p. IsLookahead plan w.places.positions w.needs g.W.Width.WORDS c.args.train p c.look_without-ahead.result in
    subst P (sym c.places-last.ensures) c.look_without-ahead.ensures.sets

pub returns-then-is_next-clause-here : goal.returns-then-is_next-clause-here
returns-then-is_next-clause-here g c = λ unmarked here.
    elim c.then-is_next.branch [
      | then-is_next-via-then-is_next w ↦
          let next = c.is_next.ensures.some w.if-is_next.true in
          inl (next.0, sym c.stop.ensures ∙ next.1)
      | then-is_next-via-else-is_next+then-not-stands_inside w ↦ absurd (false≢true (sym w.if-not-stands_inside.true ∙ w.stands_inside.ensures ∙ ap (λ (v : Work). is_inside (moves_in c.args.moves.now) v.places.positions c.args.train) c.self.view_is ∙ here))
      | then-is_next-via-else-is_next+else-not-stands_inside+then-not-has_pairs w ↦
          inr (record { fell = []; falls = w.has_pairs.ensures w.if-not-has_pairs.true; vain = λ u x listed ne later. inl (λ y needed. none_in_zeros 0 y) })
      | then-is_next-via-else-is_next+else-not-stands_inside+else-not-has_pairs+then-has w ↦ absurd (false≢true (sym unmarked ∙ sym w.has.ensures ∙ w.if-has.true))
    ]

pub returns-else-not-falls_are_in_vain-clause-here : goal.returns-else-not-falls_are_in_vain-clause-here
returns-else-not-falls_are_in_vain-clause-here g c = λ unmarked here.
    let plan : Moves = moves_in c.args.moves.now in
    let w = c.args.self.now in
    let F : ℕ → Type 0 = λ p. FallsInVain plan w.places.positions w.needs g.W.Width.WORDS c.args.notes.now.stops c.args.inside.now c.args.train p in
    let G : ℕ → Type 0 = λ p. HasFalls plan w.places.positions w.needs g.W.Width.WORDS c.args.train p c.look_without-ahead.result.fell in
    inr (subst F c.places-last.ensures (record {
      fell = c.look_without-ahead.result.fell;
      falls = subst G (sym c.places-last.ensures) c.look_without-ahead.ensures.fell;
      vain = λ u x listed ne later. c.falls_are_in_vain.ensures c.if-not-falls_are_in_vain.false u x listed ne later;
    }))
