use Rattle.std.proofs.Common.{◌≡◌, ◌≢◌, ℕ, eqb, set, sym, ◌∙◌, subst, ◌⊎◌, inl, ⊎_elim}
use Rattle.std.proofs.lemmas.Bool.{eqb-true, not-false}
use Rattle.rail_rules.specs.Moves.{Moves}
use Rattle.rail_rules.specs.Places.{place_of}
use Rattle.rail_place.specs.Tables.{moves_in}
use Rattle.rail_consequence.specs.Searches.{HasNoSafeLegOf}
use Rattle.rail_consequence.specs.Stops.{IsUntouched, stop_of}
use Rattle.rail_consequence.specs.declared.notes.Stop.TheVariants.{Later}
use Rattle.rail_consequence.proofs.Counts.{in_at, in_take_all, in_take_more}
use Rattle.rail_consequence.proofs.Freeing.{needs_few}
use Rattle.rail_consequence.proofs.analyst.Worksheet.falls_are_in_vain.Goals as goal
use Rattle.rail_consequence.proofs.analyst.Worksheet.falls_are_in_vain.Goals.{else-ne-via-then-ne+else-not-falls_in_vain, else-ne-via-else-ne}

pub falls_in_vain-requires-clause-other : goal.falls_in_vain-requires-clause-other
falls_in_vain-requires-clause-other g c = c.requires.listed.trains c.other-item.result (in_at c.other-item.result c.args.inside.now c.loop-other.other-index c.loop-other-test.true c.other-item.is)

pub loop-other-preserved : goal.loop-other-preserved
loop-other-preserved g c =
    let plan : Moves = moves_in c.args.moves.now in
    let s = c.args.self.now.places.positions in
    let t = c.args.train in
    let y = c.other-item.result in
    let P : ℕ → Type 0 = λ u. u ≢ t → (x : ℕ) → stop_of c.args.notes.now.stops u ≡ Later x → IsUntouched plan s c.args.ahead.now.fell u ⊎ HasNoSafeLegOf plan (set s t c.args.place) u in
    let here : P y = elim c.else-ne.branch [
      | else-ne-via-then-ne+else-not-falls_in_vain w ↦ λ _. w.falls_in_vain.ensures w.if-not-falls_in_vain.false
      | else-ne-via-else-ne w ↦ λ ne. absurd (ne (eqb-true y t (not-false (eqb y t) (sym c.ne.ensures ∙ w.if-ne.false))))
    ] in
    λ u x found ne later.
    ⊎_elim
    (λ earlier. c.loop-other.invariant u x earlier ne later)
    (λ same. subst P same here ne x later)
    (in_take_more u y c.args.inside.now c.loop-other.other-index c.loop-other-test.true c.other-item.is found)

pub returns : goal.returns
returns g c = λ _ u x listed. c.loop-other.invariant u x (in_take_all u c.args.inside.now c.loop-other.other-index c.loop-other-test.false listed)

pub returns-then-not-ahead : goal.returns-then-not-ahead
returns-then-not-ahead g c = λ _ u x listed ne later.
    let plan : Moves = moves_in c.args.moves.now in
    let w = c.args.self.now in
    inl (λ y needed. c.requires.none c.if-not-ahead.true y (needs_few plan g.W.Width.WORDS u (place_of w.places.positions u) y c.requires.words (c.requires.listed.trains u listed) needed))
