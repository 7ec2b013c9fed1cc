use Rattle.std.proofs.Common.{◌≡◌, ◌≢◌, ℕ, ◌-◌, ◌<◌, eqb, List, get_or, length, set, sym, ◌∙◌, subst, ⊎_elim, arith}
use Rattle.std.proofs.lemmas.Bool.{cases_eq, eqb-true, not-false}
use Rattle.std.proofs.lemmas.Grind.{get_or_default_zero}
use Rattle.rail_rules.specs.Moves.{Moves}
use Rattle.rail_place.specs.Tables.{moves_in}
use Rattle.rail_consequence.specs.Freeing.{MayWaitFor}
use Rattle.rail_consequence.specs.Searches.{HasNoSafeLegOf}
use Rattle.rail_consequence.proofs.Counts.{in_at, in_index}
use Rattle.rail_consequence.proofs.analyst.Worksheet.stay_without_leg.Goals as goal
use Rattle.rail_consequence.proofs.analyst.Worksheet.stay_without_leg.Goals.{else-ne-via-then-ne+then-may_wait_for+else-not-is_kept_from_legs, else-ne-via-then-ne+else-may_wait_for, else-ne-via-else-ne}

pub returns : goal.returns
returns g c = λ _ u listed ne may.
    let plan : Moves = moves_in c.args.moves.now in
    let s = c.args.self.now.places.positions in
    let found = in_index u c.args.inside.now listed in
    let P : ℕ → Type 0 = λ v. v ≢ c.args.train → MayWaitFor plan s c.args.notes.now.stops v c.args.train → HasNoSafeLegOf plan (set s c.args.train c.args.place) v in
    subst P found.2 (c.loop-index.invariant found.0 (omega (arith, c.loop-index-test.false)) found.1) ne may

pub may_wait_for-requires-clause-other : goal.may_wait_for-requires-clause-other
may_wait_for-requires-clause-other g c =
    c.requires.listed.trains c.index-inside-index.result (in_at c.index-inside-index.result c.args.inside.now (c.loop-index.index - 1) (omega (arith, c.loop-index-test.true, c.loop-index.auto.index)) c.index-inside-index.is)

pub is_kept_from_legs-requires-clause-stopped : goal.is_kept_from_legs-requires-clause-stopped
is_kept_from_legs-requires-clause-stopped g c =
    c.requires.listed.trains c.index-inside-index.result (in_at c.index-inside-index.result c.args.inside.now (c.loop-index.index - 1) (omega (arith, c.loop-index-test.true, c.loop-index.auto.index)) c.index-inside-index.is)

pub loop-index-preserved : goal.loop-index-preserved
loop-index-preserved g c =
    let plan : Moves = moves_in c.args.moves.now in
    let s = c.args.self.now.places.positions in
    let inside : List ℕ = c.args.inside.now in
    let t = c.args.train in
    let y : ℕ = c.index-inside-index.result in
    let j : ℕ = c.loop-index.index - 1 in
    let within : j < length inside = omega (arith, c.loop-index-test.true, c.loop-index.auto.index) in
    let P : ℕ → Type 0 = λ u. u ≢ t → MayWaitFor plan s c.args.notes.now.stops u t → HasNoSafeLegOf plan (set s t c.args.place) u in
    let here : P y = elim c.else-ne.branch [
      | else-ne-via-then-ne+then-may_wait_for+else-not-is_kept_from_legs w ↦ λ _ _. w.is_kept_from_legs.ensures w.if-not-is_kept_from_legs.false
      | else-ne-via-then-ne+else-may_wait_for w ↦ λ _ may. absurd (w.may_wait_for.ensures w.if-may_wait_for.false may)
      | else-ne-via-else-ne w ↦ λ ne. absurd (ne (eqb-true y t (not-false (eqb y t) (sym c.ne.ensures ∙ w.if-ne.false))))
    ] in
    let at : y ≡ get_or inside j 0 = c.index-inside-index.is ∙ get_or_default_zero inside j y within in
    λ i from below.
    ⊎_elim
    (λ same. let Q : ℕ → Type 0 = λ k. P (get_or inside k 0) in subst Q (sym same) (subst P at here))
    (λ ne. c.loop-index.invariant i (omega (arith, from, ne)) below)
    (cases_eq i j)
