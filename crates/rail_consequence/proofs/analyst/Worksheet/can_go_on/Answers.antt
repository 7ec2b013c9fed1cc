use Rattle.std.proofs.Common.{◌≡◌, ℕ, true, Option, None, Some, is_some, not, sym, ap, ◌∙◌, ⊎_elim, arith}
use Rattle.std.specs.Prelude.{MatchOption}
use Rattle.std.proofs.lemmas.Bool.{cases_Bool, false≢true}
use Rattle.rail_rules.specs.Moves.{Moves}
use Rattle.rail_rules.specs.Analysis.{is_leg}
use Rattle.rail_rules.specs.Places.{place_of}
use Rattle.rail_place.specs.Tables.{moves_in}
use Rattle.rail_consequence.specs.Stops.{section_of}
use Rattle.rail_consequence.specs.Workspace.{Work}
use Rattle.rail_consequence.proofs.Legs.{goes_parts, inside_from}
use Rattle.rail_consequence.proofs.Stopping.{leg_short}
use Rattle.rail_consequence.proofs.analyst.Worksheet.can_go_on.Goals as goal

-- what an option tells that is one
shown : (A : Type 0) (B : ℕ → Type 0) (o : Option ℕ) → is_some o ≡ true → MatchOption o A B → (x : ℕ) × B x
shown A B None is told = absurd (false≢true is)
shown A B (Some x) is told = (x, told)

pub returns-then-is_next-clause-none : goal.returns-then-is_next-clause-none
returns-then-is_next-clause-none g c = λ _ p.
    let plan : Moves = moves_in c.args.moves.now in
    let s = c.args.self.now.places.positions in
    let u = c.args.train in
    let next = c.is_next.ensures.some c.if-is_next.true in
    let x = next.0 in
    let noted = sym c.stop.ensures ∙ next.1 in
    ⊎_elim
    (λ is.
    let goes = goes_parts plan s (record { train = u; place = p }) is in
    let stop = c.requires.settled.stopped u x goes.inside (ap section_of noted) in
    absurd (omega (arith, goes.ahead, leg_short plan s u x (place_of s u) p (omega arith) (c.requires.settled.next u x goes.inside noted) stop.taken is)))
    (λ out. out)
    (cases_Bool (is_leg plan s (record { train = u; place = p })))

pub returns : goal.returns
returns g c =
    let plan : Moves = moves_in c.args.moves.now in
    let s = c.args.self.now.places.positions in
    let u = c.args.train in
    let at = c.position-place.ensures ∙ ap (λ (w : Work). place_of w.places.positions u) c.self.view_is in
    record {
      inside = λ _. inside_from plan s u (omega (arith, at, c.if-place-eq0.false)) (omega (arith, at, c.if-place-places.false, c.places.ensures));
      none = λ taken p.
          ⊎_elim
          (λ is.
          let goes = goes_parts plan s (record { train = u; place = p }) is in
          let stop = shown _ _ c.stop_of.result (c.is_none.ensures ∙ ap not taken) c.stop_of.ensures in
          absurd (omega (arith, goes.ahead, at, leg_short plan s u stop.0 c.position-place.result p (omega (arith, at)) stop.1.0 stop.1.1 is)))
          (λ out. out)
          (cases_Bool (is_leg plan s (record { train = u; place = p })));
    }
