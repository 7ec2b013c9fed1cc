use Rattle.std.proofs.Common.{◌≡◌, ℕ, ◌<◌, List, Option, None, Some, get_or, length, sym, ap, ◌∙◌, arith}
use Rattle.std.specs.Prelude.{IsTrue, IfSome}
use Rattle.rail_rules.specs.Places.{is_inside}
use Rattle.rail_place.specs.PlaceStates.{State, IsMadeFor}
use Rattle.rail_place.specs.Tables.{moves_in, MoveLists}
use Rattle.rail_place.proofs.CallerLemmas.{holder_listed, made_long}
use Rattle.rail_consequence.specs.Workspace.{Work}
use Rattle.rail_consequence.proofs.Holding.{holder_inside}
use Rattle.rail_consequence.proofs.analyst.Worksheet.awaited.Goals as goal

-- who holds a section is a train inside
holder_in : (table : List MoveLists) (state : State) (x : ℕ) (o : Option ℕ) → IsMadeFor table state → o ≡ get_or state.owners x None → IfSome o (λ h. IsTrue (is_inside (moves_in table) state.positions h))
holder_in table state x None made is = tt
holder_in table state x (Some h) made is = holder_inside (moves_in table) state.positions h x ((made.told x h).0 (sym is))

holder_known : (table : List MoveLists) (state : State) (x : ℕ) (o : Option ℕ) → IsMadeFor table state → o ≡ get_or state.owners x None → IfSome o (λ h. h < length table)
holder_known table state x None made is = tt
holder_known table state x (Some h) made is = omega (arith, holder_listed (moves_in table) state.positions h x ((made.told x h).0 (sym is)), made_long table state made)

pub returns-in-Next-clause-inside : goal.returns-in-Next-clause-inside
returns-in-Next-clause-inside c = holder_in c.args.moves.now c.args.self.now.places c.in-Next.section c.holder.result c.requires.ready.made (c.holder.ensures ∙ ap (λ (w : Work). get_or w.places.owners c.in-Next.section None) c.self.view_is)

pub returns-in-Next-clause-known : goal.returns-in-Next-clause-known
returns-in-Next-clause-known c = holder_known c.args.moves.now c.args.self.now.places c.in-Next.section c.holder.result c.requires.ready.made (c.holder.ensures ∙ ap (λ (w : Work). get_or w.places.owners c.in-Next.section None) c.self.view_is)
