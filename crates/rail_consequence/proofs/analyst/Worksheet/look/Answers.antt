use Rattle.std.proofs.Common.{◌≡◌, ℕ, ◌<◌, length, sym, ap, ◌∙◌, subst, arith}
use Rattle.rail_rules.specs.Moves.{Moves, stand}
use Rattle.rail_rules.specs.Numbers.{is_in}
use Rattle.rail_rules.specs.Places.{place_of}
use Rattle.rail_rules.proofs.CallerLemmas.{state_parts}
use Rattle.rail_place.specs.Tables.{moves_in}
use Rattle.rail_consequence.specs.Workspace.{Work}
use Rattle.rail_consequence.specs.Needs.{IsSet}
use Rattle.rail_consequence.specs.Stops.{IsTakenByOther}
use Rattle.rail_consequence.proofs.Holding.{are_owned, no_bar}
use Rattle.rail_consequence.proofs.Legs.{inside_parts}
use Rattle.rail_consequence.proofs.Played.{ready_as}
use Rattle.rail_consequence.proofs.SetLemmas.{needs_where}
use Rattle.rail_consequence.proofs.Stopping.{leads_out_free, open_more}
use Rattle.rail_consequence.proofs.analyst.Worksheet.look.Goals as goal

pub loop-made-preserved : goal.loop-made-preserved
loop-made-preserved g c = open_more (moves_in c.args.moves.now) c.args.self.now.places.positions c.args.train c.loop-made.made c.loop-made.invariant c.in_default-stop_of.ensures

pub returns : goal.returns
returns g c =
    let plan : Moves = moves_in c.args.moves.now in
    let s = c.args.self.now.places.positions in
    let t = c.args.train in
    let listed : t < length s = omega (arith, c.requires.train, (state_parts plan s c.requires.ready.made.valid).long) in
    let parts = inside_parts plan s t c.requires.inside in
    leads_out_free plan s t c.places-last.result c.requires.ready.made.moves.valid c.requires.train listed parts.0 (omega (arith, parts.1, c.places-last.ensures)) c.places-last.ensures
    (λ i from below. c.loop-made.invariant i from (omega (arith, below, c.loop-made-test.false)))

pub returns-then-not-meet_beyond : goal.returns-then-not-meet_beyond
returns-then-not-meet_beyond g c =
    let table = c.args.moves.now in
    let plan : Moves = moves_in table in
    let t = c.args.train in
    let own : Work = record { rows = c.self.inside.rows; places = c.self.inside.places; taken = c.self.inside.taken; needs = c.self.inside.needs; list = c.self.inside.list.items } in
    let ready = ready_as table own c.args.self.now c.self.view_is c.requires.ready in
    let s = c.args.self.now.places.positions in
    let at : c.position-place.result ≡ place_of s t = c.position-place.ensures ∙ ap (λ (w : Work). place_of w.places.positions t) c.self.view_is in
    let listed : t < length s = omega (arith, c.requires.train, (state_parts plan s c.requires.ready.made.valid).long) in
    let parts = inside_parts plan s t c.requires.inside in
    let G : ℕ → Type 0 = λ q. IsSet c.stand-own.result.now (λ x. is_in x (stand plan t q)) in
    let stands = subst G c.position-place.ensures c.stand-own.ensures.set in
    let H : Work → ℕ → Type 0 = λ w x. IsTakenByOther plan w.places.positions t x in
    leads_out_free plan s t c.places-last.result c.requires.ready.made.moves.valid c.requires.train listed parts.0 (omega (arith, parts.1, c.places-last.ensures)) c.places-last.ensures
    (λ i from below x needed bar.
    no_bar plan own.places.positions own.taken ready.made.valid (are_owned table own.places ready.made own.taken ready.taken) t x
    (λ is. sym (stands x) ∙ c.meet_beyond.ensures.none c.if-not-meet_beyond.true x (c.rest.ensures.set x ∙ needs_where plan t c.position-place.result i x (omega (arith, from, at)) (omega (arith, below, c.places-last.ensures)) needed) is)
    (subst (λ w. H w x) (sym c.self.view_is) bar))
