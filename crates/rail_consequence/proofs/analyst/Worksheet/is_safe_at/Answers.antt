use Rattle.std.proofs.Common.{◌≡◌, ◌<◌, length, ap, sym, ◌∙◌, arith}
use Rattle.rail_rules.specs.Moves.{Moves}
use Rattle.rail_rules.specs.Places.{place_of}
use Rattle.rail_rules.specs.Analysis.{is_safe}
use Rattle.rail_rules.proofs.CallerLemmas.{state_parts}
use Rattle.rail_place.specs.Tables.{moves_in}
use Rattle.rail_consequence.specs.Workspace.{Work}
use Rattle.rail_consequence.proofs.Played.{ready_as}
use Rattle.rail_consequence.proofs.Clear.{safe_at}
use Rattle.rail_consequence.proofs.analyst.Worksheet.is_safe_at.Goals as goal

pub returns : goal.returns
returns g c =
    let table = c.args.moves.now in
    let plan : Moves = moves_in table in
    let t = c.args.train in
    let own : Work = record { rows = c.self.inside.rows; places = c.self.inside.places; taken = c.self.inside.taken; needs = c.self.inside.needs; list = c.self.inside.list.items } in
    let ready = ready_as table own c.args.self.now c.self.view_is c.requires.ready in
    let s = own.places.positions in
    let at : place_of s t ≡ place_of c.args.self.now.places.positions t = ap (λ (w : Work). place_of w.places.positions t) c.self.view_is in
    let listed : t < length s = omega (arith, c.requires.train, (state_parts plan s ready.made.valid).long) in
    let low : 0 < place_of s t = omega (arith, at, c.requires.entered) in
    let ahead : place_of s t < c.args.place = omega (arith, at, c.requires.ahead) in
    safe_at plan s own.needs t c.args.place c.are_once.result ready.counted listed ready.made.moves.valid c.requires.train low ahead c.requires.within
    (λ yes x is. c.are_once.ensures.once yes x (c.stand.ensures.set x ∙ is))
    (λ no. let more = c.are_once.ensures.more no in (more.0, sym (c.stand.ensures.set more.0) ∙ more.1, more.2))
    ∙ ap (λ (w : Work). is_safe plan w.places.positions (record { train = t; place = c.args.place })) c.self.view_is
