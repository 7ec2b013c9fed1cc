use Rattle.std.proofs.Common.{◌≡◌, sym, ◌∙◌, arith}
use Rattle.std.proofs.lemmas.Grind.{common_steps}
use Rattle.rail_rules.specs.Moves.{Moves}
use Rattle.rail_place.specs.Tables.{moves_in}
use Rattle.rail_place.specs.Bars.{outcome}
use Rattle.rail_place.proofs.Playing.{completes_from, completes_to}
use Rattle.rail_place.proofs.places.Places.play.Goals as goal
use Rattle.rail_place.proofs.places.Places.play.Goals.{in-Some, in-None}

pub returns-clause-completes : goal.returns-clause-completes
returns-clause-completes c =
    let plan : Moves = moves_in c.args.moves.now in
    let s = c.args.self.now.positions in
    let exact : c.match-barred.played ≡ outcome plan s 1 c.args.list.now = elim c.match-barred.branch [ in-Some w ↦ grind (arith, common_steps) | in-None w ↦ grind (arith, common_steps) ] in
    (λ h. completes_from plan s 1 c.args.list.now (sym exact ∙ h), λ h. exact ∙ completes_to plan s 1 c.args.list.now h)
