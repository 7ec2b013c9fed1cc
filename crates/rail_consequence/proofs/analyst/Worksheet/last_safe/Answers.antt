use Rattle.std.proofs.Common.{◌≡◌, ◌<◌, length, sym, ap, ◌∙◌, ⊎_elim, arith}
use Rattle.std.proofs.lemmas.Bool.{cases_lt}
use Rattle.rail_rules.specs.Analysis.{is_safe}
use Rattle.rail_rules.specs.Moves.{Moves}
use Rattle.rail_rules.specs.Places.{place_of}
use Rattle.rail_rules.proofs.CallerLemmas.{state_parts}
use Rattle.rail_place.specs.Tables.{moves_in}
use Rattle.rail_consequence.specs.Workspace.{Work}
use Rattle.rail_consequence.proofs.Stopping.{free_leads}
use Rattle.rail_consequence.proofs.analyst.Worksheet.last_safe.Goals as goal

pub loop-end-preserved : goal.loop-end-preserved
loop-end-preserved g c =
    let plan : Moves = moves_in c.args.moves.now in
    let s = c.args.self.now.places.positions in
    record {
      most = omega (arith, c.loop-end.invariant.most);
      unsafe = λ p low high.
          ⊎_elim
          (λ later. c.loop-end.invariant.unsafe p later high)
          (λ here.
          let same : p ≡ c.loop-end.end = omega (arith, low, here, c.loop-end-test.true) in
          ap (λ q. is_safe plan s (record { train = c.args.train; place = q })) same ∙ sym c.is_safe_at.ensures ∙ c.if-is_safe_at.false)
          (cases_lt c.loop-end.end p);
    }

pub returns-then-is_safe_at : goal.returns-then-is_safe_at
returns-then-is_safe_at g c =
    let plan : Moves = moves_in c.args.moves.now in
    let s = c.args.self.now.places.positions in
    let t = c.args.train in
    let most = c.loop-end.invariant.most in
    let at : c.position-from.result ≡ place_of s t = c.position-from.ensures ∙ ap (λ (w : Work). place_of w.places.positions t) c.self.view_is in
    let listed : t < length s = omega (arith, c.requires.train, (state_parts plan s c.requires.ready.made.valid).long) in (
      free_leads plan s t c.loop-end.end c.requires.ready.made.moves.valid c.requires.train listed c.requires.entered (omega (arith, at, c.loop-end-test.true)) (omega (arith, most, c.requires.within))
          (λ i from below. c.requires.free i from (omega (arith, below, most))),
      sym c.is_safe_at.ensures ∙ c.if-is_safe_at.true,
    )

pub returns : goal.returns
returns g c =
    let at : c.position-from.result ≡ place_of c.args.self.now.places.positions c.args.train = c.position-from.ensures ∙ ap (λ (w : Work). place_of w.places.positions c.args.train) c.self.view_is in
    λ p low high. c.loop-end.invariant.unsafe p (omega (arith, low, at, c.loop-end-test.false)) high
