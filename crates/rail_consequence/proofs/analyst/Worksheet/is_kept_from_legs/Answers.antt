use Rattle.std.proofs.Common.{◌≡◌, ◌+◌, ◌*◌, ◌<◌, false, set, sym, ap, ◌∙◌, ⊎_elim, arith}
use Rattle.std.proofs.lemmas.Bool.{cases_lt, false≢true}
use Rattle.std.proofs.lemmas.List.{get_or-set_other}
use Rattle.rail_rules.specs.Analysis.{is_safe}
use Rattle.rail_rules.specs.Moves.{Moves, stand}
use Rattle.rail_rules.specs.Numbers.{is_in}
use Rattle.rail_rules.specs.Places.{holds, place_of}
use Rattle.rail_rules.proofs.CallerLemmas.{state_parts}
use Rattle.rail_place.specs.Tables.{moves_in}
use Rattle.rail_sets.proofs.CallerLemmas.{has_within}
use Rattle.rail_consequence.specs.Freeing.{IsBarred}
use Rattle.rail_consequence.specs.Workspace.{Work}
use Rattle.rail_consequence.proofs.Freeing.{barred_unsafe, shared_unsafe}
use Rattle.rail_consequence.proofs.Holding.{place_within}
use Rattle.rail_consequence.proofs.analyst.Worksheet.is_kept_from_legs.Goals as goal

pub stand-own-requires-clause-within : goal.stand-own-requires-clause-within
stand-own-requires-clause-within g c =
    let at = c.position-at.ensures ∙ ap (λ (w : Work). place_of w.places.positions c.args.stopped) c.self.view_is in
    omega (arith, at, place_within c.args.moves.now c.args.self.now.places c.args.stopped c.requires.ready.made c.requires.stopped)

pub overflow_sub-last : goal.overflow_sub-last
overflow_sub-last g c =
    let at = c.position-at.ensures ∙ ap (λ (w : Work). place_of w.places.positions c.args.stopped) c.self.view_is in
    omega (arith, at, c.places-last.ensures, place_within c.args.moves.now c.args.self.now.places c.args.stopped c.requires.ready.made c.requires.stopped)

pub rest-requires-clause-within : goal.rest-requires-clause-within
rest-requires-clause-within g c =
    let at = c.position-at.ensures ∙ ap (λ (w : Work). place_of w.places.positions c.args.stopped) c.self.view_is in
    omega (arith, at, place_within c.args.moves.now c.args.self.now.places c.args.stopped c.requires.ready.made c.requires.stopped)

pub loop-made-init : goal.loop-made-init
loop-made-init g c = λ q low high.
    let at = c.position-at.ensures ∙ ap (λ (w : Work). place_of w.places.positions c.args.stopped) c.self.view_is in
    absurd (omega (arith, at, low, high))

pub loop-made-preserved : goal.loop-made-preserved
loop-made-preserved g c = λ q low high.
    let plan : Moves = moves_in c.args.moves.now in
    let w = c.args.self.now in
    let s = w.places.positions in
    let t = c.args.train in
    let p = c.args.place in
    let u = c.args.stopped in
    ⊎_elim
    (λ earlier. c.loop-made.invariant q low (omega (arith, earlier)))
    (λ here.
    let last : q ≡ c.loop-made.made + 1 = omega arith in
    let state = state_parts plan s c.requires.ready.made.valid in
    let found = c.meet.ensures.some c.if-not-meet.false in
    let x = found.0 in
    let few : x < 64 * g.W.Width.WORDS = omega (arith, has_within c.stand.result.now x found.1, c.stand.ensures.long) in
    ap (λ k. is_safe plan (set s t p) (record { train = u; place = k })) last
    ∙ shared_unsafe plan s w.needs t p u (c.loop-made.made + 1) x (omega (arith, c.requires.train, state.long)) (omega (arith, c.requires.stopped, state.long)) c.requires.other c.requires.later c.requires.ready.counted
    (sym (c.stand.ensures.set x) ∙ found.1) (c.requires.ahead.shared x u few found.2))
    (cases_lt q (c.loop-made.made + 1))

pub returns-then-meet_beyond : goal.returns-then-meet_beyond
returns-then-meet_beyond g c =
    let plan : Moves = moves_in c.args.moves.now in
    let s = c.args.self.now.places.positions in
    let t = c.args.train in
    let p = c.args.place in
    let u = c.args.stopped in
    let m = c.loop-made.made in
    let at : c.position-at.result ≡ place_of s u = c.position-at.ensures ∙ ap (λ (w : Work). place_of w.places.positions u) c.self.view_is in
    let there : place_of (set s t p) u ≡ place_of s u = get_or-set_other s t u p 0 c.requires.other in
    let found = c.meet_beyond-in-loop-made.ensures.some c.if-meet_beyond.true in
    let x = found.0 in
    let few : x < 64 * g.W.Width.WORDS = omega (arith, has_within c.need.result.now x found.1, c.need.ensures.long) in
    let holder = c.requires.ahead.taken x few found.2 in
    let out : is_in x (stand plan u (place_of (set s t p) u)) ≡ false = ap (λ q. is_in x (stand plan u q)) (there ∙ sym at) ∙ sym (c.stand-own.ensures.set x) ∙ found.3 in
    let bar : IsBarred plan (set s t p) u m = record {
      section = x;
      needed = sym (c.need.ensures.set x) ∙ found.1;
      taken = record {
        holder = holder.0;
        other = λ same. false≢true (sym out ∙ ap (λ v. holds plan (set s t p) v x) (sym same) ∙ holder.1);
        taken = holder.1;
      };
    } in
    λ _. barred_unsafe plan (set s t p) u m (omega (arith, there, at, c.loop-made.auto.made)) bar (λ q low high. c.loop-made.invariant q (omega (arith, low, there)) high)
