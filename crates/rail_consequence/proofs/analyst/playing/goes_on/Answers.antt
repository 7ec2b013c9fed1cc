use Rattle.std.proofs.Common.{◌≡◌, ℕ, ◌+◌, ◌<◌, length, set, sym, ap, ◌∙◌, subst, ⊎_elim, arith}
use Rattle.std.proofs.lemmas.Bool.{cases_Bool, false≢true}
use Rattle.rail_rules.specs.Analysis.{is_leg}
use Rattle.rail_rules.specs.Moves.{Moves, stand}
use Rattle.rail_rules.specs.Numbers.{is_in}
use Rattle.rail_rules.specs.Places.{has_holder, place_of}
use Rattle.rail_rules.proofs.CallerLemmas.{state_parts}
use Rattle.rail_place.specs.Tables.{moves_in}
use Rattle.rail_consequence.specs.Needs.{IsSet}
use Rattle.rail_consequence.specs.Searches.{leg_to}
use Rattle.rail_consequence.proofs.Holding.{taken_then}
use Rattle.rail_consequence.proofs.Playing.{held_taken, leg_way, taken_held, way_leg}
use Rattle.rail_consequence.proofs.analyst.playing.goes_on.Goals as goal

pub overflow_sub-last : goal.overflow_sub-last
overflow_sub-last g c =
    let plan : Moves = moves_in c.args.moves.now in
    let s = c.args.positions.now in
    let parts = state_parts plan s c.requires.state in
    omega (arith, c.places-last.ensures, ap (place_of s) (c.from.ensures ∙ c.train.view_is), parts.within c.args.train (omega (arith, parts.long, c.if-train-trains.false, c.train.view_is, c.trains.ensures.count)))

pub returns-then-not-is_way_free-clause-exact : goal.returns-then-not-is_way_free-clause-exact
returns-then-not-is_way_free-clause-exact g c =
    let plan : Moves = moves_in c.args.moves.now in
    let s = c.args.positions.now in
    let t = c.args.train in
    let p : ℕ = place_of s c.from.result in
    let at : p ≡ place_of s t = ap (place_of s) (c.from.ensures ∙ c.train.view_is) in
    ⊎_elim
    (λ leg.
    let free = leg_way plan s c.args.taken.now t p (p + c.args.count) c.requires.state (taken_held plan s c.args.taken.now c.requires.taken) at (ap (λ k. is_leg plan s (leg_to t (k + c.args.count))) at ∙ leg) in
    absurd (false≢true (sym c.if-not-is_way_free.true ∙ c.is_way_free.ensures.1 free)))
    (λ out. sym out)
    (cases_Bool (is_leg plan s (leg_to t (place_of s t + c.args.count))))

pub returns-clause-exact : goal.returns-clause-exact
returns-clause-exact g c =
    let plan : Moves = moves_in c.args.moves.now in
    let s = c.args.positions.now in
    let t = c.args.train in
    let p : ℕ = place_of s c.from.result in
    let at : p ≡ place_of s t = ap (place_of s) (c.from.ensures ∙ c.train.view_is) in
    sym
    (ap (λ k. is_leg plan s (leg_to t (k + c.args.count))) (sym at)
    ∙ way_leg plan s c.args.taken.now t p (p + c.args.count) c.trains.ensures.table.valid c.requires.state (taken_held plan s c.args.taken.now c.requires.taken)
    (omega (arith, c.if-train-trains.false, c.train.view_is, c.trains.ensures.count)) at (omega (arith, c.if-from-eq0.false)) (omega (arith, c.requires.some)) (omega (arith, c.if-from-count.false, c.places-last.ensures))
    (c.is_way_free.ensures.0 c.if-not-is_way_free.false))

pub returns-clause-taken : goal.returns-clause-taken
returns-clause-taken g c = λ _.
    let plan : Moves = moves_in c.args.moves.now in
    let s = c.args.positions.now in
    let t = c.args.train in
    let p : ℕ = place_of s c.from.result in
    let at : p ≡ place_of s t = ap (place_of s) (c.from.ensures ∙ c.train.view_is) in
    let known : t < length s = omega (arith, c.if-train-trains.false, c.train.view_is, c.trains.ensures.count, (state_parts plan s c.requires.state).long) in
    let G : ℕ → Type 0 = λ k. IsSet c.stand-gone.result.now (λ x. is_in x (stand plan t k)) in
    let P : ℕ → Type 0 = λ u. IsSet c.replace.new.set (has_holder plan (set s u (p + c.args.count))) in
    subst P (sym (c.from-2.ensures ∙ c.train-2.view_is))
    (held_taken plan (set s t (p + c.args.count)) c.replace.new.set
    (taken_then plan s c.args.taken.now c.requires.state (taken_held plan s c.args.taken.now c.requires.taken) t (p + c.args.count) known c.stand-gone.result.now c.stand-come.result.now c.replace.new.set
    (subst G at c.stand-gone.ensures.set) c.stand-come.ensures.set c.replace.ensures.set))
