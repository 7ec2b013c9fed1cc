use Rattle.std.proofs.Common.{◌≡◌, ℕ, ◌<◌, Bool, true, not, ◌&&◌, eqb, leb, length, refl, sym, ap, ◌∙◌, subst, arith}
use Rattle.std.proofs.lemmas.Bool.{and_parts, leb-true, not-true}
use Rattle.rail_rules.specs.Moves.{Moves, stand}
use Rattle.rail_rules.specs.Numbers.{is_in}
use Rattle.rail_rules.specs.Places.{is_inside, place_of}
use Rattle.rail_rules.proofs.CallerLemmas.{state_parts}
use Rattle.rail_place.specs.Tables.{moves_in}
use Rattle.rail_sets.specs.Sets.{has}
use Rattle.rail_consequence.specs.Freeing.{HasFalls, IsLookahead}
use Rattle.rail_consequence.specs.Needs.{IsSet, count_of, needs_from}
use Rattle.rail_consequence.specs.Workspace.{Work}
use Rattle.rail_consequence.proofs.Freeing.{shared_then}
use Rattle.rail_consequence.proofs.Holding.{are_owned, then_holder_at}
use Rattle.rail_consequence.proofs.Played.{ready_as}
use Rattle.rail_consequence.proofs.analyst.Worksheet.look_ahead.Goals as goal

-- what falls, told by equal truths
fallen : (from to was will : Bool) (n m : ℕ) → from ≡ was → to ≡ will → n ≡ m → (from && not to && eqb n 2) ≡ (was && not will && eqb m 2)
fallen from to was will n m first later same = ap (λ b. b && not to && eqb n 2) first ∙ ap (λ b. was && not b && eqb n 2) later ∙ ap (λ k. was && not will && eqb k 2) same

pub returns-clause-fell : goal.returns-clause-fell
returns-clause-fell g c = λ x low.
    let plan : Moves = moves_in c.args.moves.now in
    let t = c.args.train in
    let w = c.args.self.now in
    let at = c.position-from.ensures ∙ ap (λ (v : Work). place_of v.places.positions t) c.self.view_is in
    c.fill_falls.ensures.fell x (omega (arith, low, c.rest.ensures.long))
    ∙ fallen _ _ (needs_from plan t (place_of w.places.positions t) x) (needs_from plan t c.args.place x) (count_of c.self.inside.needs x) (count_of w.needs x)
    (c.rest.ensures.set x ∙ ap (λ q. needs_from plan t q x) at)
    (c.rest-2.ensures.set x)
    (ap (λ (v : Work). count_of v.needs x) c.self.view_is)

pub returns-clause-sets : goal.returns-clause-sets
returns-clause-sets g c =
    let table = c.args.moves.now in
    let plan : Moves = moves_in table in
    let t = c.args.train in
    let p = c.args.place in
    let own : Work = record { rows = c.self.inside.rows; places = c.self.inside.places; taken = c.self.inside.taken; needs = c.self.inside.needs; list = c.self.inside.list.items } in
    let ready = ready_as table own c.args.self.now c.self.view_is c.requires.ready in
    let s = own.places.positions in
    let fell = c.fill_falls.new.fell in
    let G : ℕ → Type 0 = λ q. IsSet c.stand.result.now (λ x. is_in x (stand plan t q)) in
    let P : Work → Type 0 = λ w. IsLookahead plan w.places.positions w.needs g.W.Width.WORDS t p (record { taken = c.fill_replaced.new.set; shared = c.fill_falls.new.shared; fell = fell; has_fallen = c.fill_falls.result }) in
    let I : Work → Type 0 = λ w. is_inside plan w.places.positions t ≡ true in
    let inside = subst I (sym c.self.view_is) c.requires.inside in
    let known : t < length s = omega (arith, c.requires.train, (state_parts plan s ready.made.valid).long) in
    let R : ℕ → Type 0 = λ q. IsSet c.rest.result.now (needs_from plan t q) in
    let from : R (place_of s t) = subst R c.position-from.ensures c.rest.ensures.set in
    let falls : HasFalls plan s own.needs g.W.Width.WORDS t p fell = λ x low.
    c.fill_falls.ensures.fell x (omega (arith, low, c.rest.ensures.long))
    ∙ fallen _ _ (needs_from plan t (place_of s t) x) (needs_from plan t p x) (count_of own.needs x) (count_of own.needs x) (from x) (c.rest-2.ensures.set x) refl in
    subst P c.self.view_is (record {
      taken = λ x low is.
          then_holder_at plan s own.taken ready.made.valid (are_owned table own.places ready.made own.taken ready.taken) t p known c.stand.result.now c.stand-2.result.now c.fill_replaced.new.set (subst G c.position-from.ensures c.stand.ensures.set) c.stand-2.ensures.set
          x (c.fill_replaced.ensures.set x (omega (arith, low, c.stand-2.ensures.long))) is;
      shared = λ x u low is.
          let parts = and_parts (leb 2 (count_of own.needs x)) (not (has fell x)) (sym (c.fill_falls.ensures.shared x (omega (arith, low, c.rest.ensures.long))) ∙ is) in
          shared_then plan s own.needs g.W.Width.WORDS t p u x fell inside low falls (leb-true 2 (count_of own.needs x) parts.0) (not-true (has fell x) parts.1);
    })
