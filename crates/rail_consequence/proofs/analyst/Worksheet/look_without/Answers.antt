use Rattle.std.proofs.Common.{◌≡◌, ℕ, ◌<◌, ◌≤◌, Bool, true, false, not, ◌&&◌, eqb, leb, List, length, replicate, take, sym, ap, ◌∙◌, subst, arith}
use Rattle.std.proofs.lemmas.Bool.{and_parts, leb-true, not-true}
use Rattle.std.proofs.lemmas.List.{length-replicate, take-replicate}
use Rattle.rail_rules.specs.Moves.{Moves, stand}
use Rattle.rail_rules.specs.Numbers.{is_in}
use Rattle.rail_rules.specs.Places.{is_inside, place_of}
use Rattle.rail_rules.proofs.CallerLemmas.{state_parts}
use Rattle.rail_place.specs.Tables.{moves_in}
use Rattle.rail_sets.specs.Sets.{has}
use Rattle.rail_sets.specs.declared.sets.TheConstants.{WORDS}
use Rattle.rail_sets.proofs.CallerLemmas.{none_in_zeros}
use Rattle.rail_consequence.specs.Freeing.{HasFalls, IsLookahead}
use Rattle.rail_consequence.specs.Needs.{IsSet, count_of, needs_from}
use Rattle.rail_consequence.specs.Workspace.{Work}
use Rattle.rail_consequence.proofs.Freeing.{shared_then}
use Rattle.rail_consequence.proofs.Holding.{are_owned, then_holder_at}
use Rattle.rail_consequence.proofs.Played.{ready_as}
use Rattle.rail_consequence.proofs.Safe.{stand_out}
use Rattle.rail_consequence.proofs.SetLemmas.{needs_past}
use Rattle.rail_consequence.proofs.analyst.Worksheet.look_without.Goals as goal

-- no set of zeros has a section
none_in_taken : (n x : ℕ) → n ≤ WORDS → has (take n (replicate WORDS 0)) x ≡ false
none_in_taken n x few = ap (λ xs. has xs x) (take-replicate n WORDS 0 few) ∙ none_in_zeros n x

long_taken : (n : ℕ) → n ≤ WORDS → length {A = ℕ} (take n (replicate WORDS 0)) ≡ n
long_taken n few = ap (λ (xs : List ℕ). length xs) (take-replicate {X = ℕ} n WORDS 0 few) ∙ length-replicate {A = ℕ} n 0

-- which of those that are counted twice fall
falls_out : (plan : Moves) (t x : ℕ) (from to : Bool) (n : ℕ) → to ≡ false → (from && not to && eqb n 2) ≡ (from && not (needs_from plan t (plan.moves t) x) && eqb n 2)
falls_out plan t x from to n none = ap (λ b. from && not b && eqb n 2) (none ∙ sym (needs_past plan t (plan.moves t) x (omega arith)))

pub returns-clause-fell : goal.returns-clause-fell
returns-clause-fell g c = λ x low.
    let plan : Moves = moves_in c.args.moves.now in
    let t = c.args.train in
    let w = c.args.self.now in
    let at = c.position-from.ensures ∙ ap (λ (v : Work). place_of v.places.positions t) c.self.view_is in
    c.fill_falls.ensures.fell x (omega (arith, low, c.rest.ensures.long))
    ∙ falls_out plan t x (has c.rest.result.now x) _ (count_of c.self.inside.needs x) (none_in_taken c.WORDS.result x (omega (arith, c.WORDS.ensures, c.requires.words.few)))
    ∙ ap (λ b. b && not (needs_from plan t (plan.moves t) x) && eqb (count_of c.self.inside.needs x) 2) (c.rest.ensures.set x ∙ ap (λ q. needs_from plan t q x) at)
    ∙ ap (λ (v : Work). needs_from plan t (place_of w.places.positions t) x && not (needs_from plan t (plan.moves t) x) && eqb (count_of v.needs x) 2) c.self.view_is

pub returns-clause-sets : goal.returns-clause-sets
returns-clause-sets g c =
    let table = c.args.moves.now in
    let plan : Moves = moves_in table in
    let t = c.args.train in
    let p : ℕ = plan.moves t in
    let own : Work = record { rows = c.self.inside.rows; places = c.self.inside.places; taken = c.self.inside.taken; needs = c.self.inside.needs; list = c.self.inside.list.items } in
    let ready = ready_as table own c.args.self.now c.self.view_is c.requires.ready in
    let s = own.places.positions in
    let fell = c.fill_falls.new.fell in
    let G : ℕ → Type 0 = λ q. IsSet c.stand.result.now (λ x. is_in x (stand plan t q)) in
    let P : Work → Type 0 = λ w. IsLookahead plan w.places.positions w.needs g.W.Width.WORDS t p (record { taken = c.fill_replaced.new.set; shared = c.fill_falls.new.shared; fell = fell; has_fallen = c.fill_falls.result }) in
    let I : Work → Type 0 = λ w. is_inside plan w.places.positions t ≡ true in
    let inside = subst I (sym c.self.view_is) c.requires.inside in
    let known : t < length s = omega (arith, c.requires.train, (state_parts plan s ready.made.valid).long) in
    let R : ℕ → Type 0 = λ q. IsSet c.rest.result.now (needs_from plan t q) in
    let from : R (place_of s t) = subst R c.position-from.ensures c.rest.ensures.set in
    let falls : HasFalls plan s own.needs g.W.Width.WORDS t p fell = λ x low.
    c.fill_falls.ensures.fell x (omega (arith, low, c.rest.ensures.long))
    ∙ falls_out plan t x (has c.rest.result.now x) _ (count_of own.needs x) (none_in_taken c.WORDS.result x (omega (arith, c.WORDS.ensures, c.requires.words.few)))
    ∙ ap (λ b. b && not (needs_from plan t p x) && eqb (count_of own.needs x) 2) (from x) in
    let stands : IsSet (take c.WORDS-2.result (replicate WORDS 0)) (λ x. is_in x (stand plan t p)) = λ x.
    none_in_taken c.WORDS-2.result x (omega (arith, c.WORDS-2.ensures, c.requires.words.few)) ∙ sym (ap (λ xs. is_in x xs) (stand_out plan t p (omega arith))) in
    subst P c.self.view_is (record {
      taken = λ x low is.
          then_holder_at plan s own.taken ready.made.valid (are_owned table own.places ready.made own.taken ready.taken) t p known c.stand.result.now (take c.WORDS-2.result (replicate WORDS 0)) c.fill_replaced.new.set (subst G c.position-from.ensures c.stand.ensures.set) stands
          x (c.fill_replaced.ensures.set x (omega (arith, low, c.stand.ensures.long, c.WORDS-2.ensures, long_taken c.WORDS-2.result (omega (arith, c.WORDS-2.ensures, c.requires.words.few))))) is;
      shared = λ x u low is.
          let parts = and_parts (leb 2 (count_of own.needs x)) (not (has fell x)) (sym (c.fill_falls.ensures.shared x (omega (arith, low, c.rest.ensures.long))) ∙ is) in
          shared_then plan s own.needs g.W.Width.WORDS t p u x fell inside low falls (leb-true 2 (count_of own.needs x) parts.0) (not-true (has fell x) parts.1);
    })
