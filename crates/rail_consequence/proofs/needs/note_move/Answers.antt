use Rattle.std.proofs.Common.{◌≡◌, ◌&&◌, ◌<◌, ◌≤◌, ℕ, Bool, true, false, not, eqb, ltb, sym, ◌∙◌, ⊎_elim, arith}
use Rattle.std.proofs.lemmas.Bool.{and_from, and_parts, cases_lt, eq-eqb, false≢true, not_from_false, or_right}
use Rattle.rail_rules.specs.Moves.{Moves}
use Rattle.rail_place.specs.Tables.{moves_in}
use Rattle.rail_sets.specs.Sets.{has}
use Rattle.rail_consequence.specs.Needs.{count_of, needs_from, needs_left}
use Rattle.rail_consequence.proofs.Counts.{from_earlier, left_end, left_entered}
use Rattle.rail_consequence.proofs.needs.note_move.Goals as goal

-- a section of the one set that is not in the other, and is counted twice
falls_so : (a b : Bool) (n : ℕ) → a ≡ true → b ≡ false → n ≡ 2 → (a && not b && eqb n 2) ≡ true
falls_so a b n one none two = and_from (a && not b) (eqb n 2) (and_from a (not b) one (not_from_false b none)) (eq-eqb n 2 two)

-- a train that needs a section at the later place needs it at the earlier one
kept_back : (plan : Moves) (t p q x : ℕ) → (0 < plan.moves t → 0 < p) → p ≤ q → needs_left plan t q x ≡ true → needs_left plan t p x ≡ true
kept_back plan t p q x entered earlier needs =
    let from : needs_from plan t q x ≡ true = (and_parts (ltb 0 q) (needs_from plan t q x) needs).1 in
    ⊎_elim
    (λ low. left_entered plan t p x low ∙ from_earlier plan t p q x earlier from)
    (λ zero.
    ⊎_elim
    (λ some. absurd (omega (arith, entered some, zero)))
    (λ none. absurd (false≢true (sym (left_end plan t q x (omega (arith, none))) ∙ needs)))
    (cases_lt 0 (plan.moves t)))
    (cases_lt 0 p)

pub returns-then-first-last-clause-falls : goal.returns-then-first-last-clause-falls
returns-then-first-last-clause-falls g c = λ x needs gone two.
    let plan : Moves = moves_in c.args.moves.now in
    let first = c.place_or_last-first in
    let last = c.place_or_last-last in
    let still = kept_back plan c.args.train last.result first.result x last.ensures.entered c.if-first-last.true (first.ensures.alike x ∙ needs) in
    absurd (false≢true (sym (last.ensures.alike x ∙ gone) ∙ still))

pub returns-then-has_falls-clause-falls : goal.returns-then-has_falls-clause-falls
returns-then-has_falls-clause-falls g c = λ x needs gone two.
    let plan : Moves = moves_in c.args.moves.now in
    let t = c.args.train in
    let first = c.place_or_last-first in
    let last = c.place_or_last-last in
    let needed : Bool = has c.rest-needed.result.now x in
    let later : Bool = has c.rest-later.result.now x in
    let n : ℕ = count_of c.args.needs.now x in
    let now = (and_parts (ltb 0 first.result) (needs_from plan t first.result x) (first.ensures.alike x ∙ needs)).1 in
    let past = sym (left_entered plan t last.result x (omega (arith, c.if-first-last.false))) ∙ last.ensures.alike x ∙ gone in
    c.add_falls.ensures.set x
    ∙ or_right (has c.set.new.self.fell x) (needed && not later && eqb n 2) (falls_so needed later n (c.rest-needed.ensures.set x ∙ now) (c.rest-later.ensures.set x ∙ past) two)

pub returns-else-has_falls-clause-falls : goal.returns-else-has_falls-clause-falls
returns-else-has_falls-clause-falls g c = λ x needs gone two.
    let plan : Moves = moves_in c.args.moves.now in
    let t = c.args.train in
    let first = c.place_or_last-first in
    let last = c.place_or_last-last in
    let needed : Bool = has c.rest-needed.result.now x in
    let later : Bool = has c.rest-later.result.now x in
    let n : ℕ = count_of c.args.needs.now x in
    let now = (and_parts (ltb 0 first.result) (needs_from plan t first.result x) (first.ensures.alike x ∙ needs)).1 in
    let past = sym (left_entered plan t last.result x (omega (arith, c.if-first-last.false))) ∙ last.ensures.alike x ∙ gone in
    absurd (false≢true (sym (c.has_falls.ensures c.if-has_falls.false x) ∙ falls_so needed later n (c.rest-needed.ensures.set x ∙ now) (c.rest-later.ensures.set x ∙ past) two))
