use Rattle.std.proofs.Common.{◌≡◌, ℕ, Bool, true, false, not, ◌&&◌, eqb, sym, ap, ◌∙◌}
use Rattle.std.proofs.lemmas.Bool.{and_from, eq-eqb, false≢true, not_from_false, or_left, or_right}
use Rattle.rail_rules.specs.Moves.{Moves}
use Rattle.rail_rules.specs.Places.{place_of}
use Rattle.rail_place.specs.Tables.{moves_in}
use Rattle.rail_sets.specs.Sets.{has}
use Rattle.rail_consequence.specs.Needs.{count_of, needs_from}
use Rattle.rail_consequence.specs.Workspace.{Work}
use Rattle.rail_consequence.proofs.Falls.{noted_on}
use Rattle.rail_consequence.proofs.analyst.Worksheet.note_leg.Goals as goal

-- a section of the one set that is not in the other, and is counted twice
falls_so : (a b : Bool) (n : ℕ) → a ≡ true → b ≡ false → n ≡ 2 → (a && not b && eqb n 2) ≡ true
falls_so a b n one none two = and_from (a && not b) (eqb n 2) (and_from a (not b) one (not_from_false b none)) (eq-eqb n 2 two)

pub returns-then-has_falls : goal.returns-then-has_falls
returns-then-has_falls g c =
    let plan : Moves = moves_in c.args.moves.now in
    let s = c.args.self.now.places.positions in
    let t = c.args.train in
    let p = c.args.place in
    let at : c.position-from.result ≡ place_of s t = c.position-from.ensures ∙ ap (λ (w : Work). place_of w.places.positions t) c.self.view_is in
    let needed : ℕ → Bool = λ x. has c.rest-needed.result.now x in
    let later : ℕ → Bool = λ x. has c.rest-later.result.now x in
    let n : ℕ → ℕ = λ x. count_of c.self.inside.needs x in
    let old : ℕ → Bool = λ x. has c.set.new.self.fell x in
    let fall : ℕ → Bool = λ x. needed x && not (later x) && eqb (n x) 2 in
    noted_on plan s c.args.self.now.needs t p c.args.notes.now (record { stops = c.set.new.self.stops; fell = c.add_falls.new.set; has_fallen = true })
    c.requires.ready.made.moves.valid c.requires.ready.made.valid c.requires.ready.counted c.requires.inside c.requires.ahead
    (λ x is. c.add_falls.ensures.set x ∙ or_left (old x) (fall x) (ap (λ set. has set x) c.set.ensures.fell ∙ is))
    (λ x before past two.
    c.add_falls.ensures.set x
    ∙ or_right (old x) (fall x)
    (falls_so (needed x) (later x) (n x) (c.rest-needed.ensures.set x ∙ ap (λ k. needs_from plan t k x) at ∙ before) (c.rest-later.ensures.set x ∙ past)
    (ap (λ (w : Work). count_of w.needs x) c.self.view_is ∙ two)))
    c.requires.noted c.set.ensures.here c.set.ensures.others
    (λ e. absurd (false≢true (sym e)))

pub returns-else-has_falls : goal.returns-else-has_falls
returns-else-has_falls g c =
    let plan : Moves = moves_in c.args.moves.now in
    let s = c.args.self.now.places.positions in
    let t = c.args.train in
    let at : c.position-from.result ≡ place_of s t = c.position-from.ensures ∙ ap (λ (w : Work). place_of w.places.positions t) c.self.view_is in
    let needed : ℕ → Bool = λ x. has c.rest-needed.result.now x in
    let later : ℕ → Bool = λ x. has c.rest-later.result.now x in
    let n : ℕ → ℕ = λ x. count_of c.self.inside.needs x in
    let fell : (x : ℕ) → has c.set.new.self.fell x ≡ has c.args.notes.now.fell x = λ x. ap (λ set. has set x) c.set.ensures.fell in
    noted_on plan s c.args.self.now.needs t c.args.place c.args.notes.now c.set.new.self
    c.requires.ready.made.moves.valid c.requires.ready.made.valid c.requires.ready.counted c.requires.inside c.requires.ahead
    (λ x is. fell x ∙ is)
    (λ x before past two.
    absurd
    (false≢true
    (sym (c.has_falls.ensures c.if-has_falls.false x)
    ∙ falls_so (needed x) (later x) (n x) (c.rest-needed.ensures.set x ∙ ap (λ k. needs_from plan t k x) at ∙ before) (c.rest-later.ensures.set x ∙ past)
    (ap (λ (w : Work). count_of w.needs x) c.self.view_is ∙ two))))
    c.requires.noted c.set.ensures.here c.set.ensures.others
    (λ e x. fell x ∙ c.requires.noted.none (sym c.set.ensures.has_fallen ∙ e) x)
