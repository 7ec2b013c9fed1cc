use Rattle.std.proofs.Common.{◌≡◌, ℕ, ◌-◌, ◌<◌, ◌⊎◌, true, false, List, get_or, length, sym, ap, ◌∙◌, subst, ⊎_elim, arith}
use Rattle.std.proofs.lemmas.Bool.{cases_Bool, cases_eq, false≢true}
use Rattle.std.proofs.lemmas.Grind.{get_or_default_zero}
use Rattle.rail_rules.specs.Moves.{Moves}
use Rattle.rail_rules.specs.Places.{is_inside}
use Rattle.rail_place.specs.Tables.{moves_in}
use Rattle.rail_sets.specs.TrainSets.{has_train}
use Rattle.rail_consequence.specs.Freeing.{FallsInVain, IsNextStop, IsNotAwaited}
use Rattle.rail_consequence.proofs.Counts.{in_at, in_index}
use Rattle.rail_consequence.proofs.Freeing.{rest_within, unmarked_helps_not}
use Rattle.rail_consequence.proofs.Legs.{goes_parts}
use Rattle.rail_consequence.proofs.analyst.Worksheet.find_openers.Goals as goal

pub add_awaited-requires-clause-other : goal.add_awaited-requires-clause-other
add_awaited-requires-clause-other g c =
    c.requires.listed.trains c.index-inside-index.result (in_at c.index-inside-index.result c.args.inside.now (c.loop-index.index - 1) (omega (arith, c.loop-index-test.true, c.loop-index.auto.index)) c.index-inside-index.is)

pub add_by_falls-requires-clause-train : goal.add_by_falls-requires-clause-train
add_by_falls-requires-clause-train g c =
    c.requires.listed.trains c.index-inside-index.result (in_at c.index-inside-index.result c.args.inside.now (c.loop-index.index - 1) (omega (arith, c.loop-index-test.true, c.loop-index.auto.index)) c.index-inside-index.is)

pub loop-index-init : goal.loop-index-init
loop-index-init g c = record {
  known = λ t on. absurd (false≢true (sym (c.none-openers.ensures t) ∙ on));
  awaited = λ t i from below. absurd (omega (arith, from, below));
  falls = λ i from below. absurd (omega (arith, from, below));
}

pub loop-index-preserved : goal.loop-index-preserved
loop-index-preserved g c =
    let plan : Moves = moves_in c.args.moves.now in
    let w = c.args.self.now in
    let s = w.places.positions in
    let stops = c.args.notes.now.stops in
    let inside : List ℕ = c.args.inside.now in
    let y : ℕ = c.index-inside-index.result in
    let j : ℕ = c.loop-index.index - 1 in
    let within : j < length inside = omega (arith, c.loop-index-test.true, c.loop-index.auto.index) in
    let at : y ≡ get_or inside j 0 = c.index-inside-index.is ∙ get_or_default_zero inside j y within in
    let inv = c.loop-index.invariant in
    let a = c.add_awaited.new.openers in
    let b = c.add_by_falls.new.openers in
    let P : ℕ → Type 0 = λ v. (t : ℕ) → has_train b t ≡ false → is_inside plan s t ≡ true → IsNotAwaited plan s stops t v in
    let Q : ℕ → Type 0 = λ v. has_train b v ≡ false → is_inside plan s v ≡ true → IsNextStop stops v ⊎ FallsInVain plan s w.needs g.W.Width.WORDS stops inside v (plan.moves v) in
    record {
      known = λ t on.
          ⊎_elim
          (λ before. ⊎_elim (λ first. inv.known t first) (λ none. c.add_awaited.ensures.known t before none) (cases_Bool (has_train c.loop-index.openers t)))
          (λ none. c.add_by_falls.ensures.known t on none)
          (cases_Bool (has_train a t));
      awaited = λ t i from below off here.
          ⊎_elim
          (λ same. subst P (at ∙ ap (λ k. get_or inside k 0) (sym same)) (λ u out there. c.add_awaited.ensures.here u (c.add_by_falls.ensures.more u out) there) t off here)
          (λ ne. inv.awaited t i (omega (arith, from, ne)) below (c.add_awaited.ensures.more t (c.add_by_falls.ensures.more t off)) here)
          (cases_eq i j);
      falls = λ i from below off here.
          ⊎_elim
          (λ same. subst Q (at ∙ ap (λ k. get_or inside k 0) (sym same)) c.add_by_falls.ensures.here off here)
          (λ ne. inv.falls i (omega (arith, from, ne)) below (c.add_awaited.ensures.more (get_or inside i 0) (c.add_by_falls.ensures.more (get_or inside i 0) off)) here)
          (cases_eq i j);
    }

pub returns-clause-known : goal.returns-clause-known
returns-clause-known g c = λ t on. c.loop-index.invariant.known t on

pub returns-clause-others : goal.returns-clause-others
returns-clause-others g c = λ t off q is.
    let plan : Moves = moves_in c.args.moves.now in
    let w = c.args.self.now in
    let s = w.places.positions in
    let stops = c.args.notes.now.stops in
    let inside : List ℕ = c.args.inside.now in
    let made = c.requires.ready.made in
    let inv = c.loop-index.invariant in
    let openers = c.loop-index.openers in
    let here = (goes_parts plan s (record { train = t; place = q }) is).inside in
    let P : ℕ → Type 0 = λ v. IsNotAwaited plan s stops t v in
    let Q : ℕ → Type 0 = λ v. has_train openers v ≡ false → is_inside plan s v ≡ true → IsNextStop stops v ⊎ FallsInVain plan s w.needs g.W.Width.WORDS stops inside v (plan.moves v) in
    let one = in_index t inside (c.requires.listed.all t here) in
    unmarked_helps_not plan s stops w.needs g.W.Width.WORDS t made.moves.valid made.valid c.requires.ready.counted c.requires.settled
    (rest_within plan s g.W.Width.WORDS t c.requires.words made.valid) inside c.requires.several c.requires.listed
    (λ u found. let at = in_index u inside found in subst P at.2 (inv.awaited t at.0 (omega (arith, c.loop-index-test.false)) at.1 off here))
    (λ there. subst Q one.2 (inv.falls one.0 (omega (arith, c.loop-index-test.false)) one.1) off there)
    q is
