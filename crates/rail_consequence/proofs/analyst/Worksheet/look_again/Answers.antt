use Rattle.std.proofs.Common.{◌≡◌, ◌≢◌, ℕ, ◌+◌, ◌<◌, true, Some, List, get_or, length, take, sym, ap, ◌∙◌, subst, ⊎_elim, arith}
use Rattle.std.proofs.lemmas.Bool.{cases_eq, cases_lt}
use Rattle.std.proofs.lemmas.Grind.{get_or_default_zero}
use Rattle.rail_rules.specs.Moves.{Moves}
use Rattle.rail_rules.specs.Numbers.{is_in}
use Rattle.rail_rules.specs.Places.{is_inside}
use Rattle.rail_place.specs.Tables.{moves_in}
use Rattle.rail_consequence.specs.Searches.{HasNoSafeLegOf}
use Rattle.rail_consequence.specs.Stops.{IsNoted, IsSettledTrain, IsStopped, section_of, stop_of}
use Rattle.rail_consequence.specs.declared.notes.Stop.{Stop}
use Rattle.rail_consequence.proofs.Counts.{in_at, in_take_all, in_take_earlier}
use Rattle.rail_consequence.proofs.Noting.{noted_anew}
use Rattle.rail_consequence.proofs.analyst.Worksheet.look_again.Goals as goal
use Rattle.rail_consequence.proofs.analyst.Worksheet.look_again.Goals.{then-look_at-via-then-look_at, then-look_at-via-else-look_at+then-settled-index}

-- a train that is settled still is where one more is
settled_still : (plan : Moves) (s : List ℕ) (stops later : List Stop) (t u : ℕ) → ((v : ℕ) → v ≢ t → stop_of later v ≡ stop_of stops v)
    → ((x : ℕ) → is_inside plan s t ≡ true → section_of (stop_of later t) ≡ Some x → IsStopped plan s t x) → IsSettledTrain plan s stops u → IsSettledTrain plan s later u
settled_still plan s stops later t u others here before = record {
  none = before.none;
  stopped = λ x.
      let P : ℕ → Type 0 = λ v. is_inside plan s v ≡ true → section_of (stop_of later v) ≡ Some x → IsStopped plan s v x in
      ⊎_elim
      (λ same. subst P (sym same) (here x))
      (λ ne inside noted. before.stopped x inside (ap section_of (sym (others u ne)) ∙ noted))
      (cases_eq u t);
}

pub look_at-requires-clause-train : goal.look_at-requires-clause-train
look_at-requires-clause-train g c = c.requires.listed.trains c.index-inside-index.result (in_at c.index-inside-index.result c.args.inside.now c.loop-index.index c.loop-index-test.true c.index-inside-index.is)

-- a train that a look shows is settled, with those before it
settled_one_more : (plan : Moves) (s : List ℕ) (stops later : List Stop) (inside : List ℕ) (index t : ℕ) → index < length inside → t ≡ get_or inside index t
    → ((v : ℕ) → v ≢ t → stop_of later v ≡ stop_of stops v)
    → ((x : ℕ) → is_inside plan s t ≡ true → section_of (stop_of later t) ≡ Some x → IsStopped plan s t x)
    → (i : ℕ) → i < index + 1 → (i < index → IsSettledTrain plan s stops (get_or inside i 0)) → (i ≡ index → HasNoSafeLegOf plan s t) → IsSettledTrain plan s later (get_or inside i 0)
settled_one_more plan s stops later inside index t lt read others here i below before none =
    let Q : ℕ → Type 0 = λ u. IsSettledTrain plan s later u in
    ⊎_elim
    (λ earlier. settled_still plan s stops later t (get_or inside i 0) others here (before earlier))
    (λ last.
    let same : i ≡ index = omega (arith, last, below) in
    subst Q (read ∙ get_or_default_zero inside index t lt ∙ ap (λ k. get_or inside k 0) (sym same)) (record { none = none same; stopped = here }))
    (cases_lt i index)

-- what stops each train that was looked at, with one more
stopped_one_more : (plan : Moves) (s : List ℕ) (stops later : List Stop) (inside : List ℕ) (index t : ℕ) → index < length inside → t ≡ get_or inside index t
    → ((v : ℕ) → v ≢ t → stop_of later v ≡ stop_of stops v)
    → ((x : ℕ) → is_inside plan s t ≡ true → section_of (stop_of later t) ≡ Some x → IsStopped plan s t x)
    → ((u x : ℕ) → is_in u (take index inside) ≡ true → is_inside plan s u ≡ true → section_of (stop_of stops u) ≡ Some x → IsStopped plan s u x)
    → (u x : ℕ) → is_in u (take (index + 1) inside) ≡ true → is_inside plan s u ≡ true → section_of (stop_of later u) ≡ Some x → IsStopped plan s u x
stopped_one_more plan s stops later inside index t lt read others here before = λ u x found is noted.
    let P : ℕ → Type 0 = λ v. is_inside plan s v ≡ true → section_of (stop_of later v) ≡ Some x → IsStopped plan s v x in
    ⊎_elim
    (λ same. subst P (sym same) (here x) is noted)
    (λ ne. before u x (in_take_earlier u t inside index lt read ne found) is (ap section_of (sym (others u ne)) ∙ noted))
    (cases_eq u t)

pub loop-index-preserved-then-look_at : goal.loop-index-preserved-then-look_at
loop-index-preserved-then-look_at g c =
    let plan : Moves = moves_in c.args.moves.now in
    let s = c.args.self.now.places.positions in
    let inside : List ℕ = c.args.inside.now in
    let y : ℕ = c.index-inside-index.result in
    let look = c.look_at.ensures in
    record {
      noted = look.noted;
      stopped = stopped_one_more plan s c.loop-index.notes.stops c.look_at.new.notes.stops inside c.loop-index.index y c.loop-index-test.true c.index-inside-index.is look.others look.stopped c.loop-index.invariant.stopped;
      within = c.loop-index.invariant.within;
      settled = λ i below upto. settled_one_more plan s c.loop-index.notes.stops c.look_at.new.notes.stops inside c.loop-index.index y c.loop-index-test.true c.index-inside-index.is look.others look.stopped i below
          (λ earlier. c.loop-index.invariant.settled i earlier upto)
          (λ same. elim c.then-look_at.branch [
            | then-look_at-via-then-look_at w ↦ look.none w.if-look_at.true
            | then-look_at-via-else-look_at+then-settled-index w ↦ absurd (omega (arith, w.if-settled-index.true, same, upto))
          ]);
    }

pub loop-index-preserved : goal.loop-index-preserved
loop-index-preserved g c =
    let plan : Moves = moves_in c.args.moves.now in
    let s = c.args.self.now.places.positions in
    let inside : List ℕ = c.args.inside.now in
    let y : ℕ = c.index-inside-index.result in
    let look = c.look_at.ensures in
    record {
      noted = look.noted;
      stopped = stopped_one_more plan s c.loop-index.notes.stops c.look_at.new.notes.stops inside c.loop-index.index y c.loop-index-test.true c.index-inside-index.is look.others look.stopped c.loop-index.invariant.stopped;
      within = omega (arith, c.loop-index-test.true);
      settled = λ i below upto. settled_one_more plan s c.loop-index.notes.stops c.look_at.new.notes.stops inside c.loop-index.index y c.loop-index-test.true c.index-inside-index.is look.others look.stopped i below
          (λ earlier. c.loop-index.invariant.settled i earlier (omega (arith, earlier, c.if-settled-index.false)))
          (λ same. absurd (omega (arith, same, upto)));
    }

pub returns-clause-noted : goal.returns-clause-noted
returns-clause-noted g c =
    let plan : Moves = moves_in c.args.moves.now in
    let s = c.args.self.now.places.positions in
    let notes = c.loop-index.notes in
    noted_anew plan s notes.stops c.forget_falls.new.self c.requires.ready.made.valid
    (record {
      stopped = λ u x inside noted. c.loop-index.invariant.stopped u x (in_take_all u c.args.inside.now c.loop-index.index c.loop-index-test.false (c.requires.listed.all u inside)) inside noted;
      next = λ u x inside noted.
          let P : Stop → Type 0 = λ stop. IsNoted plan s notes.fell u stop in
          subst P noted (c.loop-index.invariant.noted.each u inside);
    })
    c.forget_falls.ensures.stops c.forget_falls.ensures.fell

pub returns-clause-settled : goal.returns-clause-settled
returns-clause-settled g c = λ i below.
    let P : List Stop → Type 0 = λ stops. IsSettledTrain (moves_in c.args.moves.now) c.args.self.now.places.positions stops (get_or c.args.inside.now i 0) in
    subst P (sym c.forget_falls.ensures.stops) (c.loop-index.invariant.settled i (omega (arith, below, c.loop-index.invariant.within, c.loop-index-test.false)) below)
