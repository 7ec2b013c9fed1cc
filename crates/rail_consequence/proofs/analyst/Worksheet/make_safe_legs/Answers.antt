use Rattle.std.proofs.Common.{◌≡◌, ◌≢◌, ℕ, List, get_or, refl, sym, ap, ◌∙◌, subst, ⊎_elim, arith}
use Rattle.std.proofs.lemmas.Bool.{cases_lt, cases_eq}
use Rattle.std.proofs.lemmas.Grind.{get_or_default_zero}
use Rattle.rail_rules.specs.Moves.{Moves}
use Rattle.rail_rules.specs.Places.{is_inside}
use Rattle.rail_place.specs.Tables.{moves_in}
use Rattle.rail_consequence.specs.declared.notes.Stop.{Stop}
use Rattle.rail_consequence.specs.Searches.{HasNoSafeLegOf}
use Rattle.rail_consequence.specs.Stops.{IsSettledTrain, IsStopped, section_of, stop_of}
use Rattle.rail_consequence.specs.Workspace.{Work, IsBack}
use Rattle.rail_consequence.proofs.Counts.{in_at}
use Rattle.rail_consequence.proofs.Played.{goes_further}
use Rattle.rail_consequence.proofs.Walks.{both_ways, goes_back, left_back}
use Rattle.rail_consequence.proofs.analyst.Worksheet.make_safe_legs.Goals as goal

-- a train that is settled still is where one more is, and no move was made
still_settled : (plan : Moves) (b c : Work) (stops later : List Stop) (t u : ℕ) → IsBack b c → ((v : ℕ) → v ≢ t → stop_of later v ≡ stop_of stops v)
    → IsSettledTrain plan c.places.positions later t → IsSettledTrain plan b.places.positions stops u → IsSettledTrain plan c.places.positions later u
still_settled plan b c stops later t u back others here before =
    let P : ℕ → Type 0 = λ v. IsSettledTrain plan c.places.positions later v in
    let Q : List ℕ → Type 0 = λ s. HasNoSafeLegOf plan s u in
    ⊎_elim
    (λ same. subst P (sym same) here)
    (λ ne. record {
      none = subst Q (sym back.positions) before.none;
      stopped = λ x inside noted.
          let R : List ℕ → Type 0 = λ s. IsStopped plan s u x in
          subst R (sym back.positions) (before.stopped x (ap (λ s. is_inside plan s u) (sym back.positions) ∙ inside) (ap section_of (sym (others u ne)) ∙ noted));
    })
    (cases_eq u t)

pub make_safe_leg-requires-clause-train : goal.make_safe_leg-requires-clause-train
make_safe_leg-requires-clause-train g c =
    c.requires.listed.trains c.index-inside-index.result
    (in_at c.index-inside-index.result c.args.inside.now c.loop-index.index (omega arith) c.index-inside-index.is)

pub loop-index-init : goal.loop-index-init
loop-index-init g c = record {
  ready = c.requires.ready;
  noted = c.requires.noted;
  goes = goes_back (moves_in c.args.moves.now) c.args.self.now c.args.self.now (record { list = refl; positions = refl });
  same = λ k. (λ found. found, λ found. found);
  ahead = λ start ahead. ahead;
  no_more = omega arith;
  fewer = λ e. absurd (omega (arith, e));
  in_list = omega arith;
  within = c.requires.within;
  looked_at = λ i from below. c.requires.looked_at i below;
  behind = c.requires.settled;
}

pub loop-index-preserved-then-make_safe_leg : goal.loop-index-preserved-then-make_safe_leg
loop-index-preserved-then-make_safe_leg g c =
    let plan : Moves = moves_in c.args.moves.now in
    let a = c.args.self.now in
    let b = c.loop-index.self in
    let d = c.make_safe_leg.new.self in
    record {
      ready = c.make_safe_leg.ensures.ready;
      noted = c.make_safe_leg.ensures.noted;
      goes = goes_further plan a b d c.loop-index.invariant.goes c.make_safe_leg.ensures.moves;
      same = both_ways plan a.places.positions b.places.positions d.places.positions c.loop-index.invariant.same c.make_safe_leg.ensures.same;
      ahead = λ start ahead. c.make_safe_leg.ensures.ahead start (c.loop-index.invariant.ahead start ahead);
      no_more = omega (arith, c.make_safe_leg.ensures.fewer c.if-make_safe_leg.true, c.loop-index.invariant.no_more);
      fewer = λ _. omega (arith, c.make_safe_leg.ensures.fewer c.if-make_safe_leg.true, c.loop-index.invariant.no_more);
      in_list = omega arith;
      within = omega arith;
      looked_at = λ i from below. absurd (omega (arith, from, below));
      behind = λ i from below. absurd (omega (arith, from, below));
    }

pub loop-index-preserved : goal.loop-index-preserved
loop-index-preserved g c =
    let plan : Moves = moves_in c.args.moves.now in
    let a = c.args.self.now in
    let b = c.loop-index.self in
    let d = c.make_safe_leg.new.self in
    let inside : List ℕ = c.args.inside.now in
    let index : ℕ = c.loop-index.index in
    let train : ℕ = c.index-inside-index.result in
    let stops : List Stop = c.loop-index.notes.stops in
    let later : List Stop = c.make_safe_leg.new.notes.stops in
    let none = c.make_safe_leg.ensures.none c.if-make_safe_leg.false in
    let Q : List ℕ → Type 0 = λ s. HasNoSafeLegOf plan s train in
    let here : IsSettledTrain plan d.places.positions later train = record {
      none = subst Q (sym none.0.positions) none.1;
      stopped = c.make_safe_leg.ensures.stopped c.if-make_safe_leg.false;
    } in
    let still : (u : ℕ) → IsSettledTrain plan b.places.positions stops u → IsSettledTrain plan d.places.positions later u =
    λ u. still_settled plan b d stops later train u none.0 (c.make_safe_leg.ensures.others c.if-make_safe_leg.false) here in
    let at : train ≡ get_or inside index 0 = c.index-inside-index.is ∙ get_or_default_zero inside index train (omega arith) in
    let P : ℕ → Type 0 = λ u. IsSettledTrain plan d.places.positions later u in
    record {
      ready = c.make_safe_leg.ensures.ready;
      noted = c.make_safe_leg.ensures.noted;
      goes = goes_further plan a b d c.loop-index.invariant.goes c.make_safe_leg.ensures.moves;
      same = both_ways plan a.places.positions b.places.positions d.places.positions c.loop-index.invariant.same c.make_safe_leg.ensures.same;
      ahead = λ start ahead. c.make_safe_leg.ensures.ahead start (c.loop-index.invariant.ahead start ahead);
      no_more = omega (arith, left_back plan b d none.0, c.loop-index.invariant.no_more);
      fewer = λ e. omega (arith, left_back plan b d none.0, c.loop-index.invariant.fewer e);
      in_list = c.loop-index.invariant.in_list;
      within = c.loop-index.invariant.within;
      looked_at = λ i from below.
          ⊎_elim
          (λ earlier. still (get_or inside i 0) (c.loop-index.invariant.looked_at i from earlier))
          (λ last.
          let same : index ≡ i = omega (arith, last, below) in
          subst P (at ∙ ap (λ k. get_or inside k 0) same) here)
          (cases_lt i index);
      behind = λ i from below. still (get_or inside i 0) (c.loop-index.invariant.behind i from below);
    }

pub returns-clause-settled : goal.returns-clause-settled
returns-clause-settled g c = λ i from below.
    ⊎_elim
    (λ earlier. c.loop-index.invariant.looked_at i from earlier)
    (λ later. c.loop-index.invariant.behind i (omega (arith, later)) below)
    (cases_lt i c.loop-index.index)
