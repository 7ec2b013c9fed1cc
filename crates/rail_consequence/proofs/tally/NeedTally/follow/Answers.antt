use Rattle.std.proofs.Common.{◌≡◌, ℕ, ◌+◌, ◌<◌, ◌≤◌, false, ◌&&◌, nat_lt, List, get_or, length, set, sym, ap, ◌∙◌, subst, ⊎_elim, arith}
use Rattle.std.proofs.lemmas.Bool.{cases_eq, cases_lt}
use Rattle.std.proofs.lemmas.List.{ext_get_or, get_or-set_same, get_or-set_other}
use Rattle.rail_rules.specs.Moves.{Moves}
use Rattle.rail_rules.specs.Places.{is_inside, place_of}
use Rattle.rail_rules.proofs.CallerLemmas.{state_parts}
use Rattle.rail_place.specs.Tables.{moves_in}
use Rattle.rail_consequence.specs.Workspace.{IsListing}
use Rattle.rail_consequence.proofs.Listing.{listed_with, listed_without}
use Rattle.rail_consequence.proofs.tally.NeedTally.follow.Goals as goal
use Rattle.rail_consequence.proofs.tally.NeedTally.follow.Goals.{then-stands_inside, else-stands_inside}

-- where a train goes to its place in a list, and the next ones have theirs, all before them have
same_more : (s old new ours theirs : List ℕ) (n m place : ℕ) → new ≡ set old n place → place ≡ place_of s n → n < length old → ours ≡ new → theirs ≡ s
    → ((u : ℕ) → u < n → place_of old u ≡ place_of s u)
    → ((k d : ℕ) → n + 1 ≤ k → k < m → get_or ours k d ≡ get_or theirs k d)
    → (u : ℕ) → u < m → place_of new u ≡ place_of s u
same_more s old new ours theirs n m place moved there within our their same next u lt =
    ⊎_elim
    (λ before. ap (λ xs. place_of xs u) moved ∙ get_or-set_other old n u place 0 (omega (arith, before)) ∙ same u before)
    (λ from.
    ⊎_elim
    (λ here. ap (place_of new) here ∙ ap (λ xs. place_of xs n) moved ∙ get_or-set_same old n place 0 within ∙ there ∙ ap (place_of s) (sym here))
    (λ ne. ap (λ xs. place_of xs u) (sym our) ∙ next u 0 (omega (arith, from, ne)) lt ∙ ap (λ xs. place_of xs u) their)
    (cases_eq u n))
    (cases_lt u n)

pub follow_train-requires-clause-within : goal.follow_train-requires-clause-within
follow_train-requires-clause-within g c =
    let plan : Moves = moves_in c.args.moves.now in
    let state = state_parts plan c.args.places.now.positions c.requires.made.valid in
    omega (arith, c.position.ensures, state.within c.loop-number.number (omega (arith, state.long, c.loop-number.invariant.kept.long, c.len.ensures, ap (λ a. length a.positions) c.self-in-loop-number.view_is, c.loop-number-test.true)))

pub loop-number-preserved : goal.loop-number-preserved
loop-number-preserved g c =
    let plan : Moves = moves_in c.args.moves.now in
    let s : List ℕ = c.args.places.now.positions in
    let n = c.loop-number.number in
    let m = c.first_other-number-in-loop-number.result in
    let place = c.position.result in
    let old : List ℕ = c.loop-number.self.positions in
    let new : List ℕ = c.follow_train.new.self.positions in
    let within : n < length old = omega (arith, c.len.ensures, ap (λ a. length a.positions) c.self-in-loop-number.view_is, c.loop-number-test.true) in
    let our : c.deref-in-loop-number.result.now ≡ new = c.deref-in-loop-number.ensures.value ∙ ap (λ a. a.positions) c.self-in-loop-number-2.view_is in
    let moved : new ≡ set old n place = c.follow_train.ensures.positions in
    let same = same_more s old new c.deref-in-loop-number.result.now c.positions-in-loop-number.result.now n m place moved c.position.ensures within our c.positions-in-loop-number.ensures c.loop-number.invariant.same c.first_other-number-in-loop-number.ensures.same in
    let P : List ℕ → Type 0 = λ xs. IsListing plan (set old n place) xs in
    let known : n < plan.trains = omega (arith, within, c.loop-number.invariant.kept.long) in
    let at : place_of (set old n place) n ≡ place_of s n = get_or-set_same old n place 0 within ∙ c.position.ensures in
    let listed : P c.if-stands_inside.inside = elim c.if-stands_inside.branch [
      | then-stands_inside w ↦ subst P (sym w.inside-is) (listed_with plan old c.loop-number.inside w.include.new.self n place c.loop-number.invariant.listed known w.include.ensures)
      | else-stands_inside w ↦
          let out : is_inside plan (set old n place) n ≡ false = ap (λ q. nat_lt 0 q && nat_lt q (plan.moves n)) at ∙ sym c.stands_inside.ensures ∙ w.if-stands_inside.false in
          subst P (sym w.inside-is) (listed_without plan old c.loop-number.inside w.exclude.new.self n place c.loop-number.invariant.listed out w.exclude.ensures)
    ] in
    record {
      kept = c.follow_train.ensures.kept;
      same = same;
      bound = omega (arith, c.first_other-number-in-loop-number.ensures.bound, ap length our);
      listed = let Q : List ℕ → Type 0 = λ q. IsListing plan q c.if-stands_inside.inside in subst Q (sym moved) listed;
      noted = c.follow_train.ensures.noted;
    }

pub returns-clause-positions : goal.returns-clause-positions
returns-clause-positions g c =
    let plan : Moves = moves_in c.args.moves.now in
    let s : List ℕ = c.args.places.now.positions in
    let state = state_parts plan s c.requires.made.valid in
    let end : length c.loop-number.self.positions ≤ c.loop-number.number = omega (arith, c.len.ensures, ap (λ a. length a.positions) c.self-in-loop-number.view_is, c.loop-number-test.false) in
    ext_get_or 0 c.loop-number.self.positions s (omega (arith, c.loop-number.invariant.kept.long, state.long))
    (λ u lt. c.loop-number.invariant.same u (omega (arith, lt, end)))
