use Rattle.std.proofs.Common.{◌≡◌, ℕ, List, ◌++◌, sym, ap, ◌∙◌, subst}
use Rattle.rail_rules.specs.Moves.{Moves}
use Rattle.std.proofs.lemmas.Bool.{true≢false, false≢true}
use Rattle.rail_rules.specs.Places.{completes}
use Rattle.rail_place.specs.Tables.{moves_in}
use Rattle.rail_consequence.specs.Cores.{IsAhead}
use Rattle.rail_sets.specs.TrainSets.{has_train}
use Rattle.rail_consequence.specs.Workspace.{IsListing}
use Rattle.rail_consequence.proofs.Cores.{core_ahead}
use Rattle.rail_consequence.proofs.Safe.{ahead_still}
use Rattle.rail_consequence.proofs.Listing.{listed_at, listed_on}
use Rattle.rail_consequence.proofs.Played.{played_completes}
use Rattle.rail_consequence.proofs.Walks.{finds_at}
use Rattle.rail_consequence.proofs.analyst.Analyst.search_in.Goals as goal

pub search_from-requires-clause-listed : goal.search_from-requires-clause-listed
search_from-requires-clause-listed g c =
    let plan : Moves = moves_in c.args.moves.now in
    let s = c.args.places.now.positions in
    let P : List ℕ → Type 0 = λ xs. IsListing plan s xs in
    let listed : P c.follow.new.inside = listed_at plan c.follow.new.self.positions s c.follow.new.inside c.follow.ensures.positions c.follow.ensures.listed in
    listed_at plan s c.begin.new.self.places.positions c.as_slice-inside.result.now (sym c.begin.ensures.positions) (subst P (sym c.as_slice-inside.ensures) listed)

pub trains_inside-self-inside-requires-clause-listed : goal.trains_inside-self-inside-requires-clause-listed
trains_inside-self-inside-requires-clause-listed g c = λ t inside.
    let plan : Moves = moves_in c.args.moves.now in
    let s = c.args.places.now.positions in
    let P : List ℕ → Type 0 = λ xs. IsListing plan s xs in
    let listed : P c.follow.new.inside = listed_at plan c.follow.new.self.positions s c.follow.new.inside c.follow.ensures.positions c.follow.ensures.listed in
    let there = listed_on plan c.begin.new.self c.search_from.new.self c.follow.new.inside c.search_from.ensures.moves
    (listed_at plan s c.begin.new.self.places.positions c.follow.new.inside (sym c.begin.ensures.positions) listed) in
    c.set.ensures t ∙ there.all t inside

pub returns-then-search_from-clause-answer : goal.returns-then-search_from-clause-answer
returns-then-search_from-clause-answer g c =
    let plan : Moves = moves_in c.args.moves.now in
    let s = c.args.places.now.positions in
    let a = c.begin.new.self in
    let d = c.search_from.new.self in
    let same : a.places.positions ≡ s = c.begin.ensures.positions in
    let found = c.search_from.ensures.found c.if-search_from.true in
    let goes = found.0 in
    let list : d.list ≡ goes.more = goes.list ∙ ap (λ xs. xs ++ goes.more) c.begin.ensures.list in
    record {
      complete = λ yes. ap (λ xs. completes plan s xs) list ∙ ap (λ r. completes plan r goes.more) (sym same) ∙ played_completes plan a.places.positions goes.more d.places.positions goes.played found.1;
      some = λ yes. finds_at plan c.args.depth a.places.positions s same found.2;
      none = λ no. absurd (true≢false no);
      stuck = λ no. absurd (true≢false no);
    }

pub returns-clause-answer : goal.returns-clause-answer
returns-clause-answer g c =
    let plan : Moves = moves_in c.args.moves.now in
    let s = c.args.places.now.positions in
    let a = c.begin.new.self in
    let d = c.search_from.new.self in
    let same : a.places.positions ≡ s = c.begin.ensures.positions in
    let none = c.search_from.ensures.none c.if-search_from.false in
    let P : List ℕ → Type 0 = λ r. IsAhead plan r d.places.positions in
    let ahead : P s = subst P same (c.search_from.ensures.ahead c.if-search_from.false a.places.positions (ahead_still plan a.places.positions)) in
    record {
      complete = λ yes. absurd (false≢true yes);
      some = λ yes. absurd (false≢true yes);
      none = λ no found. none.0 (finds_at plan c.args.depth s a.places.positions (sym same) found);
      stuck = λ no. core_ahead plan c.args.depth s d.places.positions (has_train c.trains_inside-self-inside.result) ahead c.trains_inside-self-inside.ensures none.1;
    }
