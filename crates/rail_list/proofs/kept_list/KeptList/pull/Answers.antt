use Rattle.std.proofs.Common.{◌≡◌, ℕ, suc, ◌+◌, true, List, length, get_or, sym, ap, ◌∙◌, arith}
use Rattle.std.specs.List.{remove}
use Rattle.rail_rules.specs.Fronts.{without_first}
use Rattle.rail_rules.specs.Moves.{Moves, stand}
use Rattle.rail_rules.specs.Places.{after, completes, is_inside, place_of}
use Rattle.rail_place.specs.Tables.{moves_in}
use Rattle.rail_place.proofs.CallerLemmas.{made_long}
use Rattle.rail_list.specs.KeptLists.{before_first, is_free_before}
use Rattle.rail_list.proofs.Pulling.{first_is, first_there, removed_is}
use Rattle.rail_list.proofs.Appending.{completing_listed}
use Rattle.rail_list.proofs.Turns.{pulled_where_free}
use Rattle.rail_list.proofs.kept_list.KeptList.pull.Goals as goal

pub free_entries_before-requires-clause-known : goal.free_entries_before-requires-clause-known
free_entries_before-requires-clause-known c =
    let table = c.args.moves.now in
    completing_listed (moves_in table) c.args.places.now.positions c.args.self.now.trains (length table) (made_long table c.args.places.now c.requires.made) c.requires.completes

pub take_out-requires-clause-within : goal.take_out-requires-clause-within
take_out-requires-clause-within c =
    omega (
      arith,
      first_there (moves_in c.args.moves.now) c.args.places.now.positions c.args.self.now.trains c.args.train c.requires.completes c.requires.inside,
      c.in-Some.ensures.first,
      ap length c.in-Some.ensures.trains,
    )

pub take_out-requires-clause-first : goal.take_out-requires-clause-first
take_out-requires-clause-first c =
    let list = c.args.self.now.trains in
    let t = c.args.train in
    let k = c.in-Some.first in
    let there = first_there (moves_in c.args.moves.now) c.args.places.now.positions list t c.requires.completes c.requires.inside in
    let here : t ≡ get_or list k 0 = sym (first_is list t there) ∙ ap (λ j. get_or list j 0) (sym c.in-Some.ensures.first) in
    c.in-Some.ensures.first
    ∙ ap (λ u. length (before_first u list)) here
    ∙ ap (λ xs. length (before_first (get_or xs k 0) xs)) (sym c.in-Some.ensures.trains)

pub returns-in-Some-clause-trains : goal.returns-in-Some-clause-trains
returns-in-Some-clause-trains c =
    let list = c.args.self.now.trains in
    c.take_out.ensures.trains
    ∙ ap (λ xs. remove xs c.in-Some.first) c.in-Some.ensures.trains
    ∙ ap (remove list) c.in-Some.ensures.first
    ∙ removed_is list c.args.train

-- what was looked at is what the train stands on after its move
exact : (plan : Moves) (s list sections : List ℕ) (t place : ℕ) → completes plan s list ≡ true → is_inside plan s t ≡ true
    → place ≡ place_of s t → sections ≡ stand plan t (place + 1)
    → is_free_before plan t sections list ≡ completes plan (after s t) (without_first t list)
exact plan s list sections t place done inside here stands =
    let next : place + 1 ≡ suc (place_of s t) = omega (arith, here) in
    ap (λ xs. is_free_before plan t xs list) (stands ∙ ap (stand plan t) next) ∙ sym (pulled_where_free plan s list t done inside)

pub returns-in-Some-clause-exact : goal.returns-in-Some-clause-exact
returns-in-Some-clause-exact c =
    c.in-Some.ensures.exact
    ∙ exact (moves_in c.args.moves.now) c.args.places.now.positions c.args.self.now.trains c.stand-sections.result.now c.args.train c.position.result c.requires.completes c.requires.inside c.position.ensures c.stand-sections.ensures.sections

pub returns-in-None-clause-exact : goal.returns-in-None-clause-exact
returns-in-None-clause-exact c =
    c.in-None.ensures.exact
    ∙ exact (moves_in c.args.moves.now) c.args.places.now.positions c.args.self.now.trains c.stand-sections.result.now c.args.train c.position.result c.requires.completes c.requires.inside c.position.ensures c.stand-sections.ensures.sections
