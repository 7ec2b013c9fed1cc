use Rattle.std.proofs.Common.{◌≡◌, ℕ, List, get_or, set, slice_index_or, sym, ap, ◌∙◌, subst}
use Rattle.rail_rules.specs.Analysis.{Finds}
use Rattle.rail_rules.specs.Places.{place_of}
use Rattle.rail_place.specs.Tables.{moves_in}
use Rattle.rail_rules.specs.Moves.{stand}
use Rattle.rail_reroute.proofs.Exchanged.{put_back}
use Rattle.rail_reroute.proofs.Standing.{free_apart}
use Rattle.rail_reroute.proofs.state.find_way.Goals as goal

pub put-requires-clause-free : goal.put-requires-clause-free
put-requires-clause-free c = λ u other.
    let table = c.args.moves.now in
    let place : ℕ = slice_index_or c.args.positions.now c.from.result 0 in
    free_apart table c.args.places.now (stand (moves_in table) c.args.train place) u c.requires.made (sym c.is_free.ensures ∙ c.if-not-is_free.false)

pub returns-clause-positions : goal.returns-clause-positions
returns-clause-positions c =
    let s = c.args.places.now.positions in
    let t = c.args.train in
    let place : ℕ = slice_index_or c.args.positions.now c.from.result 0 in
    c.put-2.ensures.positions
    ∙ (λ i. set (c.put.ensures.positions i) t 0)
    ∙ (λ i. set (set s t place) t (sym c.requires.outside i))
    ∙ put_back s t place 0

pub find_list-answer-requires-clause-fails : goal.find_list-answer-requires-clause-fails
find_list-answer-requires-clause-fails c = λ yes.
    let s : List ℕ = c.args.positions.now in
    let t = c.args.train in
    let place : slice_index_or s c.from.result 0 ≡ place_of s t = ap (λ k. get_or s k 0) (c.from.ensures ∙ c.train.view_is) in
    let at : c.put.new.self.positions ≡ s = c.put.ensures.positions ∙ ap (λ p. set c.args.places.now.positions t p) place ∙ c.requires.others in
    subst (λ (r : List ℕ). Finds (moves_in c.args.moves.now) c.args.depth r → ⊥) (sym at) (c.requires.fails yes)
