use Rattle.std.proofs.Common.{◌≡◌, ℕ, suc, ◌+◌, ◌-◌, ◌<◌, ◌++◌, List, [], length, get_or, Bool, Option, Some, None, true, not, cond, leb, refl, sym, ap, ◌∙◌, arith}
use Rattle.std.specs.List.{find}
use Rattle.std.proofs.lemmas.Bool.{le-leb}
use Rattle.std.proofs.lemmas.List.{get_or-map}
use Rattle.rail_base.specs.declared.plant.MoveRow.{MoveRow}
use Rattle.rail_rules.specs.Accepted.{is_move_in_range}
use Rattle.rail_rules.specs.Numbers.{is_in, or_else}
use Rattle.rail_rules.specs.Plant.{no_move}
use Rattle.rail_plan.specs.PlanFaults.{bare, blocked_by, metres_of, standing_of}
use Rattle.rail_plan.specs.declared.faults.PlanFault.TheVariants.{SelfBlocked, TooLong}
use Rattle.rail_plan.proofs.Fine.{item_read}
use Rattle.rail_plan.proofs.faults.place_fault.Goals as goal

pub route_length-requires-clause-fine : goal.route_length-requires-clause-fine
route_length-requires-clause-fine c =
    let rows : List MoveRow = c.args.moves.now in
    let m = c.args.place - 1 in
    let at : c.from-index.result - 1 ≡ m = omega (arith, c.from-index.ensures) in
    let here : m < length rows = omega (arith, c.requires.inside, c.requires.first) in
    let before : c.index-moves-index.result ≡ get_or rows m no_move = item_read rows rows (c.from-index.result - 1) m c.index-moves-index.result no_move refl at here c.index-moves-index.is in
    let test : MoveRow → Bool = is_move_in_range (length c.args.tables.now.sections) in
    ap test before ∙ c.requires.fine m here

pub returns : goal.returns
returns c =
    let plant = bare c.args.tables.now in
    let t : ℕ = c.args.train in
    let metres : ℕ = c.args.metres in
    let rows : List MoveRow = c.args.moves.now in
    let m = c.args.place - 1 in
    let at : c.from-index.result - 1 ≡ m = omega (arith, c.from-index.ensures) in
    let here : m < length rows = omega (arith, c.requires.inside, c.requires.first) in
    let before : c.index-moves-index.result ≡ get_or rows m no_move = item_read rows rows (c.from-index.result - 1) m c.index-moves-index.result no_move refl at here c.index-moves-index.is in
    let next : c.index-moves-index-2.result ≡ get_or rows (suc m) no_move =
    item_read rows rows (c.from-index.result - 1 + 1) (suc m) c.index-moves-index-2.result no_move refl (omega (arith, at)) (omega (arith, c.requires.inside, c.requires.first)) c.index-moves-index-2.is in
    let stand : c.at.result.now ≡ standing_of plant metres (get_or rows m no_move) =
    c.at.ensures ∙ (λ i. get_or (c.requires.stands i) (at i) []) ∙ get_or-map (standing_of plant metres) rows m no_move [] here in
    let claimed : MoveRow → List ℕ = λ row. row.sections ++ row.overlap in
    let find_in : List ℕ → List ℕ → Option ℕ = λ xs ys. find (λ x. is_in x xs) ys in
    let found : find_in (standing_of plant metres (get_or rows m no_move)) (claimed (get_or rows (suc m) no_move)) ≡ Some c.in_ok-section.section =
    sym (λ i. find_in (stand i) (claimed (next i))) ∙ sym c.first_claimed.ensures ∙ c.in_ok-section.was in
    let long : ℕ = metres_of plant (get_or rows m no_move).sections in
    let fits : leb metres long ≡ true = le-leb metres long (omega (arith, c.if-route_length-metres.false, c.route_length.ensures, ap (λ (row : MoveRow). metres_of plant row.sections) before)) in
    let place : suc m ≡ c.args.place = omega (arith, c.requires.first) in
    ap (λ n. Some (SelfBlocked t n c.in_ok-section.section)) (sym place)
    ∙ ap (blocked_by t (suc m)) (sym found)
    ∙ ap (λ (b : Bool). or_else (cond (not b) (Some (TooLong t (suc m))) None) (blocked_by t (suc m) (find_in (standing_of plant metres (get_or rows m no_move)) (claimed (get_or rows (suc m) no_move))))) (sym fits)
