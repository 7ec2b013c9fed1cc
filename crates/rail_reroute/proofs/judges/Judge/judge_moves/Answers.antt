use Rattle.std.proofs.Common.{◌≡◌, ℕ, ◌<◌, Bool, List, IfOk, length, get_or, set, sym, ap, ◌∙◌, subst, arith}
use Rattle.std.proofs.lemmas.List.{length-set}
use Rattle.rail_base.specs.declared.plant.Tables.{Tables}
use Rattle.std.proofs.lemmas.List.{get_or-set_same}
use Rattle.rail_rules.specs.Moves.{stand}
use Rattle.rail_rules.specs.Numbers.{are_apart}
use Rattle.rail_rules.specs.Places.{place_of}
use Rattle.rail_rules.proofs.CallerLemmas.{state_parts}
use Rattle.rail_place.specs.PlaceStates.{IsMadeFor, State}
use Rattle.rail_place.specs.Tables.{IsTable, MoveLists, moves_in, no_lists}
use Rattle.rail_place.proofs.CallerLemmas.{made_long}
use Rattle.rail_consequence.specs.Needs.{AreRowsFor, IsRowsOf}
use Rattle.rail_reroute.specs.Judgements.{LeadsTo}
use Rattle.rail_reroute.specs.Judges.{moves_with}
use Rattle.rail_reroute.proofs.Alike.{core_alike, knows}
use Rattle.rail_reroute.proofs.Exchanged.{alike, alone, moves_back, put_back, sets_for}
use Rattle.rail_rules.specs.Analysis.{Finds}
use Rattle.rail_consequence.specs.Cores.{IsCore}
use Rattle.rail_consequence.proofs.CallerLemmas.{core_none}
use Rattle.rail_cores.specs.Alones.{IsAloneFor}
use Rattle.rail_cores.specs.declared.alone.Alone.{Alone}
use Rattle.rail_reroute.proofs.Standing.{back_apart, made_alike}
use Rattle.rail_reroute.proofs.judges.Judge.judge_moves.Goals as goal

pub exchange-requires-clause-sets : goal.exchange-requires-clause-sets
exchange-requires-clause-sets c =
    let table : List MoveLists = c.args.self.now.moves in
    let Q : List MoveLists → Type 0 = λ one. IsRowsOf (moves_in one) c.in_ok-sets.sets in
    sets_for table c.args.train (get_or c.args.row 0 no_lists) c.in_ok-sets.sets c.requires.train (subst Q (alone c.args.row c.requires.one) c.in_ok-sets.ensures)

pub find_way-answer-requires-clause-within : goal.find_way-answer-requires-clause-within
find_way-answer-requires-clause-within c = λ u lt.
    let here = c.exchange.ensures.here in
    omega (
      arith,
      c.requires.within u (omega (arith, lt, ap length here, length-set c.args.self.now.moves c.args.train (get_or c.args.row 0 no_lists))),
      ap (λ (table : List MoveLists). (moves_in table).moves u) here,
    )

pub exchange-requires-2-clause-sets : goal.exchange-requires-2-clause-sets
exchange-requires-2-clause-sets c =
    let some : 0 < length c.args.row = omega (arith, c.requires.one) in
    let P : List MoveLists → Type 0 = λ table. AreRowsFor (moves_in table) c.args.train c.exchange.new.sets in
    subst P (sym (moves_back c.args.self.now.moves c.exchange.new.self.moves c.args.row c.exchange.new.moves c.args.train some c.exchange.ensures.here c.exchange.ensures.there)) c.exchange.ensures.back

pub returns-clause-own : goal.returns-clause-own
returns-clause-own c =
    let s : List ℕ = c.args.positions.now in
    let t = c.args.train in
    let table : List MoveLists = c.args.self.now.moves in
    let some : 0 < length c.args.row = omega (arith, c.requires.one) in
    let same : c.exchange-2.new.self.moves ≡ table = c.exchange-2.ensures.here
    ∙ moves_back c.args.self.now.moves c.exchange.new.self.moves c.args.row c.exchange.new.moves c.args.train some c.exchange.ensures.here c.exchange.ensures.there in
    let away : c.exchange-2.new.self.places.positions ≡ set s t 0 =
    ap (λ (state : State). state.positions) c.exchange-2.ensures.places ∙ c.find_way-answer.ensures.positions
    ∙ ap (λ (state : State). state.positions) c.exchange.ensures.places ∙ c.put.ensures.positions ∙ ap (λ (xs : List ℕ). set xs t 0) c.requires.there in
    let place : get_or s c.from.result 0 ≡ place_of s t = ap (λ k. get_or s k 0) (c.from.ensures ∙ c.train.view_is) in
    let there : c.put-2.new.self.positions ≡ c.args.self.now.places.positions =
    c.put-2.ensures.positions ∙ (λ i. set (away i) t (place i)) ∙ put_back s t 0 0 ∙ sym c.requires.there in
    let alone : c.exchange-2.new.self.alone ≡ c.args.self.now.alone = c.exchange-2.ensures.alone ∙ c.exchange.ensures.alone in
    record {
      plannable = c.requires.own.plannable;
      moves = same ∙ c.requires.own.moves;
      analyst = c.exchange-2.ensures.analyst;
      places = c.put-2.ensures.made;
      alone = subst (λ (given : List MoveLists). IsAloneFor (moves_in given) c.exchange-2.new.self.alone) (sym same)
          (subst (λ (given : Alone). IsAloneFor (moves_in table) given) (sym alone) c.requires.own.alone);
      known = knows (moves_in table) (moves_in c.exchange-2.new.self.moves) c.args.self.now.tables.depth c.exchange-2.new.self.tables.depth
          c.args.self.now.places.positions c.put-2.new.self.positions c.args.self.now.core c.exchange-2.new.self.core
          (ap moves_in same)
          (ap (λ (given : Tables). given.depth) (c.exchange-2.ensures.tables ∙ c.exchange.ensures.tables))
          there (c.exchange-2.ensures.known ∙ c.exchange.ensures.known) c.requires.own.known;
    }

pub find_way-answer-requires-clause-fails : goal.find_way-answer-requires-clause-fails
find_way-answer-requires-clause-fails c = λ yes.
    let s : List ℕ = c.args.positions.now in
    let t = c.args.train in
    let table : List MoveLists = c.args.self.now.moves in
    let row : MoveLists = get_or c.args.row 0 no_lists in
    let k : ℕ = c.args.self.now.tables.depth in
    let known = c.fails_without-fails.ensures yes in
    let core : ℕ → Bool = known.0 in
    let here : IsCore (moves_in table) k s core = subst (λ (r : List ℕ). IsCore (moves_in table) k r core) c.requires.there known.2 in
    let none : Finds (moves_in (set table t row)) k s → ⊥ =
    core_none (moves_in (set table t row)) k s core
    (core_alike (moves_in table) (moves_in (set table t row)) t k s core c.what_can_be_found_can_be_found_ahead.ensures (alike table t row) known.1 here) in
    subst (λ (d : ℕ). Finds (moves_in c.exchange.new.self.moves) d s → ⊥) (ap (λ (given : Tables). given.depth) (sym c.exchange.ensures.tables))
    (subst (λ (given : List MoveLists). Finds (moves_in given) k s → ⊥) (sym c.exchange.ensures.here) none)

pub returns-clause-answer : goal.returns-clause-answer
returns-clause-answer c =
    let s : List ℕ = c.args.positions.now in
    let P : List MoveLists → Type 0 = λ table. IfOk c.find_way-answer.result (LeadsTo (moves_in table) c.exchange.new.self.tables.depth s) in
    let Q : Tables → Type 0 = λ given. IfOk c.find_way-answer.result (LeadsTo (moves_with c.args.self.now.moves c.args.train c.args.row) given.depth s) in
    subst Q c.exchange.ensures.tables (subst P c.exchange.ensures.here c.find_way-answer.ensures.answer)

pub find_way-answer-requires-clause-made : goal.find_way-answer-requires-clause-made
find_way-answer-requires-clause-made c =
    let s : List ℕ = c.args.positions.now in
    let t = c.args.train in
    let table : List MoveLists = c.args.self.now.moves in
    let was : State = c.args.self.now.places in
    let made : IsMadeFor table was = c.requires.own.places in
    let within : t < length table = c.requires.train in
    let listed : t < length s = omega (arith, within, made_long table was made, ap length c.requires.there) in
    let row : MoveLists = get_or c.args.row 0 no_lists in
    let outside : place_of c.put.new.self.positions t ≡ 0 =
    ap (λ (xs : List ℕ). place_of xs t) (c.put.ensures.positions ∙ ap (λ (xs : List ℕ). set xs t 0) c.requires.there) ∙ get_or-set_same s t 0 0 listed in
    let P : List MoveLists → Type 0 = λ given. IsTable given in
    let now : IsMadeFor (set table t row) c.put.new.self = made_alike table t row c.put.new.self c.put.ensures.made outside (subst P c.exchange.ensures.here c.trains-place.ensures.table) in
    let Q : List MoveLists → Type 0 = λ given. IsMadeFor given c.put.new.self in
    let R : State → Type 0 = λ given. IsMadeFor c.exchange.new.self.moves given in
    subst R (sym c.exchange.ensures.places) (subst Q (sym c.exchange.ensures.here) now)

pub find_way-answer-requires-clause-others : goal.find_way-answer-requires-clause-others
find_way-answer-requires-clause-others c =
    let s : List ℕ = c.args.positions.now in
    let t = c.args.train in
    let away : c.exchange.new.self.places.positions ≡ set s t 0 =
    ap (λ (state : State). state.positions) c.exchange.ensures.places ∙ c.put.ensures.positions ∙ ap (λ (xs : List ℕ). set xs t 0) c.requires.there in
    ap (λ (xs : List ℕ). set xs t (place_of s t)) away ∙ put_back s t 0 0

pub put-requires-2-clause-made : goal.put-requires-2-clause-made
put-requires-2-clause-made c =
    let s : List ℕ = c.args.positions.now in
    let t = c.args.train in
    let table : List MoveLists = c.args.self.now.moves in
    let was : State = c.args.self.now.places in
    let made : IsMadeFor table was = c.requires.own.places in
    let within : t < length table = c.requires.train in
    let listed : t < length s = omega (arith, within, made_long table was made, ap length c.requires.there) in
    let away : c.exchange.new.self.places.positions ≡ set s t 0 =
    ap (λ (state : State). state.positions) c.exchange.ensures.places ∙ c.put.ensures.positions ∙ ap (λ (xs : List ℕ). set xs t 0) c.requires.there in
    let some : 0 < length c.args.row = omega (arith, c.requires.one) in
    let again = moves_back table c.exchange.new.self.moves c.args.row c.exchange.new.moves t some c.exchange.ensures.here c.exchange.ensures.there in
    let now : List MoveLists = c.exchange.new.self.moves in
    let row : MoveLists = get_or c.exchange.new.moves 0 no_lists in
    let here : State = c.find_way-answer.new.places in
    let outside : place_of here.positions t ≡ 0 = ap (λ (xs : List ℕ). place_of xs t) (c.find_way-answer.ensures.positions ∙ away) ∙ get_or-set_same s t 0 0 listed in
    let P : List MoveLists → Type 0 = λ given. IsTable given in
    let kept : IsMadeFor (set now t row) here = made_alike now t row here c.find_way-answer.ensures.made outside (subst P (sym again) made.moves) in
    let Q : List MoveLists → Type 0 = λ given. IsMadeFor given here in
    let R : State → Type 0 = λ given. IsMadeFor c.exchange-2.new.self.moves given in
    subst R (sym c.exchange-2.ensures.places) (subst Q (sym c.exchange-2.ensures.here) kept)

pub put-requires-2-clause-within : goal.put-requires-2-clause-within
put-requires-2-clause-within c =
    let s : List ℕ = c.args.positions.now in
    let t = c.args.train in
    let table : List MoveLists = c.args.self.now.moves in
    let was : State = c.args.self.now.places in
    let made : IsMadeFor table was = c.requires.own.places in
    let within : t < length table = c.requires.train in
    let listed : t < length s = omega (arith, within, made_long table was made, ap length c.requires.there) in
    let some : 0 < length c.args.row = omega (arith, c.requires.one) in
    let again = moves_back table c.exchange.new.self.moves c.args.row c.exchange.new.moves t some c.exchange.ensures.here c.exchange.ensures.there in
    let at : c.from.result ≡ t = c.from.ensures ∙ c.train.view_is in
    let same : c.exchange-2.new.self.moves ≡ table = c.exchange-2.ensures.here ∙ again in
    omega (
      arith,
      (state_parts (moves_in table) was.positions made.valid).within t (omega (arith, listed, ap length c.requires.there)),
      ap (λ k. get_or s k 0) at,
      ap (λ (xs : List ℕ). place_of xs t) c.requires.there,
      ap (λ (given : List MoveLists). length (get_or given t no_lists).claims) same,
    )

pub put-requires-2-clause-free : goal.put-requires-2-clause-free
put-requires-2-clause-free c = λ u other.
    let s : List ℕ = c.args.positions.now in
    let t = c.args.train in
    let table : List MoveLists = c.args.self.now.moves in
    let was : State = c.args.self.now.places in
    let made : IsMadeFor table was = c.requires.own.places in
    let within : t < length table = c.requires.train in
    let listed : t < length s = omega (arith, within, made_long table was made, ap length c.requires.there) in
    let away : c.exchange.new.self.places.positions ≡ set s t 0 =
    ap (λ (state : State). state.positions) c.exchange.ensures.places ∙ c.put.ensures.positions ∙ ap (λ (xs : List ℕ). set xs t 0) c.requires.there in
    let some : 0 < length c.args.row = omega (arith, c.requires.one) in
    let again = moves_back table c.exchange.new.self.moves c.args.row c.exchange.new.moves t some c.exchange.ensures.here c.exchange.ensures.there in
    let at : c.from.result ≡ t = c.from.ensures ∙ c.train.view_is in
    let place = ap (λ k. get_or s k 0) at in
    let same : c.exchange-2.new.self.moves ≡ table = c.exchange-2.ensures.here ∙ again in
    let there : c.exchange-2.new.self.places.positions ≡ set s t 0 = ap (λ (state : State). state.positions) c.exchange-2.ensures.places ∙ c.find_way-answer.ensures.positions ∙ away in
    (λ i. are_apart (stand (moves_in (same i)) t (place i)) (stand (moves_in (same i)) u (place_of (there i) u)))
    ∙ back_apart table s t 0 u was made c.requires.there listed other
