use Rattle.std.proofs.Common.{◌≡◌, ℕ, ◌+◌, ◌-◌, ◌++◌, List, length, replicate, set, vec_capacity, sym, ap, ◌∙◌, subst, arith}
use Rattle.std.specs.Global.{Vec}
use Rattle.std.proofs.lemmas.List.{length-append, length-replicate}
use Rattle.rail_rules.specs.Moves.{Moves}
use Rattle.rail_rules.specs.Places.{place_of}
use Rattle.rail_rules.specs.Analysis.{moves_left}
use Rattle.rail_place.specs.Tables.{moves_in}
use Rattle.rail_place.specs.Plays.{IsPlayed}
use Rattle.rail_consequence.specs.Workspace.{Work}
use Rattle.rail_consequence.proofs.Going.{leg_free, leg_played}
use Rattle.rail_consequence.proofs.Legs.{goes_parts, inside_listed}
use Rattle.rail_consequence.proofs.Played.{moves_left_at, ready_as}
use Rattle.rail_consequence.proofs.analyst.Worksheet.go_to.Goals as goal

pub put-requires-clause-free : goal.put-requires-clause-free
put-requires-clause-free g c =
    let plan : Moves = moves_in c.args.moves.now in
    let s = c.args.self.now.places.positions in
    let t = c.args.train in
    let goes = goes_parts plan s (record { train = t; place = c.args.place }) c.requires.leg in
    leg_free plan s t c.args.place (c.args.place - place_of s t) c.requires.ready.made.moves.valid c.requires.ready.made.valid c.requires.leg (omega (arith, goes.ahead))

pub put-requires-clause-few : goal.put-requires-clause-few
put-requires-clause-few g c =
    let plan : Moves = moves_in c.args.moves.now in
    let s = c.args.self.now.places.positions in
    let t = c.args.train in
    let goes = goes_parts plan s (record { train = t; place = c.args.place }) c.requires.leg in
    let fewer = moves_left_at plan s t c.args.place (c.args.place - place_of s t) (inside_listed plan s t goes.inside) (omega (arith, goes.ahead)) goes.within in
    omega (arith, c.requires.ready.few, fewer)

pub add_copies-requires : goal.add_copies-requires
add_copies-requires g c =
    let plan : Moves = moves_in c.args.moves.now in
    let s = c.args.self.now.places.positions in
    let t = c.args.train in
    let at : c.position.result ≡ place_of s t = c.position.ensures ∙ ap (λ (w : Work). place_of w.places.positions t) c.self.view_is in
    let goes = goes_parts plan s (record { train = t; place = c.args.place }) c.requires.leg in
    let fewer = moves_left_at plan s t c.args.place (c.args.place - place_of s t) (inside_listed plan s t goes.inside) (omega (arith, goes.ahead)) goes.within in
    omega (arith, c.requires.ready.few, fewer, at, ap length c.put.ensures.list, ap (λ (w : Work). length w.list) c.self-2.view_is, c.self-2.inside.list.ok, c.self-2.invariant, ap (λ (v : Vec ℕ). length v.items) c.replace-list.ensures.value, ap (λ (v : Vec ℕ). vec_capacity v) c.replace-list.ensures.value)

pub returns-clause-ready : goal.returns-clause-ready
returns-clause-ready g c =
    let table = c.args.moves.now in
    let plan : Moves = moves_in table in
    let s = c.args.self.now.places.positions in
    let t = c.args.train in
    let k : ℕ = c.args.place - c.position.result in
    let at : c.position.result ≡ place_of s t = c.position.ensures ∙ ap (λ (w : Work). place_of w.places.positions t) c.self.view_is in
    let goes = goes_parts plan s (record { train = t; place = c.args.place }) c.requires.leg in
    let fewer = moves_left_at plan s t c.args.place k (inside_listed plan s t goes.inside) (omega (arith, at, goes.ahead)) goes.within in
    let w = c.put.new.self in
    let long : length (w.list ++ replicate k t) ≡ length c.args.self.now.list + k = length-append w.list (replicate k t) ∙ omega (arith, ap length c.put.ensures.list, length-replicate {A = ℕ} k t) in
    let own : Work = record { rows = c.self-2.inside.rows; places = c.self-2.inside.places; taken = c.self-2.inside.taken; needs = c.self-2.inside.needs; list = c.self-2.inside.list.items } in
    let items : c.add_copies.new.table.items ≡ w.list ++ replicate k t = c.add_copies.ensures.rows ∙ ap (λ (v : Vec ℕ). v.items ++ replicate c.from.result t) c.replace-list.ensures.value ∙ ap (λ n. c.self-2.inside.list.items ++ replicate {A = ℕ} n t) c.from.ensures ∙ ap (λ (v : Work). v.list ++ replicate k t) c.self-2.view_is in
    let own_ready = ready_as table own w c.self-2.view_is c.put.ensures.ready in
    record {
      rows = own_ready.rows;
      made = own_ready.made;
      taken = own_ready.taken;
      wide = own_ready.wide;
      counted = own_ready.counted;
      few = omega (arith, c.requires.ready.few, fewer, long, ap length items, ap (λ (v : Work). moves_left plan v.places.positions) c.self-2.view_is, ap (moves_left plan) c.put.ensures.positions);
    }

pub returns-clause-moves : goal.returns-clause-moves
returns-clause-moves g c =
    let plan : Moves = moves_in c.args.moves.now in
    let s = c.args.self.now.places.positions in
    let t = c.args.train in
    let k : ℕ = c.args.place - c.position.result in
    let at : c.position.result ≡ place_of s t = c.position.ensures ∙ ap (λ (w : Work). place_of w.places.positions t) c.self.view_is in
    let goes = goes_parts plan s (record { train = t; place = c.args.place }) c.requires.leg in
    let there : c.self-2.inside.places.positions ≡ set s t c.args.place = ap (λ (w : Work). w.places.positions) c.self-2.view_is ∙ c.put.ensures.positions in
    let P : List ℕ → Type 0 = λ q. IsPlayed plan s (replicate k t) q in
    record {
      more = replicate k t;
      list = c.add_copies.ensures.rows ∙ ap (λ (v : Vec ℕ). v.items ++ replicate c.from.result t) c.replace-list.ensures.value ∙ ap (λ n. c.self-2.inside.list.items ++ replicate {A = ℕ} n t) c.from.ensures ∙ ap (λ (w : Work). w.list ++ replicate k t) c.self-2.view_is ∙ ap (λ xs. xs ++ replicate k t) c.put.ensures.list;
      played = subst P (sym there) (leg_played plan s t c.args.place k c.requires.leg (omega (arith, at, goes.ahead)));
    }
