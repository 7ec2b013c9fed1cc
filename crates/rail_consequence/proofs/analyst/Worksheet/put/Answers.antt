use Rattle.std.proofs.Common.{ℕ, ◌*◌, ◌<◌, List, length, set, sym, ap, ◌∙◌, subst, arith}
use Rattle.std.proofs.lemmas.List.{length-set}
use Rattle.rail_rules.specs.Moves.{Moves, stand}
use Rattle.rail_rules.specs.Numbers.{is_in}
use Rattle.rail_rules.specs.Places.{place_of}
use Rattle.rail_rules.specs.Analysis.{moves_left}
use Rattle.rail_rules.proofs.CallerLemmas.{state_parts}
use Rattle.rail_place.specs.Tables.{moves_in}
use Rattle.rail_consequence.specs.Needs.{IsAmong, IsCounted, IsRecounted, IsSet}
use Rattle.rail_consequence.specs.Workspace.{Work}
use Rattle.rail_consequence.proofs.Counts.{among_counted, counted_on, none_behind}
use Rattle.rail_consequence.proofs.Holding.{AreTaken, are_owned, free_behind, owned_from, taken_then, place_within}
use Rattle.rail_consequence.proofs.Played.{ready_as}
use Rattle.rail_consequence.proofs.analyst.Worksheet.put.Goals as goal

pub stand-gone-requires-clause-within : goal.stand-gone-requires-clause-within
stand-gone-requires-clause-within g c =
    let at = c.position-from.ensures ∙ ap (λ (w : Work). place_of w.places.positions c.args.train) c.self.view_is in
    omega (arith, at, place_within c.args.moves.now c.args.self.now.places c.args.train c.requires.ready.made c.requires.train)

pub recount-requires-clause-from : goal.recount-requires-clause-from
recount-requires-clause-from g c =
    let at = c.position-from.ensures ∙ ap (λ (w : Work). place_of w.places.positions c.args.train) c.self.view_is in
    omega (arith, at, place_within c.args.moves.now c.args.self.now.places c.args.train c.requires.ready.made c.requires.train)

pub recount-requires-clause-among : goal.recount-requires-clause-among
recount-requires-clause-among g c =
    let table = c.args.moves.now in
    let plan : Moves = moves_in table in
    let t = c.args.train in
    let own : Work = record { rows = c.self.inside.rows; places = c.self.inside.places; taken = c.self.inside.taken; needs = c.self.inside.needs; list = c.self.inside.list.items } in
    let ready = ready_as table own c.args.self.now c.self.view_is c.requires.ready in
    let long = (state_parts plan own.places.positions ready.made.valid).long in
    let P : ℕ → Type 0 = λ p. IsAmong plan t p own.needs in
    subst P (sym c.position-from.ensures)
    (among_counted plan own.places.positions own.needs ready.counted t (omega (arith, c.requires.train, long)) (omega (arith, long, ready.made.moves.few)))

pub invariant_of-self : goal.invariant_of-self
invariant_of-self g c =
    let table = c.args.moves.now in
    let plan : Moves = moves_in table in
    let t = c.args.train in
    let p = c.args.place in
    let own : Work = record { rows = c.self.inside.rows; places = c.self.inside.places; taken = c.self.inside.taken; needs = c.self.inside.needs; list = c.self.inside.list.items } in
    let ready = ready_as table own c.args.self.now c.self.view_is c.requires.ready in
    let s : List ℕ = own.places.positions in
    let long = (state_parts plan s ready.made.valid).long in
    let n : ℕ = 64 * own.rows.width in
    let R : ℕ → Type 0 = λ q. IsRecounted plan t q p own.needs c.recount.new.needs in
    let counted = counted_on plan s own.needs ready.counted t (omega (arith, c.requires.train, long)) p c.recount.new.needs (subst R c.position-from.ensures c.recount.ensures) in
    record {
      room = c.self.invariant.room;
      free = free_behind table c.put.new.self n c.put.ensures.made (λ u i x known is. ready.rows.narrow u i x known is);
      idle = none_behind plan (set s t p) c.recount.new.needs n (length-set s t p ∙ long) (λ u i x known is. ready.rows.narrow u i x known is) counted;
    }

pub returns-clause-ready : goal.returns-clause-ready
returns-clause-ready g c =
    let table = c.args.moves.now in
    let plan : Moves = moves_in table in
    let t = c.args.train in
    let p = c.args.place in
    let own : Work = record { rows = c.self.inside.rows; places = c.self.inside.places; taken = c.self.inside.taken; needs = c.self.inside.needs; list = c.self.inside.list.items } in
    let ready = ready_as table own c.args.self.now c.self.view_is c.requires.ready in
    let later = c.put.new.self in
    let made = c.put.ensures.made in
    let known : t < length own.places.positions = omega (arith, c.requires.train, (state_parts plan own.places.positions ready.made.valid).long) in
    let G : ℕ → Type 0 = λ q. IsSet c.stand-gone.result.now (λ x. is_in x (stand plan t q)) in
    let C : List ℕ → Type 0 = λ q. IsCounted plan q c.recount.new.needs in
    let R : ℕ → Type 0 = λ q. IsRecounted plan t q p own.needs c.recount.new.needs in
    let H : List ℕ → Type 0 = λ q. AreTaken plan q c.replace.new.set in
    let taken : H (set own.places.positions t p) =
    taken_then plan own.places.positions own.taken ready.made.valid (are_owned table own.places ready.made own.taken ready.taken) t p known c.stand-gone.result.now c.stand-come.result.now c.replace.new.set (subst G c.position-from.ensures c.stand-gone.ensures.set) c.stand-come.ensures.set c.replace.ensures.set in
    record {
      rows = ready.rows;
      made = made;
      taken = owned_from table later made c.replace.new.set (subst H (sym c.put.ensures.positions) taken);
      wide = omega (arith, c.replace.ensures.long, ready.wide);
      counted = subst C (sym c.put.ensures.positions) (counted_on plan own.places.positions own.needs ready.counted t known p c.recount.new.needs (subst R c.position-from.ensures c.recount.ensures));
      few = omega (arith, c.requires.few, ap length (ap (λ (w : Work). w.list) c.self.view_is), ap (moves_left plan) c.put.ensures.positions, ap (λ (w : Work). moves_left plan (set w.places.positions t p)) c.self.view_is);
    }
