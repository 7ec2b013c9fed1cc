use Rattle.std.proofs.Common.{ℕ, ◌*◌, List, Option, None, is_some, length, get_or, sym, ap, ◌∙◌, subst, arith}
use Rattle.rail_rules.proofs.CallerLemmas.{state_parts}
use Rattle.rail_place.specs.Tables.{moves_in}
use Rattle.rail_place.specs.PlaceStates.{State, IsMadeFor}
use Rattle.rail_consequence.specs.Needs.{IsCounted, IsRowsOf, IsSet, SetRows}
use Rattle.rail_consequence.specs.Workspace.{Work}
use Rattle.rail_consequence.proofs.Counts.{counted_front, none_behind}
use Rattle.rail_consequence.proofs.Holding.{free_behind}
use Rattle.rail_consequence.proofs.Played.{left_few}
use Rattle.rail_consequence.proofs.analyst.Worksheet.begin.Given as given
use Rattle.rail_consequence.proofs.analyst.Worksheet.begin.Goals as goal

pub copy_front-requires-clause-others : goal.copy_front-requires-clause-others
copy_front-requires-clause-others g c =
    free_behind c.args.moves.now c.args.places.now (64 * c.WORDS.result) c.requires.made (λ t i x known is. omega (arith, c.requires.words.all t i x known is, c.WORDS.ensures))

-- the needs that are taken over are those at the places
counted_here : (g : given.Over) (c : goal.After-clear g) → IsCounted (moves_in c.args.moves.now) c.args.places.now.positions c.copy_front-2.new.self
counted_here g c =
    let plan = moves_in c.args.moves.now in
    let s : List ℕ = c.args.places.now.positions in
    let n : ℕ = 64 * c.WORDS-2.result in
    let long = (state_parts plan s c.requires.made.valid).long in
    counted_front plan s c.self.inside.needs c.args.needs.now c.copy_front-2.new.self n c.copy_front-2.ensures.front c.copy_front-2.ensures.rest
    (λ x behind. c.self.invariant.idle x (omega (arith, behind, c.WORDS-2.ensures, c.requires.wide, ap (λ (w : Work). w.rows.width) c.self.view_is)))
    (none_behind plan s c.args.needs.now n long (λ t i x known is. omega (arith, c.requires.words.all t i x known is, c.WORDS-2.ensures)) c.requires.counted)
    c.requires.counted

pub invariant_of-self : goal.invariant_of-self
invariant_of-self g c =
    let table = c.args.moves.now in
    let s : List ℕ = c.args.places.now.positions in
    let n : ℕ = 64 * c.self.inside.rows.width in
    let R : SetRows → Type 0 = λ rows. IsRowsOf (moves_in table) rows in
    let rows : R c.self.inside.rows = subst R (sym (ap (λ (w : Work). w.rows) c.self.view_is)) c.requires.rows in
    let long = (state_parts (moves_in table) s c.requires.made.valid).long in
    record {
      room = c.clear.ensures.capacity ∙ c.self.invariant.room;
      free = free_behind table c.copy_front.new.self n (c.copy_front.ensures.made table c.requires.made) (λ t i x known is. rows.narrow t i x known is);
      idle = none_behind (moves_in table) s c.copy_front-2.new.self n long (λ t i x known is. rows.narrow t i x known is) (counted_here g c);
    }

pub returns-clause-ready : goal.returns-clause-ready
returns-clause-ready g c =
    let table = c.args.moves.now in
    let places : State = c.copy_front.new.self in
    let made : IsMadeFor table places = c.copy_front.ensures.made table c.requires.made in
    let C : List ℕ → Type 0 = λ s. IsCounted (moves_in table) s c.copy_front-2.new.self in
    let R : SetRows → Type 0 = λ rows. IsRowsOf (moves_in table) rows in
    let H : List (Option ℕ) → Type 0 = λ owners. IsSet c.taken_at-self-inside.result (λ x. is_some (get_or owners x None)) in
    record {
      rows = subst R (sym (ap (λ (w : Work). w.rows) c.self.view_is)) c.requires.rows;
      made = made;
      taken = subst H (sym c.copy_front.ensures.owners) c.taken_at-self-inside.ensures;
      wide = omega arith;
      counted = subst C (sym c.copy_front.ensures.positions) (counted_here g c);
      few = omega (arith, ap length c.clear.ensures.items, left_few table places.positions made.moves made.valid);
    }
