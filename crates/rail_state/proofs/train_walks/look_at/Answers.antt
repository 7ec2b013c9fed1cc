use Rattle.std.proofs.Common.{◌≡◌, ℕ, true, Option, sym, ap, ◌∙◌, List, get_or, set, subst, arith}
use Rattle.std.proofs.lemmas.Bool.{cond-true}
use Rattle.std.proofs.lemmas.List.{get_or_default}
use Rattle.rail_base.specs.declared.history.Cause.{Cause}
use Rattle.rail_rules.specs.Plant.{claimed}
use Rattle.rail_laws_step.specs.HolderTables.{own_overlap}
use Rattle.rail_state.specs.declared.train.TrainState.{TrainState}
use Rattle.rail_state.specs.TrainStates.{bar_by, is_blocked_at, is_untried, no_state, state_of}
use Rattle.rail_state.specs.TrainSearches.{AreSetsOf}
use Rattle.rail_state.proofs.FirstSections.{bar_within}
use Rattle.rail_state.proofs.Sets.{untried_parts}
use Rattle.rail_state.proofs.train_walks.look_at.Goals as goal

pub note_in-requires-clause-section : goal.note_in-requires-clause-section
note_in-requires-clause-section c = λ x is.
    let rows : List TrainState = c.args.rows.now in
    let here : c.from.result ≡ c.args.train = omega arith in
    let row : TrainState = get_or rows c.from.result c.index-rows-from.result in
    let read : row ≡ state_of rows c.args.train = get_or_default rows c.from.result c.index-rows-from.result no_state (omega (arith, here, c.requires.train)) ∙ ap (state_of rows) here in
    let bar : Option Cause = bar_by c.args.orders.now c.args.holders.now c.args.train (own_overlap c.args.plant.now c.args.train row.place) (claimed c.args.plant.now c.args.train row.place) in
    let known : c.look.new.self.known ≡ bar = ap (λ (r : TrainState). r.known) c.look.ensures ∙ cond-true (is_untried row) bar row.known (ap is_untried read ∙ c.requires.untried) in
    omega (arith, bar_within c.args.orders.now c.args.holders.now c.args.train (own_overlap c.args.plant.now c.args.train row.place) (claimed c.args.plant.now c.args.train row.place) x (ap (is_blocked_at x) (sym known) ∙ is), c.requires.sections, c.has_few_sections.ensures)

pub returns-clause-sets : goal.returns-clause-sets
returns-clause-sets c = λ are.
    let rows : List TrainState = c.args.rows.now in
    let t : ℕ = c.args.train in
    let here : c.from.result ≡ t = omega arith in
    let row : TrainState = get_or rows c.from.result c.index-rows-from.result in
    let read : row ≡ state_of rows t = get_or_default rows c.from.result c.index-rows-from.result no_state (omega (arith, here, c.requires.train)) ∙ ap (state_of rows) here in
    let waits : c.look.new.self.waits ≡ true = ap (λ (r : TrainState). r.waits) c.look.ensures ∙ ap (λ (r : TrainState). r.waits) read ∙ (untried_parts (state_of rows t) c.requires.untried).0 in
    subst (λ (k : ℕ). AreSetsOf (set rows k c.look.new.self) c.note_look.new.self) (sym here) (c.note_look.ensures rows c.requires.train c.requires.untried waits are)
