use Rattle.std.proofs.Common.{◌&&◌, not, None, get_or, count_by, sym, subst, ◌∙◌}
use Rattle.std.specs.List.{filter}
use Rattle.rail_rules.specs.Numbers.{is_in}
use Rattle.rail_laws_step.specs.HolderTables.{is_train}
use Rattle.rail_state.specs.Events.{AreFreedOnce, is_free_of}
use Rattle.rail_state.proofs.admission.forget_taken.Goals as goal

pub forget_each-requires-clause-single : goal.forget_each-requires-clause-single
forget_each-requires-clause-single c =
    let known = c.args.known.now in
    let h = c.args.holders.now in
    subst (λ xs. AreFreedOnce xs c.args.queue.now.events)
    (sym (λ k. filter (λ x. is_in x (c.claimed_sections-claimed.ensures.sections k) && is_train known.train (get_or h x None)) (c.overlap_behind-own.ensures.sections k)))
    c.requires.single

pub returns-clause-counted : goal.returns-clause-counted
returns-clause-counted c = λ q.
    let known = c.args.known.now in
    let h = c.args.holders.now in
    let es = c.args.queue.now.events in
    c.forget_each.ensures.counted q
    ∙ (λ k. count_by (λ e. not (is_free_of (filter (λ x. is_in x (c.claimed_sections-claimed.ensures.sections k) && is_train known.train (get_or h x None)) (c.overlap_behind-own.ensures.sections k)) e) && q e) es)
