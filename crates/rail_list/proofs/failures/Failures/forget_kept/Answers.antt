use Rattle.std.proofs.Common.{◌≡◌, ℕ, Bool, Option, get_or, refl, sym, ap, ◌∙◌, subst, arith}
use Rattle.std.proofs.lemmas.List.{get_or_default}
use Rattle.rail_place.specs.Tables.{moves_in}
use Rattle.rail_sets.specs.declared.train_set.TrainSet.{TrainSet}
use Rattle.rail_sets.specs.TrainSets.{has_train}
use Rattle.rail_list.specs.Failures.{Failed, core_at, no_core}
use Rattle.rail_list.proofs.Failing.{IsForgetting, forgetting_apart, forgetting_ended, forgetting_kept}
use Rattle.rail_list.proofs.failures.Failures.forget_kept.Goals as goal
use Rattle.rail_list.proofs.failures.Failures.forget_kept.Goals.{else-has-via-then-has+else-not-does_last, else-has-via-else-has}

pub loop-train-preserved-then-not-does_last : goal.loop-train-preserved-then-not-does_last
loop-train-preserved-then-not-does_last c =
    let n : ℕ = c.from.result in
    let t : ℕ = c.in-Some.train in
    let at : n ≡ t = c.from.ensures ∙ c.train.view_is in
    let read : c.index.result.now ≡ core_at c.args.self.now t =
    c.index.ensures
    ∙ get_or_default c.self.inside.cores.items n c.index.result.now no_core (omega (arith, at, c.in-Some.ensures.known, c.self.invariant.0))
    ∙ ap (λ (f : Failed). get_or f.cores n no_core) c.self.view_is
    ∙ ap (core_at c.args.self.now) at in
    forgetting_ended (moves_in c.args.moves.now) c.args.places.now.positions c.args.self.now c.args.moved t c.loop-train.kept c.remove-then-not-does_last.new.self c.loop-train.left c.take_first.new.self
    c.loop-train.known c.does_last.new.known c.does_last.result c.in-Some.ensures.left c.loop-train.invariant
    (ap (λ (set : TrainSet). has_train set c.args.moved) (sym read) ∙ sym c.has.ensures ∙ c.if-has.true)
    c.does_last.ensures.known c.does_last.ensures.exact c.if-not-does_last.true c.remove-then-not-does_last.ensures.left

pub loop-train-preserved : goal.loop-train-preserved
loop-train-preserved c =
    let n : ℕ = c.from.result in
    let t : ℕ = c.in-Some.train in
    let at : n ≡ t = c.from.ensures ∙ c.train.view_is in
    let read : c.index.result.now ≡ core_at c.args.self.now t =
    c.index.ensures
    ∙ get_or_default c.self.inside.cores.items n c.index.result.now no_core (omega (arith, at, c.in-Some.ensures.known, c.self.invariant.0))
    ∙ ap (λ (f : Failed). get_or f.cores n no_core) c.self.view_is
    ∙ ap (core_at c.args.self.now) at in
    elim c.else-has.branch [
      | else-has-via-then-has+else-not-does_last w ↦ let P : Option Bool → Type 0 = IsForgetting (moves_in c.args.moves.now) c.args.places.now.positions c.args.self.now c.args.moved c.loop-train.kept c.take_first.new.self in
          subst P (sym w.known-is)
          (forgetting_kept (moves_in c.args.moves.now) c.args.places.now.positions c.args.self.now c.args.moved t c.loop-train.kept c.loop-train.left c.take_first.new.self
          c.loop-train.known w.does_last.new.known w.does_last.result c.in-Some.ensures.left c.in-Some.ensures.was c.loop-train.invariant
          w.does_last.ensures.known w.does_last.ensures.exact w.if-not-does_last.false)
      | else-has-via-else-has w ↦ let P : Option Bool → Type 0 = IsForgetting (moves_in c.args.moves.now) c.args.places.now.positions c.args.self.now c.args.moved c.loop-train.kept c.take_first.new.self in
          subst P (sym w.known-is)
          (forgetting_apart (moves_in c.args.moves.now) c.args.places.now.positions c.args.self.now c.args.moved t c.loop-train.kept c.loop-train.left c.take_first.new.self
          c.loop-train.known c.in-Some.ensures.left c.in-Some.ensures.was c.loop-train.invariant
          (ap (λ (set : TrainSet). has_train set c.args.moved) (sym read) ∙ sym c.has.ensures ∙ w.if-has.false))
    ]

pub returns-clause-kept : goal.returns-clause-kept
returns-clause-kept c = λ s came t. (c.loop-train.invariant.forgotten s came).done t (c.in_default.ensures.none refl t)
