use Rattle.std.proofs.Common.{◌≡◌, ◌<◌, ℕ, List, length, get_or, set, true, false, cond, None, refl, sym, ap, subst, ◌∙◌, arith}
use Rattle.std.proofs.lemmas.List.{get_or-set_same, get_or_default}
use Rattle.rail_state.specs.declared.train.TrainState.{TrainState}
use Rattle.rail_sets.specs.declared.train_set.TrainSet.{TrainSet}
use Rattle.rail_sets.specs.TrainSets.{has_train}
use Rattle.rail_state.specs.TrainStates.{is_blocked_at, no_state, state_of, without_known}
use Rattle.rail_state.specs.TrainSearches.{AreSetsOf}
use Rattle.rail_state.proofs.ChangeableCauses.{IsForgotten, forgot, forgotten_at, forgotten_other, forgotten_past, forgotten_same}
use Rattle.rail_state.proofs.Turned.{IsTaken, turned_all}
use Rattle.rail_state.proofs.train_walks.look_again_at_each.Goals as goal

pub note_forgotten-requires-clause-unknown : goal.note_forgotten-requires-clause-unknown
note_forgotten-requires-clause-unknown c =
    let rows : List TrainState = c.loop-train.rows in
    let t : ℕ = c.from-index.result in
    let item : TrainState = c.index-rows-index.result in
    let now : TrainState = c.forget.new.self in
    ap (λ (r : TrainState). r.known) (get_or-set_same rows t now c.index-rows-index-then-forget.result c.if-index-rows.true ∙ c.forget.ensures.train_state)
    ∙ ap (λ b. cond b None (get_or rows t item).known) (sym c.forget.ensures.was ∙ c.if-forget.true)

pub loop-train-preserved-then-forget : goal.loop-train-preserved-then-forget
loop-train-preserved-then-forget c =
    let x : ℕ = c.args.section in
    let before = c.loop-train.invariant in
    let rows : List TrainState = c.loop-train.rows in
    let left : TrainSet = c.loop-train.left in
    let fewer : TrainSet = c.take_first.new.self in
    let t : ℕ = c.from-index.result in
    let item : TrainState = c.index-rows-index.result in
    let now : TrainState = c.forget.new.self in
    let at : c.in-Some.train ≡ t = sym (c.from-index.ensures ∙ c.train.view_is) in
    let on : has_train left t ≡ true = subst (λ (k : ℕ). has_train left k ≡ true) at c.in-Some.ensures.was in
    let taken : IsTaken left fewer t = subst (IsTaken left fewer) at c.in-Some.ensures.left in
    let within : t < length rows = c.if-index-rows.true in
    let read : get_or rows t item ≡ state_of rows t = get_or_default rows t item no_state within in
    let now_is : now ≡ without_known x (state_of rows t) = c.forget.ensures.train_state ∙ ap (without_known x) read in
    let was : is_blocked_at x (state_of rows t).known ≡ true = ap (λ (r : TrainState). is_blocked_at x r.known) (sym read) ∙ sym c.forget.ensures.was ∙ c.if-forget.true in
    let again : TrainState = c.index-rows-index-then-forget.result in
    let waits : (get_or (set rows t now) t again).waits ≡ (state_of rows c.in-Some.train).waits =
    ap (λ (r : TrainState). r.waits) (get_or-set_same rows t now again within ∙ now_is) ∙ ap (λ (k : ℕ). (state_of rows k).waits) (sym at) in
    let noted : AreSetsOf (set rows t (get_or (set rows t now) t again)) c.note_forgotten.new.self =
    subst (λ (k : ℕ). AreSetsOf (set rows k (get_or (set rows t now) t again)) c.note_forgotten.new.self) at (c.note_forgotten.ensures rows (omega (arith, at, within)) waits before.sets) in
    record {
      forgotten = subst (λ (r : TrainState). IsForgotten x c.args.rows.now (set rows t r) fewer true) (sym now_is)
          (forgotten_at x c.args.rows.now rows left fewer c.loop-train.any t on taken within before.forgotten was);
      sets = subst (λ (r : TrainState). AreSetsOf (set rows t r) c.note_forgotten.new.self) (get_or-set_same rows t now again within) noted;
    }

pub loop-train-preserved-else-forget : goal.loop-train-preserved-else-forget
loop-train-preserved-else-forget c =
    let x : ℕ = c.args.section in
    let before = c.loop-train.invariant in
    let rows : List TrainState = c.loop-train.rows in
    let left : TrainSet = c.loop-train.left in
    let fewer : TrainSet = c.take_first.new.self in
    let t : ℕ = c.from-index.result in
    let item : TrainState = c.index-rows-index.result in
    let now : TrainState = c.forget.new.self in
    let at : c.in-Some.train ≡ t = sym (c.from-index.ensures ∙ c.train.view_is) in
    let on : has_train left t ≡ true = subst (λ (k : ℕ). has_train left k ≡ true) at c.in-Some.ensures.was in
    let taken : IsTaken left fewer t = subst (IsTaken left fewer) at c.in-Some.ensures.left in
    let within : t < length rows = c.if-index-rows.true in
    let read : get_or rows t item ≡ state_of rows t = get_or_default rows t item no_state within in
    let now_is : now ≡ without_known x (state_of rows t) = c.forget.ensures.train_state ∙ ap (without_known x) read in
    let off : is_blocked_at x (state_of rows t).known ≡ false = ap (λ (r : TrainState). is_blocked_at x r.known) (sym read) ∙ sym c.forget.ensures.was ∙ c.if-forget.false in
    record {
      forgotten = subst (λ (r : TrainState). IsForgotten x c.args.rows.now (set rows t r) fewer c.loop-train.any) (sym now_is)
          (forgotten_other x c.args.rows.now rows left fewer c.loop-train.any t on taken within before.forgotten off);
      sets = subst (λ (rs : List TrainState). AreSetsOf rs c.loop-train.sets) (sym (forgotten_same x rows t now within off now_is)) before.sets;
    }

pub loop-train-preserved : goal.loop-train-preserved
loop-train-preserved c =
    let at : c.in-Some.train ≡ c.from-index.result = sym (c.from-index.ensures ∙ c.train.view_is) in
    record {
      forgotten = forgotten_past c.args.section c.args.rows.now c.loop-train.rows c.loop-train.left c.take_first.new.self c.loop-train.any c.from-index.result
          (subst (λ (k : ℕ). has_train c.loop-train.left k ≡ true) at c.in-Some.ensures.was) (subst (IsTaken c.loop-train.left c.take_first.new.self) at c.in-Some.ensures.left)
          (omega (arith, c.if-index-rows.false)) c.loop-train.invariant.forgotten;
      sets = c.loop-train.invariant.sets;
    }

pub returns-clause-rows : goal.returns-clause-rows
returns-clause-rows c = turned_all (λ _. without_known c.args.section) c.args.rows.now c.loop-train.rows c.loop-train.left (c.in_default.ensures.none refl) c.loop-train.invariant.forgotten.turned

pub returns-clause-any : goal.returns-clause-any
returns-clause-any c = λ off t.
    let x : ℕ = c.args.section in
    let forgotten = c.loop-train.invariant.forgotten in
    ap (λ (r : TrainState). is_blocked_at x r.known)
    (sym (forgotten.none off t) ∙ turned_all (λ _. without_known x) c.args.rows.now c.loop-train.rows c.loop-train.left (c.in_default.ensures.none refl) forgotten.turned t)
    ∙ forgot x (state_of c.args.rows.now t)
