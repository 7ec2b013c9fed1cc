use Rattle.std.proofs.Common.{◌<◌, ◌+◌, [], ◌∙◌, ap, sym, subst, length, get_or, vec_capacity, refl, arith, rules, w64}
use Rattle.std.specs.Prelude.{bit_and}
use Rattle.std.specs.Int.{bit_at, bit_not}
use Rattle.std.proofs.lemmas.List.{get_or_default}
use Rattle.rail_sets.specs.Counts.{column}
use Rattle.rail_sets.proofs.Digits.{IsUp, few_at, up_all, up_more, up_same}
use Rattle.rail_sets.proofs.counts.Counts.count_up.Goals as goal
use Rattle.rail_sets.proofs.counts.Counts.count_up.Goals.{then-more-ne0, else-more-ne0}

pub count_up-requires : goal.count_up-requires
count_up-requires c = λ bit low.
    few_at c.args.self.now c.loop-index.self-inside.columns.items c.args.set.now c.args.other.now c.loop-index.index _ c.index_mut.result.now
    (omega (arith, c.loop-index-test.true, c.requires.set, c.loop-index.invariant.kept.long, c.self.invariant.0, ap length c.self.view_is))
    (search rules) refl c.loop-index.invariant.kept
    (c.index_mut.ensures.value ∙ get_or_default c.loop-index.self-inside.columns.items c.loop-index.index c.index_mut.result.now [] (omega (arith, c.loop-index-test.true, c.requires.set, c.loop-index.invariant.kept.long, c.self.invariant.0, ap length c.self.view_is)))
    c.requires.few bit low

pub loop-index-preserved : goal.loop-index-preserved
loop-index-preserved c =
    let word = bit_and (get_or c.args.set.now c.loop-index.index 0) (bit_not w64 (get_or c.args.other.now c.loop-index.index 0)) in
    let within : c.loop-index.index < length c.loop-index.self-inside.columns.items = omega (arith, c.loop-index-test.true, c.requires.set, c.loop-index.invariant.kept.long, c.self.invariant.0, ap length c.self.view_is) in
    record {
      kept =
          elim c.if-more-ne0.branch [
            | then-more-ne0 w ↦
                subst (λ inside. IsUp c.args.self.now inside.columns.items c.args.set.now c.args.other.now (c.loop-index.index + 1)) (sym w.self-inside-is)
                (up_more c.args.self.now c.loop-index.self-inside.columns.items c.args.set.now c.args.other.now c.loop-index.index word w.count_up.new.self within (search rules) refl c.loop-index.invariant.kept
                (λ bit low. w.count_up.ensures bit low ∙ ap (λ col. column col bit + bit_at word bit) (w.index_mut.ensures.value ∙ get_or_default c.loop-index.self-inside.columns.items c.loop-index.index w.index_mut.result.now [] within)))
            | else-more-ne0 w ↦
                subst (λ inside. IsUp c.args.self.now inside.columns.items c.args.set.now c.args.other.now (c.loop-index.index + 1)) (sym w.self-inside-is)
                (up_same c.args.self.now c.loop-index.self-inside.columns.items c.args.set.now c.args.other.now c.loop-index.index word [] within (search rules) refl c.loop-index.invariant.kept w.if-more-ne0.false)
          ];
      room = elim c.if-more-ne0.branch [
        | then-more-ne0 w ↦ ap (λ inside. vec_capacity inside.columns) w.self-inside-is ∙ c.loop-index.invariant.room
        | else-more-ne0 w ↦ ap (λ inside. vec_capacity inside.columns) w.self-inside-is ∙ c.loop-index.invariant.room
      ];
    }

pub returns : goal.returns
returns c = up_all c.args.self.now c.loop-index.self-inside.columns.items c.args.set.now c.args.other.now c.loop-index.index (omega (arith, c.loop-index-test.false)) c.loop-index.invariant.kept
