use Rattle.std.proofs.Common.{◌<◌, ◌+◌, [], ◌∙◌, ap, sym, subst, length, get_or, vec_capacity, refl, arith, rules, w64}
use Rattle.std.specs.Prelude.{bit_and}
use Rattle.std.specs.Int.{bit_not}
use Rattle.std.proofs.lemmas.List.{get_or_default}
use Rattle.rail_sets.specs.Counts.{column}
use Rattle.rail_sets.proofs.Digits.{IsDown, some_at, down_all, down_more, down_same}
use Rattle.rail_sets.proofs.counts.Counts.count_down.Goals as goal
use Rattle.rail_sets.proofs.counts.Counts.count_down.Goals.{then-less-ne0, else-less-ne0}

pub count_down-requires : goal.count_down-requires
count_down-requires c = λ bit low.
    some_at c.args.self.now c.loop-index.self-inside.columns.items c.args.set.now c.args.other.now c.loop-index.index _ c.index_mut.result.now
    (omega (arith, c.loop-index-test.true, c.requires.set, c.loop-index.invariant.kept.long, c.self.invariant.0, ap length c.self.view_is))
    (search rules) refl c.loop-index.invariant.kept
    (c.index_mut.ensures.value ∙ get_or_default c.loop-index.self-inside.columns.items c.loop-index.index c.index_mut.result.now [] (omega (arith, c.loop-index-test.true, c.requires.set, c.loop-index.invariant.kept.long, c.self.invariant.0, ap length c.self.view_is)))
    c.requires.some bit low

pub loop-index-preserved : goal.loop-index-preserved
loop-index-preserved c =
    let word = bit_and (get_or c.args.set.now c.loop-index.index 0) (bit_not w64 (get_or c.args.other.now c.loop-index.index 0)) in
    let within : c.loop-index.index < length c.loop-index.self-inside.columns.items = omega (arith, c.loop-index-test.true, c.requires.set, c.loop-index.invariant.kept.long, c.self.invariant.0, ap length c.self.view_is) in
    record {
      kept =
          elim c.if-less-ne0.branch [
            | then-less-ne0 w ↦
                subst (λ inside. IsDown c.args.self.now inside.columns.items c.args.set.now c.args.other.now (c.loop-index.index + 1)) (sym w.self-inside-is)
                (down_more c.args.self.now c.loop-index.self-inside.columns.items c.args.set.now c.args.other.now c.loop-index.index word w.count_down.new.self within (search rules) refl c.loop-index.invariant.kept
                (λ bit low. w.count_down.ensures bit low ∙ ap (λ col. column col bit) (w.index_mut.ensures.value ∙ get_or_default c.loop-index.self-inside.columns.items c.loop-index.index w.index_mut.result.now [] within)))
            | else-less-ne0 w ↦
                subst (λ inside. IsDown c.args.self.now inside.columns.items c.args.set.now c.args.other.now (c.loop-index.index + 1)) (sym w.self-inside-is)
                (down_same c.args.self.now c.loop-index.self-inside.columns.items c.args.set.now c.args.other.now c.loop-index.index word [] within (search rules) refl c.loop-index.invariant.kept w.if-less-ne0.false)
          ];
      room = elim c.if-less-ne0.branch [
        | then-less-ne0 w ↦ ap (λ inside. vec_capacity inside.columns) w.self-inside-is ∙ c.loop-index.invariant.room
        | else-less-ne0 w ↦ ap (λ inside. vec_capacity inside.columns) w.self-inside-is ∙ c.loop-index.invariant.room
      ];
    }

pub returns : goal.returns
returns c = down_all c.args.self.now c.loop-index.self-inside.columns.items c.args.set.now c.args.other.now c.loop-index.index (omega (arith, c.loop-index-test.false)) c.loop-index.invariant.kept
