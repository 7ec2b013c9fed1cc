use Rattle.std.proofs.Common.{◌≡◌, ◌++◌, ℕ, ◌∷◌, ◌∙◌, List, length, map, replicate, sym, subst, ap, arith, length-append, vec_len}
use Rattle.std.proofs.lemmas.List.{length-replicate}
use Rattle.rail_history.proofs.TrainsRead.{AreBehind, behind_next, copies_behind, next_fits, next_left, none_left}
use Rattle.rail_rules.specs.Texts.{item_word}
use Rattle.rail_history.proofs.read_trains.likely_trains.Goals as goal

pub returns-in_default : goal.returns-in_default
returns-in_default c = λ plant has named items small few is.
    let next = next_left named (c.loop-left.invariant.behind plant has named items small few is) (sym c.is_empty.ensures ∙ c.loop-left-test.true) in
    let parts = c.cut.ensures.words (map (item_word plant) (next.item ∷ next.rest)) next.spaceless next.spelled in
    let none = sym c.in_default.is ∙ c.likely_item.ensures plant has named next.item next.small parts.0 in
    cc none

pub returns-then-item-most : goal.returns-then-item-most
returns-then-item-most c = λ plant has named items small few is.
    let next = next_left named (c.loop-left.invariant.behind plant has named items small few is) (sym c.is_empty.ensures ∙ c.loop-left-test.true) in
    let parts = c.cut.ensures.words (map (item_word plant) (next.item ∷ next.rest)) next.spaceless next.spelled in
    let given = sym c.in-Some.is ∙ c.likely_item.ensures plant has named next.item next.small parts.0 in
    let same : c.in-Some.item.count ≡ next.item.count = cc given in
    let long : c.len.result ≡ length c.loop-left.list.items = grind arith in
    absurd (omega (arith, same, long, c.if-item-most.true, next_fits named next, few))

pub loop-left-preserved : goal.loop-left-preserved
loop-left-preserved c =
    let long : c.len-in-loop-left.result ≡ length c.loop-left.list.items = grind arith in
    let sized : vec_len c.loop-left.list ≡ length c.loop-left.list.items = grind arith in
    let first : c.len.result ≡ length c.loop-left.list.items = grind arith in
    let made : c.resize.new.self.items ≡ c.loop-left.list.items ++ replicate c.in-Some.item.count c.in-Some.item.train = copies_behind c.loop-left.list.items c.resize.new.self.items c.len-in-loop-left.result (vec_len c.loop-left.list) c.in-Some.item.count c.in-Some.item.train long sized c.in_ok-resize.ensures.items in
    record {
      behind = λ plant has named items small few is.
          let next = next_left named (c.loop-left.invariant.behind plant has named items small few is) (sym c.is_empty.ensures ∙ c.loop-left-test.true) in
          let parts = c.cut.ensures.words (map (item_word plant) (next.item ∷ next.rest)) next.spaceless next.spelled in
          let given = sym c.in-Some.is ∙ c.likely_item.ensures plant has named next.item next.small parts.0 in
          let count : c.in-Some.item.count ≡ next.item.count = cc given in
          let train : c.in-Some.item.train ≡ next.item.train = cc given in
          let now : c.resize.new.self.items ≡ c.loop-left.list.items ++ replicate next.item.count next.item.train = made ∙ (λ i. c.loop-left.list.items ++ replicate (count i) (train i)) in
          subst (λ (list : List ℕ). AreBehind plant items list c.cut.result.1.now) (sym now) (behind_next named next c.cut.result.1.now parts.1);
      few = omega (arith, first, c.if-item-most.false, c.loop-left.invariant.few, ap (length {A = ℕ}) made, length-append c.loop-left.list.items (replicate c.in-Some.item.count c.in-Some.item.train), length-replicate c.in-Some.item.count c.in-Some.item.train);
    }

pub returns : goal.returns
returns c = λ plant has named items small few is.
    none_left named (c.loop-left.invariant.behind plant has named items small few is) (sym c.is_empty.ensures ∙ c.loop-left-test.false)
