use Rattle.std.proofs.Common.{◌≡◌, ℕ, ◌+◌, ◌<◌, ◌&&◌, List, [], ◌∷◌, ◌++◌, map, length, take, get_or, ◌∙◌, refl, ap, sym, arith}
use Rattle.std.specs.List.{list_all}
use Rattle.std.proofs.lemmas.List.{take_all, take_more}
use Rattle.std.proofs.lemmas.List.Folds.{list_all_more}
use Rattle.toml.specs.Data.{Data, array, item, push_item}
use Rattle.toml.specs.View.{view, items_of, items_view}
use Rattle.toml.specs.declared.value.Value.{Value}
use Rattle.toml.proofs.Views.{view-Array, items_view-push}
use Rattle.rail_scene_text.proofs.values.array.Goals as goal

pushed : {X : Type 0} (f : X → Data) (xs : List X) (x : X) → items_of (map f (xs ++ x ∷ [])) ≡ push_item (items_of (map f xs)) (f x)
pushed f [] x = refl
pushed f (y ∷ ys) x = ap (item (f y)) (pushed f ys x)

step : {X : Type 0} (f : X → Data) (values : List Value) (v : Value) (xs : List X) (i : ℕ) (x : X) → i < length xs → x ≡ get_or xs i x
    → items_view values ≡ items_of (map f (take i xs)) → view v ≡ f x → items_view (values ++ v ∷ []) ≡ items_of (map f (take (i + 1) xs))
step f values v xs i x within is before seen =
    items_view-push values v ∙ (λ j. push_item (before j) (seen j)) ∙ sym (pushed f (take i xs) x)
    ∙ ap (λ ys. items_of (map f ys)) (ap (λ y. take i xs ++ y ∷ []) is ∙ sym (take_more xs i x within))

pub loop-item-preserved : goal.loop-item-preserved
loop-item-preserved g c = record {
  values = rw c.in_ok-push.ensures.items (step g.W.Written.data_of c.loop-item.values.items c.in_ok-value.field-0 c.args.items.now c.loop-item.item-index c.item-item.result c.loop-item-test.true c.item-item.is c.loop-item.invariant.values c.in_ok-value.ensures.value);
  typed = list_all_more g.W.Written.is_typed c.args.items.now c.loop-item.item-index c.item-item.result c.loop-item-test.true
      ∙ (λ j. c.loop-item.invariant.typed j && (ap g.W.Written.is_typed (sym c.item-item.is) ∙ c.in_ok-value.ensures.typed) j);
}

pub returns-clause-value : goal.returns-clause-value
returns-clause-value g c = view-Array c.loop-item.values ∙ ap array (c.loop-item.invariant.values ∙ ap (λ xs. items_of (map g.W.Written.data_of xs)) (take_all c.loop-item.item-index c.args.items.now (omega arith)))

pub returns-clause-typed : goal.returns-clause-typed
returns-clause-typed g c = ap (list_all g.W.Written.is_typed) (sym (take_all c.loop-item.item-index c.args.items.now (omega arith))) ∙ c.loop-item.invariant.typed
