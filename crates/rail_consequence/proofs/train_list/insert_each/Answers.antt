use Rattle.std.proofs.Common.{◌≡◌, ℕ, ◌+◌, ◌<◌, ◌||◌, Bool, true, false, eqb, List, get_or, length, take, refl, sym, ap, ◌∙◌, ⊎_elim}
use Rattle.std.proofs.lemmas.Bool.{cases_eq, eq-eqb, ne_eqb}
use Rattle.rail_rules.specs.Numbers.{is_in}
use Rattle.std.proofs.lemmas.List.Folds.{list_any_more}
use Rattle.rail_sets.specs.TrainSets.{has_train}
use Rattle.rail_consequence.proofs.Counts.{in_at}
use Rattle.rail_consequence.proofs.train_list.insert_each.Goals as goal

eqb_sym : (a b : ℕ) → eqb a b ≡ eqb b a
eqb_sym a b =
    ⊎_elim
    (λ same. eq-eqb a b same ∙ sym (eq-eqb b a (sym same)))
    (λ ne. ne_eqb a b ne ∙ sym (ne_eqb b a (λ same. ne (sym same))))
    (cases_eq a b)

or_between : (a b c : Bool) → (a || (b || c)) ≡ ((b || a) || c)
or_between true true c = refl
or_between true false c = refl
or_between false true c = refl
or_between false false c = refl

in_take_one_more : (t y : ℕ) (xs : List ℕ) (i : ℕ) → i < length xs → y ≡ get_or xs i y → is_in t (take (i + 1) xs) ≡ (is_in t (take i xs) || eqb t y)
in_take_one_more t y xs i lt is = list_any_more (λ z. eqb z t) xs i y lt ∙ ap (λ z. is_in t (take i xs) || eqb z t) (sym is) ∙ ap (λ b. is_in t (take i xs) || b) (eqb_sym y t)

pub insert-requires : goal.insert-requires
insert-requires c = c.requires c.train-item.result (in_at c.train-item.result c.args.trains.now c.loop-train.train-index c.loop-train-test.true c.train-item.is)

pub loop-train-preserved : goal.loop-train-preserved
loop-train-preserved c = λ t.
    let y = c.train-item.result in
    let xs : List ℕ = c.args.trains.now in
    let i = c.loop-train.train-index in
    let old = has_train c.args.set.now t in
    c.insert.ensures t ∙ ap (λ b. eqb t y || b) (c.loop-train.invariant t) ∙ or_between (eqb t y) (is_in t (take i xs)) old
    ∙ ap (λ b. b || old) (sym (in_take_one_more t y xs i c.loop-train-test.true c.train-item.is))
