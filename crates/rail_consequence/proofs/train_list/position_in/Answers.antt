use Rattle.std.proofs.Common.{ℕ, ◌-◌, ◌<◌, List, get_or, length, sym, subst, ⊎_elim, arith}
use Rattle.std.proofs.lemmas.Bool.{cases_eq}
use Rattle.std.proofs.lemmas.Grind.{get_or_default_zero}
use Rattle.std.proofs.lemmas.List.Kept.{AllPairs-from_increasing}
use Rattle.rail_consequence.proofs.train_list.position_in.Goals as goal

pub returns-then-other-train-clause-front : goal.returns-then-other-train-clause-front
returns-then-other-train-clause-front c = λ k d lt.
    let xs : List ℕ = c.args.trains.now in
    let t : ℕ = c.args.train in
    let j : ℕ = c.loop-position.position - 1 in
    let read : ℕ = c.index-trains-position.result in
    let within : j < length xs = omega (arith, c.loop-position-test.true, c.loop-position.auto.position) in
    let here : get_or xs j d < t = omega (arith, c.if-other-train.true, c.other.view_is, c.train.view_is, c.index-trains-position.is, get_or_default_zero xs j d within, get_or_default_zero xs j read within) in
    ⊎_elim
    (λ same. subst (λ i. get_or xs i d < t) (sym same) here)
    (λ ne. omega (arith, here, AllPairs-from_increasing xs c.requires.sorted k j d (omega (arith, lt, ne, c.loop-position-test.true)) within))
    (cases_eq k j)
