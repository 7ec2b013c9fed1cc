use Rattle.std.proofs.Common.{◌≡◌, ℕ, suc, ◌+◌, true, false, ltb, List, [], ◌∷◌, length, drop, refl, sym, ap, ◌∙◌, ⊎_elim, arith}
use Rattle.std.proofs.lemmas.Bool.{cases_Bool, false≢true, lt-ltb}
use Rattle.std.proofs.lemmas.List.{take_rest}
use Rattle.rail_rules.specs.Analysis.{is_leg}
use Rattle.rail_rules.specs.Moves.{Moves}
use Rattle.rail_rules.specs.Places.{completes, is_valid_state, place_of}
use Rattle.rail_place.specs.Tables.{moves_in}
use Rattle.rail_consequence.specs.Searches.{leg_to}
use Rattle.rail_consequence.proofs.Playing.{leg_state, nobody_where_none, run_barred, run_on, somebody_where_some, starts_run, taken_held}
use Rattle.rail_consequence.proofs.analyst.playing.does_complete_in.Goals as goal

no_entry : (xs : List ℕ) → ltb 0 (length xs) ≡ false → xs ≡ []
no_entry [] none = refl
no_entry (x ∷ xs) none = absurd (false≢true (sym none ∙ lt-ltb 0 (suc (length xs)) (omega arith)))

pub returns-then-not-goes_on : goal.returns-then-not-goes_on
returns-then-not-goes_on g c =
    let plan : Moves = moves_in c.args.moves.now in
    let s = c.loop-train.positions in
    let t = c.in-Some.train.now in
    let first = c.in-Some.ensures.item.3 in
    let some = starts_run t c.loop-train.left.now first.0 (first.1 t) in
    let n = c.repeats-count.result in
    let barred : is_leg plan s (leg_to t (place_of s t + n)) ≡ false = sym c.goes_on.ensures.exact ∙ c.if-not-goes_on.true in
    sym (run_barred plan s c.loop-train.left.now t n c.repeats-count.ensures.count (omega (arith, some, c.repeats-count.ensures.count)) barred)
    ∙ c.loop-train.invariant.rest

pub loop-train-preserved : goal.loop-train-preserved
loop-train-preserved g c =
    let plan : Moves = moves_in c.args.moves.now in
    let s = c.loop-train.positions in
    let t = c.in-Some.train.now in
    let n = c.repeats-count.result in
    let leg : is_leg plan s (leg_to t (place_of s t + n)) ≡ true = sym c.goes_on.ensures.exact ∙ c.if-not-goes_on.false in
    let at = c.goes_on.ensures.positions c.if-not-goes_on.false in
    record {
      state = ap (is_valid_state plan) at ∙ leg_state plan s t n c.trains.ensures.table.valid c.loop-train.invariant.state leg;
      taken = c.goes_on.ensures.taken c.if-not-goes_on.false;
      rest = rw take_rest (ap (λ q. completes plan q (drop n c.loop-train.left.now)) at ∙ sym (run_on plan s c.loop-train.left.now t n c.repeats-count.ensures.count leg) ∙ c.loop-train.invariant.rest);
    }

pub returns : goal.returns
returns g c =
    let plan : Moves = moves_in c.args.moves.now in
    let s = c.loop-train.positions in
    let taken = taken_held plan s c.loop-train.taken c.loop-train.invariant.taken in
    let none : c.loop-train.left.now ≡ [] = no_entry c.loop-train.left.now (sym c.in_default.ensures.item.0) in
    let last : completes plan s [] ≡ completes plan c.args.places.now.positions c.args.list.now = sym (ap (completes plan s) none) ∙ c.loop-train.invariant.rest in
    ⊎_elim
    (λ empty. empty ∙ sym (nobody_where_none plan s c.loop-train.taken c.trains.ensures.table.valid c.loop-train.invariant.state taken (c.is_empty.ensures.none empty)) ∙ last)
    (λ some. let found = c.is_empty.ensures.some some in some ∙ sym (somebody_where_some plan s c.loop-train.taken found.0 taken found.1) ∙ last)
    (cases_Bool c.is_empty.result)
