-- The bounds before any is tightened, one blocking time after another.
use Rattle.std.proofs.Common.{◌≡◌, ◌≢◌, ℕ, ◌+◌, ◌-◌, ◌<◌, ◌≤◌, length, true, false, not, ◌||◌, List, [], ◌∷◌, ◌++◌, set, refl, sym, ap, ◌∙◌, subst, arith, nat_lt, ⊎_elim}
use Rattle.std.specs.List.{Contains}
use Rattle.std.proofs.lemmas.Bool.{cases_eq, cond_both, or_cases, or_parts, ltb-true, ltb-false, not-true, not-false, false≢true}
use Rattle.std.proofs.lemmas.List.{length-set, get_or-set_same, get_or-set_other}
use Rattle.std.proofs.lemmas.List.Elements.{Contains-push, Contains-push_cases, Contains-append_left}
use Rattle.rail_capacity.specs.declared.blocking_times.BlockingTime.{BlockingTime}
use Rattle.rail_capacity.specs.declared.bounds.TrainBound.{TrainBound}
use Rattle.rail_capacity.specs.declared.shifts.Tight.TheVariants.{Start}
use Rattle.rail_capacity.specs.Bounds.{bound_of, limit_of, absent}
use Rattle.rail_capacity.specs.FirstBounds.{entered_bound, AreFirstBounds, with_block}

pub length-with_block : (table : List TrainBound) (block : BlockingTime) (from : ℕ) → length (with_block table block from) ≡ length table
length-with_block table block from =
    cond_both (not (bound_of table block.train).present || nat_lt (block.begin - from) (limit_of table block.train)) _ table (λ (rs : List TrainBound). length rs ≡ length table)
    (λ low. length-set table block.train _) (λ high. refl)

-- one more blocking time, where it comes first
more_low :
    (from : ℕ) (done : List BlockingTime) (table : List TrainBound) (block : BlockingTime) → AreFirstBounds from done table
    → block.train < length table → from ≤ block.begin
    → ((bound_of table block.train).present ≡ true → block.begin - from ≤ limit_of table block.train)
    → AreFirstBounds from (done ++ block ∷ []) (set table block.train (entered_bound table block from))
more_low from done table block are within late low =
    let v : ℕ = block.train in
    let x : TrainBound = entered_bound table block from in
    let new : List TrainBound = set table v x in
    let at_v : bound_of new v ≡ x = get_or-set_same table v x absent within in
    let at : (t : ℕ) → t ≢ v → bound_of new t ≡ bound_of table t = λ t other. get_or-set_other table v t x absent other in
    let e_v : limit_of new v ≡ block.begin - from = ap (λ (r : TrainBound). r.earlier) at_v in
    let here : Contains (done ++ block ∷ []) block = Contains-push done block in
    record {
      fresh = λ t. ⊎_elim
          (λ (is : t ≡ v). let P : ℕ → Type 0 = λ k. (bound_of new k).fixed ≡ false in subst P (sym is) (ap (λ (r : TrainBound). r.fixed) at_v ∙ are.fresh v))
          (λ (other : t ≡ v → ⊥). ap (λ (r : TrainBound). r.fixed) (at t other) ∙ are.fresh t)
          (cases_eq t v);
      free = λ t. ⊎_elim
          (λ (is : t ≡ v). let P : ℕ → Type 0 = λ k. (bound_of new k).tight ≡ Start in subst P (sym is) (ap (λ (r : TrainBound). r.tight) at_v ∙ are.free v))
          (λ (other : t ≡ v → ⊥). ap (λ (r : TrainBound). r.tight) (at t other) ∙ are.free t)
          (cases_eq t v);
      seen = λ y has. ⊎_elim
          (λ (is : y.train ≡ v). let P : ℕ → Type 0 = λ k. (bound_of new k).present ≡ true in subst P (sym is) (ap (λ (r : TrainBound). r.present) at_v))
          (λ (other : y.train ≡ v → ⊥). ap (λ (r : TrainBound). r.present) (at y.train other) ∙ ⊎_elim
          (λ (old : Contains done y). are.seen y old)
          (λ (same : block ≡ y). absurd (other (ap (λ (s : BlockingTime). s.train) (sym same))))
          (Contains-push_cases done block y has))
          (cases_eq y.train v);
      within = λ y has. ⊎_elim
          (λ (is : y.train ≡ v).
          let P : ℕ → Type 0 = λ k. from + limit_of new k ≤ y.begin in
          subst P (sym is) (⊎_elim
          (λ (old : Contains done y).
          let was = are.within y old in
          let Q : ℕ → Type 0 = λ k. (bound_of table k).present ≡ true in
          let most = low (subst Q is (are.seen y old)) in
          let e = e_v in
          let R : ℕ → Type 0 = λ k. from + limit_of table k ≤ y.begin in
          let bound = subst R is was in
          omega arith)
          (λ (same : block ≡ y). let b : block.begin ≡ y.begin = ap (λ (s : BlockingTime). s.begin) same in let e = e_v in omega arith)
          (Contains-push_cases done block y has)))
          (λ (other : y.train ≡ v → ⊥). let e = ap (λ (r : TrainBound). r.earlier) (at y.train other) in ⊎_elim
          (λ (old : Contains done y). let was = are.within y old in omega arith)
          (λ (same : block ≡ y). absurd (other (ap (λ (s : BlockingTime). s.train) (sym same))))
          (Contains-push_cases done block y has))
          (cases_eq y.train v);
      first = λ t present. ⊎_elim
          (λ (is : t ≡ v). record { block = block; taken = here; train_is = sym is; begins = (let P : ℕ → Type 0 = λ k. block.begin ≡ from + limit_of new k in subst P (sym is) (let e = e_v in omega arith)) })
          (λ (other : t ≡ v → ⊥).
          let was = are.first t (sym (ap (λ (r : TrainBound). r.present) (at t other)) ∙ present) in
          record { block = was.block; taken = Contains-append_left done (block ∷ []) was.block was.taken; train_is = was.train_is; begins = was.begins ∙ ap (λ (r : TrainBound). from + r.earlier) (sym (at t other)) })
          (cases_eq t v);
    }

more_high :
    (from : ℕ) (done : List BlockingTime) (table : List TrainBound) (block : BlockingTime) → AreFirstBounds from done table
    → from ≤ block.begin → (bound_of table block.train).present ≡ true → limit_of table block.train ≤ block.begin - from
    → AreFirstBounds from (done ++ block ∷ []) table
more_high from done table block are late present high = record {
  fresh = are.fresh;
  free = are.free;
  seen = λ y has. ⊎_elim
      (λ (old : Contains done y). are.seen y old)
      (λ (same : block ≡ y). let P : BlockingTime → Type 0 = λ s. (bound_of table s.train).present ≡ true in subst P same present)
      (Contains-push_cases done block y has);
  within = λ y has. ⊎_elim
      (λ (old : Contains done y). are.within y old)
      (λ (same : block ≡ y). let P : BlockingTime → Type 0 = λ s. from + limit_of table s.train ≤ s.begin in subst P same (omega arith))
      (Contains-push_cases done block y has);
  first = λ t here. let was = are.first t here in record { block = was.block; taken = Contains-append_left done (block ∷ []) was.block was.taken; train_is = was.train_is; begins = was.begins };
}

pub more :
    (from : ℕ) (done : List BlockingTime) (table : List TrainBound) (block : BlockingTime) → AreFirstBounds from done table
    → block.train < length table → from ≤ block.begin → AreFirstBounds from (done ++ block ∷ []) (with_block table block from)
more from done table block are within late =
    cond_both (not (bound_of table block.train).present || nat_lt (block.begin - from) (limit_of table block.train)) _ table (λ (rs : List TrainBound). AreFirstBounds from (done ++ block ∷ []) rs)
    (λ low. more_low from done table block are within late (λ present. ⊎_elim
    (λ (none : not (bound_of table block.train).present ≡ true). absurd (false≢true (sym (not-true (bound_of table block.train).present none) ∙ present)))
    (λ (less : nat_lt (block.begin - from) (limit_of table block.train) ≡ true). let l = ltb-true (block.begin - from) (limit_of table block.train) less in omega arith)
    (or_cases (not (bound_of table block.train).present) (nat_lt (block.begin - from) (limit_of table block.train)) low)))
    (λ high. let parts = or_parts (not (bound_of table block.train).present) (nat_lt (block.begin - from) (limit_of table block.train)) high in
    more_high from done table block are late (not-false (bound_of table block.train).present parts.0) (ltb-false (block.begin - from) (limit_of table block.train) parts.1))
