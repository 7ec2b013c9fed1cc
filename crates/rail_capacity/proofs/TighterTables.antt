-- A bound that is tightened over a gap behind the train that was fixed last keeps what is known of the bounds.
use Rattle.std.proofs.Common.{◌≡◌, ◌≢◌, ℕ, ◌+◌, ◌<◌, ◌≤◌, length, Bool, true, false, cond, List, set, refl, sym, ap, ◌∙◌, subst, arith, nat_lt, ⊎_elim, Some}
use Rattle.std.specs.List.{count_by}
use Rattle.std.proofs.lemmas.Bool.{cases_Bool, cases_eq, cond-true, cond-false, ltb-true, ltb-false, false_from_ne_true, false≢true}
use Rattle.std.proofs.lemmas.List.{length-set, get_or-set_same, get_or-set_other}
use Rattle.std.proofs.lemmas.List.Sums.{sum_by-set}
use Rattle.rail_capacity.specs.declared.blocking_times.BlockingTime.{BlockingTime}
use Rattle.rail_capacity.specs.declared.gaps.Gap.{Gap}
use Rattle.rail_capacity.specs.declared.bounds.TrainBound.{TrainBound}
use Rattle.rail_capacity.specs.declared.shifts.Tight.{Tight}
use Rattle.rail_capacity.specs.declared.shifts.Tight.TheVariants.{Start, After}
use Rattle.rail_capacity.specs.Placings.{IsNext}
use Rattle.rail_capacity.specs.Gaps.{IsBetween}
use Rattle.rail_capacity.specs.Shifts.{touched_train}
use Rattle.rail_capacity.specs.Bounds.{tighter_bound, tighter_table, bound_of, limit_of, absent, is_open, is_fixed, IsTableOf, Follows, IsHeldBy, Leads, AreBounds, IsKept}
use Rattle.rail_capacity.specs.Gaps.{IsReal}
use Rattle.rail_capacity.proofs.Chains.{KeepsFixed, still_leads}

-- what has changed in one bound at most
pub record Changes (old new : List TrainBound) (v : ℕ) : Type 0 where
  pub others : (t : ℕ) → t ≢ v → bound_of new t ≡ bound_of old t
  pub present : (bound_of new v).present ≡ (bound_of old v).present
  pub size : length new ≡ length old

pub changes_set :
    (old : List TrainBound) (v : ℕ) (x : TrainBound) → v < length old → x.present ≡ (bound_of old v).present → Changes old (set old v x) v
changes_set old v x within same = record {
  others = λ t other. get_or-set_other old v t x absent other;
  present = ap (λ (r : TrainBound). r.present) (get_or-set_same old v x absent within) ∙ same;
  size = length-set old v x;
}

pub still_present : (old new : List TrainBound) (v : ℕ) → Changes old new v → (t : ℕ) → (bound_of new t).present ≡ (bound_of old t).present
still_present old new v changes t =
    ⊎_elim
    (λ (is : t ≡ v). let P : ℕ → Type 0 = λ k. (bound_of new k).present ≡ (bound_of old k).present in subst P (sym is) changes.present)
    (λ (other : t ≡ v → ⊥). ap (λ (r : TrainBound). r.present) (changes.others t other))
    (cases_eq t v)

-- the trains that are present stay those with a blocking time, as long as no limit grows
pub still_table :
    (blocks : List BlockingTime) (from : ℕ) (old new : List TrainBound) (v : ℕ) → IsTableOf blocks from old → Changes old new v
    → ((t : ℕ) → limit_of new t ≤ limit_of old t) → IsTableOf blocks from new
still_table blocks from old new v are changes lower = record {
  known = λ x has. let low = are.known x has in let size = changes.size in omega arith;
  seen = λ x has. still_present old new v changes x.train ∙ are.seen x has;
  real = λ t present. are.real t (sym (still_present old new v changes t) ∙ present);
  within = λ x has. let low = are.within x has in let most = lower x.train in omega arith;
}

-- what held a train holds it still, where its bound and those of the fixed trains are as they were
pub still_held :
    (blocks : List BlockingTime) (from : ℕ) (old new : List TrainBound) (t : ℕ) → limit_of new t ≡ limit_of old t
    → ((a : ℕ) → (bound_of old a).fixed ≡ true → (limit_of new a ≡ limit_of old a) × ((bound_of new a).fixed ≡ true)) → (tight : Tight)
    → IsHeldBy blocks from old t tight → IsHeldBy blocks from new t tight
still_held blocks from old new t same fixed Start held = record { block = held.block; taken = held.taken; train_is = held.train_is; begins = held.begins ∙ ap (λ n. from + n) (sym same) }
still_held blocks from old new t same fixed (After other section) held =
    let kept = fixed other held.fixed in
    let e = kept.0 in
    let meets = held.meets in
    record { before = held.before; after = held.after; next = held.next; section_is = held.section_is; before_is = held.before_is; after_is = held.after_is; differ = held.differ; meets = omega arith; fixed = kept.1 }

pub touches_fixed :
    (blocks : List BlockingTime) (from : ℕ) (table : List TrainBound) (t : ℕ) (tight : Tight) → IsHeldBy blocks from table t tight
    → (a : ℕ) → touched_train tight ≡ Some a → (bound_of table a).fixed ≡ true
touches_fixed blocks from table t Start held a is = absurd (cc)
touches_fixed blocks from table t (After other section) held a is =
    let same : other ≡ a = cc in
    let P : ℕ → Type 0 = λ k. (bound_of table k).fixed ≡ true in
    subst P same held.fixed

-- the train was fixed last
pub record IsLatest (table : List TrainBound) (t : ℕ) : Type 0 where
  pub fixed : (bound_of table t).fixed ≡ true
  pub latest : (u : ℕ) → (bound_of table u).fixed ≡ true → limit_of table u ≤ limit_of table t

-- what one more gap leaves
pub record IsTightened (blocks : List BlockingTime) (from : ℕ) (old : List TrainBound) (gap : Gap) (new : List TrainBound) : Type 0 where
  pub bounds : AreBounds blocks from new
  pub latest : IsLatest new gap.before
  pub here : IsKept new gap
  pub others : (other : Gap) → IsKept old other → IsKept new other
  pub opened : count_by is_open new ≡ count_by is_open old

tighten_low :
    (blocks : List BlockingTime) (from : ℕ) (table : List TrainBound) (gap : Gap) → AreBounds blocks from table → IsReal blocks gap
    → IsLatest table gap.before → limit_of table gap.before + gap.room < limit_of table gap.after
    → IsTightened blocks from table gap (set table gap.after (tighter_bound table gap))
tighten_low blocks from table gap bounds real latest low =
    let v : ℕ = gap.after in
    let b : ℕ = gap.before in
    let x : TrainBound = tighter_bound table gap in
    let new : List TrainBound = set table v x in
    let first : BlockingTime = real.0 in
    let second : BlockingTime = real.1.0 in
    let next : IsNext blocks first second = real.1.1.0 in
    let between : IsBetween gap first second = real.1.1.1.0 in
    let differ : b ≢ v = real.1.1.1.1 in
    let within : v < length table = let k = bounds.known.known second next.second in let e = between.after in omega arith in
    let at_v : bound_of new v ≡ x = get_or-set_same table v x absent within in
    let at : (t : ℕ) → t ≢ v → bound_of new t ≡ bound_of table t = λ t other. get_or-set_other table v t x absent other in
    let changes : Changes table new v = changes_set table v x within refl in
    let e_v : limit_of new v ≡ limit_of table b + gap.room = ap (λ (r : TrainBound). r.earlier) at_v in
    let e_at : (t : ℕ) → t ≢ v → limit_of new t ≡ limit_of table t = λ t other. ap (λ (r : TrainBound). r.earlier) (at t other) in
    let open_v : (bound_of table v).fixed ≡ false = false_from_ne_true (bound_of table v).fixed (λ is. let most = latest.latest v is in absurd (omega arith)) in
    let fixed_other : (t : ℕ) → (bound_of table t).fixed ≡ true → t ≢ v = λ t is same. let P : ℕ → Type 0 = λ k. (bound_of table k).fixed ≡ false in false≢true (sym (subst P (sym same) open_v) ∙ is) in
    let flag : (t : ℕ) → (bound_of new t).fixed ≡ (bound_of table t).fixed = λ t. ⊎_elim
    (λ (is : t ≡ v). let P : ℕ → Type 0 = λ k. (bound_of new k).fixed ≡ (bound_of table k).fixed in subst P (sym is) (ap (λ (r : TrainBound). r.fixed) at_v))
    (λ (other : t ≡ v → ⊥). ap (λ (r : TrainBound). r.fixed) (at t other))
    (cases_eq t v) in
    let keeps : KeepsFixed table new = record { same = λ t is. at t (fixed_other t is) } in
    let lower : (t : ℕ) → limit_of new t ≤ limit_of table t = λ t. ⊎_elim
    (λ (is : t ≡ v). let P : ℕ → Type 0 = λ k. limit_of new k ≤ limit_of table k in subst P (sym is) (let e = e_v in omega arith))
    (λ (other : t ≡ v → ⊥). let e = e_at t other in omega arith)
    (cases_eq t v) in
    let e_b : limit_of new b ≡ limit_of table b = e_at b differ in
    let count : count_by is_fixed new ≡ count_by is_fixed table =
    let s = sum_by-set (λ (r : TrainBound). cond (is_fixed r) 1 0) table v x absent within in omega arith in
    record {
      bounds = record {
        known = still_table blocks from table new v bounds.known changes lower;
        held = λ t present. ⊎_elim
            (λ (is : t ≡ v).
            let P : ℕ → Type 0 = λ k. IsHeldBy blocks from new k (bound_of new k).tight in
            let Q : Tight → Type 0 = λ tight. IsHeldBy blocks from new v tight in
            let room = between.room in
            let follows : Follows blocks new b gap.section v = record {
              before = first;
              after = second;
              next = next;
              section_is = between.section;
              before_is = between.before;
              after_is = between.after;
              differ = differ;
              meets = (let e = e_v in let f = e_b in omega arith);
              fixed = flag b ∙ latest.fixed;
            } in
            subst P (sym is) (subst Q (sym (ap (λ (r : TrainBound). r.tight) at_v)) follows))
            (λ (other : t ≡ v → ⊥).
            let same = at t other in
            let Q : Tight → Type 0 = λ tight. IsHeldBy blocks from new t tight in
            subst Q (sym (ap (λ (r : TrainBound). r.tight) same))
            (still_held blocks from table new t (e_at t other) (λ a is. (e_at a (fixed_other a is), flag a ∙ is)) (bound_of table t).tight
            (bounds.held t (sym (ap (λ (r : TrainBound). r.present) same) ∙ present))))
            (cases_eq t v);
        below = λ other fits y has. ⊎_elim
            (λ (is : y.train ≡ v).
            let bound : first.begin ≤ other first + limit_of table b = let P : ℕ → Type 0 = λ k. first.begin ≤ other first + limit_of table k in subst P between.before (bounds.below other fits first next.first) in
            let after = fits.kept first second next in
            let room = between.room in
            let rigid = fits.rigid y second has next.second (is ∙ sym between.after) in
            let P : ℕ → Type 0 = λ k. y.begin ≤ other y + limit_of new k in
            subst P (sym is) (let e = e_v in omega arith))
            (λ (not_so : y.train ≡ v → ⊥). let e = e_at y.train not_so in let bound = bounds.below other fits y has in omega arith)
            (cases_eq y.train v);
        order = λ u w is present not_fixed.
            let was : (bound_of table u).fixed ≡ true = sym (flag u) ∙ is in
            let e_u = e_at u (fixed_other u was) in
            ⊎_elim
            (λ (same : w ≡ v). let P : ℕ → Type 0 = λ k. limit_of new u ≤ limit_of new k in subst P (sym same) (let e = e_v in let most = latest.latest u was in omega arith))
            (λ (other : w ≡ v → ⊥). let e = e_at w other in let most = bounds.order u w was (sym (still_present table new v changes w) ∙ present) (sym (flag w) ∙ not_fixed) in omega arith)
            (cases_eq w v);
        present = λ t is. still_present table new v changes t ∙ bounds.present t (sym (flag t) ∙ is);
        chain = λ t is. let P : ℕ → Type 0 = λ n. Leads new n t in subst P (sym count) (still_leads table new keeps (count_by is_fixed table) t (bounds.chain t (sym (flag t) ∙ is)));
      };
      latest = record {
        fixed = flag b ∙ latest.fixed;
        latest = λ u is. let was : (bound_of table u).fixed ≡ true = sym (flag u) ∙ is in let e_u = e_at u (fixed_other u was) in let e = e_b in let most = latest.latest u was in omega arith;
      };
      here = λ is. let e = e_v in let f = e_b in omega arith;
      others = λ other kept is.
          let was : (bound_of table other.before).fixed ≡ true = sym (flag other.before) ∙ is in
          let e = e_at other.before (fixed_other other.before was) in
          let bound = kept was in
          let most = lower other.after in
          omega arith;
      opened = let s = sum_by-set (λ (r : TrainBound). cond (is_open r) 1 0) table v x absent within in omega arith;
    }

-- a bound that is tightened over a gap behind the train that was fixed last
pub tighten :
    (blocks : List BlockingTime) (from : ℕ) (table : List TrainBound) (gap : Gap) → AreBounds blocks from table → IsReal blocks gap
    → IsLatest table gap.before → IsTightened blocks from table gap (tighter_table table gap)
tighten blocks from table gap bounds real latest =
    let low : Bool = nat_lt (limit_of table gap.before + gap.room) (limit_of table gap.after) in
    let P : List TrainBound → Type 0 = λ new. IsTightened blocks from table gap new in
    ⊎_elim
    (λ (is : low ≡ true). subst P (sym (cond-true low (set table gap.after (tighter_bound table gap)) table is)) (tighten_low blocks from table gap bounds real latest (ltb-true _ _ is)))
    (λ (is : low ≡ false). subst P (sym (cond-false low (set table gap.after (tighter_bound table gap)) table is))
    (let high : limit_of table gap.after ≤ limit_of table gap.before + gap.room = ltb-false _ _ is in
    record { bounds = bounds; latest = latest; here = λ fixed. high; others = λ other kept. kept; opened = refl }))
    (cases_Bool low)
