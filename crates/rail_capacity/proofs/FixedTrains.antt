-- The bound of the least open train is fixed, and those of the trains behind it are tightened.
use Rattle.std.proofs.Common.{◌≡◌, ◌≢◌, ℕ, suc, ◌+◌, ◌<◌, ◌≤◌, length, Bool, true, false, not, cond, List, [], ◌∷◌, refl, sym, ap, ◌∙◌, subst, arith, nat_lt, ⊎_elim}
use Rattle.std.specs.List.{Contains, fold, count_by}
use Rattle.std.proofs.lemmas.Bool.{cases_eq, cases_lt, cond_both, and_parts, and_from, and_right, not-true, not_from_false, false≢true}
use Rattle.std.proofs.lemmas.List.{get_or-set_same, get_or-set_other, set_past}
use Rattle.std.proofs.lemmas.List.Sums.{sum_by-set}
use Rattle.rail_capacity.specs.declared.blocking_times.BlockingTime.{BlockingTime}
use Rattle.rail_capacity.specs.declared.gaps.Gap.{Gap}
use Rattle.rail_capacity.specs.declared.bounds.TrainBound.{TrainBound}
use Rattle.rail_capacity.specs.declared.shifts.Tight.{Tight}
use Rattle.rail_capacity.specs.Shifts.{touched_train}
use Rattle.rail_capacity.specs.Gaps.{AreGaps}
use Rattle.rail_capacity.specs.Bounds.{fixed_bound, tighter_bound, tighter_table, bound_of, limit_of, with_fixed, absent, is_open, is_fixed, IsHeldBy, Leads, AreBounds, IsKept, IsLeastOpen, IsAfterFix, AllKept}
use Rattle.rail_capacity.proofs.Members.{among, at_head, in_rest, in_none}
use Rattle.rail_capacity.specs.Gaps.{IsReal}
use Rattle.rail_capacity.proofs.Chains.{KeepsFixed, still_leads, leads_more}
use Rattle.rail_capacity.proofs.TighterTables.{Changes, changes_set, still_present, still_table, still_held, touches_fixed, IsLatest, IsTightened, tighten}

-- as many bounds are open after one is tightened
pub open_tighter : (table : List TrainBound) (gap : Gap) → count_by is_open (tighter_table table gap) ≡ count_by is_open table
open_tighter table gap =
    let v : ℕ = gap.after in
    cond_both (nat_lt (limit_of table gap.before + gap.room) (limit_of table gap.after)) _ table (λ (rs : List TrainBound). count_by is_open rs ≡ count_by is_open table)
    (λ low. ⊎_elim
    (λ (within : v < length table). let s = sum_by-set (λ (r : TrainBound). cond (is_open r) 1 0) table v (tighter_bound table gap) absent within in omega arith)
    (λ (past : length table ≤ v). ap (λ (rs : List TrainBound). count_by is_open rs) (set_past table v _ past))
    (cases_lt v (length table)))
    (λ high. refl)

pub open_tighter_all : (gaps : List Gap) (table : List TrainBound) → count_by is_open (fold tighter_table table gaps) ≡ count_by is_open table
open_tighter_all [] table = refl
open_tighter_all (gap ∷ gaps) table = open_tighter_all gaps (tighter_table table gap) ∙ open_tighter table gap

pub open_with_fixed :
    (table : List TrainBound) (t : ℕ) → t < length table → is_open (bound_of table t) ≡ true
    → count_by is_open (with_fixed table t) + 1 ≡ count_by is_open table
open_with_fixed table t within opened =
    let x : TrainBound = fixed_bound table t in
    let shut : cond {A = ℕ} (is_open x) 1 0 ≡ 0 = ap (λ (b : Bool). cond {A = ℕ} b 1 0) (and_right x.present (not x.fixed) refl) in
    let wide : cond {A = ℕ} (is_open (bound_of table t)) 1 0 ≡ 1 = ap (λ (b : Bool). cond {A = ℕ} b 1 0) opened in
    let s = sum_by-set (λ (r : TrainBound). cond (is_open r) 1 0) table t x absent within in
    omega arith

-- what is known once a train is fixed
pub record IsMarked (blocks : List BlockingTime) (from : ℕ) (old : List TrainBound) (t : ℕ) (new : List TrainBound) : Type 0 where
  pub bounds : AreBounds blocks from new
  pub latest : IsLatest new t
  pub others : (other : Gap) → other.before ≢ t → IsKept old other → IsKept new other

pub mark :
    (blocks : List BlockingTime) (from : ℕ) (table : List TrainBound) (t : ℕ) → AreBounds blocks from table → IsLeastOpen table t
    → IsMarked blocks from table t (with_fixed table t)
mark blocks from table t bounds least =
    let x : TrainBound = fixed_bound table t in
    let new : List TrainBound = with_fixed table t in
    let within : t < length table = least.known in
    let parts = and_parts (bound_of table t).present (not (bound_of table t).fixed) least.opened in
    let shut : (bound_of table t).fixed ≡ false = not-true (bound_of table t).fixed parts.1 in
    let at_t : bound_of new t ≡ x = get_or-set_same table t x absent within in
    let at : (u : ℕ) → u ≢ t → bound_of new u ≡ bound_of table u = λ u other. get_or-set_other table t u x absent other in
    let changes : Changes table new t = changes_set table t x within refl in
    let e : (u : ℕ) → limit_of new u ≡ limit_of table u = λ u. ⊎_elim
    (λ (is : u ≡ t). let P : ℕ → Type 0 = λ k. limit_of new k ≡ limit_of table k in subst P (sym is) (ap (λ (r : TrainBound). r.earlier) at_t))
    (λ (other : u ≡ t → ⊥). ap (λ (r : TrainBound). r.earlier) (at u other))
    (cases_eq u t) in
    let tight : (u : ℕ) → (bound_of new u).tight ≡ (bound_of table u).tight = λ u. ⊎_elim
    (λ (is : u ≡ t). let P : ℕ → Type 0 = λ k. (bound_of new k).tight ≡ (bound_of table k).tight in subst P (sym is) (ap (λ (r : TrainBound). r.tight) at_t))
    (λ (other : u ≡ t → ⊥). ap (λ (r : TrainBound). r.tight) (at u other))
    (cases_eq u t) in
    let present : (u : ℕ) → (bound_of new u).present ≡ (bound_of table u).present = λ u. still_present table new t changes u in
    let still : (u : ℕ) → (bound_of table u).fixed ≡ true → u ≢ t = λ u is same. let P : ℕ → Type 0 = λ k. (bound_of table k).fixed ≡ false in false≢true (sym (subst P (sym same) shut) ∙ is) in
    let fixed_t : (bound_of new t).fixed ≡ true = ap (λ (r : TrainBound). r.fixed) at_t in
    let flag : (u : ℕ) → u ≢ t → (bound_of new u).fixed ≡ (bound_of table u).fixed = λ u other. ap (λ (r : TrainBound). r.fixed) (at u other) in
    let keeps : KeepsFixed table new = record { same = λ u is. at u (still u is) } in
    let still_fixed : (u : ℕ) → (bound_of table u).fixed ≡ true → (bound_of new u).fixed ≡ true = λ u is. flag u (still u is) ∙ is in
    let not_t : (u : ℕ) → (bound_of new u).fixed ≡ false → u ≢ t = λ u is same. let P : ℕ → Type 0 = λ k. (bound_of new k).fixed ≡ false in false≢true (sym (subst P same is) ∙ fixed_t) in
    let n : ℕ = count_by is_fixed table in
    let count : count_by is_fixed new ≡ suc n =
    let s = sum_by-set (λ (r : TrainBound). cond (is_fixed r) 1 0) table t x absent within in
    let was : cond {A = ℕ} (is_fixed (bound_of table t)) 1 0 ≡ 0 = ap (λ (b : Bool). cond {A = ℕ} b 1 0) shut in
    omega arith in
    let open_from : (u : ℕ) → (bound_of table u).present ≡ true → (bound_of table u).fixed ≡ false → is_open (bound_of table u) ≡ true =
    λ u here free. and_from (bound_of table u).present (not (bound_of table u).fixed) here (not_from_false (bound_of table u).fixed free) in
    let P : ℕ → ℕ → Type 0 = λ u steps. Leads new steps u in
    record {
      bounds = record {
        known = still_table blocks from table new t bounds.known changes (λ u. let s = e u in omega arith);
        held = λ u here.
            let Q : Tight → Type 0 = λ by. IsHeldBy blocks from new u by in
            subst Q (sym (tight u)) (still_held blocks from table new u (e u) (λ a is. (e a, still_fixed a is)) (bound_of table u).tight (bounds.held u (sym (present u) ∙ here)));
        below = λ other fits y has. let s = e y.train in let bound = bounds.below other fits y has in omega arith;
        order = λ u w is here free.
            let other_w = not_t w free in
            let free_w = sym (flag w other_w) ∙ free in
            let here_w = sym (present w) ∙ here in
            let eu = e u in let ew = e w in
            ⊎_elim
            (λ (same : u ≡ t). let R : ℕ → Type 0 = λ k. limit_of table k ≤ limit_of table w in let most = subst R (sym same) (least.least w (open_from w here_w free_w)) in omega arith)
            (λ (other : u ≡ t → ⊥). let most = bounds.order u w (sym (flag u other) ∙ is) here_w free_w in omega arith)
            (cases_eq u t);
        present = λ u is. ⊎_elim
            (λ (same : u ≡ t). let R : ℕ → Type 0 = λ k. (bound_of new k).present ≡ true in subst R (sym same) (present t ∙ parts.0))
            (λ (other : u ≡ t → ⊥). present u ∙ bounds.present u (sym (flag u other) ∙ is))
            (cases_eq u t);
        chain = λ u is. subst (λ (k : ℕ). P u k) (sym count) (⊎_elim
            (λ (same : u ≡ t). subst (λ (k : ℕ). P k (suc n)) (sym same)
            (fixed_t, λ a touches. still_leads table new keeps n a (bounds.chain a (touches_fixed blocks from table t (bound_of table t).tight (bounds.held t parts.0) a (sym (ap (λ (by : Tight). touched_train by) (tight t)) ∙ touches)))))
            (λ (other : u ≡ t → ⊥). leads_more new n u (still_leads table new keeps n u (bounds.chain u (sym (flag u other) ∙ is))))
            (cases_eq u t));
      };
      latest = record {
        fixed = fixed_t;
        latest = λ u is. let eu = e u in let et = e t in ⊎_elim
            (λ (same : u ≡ t). let R : ℕ → Type 0 = λ k. limit_of new k ≤ limit_of new t in subst R (sym same) (omega arith))
            (λ (other : u ≡ t → ⊥). let most = bounds.order u t (sym (flag u other) ∙ is) parts.0 shut in omega arith)
            (cases_eq u t);
      };
      others = λ other apart kept is. let eb = e other.before in let ea = e other.after in let bound = kept (sym (flag other.before apart) ∙ is) in omega arith;
    }

-- what is known after all gaps behind the train
record AreTightened (blocks : List BlockingTime) (from : ℕ) (old : List TrainBound) (t : ℕ) (behind : List Gap) (new : List TrainBound) : Type 0 where
  bounds : AreBounds blocks from new
  latest : IsLatest new t
  here : (gap : Gap) → Contains behind gap → IsKept new gap
  others : (other : Gap) → IsKept old other → IsKept new other

tighten_all :
    (blocks : List BlockingTime) (from t : ℕ) (behind : List Gap)
    → ((gap : Gap) → Contains behind gap → IsReal blocks gap × (gap.before ≡ t)) → (table : List TrainBound) → AreBounds blocks from table
    → IsLatest table t → AreTightened blocks from table t behind (fold tighter_table table behind)
tighten_all blocks from t [] are table bounds latest = record { bounds = bounds; latest = latest; here = λ gap has. in_none gap has; others = λ other kept. kept }
tighten_all blocks from t (gap ∷ rest) are table bounds latest =
    let here : IsReal blocks gap × (gap.before ≡ t) = are gap (at_head gap rest gap refl) in
    let P : ℕ → Type 0 = λ k. IsLatest table k in
    let one : IsTightened blocks from table gap (tighter_table table gap) = tighten blocks from table gap bounds here.0 (subst P (sym here.1) latest) in
    let Q : ℕ → Type 0 = λ k. IsLatest (tighter_table table gap) k in
    let all = tighten_all blocks from t rest (λ g has. are g (in_rest gap rest g has)) (tighter_table table gap) one.bounds (subst Q here.1 one.latest) in
    record {
      bounds = all.bounds;
      latest = all.latest;
      here = λ g has. ⊎_elim
          (λ (is : gap ≡ g). let R : Gap → Type 0 = λ k. IsKept (fold tighter_table (tighter_table table gap) rest) k in subst R is (all.others gap one.here))
          (λ (later : Contains rest g). all.here g later)
          (among gap rest g has);
      others = λ other kept. all.others other (one.others other kept);
    }

-- fixing one more train keeps what is known
pub fix :
    (blocks : List BlockingTime) (from : ℕ) (gaps : List Gap) → AreGaps blocks gaps
    → (old : List TrainBound) (t : ℕ) (new : List TrainBound) → AreBounds blocks from old → AllKept gaps old → IsLeastOpen old t
    → IsAfterFix old gaps t new → AreBounds blocks from new × AllKept gaps new
fix blocks from gaps are old t new bounds kept least after =
    let marks : IsMarked blocks from old t (with_fixed old t) = mark blocks from old t bounds least in
    let all = tighten_all blocks from t after.behind (λ gap has. (are.real gap (after.are.only gap has).0, (after.are.only gap has).1)) (with_fixed old t) marks.bounds marks.latest in
    let P : List TrainBound → Type 0 = λ rs. AreBounds blocks from rs × AllKept gaps rs in
    subst P (sym after.tightened_by) (
      all.bounds,
      λ gap has. ⊎_elim
          (λ (is : gap.before ≡ t). all.here gap (after.are.all gap has is))
          (λ (other : gap.before ≡ t → ⊥). all.others gap (marks.others gap other (kept gap has)))
          (cases_eq gap.before t),
    )
