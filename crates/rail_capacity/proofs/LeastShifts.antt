-- The shifts of settled bounds are the least.
use Rattle.std.proofs.Common.{◌≡◌, ℕ, ◌+◌, ◌<◌, length, true, false, not, List, sym, ap, ◌∙◌, subst, arith, ⊎_elim, IsTrue}
use Rattle.std.specs.List.{Contains, All, count_by}
use Rattle.std.proofs.lemmas.Bool.{cases_Bool, cases_eq, and_from, not_from_false, false≢true, true_from_ne_false}
use Rattle.std.proofs.lemmas.List.Sums.{length-filter}
use Rattle.std.proofs.lemmas.List.Elements.{All-contains}
use Rattle.rail_capacity.specs.declared.blocking_times.BlockingTime.{BlockingTime}
use Rattle.rail_capacity.specs.declared.gaps.Gap.{Gap}
use Rattle.rail_capacity.specs.declared.shifts.Shift.{Shift}
use Rattle.rail_capacity.specs.declared.shifts.Tight.{Tight}
use Rattle.rail_capacity.specs.declared.shifts.Tight.TheVariants.{Start, After}
use Rattle.rail_capacity.specs.declared.bounds.TrainBound.{TrainBound}
use Rattle.rail_capacity.specs.BlockingTimes.{AreConflictFree}
use Rattle.rail_capacity.specs.Gaps.{AreGaps, IsBetween}
use Rattle.rail_capacity.specs.Shifts.{IsTrueOf, earlier_of, placed_by, leads_to_start}
use Rattle.rail_capacity.specs.Bounds.{bound_of, limit_of, is_fixed, IsTableOf, IsHeldBy, AreBounds, AllKept, AreSettled, AreOver}
use Rattle.rail_capacity.specs.FirstBounds.{AreFirstBounds}
use Rattle.rail_capacity.specs.Compression.{AreLeast}
use Rattle.rail_capacity.specs.LeastBounds.{shifts_from}
use Rattle.rail_capacity.proofs.NeighbourGaps.{ends_before}
use Rattle.rail_capacity.proofs.ShiftLists.{has_shift, shift_of, shift_at, by_number, earlier_is, as_many, leads}

-- the bounds before any is tightened
pub first_bounds :
    (blocks : List BlockingTime) (from : ℕ) (table : List TrainBound) → All (λ (block : BlockingTime). block.train < length table) blocks
    → AreFirstBounds from blocks table → AreBounds blocks from table
first_bounds blocks from table known are = record {
  known = record {
    known = λ x has. All-contains (λ (block : BlockingTime). block.train < length table) blocks x known has;
    seen = are.seen;
    real = λ t present. let at = are.first t present in (at.block, (at.taken, at.train_is));
    within = are.within;
  };
  held = λ t present. let P : Tight → Type 0 = λ tight. IsHeldBy blocks from table t tight in subst P (sym (are.free t)) (are.first t present);
  below = λ other fits x has.
      let at = are.first x.train (are.seen x has) in
      let begins = at.begins in
      let late = fits.within at.block at.taken in
      let rigid = fits.rigid x at.block has at.taken (sym at.train_is) in
      omega arith;
  order = λ u v fixed present free. absurd (false≢true (sym (are.fresh u) ∙ fixed));
  present = λ t fixed. absurd (false≢true (sym (are.fresh t) ∙ fixed));
  chain = λ t fixed. absurd (false≢true (sym (are.fresh t) ∙ fixed));
}

pub first_kept :
    (blocks : List BlockingTime) (from : ℕ) (table : List TrainBound) (gaps : List Gap) → AreFirstBounds from blocks table
    → AllKept gaps table
first_kept blocks from table gaps are gap has fixed = absurd (false≢true (sym (are.fresh gap.before) ∙ fixed))

-- the gaps are between trains that are known
pub gaps_known :
    (blocks : List BlockingTime) (count : ℕ) (gaps : List Gap) → All (λ (block : BlockingTime). block.train < count) blocks
    → AreGaps blocks gaps → AreOver count gaps
gaps_known blocks count gaps known are = record {
  before = λ gap has.
      let real = are.real gap has in
      let low = All-contains (λ (block : BlockingTime). block.train < count) blocks real.0 known real.1.1.0.first in
      let is = real.1.1.1.0.before in
      omega arith;
  after = λ gap has.
      let real = are.real gap has in
      let low = All-contains (λ (block : BlockingTime). block.train < count) blocks real.1.0 known real.1.1.0.second in
      let is = real.1.1.1.0.after in
      omega arith;
}

-- what holds a train makes true what its shift says
says :
    (blocks : List BlockingTime) (from : ℕ) (table : List TrainBound) → AreConflictFree blocks → IsTableOf blocks from table
    → ((x : BlockingTime) → Contains blocks x → earlier_of (shifts_from 0 table) x.train ≡ limit_of table x.train)
    → (t : ℕ) (tight : Tight) → IsHeldBy blocks from table t tight → IsTrueOf blocks (placed_by (shifts_from 0 table)) from t tight
says blocks from table apart are by t Start held =
    let e = by held.block held.taken in
    let begins = held.begins in
    let is : limit_of table held.block.train ≡ limit_of table t = ap (λ n. limit_of table n) held.train_is in
    record { block = held.block; taken = held.taken; train_is = held.train_is; begins = omega arith }
says blocks from table apart are by t (After other section) held =
    let eb = by held.before held.next.first in
    let ea = by held.after held.next.second in
    let is_b : limit_of table held.before.train ≡ limit_of table other = ap (λ n. limit_of table n) held.before_is in
    let is_a : limit_of table held.after.train ≡ limit_of table t = ap (λ n. limit_of table n) held.after_is in
    let within_b = are.within held.before held.next.first in
    let within_a = are.within held.after held.next.second in
    let long = apart.positive held.before held.next.first in
    let meets = held.meets in
    record {
      before = held.before;
      after = held.after;
      next = held.next;
      section_is = held.section_is;
      before_is = held.before_is;
      after_is = held.after_is;
      differ = held.differ;
      meets = omega arith;
    }

pub are_least :
    (blocks : List BlockingTime) (from : ℕ) (gaps : List Gap) (table : List TrainBound) → AreConflictFree blocks → AreGaps blocks gaps
    → AreSettled blocks from gaps table → AreLeast blocks from (shifts_from 0 table)
are_least blocks from gaps table apart are settled =
    let bounds : AreBounds blocks from table = settled.bounds in
    let shifts : List Shift = shifts_from 0 table in
    let by : (x : BlockingTime) → Contains blocks x → earlier_of shifts x.train ≡ limit_of table x.train = λ x has.
    let e : 0 + x.train ≡ x.train = omega arith in
    ap (λ n. earlier_of shifts n) (sym e) ∙ earlier_is 0 table x.train (bounds.known.seen x has) in
    let fixed : (t : ℕ) → (bound_of table t).present ≡ true → (bound_of table t).fixed ≡ true = λ t present.
    true_from_ne_false (bound_of table t).fixed (λ free. false≢true (sym (settled.none_open t) ∙ and_from (bound_of table t).present (not (bound_of table t).fixed) present (not_from_false (bound_of table t).fixed free))) in
    let agree : (t : ℕ) → (bound_of table t).fixed ≡ (bound_of table t).present = λ t. ⊎_elim
    (λ (is : (bound_of table t).present ≡ true). fixed t is ∙ sym is)
    (λ (not_so : (bound_of table t).present ≡ false). ⊎_elim
    (λ (is : (bound_of table t).fixed ≡ true). absurd (false≢true (sym not_so ∙ bounds.present t is)))
    (λ (free : (bound_of table t).fixed ≡ false). free ∙ sym not_so)
    (cases_Bool (bound_of table t).fixed))
    (cases_Bool (bound_of table t).present) in
    let many : length shifts ≡ count_by is_fixed table = as_many 0 table agree ∙ length-filter is_fixed table in
    record {
      trains = record {
        ascending = by_number 0 table;
        no_others = λ shift has.
            let of = shift_of 0 table shift has in
            let at = bounds.known.real of.place of.present in
            (at.0, at.1.0, at.1.1 ∙ (let e : of.place ≡ 0 + of.place = omega arith in e) ∙ sym (ap (λ (s : Shift). s.train) of.is));
        all = λ x has. (shift_at table 0 x.train, has_shift 0 table x.train (bounds.known.seen x has), (let e : 0 + x.train ≡ x.train = omega arith in e));
        exact = λ x has. let e = by x has in let low = bounds.known.within x has in omega arith;
      };
      least = record {
        admissible = record {
          rigid = λ x y has too same.
              let ex = by x has in let ey = by y too in
              let lowx = bounds.known.within x has in let lowy = bounds.known.within y too in
              let e : limit_of table x.train ≡ limit_of table y.train = ap (λ n. limit_of table n) same in
              omega arith;
          within = λ x has. let e = by x has in let low = bounds.known.within x has in omega arith;
          kept = λ x y next.
              let ex = by x next.first in let ey = by y next.second in
              let lowx = bounds.known.within x next.first in let lowy = bounds.known.within y next.second in
              let long = apart.positive x next.first in
              let ends = ends_before blocks apart x y next.first next.second next.section next.order in
              ⊎_elim
              (λ (same : x.train ≡ y.train). let e : limit_of table x.train ≡ limit_of table y.train = ap (λ n. limit_of table n) same in omega arith)
              (λ (differ : x.train ≡ y.train → ⊥).
              let found = are.whole x y next differ in
              let gap : Gap = found.0 in
              let between : IsBetween gap x y = found.1.1 in
              let P : ℕ → Type 0 = λ k. (bound_of table k).fixed ≡ true in
              let bound = settled.kept gap found.1.0 (subst P between.before (fixed x.train (bounds.known.seen x next.first))) in
              let room = between.room in
              let eb : limit_of table x.train ≡ limit_of table gap.before = ap (λ n. limit_of table n) between.before in
              let ea : limit_of table y.train ≡ limit_of table gap.after = ap (λ n. limit_of table n) between.after in
              omega arith)
              (cases_eq x.train y.train);
        };
        least = λ other fits x has. let e = by x has in let bound = bounds.below other fits x has in omega arith;
      };
      tight = λ shift has.
          let of = shift_of 0 table shift has in
          let told = says blocks from table apart bounds.known by of.place (bound_of table of.place).tight (bounds.held of.place of.present) in
          let P : ℕ → Tight → Type 0 = λ t tight. IsTrueOf blocks (placed_by shifts) from t tight in
          let e : of.place ≡ shift.train = (let f : of.place ≡ 0 + of.place = omega arith in f) ∙ sym (ap (λ (s : Shift). s.train) of.is) in
          subst (λ (t : ℕ). P t shift.tight) e (subst (λ (tight : Tight). P of.place tight) (sym (ap (λ (s : Shift). s.tight) of.is)) told);
      chain = λ shift has.
          let of = shift_of 0 table shift has in
          let way = bounds.chain of.place (fixed of.place of.present) in
          let e : of.place ≡ shift.train = (let f : of.place ≡ 0 + of.place = omega arith in f) ∙ sym (ap (λ (s : Shift). s.train) of.is) in
          let P : ℕ → ℕ → Type 0 = λ steps t. IsTrue (leads_to_start shifts steps t) in
          subst (λ (steps : ℕ). P steps shift.train) (sym many) (subst (λ (t : ℕ). P (count_by is_fixed table) t) e (leads table bounds.present (count_by is_fixed table) of.place way));
    }
