-- Laws of placings.
use Rattle.std.proofs.Common.{◌≡◌, ℕ, zero, suc, ◌+◌, ◌-◌, ◌<◌, ◌≤◌, ◌⊎◌, List, [], ◌∷◌, inl, inr, refl, sym, ap, ◌∙◌, subst, arith, ⊎_elim}
use Rattle.std.specs.List.{Contains}
use Rattle.std.proofs.lemmas.Bool.{cases_eq, cases_lt}
use Rattle.rail_capacity.specs.declared.blocking_times.BlockingTime.{BlockingTime}
use Rattle.rail_capacity.specs.BlockingTimes.{AreConflictFree}
use Rattle.rail_capacity.specs.Placings.{IsNext, IsAdmissible, IsLeast, duration}
use Rattle.rail_capacity.proofs.NeighbourGaps.{ends_before, one_begin}
use Rattle.rail_capacity.proofs.Members.{among, at_head, in_rest, in_none}

pub as_run :
    (blocks : List BlockingTime) (from : ℕ) → AreConflictFree blocks → ((x : BlockingTime) → Contains blocks x → from ≤ x.begin)
    → IsAdmissible blocks from (λ x. x.begin)
as_run blocks from apart within = record {
  rigid = λ x y has too same. let e : x.begin + y.begin ≡ y.begin + x.begin = omega arith in e;
  within = within;
  kept = λ x y next. let ends = ends_before blocks apart x y next.first next.second next.section next.order in let long = apart.positive x next.first in omega arith;
}

pub one_least :
    (blocks : List BlockingTime) (from : ℕ) (a b : BlockingTime → ℕ) → IsLeast blocks from a → IsLeast blocks from b → (x : BlockingTime)
    → Contains blocks x → a x ≡ b x
one_least blocks from a b one two x has =
    let low = one.least b two.admissible x has in
    let high = two.least a one.admissible x has in
    omega arith

-- the first of some blocking times that begins on the section of another after it, and not after a third
record IsNear (sub : List BlockingTime) (x y z : BlockingTime) : Type 0 where
  here : Contains sub z
  section : z.section ≡ x.section
  after : x.begin < z.begin
  upto : z.begin ≤ y.begin
  first : (w : BlockingTime) → Contains sub w → w.section ≡ x.section → (w.begin ≤ x.begin) ⊎ (z.begin ≤ w.begin)

abbrev Near : List BlockingTime → BlockingTime → BlockingTime → Type 0
Near sub x y = (z : BlockingTime) × IsNear sub x y z

-- a blocking time that doesn't stand between
passed :
    (a : BlockingTime) (rest : List BlockingTime) (x y z : BlockingTime) → IsNear rest x y z
    → (a.section ≡ x.section → (a.begin ≤ x.begin) ⊎ (z.begin ≤ a.begin)) → IsNear (a ∷ rest) x y z
passed a rest x y z near apart = record {
  here = in_rest a rest z near.here;
  section = near.section;
  after = near.after;
  upto = near.upto;
  first = λ w has same. ⊎_elim
      (λ (is : a ≡ w). let P : BlockingTime → Type 0 = λ s. (s.begin ≤ x.begin) ⊎ (z.begin ≤ s.begin) in subst P is (apart (ap (λ (s : BlockingTime). s.section) is ∙ same)))
      (λ (later : Contains rest w). near.first w later same)
      (among a rest w has);
}

-- a blocking time that stands between is nearer
nearer : (a : BlockingTime) (rest : List BlockingTime) (x y : BlockingTime) → Near rest x y → Near (a ∷ rest) x y
nearer a rest x y found =
    let z : BlockingTime = found.0 in
    let near : IsNear rest x y z = found.1 in
    let after = near.after in
    let upto = near.upto in
    ⊎_elim
    (λ (same : a.section ≡ x.section). ⊎_elim
    (λ (behind : x.begin < a.begin). ⊎_elim
    (λ (before : a.begin < z.begin). (
      a,
      record {
        here = at_head a rest a refl;
        section = same;
        after = behind;
        upto = omega arith;
        first = λ w has own. ⊎_elim
            (λ (is : a ≡ w). let e : a.begin ≡ w.begin = ap (λ (s : BlockingTime). s.begin) is in inr (omega arith))
            (λ (later : Contains rest w). ⊎_elim (λ (low : w.begin ≤ x.begin). inl low) (λ (high : z.begin ≤ w.begin). inr (omega arith)) (near.first w later own))
            (among a rest w has);
      },
    ))
    (λ (most : z.begin ≤ a.begin). (z, passed a rest x y z near (λ own. inr most)))
    (cases_lt a.begin z.begin))
    (λ (low : a.begin ≤ x.begin). (z, passed a rest x y z near (λ own. inl low)))
    (cases_lt x.begin a.begin))
    (λ (other : a.section ≡ x.section → ⊥). (z, passed a rest x y z near (λ own. absurd (other own))))
    (cases_eq a.section x.section)

-- among some blocking times there is the first after one, where there is one at all
near_in : (sub : List BlockingTime) (x y : BlockingTime) → x.section ≡ y.section → x.begin < y.begin → Near (y ∷ sub) x y
near_in [] x y same order = (
  y,
  record {
    here = at_head y [] y refl;
    section = sym same;
    after = order;
    upto = omega arith;
    first = λ w has own. ⊎_elim (λ (is : y ≡ w). let e : y.begin ≡ w.begin = ap (λ (s : BlockingTime). s.begin) is in inr (omega arith)) (λ none. in_none w none) (among y [] w has);
  },
)
near_in (a ∷ rest) x y same order =
    let swap : (z : BlockingTime) → IsNear (a ∷ y ∷ rest) x y z → IsNear (y ∷ a ∷ rest) x y z = λ z near. record {
      here = ⊎_elim
          (λ (is : a ≡ z). in_rest y (a ∷ rest) z (at_head a rest z is))
          (λ (later : Contains (y ∷ rest) z). ⊎_elim (λ (is : y ≡ z). at_head y (a ∷ rest) z is) (λ (more : Contains rest z). in_rest y (a ∷ rest) z (in_rest a rest z more)) (among y rest z later))
          (among a (y ∷ rest) z near.here);
      section = near.section;
      after = near.after;
      upto = near.upto;
      first = λ w has own. near.first w (⊎_elim
          (λ (is : y ≡ w). in_rest a (y ∷ rest) w (at_head y rest w is))
          (λ (later : Contains (a ∷ rest) w). ⊎_elim (λ (is : a ≡ w). at_head a (y ∷ rest) w is) (λ (more : Contains rest w). in_rest a (y ∷ rest) w (in_rest y rest w more)) (among a rest w later))
          (among y (a ∷ rest) w has)) own;
    } in
    let found = nearer a (y ∷ rest) x y (near_in rest x y same order) in
    (found.0, swap found.0 found.1)

-- the next blocking time after one, not after another
next_after :
    (blocks : List BlockingTime) (x y : BlockingTime) → Contains blocks x → Contains blocks y → x.section ≡ y.section → x.begin < y.begin
    → (z : BlockingTime) × (IsNext blocks x z × (z.begin ≤ y.begin))
next_after blocks x y has too same order =
    let found = near_in blocks x y same order in
    let z : BlockingTime = found.0 in
    let near : IsNear (y ∷ blocks) x y z = found.1 in
    let there : Contains blocks z = ⊎_elim (λ (is : y ≡ z). let P : BlockingTime → Type 0 = λ s. Contains blocks s in subst P is too) (λ (h : Contains blocks z). h) (among y blocks z near.here) in
    (z, (record { first = has; second = there; section = sym near.section; order = near.after; none_between = λ w h own. near.first w (in_rest y blocks w h) own }, near.upto))

apart_in :
    (blocks : List BlockingTime) (from : ℕ) (placed : BlockingTime → ℕ) → AreConflictFree blocks → IsAdmissible blocks from placed
    → (fuel : ℕ) (x y : BlockingTime) → Contains blocks x → Contains blocks y → x.section ≡ y.section → x.begin < y.begin
    → y.begin - x.begin ≤ fuel → placed x + duration x ≤ placed y
apart_in blocks from placed apart fits zero x y has too same order enough = absurd (omega arith)
apart_in blocks from placed apart fits (suc fuel) x y has too same order enough =
    let found = next_after blocks x y has too same order in
    let z : BlockingTime = found.0 in
    let next : IsNext blocks x z = found.1.0 in
    let upto : z.begin ≤ y.begin = found.1.1 in
    let step = fits.kept x z next in
    let later = next.order in
    ⊎_elim
    (λ (before : z.begin < y.begin).
    let rest = apart_in blocks from placed apart fits fuel z y next.second too (sym next.section ∙ same) before (omega arith) in
    omega arith)
    (λ (most : y.begin ≤ z.begin).
    let is : z ≡ y = one_begin blocks apart z y next.second too (sym next.section ∙ same) (let e : z.begin ≡ y.begin = omega arith in e) in
    let P : BlockingTime → Type 0 = λ s. placed x + duration x ≤ placed s in
    subst P is step)
    (cases_lt z.begin y.begin)

pub never_overlap :
    (blocks : List BlockingTime) (from : ℕ) (placed : BlockingTime → ℕ) → AreConflictFree blocks → IsAdmissible blocks from placed
    → (x y : BlockingTime) → Contains blocks x → Contains blocks y → x.section ≡ y.section → x.begin < y.begin
    → placed x + duration x ≤ placed y
never_overlap blocks from placed apart fits x y has too same order = apart_in blocks from placed apart fits (y.begin - x.begin) x y has too same order (let e : y.begin - x.begin ≤ y.begin - x.begin = omega arith in e)
