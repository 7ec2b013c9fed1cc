-- The gaps between the blocking times that follow each other in order are those between neighbouring ones.
use Rattle.std.proofs.Common.{◌≡◌, ◌≢◌, ◌-◌, ◌<◌, ◌≤◌, ◌⊎◌, not, ◌||◌, ◌==◌, List, [], ◌∷◌, inl, inr, refl, sym, ap, ◌∙◌, arith, ⊎_elim, subst, Some, None}
use Rattle.std.specs.List.{Contains}
use Rattle.std.proofs.lemmas.Bool.{cases_eq, eq-eqb, ne_eqb, not_from_true, or_from, cond-true, cond-false, not_from_false, or_left, or_right}
use Rattle.rail_capacity.specs.declared.blocking_times.BlockingTime.{BlockingTime}
use Rattle.rail_capacity.specs.declared.gaps.Gap.{Gap}
use Rattle.rail_capacity.specs.BlockingTimes.{AreConflictFree}
use Rattle.rail_capacity.specs.Placings.{IsNext}
use Rattle.rail_capacity.specs.Gaps.{gap_between, gaps_in, IsBetween, IsReal}
use Rattle.rail_capacity.proofs.Members.{among, at_head, in_rest, in_none}
use Rattle.rail_capacity.proofs.Order.{InOrder, IsRising, rising_far, begins_in_order, sections_in_order}

-- the gap between two blocking times of one section and two trains
abbrev the_gap : BlockingTime → BlockingTime → Gap
the_gap a b = record { before = a.train; after = b.train; section = a.section; room = b.begin - a.«end» }

some_gap :
    (a b : BlockingTime) → a.section ≡ b.section → a.train ≢ b.train
    → gap_between a b ≡ Some (record { before = a.train; after = b.train; section = a.section; room = b.begin - a.«end» })
some_gap a b same differ =
    cond-false (not (a.section == b.section) || a.train == b.train) None (Some (record { before = a.train; after = b.train; section = a.section; room = b.begin - a.«end» }))
    (or_from (not (a.section == b.section)) (a.train == b.train) (not_from_true (a.section == b.section) (eq-eqb a.section b.section same)) (ne_eqb a.train b.train differ))

no_gap_apart : (a b : BlockingTime) → a.section ≢ b.section → gap_between a b ≡ None
no_gap_apart a b differ =
    cond-true (not (a.section == b.section) || a.train == b.train) None (Some (record { before = a.train; after = b.train; section = a.section; room = b.begin - a.«end» }))
    (or_left (not (a.section == b.section)) (a.train == b.train) (not_from_false (a.section == b.section) (ne_eqb a.section b.section differ)))

no_gap_alone : (a b : BlockingTime) → a.train ≡ b.train → gap_between a b ≡ None
no_gap_alone a b same =
    cond-true (not (a.section == b.section) || a.train == b.train) None (Some (record { before = a.train; after = b.train; section = a.section; room = b.begin - a.«end» }))
    (or_right (not (a.section == b.section)) (a.train == b.train) (eq-eqb a.train b.train same))

-- the gaps of a list with one blocking time more in front
with_gap :
    (a b : BlockingTime) (rest : List BlockingTime) (gap : Gap) → gap_between a b ≡ Some gap
    → gaps_in (a ∷ b ∷ rest) ≡ gap ∷ gaps_in (b ∷ rest)
with_gap a b rest gap is = rw is refl

without_gap : (a b : BlockingTime) (rest : List BlockingTime) → gap_between a b ≡ None → gaps_in (a ∷ b ∷ rest) ≡ gaps_in (b ∷ rest)
without_gap a b rest is = rw is refl

later_gap : (a b : BlockingTime) (rest : List BlockingTime) (gap : Gap) → Contains (gaps_in (b ∷ rest)) gap → Contains (gaps_in (a ∷ b ∷ rest)) gap
later_gap a b rest gap has =
    let P : List Gap → Type 0 = λ gaps. Contains gaps gap in
    ⊎_elim
    (λ (same : a.section ≡ b.section). ⊎_elim
    (λ (alone : a.train ≡ b.train). subst P (sym (without_gap a b rest (no_gap_alone a b alone))) has)
    (λ (differ : a.train ≡ b.train → ⊥). subst P (sym (with_gap a b rest _ (some_gap a b same differ))) (in_rest _ _ gap has))
    (cases_eq a.train b.train))
    (λ (other : a.section ≡ b.section → ⊥). subst P (sym (without_gap a b rest (no_gap_apart a b other))) has)
    (cases_eq a.section b.section)

-- two blocking times of one section that begin at one instant are one
pub one_begin :
    (blocks : List BlockingTime) → AreConflictFree blocks → (x y : BlockingTime) → Contains blocks x → Contains blocks y
    → x.section ≡ y.section → x.begin ≡ y.begin → x ≡ y
one_begin blocks apart x y has too section begin =
    let long = apart.positive x has in
    let wide = apart.positive y too in
    ⊎_elim (λ (same : x ≡ y). same)
    (λ rest. ⊎_elim (λ (h : x.«end» ≤ y.begin). absurd (omega arith)) (λ (h : y.«end» ≤ x.begin). absurd (omega arith)) rest)
    (apart.apart x y has too section)

-- of two blocking times of one section, the one that begins first ends before the other begins
pub ends_before :
    (blocks : List BlockingTime) → AreConflictFree blocks → (x y : BlockingTime) → Contains blocks x → Contains blocks y
    → x.section ≡ y.section → x.begin < y.begin → x.«end» ≤ y.begin
ends_before blocks apart x y has too section begin =
    let wide = apart.positive y too in
    ⊎_elim (λ (same : x ≡ y). let e : x.begin ≡ y.begin = ap (λ (s : BlockingTime). s.begin) same in absurd (omega arith))
    (λ rest. ⊎_elim (λ (h : x.«end» ≤ y.begin). h) (λ (h : y.«end» ≤ x.begin). absurd (omega arith)) rest)
    (apart.apart x y has too section)

between :
    (blocks : List BlockingTime) → AreConflictFree blocks → (x y : BlockingTime) → IsNext blocks x y
    → IsBetween (record { before = x.train; after = y.train; section = x.section; room = y.begin - x.«end» }) x y
between blocks apart x y next =
    let ends = ends_before blocks apart x y next.first next.second next.section next.order in
    record { before = refl; after = refl; section = refl; room = omega arith }

abbrev HasGap : List Gap → BlockingTime → BlockingTime → Type 0
HasGap gaps x y = (gap : Gap) × (Contains gaps gap × IsBetween gap x y)

at_front :
    (blocks : List BlockingTime) → AreConflictFree blocks → (a b : BlockingTime) (rest : List BlockingTime) → (x y : BlockingTime)
    → IsNext blocks x y → x.train ≢ y.train → a ≡ x → b ≡ y → HasGap (gaps_in (a ∷ b ∷ rest)) x y
at_front blocks apart a b rest x y next differ front then =
    let P : BlockingTime → BlockingTime → Type 0 = λ s t. HasGap (gaps_in (s ∷ t ∷ rest)) x y in
    let gap : Gap = the_gap x y in
    let Q : List Gap → Type 0 = λ gaps. Contains gaps gap in
    let has = subst Q (sym (with_gap x y rest gap (some_gap x y next.section differ))) (at_head gap (gaps_in (y ∷ rest)) gap refl) in
    let here : P x y = (gap, (has, between blocks apart x y next)) in
    subst (λ (s : BlockingTime). P s b) (sym front) (subst (λ (t : BlockingTime). P x t) (sym then) here)

-- each two neighbouring blocking times of two trains have their gap
pub whole :
    (blocks : List BlockingTime) → AreConflictFree blocks → (sub : List BlockingTime)
    → ((z : BlockingTime) → Contains sub z → Contains blocks z) → IsRising sub → (x y : BlockingTime) → IsNext blocks x y
    → x.train ≢ y.train → Contains sub x → Contains sub y → HasGap (gaps_in sub) x y
whole blocks apart [] in_blocks rising x y next differ has too = in_none x has
whole blocks apart (a ∷ []) in_blocks rising x y next differ has too =
    let order = next.order in
    ⊎_elim
    (λ (is : a ≡ x). ⊎_elim
    (λ (same : a ≡ y).
    let e : a.begin ≡ x.begin = ap (λ (s : BlockingTime). s.begin) is in
    let f : a.begin ≡ y.begin = ap (λ (s : BlockingTime). s.begin) same in
    absurd (omega arith))
    (λ none. in_none y none)
    (among a [] y too))
    (λ none. in_none x none)
    (among a [] x has)
whole blocks apart (a ∷ b ∷ rest) in_blocks rising x y next differ has too =
    let order = next.order in
    let tail : (z : BlockingTime) → Contains (b ∷ rest) z → Contains blocks z = λ z h. in_blocks z (in_rest a (b ∷ rest) z h) in
    let later : Contains (b ∷ rest) x → Contains (b ∷ rest) y → HasGap (gaps_in (a ∷ b ∷ rest)) x y = λ h k.
    let found = whole blocks apart (b ∷ rest) tail rising.1 x y next differ h k in
    (found.0, (later_gap a b rest found.0 found.1.0, found.1.1)) in
    let b_in : Contains blocks b = in_blocks b (in_rest a (b ∷ rest) b (at_head b rest b refl)) in
    ⊎_elim
    (λ (front : a ≡ x). ⊎_elim
    (λ (same : a ≡ y). let e : a.begin ≡ x.begin = ap (λ (s : BlockingTime). s.begin) front in let f : a.begin ≡ y.begin = ap (λ (s : BlockingTime). s.begin) same in absurd (omega arith))
    (λ (k : Contains (b ∷ rest) y).
    let ex : a.begin ≡ x.begin = ap (λ (s : BlockingTime). s.begin) front in
    let sx : a.section ≡ x.section = ap (λ (s : BlockingTime). s.section) front in
    let by : (b ≡ y) ⊎ InOrder b y = ⊎_elim (λ (is : b ≡ y). inl is) (λ (h : Contains rest y). inr (rising_far b rest rising.1 y h)) (among b rest y k) in
    ⊎_elim
    (λ (is : b ≡ y). at_front blocks apart a b rest x y next differ front is)
    (λ (then : InOrder b y).
    let low = sections_in_order a b rising.0 in
    let high = sections_in_order b y then in
    let xy = next.section in
    let sb : b.section ≡ x.section = omega arith in
    let below = begins_in_order b y (sb ∙ next.section) then in
    let above = begins_in_order a b (sx ∙ sym sb) rising.0 in
    ⊎_elim
    (λ (early : b.begin ≤ x.begin). later (at_head b rest x (one_begin blocks apart b x b_in next.first sb (let e : b.begin ≡ x.begin = omega arith in e))) k)
    (λ (late : y.begin ≤ b.begin). at_front blocks apart a b rest x y next differ front (one_begin blocks apart b y b_in next.second (sb ∙ next.section) (let e : b.begin ≡ y.begin = omega arith in e)))
    (next.none_between b b_in sb))
    by)
    (among a (b ∷ rest) y too))
    (λ (h : Contains (b ∷ rest) x). ⊎_elim
    (λ (same : a ≡ y).
    let order_ax = rising_far a (b ∷ rest) rising x h in
    let sy : a.section ≡ y.section = ap (λ (s : BlockingTime). s.section) same in
    let ey : a.begin ≡ y.begin = ap (λ (s : BlockingTime). s.begin) same in
    let low = begins_in_order a x (sy ∙ sym next.section) order_ax in
    absurd (omega arith))
    (λ (k : Contains (b ∷ rest) y). later h k)
    (among a (b ∷ rest) y too))
    (among a (b ∷ rest) x has)

front_real :
    (blocks : List BlockingTime) → AreConflictFree blocks → (a b : BlockingTime) (rest : List BlockingTime)
    → ((z : BlockingTime) → Contains (a ∷ b ∷ rest) z → Contains blocks z)
    → ((z : BlockingTime) → Contains blocks z → Contains (a ∷ b ∷ rest) z ⊎ ((w : BlockingTime) → Contains (a ∷ b ∷ rest) w → InOrder z w))
    → IsRising (a ∷ b ∷ rest) → a.section ≡ b.section → a.train ≢ b.train → IsReal blocks (the_gap a b)
front_real blocks apart a b rest in_blocks from_blocks rising same differ =
    let a_in : Contains blocks a = in_blocks a (at_head a (b ∷ rest) a refl) in
    let b_in : Contains blocks b = in_blocks b (in_rest a (b ∷ rest) b (at_head b rest b refl)) in
    let order : a.begin < b.begin = ⊎_elim
    (λ (is : a.begin ≡ b.begin). absurd (differ (ap (λ (s : BlockingTime). s.train) (one_begin blocks apart a b a_in b_in same is))))
    (λ (not_so : a.begin ≡ b.begin → ⊥). let low = begins_in_order a b same rising.0 in omega arith)
    (cases_eq a.begin b.begin) in
    let next : IsNext blocks a b = record {
      first = a_in;
      second = b_in;
      section = same;
      order = order;
      none_between = λ z has section. ⊎_elim
          (λ (here : Contains (a ∷ b ∷ rest) z). ⊎_elim
          (λ (is : a ≡ z). let e : a.begin ≡ z.begin = ap (λ (s : BlockingTime). s.begin) is in inl (omega arith))
          (λ (h : Contains (b ∷ rest) z). ⊎_elim
          (λ (is : b ≡ z). let e : b.begin ≡ z.begin = ap (λ (s : BlockingTime). s.begin) is in inr (omega arith))
          (λ (k : Contains rest z). inr (begins_in_order b z (sym same ∙ sym section) (rising_far b rest rising.1 z k)))
          (among b rest z h))
          (among a (b ∷ rest) z here))
          (λ (before : (w : BlockingTime) → Contains (a ∷ b ∷ rest) w → InOrder z w). inl (begins_in_order z a section (before a (at_head a (b ∷ rest) a refl))))
          (from_blocks z has);
    } in
    (a, (b, (next, (between blocks apart a b next, differ))))

-- each gap stands between neighbouring blocking times of two trains
pub real :
    (blocks : List BlockingTime) → AreConflictFree blocks → (sub : List BlockingTime)
    → ((z : BlockingTime) → Contains sub z → Contains blocks z)
    → ((z : BlockingTime) → Contains blocks z → Contains sub z ⊎ ((w : BlockingTime) → Contains sub w → InOrder z w)) → IsRising sub
    → (gap : Gap) → Contains (gaps_in sub) gap → IsReal blocks gap
real blocks apart [] in_blocks from_blocks rising gap has = in_none gap has
real blocks apart (a ∷ []) in_blocks from_blocks rising gap has = in_none gap has
real blocks apart (a ∷ b ∷ rest) in_blocks from_blocks rising gap has =
    let P : List Gap → Type 0 = λ gaps. Contains gaps gap in
    let later : Contains (gaps_in (b ∷ rest)) gap → IsReal blocks gap = λ h. real blocks apart (b ∷ rest)
    (λ z k. in_blocks z (in_rest a (b ∷ rest) z k))
    (λ z k. ⊎_elim
    (λ (here : Contains (a ∷ b ∷ rest) z). ⊎_elim
    (λ (is : a ≡ z). inr (λ w m. let Q : BlockingTime → Type 0 = λ s. InOrder s w in subst Q is (rising_far a (b ∷ rest) rising w m)))
    (λ (m : Contains (b ∷ rest) z). inl m)
    (among a (b ∷ rest) z here))
    (λ (before : (w : BlockingTime) → Contains (a ∷ b ∷ rest) w → InOrder z w). inr (λ w m. before w (in_rest a (b ∷ rest) w m)))
    (from_blocks z k))
    rising.1 gap h in
    ⊎_elim
    (λ (same : a.section ≡ b.section). ⊎_elim
    (λ (alone : a.train ≡ b.train). later (subst P (without_gap a b rest (no_gap_alone a b alone)) has))
    (λ (differ : a.train ≡ b.train → ⊥). ⊎_elim
    (λ (is : the_gap a b ≡ gap). let Q : Gap → Type 0 = λ g. IsReal blocks g in subst Q is (front_real blocks apart a b rest in_blocks from_blocks rising same differ))
    (λ (h : Contains (gaps_in (b ∷ rest)) gap). later h)
    (among (the_gap a b) (gaps_in (b ∷ rest)) gap (subst P (with_gap a b rest (the_gap a b) (some_gap a b same differ)) has)))
    (cases_eq a.train b.train))
    (λ (other : a.section ≡ b.section → ⊥). later (subst P (without_gap a b rest (no_gap_apart a b other)) has))
    (cases_eq a.section b.section)
