-- Where a train's going on frees nobody, nothing is found by safe legs alone.
use Rattle.std.proofs.Common.{◌≡◌, ◌≢◌, ℕ, ◌+◌, ◌<◌, ◌≤◌, Bool, ◌&&◌, not, eqb, ltb, true, false, List, Option, None, Some, length, set, refl, sym, ap, ◌∙◌, subst, ◌*◌, ◌⊎◌, inl, inr, ⊎_elim, arith}
use Rattle.std.proofs.lemmas.Bool.{and_from, and_parts, cases_Bool, cases_eq, cases_lt, eq-eqb, false≢true, not_from_false}
use Rattle.std.proofs.lemmas.List.{get_or-set_same, get_or-set_other, length-set, set-set}
use Rattle.std.proofs.lemmas.Option.{none-some, same_Some}
use Rattle.rail_rules.specs.Numbers.{is_in, sum_below}
use Rattle.rail_rules.specs.Moves.{Moves, is_valid, stand}
use Rattle.rail_rules.specs.Places.{holds, place_of, is_inside, is_legal, is_valid_state, nobody_inside}
use Rattle.rail_rules.specs.Analysis.{Leg, is_leg, is_safe, Finds}
use Rattle.rail_rules.proofs.CallerLemmas.{state_parts}
use Rattle.rail_sets.specs.Counts.{Columns}
use Rattle.rail_sets.specs.Sets.{has}
use Rattle.rail_consequence.specs.Needs.{AreWords, IsCounted, count_of, needs_from, needs_left, one_if}
use Rattle.rail_consequence.specs.Searches.{FindsByNoLegOf, HasNoSafeLeg, HasNoSafeLegOf}
use Rattle.rail_consequence.specs.Stops.{IsSettled, IsStopped, IsUntouched, section_of, stop_of}
use Rattle.rail_consequence.specs.declared.notes.Stop.{Stop}
use Rattle.rail_consequence.specs.declared.notes.Stop.TheVariants.{Unknown, Free, Next, Later}
use Rattle.rail_consequence.specs.Freeing.{AreSeveral, FallsInVain, FreesNobody, HasFalls, HasOther, IsBarred, IsNextStop, IsNotAwaited, IsSharedThen, MayWaitFor}
use Rattle.rail_consequence.specs.Workspace.{IsListing}
use Rattle.rail_consequence.proofs.Clear.{none_from_clear, sum_alone}
use Rattle.rail_consequence.proofs.Counts.{left_entered, one_false, one_few, sum_shift}
use Rattle.rail_consequence.proofs.Falls.{passed_by}
use Rattle.rail_consequence.proofs.SetLemmas.{needs_at}
use Rattle.rail_consequence.proofs.Stopping.{IsPassed, leg_short, stopped_next, stopped_still, stopped_unsafe}
use Rattle.rail_consequence.proofs.Legs.{goes_parts, leg_from, inside_listed, inside_parts, inside_same, nobody_at}
use Rattle.rail_consequence.proofs.Safe.{safe_from_clear, clear_from_safe, found_past_leg}
use Rattle.rail_consequence.proofs.Walks.{found_by_free}

-- two legs of a train, one after the other, are one
pub legs_joined : (plan : Moves) (s : List ℕ) (t p q : ℕ) → is_leg plan s (record { train = t; place = p }) ≡ true → is_leg plan (set s t p) (record { train = t; place = q }) ≡ true → is_leg plan s (record { train = t; place = q }) ≡ true
legs_joined plan s t p q first later =
    let one = goes_parts plan s (record { train = t; place = p }) first in
    let two = goes_parts plan (set s t p) (record { train = t; place = q }) later in
    let at : place_of (set s t p) t ≡ p = get_or-set_same s t p 0 (inside_listed plan s t one.inside) in
    leg_from plan s (record { train = t; place = q }) (record {
      inside = one.inside;
      ahead = omega (arith, one.ahead, two.ahead, at);
      within = two.within;
      legal = λ i from below.
          ⊎_elim
          (λ before. one.legal i from before)
          (λ past. ap (λ r. is_legal plan r t) (sym (set-set s t p i)) ∙ two.legal i (omega (arith, at, past)) below)
          (cases_lt i p);
    })

-- whether a leg of a train is safe is up to the others
own_unsafe : (plan : Moves) (s : List ℕ) (t p q : ℕ) → is_safe plan s (record { train = t; place = q }) ≡ false → is_safe plan (set s t p) (record { train = t; place = q }) ≡ false
own_unsafe plan s t p q unsafe =
    let leg : Leg = record { train = t; place = q } in
    ⊎_elim
    (λ safe.
    let clear = clear_from_safe plan (set s t p) leg safe in
    absurd (false≢true (sym unsafe ∙ safe_from_clear plan s leg (λ u i ne inside from below.
    let same : place_of (set s t p) u ≡ place_of s u = get_or-set_other s t u p 0 ne in
    clear u i ne (inside_same plan s (set s t p) u same inside) (omega (arith, same, from)) below))))
    (λ out. out)
    (cases_Bool (is_safe plan (set s t p) leg))

module _ (plan : Moves) (s : List ℕ) (t p : ℕ) (frees : FreesNobody plan s t p) where
  abbrev next : List ℕ
  next = set s t p

  found_none : ((q : ℕ) → is_leg plan next (record { train = t; place = q }) ≡ true → is_safe plan next (record { train = t; place = q }) ≡ false) → Finds plan 0 next → ⊥
  found_none own found =
      let u : ℕ = frees.other.train in
      let inside : is_inside plan next u ≡ true = inside_same plan s next u (get_or-set_other s t u p 0 frees.other.differs) frees.other.inside in
      let somebody : nobody_inside plan next ≡ false =
      ⊎_elim (λ nobody. absurd (false≢true (sym (nobody_at plan next u nobody) ∙ inside))) (λ out. out) (cases_Bool (nobody_inside plan next)) in
      let none : HasNoSafeLeg plan next = λ leg is.
      ⊎_elim
      (λ same.
      let P : ℕ → Type 0 = λ v. is_leg plan next (record { train = v; place = leg.place }) ≡ true → is_safe plan next (record { train = v; place = leg.place }) ≡ false in
      subst P (sym same) (own leg.place) is)
      (λ ne. frees.none leg.train ne leg.place is)
      (cases_eq leg.train t) in
      let first = found_by_free plan 0 next somebody none found in
      absurd (omega (arith, first.2))

  -- neither after a leg of the train
  pub leg_finds_none : HasNoSafeLeg plan s → is_leg plan s (record { train = t; place = p }) ≡ true → Finds plan 0 next → ⊥
  leg_finds_none none is = found_none (λ q later. own_unsafe plan s t p q (none (record { train = t; place = q }) (legs_joined plan s t p q is later)))

  -- nor with the train out of the way
  pub out_finds_none : is_inside plan s t ≡ true → p ≡ plan.moves t → Finds plan 0 next → ⊥
  out_finds_none was out = found_none (λ q later.
      let goes = goes_parts plan next (record { train = t; place = q }) later in
      absurd (omega (arith, goes.ahead, goes.within, out, get_or-set_same s t p 0 (inside_listed plan s t was))))

-- so none of the train's legs helps
pub no_leg_helps : (plan : Moves) (s : List ℕ) (t k q : ℕ) → k ≡ 0 → FreesNobody plan s t (plan.moves t) → is_leg plan s (record { train = t; place = q }) ≡ true → Finds plan k (set s t q) → ⊥
no_leg_helps plan s t k q zero frees is found =
    let goes = goes_parts plan s (record { train = t; place = q }) is in
    let P : ℕ → Type 0 = λ j. Finds plan j (set s t q) in
    out_finds_none plan s t (plan.moves t) frees goes.inside refl (found_past_leg plan 0 s t q is (subst P zero found))

-- the words have all sections that the train needs
abbrev pub IsWithin : Moves → List ℕ → ℕ → ℕ → Type 0
IsWithin plan s width t = (x : ℕ) → needs_from plan t (place_of s t) x ≡ true → x < 64 * width

-- they have each section that a train needs that has entered
pub needs_few : (plan : Moves) (words u p y : ℕ) → AreWords plan words → u < plan.trains → needs_left plan u p y ≡ true → y < 64 * words
needs_few plan words u p y are known needed =
    let at = needs_at plan u p y (and_parts (ltb 0 p) (needs_from plan u p y) needed).1 in
    are.all u at.0 y known at.1

-- and each that one needs that is inside
pub rest_within : (plan : Moves) (s : List ℕ) (words t : ℕ) → AreWords plan words → is_valid_state plan s ≡ true → is_inside plan s t ≡ true → IsWithin plan s words t
rest_within plan s words t are valid inside = λ x needs.
    let at = needs_at plan t (place_of s t) x needs in
    are.all t at.0 x (omega (arith, inside_listed plan s t inside, (state_parts plan s valid).long)) at.1

-- a stopped train whose section a third one holds has no safe leg once another has gone on
module _ (plan : Moves) (s : List ℕ) (t p u x v : ℕ) (valid : is_valid plan ≡ true) (state : is_valid_state plan s ≡ true) (was : is_inside plan s t ≡ true) (ahead : place_of s t < p)
    (ne : u ≢ t) (stop : IsStopped plan s u x) (holder : holds plan s v x ≡ true) (third : v ≢ t) where
  abbrev then : List ℕ
  then = set s t p

  known : u < length s
  known = inside_listed plan s u stop.inside

  taken : holds plan then v x ≡ true
  taken = ap (λ k. is_in x (stand plan v k)) (get_or-set_other s t v p 0 third) ∙ holder

  -- where its next move needs the section
  pub next_kept : is_in x (plan.claim u (place_of s u)) ≡ true → HasNoSafeLegOf plan then u
  next_kept near = λ q is.
      stopped_unsafe plan then u x q
      (stopped_next plan s t p u valid state was ahead ne x v known stop taken (ap (λ k. is_in x (plan.claim u k)) (get_or-set_other s t u p 0 ne) ∙ near)) is

  -- or where it needs none of the sections that fall to one train
  pub later_kept : (counts : Columns) (width : ℕ) (fell : List ℕ) → IsCounted plan s counts → IsWithin plan s width t → HasFalls plan s counts width t p fell → IsUntouched plan s fell u → HasNoSafeLegOf plan then u
  later_kept counts width fell counted within falls untouched = λ q is.
      let passed : IsPassed plan then t u (place_of s t) = passed_by plan s counts t p u fell counted was ahead
      (λ y before past two.
      falls y (within y before)
      ∙ and_from (needs_from plan t (place_of s t) y && not (needs_from plan t p y)) (eqb (count_of counts y) 2)
      (and_from (needs_from plan t (place_of s t) y) (not (needs_from plan t p y)) before (not_from_false (needs_from plan t p y) past))
      (eq-eqb (count_of counts y) 2 two))
      untouched ne in
      stopped_unsafe plan then u x q (stopped_still plan s t p u valid state was ahead ne passed x v known stop taken) is

-- what is noted of a train is at its next move, or none of the sections that it needs falls to one train, or it has no safe leg
abbrev pub IsWatched : Moves → List ℕ → List Stop → List ℕ → ℕ → ℕ → ℕ → Type 0
IsWatched plan s stops fell t p u = (x : ℕ) → stop_of stops u ≡ Later x → IsUntouched plan s fell u ⊎ HasNoSafeLegOf plan (set s t p) u

-- so a train that waits for a third one has no safe leg
module _ (plan : Moves) (s : List ℕ) (stops : List Stop) (counts : Columns) (width t : ℕ) (valid : is_valid plan ≡ true) (state : is_valid_state plan s ≡ true)
    (counted : IsCounted plan s counts) (settled : IsSettled plan s stops) (within : is_inside plan s t ≡ true → IsWithin plan s width t) where
  waits_on : (fell : List ℕ) (p u x v : ℕ) → is_inside plan s t ≡ true → place_of s t < p → HasFalls plan s counts width t p fell → IsWatched plan s stops fell t p u → u ≢ t → is_inside plan s u ≡ true
      → section_of (stop_of stops u) ≡ Some x → holds plan s v x ≡ true → v ≢ t → HasNoSafeLegOf plan (set s t p) u
  waits_on fell p u x v was ahead falls watched ne inside noted holder third = by (stop_of stops u) refl
    where
      stop : IsStopped plan s u x
      stop = settled.stopped u x inside noted

      by : (n : Stop) → stop_of stops u ≡ n → HasNoSafeLegOf plan (set s t p) u
      by Unknown at = absurd (none-some x (ap section_of (sym at) ∙ noted))
      by Free at = absurd (none-some x (ap section_of (sym at) ∙ noted))
      by (Next y) at =
          let same : y ≡ x = same_Some y x (ap section_of (sym at) ∙ noted) in
          next_kept plan s t p u x v valid state was ahead ne stop holder third (ap (λ z. is_in z (plan.claim u (place_of s u))) (sym same) ∙ settled.next u y inside at)
      by (Later y) at =
          ⊎_elim
          (λ untouched. later_kept plan s t p u x v valid state was ahead ne stop holder third counts width fell counted (within was) falls untouched)
          (λ none. none)
          (watched y at)

  -- no other train has a safe leg where none has that waits for the train or for none, nor any to which a section falls
  pub none_freed : (fell inside : List ℕ) (p : ℕ) → is_inside plan s t ≡ true → place_of s t < p → HasFalls plan s counts width t p fell → IsListing plan s inside
      → ((u : ℕ) → is_in u inside ≡ true → u ≢ t → is_inside plan s u ≡ true → MayWaitFor plan s stops u t → HasNoSafeLegOf plan (set s t p) u)
      → ((u : ℕ) → is_in u inside ≡ true → u ≢ t → IsWatched plan s stops fell t p u)
      → (u : ℕ) → u ≢ t → HasNoSafeLegOf plan (set s t p) u
  none_freed fell inside p was ahead falls listed waits watched u ne = λ q is. stays (inside_same plan (set s t p) s u (sym (get_or-set_other s t u p 0 ne)) (goes_parts plan (set s t p) (record { train = u; place = q }) is).inside) q is
    where
      stays : is_inside plan s u ≡ true → HasNoSafeLegOf plan (set s t p) u
      stays here = by (section_of (stop_of stops u)) refl
        where
          by : (o : Option ℕ) → section_of (stop_of stops u) ≡ o → HasNoSafeLegOf plan (set s t p) u
          by None none = waits u (listed.all u here) ne here (inl none)
          by (Some x) noted =
              let taken = (settled.stopped u x here noted).taken in
              ⊎_elim
              (λ same. waits u (listed.all u here) ne here (inr (x, noted, ap (λ h. holds plan s h x) (sym same) ∙ taken.taken)))
              (λ third. waits_on fell p u x taken.holder was ahead falls (watched u (listed.all u here) ne) ne here noted taken.taken third)
              (cases_eq taken.holder t)

  -- a train that can't make its next move has no leg
  next_no_leg : (p : ℕ) → IsNextStop stops t → is_leg plan s (record { train = t; place = p }) ≡ true → ⊥
  next_no_leg p next is =
      let goes = goes_parts plan s (record { train = t; place = p }) is in
      let stop = settled.stopped t next.0 goes.inside (ap section_of next.1) in
      omega (arith, goes.ahead, leg_short plan s t next.0 (place_of s t) p (omega arith) (settled.next t next.0 goes.inside next.1) stop.taken is)

  -- of several trains inside one is another than this one
  other_of : AreSeveral plan s → HasOther plan s t
  other_of several =
      ⊎_elim
      (λ same. let P : ℕ → Type 0 = λ v. HasOther plan s v in subst P same several.beside)
      (λ ne. record { train = several.one; differs = ne; inside = several.inside })
      (cases_eq several.one t)

  -- no leg helps of a train that no other one awaits, and whose falls are in vain
  pub unmarked_helps_not : (inside : List ℕ) → AreSeveral plan s → IsListing plan s inside
      → ((u : ℕ) → is_in u inside ≡ true → IsNotAwaited plan s stops t u)
      → (is_inside plan s t ≡ true → IsNextStop stops t ⊎ FallsInVain plan s counts width stops inside t (plan.moves t))
      → FindsByNoLegOf plan 0 s t
  unmarked_helps_not inside several listed waits falls = λ q is found.
      let goes = goes_parts plan s (record { train = t; place = q }) is in
      ⊎_elim
      (λ next. next_no_leg q next is)
      (λ (vain : FallsInVain plan s counts width stops inside t (plan.moves t)).
      let frees : FreesNobody plan s t (plan.moves t) = record {
        other = other_of several;
        none = none_freed vain.fell inside (plan.moves t) goes.inside (inside_parts plan s t goes.inside).1 vain.falls listed
            (λ u found ne here may. ⊎_elim (λ next. absurd (next_no_leg q next is)) (λ none. none) (waits u found ne here may))
            (λ u found ne x later. vain.vain u x found ne later);
      } in
      no_leg_helps plan s t 0 q refl frees is found)
      (falls goes.inside)

and_yes : (b : Bool) → (b && true) ≡ b
and_yes true = refl
and_yes false = refl

-- a section that is counted more than once, and does not fall to one train, is shared then
pub shared_then : (plan : Moves) (s : List ℕ) (counts : Columns) (width t p u x : ℕ) (fell : List ℕ) → is_inside plan s t ≡ true → x < 64 * width → HasFalls plan s counts width t p fell → 2 ≤ count_of counts x → has fell x ≡ false → IsSharedThen plan s counts t p u x
shared_then plan s counts width t p u x fell was low falls many stays =
    let gone : Bool = needs_left plan t (place_of s t) x && not (needs_from plan t p x) in
    let same : gone ≡ (needs_from plan t (place_of s t) x && not (needs_from plan t p x)) = ap (λ b. b && not (needs_from plan t p x)) (left_entered plan t (place_of s t) x (inside_parts plan s t was).0) in
    let own = one_few (needs_left plan u (place_of s u) x) in
    ⊎_elim
    (λ more. omega (arith, more, own, one_few gone))
    (λ few.
    let two : count_of counts x ≡ 2 = omega (arith, many, few) in
    ⊎_elim
    (λ is. absurd (false≢true (sym stays ∙ falls x low ∙ and_from (needs_from plan t (place_of s t) x && not (needs_from plan t p x)) (eqb (count_of counts x) 2) (sym same ∙ is) (eq-eqb (count_of counts x) 2 two))))
    (λ out. omega (arith, two, own, one_false gone out))
    (cases_Bool gone))
    (cases_lt 2 (count_of counts x))

-- a leg to where a section is shared then is not safe
pub shared_unsafe : (plan : Moves) (s : List ℕ) (counts : Columns) (t p u q x : ℕ) → t < length s → u < length s → u ≢ t → 0 < p → IsCounted plan s counts → is_in x (stand plan u q) ≡ true
    → IsSharedThen plan s counts t p u x → is_safe plan (set s t p) (record { train = u; place = q }) ≡ false
shared_unsafe plan s counts t p u q x known listed ne low counted is shared =
    ⊎_elim (λ safe. absurd (alone safe)) (λ out. out) (cases_Bool (is_safe plan later leg))
  where
    later : List ℕ
    later = set s t p

    leg : Leg
    leg = record { train = u; place = q }

    f : ℕ → ℕ
    f v = one_if (needs_left plan v (place_of later v) x)

    g : ℕ → ℕ
    g v = one_if (needs_left plan v (place_of s v) x)

    alone : is_safe plan later leg ≡ true → ⊥
    alone safe =
        let none = none_from_clear plan later u (stand plan u q) (clear_from_safe plan later leg safe) in
        let long : length later ≡ length s = length-set s t p in
        let at : place_of later t ≡ p = get_or-set_same s t p 0 known in
        let out : needs_left plan t (place_of later t) x ≡ false = none x t is (omega (arith, long, known)) (λ same. ne (sym same)) in
        let own : f u ≡ g u = ap (λ k. one_if (needs_left plan u k x)) (get_or-set_other s t u p 0 ne) in
        let sum : sum_below f (length later) ≡ f u = sum_alone f (length later) u (omega (arith, long, listed)) (λ v below other. one_false (needs_left plan v (place_of later v) x) (none x v is below other)) in
        let shift : sum_below f (length s) + g t ≡ sum_below g (length s) + f t = sum_shift f g (length s) t (g t) (f t) known (omega arith) (λ v other. ap (λ k. one_if (needs_left plan v k x)) (get_or-set_other s t v p 0 other)) in
        let past : needs_from plan t p x ≡ false = sym (left_entered plan t p x low) ∙ ap (λ k. needs_left plan t k x) (sym at) ∙ out in
        let gone : (needs_left plan t (place_of s t) x && not (needs_from plan t p x)) ≡ needs_left plan t (place_of s t) x =
        ap (λ b. needs_left plan t (place_of s t) x && not b) past ∙ and_yes (needs_left plan t (place_of s t) x) in
        omega (arith, shared, counted x, shift, sum, own, ap (sum_below f) long, one_false (needs_left plan t (place_of later t) x) out, ap one_if gone)

-- a train that is barred behind places to which no leg is safe has no safe leg
pub barred_unsafe : (plan : Moves) (s : List ℕ) (u made : ℕ) → place_of s u ≤ made → IsBarred plan s u made
    → ((q : ℕ) → place_of s u < q → q ≤ made → is_safe plan s (record { train = u; place = q }) ≡ false) → HasNoSafeLegOf plan s u
barred_unsafe plan s u made from bar unsafe = λ q is.
    unsafe q (goes_parts plan s (record { train = u; place = q }) is).ahead (leg_short plan s u bar.section made q from bar.needed bar.taken is)
