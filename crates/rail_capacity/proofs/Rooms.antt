-- The first train, the last ends and the room behind them, one blocking time after another.
use Rattle.std.proofs.Common.{◌≡◌, ◌≢◌, ℕ, ◌+◌, ◌-◌, ◌<◌, ◌≤◌, ◌⊎◌, length, max, cond, Option, Some, None, MatchOption, true, false, ◌&&◌, ◌==◌, nat_lt, List, [], ◌∷◌, ◌++◌, get_or, set, refl, sym, ap, ◌∙◌, subst, arith, inl, inr, ⊎_elim}
use Rattle.std.specs.List.{Contains}
use Rattle.std.specs.Option.{option_map_or}
use Rattle.std.proofs.lemmas.Bool.{cond_both, cases_eq, cases_lt, or_cases, or_parts, and_parts, and_cases, ltb-true, ltb-false, eqb-true, eqb-false}
use Rattle.std.proofs.lemmas.List.{length-set, get_or-set_same, get_or-set_other}
use Rattle.std.proofs.lemmas.List.Elements.{Contains-push, Contains-push_cases, Contains-append_left}
use Rattle.rail_capacity.specs.declared.blocking_times.BlockingTime.{BlockingTime}
use Rattle.rail_capacity.specs.Ends.{AreEnds, IsRoom, with_end, precedes}
use Rattle.rail_capacity.specs.Occupancy.{IsFirst, IsFirstBlock, IsOccupancy}
use Rattle.rail_capacity.proofs.Members.{among, at_head, in_none}

abbrev Comes : BlockingTime → BlockingTime → Type 0
Comes block x = (block.begin < x.begin) ⊎ ((block.begin ≡ x.begin) × (block.train ≤ x.train))

comes_itself : (block x : BlockingTime) → block ≡ x → Comes block x
comes_itself block x same = let P : BlockingTime → Type 0 = λ s. Comes block s in subst P same (inr (refl, omega arith))

comes-trans : (a b c : BlockingTime) → Comes a b → Comes b c → Comes a c
comes-trans a b c one two = ⊎_elim
    (λ (low : a.begin < b.begin). ⊎_elim (λ (more : b.begin < c.begin). inl (omega arith)) (λ same. let s : b.begin ≡ c.begin = same.0 in inl (omega arith)) two)
    (λ tied. let t : a.begin ≡ b.begin = tied.0 in let u : a.train ≤ b.train = tied.1 in ⊎_elim
    (λ (more : b.begin < c.begin). inl (omega arith))
    (λ same. let s : b.begin ≡ c.begin = same.0 in let v : b.train ≤ c.train = same.1 in inr ((let e : a.begin ≡ c.begin = omega arith in e), (let e : a.train ≤ c.train = omega arith in e)))
    two)
    one

comes : (a b : BlockingTime) → precedes a b ≡ true → Comes a b
comes a b h = ⊎_elim
    (λ (low : nat_lt a.begin b.begin ≡ true). inl (ltb-true a.begin b.begin low))
    (λ (tied : (a.begin == b.begin) && nat_lt a.train b.train ≡ true). let parts = and_parts (a.begin == b.begin) (nat_lt a.train b.train) tied in
    let less = ltb-true a.train b.train parts.1 in inr (eqb-true a.begin b.begin parts.0, omega arith))
    (or_cases (nat_lt a.begin b.begin) ((a.begin == b.begin) && nat_lt a.train b.train) h)

comes_not : (a b : BlockingTime) → precedes a b ≡ false → Comes b a
comes_not a b h =
    let parts = or_parts (nat_lt a.begin b.begin) ((a.begin == b.begin) && nat_lt a.train b.train) h in
    let high : b.begin ≤ a.begin = ltb-false a.begin b.begin parts.0 in
    ⊎_elim
    (λ (other : (a.begin == b.begin) ≡ false). let differ = eqb-false a.begin b.begin other in inl (⊎_elim
    (λ (low : b.begin < a.begin). low)
    (λ (most : a.begin ≤ b.begin). absurd (differ (let e : a.begin ≡ b.begin = omega arith in e)))
    (cases_lt b.begin a.begin)))
    (λ (more : nat_lt a.train b.train ≡ false). ⊎_elim
    (λ (low : b.begin < a.begin). inl low)
    (λ (most : a.begin ≤ b.begin). inr ((let e : b.begin ≡ a.begin = omega arith in e), ltb-false a.train b.train more))
    (cases_lt b.begin a.begin))
    (and_cases (a.begin == b.begin) (nat_lt a.train b.train) parts.1)

pub takes_any : (block : BlockingTime) → IsFirstBlock (block ∷ []) block
takes_any block = record {
  taken = at_head block [] block refl;
  first = λ x has. ⊎_elim (λ (same : block ≡ x). comes_itself block x same) (λ none. in_none x none) (among block [] x has);
}

pub takes_first :
    (done : List BlockingTime) (block old : BlockingTime) → IsFirstBlock done old → precedes block old ≡ true
    → IsFirstBlock (done ++ block ∷ []) block
takes_first done block old is before = record {
  taken = Contains-push done block;
  first = λ x has. ⊎_elim
      (λ (there : Contains done x). comes-trans block old x (comes block old before) (is.first x there))
      (λ (same : block ≡ x). comes_itself block x same)
      (Contains-push_cases done block x has);
}

pub keeps_first :
    (done : List BlockingTime) (block old : BlockingTime) → IsFirstBlock done old → precedes block old ≡ false
    → IsFirstBlock (done ++ block ∷ []) old
keeps_first done block old is behind = record {
  taken = Contains-append_left done (block ∷ []) old is.taken;
  first = λ x has. ⊎_elim
      (λ (there : Contains done x). is.first x there)
      (λ (same : block ≡ x). let P : BlockingTime → Type 0 = λ s. Comes old s in subst P same (comes_not block old behind))
      (Contains-push_cases done block x has);
}

pub ends_more :
    (done : List BlockingTime) (ends : List ℕ) (block : BlockingTime) → AreEnds done ends → block.section < length ends
    → AreEnds (done ++ block ∷ []) (with_end ends block)
ends_more done ends block are within =
    let s : ℕ = block.section in
    let v : ℕ = max block.«end» (get_or ends s 0) in
    let new : List ℕ = set ends s v in
    let at_s : get_or new s 0 ≡ v = get_or-set_same ends s v 0 within in
    let at : (t : ℕ) → t ≢ s → get_or new t 0 ≡ get_or ends t 0 = λ t other. get_or-set_other ends s t v 0 other in
    let grows : (t : ℕ) → get_or ends t 0 ≤ get_or new t 0 = λ t. ⊎_elim
    (λ (is : t ≡ s). let P : ℕ → Type 0 = λ k. get_or ends k 0 ≤ get_or new k 0 in subst P (sym is) (let e = at_s in omega arith))
    (λ (other : t ≡ s → ⊥). let e = at t other in omega arith)
    (cases_eq t s) in
    let here : Contains (done ++ block ∷ []) block = Contains-push done block in
    let Met : ℕ → ℕ → Type 0 = λ t end. (end ≡ 0) ⊎ ((x : BlockingTime) × Contains (done ++ block ∷ []) x × (x.section ≡ t) × (x.«end» ≡ end)) in
    let old_met : (t : ℕ) → Met t (get_or ends t 0) = λ t. ⊎_elim
    (λ (none : get_or ends t 0 ≡ 0). inl none)
    (λ some. inr (some.0, Contains-append_left done (block ∷ []) some.0 some.1, some.2, some.3))
    (are.met t) in
    record {
      above = λ x has. ⊎_elim
          (λ (old : Contains done x). let low = are.above x old in let more = grows x.section in omega arith)
          (λ (same : block ≡ x). let P : BlockingTime → Type 0 = λ y. y.«end» ≤ get_or new y.section 0 in subst P same (let e = at_s in omega arith))
          (Contains-push_cases done block x has);
      met = λ t. ⊎_elim
          (λ (is : t ≡ s).
          let P : ℕ → Type 0 = λ k. Met k (get_or new k 0) in
          let Q : ℕ → Type 0 = λ n. Met s n in
          subst P (sym is) (subst Q (sym at_s) (⊎_elim
          (λ (low : get_or ends s 0 < block.«end»). let e : v ≡ block.«end» = omega arith in subst Q (sym e) (inr (block, here, refl, refl)))
          (λ (high : block.«end» ≤ get_or ends s 0). let e : v ≡ get_or ends s 0 = omega arith in subst Q (sym e) (old_met s))
          (cases_lt (get_or ends s 0) block.«end»))))
          (λ (other : t ≡ s → ⊥). let Q : ℕ → Type 0 = λ n. Met t n in subst Q (sym (at t other)) (old_met t))
          (cases_eq t s);
    }

pub length-with_end : (ends : List ℕ) (block : BlockingTime) → length (with_end ends block) ≡ length ends
length-with_end ends block = length-set ends block.section _

pub room_more :
    (done : List BlockingTime) (ends : List ℕ) (train room : ℕ) (block : BlockingTime) → IsRoom done ends train room → block.train ≡ train
    → IsRoom (done ++ block ∷ []) ends train (max room (get_or ends block.section 0 - block.begin))
room_more done ends train room block is of =
    let new : ℕ = max room (get_or ends block.section 0 - block.begin) in
    record {
      enough = λ x has own. ⊎_elim
          (λ (old : Contains done x). let low = is.enough x old own in omega arith)
          (λ (same : block ≡ x). let P : BlockingTime → Type 0 = λ y. get_or ends y.section 0 ≤ y.begin + new in subst P same (omega arith))
          (Contains-push_cases done block x has);
      met =
          let Met : ℕ → Type 0 = λ n. (n ≡ 0) ⊎ ((x : BlockingTime) × Contains (done ++ block ∷ []) x × (x.train ≡ train) × (x.begin + n ≡ get_or ends x.section 0)) in
          ⊎_elim
          (λ (low : room < get_or ends block.section 0 - block.begin).
          let e : new ≡ get_or ends block.section 0 - block.begin = omega arith in
          let f : block.begin + (get_or ends block.section 0 - block.begin) ≡ get_or ends block.section 0 = omega arith in
          subst Met (sym e) (inr (block, Contains-push done block, of, f)))
          (λ (high : get_or ends block.section 0 - block.begin ≤ room). let e : new ≡ room = omega arith in subst Met (sym e) (⊎_elim
          (λ (none : room ≡ 0). inl none)
          (λ some. inr (some.0, Contains-append_left done (block ∷ []) some.0 some.1, some.2, some.3))
          is.met))
          (cases_lt room (get_or ends block.section 0 - block.begin));
    }

pub room_same :
    (done : List BlockingTime) (ends : List ℕ) (train room : ℕ) (block : BlockingTime) → IsRoom done ends train room → block.train ≢ train
    → IsRoom (done ++ block ∷ []) ends train room
room_same done ends train room block is other = record {
  enough = λ x has own. ⊎_elim
      (λ (old : Contains done x). is.enough x old own)
      (λ (same : block ≡ x). absurd (other (ap (λ (y : BlockingTime). y.train) same ∙ own)))
      (Contains-push_cases done block x has);
  met = ⊎_elim
      (λ (none : room ≡ 0). inl none)
      (λ some. inr (some.0, Contains-append_left done (block ∷ []) some.0 some.1, some.2, some.3))
      is.met;
}

-- there is one first train
first_is_one : (blocks : List BlockingTime) (a b : ℕ) → IsFirst blocks a → IsFirst blocks b → a ≡ b
first_is_one blocks a b one two =
    let e = one.train_is in
    let f = two.train_is in
    ⊎_elim
    (λ (low : one.block.begin < two.block.begin). ⊎_elim
    (λ (less : two.block.begin < one.block.begin). absurd (omega arith))
    (λ same. let s : two.block.begin ≡ one.block.begin = same.0 in absurd (omega arith))
    (two.is.first one.block one.is.taken))
    (λ same. ⊎_elim
    (λ (less : two.block.begin < one.block.begin). let s : one.block.begin ≡ two.block.begin = same.0 in absurd (omega arith))
    (λ too. let s : a ≤ two.block.train = (let w : one.block.train ≤ two.block.train = same.1 in omega arith) in let t : b ≤ one.block.train = (let w : two.block.train ≤ one.block.train = too.1 in omega arith) in omega arith)
    (two.is.first one.block one.is.taken))
    (one.is.first two.block two.is.taken)

pub occupied :
    (blocks : List BlockingTime) (ends : List ℕ) (train room : ℕ) → IsFirst blocks train → AreEnds blocks ends
    → IsRoom blocks ends train room → IsOccupancy blocks room
occupied blocks ends train room first are is =
    let none : blocks ≡ [] → room ≡ 0 = λ e. let P : List BlockingTime → Type 0 = λ xs. Contains xs first.block in in_none first.block (subst P e first.is.taken) in
    record {
      empty = none;
      room = λ t other x y has too own same.
          let e : t ≡ train = first_is_one blocks t train other first in
          let low = are.above x has in
          let high = is.enough y too (own ∙ e) in
          let s : get_or ends x.section 0 ≡ get_or ends y.section 0 = ap (λ n. get_or ends n 0) same in
          omega arith;
      least = λ t other later fits.
          let e : t ≡ train = first_is_one blocks t train other first in
          ⊎_elim
          (λ (zero_is : room ≡ 0). let z = zero_is in omega arith)
          (λ some.
          let y : BlockingTime = some.0 in
          let begins : y.begin + room ≡ get_or ends y.section 0 = some.3 in
          ⊎_elim
          (λ (free : get_or ends y.section 0 ≡ 0). let f = free in omega arith)
          (λ there.
          let x : BlockingTime = there.0 in
          let ends_at : x.«end» ≡ get_or ends y.section 0 = there.3 in
          let low = fits x y there.1 some.1 (some.2 ∙ sym e) there.2 in
          omega arith)
          (are.met y.section))
          is.met;
    }

-- the room with one more blocking time, of the train or not
pub room_step :
    (done : List BlockingTime) (ends : List ℕ) (train room : ℕ) (block : BlockingTime) → IsRoom done ends train room
    → IsRoom (done ++ block ∷ []) ends train (cond (block.train == train) (max room (get_or ends block.section 0 - block.begin)) room)
room_step done ends train room block is =
    cond_both (block.train == train) (max room (get_or ends block.section 0 - block.begin)) room (λ n. IsRoom (done ++ block ∷ []) ends train n)
    (λ own. room_more done ends train room block is (eqb-true block.train train own))
    (λ other. room_same done ends train room block is (eqb-false block.train train other))

-- the first with one more blocking time, where there was one or none
pub first_step :
    (done : List BlockingTime) (first : Option BlockingTime) (block : BlockingTime) (k : ℕ)
    → MatchOption first (k ≡ 0) (λ other. IsFirstBlock done other) → (k ≡ 0 → done ≡ [])
    → IsFirstBlock (done ++ block ∷ []) (option_map_or (λ other. cond (precedes block other) block other) first block)
first_step done None block k is none = let P : List BlockingTime → Type 0 = λ xs. IsFirstBlock (xs ++ block ∷ []) block in subst P (sym (none is)) (takes_any block)
first_step done (Some other) block k is none =
    cond_both (precedes block other) block other (λ s. IsFirstBlock (done ++ block ∷ []) s)
    (λ before. takes_first done block other is before)
    (λ behind. keeps_first done block other is behind)
