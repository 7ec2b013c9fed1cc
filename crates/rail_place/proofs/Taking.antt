-- Which trains would hold each section, train by train and section by section.
use Rattle.std.proofs.Common.{◌≡◌, ◌↔◌, ℕ, zero, suc, ◌+◌, ◌<◌, ◌≤◌, true, false, cond, eqb, List, [], ◌∷◌, length, get_or, set, map, replicate, Option, Some, None, refl, sym, ap, ◌∙◌, subst, ⊎_elim, arith}
use Rattle.std.proofs.lemmas.Bool.{or_parts, or_cases, cases_lt, cases_eq, cases_Bool, false≢true, eqb-true, eqb-false, eq-eqb, ne_eqb, cond-true, cond-false}
use Rattle.std.proofs.lemmas.List.{get_or-set_same, get_or-set_other, get_or_past, get_or-map, length-set, length-map, length-replicate}
use Rattle.std.proofs.lemmas.Option.{none-some, same_Some}
use Rattle.rail_base.specs.declared.limits.TheConstants.{SECTIONS}
use Rattle.rail_rules.specs.Numbers.{is_in}
use Rattle.rail_rules.specs.Moves.{Moves, stand}
use Rattle.rail_rules.specs.Places.{place_of, holds}
use Rattle.rail_place.specs.declared.barring.PlacesFault.{PlacesFault}
use Rattle.rail_place.specs.declared.barring.PlacesFault.TheVariants.{Overlap, OutOfMemory}
use Rattle.rail_place.specs.declared.holdings.Holding.{Holding}
use Rattle.rail_place.specs.declared.holdings.Holding.TheVariants.{Free, One, Two}
use Rattle.rail_place.specs.Tables.{moves_in, IsTable, MoveLists}
use Rattle.rail_place.specs.PlaceStates.{IsMadeFor}
use Rattle.rail_place.specs.Holdings.{with_train, taken_up, TellsBelow, owner_in, IsShared, IsFirstShared}
use Rattle.rail_place.specs.Overlaps.{IsFault}
use Rattle.rail_place.proofs.Tables.{stand_in_range}
use Rattle.rail_place.proofs.Making.{holder_listed, told_valid, Told}

pub length-taken_up : (hs : List Holding) (xs : List ℕ) (t : ℕ) → length (taken_up hs xs t) ≡ length hs
length-taken_up hs [] t = refl
length-taken_up hs (x ∷ xs) t = length-taken_up (set hs x (with_train (get_or hs x Free) t)) xs t ∙ length-set hs x (with_train (get_or hs x Free) t)

with_train-twice : (h : Holding) (t : ℕ) → with_train (with_train h t) t ≡ with_train h t
with_train-twice Free t = cond-true (eqb t t) (One t) (Two t t) (eq-eqb t t refl)
with_train-twice (One a) t =
    ⊎_elim
    (λ same.
    let one : cond (eqb a t) (One a) (Two a t) ≡ One a = cond-true (eqb a t) (One a) (Two a t) same in
    ap (λ h. with_train h t) one)
    (λ other.
    let two : cond (eqb a t) (One a) (Two a t) ≡ Two a t = cond-false (eqb a t) (One a) (Two a t) other in
    ap (λ h. with_train h t) two ∙ sym two)
    (cases_Bool (eqb a t))
with_train-twice (Two a b) t = refl

pub taken_up-other : (hs : List Holding) (xs : List ℕ) (t x : ℕ) (d : Holding) → is_in x xs ≡ false → get_or (taken_up hs xs t) x d ≡ get_or hs x d
taken_up-other hs [] t x d out = refl
taken_up-other hs (y ∷ ys) t x d out =
    let parts = or_parts (eqb y x) (is_in x ys) out in
    let h : Holding = with_train (get_or hs y Free) t in
    taken_up-other (set hs y h) ys t x d parts.1 ∙ get_or-set_other hs y x h d (λ same. eqb-false y x parts.0 (sym same))

pub taken_up-named : (hs : List Holding) (xs : List ℕ) (t x : ℕ) → is_in x xs ≡ true → x < length hs → get_or (taken_up hs xs t) x Free ≡ with_train (get_or hs x Free) t
taken_up-named hs [] t x is lt = absurd (false≢true is)
taken_up-named hs (y ∷ ys) t x is lt =
    let h : Holding = with_train (get_or hs y Free) t in
    let once : y ≡ x → get_or (set hs y h) x Free ≡ with_train (get_or hs x Free) t = λ same.
    ap (λ i. get_or (set hs i (with_train (get_or hs i Free) t)) x Free) same ∙ get_or-set_same hs x (with_train (get_or hs x Free) t) Free lt in
    ⊎_elim
    (λ later. taken_up-named (set hs y h) ys t x later (omega (arith, length-set hs y h))
    ∙ ⊎_elim
    (λ same. ap (λ k. with_train k t) (once same) ∙ with_train-twice (get_or hs x Free) t)
    (λ other. ap (λ k. with_train k t) (get_or-set_other hs y x h Free (λ e. other (sym e))))
    (cases_eq y x))
    (λ not_later. ⊎_elim
    (λ here. taken_up-other (set hs y h) ys t x Free not_later ∙ once (eqb-true y x here))
    (λ later. absurd (false≢true (sym not_later ∙ later)))
    (or_cases (eqb y x) (is_in x ys) is))
    (cases_Bool (is_in x ys))

tells_same : (plan : Moves) (s : List ℕ) (x n : ℕ) (h : Holding) → holds plan s n x ≡ false → TellsBelow plan s x n h → TellsBelow plan s x (n + 1) h
tells_same plan s x n Free out told = λ u lt.
    ⊎_elim
    (λ below. told u below)
    (λ above. let same : u ≡ n = omega arith in ap (λ v. holds plan s v x) same ∙ out)
    (cases_lt u n)
tells_same plan s x n (One a) out told = (
  omega (arith, told.0),
  told.1,
  λ u lt taken.
      ⊎_elim
      (λ below. told.2 u below taken)
      (λ above. let same : n ≡ u = omega arith in absurd (false≢true (sym out ∙ ap (λ v. holds plan s v x) same ∙ taken)))
      (cases_lt u n),
)
tells_same plan s x n (Two a b) out told = (told.0, omega (arith, told.1), told.2, told.3, told.4)

tells_more : (plan : Moves) (s : List ℕ) (x n : ℕ) (h : Holding) → holds plan s n x ≡ true → TellsBelow plan s x n h → TellsBelow plan s x (n + 1) (with_train h n)
tells_more plan s x n Free is told = (
  omega arith,
  is,
  λ u lt taken.
      ⊎_elim
      (λ below. absurd (false≢true (sym (told u below) ∙ taken)))
      (λ above. let same : u ≡ n = omega arith in same)
      (cases_lt u n),
)
tells_more plan s x n (One a) is told =
    let below : a < n = told.0 in
    let two : cond (eqb a n) (One a) (Two a n) ≡ Two a n = cond-false (eqb a n) (One a) (Two a n) (ne_eqb a n (λ e. absurd (omega (arith, e, below)))) in
    let P : Holding → Type 0 = λ h. TellsBelow plan s x (n + 1) h in
    let lt : n < n + 1 = omega arith in
    let result : TellsBelow plan s x (n + 1) (Two a n) = (below, lt, told.1, is, told.2) in
    subst P (sym two) result
tells_more plan s x n (Two a b) is told = (told.0, omega (arith, told.1), told.2, told.3, told.4)

-- one train more, on all the sections on which it would stand
pub tells_on : (plan : Moves) (s : List ℕ) (hs : List Holding) (x n : ℕ) (xs : List ℕ) → x < length hs → xs ≡ stand plan n (place_of s n) → TellsBelow plan s x n (get_or hs x Free) → TellsBelow plan s x (n + 1) (get_or (taken_up hs xs n) x Free)
tells_on plan s hs x n xs lt at told =
    let P : Holding → Type 0 = λ h. TellsBelow plan s x (n + 1) h in
    ⊎_elim
    (λ is.
    let taken : holds plan s n x ≡ true = ap (is_in x) (sym at) ∙ is in
    subst P (sym (taken_up-named hs xs n x is lt)) (tells_more plan s x n (get_or hs x Free) taken told))
    (λ out.
    let not_taken : holds plan s n x ≡ false = ap (is_in x) (sym at) ∙ out in
    subst P (sym (taken_up-other hs xs n x Free out)) (tells_same plan s x n (get_or hs x Free) not_taken told))
    (cases_Bool (is_in x xs))

-- of all trains: a section that no two hold has this owner
owner_told : (plan : Moves) (s : List ℕ) (x u : ℕ) (h : Holding) → TellsBelow plan s x (length s) h → (IsShared h → ⊥) → (owner_in h ≡ Some u) ↔ (holds plan s u x ≡ true)
owner_told plan s x u Free told single = (λ e. absurd (none-some u e), λ taken. absurd (false≢true (sym (told u (holder_listed plan s u x taken)) ∙ taken)))
owner_told plan s x u (One a) told single = (
  λ e. ap (λ v. holds plan s v x) (sym (same_Some a u e)) ∙ told.1,
  λ taken. ap (λ v. Some v) (sym (told.2 u (holder_listed plan s u x taken) taken)),
)
owner_told plan s x u (Two a b) told single = absurd (single tt)

-- so the owners tell the holders
pub owners_told : (table : List MoveLists) (s : List ℕ) (hs : List Holding) (owners : List (Option ℕ))
    → IsTable table → length s ≡ length table → length hs ≡ SECTIONS → owners ≡ map owner_in hs
    → ((x : ℕ) → x < SECTIONS → TellsBelow (moves_in table) s x (length s) (get_or hs x Free))
    → ((x : ℕ) → x < length hs → IsShared (get_or hs x Free) → ⊥) → Told (moves_in table) s owners
owners_told table s hs owners h long room at told single =
    λ x u.
    ⊎_elim
    (λ lt.
    let read : get_or owners x None ≡ owner_in (get_or hs x Free) = ap (λ o. get_or o x None) at ∙ get_or-map owner_in hs x Free None lt in
    let both = owner_told (moves_in table) s x u (get_or hs x Free) (told x (omega (arith, room))) (single x lt) in
    (λ e. both.0 (sym read ∙ e), λ taken. read ∙ both.1 taken))
    (λ past.
    let none : get_or owners x None ≡ None = get_or_past owners x None (omega (arith, ap length at, length-map hs owner_in)) in (
      λ e. absurd (none-some u (sym none ∙ e)),
      λ taken. absurd (omega (arith, room, stand_in_range table u (place_of s u) x h (omega (arith, long, holder_listed (moves_in table) s u x taken)) taken)),
    ))
    (cases_lt x (length hs))

pub made_new : (table : List MoveLists) (s : List ℕ) (hs : List Holding) (owners : List (Option ℕ))
    → IsTable table → length s ≡ length table
    → ((t : ℕ) → t < length table → place_of s t ≤ (moves_in table).moves t) → length hs ≡ SECTIONS
    → owners ≡ map owner_in hs
    → ((x : ℕ) → x < SECTIONS → TellsBelow (moves_in table) s x (length s) (get_or hs x Free))
    → ((x : ℕ) → x < length hs → IsShared (get_or hs x Free) → ⊥)
    → IsMadeFor table (record { positions = s; owners = owners; played = 0 })
made_new table s hs owners h long within room at told single =
    let all = owners_told table s hs owners h long room at told single in
    record {
      moves = h;
      valid = told_valid (moves_in table) s owners long (λ t lt. within t (omega (arith, long))) all;
      room = ap length at ∙ length-map hs owner_in ∙ room;
      counted = omega arith;
      told = all;
    }

nothing_else : {A : Type 0} (a : A) (n i : ℕ) → get_or (replicate n a) i a ≡ a
nothing_else a zero i = refl
nothing_else a (suc n) zero = refl
nothing_else a (suc n) (suc i) = nothing_else a n i

-- where every train is at place 0, nobody holds a section
holds_nothing : (plan : Moves) (n u x : ℕ) → holds plan (replicate n 0) u x ≡ false
holds_nothing plan n u x = ap (λ m. is_in x (stand plan u m)) (nothing_else {A = ℕ} 0 n u)

pub made_outside : (table : List MoveLists) → IsTable table → IsMadeFor table (record { positions = replicate (length table) 0; owners = replicate SECTIONS None; played = 0 })
made_outside table h =
    let n = length table in
    let all : (x u : ℕ) → (get_or (replicate SECTIONS None) x None ≡ Some u) ↔ (holds (moves_in table) (replicate n 0) u x ≡ true) = λ x u.
    ((λ owner. absurd (none-some u (sym (nothing_else {A = Option ℕ} None SECTIONS x) ∙ owner))), (λ taken. absurd (false≢true (sym (holds_nothing (moves_in table) n u x) ∙ taken)))) in
    record {
      moves = h;
      valid = told_valid (moves_in table) (replicate n 0) (replicate SECTIONS None) (length-replicate {A = ℕ} n 0) (λ t lt. rw (nothing_else {A = ℕ} 0 n t) omega arith) all;
      room = length-replicate {A = Option ℕ} SECTIONS None;
      counted = omega arith;
      told = all;
    }

-- where no two trains hold a section, those that hold it are one
single_holder : (plan : Moves) (s : List ℕ) (x t u : ℕ) (h : Holding) → TellsBelow plan s x (length s) h → (IsShared h → ⊥) → holds plan s t x ≡ true → holds plan s u x ≡ true → t ≡ u
single_holder plan s x t u h told single a b = same_Some t u (sym ((owner_told plan s x t h told single).1 a) ∙ (owner_told plan s x u h told single).1 b)

-- the fault that is found is the overlap
pub fault_told : (plan : Moves) (s : List ℕ) (hs : List Holding) (fault : PlacesFault) → length hs ≡ SECTIONS → ((x : ℕ) → x < SECTIONS → TellsBelow plan s x (length s) (get_or hs x Free)) → IsFirstShared hs fault → IsFault plan s fault
fault_told plan s hs OutOfMemory room told first = tt
fault_told plan s hs (Overlap x a b) room told first =
    let P : Holding → Type 0 = λ h. TellsBelow plan s x (length s) h in
    let here : TellsBelow plan s x (length s) (Two a b) = subst P first.1 (told x (omega (arith, room, first.0))) in
    record {
      ordered = here.0;
      first_holds = here.2;
      second_holds = here.3;
      least_trains = here.4;
      least_section = λ y t u lt. single_holder plan s y t u (get_or hs y Free) (told y (omega (arith, room, first.0))) (first.2 y lt);
    }
