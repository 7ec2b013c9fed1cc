-- What a room of slots keeps, and what callers see of it, where a slot comes into use and where it goes.
use Rattle.std.proofs.Common.{◌≡◌, ℕ, zero, suc, ◌+◌, ◌<◌, ◌≤◌, cond, eqb, List, [], ◌∷◌, ◌++◌, length, get_or, set, map, Option, Some, None, IsSome, refl, sym, ap, subst, ◌∙◌, ⊎_elim, append_assoc, arith}
use Rattle.std.proofs.lemmas.Bool.{cases_eq, cases_lt}
use Rattle.std.proofs.lemmas.List.{get_or-set_same, get_or-set_other, get_or_append_left, get_or_push, length-set, length_push}
use Rattle.rail_slots.specs.Links.{walk, walks, lists_of, held, held_with, Links, AllLink, times, all_times, IsLinked, IsSound, taken, put}
use Rattle.rail_slots.proofs.Linked.{shown, at_least, at_place, one_if, none_if, Without, linked_without, linked_with, linked_new, in_room, put_long, changed}

-- each list begins with its own cell
pub record Begins (next : List (Option ℕ)) (cell : ℕ) (list : List ℕ) : Type 0 where
  pub rest : List ℕ
  pub is : list ≡ cell ∷ rest
  pub links : Links next (get_or next cell None) rest

pub begins_one : (next : List (Option ℕ)) (cell : ℕ) (list : List ℕ) → Links next (Some cell) list → Begins next cell list
begins_one next cell [] links = absurd (let h : Some cell ≡ None = links in cc)
begins_one next cell (x ∷ rest) links =
    let same : x ≡ cell = (let h : Some cell ≡ Some x = links.0 in cc) in
    record { rest = rest; is = ap (λ (n : ℕ). n ∷ rest) same; links = subst (λ (n : ℕ). Links next (get_or next n None) rest) same links.1 }

pub begins : (next : List (Option ℕ)) (cell : ℕ) (lists : List (List ℕ)) (k : ℕ) → k < length lists → AllLink next cell lists → Begins next (cell + k) (get_or lists k [])
begins next cell [] k within links = absurd (omega (arith, within))
begins next cell (list ∷ lists) zero within links = let e : cell + 0 ≡ cell = omega arith in subst (λ (n : ℕ). Begins next n list) (sym e) (begins_one next cell list links.0)
begins next cell (list ∷ lists) (suc k) within links =
    let e : cell + suc k ≡ suc cell + k = omega arith in
    subst (λ (n : ℕ). Begins next n (get_or lists k [])) (sym e) (begins next (suc cell) lists k (omega (arith, within)) links.1)

pub walks_long : (n : ℕ) (next : List (Option ℕ)) (cell k : ℕ) → length (walks n next cell k) ≡ k
walks_long n next cell zero = refl
walks_long n next cell (suc k) = omega (arith, walks_long n next (suc cell) k)

low_slot : (next : List (Option ℕ)) (s : ℕ) (free : List ℕ) (lists : List (List ℕ)) → IsLinked next ((0 ∷ s ∷ free) ∷ lists) → s < suc (length lists) → ⊥
low_slot next zero free lists linked low = omega (arith, linked.once 0, one_if 0 0 refl)
low_slot next (suc j) free lists linked low =
    let first = begins next 1 lists j (omega (arith, low)) linked.links.1 in
    let here : get_or lists j [] ≡ [] ++ suc j ∷ first.rest = first.is ∙ ap (λ (n : ℕ). n ∷ first.rest) (let e : 1 + j ≡ suc j = omega arith in e) in
    omega (arith, linked.once (suc j), one_if (suc j) (suc j) refl, at_least (suc j) lists j [] first.rest (omega (arith, low)) here)

-- a slot that is free comes after the cells before the chains
pub beyond : (next : List (Option ℕ)) (s : ℕ) (free : List ℕ) (lists : List (List ℕ)) → IsLinked next ((0 ∷ s ∷ free) ∷ lists) → length lists < s
beyond next s free lists linked =
    ⊎_elim
    (λ low. absurd (low_slot next s free lists linked low))
    (λ high. omega (arith, high))
    (cases_lt s (suc (length lists)))

-- items that are the same at the slots of some lists are held in the same way
held_same : {T : Type 0} → (old new : List (Option T)) (list : List ℕ) → ((q : ℕ) → 0 < times q list → get_or new q None ≡ get_or old q None) → held new list ≡ held old list
held_same old new [] same = refl
held_same old new (x ∷ rest) same = rw (same x (omega (arith, one_if x x refl))) (ap (held_with x (get_or old x None)) (held_same old new rest (λ q some. same q (omega (arith, some)))))

pub all_held_same : {T : Type 0} → (old new : List (Option T)) (lists : List (List ℕ)) → ((q : ℕ) → 0 < all_times q lists → get_or new q None ≡ get_or old q None) → map (held new) lists ≡ map (held old) lists
all_held_same old new [] same = refl
all_held_same old new (list ∷ lists) same =
    rw (held_same old new list (λ q some. same q (omega (arith, some)))) (ap (λ ls. held old list ∷ ls) (all_held_same old new lists (λ q some. same q (omega (arith, some)))))

-- the sound parts, by their lists
pub record Parts {T : Type 0} (next : List (Option ℕ)) (kept : List (Option T)) (spare : ℕ) (unused : List ℕ) (lists : List (List ℕ)) : Type 0 where
  pub linked : IsLinked next (unused ∷ lists)
  pub heads : length lists < length next
  pub items : length kept ≡ length next
  pub free : length unused ≤ suc spare
  pub bare : (c : ℕ) → c ≤ length lists → get_or kept c None ≡ None
  pub full : (c : ℕ) → length lists < c → 0 < all_times c lists → IsSome (get_or kept c None)

pub parts_of : {T : Type 0} → (next : List (Option ℕ)) (kept : List (Option T)) (chains spare : ℕ) → IsSound next kept chains spare → Parts next kept spare (walk (length next) next (Some 0)) (lists_of next 1 chains)
parts_of next kept chains spare sound =
    let long : length (lists_of next 1 chains) ≡ chains = walks_long (length next) next 1 chains in
    record {
      linked = sound.linked;
      heads = omega (arith, long, sound.heads);
      items = sound.items;
      free = sound.free;
      bare = λ c low. sound.bare c (omega (arith, long, low));
      full = λ c high some. sound.full c (omega (arith, long, high)) some;
    }

-- and what makes a room sound, with the lists that are then seen
pub record Seen {T : Type 0} (next : List (Option ℕ)) (kept : List (Option T)) (chains spare : ℕ) (unused : List ℕ) (shows : List (List ℕ)) : Type 0 where
  pub sound : IsSound next kept chains spare
  pub free : walk (length next) next (Some 0) ≡ unused
  pub lists : lists_of next 1 chains ≡ shows

pub seen : {T : Type 0} → (next : List (Option ℕ)) (kept : List (Option T)) (chains spare : ℕ) (free : List ℕ) (lists : List (List ℕ)) → length lists ≡ chains → Parts next kept spare free lists → Seen next kept chains spare free lists
seen next kept chains spare free lists long parts =
    let is = shown next free lists parts.linked in
    let same : lists_of next 1 chains ≡ lists = ap (lists_of next 1) (sym long) ∙ is.1 in
    record {
      sound = record {
        linked = rw (is.0, same) parts.linked;
        heads = omega (arith, long, parts.heads);
        items = parts.items;
        free = omega (arith, ap length is.0, parts.free);
        bare = λ c low. parts.bare c (omega (arith, long, low));
        full = λ c high some. parts.full c (omega (arith, long, high)) (subst (λ (ls : List (List ℕ)). 0 < all_times c ls) same some);
      };
      free = is.0;
      lists = same;
    }

-- a slot that stands nowhere, with its item
pub record Ready {T : Type 0} (next : List (Option ℕ)) (kept : List (Option T)) (spare s : ℕ) (item : T) (unused : List ℕ) (lists : List (List ℕ)) : Type 0 where
  pub parts : Parts next kept spare unused lists
  pub without : Without next (unused ∷ lists) s
  pub within : s < length next
  pub high : length lists < s
  pub here : get_or kept s None ≡ Some item

-- it was the first free one
pub apart : {T : Type 0} → (kept : List (Option T)) (s : ℕ) (v : Option T) (lists : List (List ℕ)) → all_times s lists ≡ 0 → (q : ℕ) → 0 < all_times q lists → get_or (set kept s v) q None ≡ get_or kept q None
apart kept s v lists none q some = get_or-set_other kept s q v None (λ e. omega (arith, some, none, ap (λ n. all_times n lists) e))

pub ready_free : {T : Type 0} → (next : List (Option ℕ)) (kept : List (Option T)) (spare s : ℕ) (free : List ℕ) (lists : List (List ℕ)) (item : T) → Parts next kept (suc spare) (0 ∷ s ∷ free) lists → Ready (taken next 0 s) (set kept s (Some item)) spare s item (0 ∷ free) lists
ready_free next kept spare s free lists item parts =
    let without : Without (taken next 0 s) ((0 ∷ free) ∷ lists) s = linked_without next ((0 ∷ s ∷ free) ∷ lists) 0 [] 0 s free parts.linked (omega arith) refl in
    let same : length (taken next 0 s) ≡ length next = length-set next 0 (get_or next s None) in
    let within : s < length next = in_room next ((0 ∷ s ∷ free) ∷ lists) 0 (0 ∷ []) s free parts.linked (omega arith) refl in
    let high : length lists < s = beyond next s free lists parts.linked in
    record {
      parts = record {
        linked = without.linked;
        heads = omega (arith, same, parts.heads);
        items = length-set kept s (Some item) ∙ parts.items ∙ sym same;
        free = omega (arith, parts.free);
        bare = λ c low. get_or-set_other kept s c (Some item) None (λ e. omega (arith, e, low, high)) ∙ parts.bare c low;
        full = λ c above some. rw (apart kept s (Some item) lists (omega (arith, without.nowhere)) c some) (parts.full c above some);
      };
      without = without;
      within = omega (arith, same, within);
      high = high;
      here = get_or-set_same kept s (Some item) None (omega (arith, within, parts.items));
    }

-- or it has a new cell
pub old_ones : {T : Type 0} → (next : List (Option ℕ)) (kept : List (Option T)) (v : Option T) (unused : List ℕ) (lists : List (List ℕ)) → IsLinked next (unused ∷ lists) → length kept ≡ length next → (q : ℕ) → 0 < all_times q lists → get_or (kept ++ v ∷ []) q None ≡ get_or kept q None
old_ones next kept v unused lists linked long q some =
    get_or_append_left kept (v ∷ []) None q
    (⊎_elim
    (λ low. omega (arith, low, long))
    (λ high. absurd (omega (arith, linked.within q high, some)))
    (cases_lt q (length next)))

pub ready_new : {T : Type 0} → (next : List (Option ℕ)) (kept : List (Option T)) (spare : ℕ) (unused : List ℕ) (lists : List (List ℕ)) (item : T) → Parts next kept (suc spare) unused lists → length unused ≤ suc spare → Ready (next ++ None ∷ []) (kept ++ Some item ∷ []) spare (length next) item unused lists
ready_new next kept spare unused lists item parts few =
    let without : Without (next ++ None ∷ []) (unused ∷ lists) (length next) = linked_new next (unused ∷ lists) parts.linked in
    let long = length_push next None in
    record {
      parts = record {
        linked = without.linked;
        heads = omega (arith, long, parts.heads);
        items = omega (arith, long, length_push kept (Some item), parts.items);
        free = few;
        bare = λ c low. get_or_append_left kept (Some item ∷ []) None c (omega (arith, low, parts.heads, parts.items)) ∙ parts.bare c low;
        full = λ c above some. rw (old_ones next kept (Some item) unused lists parts.linked parts.items c some) (parts.full c above some);
      };
      without = without;
      within = omega (arith, long);
      high = parts.heads;
      here = get_or_push kept (Some item) None (length next) parts.items;
    }

-- it is put behind a cell
pub used : {T : Type 0} → (next : List (Option ℕ)) (kept : List (Option T)) (spare s : ℕ) (item : T) (unused : List ℕ) (lists : List (List ℕ)) (k : ℕ) (before : List ℕ) (p : ℕ) (rest : List ℕ)
    → Ready next kept spare s item unused lists → k < length lists → get_or lists k [] ≡ before ++ p ∷ rest → Parts (put next p s) kept spare unused (set lists k (before ++ p ∷ s ∷ rest))
used next kept spare s item unused lists k before p rest ready within is =
    let parts = ready.parts in
    let long : length (set lists k (before ++ p ∷ s ∷ rest)) ≡ length lists = length-set lists k (before ++ p ∷ s ∷ rest) in
    let room : length (put next p s) ≡ length next = put_long next p s in
    let count : (q : ℕ) → all_times q (set lists k (before ++ p ∷ s ∷ rest)) ≡ all_times q lists + cond {A = ℕ} (eqb s q) 1 0 = λ q.
    (let h = changed (times q) lists k (before ++ p ∷ rest) (before ++ p ∷ s ∷ rest) within is in
    omega (arith, h, at_place q p before (s ∷ rest), at_place q p before rest)) in
    record {
      linked = linked_with next (unused ∷ lists) (suc k) before p s rest ready.without ready.within (omega (arith, within)) is;
      heads = omega (arith, long, room, parts.heads);
      items = parts.items ∙ sym room;
      free = parts.free;
      bare = λ c low. parts.bare c (omega (arith, long, low));
      full = λ c above some.
          ⊎_elim
          (λ e. subst (λ o. IsSome o) (sym (ap (λ (n : ℕ). get_or kept n None) e ∙ ready.here)) refl)
          (λ ne. parts.full c (omega (arith, long, above)) (omega (arith, some, count c, none_if s c (λ e. ne (sym e)))))
          (cases_eq c s);
    }

-- and goes behind another one, first of the free slots
pub freed : {T : Type 0} → (next : List (Option ℕ)) (kept : List (Option T)) (spare s : ℕ) (free : List ℕ) (lists : List (List ℕ)) (k : ℕ) (before : List ℕ) (p : ℕ) (rest : List ℕ)
    → Parts next kept spare (0 ∷ free) lists → k < length lists → get_or lists k [] ≡ before ++ p ∷ s ∷ rest
    → Parts (put (taken next p s) 0 s) kept (suc spare) (0 ∷ s ∷ free) (set lists k (before ++ p ∷ rest))
freed next kept spare s free lists k before p rest parts within is =
    let middle : Without (taken next p s) ((0 ∷ free) ∷ set lists k (before ++ p ∷ rest)) s = linked_without next ((0 ∷ free) ∷ lists) (suc k) before p s rest parts.linked (omega (arith, within)) is in
    let same : length (taken next p s) ≡ length next = length-set next p (get_or next s None) in
    let there : get_or ((0 ∷ free) ∷ lists) (suc k) [] ≡ (before ++ p ∷ []) ++ s ∷ rest = is ∙ sym (append_assoc before (p ∷ []) (s ∷ rest)) in
    let in_space : s < length next = in_room next ((0 ∷ free) ∷ lists) (suc k) (before ++ p ∷ []) s rest parts.linked (omega (arith, within)) there in
    let long : length (set lists k (before ++ p ∷ rest)) ≡ length lists = length-set lists k (before ++ p ∷ rest) in
    let room : length (put (taken next p s) 0 s) ≡ length next = put_long (taken next p s) 0 s ∙ same in
    let fewer : (q : ℕ) → all_times q (set lists k (before ++ p ∷ rest)) ≤ all_times q lists = λ q.
    (let h = changed (times q) lists k (before ++ p ∷ s ∷ rest) (before ++ p ∷ rest) within is in
    omega (arith, h, at_place q p before (s ∷ rest), at_place q p before rest)) in
    record {
      linked = linked_with (taken next p s) ((0 ∷ free) ∷ set lists k (before ++ p ∷ rest)) 0 [] 0 s free middle (omega (arith, same, in_space)) (omega arith) refl;
      heads = omega (arith, long, room, parts.heads);
      items = parts.items ∙ sym room;
      free = omega (arith, parts.free);
      bare = λ c low. parts.bare c (omega (arith, long, low));
      full = λ c above some. parts.full c (omega (arith, long, above)) (omega (arith, some, fewer c));
    }

-- a pair among those that are held is a slot of the list with its item
pub record Split {T : Type 0} (items : List (Option T)) (list : List ℕ) (front : List (ℕ × T)) (slot : ℕ) (item : T) (back : List (ℕ × T)) : Type 0 where
  pub before : List ℕ
  pub rest : List ℕ
  pub is : list ≡ before ++ slot ∷ rest
  pub front_is : held items before ≡ front
  pub back_is : held items rest ≡ back
  pub here : get_or items slot None ≡ Some item

split_with : {T : Type 0} → (items : List (Option T)) (x : ℕ) (o : Option T) (list : List ℕ) → get_or items x None ≡ o
    → ((front : List (ℕ × T)) (slot : ℕ) (item : T) (back : List (ℕ × T)) → held items list ≡ front ++ (slot, item) ∷ back → Split items list front slot item back)
    → (front : List (ℕ × T)) (slot : ℕ) (item : T) (back : List (ℕ × T)) → held_with x o (held items list) ≡ front ++ (slot, item) ∷ back → Split items (x ∷ list) front slot item back
split_with items x None list same later front slot item back h =
    let more = later front slot item back h in
    record { before = x ∷ more.before; rest = more.rest; is = ap (λ (l : List ℕ). x ∷ l) more.is; front_is = rw same more.front_is; back_is = more.back_is; here = more.here }
split_with items x (Some y) list same later [] slot item back h =
    let pair : (x, y) ≡ (slot, item) = cc in
    let slots : x ≡ slot = ap (λ (p : ℕ × _). p.0) pair in
    let things : y ≡ item = ap (λ (p : ℕ × _). p.1) pair in
    let rests : held items list ≡ back = cc in
    record {
      before = [];
      rest = list;
      is = ap (λ (n : ℕ). n ∷ list) slots;
      front_is = refl;
      back_is = rests;
      here = ap (λ (n : ℕ). get_or items n None) (sym slots) ∙ same ∙ ap Some things;
    }
split_with items x (Some y) list same later (b ∷ front) slot item back h =
    let first : (x, y) ≡ b = cc in
    let rests : held items list ≡ front ++ (slot, item) ∷ back = cc in
    let more = later front slot item back rests in
    record {
      before = x ∷ more.before;
      rest = more.rest;
      is = ap (λ (l : List ℕ). x ∷ l) more.is;
      front_is = rw same (ap (λ l. (x, y) ∷ l) more.front_is ∙ ap (λ p. p ∷ front) first);
      back_is = more.back_is;
      here = more.here;
    }

pub split : {T : Type 0} → (items : List (Option T)) (list : List ℕ) (front : List (ℕ × T)) (slot : ℕ) (item : T) (back : List (ℕ × T)) → held items list ≡ front ++ (slot, item) ∷ back → Split items list front slot item back
split items [] [] slot item back h = absurd (cc)
split items [] (b ∷ front) slot item back h = absurd (cc)
split items (x ∷ list) front slot item back h = split_with items x (get_or items x None) list refl (split items list) front slot item back h

with_append : {T : Type 0} → (x : ℕ) (o : Option T) (xs ys : List (ℕ × T)) → held_with x o (xs ++ ys) ≡ held_with x o xs ++ ys
with_append x None xs ys = refl
with_append x (Some y) xs ys = refl

pub held-append : {T : Type 0} → (items : List (Option T)) (xs ys : List ℕ) → held items (xs ++ ys) ≡ held items xs ++ held items ys
held-append items [] ys = refl
held-append items (x ∷ xs) ys = rw (held-append items xs ys) (with_append x (get_or items x None) (held items xs) (held items ys))
