-- What callers see of a room of slots: where a chain begins, where a slot stands, and what a change makes of the chains.
use Rattle.std.proofs.Common.{◌≡◌, ℕ, zero, suc, ◌+◌, ◌-◌, ◌<◌, ◌≤◌, ◌≢◌, List, [], ◌∷◌, ◌++◌, length, get_or, set, map, Option, Some, None, IsSome, MatchOption, refl, sym, ap, subst, take, drop, replicate, append_assoc, ◌∙◌, ⊎_elim, arith}
use Rattle.std.proofs.lemmas.Bool.{cases_eq, cases_lt}
use Rattle.std.proofs.lemmas.List.{get_or-set_other, length-set, length-map, length_push, get_or-map, map-set, length-replicate}
use Rattle.std.proofs.Math.Seq.{take-append_seam}
use Rattle.rail_slots.specs.Slots.{Stands, StandsAt, first_slot, first_item, behind_first}
use Rattle.rail_slots.specs.Links.{walk, lists_of, held, held_with, Links, times, all_times, all_cells, cells, IsLinked, IsSound, IsReserved, HasSlot, IsNewSlot, taken, put}
use Rattle.rail_slots.proofs.Linked.{at_least, at_place, one_if, in_room, changed, put_long, alone, alone_linked, alone_long, alone_above}
use Rattle.rail_slots.proofs.Sound.{begins, begins_one, walks_long, all_held_same, Parts, parts_of, Seen, seen, Ready, apart, ready_free, old_ones, ready_new, used, freed, split, held-append}

part : (q : ℕ) (lists : List (List ℕ)) (k : ℕ) → k < length lists → times q (get_or lists k []) ≤ all_times q lists
part q [] k within = absurd (omega (arith, within))
part q (list ∷ lists) zero within = omega arith
part q (list ∷ lists) (suc k) within = omega (arith, part q lists k (omega (arith, within)))

other_head : (next : List (Option ℕ)) (free : List ℕ) (lists : List (List ℕ)) (k : ℕ) (rest : List ℕ) → IsLinked next (free ∷ lists) → k < length lists → get_or lists k [] ≡ suc k ∷ rest → (j : ℕ) → 0 < times (suc j) rest → suc j ≤ length lists → j ≢ k → ⊥
other_head next free lists k rest linked within is j some low ne =
    let first = begins next 1 lists j (omega (arith, low)) linked.links.1 in
    let there : get_or (set lists k []) j [] ≡ [] ++ suc j ∷ first.rest = get_or-set_other lists k j [] [] ne ∙ first.is ∙ ap (λ (n : ℕ). n ∷ first.rest) (let e : 1 + j ≡ suc j = omega arith in e) in
    let one = at_least (suc j) (set lists k []) j [] first.rest (omega (arith, length-set lists k [], low)) there in
    let all = changed (times (suc j)) lists k (suc k ∷ rest) [] within is in
    omega (arith, linked.once (suc j), one, all, some)

no_head : (next : List (Option ℕ)) (free : List ℕ) (lists : List (List ℕ)) (k : ℕ) (rest : List ℕ) → IsLinked next (free ∷ lists) → k < length lists → get_or lists k [] ≡ suc k ∷ rest → (q : ℕ) → 0 < times q rest → q ≤ length lists → ⊥
no_head next free lists k rest linked within is zero some low =
    let first = begins_one next 0 free linked.links.0 in
    omega (arith, linked.once 0, ap (times 0) first.is, one_if 0 0 refl, part 0 lists k within, ap (times 0) is, some)
no_head next free lists k rest linked within is (suc j) some low =
    ⊎_elim
    (λ same. omega (arith, linked.once (suc j), part (suc j) lists k within, ap (times (suc j)) is, some, one_if (suc k) (suc j) (omega (arith, same))))
    (λ other. other_head next free lists k rest linked within is j some low other)
    (cases_eq j k)

-- behind the first cell of a chain there are slots alone
pub slots_alone : (next : List (Option ℕ)) (free : List ℕ) (lists : List (List ℕ)) (k : ℕ) (rest : List ℕ) → IsLinked next (free ∷ lists) → k < length lists → get_or lists k [] ≡ suc k ∷ rest → (q : ℕ) → 0 < times q rest → length lists < q
slots_alone next free lists k rest linked within is q some =
    ⊎_elim
    (λ high. high)
    (λ low. absurd (no_head next free lists k rest linked within is q some low))
    (cases_lt (length lists) q)

-- a chain as its slots
pub record Chain {T : Type 0} (next : List (Option ℕ)) (kept : List (Option T)) (chains k : ℕ) (shows : List (ℕ × T)) : Type 0 where
  pub within : k < chains
  pub rest : List ℕ
  pub is : get_or (lists_of next 1 chains) k [] ≡ suc k ∷ rest
  pub held_is : shows ≡ held kept rest
  pub links : Links next (get_or next (suc k) None) rest
  pub full : (q : ℕ) → 0 < times q rest → IsSome (get_or kept q None)
  pub first : first_slot shows ≡ get_or next (suc k) None
  pub bare : get_or kept (suc k) None ≡ None
  pub room : suc k < length next

first_with : {T : Type 0} → (x : ℕ) (o : Option T) (l : List (ℕ × T)) → IsSome o → first_slot (held_with x o l) ≡ Some x
first_with x None l some = absurd (let h = some in cc)
first_with x (Some y) l some = refl

first_of : {T : Type 0} → (next : List (Option ℕ)) (kept : List (Option T)) (at : Option ℕ) (rest : List ℕ) → Links next at rest → ((q : ℕ) → 0 < times q rest → IsSome (get_or kept q None)) → first_slot (held kept rest) ≡ at
first_of next kept at [] links full = sym links
first_of next kept at (x ∷ rest) links full = first_with x (get_or kept x None) (held kept rest) (full x (omega (arith, one_if x x refl))) ∙ sym links.0

pub chain_of : {T : Type 0} → (next : List (Option ℕ)) (kept : List (Option T)) (chains spare k : ℕ) (shows : List (List (ℕ × T))) → IsSound next kept chains spare → map (held kept) (lists_of next 1 chains) ≡ shows → k < length shows → Chain next kept chains k (get_or shows k [])
chain_of next kept chains spare k shows sound is within =
    let lists : List (List ℕ) = lists_of next 1 chains in
    let long : length lists ≡ chains = walks_long (length next) next 1 chains in
    let inside : k < length lists = omega (arith, within, ap length is, let e : length (map (held kept) lists) ≡ length lists = simp length-map in e) in
    let first = begins next 1 lists k inside sound.linked.links.1 in
    let e : 1 + k ≡ suc k = omega arith in
    let here : get_or lists k [] ≡ suc k ∷ first.rest = first.is ∙ ap (λ (n : ℕ). n ∷ first.rest) e in
    let bare : get_or kept (suc k) None ≡ None = sound.bare (suc k) (omega (arith, inside, long)) in
    let links : Links next (get_or next (suc k) None) first.rest = subst (λ (n : ℕ). Links next (get_or next n None) first.rest) e first.links in
    let full : (q : ℕ) → 0 < times q first.rest → IsSome (get_or kept q None) = λ q some.
    (sound.full q (omega (arith, long, slots_alone next (walk (length next) next (Some 0)) lists k first.rest sound.linked inside here q some))
    (omega (arith, part q lists k inside, ap (times q) here, some))) in
    let shown : get_or shows k [] ≡ held kept first.rest =
    ap (λ ls. get_or ls k []) (sym is) ∙ get_or-map (held kept) lists k [] [] inside ∙ ap (held kept) here ∙ ap (λ o. held_with (suc k) o (held kept first.rest)) bare in
    record {
      within = omega (arith, inside, long);
      rest = first.rest;
      is = here;
      held_is = shown;
      links = links;
      full = full;
      first = ap first_slot shown ∙ first_of next kept (get_or next (suc k) None) first.rest links full;
      bare = bare;
      room = omega (arith, sound.heads, inside, long);
    }

-- a slot in use as a cell
pub record Standing {T : Type 0} (next : List (Option ℕ)) (kept : List (Option T)) (chains slot k : ℕ) (front : List (ℕ × T)) (item : T) (back : List (ℕ × T)) : Type 0 where
  pub within : k < chains
  pub before : List ℕ
  pub rest : List ℕ
  pub is : get_or (lists_of next 1 chains) k [] ≡ before ++ slot ∷ rest
  pub front_is : held kept before ≡ front
  pub back_is : held kept rest ≡ back
  pub here : get_or kept slot None ≡ Some item
  pub room : slot < length next
  pub links : Links next (get_or next slot None) rest
  pub full : (q : ℕ) → 0 < times q rest → IsSome (get_or kept q None)
  pub after : get_or next slot None ≡ first_slot back

links_after : (next : List (Option ℕ)) (at : Option ℕ) (before : List ℕ) (x : ℕ) (rest : List ℕ) → Links next at (before ++ x ∷ rest) → Links next (get_or next x None) rest
links_after next at [] x rest links = links.1
links_after next at (b ∷ before) x rest links = links_after next (get_or next b None) before x rest links.1

pub standing_of : {T : Type 0} → (next : List (Option ℕ)) (kept : List (Option T)) (chains spare slot k : ℕ) (shows : List (List (ℕ × T))) (front : List (ℕ × T)) (item : T) (back : List (ℕ × T)) → IsSound next kept chains spare → map (held kept) (lists_of next 1 chains) ≡ shows → StandsAt shows slot k front item back → Standing next kept chains slot k front item back
standing_of next kept chains spare slot k shows front item back sound is stands =
    let chain = chain_of next kept chains spare k shows sound is stands.within in
    let lists : List (List ℕ) = lists_of next 1 chains in
    let long : length lists ≡ chains = walks_long (length next) next 1 chains in
    let inside : k < length lists = omega (arith, long, chain.within) in
    let cell = split kept chain.rest front slot item back (sym chain.held_is ∙ stands.is) in
    let first = begins next 1 lists k inside sound.linked.links.1 in
    let e : 1 + k ≡ suc k = omega arith in
    let rests : first.rest ≡ chain.rest = (let h : (1 + k) ∷ first.rest ≡ suc k ∷ chain.rest = sym first.is ∙ chain.is in cc) in
    let links : Links next (get_or next (suc k) None) (cell.before ++ slot ∷ cell.rest) = subst (λ (l : List ℕ). Links next (get_or next (suc k) None) l) (rests ∙ cell.is) (subst (λ (n : ℕ). Links next (get_or next n None) first.rest) e first.links) in
    let there : get_or lists k [] ≡ (suc k ∷ cell.before) ++ slot ∷ cell.rest = chain.is ∙ ap (λ (l : List ℕ). suc k ∷ l) cell.is in
    let full : (q : ℕ) → 0 < times q cell.rest → IsSome (get_or kept q None) = λ q some.
    (let more : 0 < times q chain.rest = omega (arith, ap (times q) cell.is, at_place q slot cell.before cell.rest, some) in
    sound.full q (omega (arith, long, slots_alone next (walk (length next) next (Some 0)) lists k chain.rest sound.linked inside chain.is q more))
    (omega (arith, part q lists k inside, ap (times q) chain.is, more))) in
    record {
      within = chain.within;
      before = suc k ∷ cell.before;
      rest = cell.rest;
      is = there;
      front_is = ap (λ o. held_with (suc k) o (held kept cell.before)) chain.bare ∙ cell.front_is;
      back_is = cell.back_is;
      here = cell.here;
      room = in_room next (walk (length next) next (Some 0) ∷ lists) (suc k) (suc k ∷ cell.before) slot cell.rest sound.linked (omega (arith, inside)) there;
      links = links_after next (get_or next (suc k) None) cell.before slot cell.rest links;
      full = full;
      after = sym (ap first_slot (sym cell.back_is) ∙ first_of next kept (get_or next slot None) cell.rest (links_after next (get_or next (suc k) None) cell.before slot cell.rest links) full);
    }

-- what a change of one list changes of what is seen
view_set : {T : Type 0} → (kept : List (Option T)) (lists : List (List ℕ)) (k : ℕ) (new : List ℕ) (shows : List (List (ℕ × T))) (seen_new : List (ℕ × T)) → map (held kept) lists ≡ shows → held kept new ≡ seen_new → map (held kept) (set lists k new) ≡ set shows k seen_new
view_set kept lists k new shows seen_new is here = map-set (held kept) lists k new ∙ ap (λ ls. set ls k (held kept new)) is ∙ ap (set shows k) here

-- what a change makes of a room of so many cells in all
pub record Used {T : Type 0} (next : List (Option ℕ)) (kept : List (Option T)) (chains spare all : ℕ) (shows : List (List (ℕ × T))) : Type 0 where
  pub sound : IsSound next kept chains spare
  pub is : map (held kept) (lists_of next 1 chains) ≡ shows
  pub all_is : all_cells next spare ≡ all

used_seen : {T : Type 0} → (next : List (Option ℕ)) (kept : List (Option T)) (chains spare all : ℕ) (unused : List ℕ) (lists : List (List ℕ)) (shows : List (List (ℕ × T)))
    → Seen next kept chains spare unused lists → map (held kept) lists ≡ shows → length next + (suc spare - length unused) ≡ all → Used next kept chains spare all shows
used_seen next kept chains spare all unused lists shows seen is many =
    record { sound = seen.sound; is = ap (map (held kept)) seen.lists ∙ is; all_is = ap (λ (l : List ℕ). length next + (suc spare - length l)) seen.free ∙ many }

pub kept_room : {T : Type 0} → (next old : List (Option ℕ)) (kept was : List (Option T)) (chains spare spare_old room room_items room_now room_items_now : ℕ) (shows : List (List (ℕ × T)))
    → Used next kept chains spare (all_cells old spare_old) shows → IsReserved old was chains spare_old room room_items → room_now ≡ room → room_items_now ≡ room_items → IsReserved next kept chains spare room_now room_items_now
kept_room next old kept was chains spare spare_old room room_items room_now room_items_now shows used all same same_items =
    record { sound = used.sound; links_fit = omega (arith, used.all_is, all.links_fit, same); items_fit = omega (arith, used.all_is, all.items_fit, same_items) }

-- where there is room, a slot can come into use
slot_in : (next : List (Option ℕ)) (list rest : List ℕ) (lists : List (List ℕ)) (spare room room_items long : ℕ) → IsLinked next (list ∷ lists) → list ≡ 0 ∷ rest → Links next (get_or next 0 None) rest → long ≡ length next → 1 ≤ spare
    → length next + (suc spare - length list) ≤ room → length next + (suc spare - length list) ≤ room_items → MatchOption (get_or next 0 None) ((length next < room) × (long < room_items)) (λ slot. slot < length next)
slot_in next list [] lists spare room room_items long linked is links same some more more_items =
    rw links (omega (arith, ap length is, some, more), omega (arith, ap length is, same, some, more_items))
slot_in next list (slot ∷ rest) lists spare room room_items long linked is links same some more more_items = rw links.0 (in_room next (list ∷ lists) 0 (0 ∷ []) slot rest linked (omega arith) is)

pub has_slot : {T : Type 0} → (next : List (Option ℕ)) (kept : List (Option T)) (chains spare room room_items : ℕ) → IsReserved next kept chains spare room room_items → 1 ≤ spare → HasSlot next kept room room_items
has_slot next kept chains spare room room_items all some =
    let sound = all.sound in
    let first = begins_one next 0 (walk (length next) next (Some 0)) sound.linked.links.0 in
    record {
      heads = omega (arith, sound.heads);
      items = sound.items;
      slot = slot_in next (walk (length next) next (Some 0)) first.rest (lists_of next 1 chains) spare room room_items (length kept) sound.linked first.is first.links sound.items some (omega (arith, all.links_fit)) (omega (arith, all.items_fit));
    }

-- a slot with an item that stands nowhere, in a sound room
pub record New {T : Type 0} (next : List (Option ℕ)) (kept : List (Option T)) (chains spare all s : ℕ) (item : T) (shows : List (List (ℕ × T))) : Type 0 where
  pub used : Used next kept chains spare all shows
  pub ready : Ready next kept spare s item (walk (length next) next (Some 0)) (lists_of next 1 chains)

new_seen : {T : Type 0} → (next : List (Option ℕ)) (kept : List (Option T)) (chains spare all s : ℕ) (item : T) (unused : List ℕ) (lists : List (List ℕ)) (shows : List (List (ℕ × T)))
    → length lists ≡ chains → Ready next kept spare s item unused lists → map (held kept) lists ≡ shows → length next + (suc spare - length unused) ≡ all → New next kept chains spare all s item shows
new_seen next kept chains spare all s item unused lists shows long ready is many =
    let result = seen next kept chains spare unused lists long ready.parts in
    record { used = used_seen next kept chains spare all unused lists shows result is many; ready = rw (result.free, result.lists) ready }

new_in : {T : Type 0} → (next after : List (Option ℕ)) (kept now : List (Option T)) (chains less s : ℕ) (item : T) (list rest : List ℕ) (lists : List (List ℕ)) (shows : List (List (ℕ × T)))
    → length lists ≡ chains → Parts next kept (suc less) list lists → list ≡ 0 ∷ rest → Links next (get_or next 0 None) rest → map (held kept) lists ≡ shows → IsNewSlot (get_or next 0 None) next kept item after now s
    → New after now chains less (length next + (suc (suc less) - length list)) s item shows
new_in next after kept now chains less s item list [] lists shows long parts is links shown made =
    let new : (s ≡ length next) × (after ≡ next ++ None ∷ []) × (now ≡ kept ++ Some item ∷ []) = subst (λ o. IsNewSlot o next kept item after now s) links made in
    let ready = ready_new next kept less list lists item parts (omega (arith, ap length is)) in
    let same = all_held_same kept (kept ++ Some item ∷ []) lists (old_ones next kept (Some item) list lists parts.linked parts.items) in
    rw (new.0, new.1, new.2)
    (new_seen (next ++ None ∷ []) (kept ++ Some item ∷ []) chains less _ (length next) item list lists shows long ready (same ∙ shown) (omega (arith, ap length is, length_push next None)))
new_in next after kept now chains less s item list (first ∷ rest) lists shows long parts is links shown made =
    let new : (s ≡ first) × (after ≡ taken next 0 first) × (now ≡ set kept first (Some item)) = subst (λ o. IsNewSlot o next kept item after now s) links.0 made in
    let ready = ready_free next kept less first rest lists item (subst (λ (l : List ℕ). Parts next kept (suc less) l lists) is parts) in
    let same = all_held_same kept (set kept first (Some item)) lists (apart kept first (Some item) lists (omega (arith, ready.without.nowhere))) in
    rw (new.0, new.1, new.2)
    (new_seen (taken next 0 first) (set kept first (Some item)) chains less _ first item (0 ∷ rest) lists shows long ready (same ∙ shown) (omega (arith, ap length is, length-set next 0 (get_or next first None))))

pub new_of : {T : Type 0} → (next after : List (Option ℕ)) (kept now : List (Option T)) (chains spare s : ℕ) (item : T) (shows : List (List (ℕ × T)))
    → IsSound next kept chains spare → map (held kept) (lists_of next 1 chains) ≡ shows → 1 ≤ spare → IsNewSlot (get_or next 0 None) next kept item after now s → New after now chains (spare - 1) (all_cells next spare) s item shows
new_of next after kept now chains spare s item shows sound is some made =
    let list : List ℕ = walk (length next) next (Some 0) in
    let first = begins_one next 0 list sound.linked.links.0 in
    let one : spare ≡ suc (spare - 1) = omega (arith, some) in
    let parts : Parts next kept (suc (spare - 1)) list (lists_of next 1 chains) = subst (λ (n : ℕ). Parts next kept n list (lists_of next 1 chains)) one (parts_of next kept chains spare sound) in
    subst (λ (n : ℕ). New after now chains (spare - 1) (length next + (suc n - length list)) s item shows) (sym one)
    (new_in next after kept now chains (spare - 1) s item list first.rest (lists_of next 1 chains) shows (walks_long (length next) next 1 chains) parts first.is first.links is made)

-- a new slot is not in use
pub unused : {T : Type 0} → (next : List (Option ℕ)) (kept : List (Option T)) (chains spare all s : ℕ) (item : T) (shows : List (List (ℕ × T))) → New next kept chains spare all s item shows → Stands shows s → ⊥
unused next kept chains spare all s item shows new stands =
    let lists : List (List ℕ) = lists_of next 1 chains in
    let long : length lists ≡ chains = walks_long (length next) next 1 chains in
    let there = standing_of next kept chains spare s stands.chain shows stands.before stands.item stands.rest new.used.sound new.used.is stands.at in
    omega (arith, new.ready.without.nowhere, at_least s lists stands.chain there.before there.rest (omega (arith, long, there.within)) there.is)

-- it comes into use behind a cell
used_view : {T : Type 0} → (next : List (Option ℕ)) (kept : List (Option T)) (chains spare all : ℕ) (shows : List (List (ℕ × T))) (s : ℕ) (item : T) (k : ℕ) (before : List ℕ) (p : ℕ) (rest : List ℕ) (front : List (ℕ × T))
    → New next kept chains spare all s item shows → k < chains → get_or (lists_of next 1 chains) k [] ≡ before ++ p ∷ rest → ((more : List (ℕ × T)) → held kept (before ++ p ∷ []) ++ more ≡ front ++ more)
    → Used (put next p s) kept chains spare all (set shows k (front ++ (s, item) ∷ held kept rest))
used_view next kept chains spare all shows s item k before p rest front new within at fronts =
    let lists : List (List ℕ) = lists_of next 1 chains in
    let unused : List ℕ = walk (length next) next (Some 0) in
    let long : length lists ≡ chains = walks_long (length next) next 1 chains in
    let list : List ℕ = before ++ p ∷ s ∷ rest in
    let after = used next kept spare s item unused lists k before p rest new.ready (omega (arith, long, within)) at in
    let result = seen (put next p s) kept chains spare unused (set lists k list) (length-set lists k list ∙ long) after in
    let here : held kept list ≡ front ++ (s, item) ∷ held kept rest =
    ap (held kept) (sym (append_assoc before (p ∷ []) (s ∷ rest))) ∙ held-append kept (before ++ p ∷ []) (s ∷ rest) ∙ fronts (held kept (s ∷ rest)) ∙ ap (λ o. front ++ held_with s o (held kept rest)) new.ready.here in
    used_seen (put next p s) kept chains spare all unused (set lists k list) _ result (view_set kept lists k list shows (front ++ (s, item) ∷ held kept rest) new.used.is here) (omega (arith, put_long next p s, new.used.all_is))

-- what a call wrote to a vector through a slice
pub written : (n : ℕ) (old new made : List (Option ℕ)) → n ≡ length old → new ≡ made → length made ≡ length old → take n (new ++ drop (length new) old) ≡ made
written n old new made long is same =
    ap (λ m. take m (new ++ drop (length new) old)) (long ∙ sym same ∙ ap length (sym is)) ∙ take-append_seam new (drop (length new) old) ∙ is

pub made_long : (next : List (Option ℕ)) (a p s : ℕ) → length (put (taken next a s) p s) ≡ length next
made_long next a p s = put_long (taken next a s) p s ∙ length-set next a (get_or next s None)

-- what goes
pub freed_view : {T : Type 0} → (next : List (Option ℕ)) (kept : List (Option T)) (chains spare : ℕ) (shows : List (List (ℕ × T))) (s k p : ℕ) (before rest : List ℕ) (new : List (ℕ × T))
    → IsSound next kept chains spare → map (held kept) (lists_of next 1 chains) ≡ shows → k < chains → get_or (lists_of next 1 chains) k [] ≡ before ++ p ∷ s ∷ rest → held kept (before ++ p ∷ rest) ≡ new
    → Used (put (taken next p s) 0 s) kept chains (suc spare) (all_cells next spare) (set shows k new)
freed_view next kept chains spare shows s k p before rest new sound is within at here =
    let lists : List (List ℕ) = lists_of next 1 chains in
    let long : length lists ≡ chains = walks_long (length next) next 1 chains in
    let first = begins_one next 0 (walk (length next) next (Some 0)) sound.linked.links.0 in
    let parts : Parts next kept spare (0 ∷ first.rest) lists = subst (λ (l : List ℕ). Parts next kept spare l lists) first.is (parts_of next kept chains spare sound) in
    let after = freed next kept spare s first.rest lists k before p rest parts (omega (arith, long, within)) at in
    let result = seen (put (taken next p s) 0 s) kept chains (suc spare) (0 ∷ s ∷ first.rest) (set lists k (before ++ p ∷ rest)) (length-set lists k (before ++ p ∷ rest) ∙ long) after in
    used_seen (put (taken next p s) 0 s) kept chains (suc spare) (all_cells next spare) (0 ∷ s ∷ first.rest) (set lists k (before ++ p ∷ rest)) _ result (view_set kept lists k (before ++ p ∷ rest) shows new is here)
    (omega (arith, made_long next p 0 s, ap length first.is))

-- the same, for the vector as it is after the call
pub put_first_is : {T : Type 0} → (next : List (Option ℕ)) (kept : List (Option T)) (chains spare all : ℕ) (shows : List (List (ℕ × T))) (s : ℕ) (item : T) (k j : ℕ) (after : List (Option ℕ))
    → New next kept chains spare all s item shows → k < length shows → j ≡ suc k → after ≡ put next j s → Used after kept chains spare all (set shows k ((s, item) ∷ get_or shows k []))
put_first_is next kept chains spare all shows s item k j after new within at made =
    let chain = chain_of next kept chains spare k shows new.used.sound new.used.is within in
    let used = used_view next kept chains spare all shows s item k [] (suc k) chain.rest [] new chain.within chain.is (λ more. ap (λ o. held_with (suc k) o [] ++ more) chain.bare) in
    rw (made, at, chain.held_is) used

pub put_after_is : {T : Type 0} → (next : List (Option ℕ)) (kept : List (Option T)) (chains spare all : ℕ) (shows : List (List (ℕ × T))) (s : ℕ) (item : T) (slot k : ℕ) (front : List (ℕ × T)) (here : T) (back : List (ℕ × T)) (after : List (Option ℕ))
    → New next kept chains spare all s item shows → StandsAt shows slot k front here back → after ≡ put next slot s → Used after kept chains spare all (set shows k (front ++ (slot, here) ∷ (s, item) ∷ back))
put_after_is next kept chains spare all shows s item slot k front here back after new stands made =
    let there = standing_of next kept chains spare slot k shows front here back new.used.sound new.used.is stands in
    let fronts : (more : List (ℕ × _)) → held kept (there.before ++ slot ∷ []) ++ more ≡ (front ++ (slot, here) ∷ []) ++ more = λ more.
    ap (λ l. l ++ more) (held-append kept there.before (slot ∷ []) ∙ ap (λ l. l ++ held_with slot (get_or kept slot None) []) there.front_is ∙ ap (λ o. front ++ held_with slot o []) there.here) in
    let used = used_view next kept chains spare all shows s item k there.before slot there.rest (front ++ (slot, here) ∷ []) new there.within there.is fronts in
    let shape : (front ++ (slot, here) ∷ []) ++ (s, item) ∷ held kept there.rest ≡ front ++ (slot, here) ∷ (s, item) ∷ back =
    append_assoc front ((slot, here) ∷ []) ((s, item) ∷ held kept there.rest) ∙ ap (λ l. front ++ (slot, here) ∷ (s, item) ∷ l) there.back_is in
    subst (λ (l : List (Option ℕ)). Used l kept chains spare all (set shows k (front ++ (slot, here) ∷ (s, item) ∷ back))) (sym made)
    (subst (λ (l : List (ℕ × _)). Used (put next slot s) kept chains spare all (set shows k l)) shape used)

-- a chain with its first slot, where it has one
pub record First {T : Type 0} (kept : List (Option T)) (next : List (Option ℕ)) (chains k s : ℕ) (shows : List (ℕ × T)) : Type 0 where
  pub item : T
  pub rest : List ℕ
  pub is : get_or (lists_of next 1 chains) k [] ≡ suc k ∷ s ∷ rest
  pub shown : shows ≡ (s, item) ∷ held kept rest
  pub here : get_or kept s None ≡ Some item

some_of : {T : Type 0} → (o : Option T) → IsSome o → (item : T) × (o ≡ Some item)
some_of None some = absurd (let h = some in cc)
some_of (Some item) some = (item, refl)

first_cell : (next : List (Option ℕ)) (at : Option ℕ) (rest : List ℕ) (s : ℕ) → Links next at rest → at ≡ Some s → (more : List ℕ) × (rest ≡ s ∷ more)
first_cell next at [] s links is = absurd (let h : None ≡ Some s = sym links ∙ is in cc)
first_cell next at (x ∷ more) s links is = let h : Some x ≡ Some s = sym links.0 ∙ is in (more, ap (λ (n : ℕ). n ∷ more) (let e : x ≡ s = cc in e))

pub first_at : {T : Type 0} → (next : List (Option ℕ)) (kept : List (Option T)) (chains spare k s : ℕ) (shows : List (List (ℕ × T))) → IsSound next kept chains spare → map (held kept) (lists_of next 1 chains) ≡ shows → k < length shows → get_or next (suc k) None ≡ Some s → First kept next chains k s (get_or shows k [])
first_at next kept chains spare k s shows sound is within behind =
    let chain = chain_of next kept chains spare k shows sound is within in
    let cell = first_cell next (get_or next (suc k) None) chain.rest s chain.links behind in
    let held_here = some_of (get_or kept s None) (chain.full s (omega (arith, ap (times s) cell.1, one_if s s refl))) in
    record {
      item = held_here.0;
      rest = cell.0;
      is = chain.is ∙ ap (λ (l : List ℕ). suc k ∷ l) cell.1;
      shown = chain.held_is ∙ ap (held kept) cell.1 ∙ ap (λ o. held_with s o (held kept cell.0)) held_here.1;
      here = held_here.1;
    }

pub take_first_is : {T : Type 0} → (next : List (Option ℕ)) (kept : List (Option T)) (chains spare k j s : ℕ) (shows : List (List (ℕ × T))) (after : List (Option ℕ)) → IsSound next kept chains spare → map (held kept) (lists_of next 1 chains) ≡ shows → k < length shows → j ≡ suc k → get_or next j None ≡ Some s → after ≡ put (taken next j s) 0 s
    → Used after kept chains (spare + 1) (all_cells next spare) (set shows k (behind_first (get_or shows k []))) × (get_or kept s None ≡ first_item (get_or shows k []))
take_first_is next kept chains spare k j s shows after sound is within at behind made =
    let first = first_at next kept chains spare k s shows sound is within (ap (λ n. get_or next n None) (sym at) ∙ behind) in
    let chain = chain_of next kept chains spare k shows sound is within in
    let more : suc spare ≡ spare + 1 = omega arith in
    let bare : held kept (suc k ∷ first.rest) ≡ behind_first (get_or shows k []) = ap (λ o. held_with (suc k) o (held kept first.rest)) chain.bare ∙ sym (ap behind_first first.shown) in
    let gone = freed_view next kept chains spare shows s k (suc k) [] first.rest (behind_first (get_or shows k [])) sound is chain.within first.is bare in (
      subst (λ (n : ℕ). Used after kept chains n (all_cells next spare) (set shows k (behind_first (get_or shows k [])))) more
          (subst (λ (l : List (Option ℕ)). Used l kept chains (suc spare) (all_cells next spare) (set shows k (behind_first (get_or shows k [])))) (ap (λ n. put (taken next n s) 0 s) (sym at) ∙ sym made) gone),
      first.here ∙ sym (ap first_item first.shown),
    )

pub take_after_is : {T : Type 0} → (next : List (Option ℕ)) (kept : List (Option T)) (chains spare slot k s : ℕ) (shows : List (List (ℕ × T))) (front : List (ℕ × T)) (here : T) (back : List (ℕ × T)) (after : List (Option ℕ)) → IsSound next kept chains spare → map (held kept) (lists_of next 1 chains) ≡ shows → StandsAt shows slot k front here back → get_or next slot None ≡ Some s → after ≡ put (taken next slot s) 0 s
    → Used after kept chains (spare + 1) (all_cells next spare) (set shows k (front ++ (slot, here) ∷ behind_first back)) × (get_or kept s None ≡ first_item back)
take_after_is next kept chains spare slot k s shows front here back after sound is stands behind made =
    let there = standing_of next kept chains spare slot k shows front here back sound is stands in
    let cell = first_cell next (get_or next slot None) there.rest s there.links behind in
    let held_here = some_of (get_or kept s None) (there.full s (omega (arith, ap (times s) cell.1, one_if s s refl))) in
    let shown : back ≡ (s, held_here.0) ∷ held kept cell.0 = sym there.back_is ∙ ap (held kept) cell.1 ∙ ap (λ o. held_with s o (held kept cell.0)) held_here.1 in
    let more : suc spare ≡ spare + 1 = omega arith in
    let new : held kept (there.before ++ slot ∷ cell.0) ≡ front ++ (slot, here) ∷ behind_first back =
    held-append kept there.before (slot ∷ cell.0) ∙ ap (λ l. l ++ held_with slot (get_or kept slot None) (held kept cell.0)) there.front_is
    ∙ ap (λ o. front ++ held_with slot o (held kept cell.0)) there.here ∙ ap (λ l. front ++ (slot, here) ∷ l) (sym (ap behind_first shown)) in
    let gone = freed_view next kept chains spare shows s k slot there.before cell.0 (front ++ (slot, here) ∷ behind_first back) sound is there.within (there.is ∙ ap (λ (l : List ℕ). there.before ++ slot ∷ l) cell.1) new in (
      subst (λ (n : ℕ). Used after kept chains n (all_cells next spare) (set shows k (front ++ (slot, here) ∷ behind_first back))) more
          (subst (λ (l : List (Option ℕ)). Used l kept chains (suc spare) (all_cells next spare) (set shows k (front ++ (slot, here) ∷ behind_first back))) (sym made) gone),
      held_here.1 ∙ sym (ap first_item shown),
    )

-- where no slot is behind, none is seen
none_seen : {T : Type 0} → (shows : List (ℕ × T)) → first_slot shows ≡ None → shows ≡ []
none_seen [] none = refl
none_seen (b ∷ shows) none = absurd (cc)

pub no_first : {T : Type 0} → (next : List (Option ℕ)) (kept : List (Option T)) (chains spare k j : ℕ) (shows : List (List (ℕ × T))) → IsSound next kept chains spare → map (held kept) (lists_of next 1 chains) ≡ shows → k < length shows → j ≡ suc k → get_or next j None ≡ None → get_or shows k [] ≡ []
no_first next kept chains spare k j shows sound is within at none =
    let chain = chain_of next kept chains spare k shows sound is within in
    none_seen (get_or shows k []) (chain.first ∙ ap (λ n. get_or next n None) (sym at) ∙ none)

pub none_after : {T : Type 0} → (next : List (Option ℕ)) (kept : List (Option T)) (chains spare slot k : ℕ) (shows : List (List (ℕ × T))) (front : List (ℕ × T)) (here : T) (back : List (ℕ × T)) → IsSound next kept chains spare → map (held kept) (lists_of next 1 chains) ≡ shows → StandsAt shows slot k front here back → get_or next slot None ≡ None → back ≡ []
none_after next kept chains spare slot k shows front here back sound is stands none =
    let there = standing_of next kept chains spare slot k shows front here back sound is stands in
    none_seen back (sym there.after ∙ none)

nothing_in : {T : Type 0} → (n c : ℕ) → get_or (replicate {A = Option T} n None) c None ≡ None
nothing_in zero c = refl
nothing_in (suc n) zero = refl
nothing_in (suc n) (suc c) = nothing_in n c

alone_held : {T : Type 0} → (kept : List (Option T)) (cell k : ℕ) → ((c : ℕ) → get_or kept c None ≡ None) → map (held kept) (alone cell k) ≡ replicate k []
alone_held kept cell zero none = refl
alone_held kept cell (suc k) none = rw (none cell) (ap (λ l. [] ∷ l) (alone_held kept (suc cell) k none))

-- an empty room, with no cell of a slot
pub empty_is : {T : Type 0} → (chains room : ℕ) (next : List (Option ℕ)) (kept : List (Option T)) → next ≡ replicate (suc chains) None → kept ≡ replicate (suc chains) None → Used next kept chains room (suc chains + room) (replicate chains [])
empty_is {T} chains room next kept cells none =
    let links : List (Option ℕ) = replicate (suc chains) None in
    let items : List (Option T) = replicate (suc chains) None in
    let lists : List (List ℕ) = alone 1 chains in
    let many : length lists ≡ chains = alone_long 1 chains in
    let long : length links ≡ suc chains = length-replicate (suc chains) None in
    let parts : Parts links items room (0 ∷ []) lists = record {
      linked = alone_linked (suc chains);
      heads = omega (arith, many, long);
      items = length-replicate (suc chains) None ∙ sym long;
      free = omega arith;
      bare = λ c low. nothing_in (suc chains) c;
      full = λ c high some. absurd (omega (arith, some, alone_above c 1 chains (omega (arith, many, high))));
    } in
    rw (cells, none)
    (used_seen links items chains room (suc chains + room) (0 ∷ []) lists (replicate chains []) (seen links items chains room (0 ∷ []) lists many parts)
    (alone_held items 1 chains (nothing_in (suc chains))) (omega (arith, long)))

-- the cell behind another one in a chain is a slot with an item
pub slot_room : {T : Type 0} → (next : List (Option ℕ)) (kept : List (Option T)) (chains spare k j s : ℕ) (shows : List (List (ℕ × T))) → IsSound next kept chains spare → map (held kept) (lists_of next 1 chains) ≡ shows → k < length shows → j ≡ suc k → get_or next j None ≡ Some s → s < length next
slot_room next kept chains spare k j s shows sound is within at behind =
    let first = first_at next kept chains spare k s shows sound is within (ap (λ n. get_or next n None) (sym at) ∙ behind) in
    let chain = chain_of next kept chains spare k shows sound is within in
    let long : length (lists_of next 1 chains) ≡ chains = walks_long (length next) next 1 chains in
    in_room next (walk (length next) next (Some 0) ∷ lists_of next 1 chains) (suc k) (suc k ∷ []) s first.rest sound.linked (omega (arith, long, chain.within)) first.is

pub first_some : {T : Type 0} → (next : List (Option ℕ)) (kept : List (Option T)) (chains spare k j s : ℕ) (shows : List (List (ℕ × T))) → IsSound next kept chains spare → map (held kept) (lists_of next 1 chains) ≡ shows → k < length shows → j ≡ suc k → get_or next j None ≡ Some s → (item : T) × (get_or kept s None ≡ Some item)
first_some next kept chains spare k j s shows sound is within at behind =
    let first = first_at next kept chains spare k s shows sound is within (ap (λ n. get_or next n None) (sym at) ∙ behind) in
    (first.item, first.here)

pub after_some : {T : Type 0} → (next : List (Option ℕ)) (kept : List (Option T)) (chains spare slot k s : ℕ) (shows : List (List (ℕ × T))) (front : List (ℕ × T)) (here : T) (back : List (ℕ × T)) → IsSound next kept chains spare → map (held kept) (lists_of next 1 chains) ≡ shows → StandsAt shows slot k front here back → get_or next slot None ≡ Some s → (item : T) × (get_or kept s None ≡ Some item)
after_some next kept chains spare slot k s shows front here back sound is stands behind =
    let there = standing_of next kept chains spare slot k shows front here back sound is stands in
    let cell = first_cell next (get_or next slot None) there.rest s there.links behind in
    some_of (get_or kept s None) (there.full s (omega (arith, ap (times s) cell.1, one_if s s refl)))

pub after_room : {T : Type 0} → (next : List (Option ℕ)) (kept : List (Option T)) (chains spare slot k s : ℕ) (shows : List (List (ℕ × T))) (front : List (ℕ × T)) (here : T) (back : List (ℕ × T)) → IsSound next kept chains spare → map (held kept) (lists_of next 1 chains) ≡ shows → StandsAt shows slot k front here back → get_or next slot None ≡ Some s → s < length next
after_room next kept chains spare slot k s shows front here back sound is stands behind =
    let there = standing_of next kept chains spare slot k shows front here back sound is stands in
    let cell = first_cell next (get_or next slot None) there.rest s there.links behind in
    let long : length (lists_of next 1 chains) ≡ chains = walks_long (length next) next 1 chains in
    let at : get_or (lists_of next 1 chains) k [] ≡ (there.before ++ slot ∷ []) ++ s ∷ cell.0 = there.is ∙ ap (λ (l : List ℕ). there.before ++ slot ∷ l) cell.1 ∙ sym (append_assoc there.before (slot ∷ []) (s ∷ cell.0)) in
    in_room next (walk (length next) next (Some 0) ∷ lists_of next 1 chains) (suc k) (there.before ++ slot ∷ []) s cell.0 sound.linked (omega (arith, long, there.within)) at

pub one_more : {T : Type 0} → (o : Option T) (item : T) (new old : ℕ) → o ≡ Some item → new ≡ old + 1 → MatchOption o (new ≡ old) (λ _. new ≡ old + 1)
one_more o item new old is more = rw is more

-- no chain is longer than the room
with_long : {T : Type 0} → (x : ℕ) (o : Option T) (l : List (ℕ × T)) (n : ℕ) → length l ≤ n → length (held_with x o l) ≤ suc n
with_long x None l n h = omega (arith, h)
with_long x (Some y) l n h = omega (arith, h)

held_long : {T : Type 0} → (kept : List (Option T)) (list : List ℕ) → length (held kept list) ≤ length list
held_long kept [] = omega arith
held_long kept (x ∷ rest) = with_long x (get_or kept x None) (held kept rest) (length rest) (held_long kept rest)

part_long : (lists : List (List ℕ)) (k : ℕ) → length (get_or lists k []) ≤ cells lists
part_long [] k = omega arith
part_long (list ∷ lists) zero = omega arith
part_long (list ∷ lists) (suc k) = omega (arith, part_long lists k)

pub chain_fits : {T : Type 0} → (next : List (Option ℕ)) (kept : List (Option T)) (chains spare k : ℕ) (shows : List (List (ℕ × T))) → IsSound next kept chains spare → map (held kept) (lists_of next 1 chains) ≡ shows → k < length shows → length (get_or shows k []) ≤ length next
chain_fits next kept chains spare k shows sound is within =
    let chain = chain_of next kept chains spare k shows sound is within in
    omega (arith, ap length chain.held_is, held_long kept chain.rest, ap length chain.is, part_long (lists_of next 1 chains) k, sound.linked.room)
