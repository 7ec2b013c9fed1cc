-- How far it is from a slot to the end of its chain.
use Rattle.std.proofs.Common.{◌≡◌, ℕ, zero, suc, ◌+◌, ◌<◌, ◌≤◌, cond, eqb, List, [], ◌∷◌, ◌++◌, length, get_or, set, map, Option, Some, None, IfSome, refl, sym, ap, ◌∙◌, ⊎_elim, append_assoc, arith}
use Rattle.std.proofs.lemmas.Bool.{cases_eq, eq-eqb, ne_eqb}
use Rattle.std.proofs.lemmas.List.{get_or-set_same, length-set}
use Rattle.rail_slots.specs.Slots.{StandsAt, first_slot, behind_first, slots_from, left_from, times_in, places}
use Rattle.rail_slots.specs.Links.{lists_of, held, held_with, times, all_times, IsSound}
use Rattle.rail_slots.proofs.Linked.{one_if}
use Rattle.rail_slots.proofs.Shown.{Used, standing_of}

-- no slot stands twice, since no cell does
standing_with : {T : Type 0} → (q x : ℕ) (o : Option T) (l : List (ℕ × T)) → times_in q (held_with x o l) ≤ cond {A = ℕ} (eqb x q) 1 0 + times_in q l
standing_with q x None l = omega arith
standing_with q x (Some y) l = omega arith

standing_held : {T : Type 0} → (kept : List (Option T)) (q : ℕ) (list : List ℕ) → times_in q (held kept list) ≤ times q list
standing_held kept q [] = omega arith
standing_held kept q (x ∷ rest) = omega (arith, standing_with q x (get_or kept x None) (held kept rest), standing_held kept q rest)

all_held : {T : Type 0} → (kept : List (Option T)) (q : ℕ) (lists : List (List ℕ)) → places (map (held kept) lists) q ≤ all_times q lists
all_held kept q [] = omega arith
all_held kept q (list ∷ lists) = omega (arith, standing_held kept q list, all_held kept q lists)

pub once : {T : Type 0} → (next : List (Option ℕ)) (kept : List (Option T)) (chains spare : ℕ) (shows : List (List (ℕ × T))) → IsSound next kept chains spare → map (held kept) (lists_of next 1 chains) ≡ shows → (q : ℕ) → places shows q ≤ 1
once next kept chains spare shows sound is q = omega (arith, ap (λ ls. places ls q) is, all_held kept q (lists_of next 1 chains), sound.linked.once q)

-- a slot that stands in no chain leads nowhere
none_from : {T : Type 0} → (q : ℕ) (list : List (ℕ × T)) → times_in q list ≡ 0 → slots_from q list ≡ 0
none_from q [] none = refl
none_from q (x ∷ rest) none =
    ⊎_elim
    (λ same. absurd (omega (arith, none, one_if x.0 q same)))
    (λ other. rw (ne_eqb x.0 q other) (none_from q rest (omega (arith, none))))
    (cases_eq x.0 q)

none_left : {T : Type 0} → (q : ℕ) (shows : List (List (ℕ × T))) → places shows q ≡ 0 → left_from shows q ≡ 0
none_left q [] none = refl
none_left q (list ∷ shows) none = omega (arith, none_from q list (omega (arith, none)), none_left q shows (omega (arith, none)))

stands_once : {T : Type 0} → (q : ℕ) (front : List (ℕ × T)) (item : T) (back : List (ℕ × T)) → times_in q (front ++ (q, item) ∷ back) ≡ times_in q front + (1 + times_in q back)
stands_once q [] item back = omega (arith, one_if q q refl)
stands_once q (x ∷ front) item back = omega (arith, stands_once q front item back)

-- a slot that stands once leads over what is behind it
behind : {T : Type 0} → (q : ℕ) (front : List (ℕ × T)) (item : T) (back : List (ℕ × T)) → times_in q (front ++ (q, item) ∷ back) ≤ 1 → slots_from q (front ++ (q, item) ∷ back) ≡ suc (length back)
behind q [] item back low = rw (eq-eqb q q refl) refl
behind q (x ∷ front) item back low =
    ⊎_elim
    (λ same. absurd (omega (arith, low, one_if x.0 q same, stands_once q front item back)))
    (λ other. rw (ne_eqb x.0 q other) (behind q front item back (omega (arith, low))))
    (cases_eq x.0 q)

in_place : {T : Type 0} → (q : ℕ) (shows : List (List (ℕ × T))) (k : ℕ) (front : List (ℕ × T)) (item : T) (back : List (ℕ × T)) → k < length shows → get_or shows k [] ≡ front ++ (q, item) ∷ back → 1 ≤ places shows q
in_place q [] k front item back within is = absurd (omega (arith, within))
in_place q (list ∷ shows) zero front item back within is = omega (arith, ap (times_in q) is, stands_once q front item back)
in_place q (list ∷ shows) (suc k) front item back within is = omega (arith, in_place q shows k front item back (omega (arith, within)) is)

left_at : {T : Type 0} → (q : ℕ) (shows : List (List (ℕ × T))) (k : ℕ) (front : List (ℕ × T)) (item : T) (back : List (ℕ × T)) → k < length shows → get_or shows k [] ≡ front ++ (q, item) ∷ back → places shows q ≤ 1 → left_from shows q ≡ suc (length back)
left_at q [] k front item back within is low = absurd (omega (arith, within))
left_at q (list ∷ shows) zero front item back within is low =
    let here = behind q front item back (omega (arith, ap (times_in q) is, low)) in
    omega (arith, ap (slots_from q) is, here, none_left q shows (omega (arith, low, ap (times_in q) is, stands_once q front item back)))
left_at q (list ∷ shows) (suc k) front item back within is low =
    let there = in_place q shows k front item back (omega (arith, within)) is in
    omega (arith, none_from q list (omega (arith, low, there)), left_at q shows k front item back (omega (arith, within)) is (omega (arith, low)))

pub left_is : {T : Type 0} → (next : List (Option ℕ)) (kept : List (Option T)) (chains spare slot k : ℕ) (shows : List (List (ℕ × T))) (front : List (ℕ × T)) (item : T) (back : List (ℕ × T)) → IsSound next kept chains spare → map (held kept) (lists_of next 1 chains) ≡ shows → StandsAt shows slot k front item back → left_from shows slot ≡ suc (length back)
left_is next kept chains spare slot k shows front item back sound is stands = left_at slot shows k front item back stands.within stands.is (once next kept chains spare shows sound is slot)

-- the slot after another one is nearer to the end
pub left_next : {T : Type 0} → (next : List (Option ℕ)) (kept : List (Option T)) (chains spare slot k : ℕ) (shows : List (List (ℕ × T))) (front : List (ℕ × T)) (item : T) (back : List (ℕ × T)) (after : Option ℕ) → IsSound next kept chains spare → map (held kept) (lists_of next 1 chains) ≡ shows → StandsAt shows slot k front item back → after ≡ first_slot back
    → IfSome after (λ n. left_from shows n + 1 ≡ left_from shows slot)
left_next next kept chains spare slot k shows front item [] after sound is stands first = rw first tt
left_next next kept chains spare slot k shows front item (b ∷ back) after sound is stands first =
    let here = left_is next kept chains spare slot k shows front item (b ∷ back) sound is stands in
    let at : StandsAt shows b.0 k (front ++ (slot, item) ∷ []) b.1 back = record { within = stands.within; is = stands.is ∙ sym (append_assoc front ((slot, item) ∷ []) (b ∷ back)) } in
    let there = left_is next kept chains spare b.0 k shows (front ++ (slot, item) ∷ []) b.1 back sound is at in
    rw first (omega (arith, here, there))

-- and so is a slot itself, where the one after it was taken out
left_without : {T : Type 0} → (next after : List (Option ℕ)) (kept : List (Option T)) (chains spare more all slot k : ℕ) (shows : List (List (ℕ × T))) (front : List (ℕ × T)) (item : T) (back : List (ℕ × T)) → IsSound next kept chains spare → map (held kept) (lists_of next 1 chains) ≡ shows → StandsAt shows slot k front item back
    → Used after kept chains more all (set shows k (front ++ (slot, item) ∷ behind_first back)) → left_from (map (held kept) (lists_of after 1 chains)) slot ≡ suc (length (behind_first back))
left_without next after kept chains spare more all slot k shows front item back sound is stands used =
    let list : List (ℕ × _) = front ++ (slot, item) ∷ behind_first back in
    let at : StandsAt (set shows k list) slot k front item (behind_first back) = record {
      within = omega (arith, stands.within, length-set shows k list);
      is = get_or-set_same shows k list [] stands.within;
    } in
    ap (λ ls. left_from ls slot) used.is ∙ left_is after kept chains more slot k (set shows k list) front item (behind_first back) used.sound used.is at

one_fewer : {T : Type 0} → (o : Option T) (now was : ℕ) (back : List (ℕ × T)) (first : Option ℕ) (s : ℕ) → first ≡ Some s → first ≡ first_slot back → now ≡ suc (length (behind_first back)) → was ≡ suc (length back) → IfSome o (λ _. now + 1 ≡ was)
one_fewer None now was back first s some is new old = tt
one_fewer (Some x) now was [] first s some is new old = absurd (let h : Some s ≡ None = sym some ∙ is in cc)
one_fewer (Some x) now was (b ∷ back) first s some is new old = omega (arith, new, old)

pub fewer : {T : Type 0} → (next after : List (Option ℕ)) (kept : List (Option T)) (chains spare more all slot k s : ℕ) (shows : List (List (ℕ × T))) (front : List (ℕ × T)) (item : T) (back : List (ℕ × T)) (o : Option T) → IsSound next kept chains spare → map (held kept) (lists_of next 1 chains) ≡ shows → StandsAt shows slot k front item back → get_or next slot None ≡ Some s
    → Used after kept chains more all (set shows k (front ++ (slot, item) ∷ behind_first back)) → IfSome o (λ _. left_from (map (held kept) (lists_of after 1 chains)) slot + 1 ≡ left_from shows slot)
fewer next after kept chains spare more all slot k s shows front item back o sound is stands behind used =
    let there = standing_of next kept chains spare slot k shows front item back sound is stands in
    one_fewer o _ _ back (get_or next slot None) s behind there.after
    (left_without next after kept chains spare more all slot k shows front item back sound is stands used)
    (left_is next kept chains spare slot k shows front item back sound is stands)
