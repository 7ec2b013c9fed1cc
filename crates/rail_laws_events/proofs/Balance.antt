-- The account: what was written and what is to come are together all event lines.
use Rattle.std.proofs.Common.{◌≡◌, ◌+◌, ◌≤◌, Bool, true, false, not, ◌&&◌, ◌||◌, cond, List, [], ◌∷◌, ◌++◌, refl, sym, ap, ◌∙◌, subst, ⊎_elim, arith}
use Rattle.std.specs.List.{list_any, filter}
use Rattle.std.proofs.lemmas.Bool.{and_parts, and_left, and_right, cases_Bool, false≢true, or_left, cond-true, cond-false, false_from_ne_true}
use Rattle.rail_base.specs.declared.history.Entry.{Entry}
use Rattle.rail_rules.specs.Fronts.{Front, same_entry, stands}
use Rattle.rail_rules.specs.Orders.{Input}
use Rattle.rail_rules.specs.Lawful.{is_lawful}
use Rattle.rail_laws_front.specs.Premises.{IsWellFormed}
use Rattle.rail_laws_front.specs.Views.{Follows}
use Rattle.rail_laws_front.specs.Views.Follows.{by_event, by_admission, by_hold, by_end}
use Rattle.rail_laws_front.proofs.CallerLemmas.{lawful_before, lawful_last, stands_on, same_entry_refl, never_overlap}
use Rattle.rail_laws_events.specs.Accounts.{tally, is_train_event, written, all_events, to_come}
use Rattle.rail_laws_events.proofs.Coding.{one_entry}
use Rattle.rail_laws_events.proofs.Tallies.{tally-none, tally-some, tally-split, tally-filter, tally-same, tally-le}
use Rattle.rail_laws_events.proofs.Distinct.{once_among_events}
use Rattle.rail_laws_events.proofs.Written.{few_admissions, written_is_event, in_all_events, from_all_events, event_is_train, happens_new}

pub same_entry_sym : (a b : Entry) → same_entry a b ≡ same_entry b a
same_entry_sym a b =
    ⊎_elim
    (λ is.
    let P : Entry → Type 0 = λ x. same_entry a x ≡ same_entry x a in
    subst P (one_entry a b is) refl)
    (λ isnt. isnt ∙ sym (false_from_ne_true (same_entry b a) (λ back.
    let P : Entry → Type 0 = λ x. same_entry x b ≡ true in
    false≢true (sym isnt ∙ subst P (one_entry b a back) (same_entry_refl b)))))
    (cases_Bool (same_entry a b))

-- one entry taken out of what is counted
count_out : (p : Entry → Bool) (front : Front) (w : Entry) (L : List Entry) → tally (λ e. not (stands front e) && p e) L ≡ tally (λ e. same_entry e w && (not (stands front e) && p e)) L + tally (λ e. not (same_entry e w || stands front e) && p e) L
count_out p front w L =
    let q : Entry → Bool = λ e. not (stands front e) && p e in
    let sw : Entry → Bool = λ e. same_entry e w in
    sym (tally-split q sw L)
    ∙ ap (λ n. n + tally q (filter (λ e. not (sw e)) L)) (tally-filter q sw L)
    ∙ ap (λ n. tally (λ e. sw e && q e) L + n)
    (tally-filter q (λ e. not (sw e)) L ∙ tally-same (λ e. not (sw e) && q e) (λ e. not (sw e || stands front e) && p e) L (λ e. regroup (sw e) (stands front e) (p e)))
  where
    regroup : (a b c : Bool) → (not a && (not b && c)) ≡ (not (a || b) && c)
    regroup true b c = refl
    regroup false b c = refl

-- an entry that is there once is counted once
count_one : (p : Entry → Bool) (front : Front) (w : Entry) (L : List Entry) → stands front w ≡ false → tally (same_entry w) L ≡ 1 → tally (λ e. same_entry e w && (not (stands front e) && p e)) L ≡ cond (p w) 1 0
count_one p front w L unwritten once =
    let q : Entry → Bool = λ e. not (stands front e) && p e in
    let at_w : q w ≡ p w = ap (λ b. not b && p w) unwritten in
    let only_w : (e : Entry) → (same_entry e w && q e) ≡ (same_entry w e && p w) = λ e.
    ⊎_elim
    (λ is.
    let same : e ≡ w = one_entry e w is in
    λ i. (is ∙ sym (sym (same_entry_sym e w) ∙ is)) i && (ap q same ∙ at_w) i)
    (λ isnt. and_left (same_entry e w) (q e) isnt ∙ sym (and_left (same_entry w e) (p w) (sym (same_entry_sym e w) ∙ isnt)))
    (cases_Bool (same_entry e w)) in
    tally-same (λ e. same_entry e w && q e) (λ e. same_entry w e && p w) L only_w
    ∙ ⊎_elim
    (λ yes_p. tally-same (λ e. same_entry w e && p w) (same_entry w) L (λ e. ap (λ b. same_entry w e && b) yes_p ∙ and_true (same_entry w e)) ∙ once ∙ sym (cond-true (p w) 1 0 yes_p))
    (λ no_p. tally-none (λ e. same_entry w e && p w) L (none_pass L no_p) ∙ sym (cond-false (p w) 1 0 no_p))
    (cases_Bool (p w))
  where
    and_true : (b : Bool) → (b && true) ≡ b
    and_true true = refl
    and_true false = refl

    none_pass : (xs : List Entry) → p w ≡ false → list_any (λ e. same_entry w e && p w) xs ≡ false
    none_pass [] no_p = refl
    none_pass (x ∷ xs) no_p = ap (λ b. b || list_any (λ e. same_entry w e && p w) xs) (and_right (same_entry w x) (p w) no_p) ∙ none_pass xs no_p

-- an entry that isn't there isn't counted
count_none : (p : Entry → Bool) (front : Front) (w : Entry) (L : List Entry) → list_any (same_entry w) L ≡ false → tally (λ e. same_entry e w && (not (stands front e) && p e)) L ≡ 0
count_none p front w L none =
    let bound = tally-le (λ e. same_entry e w && (not (stands front e) && p e)) (same_entry w) L (λ e h. sym (same_entry_sym e w) ∙ (and_parts (same_entry e w) (not (stands front e) && p e) h).0) in
    omega (arith, bound, tally-none (same_entry w) L none)

-- the account of a list that has each written line once, and event lines of trains alone
balance : (input : Input) → IsWellFormed input.plant → (p : Entry → Bool) (L : List Entry) (front : Front)
    → is_lawful input front ≡ true → ((e : Entry) → tally (same_entry e) L ≤ 1)
    → ((e : Entry) → stands front e ≡ true → is_train_event e.what ≡ true
    → list_any (same_entry e) L ≡ true)
    → ((e : Entry) → list_any (same_entry e) L ≡ true → is_train_event e.what ≡ true)
    → tally p (written front) + tally (λ e. not (stands front e) && p e) L ≡ tally p L
balance input fine p L [] lawful once has kinds = omega (arith, tally-same (λ e. not (stands [] e) && p e) p L (λ e. refl))
balance input fine p L (line ∷ front) lawful once has kinds =
    let before = balance input fine p L front (lawful_before input line front lawful) once (λ e stood kind. has e (stands_on line front e stood) kind) kinds in
    let w : Entry = line.entry in
    ⊎_elim
    (λ kind.
    let here : stands (line ∷ front) w ≡ true = or_left (same_entry w w) (stands front w) (same_entry_refl w) in
    let one : tally (same_entry w) L ≡ 1 = omega (arith, once w, tally-some (same_entry w) L (has w here kind)) in
    let fresh : stands front w ≡ false = fresh_line (lawful_last input line front lawful) kind in
    let written_now : tally p (written (line ∷ front)) ≡ cond (p w) 1 0 + tally p (written front) =
    ap (λ (xs : List Entry). tally p (xs ++ written front)) (cond-true (is_train_event w.what) (w ∷ []) [] kind) in
    omega (arith, before, written_now, count_out p front w L, count_one p front w L fresh one))
    (λ no_kind.
    let none : list_any (same_entry w) L ≡ false = false_from_ne_true (list_any (same_entry w) L) (λ some. false≢true (sym no_kind ∙ kinds w some)) in
    let written_now : tally p (written (line ∷ front)) ≡ tally p (written front) =
    ap (λ (xs : List Entry). tally p (xs ++ written front)) (cond-false (is_train_event w.what) (w ∷ []) [] no_kind) in
    omega (arith, before, written_now, count_out p front w L, count_none p front w L none))
    (cases_Bool (is_train_event w.what))
  where
    fresh_line : Follows input front line → is_train_event line.entry.what ≡ true → stands front line.entry ≡ false
    fresh_line (by_event happens) kind = (happens_new input front line happens kind).unwritten
    fresh_line (by_admission t m note admits) kind = absurd (false≢true (sym (ap is_train_event admits.what) ∙ kind))
    fresh_line (by_hold t m why holds) kind = absurd (false≢true (sym (ap is_train_event holds.what) ∙ kind))
    fresh_line (by_end ends) kind = absurd (false≢true (sym (ap is_train_event ends.what) ∙ kind))

-- the account of a lawful front
pub account : (input : Input) → IsWellFormed input.plant → (front : Front) → is_lawful input front ≡ true → (p : Entry → Bool) → tally p (written front) + tally p (to_come input.plant front) ≡ tally p (all_events input.plant front)
account input fine front lawful p =
    let L : List Entry = all_events input.plant front in
    ap (λ n. tally p (written front) + n) (tally-filter p (λ e. not (stands front e)) L)
    ∙ balance input fine p L front lawful
    (once_among_events input.plant fine front (few_admissions input fine front lawful) (never_overlap input fine front lawful))
    (λ e stood kind. in_all_events input.plant front e (written_is_event input fine front lawful e stood kind))
    (λ e some. let of = from_all_events input.plant front e some in event_is_train input.plant of.train _ false e of.event)
