-- Of two lists of numbers of one length one comes before the other, or they are the same.
use Rattle.std.proofs.Common.{◌≡◌, ℕ, ◌<◌, ◌≤◌, Bool, true, false, ◌&&◌, eqb, ltb, List, [], ◌∷◌, length, refl, sym, ap, ◌∙◌, ⊎_elim, arith}
use Rattle.std.specs.List.{list_any}
use Rattle.std.proofs.lemmas.Bool.{cases_Bool, cases_lt, false≢true, and_from, or_cases, or_left, or_right, or_parts, eq-eqb, lt-ltb, cond-true}
use Rattle.rail_base.specs.declared.history.Entry.{Entry}
use Rattle.rail_base.specs.declared.history.What.{What}
use Rattle.rail_base.specs.declared.history.What.TheVariants.{Free, Arrive, Enter, Out, Ready, Told, Untold, Admit, Hold, End}
use Rattle.rail_rules.specs.Numbers.{comes_before}
use Rattle.rail_rules.specs.Fronts.{rank, same_entry}
use Rattle.rail_laws_front.specs.Views.{is_event}
use Rattle.rail_laws_events.specs.Accounts.{tally}
use Rattle.rail_laws_events.proofs.CallerLemmas.{one_entry, tally-some}

pub neither_before : (xs ys : List ℕ) → length xs ≡ length ys → comes_before xs ys ≡ false → comes_before ys xs ≡ false → xs ≡ ys
neither_before [] [] long first second = refl
neither_before [] (y ∷ ys) long first second = absurd (omega (arith, long))
neither_before (x ∷ xs) [] long first second = absurd (omega (arith, long))
neither_before (x ∷ xs) (y ∷ ys) long first second =
    let a = or_parts (ltb x y) (eqb x y && comes_before xs ys) first in
    let b = or_parts (ltb y x) (eqb y x && comes_before ys xs) second in
    let rest : comes_before xs ys ≡ false → comes_before ys xs ≡ false → xs ≡ ys = neither_before xs ys (omega (arith, long)) in
    let same : x ≡ y =
    ⊎_elim
    (λ less. absurd (false≢true (sym a.0 ∙ lt-ltb x y less)))
    (λ no_less. ⊎_elim
    (λ more. absurd (false≢true (sym b.0 ∙ lt-ltb y x more)))
    (λ no_more. omega (arith, no_less, no_more))
    (cases_lt y x))
    (cases_lt x y) in
    let later : xs ≡ ys =
    rest
    (⊎_elim (λ is. absurd (false≢true (sym a.1 ∙ and_from (eqb x y) (comes_before xs ys) (eq-eqb x y same) is))) (λ none. none) (cases_Bool (comes_before xs ys)))
    (⊎_elim (λ is. absurd (false≢true (sym b.1 ∙ and_from (eqb y x) (comes_before ys xs) (eq-eqb y x (sym same)) is))) (λ none. none) (cases_Bool (comes_before ys xs))) in
    λ i. same i ∷ later i

-- ranks of event lines are of one length
pub event_rank : (e : Entry) → is_event e.what ≡ true → length (rank e) ≡ 3
event_rank e h = by_what e.what h
  where
    by_what : (what : What) → is_event what ≡ true → length (rank (record { at = e.at; what = what })) ≡ 3
    by_what (Free x t) h = refl
    by_what (Arrive t m) h = refl
    by_what (Enter t m x) h = refl
    by_what (Out t) h = refl
    by_what (Ready t m) h = refl
    by_what (Told k) h = refl
    by_what (Untold k) h = refl
    by_what (Admit t m note) h = absurd (false≢true h)
    by_what (Hold t m why) h = absurd (false≢true h)
    by_what End h = absurd (false≢true h)

-- what holds of no entry of a list holds of none that stands there
pub none_at : (p : Entry → Bool) (xs : List Entry) (e : Entry) → list_any (same_entry e) xs ≡ true → list_any p xs ≡ false → p e ≡ false
none_at p [] e is none = absurd (false≢true is)
none_at p (x ∷ xs) e is none =
    let both = or_parts (p x) (list_any p xs) none in
    let rest : list_any (same_entry e) xs ≡ true → p e ≡ false = λ later. none_at p xs e later both.1 in
    ⊎_elim
    (λ here. ap p (one_entry e x here) ∙ both.0)
    (λ later. rest later)
    (or_cases (same_entry e x) (list_any (same_entry e) xs) is)

-- two entries that pass a test that one entry at most passes are one
pub only_one : (p : Entry → Bool) (xs : List Entry) (e f : Entry) → list_any (same_entry e) xs ≡ true → list_any (same_entry f) xs ≡ true → p e ≡ true → p f ≡ true → tally p xs ≤ 1 → e ≡ f
only_one p [] e f is_e is_f pe pf few = absurd (false≢true is_e)
only_one p (x ∷ xs) e f is_e is_f pe pf few =
    let some : (g : Entry) → p g ≡ true → list_any (same_entry g) xs ≡ true → 0 < tally p xs = λ g pg is. tally-some p xs (found_in xs g pg is) in
    let rest : list_any (same_entry e) xs ≡ true → list_any (same_entry f) xs ≡ true → e ≡ f = λ le lf. only_one p xs e f le lf pe pf (omega (arith, few)) in
    ⊎_elim
    (λ e_here. ⊎_elim
    (λ f_here. one_entry e x e_here ∙ sym (one_entry f x f_here))
    (λ f_later. absurd (omega (arith, few, some f pf f_later, cond-true {A = ℕ} (p x) 1 0 (ap p (sym (one_entry e x e_here)) ∙ pe))))
    (or_cases (same_entry f x) (list_any (same_entry f) xs) is_f))
    (λ e_later. ⊎_elim
    (λ f_here. absurd (omega (arith, few, some e pe e_later, cond-true {A = ℕ} (p x) 1 0 (ap p (sym (one_entry f x f_here)) ∙ pf))))
    (λ f_later. rest e_later f_later)
    (or_cases (same_entry f x) (list_any (same_entry f) xs) is_f))
    (or_cases (same_entry e x) (list_any (same_entry e) xs) is_e)
  where
    found_in : (xs : List Entry) (g : Entry) → p g ≡ true → list_any (same_entry g) xs ≡ true → list_any p xs ≡ true
    found_in [] g pg is = absurd (false≢true is)
    found_in (y ∷ ys) g pg is =
        ⊎_elim
        (λ here. or_left (p y) (list_any p ys) (ap p (sym (one_entry g y here)) ∙ pg))
        (λ later. or_right (p y) (list_any p ys) (found_in ys g pg later))
        (or_cases (same_entry g y) (list_any (same_entry g) ys) is)
