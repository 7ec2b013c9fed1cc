-- Events told apart, and their order.
use Rattle.std.proofs.Common.{◌≡◌, ℕ, ◌+◌, Bool, true, false, ◌&&◌, ◌||◌, eqb, cond, List, [], ◌∷◌, refl, sym, ◌∙◌, arith, ⊎_elim}
use Rattle.std.specs.Prelude.{count_by}
use Rattle.std.specs.List.{list_any}
use Rattle.std.proofs.lemmas.Bool.{cases_eq, ne_eqb, and_parts, and_from, eqb-true, eq-eqb, false≢true, or_left, or_right, cases_Bool, cond-false}
use Rattle.std.proofs.lemmas.List.Sums.{sum_by-cons}
use Rattle.rail_base.specs.declared.history.Entry.{Entry}
use Rattle.rail_base.specs.declared.history.What.{What}
use Rattle.rail_base.specs.declared.history.What.TheVariants as what
use Rattle.rail_rules.specs.Fronts.{rank}
use Rattle.rail_laws_events.specs.Accounts.{is_train_event}
use Rattle.rail_rules.specs.LineCounts.{is_command}
use Rattle.rail_queue.specs.declared.event.Event.{Event}
use Rattle.rail_queue.specs.declared.event.Class.{Class}
use Rattle.rail_queue.specs.declared.event.Class.TheVariants as class
use Rattle.rail_queue.specs.Order.{class_number, key}
use Rattle.rail_state.specs.Events.{event_of}

-- the two events are one
abbrev pub same_event : Event → Event → Bool
same_event a b = eqb a.at b.at && (eqb (class_number a.class) (class_number b.class) && (eqb a.number b.number && (eqb a.place b.place && eqb a.train b.train)))

eqb-self : (n : ℕ) → eqb n n ≡ true
eqb-self n = eq-eqb n n refl

pub same_event-self : (e : Event) → same_event e e ≡ true
same_event-self e =
    and_from (eqb e.at e.at) (eqb (class_number e.class) (class_number e.class) && (eqb e.number e.number && (eqb e.place e.place && eqb e.train e.train))) (eqb-self e.at)
    (and_from (eqb (class_number e.class) (class_number e.class)) (eqb e.number e.number && (eqb e.place e.place && eqb e.train e.train)) (eqb-self (class_number e.class))
    (and_from (eqb e.number e.number) (eqb e.place e.place && eqb e.train e.train) (eqb-self e.number)
    (and_from (eqb e.place e.place) (eqb e.train e.train) (eqb-self e.place) (eqb-self e.train))))

one_class : (a b : Class) → class_number a ≡ class_number b → a ≡ b
one_class class.Free class.Free h = refl
one_class class.Arrive class.Arrive h = refl
one_class class.Enter class.Enter h = refl
one_class class.Out class.Out h = refl
one_class class.Ready class.Ready h = refl
one_class class.Command class.Command h = refl
one_class a b h = absurd (omega (arith, h))

pub one_event : (a b : Event) → same_event a b ≡ true → a ≡ b
one_event a b h =
    let h0 = and_parts (eqb a.at b.at) (eqb (class_number a.class) (class_number b.class) && (eqb a.number b.number && (eqb a.place b.place && eqb a.train b.train))) h in
    let h1 = and_parts (eqb (class_number a.class) (class_number b.class)) (eqb a.number b.number && (eqb a.place b.place && eqb a.train b.train)) h0.1 in
    let h2 = and_parts (eqb a.number b.number) (eqb a.place b.place && eqb a.train b.train) h1.1 in
    let h3 = and_parts (eqb a.place b.place) (eqb a.train b.train) h2.1 in
    let p0 = eqb-true a.at b.at h0.0 in
    let p1 = one_class a.class b.class (eqb-true (class_number a.class) (class_number b.class) h1.0) in
    let p2 = eqb-true a.number b.number h2.0 in
    let p3 = eqb-true a.place b.place h3.0 in
    let p4 = eqb-true a.train b.train h3.1 in
    λ i. record { at = p0 i; class = p1 i; number = p2 i; place = p3 i; train = p4 i }

-- the line is one that may be due
abbrev pub is_due_kind : What → Bool
is_due_kind w = is_train_event w || is_command w

-- the order of the lines is that of their events
pub key_is_rank : (e : Entry) → is_due_kind e.what ≡ true → key (event_of e) ≡ rank e
key_is_rank e h = of e.at e.what h
  where
    of : (at : ℕ) (w : What) → is_due_kind w ≡ true → key (event_of (record { at = at; what = w })) ≡ rank (record { at = at; what = w })
    of at (what.Free x t) h = refl
    of at (what.Arrive t m) h = refl
    of at (what.Enter t m x) h = refl
    of at (what.Out t) h = refl
    of at (what.Ready t m) h = refl
    of at (what.Told k) h = refl
    of at (what.Untold k) h = refl
    of at (what.Admit t m note) h = absurd (false≢true h)
    of at (what.Hold t m why) h = absurd (false≢true h)
    of at what.End h = absurd (false≢true h)

-- counting
pub count-cons : (p : Event → Bool) (e : Event) (es : List Event) → count_by p (e ∷ es) ≡ cond (p e) 1 0 + count_by p es
count-cons p e es = sum_by-cons (λ x. cond (p x) 1 0) e es

pub count-none : (p : Event → Bool) (es : List Event) → list_any p es ≡ false → count_by p es ≡ 0
count-none p [] h = refl
count-none p (e ∷ es) h =
    ⊎_elim
    (λ here. absurd (false≢true (sym h ∙ or_left (p e) (list_any p es) here)))
    (λ not_here. ⊎_elim
    (λ later. absurd (false≢true (sym h ∙ or_right (p e) (list_any p es) later)))
    (λ not_later. omega (arith, count-cons p e es, cond-false {A = ℕ} (p e) 1 0 not_here, count-none p es not_later))
    (cases_Bool (list_any p es)))
    (cases_Bool (p e))

pub flip : (a b : ℕ) → eqb a b ≡ eqb b a
flip a b =
    ⊎_elim
    (λ same. eq-eqb a b same ∙ sym (eq-eqb b a (sym same)))
    (λ other. ne_eqb a b other ∙ sym (ne_eqb b a (λ e. other (sym e))))
    (cases_eq a b)
