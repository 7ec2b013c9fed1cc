-- Counting events, and the lines that they are.
use Rattle.std.proofs.Common.{◌≡◌, ℕ, suc, ◌+◌, Bool, true, List, length, count_by, refl, sym, ap, arith}
use Rattle.std.proofs.lemmas.List.Recursion.{is_count_by}
use Rattle.rail_base.specs.declared.history.Entry.{Entry}
use Rattle.rail_rules.specs.Numbers.{gather}
use Rattle.rail_laws_events.specs.Accounts.{tally}
use Rattle.rail_laws_events.proofs.CallerLemmas.{tally-append}
use Rattle.rail_queue.specs.declared.event.Event.{Event}

-- what passes every test is as many as there are
pub count_all : (events : List Event) → count_by (λ _. true) events ≡ length events
count_all events = sym (is_count_by {X = Event} (λ (es : List Event). length es) (λ (_ : Event). true) refl (λ (x : Event) (xs : List Event). omega arith) events)

-- one more of the lists that are gathered adds its own tally
pub tally-gather_more : (p : Entry → Bool) (f : ℕ → List Entry) (n : ℕ) → tally p (gather f (suc n)) ≡ tally p (gather f n) + tally p (f n)
tally-gather_more p f n = tally-append p (gather f n) (f n)

-- one step more of two lists that are gathered
pub one_more : (p : Entry → Bool) (f g : ℕ → List Entry) (i start now between after : ℕ) → now ≡ start + (tally p (gather f i) + tally p (gather g i)) → between ≡ now + tally p (f i) → after ≡ between + tally p (g i) → after ≡ start + (tally p (gather f (i + 1)) + tally p (gather g (i + 1)))
one_more p f g i start now between after so_far first second =
    let next : i + 1 ≡ suc i = omega arith in
    omega (arith, so_far, first, second, tally-gather_more p f i, tally-gather_more p g i, ap (λ k. tally p (gather f k)) next, ap (λ k. tally p (gather g k)) next)

-- one step more of a list that is gathered
pub one_more_of_one : (p : Entry → Bool) (f : ℕ → List Entry) (i start now after : ℕ) → now ≡ start + tally p (gather f i) → after ≡ now + tally p (f i) → after ≡ start + tally p (gather f (i + 1))
one_more_of_one p f i start now after so_far added =
    let next : i + 1 ≡ suc i = omega arith in
    omega (arith, so_far, added, tally-gather_more p f i, ap (λ k. tally p (gather f k)) next)
