-- The time of an event, which of two goes first by it, and causes told apart.
use Rattle.std.proofs.Common.{◌≡◌, ℕ, zero, suc, ◌<◌, true, ◌&&◌, eqb, List, [], ◌∷◌, Option, Some, None, refl, sym, ap, ◌∙◌}
use Rattle.std.proofs.lemmas.Bool.{or_left, lt-ltb}
use Rattle.std.specs.Prelude.{nat_lt}
use Rattle.std.specs.Cmp.Lexicographic.{bytes_decides}
use Rattle.rail_base.specs.declared.history.Entry.{Entry}
use Rattle.rail_base.specs.declared.history.What.{What}
use Rattle.rail_base.specs.declared.history.What.TheVariants as what
use Rattle.rail_rules.specs.Numbers.{comes_before}
use Rattle.rail_base.specs.declared.history.Cause.{Cause}
use Rattle.rail_base.specs.declared.history.Cause.TheVariants.{Stopped, Closed, Blocked, NoList}
use Rattle.rail_rules.specs.Fronts.{option_code, same_cause}
use Rattle.rail_queue.specs.declared.event.Event.{Event}
use Rattle.rail_queue.specs.Order.{class_number, goes_before}
use Rattle.rail_state.specs.Events.{event_of}

-- the event of a line has its time
pub event_time : (e : Entry) → (event_of e).at ≡ e.at
event_time e = of e.at e.what
  where
    of : (at : ℕ) (w : What) → (event_of (record { at = at; what = w })).at ≡ at
    of at (what.Free x t) = refl
    of at (what.Arrive t m) = refl
    of at (what.Enter t m x) = refl
    of at (what.Out t) = refl
    of at (what.Ready t m) = refl
    of at (what.Told k) = refl
    of at (what.Untold k) = refl
    of at (what.Admit t m note) = refl
    of at (what.Hold t m why) = refl
    of at what.End = refl

-- an earlier event goes before
pub before_by_time : (a b : Event) → a.at < b.at → goes_before a b ≡ true
before_by_time a b lt = or_left (nat_lt a.at b.at) (eqb a.at b.at && comes_before (class_number a.class ∷ a.number ∷ []) (class_number b.class ∷ b.number ∷ [])) (lt-ltb a.at b.at lt)

cause_back : List ℕ → Option Cause
cause_back [] = None
cause_back (zero ∷ xs) = Some Stopped
cause_back (suc zero ∷ []) = None
cause_back (suc zero ∷ x ∷ xs) = Some (Closed x)
cause_back (suc (suc zero) ∷ []) = None
cause_back (suc (suc zero) ∷ x ∷ []) = None
cause_back (suc (suc zero) ∷ x ∷ u ∷ xs) = Some (Blocked x u)
cause_back (suc (suc (suc n)) ∷ xs) = Some NoList

cause_is_back : (a : Option Cause) → cause_back (option_code a) ≡ a
unfolding cause_back
cause_is_back None = refl
cause_is_back (Some Stopped) = refl
cause_is_back (Some (Closed x)) = refl
cause_is_back (Some (Blocked x u)) = refl
cause_is_back (Some NoList) = refl

-- causes that are one by their numbers are one
pub one_cause : (a b : Option Cause) → same_cause a b ≡ true → a ≡ b
one_cause a b h = sym (cause_is_back a) ∙ ap cause_back ((bytes_decides (option_code a) (option_code b)).0 h) ∙ cause_is_back b
