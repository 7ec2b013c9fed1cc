-- The sets of the trains that pass a test, where trains are written; and the table of those that are blocked at a section.
use Rattle.std.proofs.Common.{◌≡◌, ◌≢◌, ℕ, ◌<◌, ◌≤◌, ◌==◌, Bool, true, false, not, ◌&&◌, cond, is_some, List, ◌++◌, length, get_or, set, take, drop, Option, Some, None, MatchOption, refl, sym, ◌∙◌, ap, subst, ◌⊎◌, inl, inr, ⊎_elim, arith}
use Rattle.std.proofs.Math.Seq.{take-append_seam}
use Rattle.std.proofs.lemmas.List.{get_or-set_same, get_or-set_other, get_or_default, get_or_past}
use Rattle.std.specs.Cmp.Lexicographic.{bytes_decides}
use Rattle.std.proofs.lemmas.Bool.{and_parts, cases_Bool, cases_lt, cond-true, cond-false, eq-eqb, eqb-true, false≢true, not-true}
use Rattle.std.proofs.lemmas.Bool.Decides.{nat_tests}
use Rattle.rail_base.specs.declared.history.Cause.{Cause}
use Rattle.rail_base.specs.declared.limits.TheConstants.{TRAINS}
use Rattle.rail_base.specs.declared.orders.Order.{Order}
use Rattle.rail_rules.specs.Fronts.{option_code, same_cause}
use Rattle.rail_rules.specs.Plant.{Plant, claimed}
use Rattle.rail_state.specs.declared.train.TrainState.{TrainState}
use Rattle.rail_sets.specs.declared.train_set.TrainSet.{TrainSet}
use Rattle.rail_state.specs.declared.train_sets.TrainSets.{TrainSets}
use Rattle.rail_sets.specs.TrainSets.{has_train}
use Rattle.rail_state.specs.BlockedAt.{set_at}
use Rattle.rail_laws_step.specs.HolderTables.{own_overlap}
use Rattle.rail_state.specs.TrainStates.{IsAnyWaiting, IsNextOf, after_hold_line, after_taking, is_blocked_at, is_touched, is_untried, lacks_hold_line, no_state, outlasts_taking, state_of, state_told, without_known}
use Rattle.rail_state.specs.TrainSearches.{AreBlockedAt, AreSetsOf, HaveNobody, IsSetOf, is_changeable, is_waiting, may_change}

-- what holds of the train that is written, and of the others as they were, holds of each train
pub written : (P : ℕ → TrainState → Type 0) (states : List TrainState) (t : ℕ) (train_state : TrainState) → t < length states → P t train_state → ((u : ℕ) → u ≢ t → P u (state_of states u)) → (u : ℕ) → P u (state_of (set states t train_state) u)
written P states t train_state lt here others u =
    ⊎_elim
    (λ below. subst (P u) (sym (get_or-set_other states t u train_state no_state (omega arith))) (others u (omega arith)))
    (λ above.
    ⊎_elim
    (λ past. subst (P u) (sym (get_or-set_other states t u train_state no_state (omega arith))) (others u (omega arith)))
    (λ at.
    let same : t ≡ u = omega arith in
    let Q : ℕ → Type 0 = λ k. P k (state_of (set states t train_state) k) in
    subst Q same (subst (P t) (sym (get_or-set_same states t train_state no_state lt)) here))
    (cases_lt t u))
    (cases_lt u t)

-- the item that was read is the train
pub train_read : (states : List TrainState) (t : ℕ) (train_state : TrainState) → t < length states → train_state ≡ get_or states t train_state → train_state ≡ state_of states t
train_read states t train_state lt read = read ∙ get_or_default states t train_state no_state lt

-- what is written over the whole of a list is there
pub written_back : (new old : List TrainState) (n : ℕ) → n ≡ length new → take n (new ++ drop (length new) old) ≡ new
written_back new old n long = ap (λ k. take k (new ++ drop (length new) old)) long ∙ take-append_seam new (drop (length new) old)

-- ---- sets

-- a train that passes a test that no missing one passes is one of the trains
pub passing_known : (test : TrainState → Bool) (states : List TrainState) (t : ℕ) → test no_state ≡ false → test (state_of states t) ≡ true → t < length states
passing_known test states t none passes =
    ⊎_elim
    (λ below. below)
    (λ past. absurd (false≢true (sym (ap test (get_or_past states t no_state past) ∙ none) ∙ passes)))
    (cases_lt t (length states))

other : (u t : ℕ) → u ≢ t → (u == t) ≡ false
other u t ne = grind (arith, nat_tests)

-- one train is written, and is in the set where it passes
pub put_set : (test : TrainState → Bool) (states : List TrainState) (those now : TrainSet) (t : ℕ) (train_state : TrainState) (passes : Bool) → t < length states → passes ≡ test train_state
    → ((u : ℕ) → has_train now u ≡ cond (u == t) passes (has_train those u)) → IsSetOf test states those → IsSetOf test (set states t train_state) now
put_set test states those now t train_state passes lt is put are =
    written (λ u r. has_train now u ≡ test r) states t train_state lt
    (put t ∙ cond-true (t == t) passes (has_train those t) (eq-eqb t t refl) ∙ is)
    (λ u ne. put u ∙ cond-false (u == t) passes (has_train those u) (other u t ne) ∙ are u)

-- one train is written, which doesn't pass and leaves the set
pub removed_set : (test : TrainState → Bool) (states : List TrainState) (those now : TrainSet) (t : ℕ) (train_state : TrainState) → t < length states → test train_state ≡ false
    → ((u : ℕ) → has_train now u ≡ (not (u == t) && has_train those u)) → IsSetOf test states those → IsSetOf test (set states t train_state) now
removed_set test states those now t train_state lt off left =
    put_set test states those now t train_state false lt (sym off) (λ u. left u ∙ by (u == t) (has_train those u))
  where
    by : (b c : Bool) → (not b && c) ≡ cond b false c
    by true c = refl
    by false c = refl

-- one train is written that passes the test as before
pub same_set : (test : TrainState → Bool) (states : List TrainState) (those : TrainSet) (t : ℕ) (train_state : TrainState) → t < length states → test train_state ≡ test (state_of states t)
    → IsSetOf test states those → IsSetOf test (set states t train_state) those
same_set test states those t train_state lt same are =
    written (λ u r. has_train those u ≡ test r) states t train_state lt (are t ∙ sym same) (λ u _. are u)

-- one train is written that passes all tests as before
pub same_sets : (states : List TrainState) (sets : TrainSets) (t : ℕ) (train_state : TrainState) → t < length states → is_waiting train_state ≡ is_waiting (state_of states t)
    → is_untried train_state ≡ is_untried (state_of states t) → lacks_hold_line train_state ≡ lacks_hold_line (state_of states t) → is_changeable train_state ≡ is_changeable (state_of states t)
    → AreSetsOf states sets → AreSetsOf (set states t train_state) sets
same_sets states sets t train_state lt waits untried lacks changeable are = record {
  waiting = same_set is_waiting states sets.waiting t train_state lt waits are.waiting;
  untried = same_set is_untried states sets.untried t train_state lt untried are.untried;
  lacking = same_set lacks_hold_line states sets.lacking t train_state lt lacks are.lacking;
  changeable = same_set is_changeable states sets.changeable t train_state lt changeable are.changeable;
}

-- a train whose cause isn't known waits where it is untried, lacks no hold line, and has no cause that may change
pub untried_unknown : (train_state : TrainState) → train_state.known ≡ None → train_state.waits ≡ is_untried train_state
untried_unknown train_state none = sym (ap (λ known. train_state.waits && not (is_some known)) none ∙ by train_state.waits)
  where
    by : (b : Bool) → (b && true) ≡ b
    by true = refl
    by false = refl

pub lacks_unknown : (train_state : TrainState) → train_state.known ≡ None → lacks_hold_line train_state ≡ false
lacks_unknown train_state none =
    ap (λ known. train_state.waits && is_some known && not (same_cause train_state.last_hold known)) none ∙ by train_state.waits (not (same_cause train_state.last_hold None))
  where
    by : (b c : Bool) → ((b && false) && c) ≡ false
    by true c = refl
    by false c = refl

pub changes_unknown : (train_state : TrainState) → train_state.known ≡ None → is_changeable train_state ≡ false
changes_unknown train_state none = ap (may_change train_state.at_first) none

and_false : (b : Bool) → (b && false) ≡ false
and_false true = refl
and_false false = refl

-- a train whose cause is known isn't untried
pub tried_known : (train_state : TrainState) → is_some train_state.known ≡ true → is_untried train_state ≡ false
tried_known train_state some = ap (λ b. train_state.waits && not b) some ∙ and_false train_state.waits

-- a train that was given its hold line doesn't lack it
pub lacks_none : (train_state : TrainState) → lacks_hold_line (after_hold_line train_state) ≡ false
lacks_none train_state =
    ap (λ b. train_state.waits && is_some train_state.known && not b) ((bytes_decides (option_code train_state.known) (option_code train_state.known)).1 refl)
    ∙ and_false (train_state.waits && is_some train_state.known)

-- no cause is known
pub unknown_is : (known : Option Cause) → is_some known ≡ false → known ≡ None
unknown_is None off = refl
unknown_is (Some why) off = absurd (false≢true (sym off))

-- an untried train waits, and its cause isn't known
pub untried_parts : (train_state : TrainState) → is_untried train_state ≡ true → (train_state.waits ≡ true) × (train_state.known ≡ None)
untried_parts train_state untried =
    let parts = and_parts train_state.waits (not (is_some train_state.known)) untried in
    (parts.0, unknown_is train_state.known (not-true (is_some train_state.known) parts.1))

-- nobody passes a test
pub no_sets : (states : List TrainState) (sets : TrainSets) → HaveNobody sets
    → ((t : ℕ) → is_waiting (state_of states t) ≡ false) → ((t : ℕ) → is_untried (state_of states t) ≡ false) → ((t : ℕ) → lacks_hold_line (state_of states t) ≡ false)
    → ((t : ℕ) → is_changeable (state_of states t) ≡ false) → AreSetsOf states sets
no_sets states sets none waits untried lacks changeable = record {
  waiting = λ t. none.waiting t ∙ sym (waits t);
  untried = λ t. none.untried t ∙ sym (untried t);
  lacking = λ t. none.lacking t ∙ sym (lacks t);
  changeable = λ t. none.changeable t ∙ sym (changeable t);
}

-- what is found from a number on in a set
abbrev pub IsFoundFrom : TrainSet → ℕ → Option ℕ → Type 0
IsFoundFrom those number found = MatchOption found ((t : ℕ) → number ≤ t → has_train those t ≡ false)
    (λ train. (number ≤ train) × (train < TRAINS) × (has_train those train ≡ true) × ((t : ℕ) → number ≤ t → t < train → has_train those t ≡ false))

-- what is found in the set of those that pass a test is the next one that passes
pub found_next : (test : TrainState → Bool) (states : List TrainState) (those : TrainSet) (number : ℕ) (found : Option ℕ) → test no_state ≡ false → IsSetOf test states those
    → IsFoundFrom those number found → IsNextOf test states number found
found_next test states those number None none are found = λ t le. sym (are t) ∙ found t le
found_next test states those number (Some train) none are found = (
  passing_known test states train none (sym (are train) ∙ found.2),
  found.0,
  sym (are train) ∙ found.2,
  λ t le lt. sym (are t) ∙ found.3 t le lt,
)

-- ---- the table of those that are blocked at a section

-- what is known of the train is as before, or nothing
abbrev pub KnowsNoMore : TrainState → TrainState → Type 0
KnowsNoMore old new = (new.known ≡ old.known) ⊎ (new.known ≡ None)

-- a train of which no more is known is blocked at a section at which it was blocked
blocked_before : (x : ℕ) (old new : TrainState) → KnowsNoMore old new → is_blocked_at x new.known ≡ true → is_blocked_at x old.known ≡ true
blocked_before x old new knows is =
    ⊎_elim
    (λ same. ap (is_blocked_at x) (sym same) ∙ is)
    (λ none. absurd (false≢true (sym (ap (is_blocked_at x) none) ∙ is)))
    knows

-- where no more is known of any train, the table has those that are blocked at each section
pub blocked_still : (old new : List TrainState) (blocked : List TrainSet) → ((t : ℕ) → KnowsNoMore (state_of old t) (state_of new t)) → AreBlockedAt old blocked → AreBlockedAt new blocked
blocked_still old new blocked knows are t x is = are t x (blocked_before x (state_of old t) (state_of new t) (knows t) is)

-- one train is written, of which no more is known
pub blocked_at : (states : List TrainState) (blocked : List TrainSet) (t : ℕ) (train_state : TrainState) → t < length states → KnowsNoMore (state_of states t) train_state
    → AreBlockedAt states blocked → AreBlockedAt (set states t train_state) blocked
blocked_at states blocked t train_state lt here =
    blocked_still states (set states t train_state) blocked (written (λ u now. KnowsNoMore (state_of states u) now) states t train_state lt here (λ u _. inl refl))

-- one train is written, which is blocked at no section
pub blocked_unless : (states : List TrainState) (blocked : List TrainSet) (t : ℕ) (train_state : TrainState) → t < length states → ((x : ℕ) → is_blocked_at x train_state.known ≡ false)
    → AreBlockedAt states blocked → AreBlockedAt (set states t train_state) blocked
blocked_unless states blocked t train_state lt here are u x =
    written (λ u now. is_blocked_at x now.known ≡ true → has_train (set_at blocked x) u ≡ true) states t train_state lt (λ is. absurd (false≢true (sym (here x) ∙ is))) (λ u _. are u x) u

known_unless : (b : Bool) (known : Option Cause) → (cond b None known ≡ known) ⊎ (cond b None known ≡ None)
known_unless true known = inr refl
known_unless false known = inl refl

-- no more is known of a train that noted what was taken
pub knows_taken : (plant : Plant) (holders : List (Option ℕ)) (t : ℕ) (train_state : TrainState) → KnowsNoMore train_state (after_taking plant holders t train_state)
knows_taken plant holders t train_state = by (train_state.waits && outlasts_taking holders t (own_overlap plant t train_state.place) (claimed plant t train_state.place) train_state.known)
  where
    by : (b : Bool) → (cond b train_state.known None ≡ train_state.known) ⊎ (cond b train_state.known None ≡ None)
    by true = inl refl
    by false = inr refl

-- no more is known of a train to which orders are told
pub knows_told : (plant : Plant) (orders : List Order) (t : ℕ) (train_state : TrainState) → KnowsNoMore train_state (state_told plant orders t train_state)
knows_told plant orders t train_state = known_unless (is_touched plant orders t train_state) train_state.known

-- no more is known of trains that are changed so
pub knows_each : (change : ℕ → TrainState → TrainState) (old new : List TrainState) → ((t : ℕ) (train_state : TrainState) → KnowsNoMore train_state (change t train_state))
    → ((t : ℕ) → state_of new t ≡ change t (state_of old t)) → (t : ℕ) → KnowsNoMore (state_of old t) (state_of new t)
knows_each change old new knows each t = subst (KnowsNoMore (state_of old t)) (sym (each t)) (knows t (state_of old t))

-- nobody is blocked then at the section, whose trains may leave the table
pub blocked_again : (x : ℕ) (old new : List TrainState) (blocked left : List TrainSet) → ((t : ℕ) → state_of new t ≡ without_known x (state_of old t)) → ((y : ℕ) → y ≢ x → set_at left y ≡ set_at blocked y)
    → AreBlockedAt old blocked → AreBlockedAt new left
blocked_again x old new blocked left each others are t y is =
    ⊎_elim
    (λ same. absurd (false≢true (sym (none (state_of old t).known) ∙ ap (λ (r : TrainState). is_blocked_at x r.known) (sym (each t)) ∙ ap (λ z. is_blocked_at z (state_of new t).known) (sym (eqb-true y x same)) ∙ is)))
    (λ apart.
    ap (λ those. has_train those t) (others y (λ same. false≢true (sym apart ∙ eq-eqb y x same)))
    ∙ are t y (blocked_before y (state_of old t) (state_of new t) (knows_each (λ _. without_known x) old new (λ _ r. known_unless (is_blocked_at x r.known) r.known) each t) is))
    (cases_Bool (y == x))
  where
    none : (known : Option Cause) → is_blocked_at x (cond (is_blocked_at x known) None known) ≡ false
    none known = ⊎_elim (λ yes. rw yes refl) (λ no. ap (λ b. is_blocked_at x (cond b None known)) no ∙ no) (cases_Bool (is_blocked_at x known))

-- the first train that passes the test
abbrev pub IsFirstWith : (TrainState → Bool) → List TrainState → Option ℕ → Type 0
IsFirstWith test states found = MatchOption found ((t : ℕ) → test (state_of states t) ≡ false)
    (λ train. (train < length states) × (test (state_of states train) ≡ true) × ((u : ℕ) → u < train → test (state_of states u) ≡ false))

-- it is the next one from 0 on
pub first_of_next : (test : TrainState → Bool) (states : List TrainState) (found : Option ℕ) → IsNextOf test states 0 found → IsFirstWith test states found
first_of_next test states None next = λ t. next t (omega arith)
first_of_next test states (Some train) next = (next.0, next.2, λ u lt. next.3 u (omega arith) lt)

-- some train waits
pub any_of_next : (states : List TrainState) (found : Option ℕ) → is_some found ≡ true → IsNextOf is_waiting states 0 found → IsAnyWaiting states
any_of_next states None is next = absurd (false≢true is)
any_of_next states (Some train) is next = record { train = train; there = next.0; waits = next.2 }
