-- Admissions that are judged.
use Rattle.std.proofs.Common.{◌≡◌, ◌↔◌, ℕ, suc, ◌+◌, ◌-◌, ◌<◌, ◌≤◌, Bool, true, false, not, ◌&&◌, ◌||◌, cond, eqb, List, [], ◌∷◌, length, get_or, Option, Some, None, is_some, refl, sym, ap, ◌∙◌, subst, ⊎_elim, arith}
use Rattle.std.specs.Prelude.{nat_lt}
use Rattle.std.proofs.lemmas.Bool.{and_parts, and_from, cases_lt, cond-true, cond-false, eqb-true, eq-eqb, ne_eqb, or_parts, false≢true, false_from_ne_true, ltb-true, not-true, not_from_false, not_from_true}
use Rattle.std.proofs.lemmas.List.{get_or_past}
use Rattle.rail_base.specs.declared.history.Cause.{Cause}
use Rattle.rail_base.specs.declared.history.Note.{Note}
use Rattle.rail_base.specs.declared.history.Note.TheVariants.{Pulled, Appended, Fresh}
use Rattle.rail_base.specs.declared.history.What.TheVariants.{Admit}
use Rattle.rail_rules.specs.Moves.{Moves}
use Rattle.rail_rules.specs.Numbers.{sum_below}
use Rattle.rail_rules.specs.Places.{after, completes, holds, is_legal, place_of}
use Rattle.rail_rules.specs.Plant.{moves, moves_of, claimed, trains}
use Rattle.rail_rules.specs.Fronts.{Front, Line, has_ended, has_held, instant, kept, kept_after, places, with_rest_of, without_first}
use Rattle.rail_rules.specs.Orders.{told}
use Rattle.rail_rules.specs.Causes.{closed_cause, is_deciding, is_ready, place, stop_cause, waits}
use Rattle.rail_rules.specs.Lawful.{is_bare, may_follow, note_fits}
use Rattle.rail_laws_front.proofs.CallerLemmas.{place_in, places_raised, unbarred_legal, timely}
use Rattle.rail_laws_step.specs.HolderTables.{held_cause, own_overlap}
use Rattle.rail_laws_verdict.specs.Verdicts.{broken_law, is_forbidden, is_misplaced, is_occupied}
use Rattle.rail_place.specs.PlaceStates.{State, IsMadeFor}
use Rattle.rail_place.specs.Tables.{moves_in, MoveLists}
use Rattle.rail_list.specs.Failures.{AreFailures, Failed}
use Rattle.rail_list.specs.KeptLists.{Kept}
use Rattle.rail_queue.specs.Order.{is_sorted}
use Rattle.rail_list.specs.GivenLists.{given_list, may_be_given}
use Rattle.rail_state.specs.TrainStates.{no_state, state_of}
use Rattle.rail_state.specs.Representation.{IsAdmissible, MayKeep, admit_line, is_due_now}
use Rattle.rail_state.proofs.CallerLemmas.{well_formed_plant, holders_block, judged, waits_is, admitted_line, kept_is, left_of_ready, bar_seen}
use Rattle.rail_state.specs.Representation.{IsAdmitLine}
use Rattle.rail_block.specs.declared.times.MoveTimes.{MoveTimes}
use Rattle.rail_state.specs.declared.train.TrainState.{TrainState}
use Rattle.rail_ledger.specs.Ledgers.{list_with}
use Rattle.rail_state.specs.Admissions.{IsGivable}
use Rattle.rail_ledger.proofs.Making.{givable}
use Rattle.std.specs.List.{list_all}
use Rattle.rail_rules.specs.Numbers.{or_else}
use Rattle.rail_orders.specs.OrderTables.{closed_in, stop_in}
use Rattle.rail_orders.proofs.CallerLemmas.{closed_is, stop_is}
use Rattle.rail_ledger.proofs.Ordered.{sections_known}
use Rattle.rail_state.specs.SeenCauses.{seen_bar}
use Rattle.std.specs.Prelude.{replicate, ◌++◌}
use Rattle.rail_ledger.specs.declared.ledger.Ledger.{Ledger}
use Rattle.rail_ledger.specs.Inputs.{dispatch_in, input_in}
use Rattle.rail_ledger.specs.Ledgers.{HasGiven, IsAt, admission, is_forbidden_by, is_in_place, is_next_move}
use Rattle.rail_state.specs.declared.run_state.RunState.{RunState}

-- a train that waits is one of the plant, with a move left
pub known_of : (front : Front) (ledger : Ledger) → IsAt front ledger → (t : ℕ) → (state_of ledger.state.trains t).waits ≡ true → t < trains ledger.input.plant
known_of front ledger at t waits_it =
    ⊎_elim
    (λ lt. lt)
    (λ past. absurd (false≢true (sym (ap (λ r. r.waits) (get_or_past ledger.state.trains t no_state (omega (arith, past, at.rep.times.many)))) ∙ waits_it)))
    (cases_lt t (trains ledger.input.plant))

pub left_of : (front : Front) (ledger : Ledger) → IsAt front ledger → (t : ℕ) → (state_of ledger.state.trains t).waits ≡ true → place front t < moves ledger.input.plant t
left_of front ledger at t waits_it =
    let ready : is_ready (input_in ledger.input) front t ≡ true = sym (at.rep.waiting.ready t (known_of front ledger at t waits_it)) ∙ waits_it in
    left_of_ready (dispatch_in ledger.input) ledger.input.plant front t ready

-- where the first of two is not there, and then the second, neither is
neither : (a b : Option Cause) → is_some (or_else a b) ≡ false → (is_some a ≡ false) × (is_some b ≡ false)
neither None b none = (refl, none)
neither (Some cause) b none = absurd (false≢true (sym none))

pub legal_admissible : (table : List MoveLists) (front : Front) (ledger : Ledger) → moves_in table ≡ moves_of ledger.input.plant → IsAt front ledger
    → is_deciding (input_in ledger.input) front ≡ true → (t : ℕ) → IsAdmissible (dispatch_in ledger.input) ledger.input.plant front ledger.state.holders ledger.state.trains t
    → is_legal (moves_in table) ledger.places.positions t ≡ true
legal_admissible table front ledger same at deciding t next =
    ap (λ plan. is_legal plan ledger.places.positions t) same
    ∙ ap (λ s. is_legal (moves_of ledger.input.plant) s t) at.placed.positions
    ∙ unbarred_legal (input_in ledger.input) (well_formed_plant ledger.input.plant at.rep.accepted) front t (timely (input_in ledger.input) (well_formed_plant ledger.input.plant at.rep.accepted) front at.rep.lawful)
    (ap is_some (bar_seen (dispatch_in ledger.input) ledger.input.plant front ledger.state at.rep deciding t ∙ next.free)) (left_of front ledger at t next.waits)

pub given_exact : (table : List MoveLists) (front : Front) (ledger : Ledger) → moves_in table ≡ moves_of ledger.input.plant → IsAt front ledger → (t : ℕ) (note : Note) (list : List ℕ)
    → may_be_given (moves_in table) ledger.places.positions ledger.kept.trains t note list
    ≡ may_be_given (moves_of ledger.input.plant) (places ledger.input.plant front) (kept ledger.input.plant front) t note list
given_exact table front ledger same at t note list = λ i. may_be_given (same i) (at.placed.positions i) (at.keeps.is_list i) t note list

pub has_given : (table : List MoveLists) (front : Front) (old new : Ledger) → moves_in table ≡ moves_of old.input.plant → IsAt front old → (t : ℕ) (note : Note) (list : List ℕ)
    → IsMadeFor table new.places → AreFailures (moves_in table) old.input.plant.tables.depth new.places.positions new.failures
    → new.kept.room ≡ old.kept.room → new.places.positions ≡ after old.places.positions t
    → new.kept.trains ≡ given_list (moves_in table) old.kept.trains t note list → HasGiven front old new t note list
has_given table front old new same at t note list made failing room moved is = record {
  list_is = is ∙ (λ i. given_list (same i) (at.keeps.is_list i) t note list);
  positions = moved ∙ ap (λ s. after s t) at.placed.positions;
  room = made.room;
  counted = made.counted;
  told = subst (λ (plan : Moves). (x u : ℕ) → (get_or new.places.owners x None ≡ Some u) ↔ (holds plan new.places.positions u x ≡ true)) same made.told;
  list_room = subst (λ n. sum_below (moves old.input.plant) (trains old.input.plant) ≤ n) (sym room) at.keeps.room;
  failures = subst (λ (plan : Moves). AreFailures plan old.input.plant.tables.depth new.places.positions new.failures) same failing;
}

module _ (front : Front) (ledger : Ledger) (at : IsAt front ledger) (going : ledger.state.has_ended ≡ false) (sorted : is_sorted ledger.state.queue.events ≡ true) (when t m : ℕ) (note : Note) (list : List ℕ) (after_hold : Bool) (after_hold_is : after_hold ≡ has_held front) where
  abbrev line : Line
  line = admission when t m note list

  abbrev train_state : TrainState
  train_state = state_of ledger.state.trains t

  still : has_ended front ≡ false
  still = sym at.rep.ended ∙ going

  -- what it means that an admission is in place
  pub record InPlace : Type 0 where
    pub now : when ≡ ledger.state.instant
    pub not_due : is_due_now ledger.state ≡ false
    pub waits_it : train_state.waits ≡ true
    pub next : m ≡ suc train_state.place
    pub unheld : after_hold ≡ false

  in_place : is_in_place ledger when t m after_hold ≡ true → InPlace
  in_place h =
      let a = eqb when ledger.state.instant in
      let b = not (is_due_now ledger.state) in
      let c = is_next_move ledger.state.trains t m in
      let p3 = and_parts (a && b && c) (not after_hold) h in
      let p2 = and_parts (a && b) c p3.0 in
      let p1 = and_parts a b p2.0 in
      let q = and_parts train_state.waits (eqb m (suc train_state.place)) p2.1 in
      record { now = eqb-true when ledger.state.instant p1.0; not_due = not-true (is_due_now ledger.state) p1.1; waits_it = q.0; next = eqb-true m (suc train_state.place) q.1; unheld = not-true after_hold p3.1 }

  from_place : InPlace → is_in_place ledger when t m after_hold ≡ true
  from_place f =
      let a = eqb when ledger.state.instant in
      let b = not (is_due_now ledger.state) in
      let c = is_next_move ledger.state.trains t m in
      and_from (a && b && c) (not after_hold) (and_from (a && b) c (and_from a b (eq-eqb when ledger.state.instant f.now) (not_from_false (is_due_now ledger.state) f.not_due))
      (and_from train_state.waits (eqb m (suc train_state.place)) f.waits_it (eq-eqb m (suc train_state.place) f.next))) (not_from_false after_hold f.unheld)

  module _ (f : InPlace) where
    waits_now : waits (input_in ledger.input) front t ≡ true
    waits_now = waits_is (dispatch_in ledger.input) ledger.input.plant front ledger.state at.rep still sorted t ∙ and_from (not (is_due_now ledger.state)) train_state.waits (not_from_false (is_due_now ledger.state) f.not_due) f.waits_it

    pub decides : is_deciding (input_in ledger.input) front ≡ true
    decides = (and_parts (is_deciding (input_in ledger.input) front) (is_ready (input_in ledger.input) front t) waits_now).0

    place_same : train_state.place ≡ place front t
    place_same = at.rep.times.places t (known_of front ledger at t f.waits_it)

    placed : is_misplaced (input_in ledger.input) front line t m ≡ false
    placed =
        not_from_true ((eqb when (instant front) && waits (input_in ledger.input) front t && eqb m (suc (place front t))) && not (has_held front))
        (and_from (eqb when (instant front) && waits (input_in ledger.input) front t && eqb m (suc (place front t))) (not (has_held front))
        (and_from (eqb when (instant front) && waits (input_in ledger.input) front t) (eqb m (suc (place front t)))
        (and_from (eqb when (instant front)) (waits (input_in ledger.input) front t) (eq-eqb when (instant front) (f.now ∙ at.rep.time)) waits_now)
        (eq-eqb m (suc (place front t)) (f.next ∙ ap suc place_same)))
        (not_from_false (has_held front) (sym after_hold_is ∙ f.unheld)))

    known : t < trains ledger.input.plant
    known = known_of front ledger at t f.waits_it

    all_known : list_all (λ x. nat_lt x (length ledger.input.plant.tables.sections)) (claimed ledger.input.plant t (place front t)) ≡ true
    all_known = sections_known ledger.input.plant at.rep.accepted t known (place front t) (left_of front ledger at t f.waits_it)

    stop_now : stop_in ledger.orders t ≡ stop_cause t (told ledger.input.commands.items front)
    stop_now = stop_is ledger.input.plant ledger.input.deck.items ledger.input.force (told ledger.input.commands.items front) ledger.orders t at.ordered known

    closed_now : closed_in ledger.orders (claimed ledger.input.plant t train_state.place) ≡ closed_cause (claimed ledger.input.plant t (place front t)) (told ledger.input.commands.items front)
    closed_now = ap (λ p. closed_in ledger.orders (claimed ledger.input.plant t p)) place_same
        ∙ closed_is ledger.input.plant ledger.input.deck.items ledger.input.force (told ledger.input.commands.items front) ledger.orders (claimed ledger.input.plant t (place front t)) at.ordered all_known

    forbidden_is : is_forbidden (input_in ledger.input) front t ≡ is_forbidden_by ledger.orders t (claimed ledger.input.plant t train_state.place)
    forbidden_is = (λ i. is_some (sym stop_now i) || is_some (sym closed_now i))

    occupied_is : is_occupied (input_in ledger.input) front t ≡ is_some (held_cause ledger.state.holders t (own_overlap ledger.input.plant t train_state.place) (claimed ledger.input.plant t train_state.place))
    occupied_is =
        ap is_some (holders_block (input_in ledger.input) at.rep.accepted front at.rep.lawful decides ledger.state.holders at.rep.holders t (claimed ledger.input.plant t (place front t)))
        ∙ ap (λ p. is_some (held_cause ledger.state.holders t (own_overlap ledger.input.plant t p) (claimed ledger.input.plant t p))) (sym place_same)

  law_is : broken_law (input_in ledger.input) front line ≡ cond (is_misplaced (input_in ledger.input) front line t m) 2 (cond (is_forbidden (input_in ledger.input) front t) 3 (cond (is_occupied (input_in ledger.input) front t) 4 5))
  law_is = cond-false (has_ended front) 1 _ still

  -- what a line that may follow says of what is kept
  record Fits : Type 0 where
    place_fits : InPlace
    allowed : is_forbidden_by ledger.orders t (claimed ledger.input.plant t train_state.place) ≡ false
    free : is_some (held_cause ledger.state.holders t (own_overlap ledger.input.plant t train_state.place) (claimed ledger.input.plant t train_state.place)) ≡ false
    given : may_be_given (moves_of ledger.input.plant) (places ledger.input.plant front) (kept ledger.input.plant front) t note list ≡ true

  fits : may_follow (input_in ledger.input) front line ≡ true → Fits
  fits may =
      let chain = sym (judged (dispatch_in ledger.input) ledger.input.plant front ledger.state at.rep still sorted line t m note refl after_hold after_hold_is) ∙ may in
      let p6 = and_parts _ (completes (moves_of ledger.input.plant) (after (places ledger.input.plant front) t) (kept_after ledger.input.plant (kept ledger.input.plant front) line (Admit t m note))) chain in
      let p5 = and_parts _ (note_fits line train_state.place note) p6.0 in
      let p4 = and_parts _ (not after_hold) p5.0 in
      let p3 = and_parts _ (eqb m (suc train_state.place)) p4.0 in
      let p2 = and_parts _ (not (is_some (seen_bar (told ledger.input.commands.items front) ledger.state.holders t (own_overlap ledger.input.plant t train_state.place) (claimed ledger.input.plant t train_state.place)))) p3.0 in
      let p1 = and_parts (eqb when ledger.state.instant) (not (is_due_now ledger.state) && train_state.waits) p2.0 in
      let q = and_parts (not (is_due_now ledger.state)) train_state.waits p1.1 in
      let f : InPlace = record { now = eqb-true when ledger.state.instant p1.0; not_due = not-true (is_due_now ledger.state) q.0; waits_it = q.1; next = eqb-true m (suc train_state.place) p3.1; unheld = not-true after_hold p4.1 } in
      record {
        place_fits = f;
        allowed = ap (λ o. is_some o || is_some (closed_in ledger.orders (claimed ledger.input.plant t train_state.place))) (stop_now f)
            ∙ ap (λ o. is_some (stop_cause t (told ledger.input.commands.items front)) || is_some o) (closed_now f)
            ∙ (λ i. (bars f p2.1).0 i || is_some (closed_cause (claimed ledger.input.plant t (sym (place_same f) i)) (told ledger.input.commands.items front)))
            ∙ (bars f p2.1).1;
        free = (bars f p2.1).2;
        given = by_note f note p5.1 p6.1;
      }
    where
      -- what bars nothing is neither a stop nor a closed section nor a taken one
      bars : InPlace → not (is_some (seen_bar (told ledger.input.commands.items front) ledger.state.holders t (own_overlap ledger.input.plant t train_state.place) (claimed ledger.input.plant t train_state.place))) ≡ true
          → (is_some (stop_cause t (told ledger.input.commands.items front)) ≡ false)
          × (is_some (closed_cause (claimed ledger.input.plant t train_state.place) (told ledger.input.commands.items front)) ≡ false)
          × (is_some (held_cause ledger.state.holders t (own_overlap ledger.input.plant t train_state.place) (claimed ledger.input.plant t train_state.place)) ≡ false)
      bars f none =
          let first = neither (stop_cause t (told ledger.input.commands.items front)) _ (not-true _ none) in
          let second = neither (closed_cause (claimed ledger.input.plant t train_state.place) (told ledger.input.commands.items front)) (held_cause ledger.state.holders t (own_overlap ledger.input.plant t train_state.place) (claimed ledger.input.plant t train_state.place)) first.1 in
          (first.0, second.0, second.1)

      by_note : InPlace → (n : Note) → note_fits (admission when t m n list) train_state.place n ≡ true
          → completes (moves_of ledger.input.plant) (after (places ledger.input.plant front) t) (kept_after ledger.input.plant (kept ledger.input.plant front) (admission when t m n list) (Admit t m n))
          ≡ true → may_be_given (moves_of ledger.input.plant) (places ledger.input.plant front) (kept ledger.input.plant front) t n list ≡ true
      by_note f Pulled fit done = and_from (nat_lt 0 (place_of (places ledger.input.plant front) t))
          (completes (moves_of ledger.input.plant) (after (places ledger.input.plant front) t) (without_first t (kept ledger.input.plant front)))
          (ap (nat_lt 0) (at_place f) ∙ (and_parts (is_bare (admission when t m Pulled list)) (nat_lt 0 train_state.place) fit).1) done
        where
          at_place : InPlace → place_of (places ledger.input.plant front) t ≡ train_state.place
          at_place g = place_in ledger.input.plant front t (known_of front ledger at t g.waits_it) ∙ sym (place_same g)
      by_note f Appended fit done = and_from (eqb (place_of (places ledger.input.plant front) t) 0)
          (completes (moves_of ledger.input.plant) (after (places ledger.input.plant front) t) (with_rest_of ledger.input.plant t (kept ledger.input.plant front)))
          (ap (λ p. eqb p 0) (at_place f) ∙ (and_parts (is_bare (admission when t m Appended list)) (eqb train_state.place 0) fit).1) done
        where
          at_place : InPlace → place_of (places ledger.input.plant front) t ≡ train_state.place
          at_place g = place_in ledger.input.plant front t (known_of front ledger at t g.waits_it) ∙ sym (place_same g)
      by_note f Fresh fit done = and_from (not (eqb (length list) 0)) (completes (moves_of ledger.input.plant) (after (places ledger.input.plant front) t) list) fit done

  pub refused_place : is_in_place ledger when t m after_hold ≡ false → (may_follow (input_in ledger.input) front line ≡ false) × (broken_law (input_in ledger.input) front line ≡ 2)
  refused_place out = (
    false_from_ne_true (may_follow (input_in ledger.input) front line) (λ may. false≢true (sym out ∙ from_place (fits may).place_fits)),
    law_is ∙ cond-true (is_misplaced (input_in ledger.input) front line t m) 2 _ (true_misplaced),
  )
    where
      true_misplaced : is_misplaced (input_in ledger.input) front line t m ≡ true
      true_misplaced = not_from_false _ (false_from_ne_true ((eqb when (instant front) && waits (input_in ledger.input) front t && eqb m (suc (place front t))) && not (has_held front)) (λ all.
          let p3 = and_parts (eqb when (instant front) && waits (input_in ledger.input) front t && eqb m (suc (place front t))) (not (has_held front)) all in
          let p2 = and_parts (eqb when (instant front) && waits (input_in ledger.input) front t) (eqb m (suc (place front t))) p3.0 in
          let p1 = and_parts (eqb when (instant front)) (waits (input_in ledger.input) front t) p2.0 in
          let q = and_parts (not (is_due_now ledger.state)) train_state.waits (sym (waits_is (dispatch_in ledger.input) ledger.input.plant front ledger.state at.rep still sorted t) ∙ p1.1) in
          false≢true (sym out ∙ from_place (record {
            now = eqb-true when (instant front) p1.0 ∙ sym at.rep.time;
            not_due = not-true (is_due_now ledger.state) q.0;
            waits_it = q.1;
            next = eqb-true m (suc (place front t)) p2.1 ∙ ap suc (sym (at.rep.times.places t (known_of front ledger at t q.1)));
            unheld = after_hold_is ∙ not-true (has_held front) p3.1;
          }))))

  pub refused_forbidden : is_in_place ledger when t m after_hold ≡ true → is_forbidden_by ledger.orders t (claimed ledger.input.plant t train_state.place) ≡ true → (may_follow (input_in ledger.input) front line ≡ false) × (broken_law (input_in ledger.input) front line ≡ 3)
  refused_forbidden here barred =
      let f = in_place here in (
        false_from_ne_true (may_follow (input_in ledger.input) front line) (λ may. false≢true (sym (fits may).allowed ∙ barred)),
        law_is ∙ cond-false (is_misplaced (input_in ledger.input) front line t m) 2 _ (placed f) ∙ cond-true (is_forbidden (input_in ledger.input) front t) 3 _ (forbidden_is f ∙ barred),
      )

  pub refused_occupied : is_in_place ledger when t m after_hold ≡ true → is_forbidden_by ledger.orders t (claimed ledger.input.plant t train_state.place) ≡ false → is_some (held_cause ledger.state.holders t (own_overlap ledger.input.plant t train_state.place) (claimed ledger.input.plant t train_state.place)) ≡ true → (may_follow (input_in ledger.input) front line ≡ false) × (broken_law (input_in ledger.input) front line ≡ 4)
  refused_occupied here allowed taken =
      let f = in_place here in (
        false_from_ne_true (may_follow (input_in ledger.input) front line) (λ may. false≢true (sym (fits may).free ∙ taken)),
        law_is ∙ cond-false (is_misplaced (input_in ledger.input) front line t m) 2 _ (placed f) ∙ cond-false (is_forbidden (input_in ledger.input) front t) 3 _ (forbidden_is f ∙ allowed) ∙ cond-true (is_occupied (input_in ledger.input) front t) 4 5 (occupied_is f ∙ taken),
      )

  pub refused_list : is_in_place ledger when t m after_hold ≡ true → is_forbidden_by ledger.orders t (claimed ledger.input.plant t train_state.place) ≡ false → is_some (held_cause ledger.state.holders t (own_overlap ledger.input.plant t train_state.place) (claimed ledger.input.plant t train_state.place)) ≡ false
      → may_be_given (moves_of ledger.input.plant) (places ledger.input.plant front) (kept ledger.input.plant front) t note list ≡ false
      → (may_follow (input_in ledger.input) front line ≡ false) × (broken_law (input_in ledger.input) front line ≡ 5)
  refused_list here allowed free none =
      let f = in_place here in (
        false_from_ne_true (may_follow (input_in ledger.input) front line) (λ may. false≢true (sym none ∙ (fits may).given)),
        law_is ∙ cond-false (is_misplaced (input_in ledger.input) front line t m) 2 _ (placed f) ∙ cond-false (is_forbidden (input_in ledger.input) front t) 3 _ (forbidden_is f ∙ allowed) ∙ cond-false (is_occupied (input_in ledger.input) front t) 4 5 (occupied_is f ∙ free),
      )

  pub waits_in_place : is_in_place ledger when t m after_hold ≡ true → train_state.waits ≡ true
  waits_in_place here = (in_place here).waits_it

  pub admissible_in_place : is_in_place ledger when t m after_hold ≡ true → is_forbidden_by ledger.orders t (claimed ledger.input.plant t train_state.place) ≡ false → is_some (held_cause ledger.state.holders t (own_overlap ledger.input.plant t train_state.place) (claimed ledger.input.plant t train_state.place)) ≡ false
      → (is_deciding (input_in ledger.input) front ≡ true) × IsAdmissible (dispatch_in ledger.input) ledger.input.plant front ledger.state.holders ledger.state.trains t
  admissible_in_place here allowed free =
      let f = in_place here in (
        decides f,
        record {
          known_train = known_of front ledger at t f.waits_it;
          waits = f.waits_it;
          unheld = sym after_hold_is
              ∙ f.unheld;
          free =
              ap (λ c. or_else c (or_else (closed_cause (claimed ledger.input.plant t (place front t)) (told ledger.input.commands.items front)) (held_cause ledger.state.holders t (own_overlap ledger.input.plant t (place front t)) (claimed ledger.input.plant t (place front t)))))
              (sym (stop_now f) ∙ none_of (stop_in ledger.orders t) (or_parts (is_some (stop_in ledger.orders t)) (is_some (closed_in ledger.orders (claimed ledger.input.plant t train_state.place))) allowed).0)
              ∙ ap (λ c. or_else c (held_cause ledger.state.holders t (own_overlap ledger.input.plant t (place front t)) (claimed ledger.input.plant t (place front t))))
              (sym (closed_now f) ∙ none_of (closed_in ledger.orders (claimed ledger.input.plant t train_state.place)) (or_parts (is_some (stop_in ledger.orders t)) (is_some (closed_in ledger.orders (claimed ledger.input.plant t train_state.place))) allowed).1)
              ∙ none_of (held_cause ledger.state.holders t (own_overlap ledger.input.plant t (place front t)) (claimed ledger.input.plant t (place front t)))
              (ap (λ p. is_some (held_cause ledger.state.holders t (own_overlap ledger.input.plant t p) (claimed ledger.input.plant t p))) (sym (place_same f)) ∙ free);
        },
      )
    where
      none_of : (o : Option Cause) → is_some o ≡ false → o ≡ None
      none_of None h = refl
      none_of (Some c) h = absurd (false≢true (sym h))

  abbrev new_list : List ℕ
  new_list = given_list (moves_of ledger.input.plant) (kept ledger.input.plant front) t note list

  module _ (here : is_in_place ledger when t m after_hold ≡ true) (allowed : is_forbidden_by ledger.orders t (claimed ledger.input.plant t train_state.place) ≡ false) (free : is_some (held_cause ledger.state.holders t (own_overlap ledger.input.plant t train_state.place) (claimed ledger.input.plant t train_state.place)) ≡ false) (may : may_be_given (moves_of ledger.input.plant) (places ledger.input.plant front) (kept ledger.input.plant front) t note list ≡ true) where
    pub may_keep_it : MayKeep (moves_of ledger.input.plant) (places ledger.input.plant front) (kept ledger.input.plant front) t note new_list
    may_keep_it = of note may
      where
        of : (n : Note) → may_be_given (moves_of ledger.input.plant) (places ledger.input.plant front) (kept ledger.input.plant front) t n list ≡ true → MayKeep (moves_of ledger.input.plant) (places ledger.input.plant front) (kept ledger.input.plant front) t n (given_list (moves_of ledger.input.plant) (kept ledger.input.plant front) t n list)
        of Pulled h =
            let p = place_of (places ledger.input.plant front) t in
            let both = and_parts (nat_lt 0 p) (completes (moves_of ledger.input.plant) (after (places ledger.input.plant front) t) (without_first t (kept ledger.input.plant front))) h in
            let lt = ltb-true 0 p both.0 in
            (lt, both.1, sym (cond-false (eqb p 0) (kept ledger.input.plant front ++ replicate (moves ledger.input.plant t - 1) t) (without_first t (kept ledger.input.plant front)) (ne_eqb p 0 (λ e. omega (arith, e, lt)))))
        of Appended h =
            let p = place_of (places ledger.input.plant front) t in
            let both = and_parts (eqb p 0) (completes (moves_of ledger.input.plant) (after (places ledger.input.plant front) t) (with_rest_of ledger.input.plant t (kept ledger.input.plant front))) h in
            (eqb-true p 0 both.0, both.1, sym (cond-true (eqb p 0) (kept ledger.input.plant front ++ replicate (moves ledger.input.plant t - 1) t) (without_first t (kept ledger.input.plant front)) both.0))
        of Fresh h =
            let both = and_parts (not (eqb (length list) 0)) (completes (moves_of ledger.input.plant) (after (places ledger.input.plant front) t) list) h in
            (both.1, some list (not-true (eqb (length list) 0) both.0))
          where
            some : (xs : List ℕ) → eqb (length xs) 0 ≡ false → 0 < length xs
            some [] h' = absurd (false≢true (sym h' ∙ eq-eqb 0 0 refl))
            some (x ∷ xs) h' = omega arith

    next_one : (is_deciding (input_in ledger.input) front ≡ true) × IsAdmissible (dispatch_in ledger.input) ledger.input.plant front ledger.state.holders ledger.state.trains t
    next_one = admissible_in_place here allowed free

    pub can_give : IsGivable ledger.input.plant front ledger.state.trains ledger.state.instant t
    can_give = givable front ledger at going next_one.0 t next_one.1 note new_list may_keep_it

    line_same : admit_line ledger.state.instant t (suc (place front t)) note new_list ≡ line
    line_same =
        let f = in_place here in
        let number : suc (place front t) ≡ m = ap suc (sym (place_same f)) ∙ sym f.next in
        (λ i. admit_line (sym f.now i) t (number i) note new_list) ∙ lists note
      where
        lists : (n : Note) → admit_line when t m n (given_list (moves_of ledger.input.plant) (kept ledger.input.plant front) t n list) ≡ admission when t m n list
        lists Pulled = refl
        lists Appended = refl
        lists Fresh = refl

    pub given_at : (P : State) (K : Kept) (F : Failed) (after : RunState)
        → HasGiven front ledger (record ledger { places = P; kept = K; failures = F }) t note list
        → length after.queue.events + after.queue.spare ≡ length ledger.state.queue.events + ledger.state.queue.spare
        → (times : MoveTimes) (arrival : Option ℕ) → IsAdmitLine ledger.input.plant front t times arrival ledger.state after
        → IsAt (line ∷ front) (record ledger { places = P; kept = K; failures = F; state = after; listed = list_with note })
    given_at P K F after has room times arrival admits =
        let new : Line = admit_line ledger.state.instant t (suc (place front t)) note new_list in
        subst (λ l. IsAt (l ∷ front) (record ledger { places = P; kept = K; failures = F; state = after; listed = list_with note })) line_same
        (record {
          accepted = at.accepted;
          ordered = at.ordered;
          rep = admitted_line (dispatch_in ledger.input) ledger.input.plant front ledger.state at.rep still next_one.0 t next_one.1 note new_list may_keep_it times arrival after admits;
          placed = record {
            positions = has.positions ∙ sym (places_raised ledger.input.plant new front t (suc (place front t)) note refl next_one.1.known_train);
            room = has.room;
            counted = has.counted;
            told = has.told;
          };
          keeps = record { is_list = has.list_is ∙ sym (kept_is (dispatch_in ledger.input) ledger.input.plant front ledger.state at.rep still next_one.0 t next_one.1 note new_list may_keep_it); room = has.list_room };
          queue_room = room ∙ at.queue_room;
          list_room = at.list_room;
          list_empty = λ open_still. at.list_empty still;
          searcher = at.searcher;
          failures = has.failures;
        })
