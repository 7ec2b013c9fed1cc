-- A list for the next move of a train.
use Rattle.std.proofs.Common.{◌≡◌, ℕ, zero, suc, ◌<◌, ◌≤◌, true, false, not, cond, List, length, get_or, set, Some, None, is_some, refl, sym, ap, ◌∙◌, subst, ⊎_elim, arith}
use Rattle.std.specs.Prelude.{◌↔◌}
use Rattle.std.proofs.lemmas.Bool.{and_parts, and_right, cond-true, cond-false}
use Rattle.std.proofs.lemmas.List.{get_or-set_same, get_or-set_other, length-set}
use Rattle.rail_base.specs.declared.history.Cause.TheVariants.{NoList}
use Rattle.rail_base.specs.declared.history.Note.{Note}
use Rattle.rail_rules.specs.Numbers.{sum_below}
use Rattle.rail_rules.specs.Moves.{Moves}
use Rattle.rail_rules.specs.Places.{after, completes, holds, is_legal, is_valid_state}
use Rattle.rail_rules.specs.Plant.{moves, moves_of, trains}
use Rattle.rail_rules.specs.Fronts.{Front, kept, places}
use Rattle.rail_rules.specs.Causes.{is_deciding, is_ready, place}
use Rattle.rail_laws_front.proofs.CallerLemmas.{kept_completes, unbarred_legal, timely}
use Rattle.rail_cores.specs.Searchers.{IsSearcherFor}
use Rattle.rail_cores.specs.declared.searcher.Searcher.{Searcher}
use Rattle.rail_place.specs.PlaceStates.{IsMadeFor, State}
use Rattle.rail_place.specs.Tables.{IsTable, moves_in, MoveLists}
use Rattle.rail_list.specs.Failures.{AreFailures, Failed}
use Rattle.rail_list.specs.KeptLists.{Kept}
use Rattle.rail_list.specs.Repairs.{IsNoted, is_known}
use Rattle.rail_state.specs.declared.train.TrainState.{TrainState}
use Rattle.rail_state.specs.TrainStates.{is_untried, state_of}
use Rattle.rail_state.specs.Representation.{IsNext}
use Rattle.rail_state.proofs.CallerLemmas.{well_formed_plant, left_of_ready, bar_seen, no_list_stands}
use Rattle.rail_ledger.specs.declared.ledger.Ledger.{Ledger}
use Rattle.rail_ledger.specs.Inputs.{dispatch_in, input_in}
use Rattle.rail_ledger.specs.Ledgers.{HasList, IsAt, untried}

-- places of a front are made for a table of its plant's moves
pub made_for : (table : List MoveLists) (front : Front) (ledger : Ledger) → IsTable table → moves_in table ≡ moves_of ledger.input.plant → IsAt front ledger → IsMadeFor table ledger.places
made_for table front ledger is_table same at = record {
  moves = is_table;
  valid = subst (λ plan. is_valid_state plan ledger.places.positions ≡ true) (sym same)
      (ap (is_valid_state (moves_of ledger.input.plant)) at.placed.positions ∙ (kept_completes (input_in ledger.input) (well_formed_plant ledger.input.plant at.rep.accepted) front at.rep.lawful).valid);
  room = at.placed.room;
  counted = at.placed.counted;
  told = subst (λ (plan : Moves). (x u : ℕ) → (get_or ledger.places.owners x None ≡ Some u) ↔ (holds plan ledger.places.positions u x ≡ true)) (sym same) at.placed.told;
}

pub list_completes : (table : List MoveLists) (front : Front) (ledger : Ledger) → moves_in table ≡ moves_of ledger.input.plant → IsAt front ledger → completes (moves_in table) ledger.places.positions ledger.kept.trains ≡ true
list_completes table front ledger same at =
    ap (λ plan. completes plan ledger.places.positions ledger.kept.trains) same
    ∙ ap (λ s. completes (moves_of ledger.input.plant) s ledger.kept.trains) at.placed.positions
    ∙ ap (completes (moves_of ledger.input.plant) (places ledger.input.plant front)) at.keeps.is_list
    ∙ (kept_completes (input_in ledger.input) (well_formed_plant ledger.input.plant at.rep.accepted) front at.rep.lawful).completing

-- a waiting train has a move left
pub left_of_next : (front : Front) (ledger : Ledger) → IsAt front ledger → (t : ℕ) → IsNext (dispatch_in ledger.input) ledger.input.plant front ledger.state.holders ledger.state.trains t → place front t < moves ledger.input.plant t
left_of_next front ledger at t next =
    let waits = (and_parts (state_of ledger.state.trains t).waits (not (is_some (state_of ledger.state.trains t).known)) next.untried).0 in
    let ready : is_ready (input_in ledger.input) front t ≡ true = sym (at.rep.waiting.ready t next.known_train) ∙ waits in
    left_of_ready (dispatch_in ledger.input) ledger.input.plant front t ready

pub legal_next : (table : List MoveLists) (front : Front) (ledger : Ledger) → moves_in table ≡ moves_of ledger.input.plant → IsAt front ledger
    → is_deciding (input_in ledger.input) front ≡ true → (t : ℕ) → IsNext (dispatch_in ledger.input) ledger.input.plant front ledger.state.holders ledger.state.trains t
    → is_legal (moves_in table) ledger.places.positions t ≡ true
legal_next table front ledger same at deciding t next =
    ap (λ plan. is_legal plan ledger.places.positions t) same
    ∙ ap (λ s. is_legal (moves_of ledger.input.plant) s t) at.placed.positions
    ∙ unbarred_legal (input_in ledger.input) (well_formed_plant ledger.input.plant at.rep.accepted) front t (timely (input_in ledger.input) (well_formed_plant ledger.input.plant at.rep.accepted) front at.rep.lawful)
    (ap is_some (bar_seen (dispatch_in ledger.input) ledger.input.plant front ledger.state at.rep deciding t ∙ next.free)) (left_of_next front ledger at t next)

-- the searcher of a ledger is one for a table of its plant's moves
pub searcher_for : (table : List MoveLists) (front : Front) (ledger : Ledger) → moves_in table ≡ moves_of ledger.input.plant → IsAt front ledger → IsSearcherFor (moves_in table) ledger.searcher
searcher_for table front ledger same at = subst (λ (plan : Moves). IsSearcherFor plan ledger.searcher) (sym same) at.searcher

-- the failures of a ledger are those at its places, for a table of its plant's moves
pub failures_for : (table : List MoveLists) (front : Front) (ledger : Ledger) (depth : ℕ) → moves_in table ≡ moves_of ledger.input.plant → depth ≡ ledger.input.plant.tables.depth → IsAt front ledger
    → AreFailures (moves_in table) depth ledger.places.positions ledger.failures
failures_for table front ledger depth same is at =
    subst (λ (plan : Moves). AreFailures plan depth ledger.places.positions ledger.failures) (sym same)
    (subst (λ (d : ℕ). AreFailures (moves_of ledger.input.plant) d ledger.places.positions ledger.failures) (sym is) at.failures)

-- what the search for a list gives
pub has_list : (table : List MoveLists) (front : Front) (ledger : Ledger) (places_now : State) (kept_now : Kept) (searcher_now : Searcher) (failures_now : Failed) (t : ℕ) (note : Note) → moves_in table ≡ moves_of ledger.input.plant → IsAt front ledger
    → IsMadeFor table places_now → IsSearcherFor (moves_in table) searcher_now → AreFailures (moves_in table) ledger.input.plant.tables.depth places_now.positions failures_now → kept_now.room ≡ ledger.kept.room → places_now.positions ≡ after ledger.places.positions t
    → IsNoted (moves_in table) ledger.input.plant.tables.depth ledger.places.positions ledger.kept.trains t note kept_now.trains
    → HasList front ledger (record ledger { places = places_now; kept = kept_now; searcher = searcher_now; failures = failures_now }) t note
has_list table front ledger places_now kept_now searcher_now failures_now t note same at made own failing room moved noted = record {
  noted = subst (λ plan. IsNoted plan ledger.input.plant.tables.depth (places ledger.input.plant front) (kept ledger.input.plant front) t note kept_now.trains) same
      (subst (λ s. IsNoted (moves_in table) ledger.input.plant.tables.depth s (kept ledger.input.plant front) t note kept_now.trains) at.placed.positions
      (subst (λ list. IsNoted (moves_in table) ledger.input.plant.tables.depth ledger.places.positions list t note kept_now.trains) at.keeps.is_list noted));
  positions = moved ∙ ap (λ s. after s t) at.placed.positions;
  room = made.room;
  counted = made.counted;
  told = subst (λ (plan : Moves). (x u : ℕ) → (get_or places_now.owners x None ≡ Some u) ↔ (holds plan places_now.positions u x ≡ true)) same made.told;
  list_room = subst (λ n. sum_below (moves ledger.input.plant) (trains ledger.input.plant) ≤ n) (sym room) at.keeps.room;
  searcher = subst (λ (plan : Moves). IsSearcherFor plan searcher_now) same own;
  failures = subst (λ (plan : Moves). AreFailures plan ledger.input.plant.tables.depth places_now.positions failures_now) same failing;
}

-- one train less is untried
sum_same : (f g : ℕ → ℕ) (n : ℕ) → ((i : ℕ) → i < n → f i ≡ g i) → sum_below f n ≡ sum_below g n
sum_same f g zero each = refl
sum_same f g (suc n) each = omega (arith, sum_same f g n (λ i lt. each i (omega (arith, lt))), each n (omega arith))

sum_less : (f g : ℕ → ℕ) (n t : ℕ) → t < n → f t < g t → ((i : ℕ) → i < n → (i ≡ t → ⊥) → f i ≡ g i) → sum_below f n < sum_below g n
sum_less f g zero t lt here others = absurd (omega (arith, lt))
sum_less f g (suc n) t lt here others =
    ⊎_elim
    (λ below. omega (arith, sum_less f g n t below here (λ i li ne. others i (omega (arith, li)) ne), others n (omega arith) (λ e. omega (arith, below, e))))
    (λ above.
    let same : t ≡ n = omega (arith, lt, above) in
    omega (arith, subst (λ k. f k < g k) same here, sum_same f g n (λ i li. others i (omega (arith, li)) (λ e. omega (arith, above, li, e)))))
    (Rattle.std.proofs.lemmas.Bool.cases_lt t n)

pub fewer_untried : (states : List TrainState) (t : ℕ) → t < length states → is_untried (state_of states t) ≡ true → untried (set states t (record (state_of states t) { known = Some NoList })) < untried states
fewer_untried states t lt is =
    let after_it : List TrainState = set states t (record (state_of states t) { known = Some NoList }) in
    let tried : is_untried (state_of after_it t) ≡ false = ap is_untried (get_or-set_same states t (record (state_of states t) { known = Some NoList }) _ lt) ∙ and_right (state_of states t).waits false refl in
    subst (λ n. sum_below (λ u. cond (is_untried (state_of after_it u)) 1 0) n < untried states) (sym (length-set states t (record (state_of states t) { known = Some NoList })))
    (sum_less (λ u. cond (is_untried (state_of after_it u)) 1 0) (λ u. cond (is_untried (state_of states u)) 1 0) (length states) t lt
    (omega (arith, cond-false {A = ℕ} (is_untried (state_of after_it t)) 1 0 tried, cond-true {A = ℕ} (is_untried (state_of states t)) 1 0 is))
    (λ u lu other. ap {B = ℕ} (λ (r : TrainState). cond (is_untried r) 1 0) (get_or-set_other states t u (record (state_of states t) { known = Some NoList }) _ other)))

-- where the places and the kept list are as before, the ledger stands as before
pub kept_at : (table : List MoveLists) (front : Front) (ledger : Ledger) (places_now : State) (kept_now : Kept) (searcher_now : Searcher) (failures_now : Failed) → moves_in table ≡ moves_of ledger.input.plant → IsAt front ledger
    → IsMadeFor table places_now → IsSearcherFor (moves_in table) searcher_now → AreFailures (moves_in table) ledger.input.plant.tables.depth places_now.positions failures_now → places_now.positions ≡ ledger.places.positions → kept_now.trains ≡ ledger.kept.trains → kept_now.room ≡ ledger.kept.room
    → IsAt front (record ledger { places = places_now; kept = kept_now; searcher = searcher_now; failures = failures_now })
kept_at table front ledger places_now kept_now searcher_now failures_now same at made own failing positions list room = record {
  accepted = at.accepted;
  ordered = at.ordered;
  rep = at.rep;
  placed = record {
    positions = positions ∙ at.placed.positions;
    room = made.room;
    counted = made.counted;
    told = subst (λ (plan : Moves). (x u : ℕ) → (get_or places_now.owners x None ≡ Some u) ↔ (holds plan places_now.positions u x ≡ true)) same made.told;
  };
  keeps = record { is_list = list ∙ at.keeps.is_list; room = subst (λ n. sum_below (moves ledger.input.plant) (trains ledger.input.plant) ≤ n) (sym room) at.keeps.room };
  queue_room = at.queue_room;
  list_room = at.list_room;
  list_empty = at.list_empty;
  searcher = subst (λ (plan : Moves). IsSearcherFor plan searcher_now) same own;
  failures = subst (λ (plan : Moves). AreFailures plan ledger.input.plant.tables.depth places_now.positions failures_now) same failing;
}

-- whether a list is known, by what is kept and by the front
pub known_same : (table : List MoveLists) (front : Front) (ledger : Ledger) (depth t : ℕ) → moves_in table ≡ moves_of ledger.input.plant → IsAt front ledger → depth ≡ ledger.input.plant.tables.depth
    → is_known (moves_in table) depth ledger.places.positions ledger.kept.trains t
    ≡ is_known (moves_of ledger.input.plant) ledger.input.plant.tables.depth (places ledger.input.plant front) (kept ledger.input.plant front) t
known_same table front ledger depth t same at is = λ i. is_known (same i) (is i) (at.placed.positions i) (at.keeps.is_list i) t

-- with no list the ledger stays where it is
pub no_list_at : (table : List MoveLists) (front : Front) (ledger : Ledger) (places_now : State) (kept_now : Kept) (searcher_now : Searcher) (failures_now : Failed) (t : ℕ) → moves_in table ≡ moves_of ledger.input.plant → IsAt front ledger → IsNext (dispatch_in ledger.input) ledger.input.plant front ledger.state.holders ledger.state.trains t
    → IsMadeFor table places_now → IsSearcherFor (moves_in table) searcher_now → AreFailures (moves_in table) ledger.input.plant.tables.depth places_now.positions failures_now → places_now.positions ≡ ledger.places.positions → kept_now.trains ≡ ledger.kept.trains → kept_now.room ≡ ledger.kept.room → is_known (moves_in table) ledger.input.plant.tables.depth ledger.places.positions ledger.kept.trains t ≡ false
    → (states : List TrainState) → states ≡ set ledger.state.trains t (record (state_of ledger.state.trains t) { known = Some NoList })
    → IsAt front (record ledger { places = places_now; kept = kept_now; searcher = searcher_now; failures = failures_now; state = record ledger.state { trains = states } })
no_list_at table front ledger places_now kept_now searcher_now failures_now t same at next made own failing positions list room unknown states is = record {
  accepted = at.accepted;
  ordered = at.ordered;
  rep = no_list_stands (dispatch_in ledger.input) ledger.input.plant front ledger.state at.rep t next
      (subst (λ plan. is_known plan ledger.input.plant.tables.depth (places ledger.input.plant front) (kept ledger.input.plant front) t ≡ false) same
      (subst (λ s. is_known (moves_in table) ledger.input.plant.tables.depth s (kept ledger.input.plant front) t ≡ false) at.placed.positions
      (subst (λ l. is_known (moves_in table) ledger.input.plant.tables.depth ledger.places.positions l t ≡ false) at.keeps.is_list unknown)))
      states is;
  placed = record {
    positions = positions ∙ at.placed.positions;
    room = made.room;
    counted = made.counted;
    told = subst (λ (plan : Moves). (x u : ℕ) → (get_or places_now.owners x None ≡ Some u) ↔ (holds plan places_now.positions u x ≡ true)) same made.told;
  };
  keeps = record { is_list = list ∙ at.keeps.is_list; room = subst (λ n. sum_below (moves ledger.input.plant) (trains ledger.input.plant) ≤ n) (sym room) at.keeps.room };
  queue_room = at.queue_room;
  list_room = at.list_room;
  list_empty = at.list_empty;
  searcher = subst (λ (plan : Moves). IsSearcherFor plan searcher_now) same own;
  failures = subst (λ (plan : Moves). AreFailures plan ledger.input.plant.tables.depth places_now.positions failures_now) same failing;
}
