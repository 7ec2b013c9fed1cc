-- What is decided at an instant at which nothing is due, and when all is settled.
use Rattle.std.proofs.Common.{◌≡◌, ℕ, true, false, not, List, [], ◌∷◌, refl, sym, ap, ◌∙◌, arith}
use Rattle.std.proofs.lemmas.Bool.{and_from, false≢true}
use Rattle.rail_rules.specs.Numbers.{or_else}
use Rattle.rail_rules.specs.Plant.{Plant, claimed}
use Rattle.rail_rules.specs.Fronts.{Front, Line, has_ended, instant}
use Rattle.rail_rules.specs.Orders.{told, Dispatch, input_of}
use Rattle.rail_rules.specs.Events.{due_lines, is_quiet}
use Rattle.rail_rules.specs.Causes.{bar, cause, closed_cause, is_deciding, is_ready, is_settled, list_cause, place, stop_cause}
use Rattle.rail_laws_step.proofs.CallerLemmas.{nobody_ready}
use Rattle.rail_laws_step.specs.HolderTables.{own_overlap}
use Rattle.rail_state.specs.TrainStates.{IsAnyWaiting}
use Rattle.rail_state.specs.Representation.{Represents}
use Rattle.rail_state.specs.SeenCauses.{seen_bar, seen_cause}
use Rattle.rail_state.proofs.Below.{settled_when_told, holders_block}
use Rattle.rail_state.specs.declared.run_state.RunState.{RunState}

pub deciding_when_quiet : (dispatch : Dispatch) (plant : Plant) (line : Line) (before : Front) → has_ended (line ∷ before) ≡ false → is_quiet (due_lines (input_of dispatch plant) (line ∷ before)) line.entry.at ≡ true → is_deciding (input_of dispatch plant) (line ∷ before) ≡ true
deciding_when_quiet dispatch plant line before going quiet = and_from (not (has_ended (line ∷ before))) (is_quiet (due_lines (input_of dispatch plant) (line ∷ before)) line.entry.at) (ap not going) quiet

-- what bars a train at a decision is told by the orders and the table of holders
pub bar_seen : (dispatch : Dispatch) (plant : Plant) (front : Front) (state : RunState) → Represents dispatch plant front state → is_deciding (input_of dispatch plant) front ≡ true
    → (t : ℕ) → bar (input_of dispatch plant) front t ≡ seen_bar (told dispatch.commands front) state.holders t (own_overlap plant t (place front t)) (claimed plant t (place front t))
bar_seen dispatch plant front state rep deciding t =
    let sections : List ℕ = claimed plant t (place front t) in
    ap (λ c. or_else (stop_cause t (told dispatch.commands front)) (or_else (closed_cause sections (told dispatch.commands front)) c)) (holders_block (input_of dispatch plant) rep.accepted front rep.lawful deciding state.holders rep.holders t sections)

-- the cause at a decision is the one by the table of holders
pub cause_seen : (dispatch : Dispatch) (plant : Plant) (front : Front) (state : RunState) → Represents dispatch plant front state → is_deciding (input_of dispatch plant) front ≡ true → (t : ℕ) → cause (input_of dispatch plant) front t ≡ seen_cause (input_of dispatch plant) front state.holders t
cause_seen dispatch plant front state rep deciding t =
    let sections : List ℕ = claimed plant t (place front t) in
    ap (λ c. or_else (or_else (stop_cause t (told dispatch.commands front)) (or_else (closed_cause sections (told dispatch.commands front)) c))
    (list_cause (input_of dispatch plant) front t)) (holders_block (input_of dispatch plant) rep.accepted front rep.lawful deciding state.holders rep.holders t sections)

-- everything is settled where nothing is due and all were told why they wait
pub settled_front : (dispatch : Dispatch) (plant : Plant) (front : Front) (state : RunState) → Represents dispatch plant front state → has_ended front ≡ false
    → state.is_settled ≡ true → is_quiet (due_lines (input_of dispatch plant) front) (instant front) ≡ true → is_settled (input_of dispatch plant) front ≡ true
settled_front dispatch plant [] state rep going settled quiet = refl
settled_front dispatch plant (line ∷ before) state rep going settled quiet =
    let deciding = deciding_when_quiet dispatch plant line before going quiet in
    settled_when_told (input_of dispatch plant) (line ∷ before) deciding
    (λ t known ready.
    let told = rep.settled settled t known (rep.waiting.ready t known ∙ ready) in
    record {
      why = told.why;
      is_cause = cause_seen dispatch plant (line ∷ before) state rep deciding t ∙ rep.known.cause t told.why known told.known;
      is_told = sym (rep.waiting.told t known) ∙ told.told;
    })

-- where some train waits, a state that says that not all is settled represents the same front
pub unsettled_stands : (dispatch : Dispatch) (plant : Plant) (front : Front) (state : RunState) → Represents dispatch plant front state → IsAnyWaiting state.trains
    → Represents dispatch plant front (record state { is_settled = false })
unsettled_stands dispatch plant front state rep some = record {
  accepted = rep.accepted;
  lawful = rep.lawful;
  time = rep.time;
  ended = rep.ended;
  begun = λ empty. absurd (false≢true (sym (nobody_ready (input_of dispatch plant) some.train)
      ∙ ap (λ (f : Front). is_ready (input_of dispatch plant) f some.train) (sym empty)
      ∙ sym (rep.waiting.ready some.train (omega (arith, some.there, rep.times.many))) ∙ some.waits));
  times = rep.times;
  pending = rep.pending;
  heads = rep.heads;
  waiting = rep.waiting;
  holders = rep.holders;
  known = rep.known;
  settled = λ is. absurd (false≢true is);
}
