-- A command's line.
use Rattle.std.proofs.Common.{◌≡◌, ℕ, suc, ◌+◌, ◌-◌, ◌<◌, Bool, true, false, cond, List, [], ◌∷◌, ◌++◌, length, Option, Some, None, refl, sym, ap, ◌∙◌, subst, ◌⊎◌, inl, inr, ⊎_elim, arith}
use Rattle.std.specs.Prelude.{slice_get}
use Rattle.std.specs.List.{list_any}
use Rattle.std.proofs.lemmas.Bool.{cases_lt, cond-true, cond-false, false≢true}
use Rattle.std.proofs.lemmas.List.{get_or_past}
use Rattle.rail_base.specs.declared.history.Cause.{Cause}
use Rattle.rail_base.specs.declared.history.What.{What}
use Rattle.rail_base.specs.declared.history.What.TheVariants.{Told, Untold}
use Rattle.rail_base.specs.declared.orders.Command.{Command}
use Rattle.rail_base.specs.declared.orders.Order.{Order}
use Rattle.rail_rules.specs.Events.{command_line}
use Rattle.rail_rules.specs.Fronts.{Front, Line, at_time, has_ended, is_admission, is_hold}
use Rattle.rail_rules.specs.Lawful.{is_lawful}
use Rattle.rail_rules.specs.Orders.{orders_at, orders_of, takes_effect, told}
use Rattle.rail_rules.specs.Plant.{moves, trains}
use Rattle.rail_queue.specs.declared.event.Event.{Event}
use Rattle.rail_queue.specs.declared.event.Class.TheVariants as class
use Rattle.rail_queue.specs.Order.{first_time_of, goes_before}
use Rattle.rail_queue.specs.Queue.{Queue}
use Rattle.rail_orders.specs.OrderTables.{AreOrders, told_after}
use Rattle.rail_orders.proofs.CallerLemmas.{order_told}
use Rattle.rail_state.specs.TrainStates.{no_state, state_of}
use Rattle.rail_state.specs.Representation.{HasTold, IsCommandOf, Represents, bare_at}
use Rattle.rail_state.proofs.CallerLemmas.{all_stay, command_lawful, commanded, listed_command}
use Rattle.rail_state.specs.declared.run_state.RunState.{RunState}
use Rattle.rail_state.specs.declared.train.TrainState.{TrainState}
use Rattle.rail_base.specs.declared.history.Entry.{Entry}
use Rattle.rail_ledger.specs.declared.ledger.Ledger.{Ledger}
use Rattle.rail_ledger.specs.declared.ledger.Listed.TheVariants as which
use Rattle.rail_ledger.specs.Inputs.{dispatch_in, input_in}
use Rattle.rail_ledger.specs.Ledgers.{HasToldCommand, HasPassed, IsAt, IsOther, MayGoOn, is_effective, line_in, list_in, listed_in}
use Rattle.rail_ledger.proofs.Admissions.{left_of}
use Rattle.rail_ledger.proofs.Going.{kept_stays, places_stay, some_inside}
use Rattle.rail_ledger.proofs.Ordered.{command_in_range, effective, input_parts}

-- the ledger without its first pending event
abbrev pub without_first : Ledger → Queue → Ledger
without_first ledger queue = record ledger { state = record ledger.state { queue = queue } }

-- a train that waits has a move left, and only trains that wait have a known cause
pub waiting_left : (front : Front) (ledger : Ledger) → IsAt front ledger → (t : ℕ) → t < trains ledger.input.plant → (state_of ledger.state.trains t).waits ≡ true
    → (state_of ledger.state.trains t).place < moves ledger.input.plant t
waiting_left front ledger at t lt waits = omega (arith, at.rep.times.places t lt, left_of front ledger at t waits)

pub idle_unknown : (front : Front) (ledger : Ledger) → IsAt front ledger → (t : ℕ) → (state_of ledger.state.trains t).waits ≡ false → (state_of ledger.state.trains t).known ≡ None
idle_unknown front ledger at t idle =
    ⊎_elim
    (λ lt. by lt (state_of ledger.state.trains t).known refl)
    (λ past. ap (λ (r : TrainState). r.known) (get_or_past ledger.state.trains t no_state (omega (arith, past, at.rep.times.many))))
    (cases_lt t (trains ledger.input.plant))
  where
    by : t < trains ledger.input.plant → (o : Option Cause) → (state_of ledger.state.trains t).known ≡ o → (state_of ledger.state.trains t).known ≡ None
    by lt None is = is
    by lt (Some why) is = absurd (false≢true (sym idle ∙ at.rep.known.waits t why lt is))

module _ (front : Front) (ledger : Ledger) (at : IsAt front ledger) (going : ledger.state.has_ended ≡ false) (may : MayGoOn ledger) (event : Event) (queue : Queue)
    (first : ledger.state.queue.events ≡ event ∷ queue.events) (spare : queue.spare ≡ ledger.state.queue.spare + 1)
    (least : list_any (λ other. goes_before other event) ledger.state.queue.events ≡ false) (classed : event.class ≡ class.Command) where
  still : has_ended front ≡ false
  still = sym at.rep.ended ∙ going

  goes : (ledger.state.is_settled ≡ true) ⊎ (event.at ≡ ledger.state.instant)
  goes = ⊎_elim inl (λ now. inr (some_inside (sym (ap first_time_of first) ∙ now))) may

  -- the command of the event
  pub it : IsCommandOf (dispatch_in ledger.input) event
  it = listed_command (dispatch_in ledger.input) ledger.input.plant front ledger.state at.rep event queue.events first least classed

  pub is_listed : slice_get ledger.input.commands.items (event.number - 1) ≡ Some it.command
  is_listed = ap (slice_get ledger.input.commands.items) (omega (arith, it.numbered)) ∙ it.listed

  decided : is_effective (without_first ledger queue) it.command.what ≡ takes_effect (input_in ledger.input) front (told ledger.input.commands.items front) it.command.what
  decided = effective front ledger at it.command.what
      (command_in_range ledger.input.plant 0 ledger.input.commands.items it.index it.command (input_parts (input_in ledger.input) at.accepted).commands it.listed)

  -- the line that the command gives, once its order was told or was not
  told_line : (what : What) (after : RunState) → (command_line (input_in ledger.input) front it.command it.index).what ≡ what
      → HasTold ledger.input.plant (orders_of ledger.input.commands.items what) event ledger.state after
      → Represents (dispatch_in ledger.input) ledger.input.plant (bare_at event.at what ∷ front) after
  told_line what after is has =
      subst (λ (w : What). Represents (dispatch_in ledger.input) ledger.input.plant (bare_at event.at w ∷ front) after) is
      (commanded (dispatch_in ledger.input) ledger.input.plant front ledger.state at.rep still event queue.events first after it.index it.command it.listed classed it.numbered least goes
      (subst (λ (w : What). HasTold ledger.input.plant (orders_of ledger.input.commands.items w) event ledger.state after) (sym is) has))

  -- what the command says, by whether its order takes effect, may follow
  pub command_next : (said : What) → said ≡ cond (is_effective ledger it.command.what) (Told event.number) (Untold event.number)
      → IsOther (at_time event.at said) × (is_lawful (input_in ledger.input) (bare_at event.at said ∷ front) ≡ true)
  command_next said is =
      let effect : Bool = takes_effect (input_in ledger.input) front (told ledger.input.commands.items front) it.command.what in
      let line_is : said ≡ (command_line (input_in ledger.input) front it.command it.index).what = is
      ∙ ap (λ b. cond b (Told event.number) (Untold event.number)) decided
      ∙ ap (λ n. cond effect (Told n) (Untold n)) it.numbered in (
        (ap is_admission line_is ∙ idle_of effect, ap is_hold line_is ∙ no_hold_of effect),
        subst (λ (w : What). is_lawful (input_in ledger.input) (bare_at event.at w ∷ front) ≡ true) (sym line_is)
            (command_lawful (dispatch_in ledger.input) ledger.input.plant front ledger.state at.rep still event queue.events first it.index it.command it.listed classed it.numbered least goes),
      )
    where
      idle_of : (b : Bool) → is_admission (cond b (Told (suc it.index)) (Untold (suc it.index))) ≡ false
      idle_of true = refl
      idle_of false = refl

      no_hold_of : (b : Bool) → is_hold (cond b (Told (suc it.index)) (Untold (suc it.index))) ≡ false
      no_hold_of true = refl
      no_hold_of false = refl

  -- its order does not take effect
  pub passed_at : (new : Ledger) (said : What) → HasPassed (without_first ledger queue) new event.at event.number said → is_effective (without_first ledger queue) it.command.what ≡ false
      → IsAt (bare_at event.at said ∷ front) new
  passed_at new said has none =
      let after : RunState = record ledger.state { queue = queue; instant = event.at } in
      let line_is : (command_line (input_in ledger.input) front it.command it.index).what ≡ Untold (suc it.index) =
      cond-false (takes_effect (input_in ledger.input) front (told ledger.input.commands.items front) it.command.what) (Told (suc it.index)) (Untold (suc it.index)) (sym decided ∙ none) in
      let said_is : said ≡ Untold (suc it.index) = has.said ∙ ap Untold it.numbered in
      let line : Line = bare_at event.at (Untold (suc it.index)) in
      subst (λ (w : What). IsAt (bare_at event.at w ∷ front) new) (sym said_is) (subst (IsAt (line ∷ front)) (sym has.is) (record {
        accepted = at.accepted;
        ordered = at.ordered;
        rep = told_line (Untold (suc it.index)) after line_is (record {
          rest = queue.events;
          first = first;
          events = sym (all_stay queue.events);
          holders = refl;
          many = refl;
          settled = λ settled. (settled, λ t lt waits. refl);
          trains = λ t lt. refl;
          time = refl;
          going = refl;
        });
        placed = places_stay ledger.input.plant line front ledger.places refl at.placed;
        keeps = kept_stays ledger.input.plant line front ledger.kept refl at.keeps;
        queue_room = omega (arith, at.queue_room, ap length first, spare);
        list_room = at.list_room;
        list_empty = λ open_still. at.list_empty still;
        searcher = at.searcher;
        failures = at.failures;
      }))

  -- its order takes effect
  pub told_at : (new : Ledger) (said : What) → HasToldCommand (without_first ledger queue) new event.at event.number it.command.what said
      → is_effective (without_first ledger queue) it.command.what ≡ true → IsAt (bare_at event.at said ∷ front) new
  told_at new said has effect =
      let order : Order = it.command.what in
      let line_is : (command_line (input_in ledger.input) front it.command it.index).what ≡ Told (suc it.index) =
      cond-true (takes_effect (input_in ledger.input) front (told ledger.input.commands.items front) order) (Told (suc it.index)) (Untold (suc it.index)) (sym decided ∙ effect) in
      let said_is : said ≡ Told (suc it.index) = has.said ∙ ap Told it.numbered in
      let line : Line = bare_at event.at (Told (suc it.index)) in
      let orders_is : orders_of ledger.input.commands.items (Told (suc it.index)) ≡ order ∷ [] =
      ap (λ k. orders_at (slice_get ledger.input.commands.items k)) (omega arith) ∙ ap orders_at it.listed in
      subst (λ (w : What). IsAt (bare_at event.at w ∷ front) new) (sym said_is) (subst (IsAt (line ∷ front)) (sym has.is) (record {
        accepted = at.accepted;
        ordered = subst (λ (more : List Order). AreOrders ledger.input.plant ledger.input.deck.items ledger.input.force (more ++ told ledger.input.commands.items front) (told_after order ledger.orders)) (sym orders_is)
            (order_told ledger.input.plant ledger.input.deck.items ledger.input.force (told ledger.input.commands.items front) ledger.orders order at.ordered);
        rep = told_line (Told (suc it.index)) new.state line_is
            (subst (λ (orders : List Order). HasTold ledger.input.plant orders event ledger.state new.state) (sym orders_is) (record {
              rest = queue.events;
              first = first;
              events = has.events;
              holders = has.holders;
              many = has.many;
              settled = λ settled. absurd (false≢true (sym has.settled ∙ settled));
              trains = λ t lt. has.trains t (omega (arith, lt, at.rep.times.many));
              time = has.time;
              going = has.going;
            }));
        placed = places_stay ledger.input.plant line front ledger.places refl at.placed;
        keeps = kept_stays ledger.input.plant line front ledger.kept refl at.keeps;
        queue_room = omega (arith, at.queue_room, ap length first, spare, has.room);
        list_room = at.list_room;
        list_empty = λ open_still. at.list_empty still;
        searcher = at.searcher;
        failures = at.failures;
      }))

  -- the event of a command gives its line
  pub given : (new : Ledger) (said : What) → ledger.listed ≡ which.Nothing
      → ((command : Command) → slice_get ledger.input.commands.items (event.number - 1) ≡ Some command
      → is_effective (without_first ledger queue) command.what ≡ false → HasPassed (without_first ledger queue) new event.at event.number said)
      → ((command : Command) → slice_get ledger.input.commands.items (event.number - 1) ≡ Some command
      → is_effective (without_first ledger queue) command.what ≡ true → HasToldCommand (without_first ledger queue) new event.at event.number command.what said)
      → (new.input ≡ ledger.input) × IsOther (record { at = event.at; what = said }) × IsAt (line_in new (record { at = event.at; what = said }) ∷ front) new
  given new said unlisted untold told = by (is_effective (without_first ledger queue) it.command.what) refl
    where
      entry : Entry
      entry = record { at = event.at; what = said }

      line_with : list_in new ≡ list_in ledger → IsAt (bare_at event.at said ∷ front) new → IsAt (line_in new entry ∷ front) new
      line_with same stands = subst (λ (list : List ℕ). IsAt (record { entry = entry; trains = list } ∷ front) new)
          (sym (same ∙ ap (λ l. listed_in l ledger.kept.trains ledger.remaining.items) unlisted)) stands

      by : (effect : Bool) → is_effective (without_first ledger queue) it.command.what ≡ effect
          → (new.input ≡ ledger.input) × IsOther entry × IsAt (line_in new entry ∷ front) new
      by false none =
          let has = untold it.command is_listed none in
          (ap (λ (l : Ledger). l.input) has.is, (ap is_admission has.said, ap is_hold has.said), line_with (ap (λ (l : Ledger). list_in l) has.is) (passed_at new said has none))
      by true effect =
          let has = told it.command is_listed effect in
          (ap (λ (l : Ledger). l.input) has.is, (ap is_admission has.said, ap is_hold has.said), line_with (ap (λ (l : Ledger). list_in l) has.is) (told_at new said has effect))
