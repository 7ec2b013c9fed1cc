-- What a turn, an admission and a told order leave of a desk.
use Rattle.std.proofs.Common.{◌≡◌, ◌≢◌, ℕ, ◌+◌, ◌-◌, ◌%◌, ◌<◌, Bool, true, false, not, cond, ◌==◌, List, [], ◌∷◌, ◌++◌, length, get_or, set, Option, refl, sym, ap, ◌∙◌, subst, ⊎_elim, arith}
use Rattle.std.specs.List.{filter, remove}
use Rattle.std.specs.Option.{option_map_or}
use Rattle.std.specs.Cmp.Lexicographic.{bytes_decides}
use Rattle.std.proofs.lemmas.Bool.{and_parts, cases_eq, cases_lt, cond-false, cond-true, false_from_ne_true, false≢true, le-ltb, lt-ltb, ne_eqb, not-true}
use Rattle.std.proofs.lemmas.List.{get_or-map, get_or-set_other, get_or-set_same, get_or_default, length-set, map-set, set-get_or}
use Rattle.std.proofs.lemmas.List.Edits.{get_or-remove_above, get_or-remove_below, length-remove}
use Rattle.std.proofs.lemmas.List.Elements.{filter_agree}
use Rattle.std.proofs.lemmas.List.Quantifiers.{all_pairs_remove}
use Rattle.rail_base.specs.declared.history.What.{What}
use Rattle.rail_base.specs.declared.history.Note.{Note}
use Rattle.rail_base.specs.declared.history.What.TheVariants.{Free, Arrive, Enter, Out, Ready, Told, Untold, Admit, Hold, End}
use Rattle.rail_base.specs.declared.orders.Order.{Order}
use Rattle.rail_base.specs.declared.orders.Order.TheVariants.{Policy, Retire, Close, Reopen, Stop, Go, Cancel, Priority}
use Rattle.rail_base.specs.declared.orders.PolicyKind.{PolicyKind}
use Rattle.rail_base.specs.declared.orders.PolicyKind.TheVariants.{Rotating}
use Rattle.rail_rules.specs.Fronts.{Front, Line, is_admission}
use Rattle.rail_rules.specs.Lawful.{is_lawful}
use Rattle.rail_rules.specs.Numbers.{same_numbers}
use Rattle.rail_rules.specs.Orders.{Input, first_force, in_force, is_in_deck, orders_of, takes_effect, told}
use Rattle.rail_rules.specs.RunHistories.{Seat, force_of, mark_after, mark_of}
use Rattle.rail_laws_events.proofs.CallerLemmas.{told_effect}
use Rattle.rail_policy.specs.declared.desk.Asked.{Asked}
use Rattle.rail_policy.specs.declared.offer.Offer.{Offer}
use Rattle.rail_policy.specs.Desks.{Table, after_note, after_turn, asked_about, put_in_force, seat_in_force, within, without}
use Rattle.rail_policy.specs.Seats.{DeskSeat, asked, mark_when_asked, mark_when_noted, names_of, no_seat, noted, seat_at}
use Rattle.rail_policy.proofs.CallerLemmas.{name-index_of, index_of-found, seat_in_force-without}
use Rattle.rail_engine.specs.Desks.{IsBox, IsDesk, after_orders, exchanged, retired}
use Rattle.rail_engine.proofs.DeckNames.{names_retired, names_without, seat_left}

-- the same numbers are one name
one_name : (a b : List ℕ) → same_numbers a b ≡ true → a ≡ b
one_name a b = (bytes_decides a b).0

same_name : (a b : List ℕ) → a ≡ b → same_numbers a b ≡ true
same_name a b = (bytes_decides a b).1

-- in place of the policy in force stands one of its name that fits the later front, and so do the others
module _ (input : Input) (seats : List Seat) (front after : Front) (table : Table) (new : DeskSeat) (last : Option Asked)
    (desk : IsDesk input seats front table) (named : new.name ≡ (seat_in_force table).name) (fits : IsBox input seats after new)
    (others : (k : ℕ) → k < length table.seats → k ≢ table.force → IsBox input seats front (seat_at table.seats k) → IsBox input seats after (seat_at table.seats k))
    (force_same : force_of input after ≡ force_of input front) (told_same : told input.commands after ≡ told input.commands front) where
  abbrev now : List DeskSeat
  now = set table.seats table.force new

  long : length now ≡ length table.seats
  long = length-set table.seats table.force new

  here : (d : DeskSeat) → get_or now table.force d ≡ new
  here d = get_or-set_same table.seats table.force new d desk.in_range

  there : (k : ℕ) (d : DeskSeat) → k < length table.seats → k ≢ table.force → get_or now k d ≡ seat_at table.seats k
  there k d lt ne = get_or-set_other table.seats table.force k new d ne ∙ get_or_default table.seats k d no_seat lt

  name_at : (k : ℕ) (d : DeskSeat) → k < length table.seats → (get_or now k d).name ≡ (seat_at table.seats k).name
  name_at k d lt = ⊎_elim
      (λ same. let P : ℕ → Type 0 = λ n. (get_or now n d).name ≡ (seat_at table.seats n).name in
      subst P (sym same) (ap (λ (s : DeskSeat). s.name) (here d) ∙ named))
      (λ other. ap (λ (s : DeskSeat). s.name) (there k d lt other))
      (cases_eq k table.force)

  pub changed : IsDesk input seats after (record { seats = now; force = table.force; last = last })
  changed = record {
    in_range = omega (arith, long, desk.in_range);
    in_force = ap (λ (s : DeskSeat). s.name) (here no_seat) ∙ named ∙ desk.in_force ∙ sym force_same;
    distinct = λ i j d lt inside same.
        let j_lt : j < length table.seats = omega (arith, inside, long) in
        let i_lt : i < length table.seats = omega (arith, lt, j_lt) in
        desk.distinct i j no_seat lt j_lt (sym (name_at i d i_lt) ∙ same ∙ name_at j d j_lt);
    boxes = λ k d inside.
        let lt : k < length table.seats = omega (arith, inside, long) in
        ⊎_elim
        (λ same. let P : ℕ → Type 0 = λ n. IsBox input seats after (get_or now n d) in
        subst P (sym same) (subst (IsBox input seats after) (sym (here d)) fits))
        (λ other. subst (IsBox input seats after) (sym (there k d lt other)) (others k lt other (desk.boxes k no_seat lt)))
        (cases_eq k table.force);
    names = map-set (λ (s : DeskSeat). s.name) table.seats table.force new
        ∙ ap (set (names_of table.seats) table.force) (named ∙ sym (get_or-map (λ (s : DeskSeat). s.name) table.seats table.force no_seat [] desk.in_range))
        ∙ set-get_or (names_of table.seats) table.force []
        ∙ desk.names ∙ ap (λ (orders : List Order). filter (λ name. is_in_deck input.deck name orders) input.deck) (sym told_same);
  }

-- a turn leaves the marks of rotating policies
mark_asked : (kind : PolicyKind) (mark : ℕ) → kind ≡ Rotating → mark_when_asked kind mark ≡ mark
mark_asked kind mark is = ap (λ k. mark_when_asked k mark) is

pub turned : (input : Input) (seats : List Seat) (front : Front) (before after : Table) (offers : List Offer) (answer : ℕ)
    → after ≡ after_turn before offers answer → IsDesk input seats front before → IsDesk input seats front after
turned input seats front before after offers answer is desk =
    let seat : DeskSeat = seat_in_force before in
    let box : IsBox input seats front seat = desk.boxes before.force no_seat desk.in_range in
    subst (IsDesk input seats front) (sym is)
    (changed input seats front front before (asked seat answer) (asked_about offers (within (length offers) answer)) desk refl
    (record { kind = box.kind; mark = λ rotates. mark_asked seat.kind seat.mark rotates ∙ box.mark rotates })
    (λ k lt ne fits. fits) refl refl)

-- the marks after an admission
module _ (input : Input) (seats : List Seat) (front : Front) (line : Line) (t m : ℕ) (note : Note) (what : line.entry.what ≡ Admit t m note) where
  told_nothing : told input.commands (line ∷ front) ≡ told input.commands front
  told_nothing = ap (λ w. orders_of input.commands w ++ told input.commands front) what

  mark_in_force : (name : List ℕ) → force_of input front ≡ name → mark_of input seats name (line ∷ front) ≡ (t + 1) % 65536
  mark_in_force name is =
      cond-true (same_numbers (force_of input front) name) (mark_after line.entry.what (mark_of input seats name front)) (mark_of input seats name front) (same_name (force_of input front) name is)
      ∙ ap (λ w. mark_after w (mark_of input seats name front)) what

  mark_of_other : (name : List ℕ) → (force_of input front ≡ name → ⊥) → mark_of input seats name (line ∷ front) ≡ mark_of input seats name front
  mark_of_other name ne =
      cond-false (same_numbers (force_of input front) name) (mark_after line.entry.what (mark_of input seats name front)) (mark_of input seats name front)
      (false_from_ne_true (same_numbers (force_of input front) name) (λ same. ne (one_name (force_of input front) name same)))

  pub noted_desk : (before after : Table) → after ≡ after_note before t → IsDesk input seats front before → IsDesk input seats (line ∷ front) after
  noted_desk before after is desk =
      let seat : DeskSeat = seat_in_force before in
      let box : IsBox input seats front seat = desk.boxes before.force no_seat desk.in_range in
      subst (IsDesk input seats (line ∷ front)) (sym is)
      (changed input seats front (line ∷ front) before (noted seat t) before.last desk refl
      (record {
        kind = box.kind;
        mark = λ rotates. ap (λ k. mark_when_noted k t seat.mark) rotates ∙ sym (mark_in_force seat.name (sym desk.in_force));
      })
      (λ k lt ne fits. record {
        kind = fits.kind;
        mark = λ rotates. fits.mark rotates ∙ sym (mark_of_other (seat_at before.seats k).name (λ same. apart k lt ne desk (desk.in_force ∙ same)));
      })
      (ap (in_force (first_force input)) told_nothing) told_nothing)
    where
      apart : (k : ℕ) → k < length before.seats → k ≢ before.force → IsDesk input seats front before → (seat_in_force before).name ≡ (seat_at before.seats k).name → ⊥
      apart k lt ne desk same =
          ⊎_elim
          (λ below. desk.distinct k before.force no_seat below desk.in_range (sym same))
          (λ from. desk.distinct before.force k no_seat (omega arith) lt same)
          (cases_lt k before.force)

-- a line that is no admission leaves the marks
mark_stays : (what : What) (mark : ℕ) → is_admission what ≡ false → mark_after what mark ≡ mark
mark_stays (Admit t m note) mark idle = absurd (false≢true (sym idle))
mark_stays (Hold t m why) mark idle = refl
mark_stays (Free x t) mark idle = refl
mark_stays (Arrive t m) mark idle = refl
mark_stays (Enter t m x) mark idle = refl
mark_stays (Out t) mark idle = refl
mark_stays (Ready t m) mark idle = refl
mark_stays (Told k) mark idle = refl
mark_stays (Untold k) mark idle = refl
mark_stays End mark idle = refl

either_same : (b : Bool) (first second : ℕ) → first ≡ second → cond b first second ≡ second
either_same true first second same = same
either_same false first second same = refl

module _ (input : Input) (seats : List Seat) (front : Front) (line : Line) (idle : is_admission line.entry.what ≡ false) where
  box_stays : (seat : DeskSeat) → IsBox input seats front seat → IsBox input seats (line ∷ front) seat
  box_stays seat box = record {
    kind = box.kind;
    mark = λ rotates. box.mark rotates
        ∙ sym (either_same (same_numbers (force_of input front) seat.name) (mark_after line.entry.what (mark_of input seats seat.name front)) (mark_of input seats seat.name front)
        (mark_stays line.entry.what (mark_of input seats seat.name front) idle));
  }

  -- the orders told change neither the policy in force nor the deck
  same_desk : (table : Table) → force_of input (line ∷ front) ≡ force_of input front
      → ((name : List ℕ) → is_in_deck input.deck name (told input.commands (line ∷ front)) ≡ is_in_deck input.deck name (told input.commands front))
      → IsDesk input seats front table → IsDesk input seats (line ∷ front) table
  same_desk table force_same deck_same desk = record {
    in_range = desk.in_range;
    in_force = desk.in_force ∙ sym force_same;
    distinct = desk.distinct;
    boxes = λ k d lt. box_stays (get_or table.seats k d) (desk.boxes k d lt);
    names = desk.names ∙ filter_agree (λ name. is_in_deck input.deck name (told input.commands front))
        (λ name. is_in_deck input.deck name (told input.commands (line ∷ front))) (λ name. sym (deck_same name)) input.deck;
  }

  -- another policy is put in force
  exchanged_desk : (table : Table) (name : List ℕ) → told input.commands (line ∷ front) ≡ Policy name ∷ told input.commands front
      → is_in_deck input.deck name (told input.commands front) ≡ true → IsDesk input seats front table → IsDesk input seats (line ∷ front) (exchanged table name)
  exchanged_desk table name told_is in_deck desk =
      let found = index_of-found table.seats name (seat_left input.deck (told input.commands front) table.seats name desk.names in_deck) in
      subst (λ (o : Option ℕ). IsDesk input seats (line ∷ front) (option_map_or (put_in_force table) o table)) (sym found.1) (record {
        in_range = found.2;
        in_force = name-index_of table.seats name found.0 found.1 ∙ sym (ap (in_force (first_force input)) told_is);
        distinct = desk.distinct;
        boxes = λ k d lt. box_stays (get_or table.seats k d) (desk.boxes k d lt);
        names = desk.names ∙ ap (λ (orders : List Order). filter (λ other. is_in_deck input.deck other orders) input.deck) (sym told_is);
      })

  -- a policy that isn't in force is dropped
  retired_desk : (table : Table) (name : List ℕ) → told input.commands (line ∷ front) ≡ Retire name ∷ told input.commands front
      → is_in_deck input.deck name (told input.commands front) ≡ true → same_numbers name (force_of input front) ≡ false
      → IsDesk input seats front table → IsDesk input seats (line ∷ front) (retired table name)
  retired_desk table name told_is in_deck not_in_force desk =
      let found = index_of-found table.seats name (seat_left input.deck (told input.commands front) table.seats name desk.names in_deck) in
      let index : ℕ = found.0 in
      let named : (seat_at table.seats index).name ≡ name = name-index_of table.seats name index found.1 in
      let apart : index ≢ table.force = λ same. false≢true (sym not_in_force ∙ same_name name (force_of input front) (sym named ∙ ap (λ k. (seat_at table.seats k).name) same ∙ desk.in_force)) in
      subst (λ (o : Option ℕ). IsDesk input seats (line ∷ front) (option_map_or (λ index. cond (index == table.force) table (without table index)) o table)) (sym found.1)
      (subst (λ (b : Bool). IsDesk input seats (line ∷ front) (cond b table (without table index))) (sym (ne_eqb index table.force apart))
      (dropped table name told_is index found.2 named apart desk))
    where
      dropped : (table : Table) (name : List ℕ) → told input.commands (line ∷ front) ≡ Retire name ∷ told input.commands front → (index : ℕ) → index < length table.seats
          → (seat_at table.seats index).name ≡ name → index ≢ table.force → IsDesk input seats front table → IsDesk input seats (line ∷ front) (without table index)
      dropped table name told_is index lt named apart desk = record {
        in_range = ⊎_elim
            (λ before. subst (λ b. cond b (table.force - 1) table.force < length (remove table.seats index)) (sym (lt-ltb index table.force before))
            (omega (arith, length-remove table.seats index lt, desk.in_range, before)))
            (λ behind. subst (λ b. cond b (table.force - 1) table.force < length (remove table.seats index)) (sym (le-ltb index table.force behind))
            (let below : table.force < index = omega arith in omega (arith, length-remove table.seats index lt, lt, below)))
            (cases_lt index table.force);
        in_force = ap (λ (s : DeskSeat). s.name) (seat_in_force-without table (without table index) index refl lt apart) ∙ desk.in_force ∙ sym (ap (in_force (first_force input)) told_is);
        distinct = all_pairs_remove (λ (first second : DeskSeat). first.name ≢ second.name) table.seats index lt desk.distinct;
        boxes = λ k d inside. ⊎_elim
            (λ below. subst (IsBox input seats (line ∷ front)) (sym (get_or-remove_below table.seats index d k below lt)) (box_stays (get_or table.seats k d) (desk.boxes k d (omega (arith, below, lt)))))
            (λ from. subst (IsBox input seats (line ∷ front)) (sym (get_or-remove_above table.seats index d k from lt)) (box_stays (get_or table.seats (k + 1) d) (desk.boxes (k + 1) d (omega (arith, inside, length-remove table.seats index lt)))))
            (cases_lt k index);
        names = sym (names_without table.seats index name lt named desk.distinct)
            ∙ ap (filter (λ other. not (same_numbers name other))) desk.names
            ∙ sym (names_retired input.deck name (told input.commands front))
            ∙ ap (λ (orders : List Order). filter (λ other. is_in_deck input.deck other orders) input.deck) (sym told_is);
      }

  -- the line tells an order that takes effect
  ordered_desk : (table : Table) (order : Order) → told input.commands (line ∷ front) ≡ order ∷ told input.commands front
      → takes_effect input front (told input.commands front) order ≡ true → IsDesk input seats front table → IsDesk input seats (line ∷ front) (after_orders (order ∷ []) table)
  ordered_desk table (Policy name) is effect desk = exchanged_desk table name is effect desk
  ordered_desk table (Retire name) is effect desk =
      let both = and_parts (is_in_deck input.deck name (told input.commands front)) (not (same_numbers name (force_of input front))) effect in
      retired_desk table name is both.0 (not-true (same_numbers name (force_of input front)) both.1) desk
  ordered_desk table (Close x) is effect desk = same_desk table (ap (in_force (first_force input)) is) (λ name. ap (is_in_deck input.deck name) is) desk
  ordered_desk table (Reopen x) is effect desk = same_desk table (ap (in_force (first_force input)) is) (λ name. ap (is_in_deck input.deck name) is) desk
  ordered_desk table (Stop t) is effect desk = same_desk table (ap (in_force (first_force input)) is) (λ name. ap (is_in_deck input.deck name) is) desk
  ordered_desk table (Go t) is effect desk = same_desk table (ap (in_force (first_force input)) is) (λ name. ap (is_in_deck input.deck name) is) desk
  ordered_desk table (Cancel t) is effect desk = same_desk table (ap (in_force (first_force input)) is) (λ name. ap (is_in_deck input.deck name) is) desk
  ordered_desk table (Priority t n) is effect desk = same_desk table (ap (in_force (first_force input)) is) (λ name. ap (is_in_deck input.deck name) is) desk

  -- after a line that is no admission the desk is that after the order that it tells
  pub line_desk : (table : Table) → is_lawful input (line ∷ front) ≡ true → IsDesk input seats front table
      → IsDesk input seats (line ∷ front) (after_orders (orders_of input.commands line.entry.what) table)
  line_desk table lawful desk =
      ⊎_elim
      (λ none. subst (λ (orders : List Order). IsDesk input seats (line ∷ front) (after_orders orders table)) (sym none)
      (same_desk table (ap (λ (orders : List Order). in_force (first_force input) (orders ++ told input.commands front)) none)
      (λ name. ap (λ (orders : List Order). is_in_deck input.deck name (orders ++ told input.commands front)) none) desk))
      (λ one. subst (λ (orders : List Order). IsDesk input seats (line ∷ front) (after_orders orders table)) (sym one.orders)
      (ordered_desk table one.order (ap (λ (orders : List Order). orders ++ told input.commands front) one.orders) one.effect desk))
      (told_effect input line front lawful)
