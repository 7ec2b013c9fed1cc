-- Without commands what is due is what is to come; how much that is, and what it is.
use Rattle.std.proofs.Common.{◌≡◌, ℕ, ◌+◌, ◌<◌, Bool, true, false, not, ◌&&◌, [], ◌∷◌, ◌++◌, ◌∙◌}
use Rattle.std.specs.List.{list_any}
use Rattle.std.proofs.lemmas.Bool.{and_parts, and_from, not-true, not_from_false}
use Rattle.rail_base.specs.declared.history.Entry.{Entry}
use Rattle.rail_rules.specs.Plant.{Plant, trains}
use Rattle.rail_rules.specs.Fronts.{Front, admissions, stands}
use Rattle.rail_rules.specs.Events.{train_events}
use Rattle.rail_laws_front.specs.EventLines.{IsEvent}
use Rattle.rail_laws_front.proofs.CallerLemmas.{gather_found, gather_from, event_found, event_from, filter_found, filter_from}
use Rattle.rail_laws_events.specs.Accounts.{tally, all_events, to_come}
use Rattle.rail_laws_events.proofs.CallerLemmas.{tally-some, some-tally}
use Rattle.rail_laws_step.specs.LinesToCome.{ToCome}

-- a line that is to come is one of a train that doesn't stand, and each such line is to come
come_found : (plant : Plant) (front : Front) (p : Entry → Bool) → list_any p (to_come plant front) ≡ true → ToCome plant front p
come_found plant front p some =
    let open_line : Entry → Bool = λ e. not (stands front e) && p e in
    let found = gather_found open_line (λ t. train_events plant t (admissions front t) false) (trains plant) (filter_found p (λ e. not (stands front e)) (all_events plant front) some) in
    let line = event_found plant found.0 (admissions front found.0) false open_line found.2 in
    let both = and_parts (not (stands front line.entry)) (p line.entry) line.passing in
    record {
      train = found.0;
      entry = line.entry;
      known = found.1;
      event = line.event;
      fresh = not-true (stands front line.entry) both.0;
      passes = both.1;
    }

pub to_come_found : (plant : Plant) (front : Front) (p : Entry → Bool) → 0 < tally p (to_come plant front) → ToCome plant front p
to_come_found plant front p some = come_found plant front p (some-tally p (to_come plant front) some)

pub to_come_from : (plant : Plant) (front : Front) (p : Entry → Bool) (t : ℕ) (e : Entry) → t < trains plant → IsEvent plant t (admissions front t) false e → stands front e ≡ false → p e ≡ true → 0 < tally p (to_come plant front)
to_come_from plant front p t e known event fresh passes =
    let open_line : Entry → Bool = λ x. not (stands front x) && p x in
    tally-some p (to_come plant front)
    (filter_from p (λ x. not (stands front x)) (all_events plant front)
    (gather_from open_line (λ u. train_events plant u (admissions front u) false) (trains plant) t known
    (event_from plant t (admissions front t) false open_line e event (and_from (not (stands front e)) (p e) (not_from_false (stands front e) fresh) passes))))
