-- There is room to note each line of a lawful history.
use Rattle.std.proofs.Common.{◌≡◌, ℕ, ◌<◌, true, false, ltb, ◌∷◌, length, refl, sym, ap, ◌∙◌, arith}
use Rattle.std.proofs.lemmas.Bool.{and_from, false≢true, lt-ltb}
use Rattle.rail_base.specs.declared.history.What.{What}
use Rattle.rail_base.specs.declared.history.What.TheVariants.{Free, Arrive, Enter, Out, Ready, Told, Untold, Admit, Hold, End}
use Rattle.rail_base.specs.declared.limits.TheConstants.{ITINERARY_ROUTES}
use Rattle.rail_rules.specs.Accepted.{is_accepted_input}
use Rattle.rail_rules.specs.Causes.{place}
use Rattle.rail_rules.specs.Fronts.{Front, Line}
use Rattle.rail_rules.specs.Lawful.{is_lawful}
use Rattle.rail_rules.specs.Orders.{Input}
use Rattle.rail_rules.specs.Plant.{trains}
use Rattle.rail_laws_front.specs.Views.{Follows}
use Rattle.rail_laws_front.specs.Views.Follows.{by_event, by_admission, by_hold, by_end}
use Rattle.rail_laws_front.proofs.CallerLemmas.{event_admits_nothing, lawful_last, waiting_known, waiting_parts}
use Rattle.rail_laws_events.proofs.CallerLemmas.{input_parts}
use Rattle.rail_rules.specs.Fronts.{is_admission}
use Rattle.rail_stairs.specs.declared.stairs.Stairs.{Stairs}
use Rattle.rail_stairs.specs.NotedHistories.{AreNoted, has_room, noted_of}
use Rattle.rail_stairs.proofs.Counts.{few_moves}
use Rattle.rail_stairs.proofs.Ready.{noted_is, noted_rows}

-- a line that admits nothing needs no room
idle_room : (stairs : Stairs) (what : What) → is_admission what ≡ false → has_room stairs what ≡ true
idle_room stairs (Admit t m note) h = absurd (false≢true (sym h))
idle_room stairs (Free x t) h = refl
idle_room stairs (Arrive t m) h = refl
idle_room stairs (Enter t m x) h = refl
idle_room stairs (Out t) h = refl
idle_room stairs (Ready t m) h = refl
idle_room stairs (Told k) h = refl
idle_room stairs (Untold k) h = refl
idle_room stairs (Hold t m why) h = refl
idle_room stairs End h = refl

pub room_for : (input : Input) → is_accepted_input input ≡ true → (line : Line) (front : Front) (stairs : Stairs)
    → is_lawful input (line ∷ front) ≡ true → AreNoted input.plant front stairs → has_room stairs line.entry.what ≡ true
room_for input accepted line front stairs lawful noted = by (lawful_last input line front lawful)
  where
    by : Follows input front line → has_room stairs line.entry.what ≡ true
    by (by_event happens) = idle_room stairs line.entry.what (event_admits_nothing line.entry.what happens.event)
    by (by_admission t m note admits) =
        let room = (waiting_parts input front t admits.waiting).room in
        let known : t < trains input.plant = waiting_known input.plant t (place front t) room in
        ap (has_room stairs) admits.what
        ∙ and_from (ltb t (length stairs.admissions.items)) (ltb (length (noted_of stairs t)) ITINERARY_ROUTES)
        (lt-ltb t (length stairs.admissions.items) (omega (arith, known, noted_rows input.plant front stairs noted)))
        (lt-ltb (length (noted_of stairs t)) ITINERARY_ROUTES
        (omega (arith, room, ap (length {A = ℕ}) (noted_is input.plant front stairs noted t known), few_moves input.plant (input_parts input accepted).0 t known)))
    by (by_hold t m why holds) = idle_room stairs line.entry.what (ap is_admission holds.what)
    by (by_end ends) = idle_room stairs line.entry.what (ap is_admission ends.what)
