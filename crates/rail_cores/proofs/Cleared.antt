-- Trains that stand alone, and those of which nothing is found alone.
use Rattle.std.proofs.Common.{◌≡◌, ◌≢◌, ℕ, ◌<◌, true, List, [], Some, None, get_or, length, refl, sym, ap, ◌∙◌, inl, ⊎_elim, arith}
use Rattle.rail_rules.specs.Numbers.{are_apart}
use Rattle.rail_rules.specs.Moves.{Moves, stand}
use Rattle.rail_rules.specs.Places.{is_inside, is_valid_state, place_of}
use Rattle.rail_rules.specs.Analysis.{Finds}
use Rattle.rail_rules.proofs.CallerLemmas.{apart_from}
use Rattle.rail_base.specs.declared.limits.TheConstants.{TRAINS}
use Rattle.rail_place.proofs.CallerLemmas.{holder_listed, made_long, state_apart}
use Rattle.rail_sets.specs.declared.train_set.TrainSet.{TrainSet}
use Rattle.rail_sets.specs.TrainSets.{has_train}
use Rattle.rail_consequence.specs.Cores.{IsAhead, IsCore}
use Rattle.rail_consequence.proofs.CallerLemmas.{inside_parts}
use Rattle.rail_place.specs.PlaceStates.{IsMadeFor, State}
use Rattle.rail_place.specs.Tables.{IsTable, MoveLists, moves_in}
use Rattle.rail_cores.specs.Alones.{ArePlacesOf, StandAlone}

-- places of the moves are made for their table
pub made_of : (table : List MoveLists) (state : State) → IsTable table → ArePlacesOf (moves_in table) state → IsMadeFor table state
made_of table state is_table places = record { moves = is_table; valid = places.valid; room = places.room; counted = places.counted; told = places.told }

-- places that are made for a table are places of its moves
pub places_of : (table : List MoveLists) (state : State) → IsMadeFor table state → ArePlacesOf (moves_in table) state
places_of table state made = record { valid = made.valid; room = made.room; counted = made.counted; told = made.told }

pub apart_nowhere : (xs : List ℕ) → are_apart xs [] ≡ true
apart_nowhere xs = apart_from xs [] (λ x _. refl)

-- what is found is found ahead
abbrev pub Law : Type 0
Law = (plan : Moves) (k : ℕ) (s ahead : List ℕ) → IsAhead plan s ahead → Finds plan k s → Finds plan k ahead

-- a train inside is one of those that stand alone, at its place
stands : (plan : Moves) (trains : TrainSet) (s q : List ℕ) (t : ℕ) → StandAlone trains s q → is_inside plan q t ≡ true → (has_train trains t ≡ true) × (place_of q t ≡ place_of s t)
stands plan trains s q t alone inside =
    ⊎_elim (λ none. absurd (omega (arith, none, (inside_parts plan q t inside).0))) (λ one. one) (alone t)

-- those who stand alone are a core where nothing is found
pub alone_core : (plan : Moves) (k : ℕ) (s q : List ℕ) (trains : TrainSet) → Law → length q ≡ length s → StandAlone trains s q → (Finds plan k q → ⊥) → IsCore plan k s (has_train trains)
alone_core plan k s q trains law long alone none = λ r long_r alike found.
    let same : (t : ℕ) → is_inside plan q t ≡ true → place_of r t ≡ place_of q t = λ t inside.
    let one = stands plan trains s q t alone inside in alike t one.0 ∙ sym one.1 in
    none (law plan k r q (record {
      long = long ∙ sym long_r;
      entered = λ t inside. omega (arith, same t inside, (inside_parts plan q t inside).0);
      later = λ t inside. omega (arith, same t inside);
      clear = λ t inside. inl (same t inside);
    }) found)

-- another train of those who stand alone stands apart
pub alone_apart : (plan : Moves) (s q : List ℕ) (trains : TrainSet) (t u p : ℕ) → is_valid_state plan s ≡ true → t < length s → u ≢ t → StandAlone trains s q → p ≡ place_of s t
    → are_apart (stand plan t p) (stand plan u (place_of q u)) ≡ true
alone_apart plan s q trains t u p valid lt ne alone at =
    ⊎_elim
    (λ none. ap (λ n. are_apart (stand plan t p) (stand plan u n)) none ∙ apart_nowhere (stand plan t p))
    (λ one. ap (λ n. are_apart (stand plan t p) (stand plan u n)) one.1 ∙ ap (λ n. are_apart (stand plan t n) (stand plan u (place_of s u))) at ∙ state_apart plan s t u valid lt ne)
    (alone u)

-- who holds a section is one of the trains that there can be
pub holder_below : (table : List MoveLists) (state : State) (x u : ℕ) → IsMadeFor table state → get_or state.owners x None ≡ Some u → u < TRAINS
holder_below table state x u made is =
    let listed : u < length state.positions = holder_listed (moves_in table) state.positions u x ((made.told x u).0 is) in
    omega (arith, listed, made_long table state made, made.moves.few)
