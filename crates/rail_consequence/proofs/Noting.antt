-- What may be noted of trains.
use Rattle.std.proofs.Common.{◌≡◌, ◌≢◌, ℕ, true, false, List, sym, ap, ◌∙◌, subst, ⊎_elim}
use Rattle.std.proofs.lemmas.Bool.{cases_Bool, cases_eq, false≢true}
use Rattle.rail_rules.specs.Moves.{Moves, stand}
use Rattle.rail_rules.specs.Numbers.{is_in}
use Rattle.rail_rules.specs.Places.{is_inside, is_valid_state, place_of}
use Rattle.rail_rules.proofs.CallerLemmas.{apart_at}
use Rattle.rail_place.proofs.CallerLemmas.{state_apart}
use Rattle.rail_sets.specs.Sets.{has}
use Rattle.rail_consequence.specs.Searches.{HasNoSafeLegOf}
use Rattle.rail_consequence.specs.Stops.{IsBehind, IsNoted, IsNotedTo, IsSettled, IsStopped, ShowsStop, section_of, stop_of}
use Rattle.rail_consequence.specs.declared.notes.SearchNotes.{SearchNotes}
use Rattle.rail_consequence.specs.declared.notes.Stop.{Stop}
use Rattle.rail_consequence.specs.declared.notes.Stop.TheVariants.{Unknown, Free, Next, Later}
use Rattle.rail_consequence.proofs.Legs.{inside_listed}
use Rattle.rail_consequence.proofs.Stopping.{stopped_unsafe}

-- a train that a section stops does not stand on it
stopped_apart : (plan : Moves) (s : List ℕ) (u x : ℕ) → is_valid_state plan s ≡ true → IsStopped plan s u x → is_in x (stand plan u (place_of s u)) ≡ false
stopped_apart plan s u x state stop =
    ⊎_elim
    (λ own.
    let apart = state_apart plan s u stop.taken.holder state (inside_listed plan s u stop.inside) stop.taken.other in
    absurd (false≢true (sym (apart_at (stand plan u (place_of s u)) (stand plan stop.taken.holder (place_of s stop.taken.holder)) x apart own) ∙ stop.taken.taken)))
    (λ out. out)
    (cases_Bool (is_in x (stand plan u (place_of s u))))

-- a train that a section stops needs it behind
stopped_behind : (plan : Moves) (s : List ℕ) (u x : ℕ) → is_valid_state plan s ≡ true → IsStopped plan s u x → IsBehind plan s u x
stopped_behind plan s u x state stop = record {
  apart = stopped_apart plan s u x state stop;
  place = stop.place;
  from = stop.from;
  below = stop.below;
  needed = stop.needed;
  unsafe = stop.unsafe;
}

-- a train of which a look shows what stops it has no safe leg
pub shown_unsafe : (plan : Moves) (s : List ℕ) (t : ℕ) (stop : Stop) → ShowsStop plan s t stop → HasNoSafeLegOf plan s t
shown_unsafe plan s t Unknown shown = absurd shown
shown_unsafe plan s t Free shown = absurd shown
shown_unsafe plan s t (Next x) shown = λ p is. stopped_unsafe plan s t x p shown.0 is
shown_unsafe plan s t (Later x) shown = λ p is. stopped_unsafe plan s t x p shown is

-- and it may be noted
pub shown_noted : (plan : Moves) (s fell : List ℕ) (t : ℕ) (stop : Stop) → is_valid_state plan s ≡ true → ShowsStop plan s t stop → IsNoted plan s fell t stop
shown_noted plan s fell t Unknown state shown = absurd shown
shown_noted plan s fell t Free state shown = absurd shown
shown_noted plan s fell t (Next x) state shown = shown.1
shown_noted plan s fell t (Later x) state shown = λ _. stopped_behind plan s t x state shown

-- one note more that holds
pub note_one : (plan : Moves) (s : List ℕ) (old new : SearchNotes) (t : ℕ) (stop : Stop) → IsNotedTo plan s old → IsNoted plan s new.fell t stop → stop_of new.stops t ≡ stop → ((u : ℕ) → u ≢ t → stop_of new.stops u ≡ stop_of old.stops u)
    → new.fell ≡ old.fell → new.has_fallen ≡ old.has_fallen → IsNotedTo plan s new
note_one plan s old new t stop noted told here others fell has_fallen = record {
  each = λ u inside.
      let F : List ℕ → Type 0 = λ set. IsNoted plan s set u (stop_of old.stops u) in
      ⊎_elim
      (λ same.
      let Q : ℕ → Type 0 = λ v. IsNoted plan s new.fell v (stop_of new.stops v) in
      let R : Stop → Type 0 = λ stop. IsNoted plan s new.fell t stop in
      subst Q (sym same) (subst R (sym here) told))
      (λ ne.
      let R : Stop → Type 0 = λ stop. IsNoted plan s new.fell u stop in
      subst R (sym (others u ne)) (subst F (sym fell) (noted.each u inside)))
      (cases_eq u t);
  none = λ e x.
      let F : List ℕ → Type 0 = λ set. has set x ≡ false in
      subst F (sym fell) (noted.none (sym has_fallen ∙ e) x);
}

-- notes of trains that they stop are notes that hold, with nothing fallen
pub noted_anew : (plan : Moves) (s : List ℕ) (stops : List Stop) (notes : SearchNotes) → is_valid_state plan s ≡ true → IsSettled plan s stops → notes.stops ≡ stops → ((x : ℕ) → has notes.fell x ≡ false) → IsNotedTo plan s notes
noted_anew plan s stops notes state settled same none = record {
  each = λ u is. ap_note u is (stop_of notes.stops u) (ap (λ xs. stop_of xs u) (sym same));
  none = λ _ x. none x;
}
  where
    ap_note : (u : ℕ) → is_inside plan s u ≡ true → (stop : Stop) → stop_of stops u ≡ stop → IsNoted plan s notes.fell u stop
    ap_note u is Unknown at = tt
    ap_note u is Free at = tt
    ap_note u is (Next x) at = settled.next u x is at
    ap_note u is (Later x) at = λ _. stopped_behind plan s u x state (settled.stopped u x is (ap section_of at))
