-- The lines of a lawful front are lines of a history file.
use Rattle.std.proofs.Common.{◌≡◌, ℕ, ◌<◌, ◌≤◌, Bool, true, ◌&&◌, cond, leb, List, [], ◌∷◌, refl, ap, ◌∙◌, arith}
use Rattle.std.specs.Prelude.{reverse}
use Rattle.std.specs.List.{count_by, list_all}
use Rattle.std.proofs.lemmas.Bool.{and_parts, and_from, leb-true, lt-ltb}
use Rattle.std.proofs.lemmas.List.{reverse-append}
use Rattle.std.proofs.lemmas.List.Folds.{list_all-append}
use Rattle.rail_base.specs.Limits.{most, ItineraryRoutes, Commands}
use Rattle.rail_base.specs.declared.history.What.{What}
use Rattle.rail_base.specs.declared.history.What.TheVariants.{Free, Arrive, Enter, Out, Ready, Told, Untold, Admit, Hold, End}
use Rattle.rail_base.specs.declared.history.Note.TheVariants.{Pulled, Appended, Fresh}
use Rattle.rail_rules.specs.Accepted.{is_accepted_input}
use Rattle.rail_rules.specs.Fronts.{Front, Line, is_admission}
use Rattle.rail_rules.specs.Lawful.{is_lawful, may_follow}
use Rattle.rail_rules.specs.LineCounts.{lines_that}
use Rattle.rail_rules.specs.Orders.{Input}
use Rattle.rail_rules.specs.WritableLines.{does_fit_counter, is_writable_what}
use Rattle.rail_laws_text.specs.LimitedLines.{is_limited_note, is_limited_what}
use Rattle.rail_laws_text.proofs.CallerLemmas.{few_admitted, line_limited, line_writable}
use Rattle.rail_history.specs.HistoryLines.{AreHistoryLines, is_fresh, is_history_line, is_list_within}
use Rattle.rail_history.specs.ReadWords.{is_small, is_small_what}
use Rattle.rail_history.proofs.Histories.{count_push}

-- a number within one of the limits fits 16 bits
small : (n limit : ℕ) → limit < 65536 → leb n limit ≡ true → is_small n ≡ true
small n limit low within = lt-ltb n 65536 (omega (arith, low, leb-true n limit within))

small_what : (what : What) (trains : List ℕ) → is_limited_what what trains ≡ true → is_small_what what ≡ true
small_what (Arrive t m) trains h = small m (most ItineraryRoutes) (omega arith) h
small_what (Enter t m x) trains h = small m (most ItineraryRoutes) (omega arith) h
small_what (Ready t m) trains h = small m (most ItineraryRoutes) (omega arith) h
small_what (Told k) trains h = small k (most Commands) (omega arith) h
small_what (Untold k) trains h = small k (most Commands) (omega arith) h
small_what (Admit t m note) trains h =
    small m (most ItineraryRoutes) (omega arith) (and_parts (leb m (most ItineraryRoutes)) (is_limited_note note trains) h).0
small_what (Hold t m why) trains h = small m (most ItineraryRoutes) (omega arith) h
small_what (Free x t) trains h = refl
small_what (Out t) trains h = refl
small_what End trains h = refl

list_within : (what : What) (trains : List ℕ) → is_limited_what what trains ≡ true → is_list_within what trains ≡ true
list_within (Admit t m Fresh) trains h = (and_parts (leb m (most ItineraryRoutes)) (is_limited_note Fresh trains) h).1
list_within (Admit t m Pulled) trains h = refl
list_within (Admit t m Appended) trains h = refl
list_within (Arrive t m) trains h = refl
list_within (Enter t m x) trains h = refl
list_within (Ready t m) trains h = refl
list_within (Told k) trains h = refl
list_within (Untold k) trains h = refl
list_within (Hold t m why) trains h = refl
list_within (Free x t) trains h = refl
list_within (Out t) trains h = refl
list_within End trains h = refl

-- a line with a fresh list is an admission
fresh_one : (what : What) → cond (is_fresh what) 1 0 ≤ cond (is_admission what) 1 0
fresh_one (Admit t m Fresh) = omega arith
fresh_one (Admit t m Pulled) = omega arith
fresh_one (Admit t m Appended) = omega arith
fresh_one (Arrive t m) = omega arith
fresh_one (Enter t m x) = omega arith
fresh_one (Ready t m) = omega arith
fresh_one (Told k) = omega arith
fresh_one (Untold k) = omega arith
fresh_one (Hold t m why) = omega arith
fresh_one (Free x t) = omega arith
fresh_one (Out t) = omega arith
fresh_one End = omega arith

-- and there are no more of these among the lines from the oldest on
abbrev has_fresh : Line → Bool
has_fresh line = is_fresh line.entry.what

fresh_few : (front : Front) → count_by has_fresh (reverse front) ≤ lines_that is_admission front
fresh_few [] = omega arith
fresh_few (line ∷ front) =
    omega (
      arith,
      ap (count_by has_fresh) (reverse-append (line ∷ []) front),
      count_push Line has_fresh (reverse front) line,
      fresh_one line.entry.what,
      fresh_few front,
    )

module _ (input : Input) (accepted : is_accepted_input input ≡ true) where
  pub line_known : (line : Line) (front : Front) → is_lawful input (line ∷ front) ≡ true → is_history_line input.plant line ≡ true
  line_known line front lawful =
      let written = and_parts (does_fit_counter line.entry.at) (is_writable_what input.plant line line.entry.what) (line_writable input accepted line front lawful) in
      let limited = line_limited input accepted line front lawful in
      let both : (is_writable_what input.plant line line.entry.what && is_small_what line.entry.what) ≡ true =
      and_from (is_writable_what input.plant line line.entry.what) (is_small_what line.entry.what) written.1 (small_what line.entry.what line.trains limited) in
      and_from (does_fit_counter line.entry.at) _ written.0
      (and_from (is_writable_what input.plant line line.entry.what && is_small_what line.entry.what) (is_list_within line.entry.what line.trains) both (list_within line.entry.what line.trains limited))

  all_known : (front : Front) → is_lawful input front ≡ true → list_all (is_history_line input.plant) (reverse front) ≡ true
  all_known [] lawful = refl
  all_known (line ∷ front) lawful =
      let before = and_parts (is_lawful input front) (may_follow input front line) lawful in
      ap (list_all (is_history_line input.plant)) (reverse-append (line ∷ []) front)
      ∙ list_all-append (is_history_line input.plant) (reverse front) (line ∷ [])
      ∙ and_from (list_all (is_history_line input.plant) (reverse front)) (list_all (is_history_line input.plant) (line ∷ []))
      (all_known front before.0) (and_from (is_history_line input.plant line) true (line_known line front lawful) refl)

  pub lawful_lines : (front : Front) → is_lawful input front ≡ true → AreHistoryLines input.plant (reverse front)
  lawful_lines front lawful = record {
    each = all_known front lawful;
    few_fresh = omega (arith, fresh_few front, few_admitted input accepted front lawful);
  }
