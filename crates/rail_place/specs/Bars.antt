-- Why a move is not legal, and what the player of a list answers.
use Rattle.std.specs.Prelude.{ℕ, ◌+◌, ◌&&◌, cond, nat_lt, List, [], ◌∷◌, length, Option, Some, None}
use Rattle.rail_rules.specs.Numbers.{first_below, or_else}
use Rattle.rail_rules.specs.Moves.{Moves}
use Rattle.rail_rules.specs.Places.{place_of, holds, is_inside, is_legal, after}
use Rattle.rail_place.specs.declared.barring.Barred.{Barred}
use Rattle.rail_place.specs.declared.barring.Barred.TheVariants.{Outside, Out, Held}
use Rattle.rail_place.specs.declared.barring.Played.{Played}
use Rattle.rail_place.specs.declared.barring.Played.TheVariants.{Completes, Illegal, Inside}

-- the train that holds the section
abbrev pub holder_of : Moves → List ℕ → ℕ → Option ℕ
holder_of plan s x = first_below (λ u. holds plan s u x) (length s)

-- a section that has a holder bars a move over it
abbrev pub barred_by : ℕ → Option ℕ → Option Barred
barred_by x None = None
barred_by x (Some u) = Some (Held x u)

-- the first of the sections that is taken, with its holder
abbrev pub first_taken : Moves → List ℕ → List ℕ → Option Barred
first_taken plan s [] = None
first_taken plan s (x ∷ xs) = or_else (barred_by x (holder_of plan s x)) (first_taken plan s xs)

-- why the next move of the train is not legal: the train is out, or a claimed section is taken
abbrev pub bar_of : Moves → List ℕ → ℕ → Option Barred
bar_of plan s t = cond (nat_lt (place_of s t) (plan.moves t)) (first_taken plan s (plan.claim t (place_of s t))) (Some Out)

-- why a list may not name the train next: it is not inside, or its move is not legal
abbrev pub bar_in_list : Moves → List ℕ → ℕ → Option Barred
bar_in_list plan s t = cond (nat_lt 0 (place_of s t)) (bar_of plan s t) (Some Outside)

-- nobody is inside, or the least train that is
abbrev pub ending : Option ℕ → Played
ending None = Completes
ending (Some t) = Inside t

-- what is answered where the next train of a list may not move, and else what the rest gives
abbrev pub unless_barred : ℕ → Option Barred → Played → Played
unless_barred index None later = later
unless_barred index (Some why) later = Illegal index why

-- what playing a list answers, whose trains count from the index
abbrev pub outcome : Moves → List ℕ → ℕ → List ℕ → Played
outcome plan s index [] = ending (first_below (is_inside plan s) (length s))
outcome plan s index (t ∷ rest) = unless_barred index (bar_in_list plan s t) (outcome plan (after s t) (index + 1) rest)

-- how many moves playing a list makes: those before the first train that may not move
abbrev pub moves_made : Moves → List ℕ → List ℕ → ℕ
moves_made plan s [] = 0
moves_made plan s (t ∷ rest) = cond (is_inside plan s t && is_legal plan s t) (1 + moves_made plan (after s t) rest) 0
