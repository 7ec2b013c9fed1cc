-- The last move of a train that claims a section, and moves before which none does.
use Rattle.std.specs.Prelude.{◌≡◌, ℕ, zero, suc, ◌<◌, Bool, cond, false, List, [], length, get_or}
use Rattle.rail_base.specs.declared.limits.TheConstants.{SECTIONS}
use Rattle.rail_rules.specs.Numbers.{is_in}
use Rattle.rail_rules.specs.Moves.{Moves}

-- the last number below the bound that passes, counted from 1, and 0 where none does
abbrev pub last_below : (ℕ → Bool) → ℕ → ℕ
last_below test zero = 0
last_below test (suc n) = cond (test n) (suc n) (last_below test n)

-- the last move of the train that claims the section, counted from 1, and 0 where none does
abbrev pub last_claim : Moves → ℕ → ℕ → ℕ
last_claim plan t x = last_below (λ m. is_in x (plan.claim t m)) (plan.moves t)

-- it is told for each section where these are the claimed sections of the train's moves
pub record TellsLasts (claims : List (List ℕ)) (lasts : List ℕ) : Type 0 where
  pub wide : length lasts ≡ SECTIONS
  pub told : (x : ℕ) → x < SECTIONS → get_or lasts x 0 ≡ last_below (λ m. is_in x (get_or claims m [])) (length claims)

-- for each section a move is told, counted from 1, before which none of the train claims it
pub record TellsFirsts (claims : List (List ℕ)) (firsts : List ℕ) : Type 0 where
  pub wide : length firsts ≡ SECTIONS
  pub none : (m x : ℕ) → x < SECTIONS → suc m < get_or firsts x 0 → is_in x (get_or claims m []) ≡ false

-- both are told for each section where these are the claimed sections of the train's moves
pub record TellsEnds (claims : List (List ℕ)) (lasts firsts : List ℕ) : Type 0 where
  pub lasts_told : TellsLasts claims lasts
  pub firsts_told : TellsFirsts claims firsts
