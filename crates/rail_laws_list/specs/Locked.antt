-- Trains that lock each other, which is a deadlock, and whether some list completes.
use Rattle.std.specs.Prelude.{ℕ, Bool, List, IsTrue}
use Rattle.rail_rules.specs.Numbers.{is_in}
use Rattle.rail_rules.specs.Moves.{Moves}
use Rattle.rail_rules.specs.Places.{place_of, is_inside, holds, completes}

-- the train claims for its next move a section that one of these trains holds
pub record IsHeldUp (plan : Moves) (s : List ℕ) (among : ℕ → Bool) (t : ℕ) : Type 0 where
  pub section : ℕ
  pub holder : ℕ
  pub claims : IsTrue (is_in section (plan.claim t (place_of s t)))
  pub is_one : IsTrue (among holder)
  pub held : IsTrue (holds plan s holder section)

-- these trains lock each other: each is inside, and claims for its next move a section that one of them holds
pub record AreLocked (plan : Moves) (s : List ℕ) (among : ℕ → Bool) : Type 0 where
  pub inside : (t : ℕ) → IsTrue (among t) → IsTrue (is_inside plan s t)
  pub held_up : (t : ℕ) → IsTrue (among t) → IsHeldUp plan s among t

-- some list of moves completes
pub record HasList (plan : Moves) (s : List ℕ) : Type 0 where
  pub list : List ℕ
  pub completing : IsTrue (completes plan s list)
