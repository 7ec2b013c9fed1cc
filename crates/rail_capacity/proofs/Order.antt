-- Blocking times in order of section and begin.
use Rattle.std.proofs.Common.{◌≡◌, ◌<◌, ◌≤◌, List, [], ◌∷◌, ◌∙◌, arith, ⊎_elim, subst}
use Rattle.std.specs.List.{Contains}
use Rattle.rail_capacity.specs.declared.blocking_times.BlockingTime.{BlockingTime}
use Rattle.rail_capacity.proofs.Members.{among, in_none}

-- the second doesn't come before the first
pub data InOrder (x y : BlockingTime) : Type 0 where
  by_section : x.section < y.section → InOrder x y
  by_begin : x.section ≡ y.section → x.begin ≤ y.begin → InOrder x y

pub in_order-trans : (x y z : BlockingTime) → InOrder x y → InOrder y z → InOrder x z
in_order-trans x y z first second = elim first [
  | by_section low ↦ elim second [
    | by_section later ↦ by_section (omega arith)
    | by_begin same later ↦ by_section (omega arith)
  ]
  | by_begin same low ↦ elim second [
    | by_section later ↦ by_section (omega arith)
    | by_begin too later ↦ by_begin (same ∙ too) (omega arith)
  ]
]

-- on one section
pub begins_in_order : (x y : BlockingTime) → x.section ≡ y.section → InOrder x y → x.begin ≤ y.begin
begins_in_order x y same order = elim order [ by_section low ↦ absurd (omega arith) | by_begin too low ↦ low ]

pub sections_in_order : (x y : BlockingTime) → InOrder x y → x.section ≤ y.section
sections_in_order x y order = elim order [ by_section low ↦ omega arith | by_begin same low ↦ omega arith ]

-- each is in order with the next
abbrev pub IsRising : List BlockingTime → Type 0
IsRising [] = Unit {0}
IsRising (x ∷ []) = Unit {0}
IsRising (x ∷ y ∷ rest) = InOrder x y × IsRising (y ∷ rest)

-- and so with all that follow
pub rising_far : (x : BlockingTime) (rest : List BlockingTime) → IsRising (x ∷ rest) → (y : BlockingTime) → Contains rest y → InOrder x y
rising_far x [] rising y has = in_none y has
rising_far x (z ∷ rest) rising y has =
    ⊎_elim
    (λ (is : z ≡ y). let P : BlockingTime → Type 0 = λ s. InOrder x s in subst P is rising.0)
    (λ (later : Contains rest y). in_order-trans x z y rising.0 (rising_far z rest rising.1 y later))
    (among z rest y has)
