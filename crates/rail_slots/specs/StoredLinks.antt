-- How a link to a cell is stored: as the cell's number, or as the greatest number where it leads to none.
use Rattle.std.specs.Prelude.{◌≡◌, ℕ, ◌-◌, ◌^◌, eqb, cond, Option, Some, None}
use Rattle.std.proofs.Common.{refl, sym, ⊎_elim}
use Rattle.std.proofs.lemmas.Bool.{cases_eq, eq-eqb, ne_eqb}
use Rattle.rail_slots.specs.declared.links.Link.TheInside.{Inside}

-- the cell to which a stored number leads
abbrev pub link_of : ℕ → Option ℕ
link_of n = cond (eqb n (2 ^ 64 - 1)) None (Some n)

-- the number as which a link is stored
abbrev pub stored : Option ℕ → ℕ
stored None = 2 ^ 64 - 1
stored (Some cell) = cell

number_again : (n : ℕ) → stored (link_of n) ≡ n
number_again n =
    ⊎_elim
    (λ same. rw (eq-eqb n (2 ^ 64 - 1) same) (sym same))
    (λ other. rw (ne_eqb n (2 ^ 64 - 1) other) refl)
    (cases_eq n (2 ^ 64 - 1))

-- a stored link gives its number back
pub stored_again : (link : Inside) → Unit {0} → record { cell = stored (link_of link.cell) } ≡ link
stored_again link _ = λ i. record { cell = number_again link.cell i }
