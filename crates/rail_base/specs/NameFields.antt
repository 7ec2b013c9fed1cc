-- How a name is stored: its bytes at the front of a room of sixteen, and zeros behind them.
use Rattle.std.specs.Prelude.{◌≡◌, ℕ, ◌-◌, ◌≤◌, List, ◌++◌, length, take, drop, replicate, IsTrue}
use Rattle.std.proofs.Common.{ap, sym, ◌∙◌, arith}
use Rattle.std.proofs.lemmas.List.{take-append-drop, length-take-le}
use Rattle.rail_base.specs.declared.text.Name.TheInside.{Inside}
use Rattle.rail_base.specs.NameForms.{is_name}

-- the bytes of the name
abbrev pub bytes_of : Inside → List ℕ
bytes_of a = take a.len a.bytes

-- a name is stored so: its bytes, which are a name, fill the front of a room of sixteen, and zeros stand behind them
pub record IsNameInside (a : Inside) : Type 0 where
  pub whole : length a.bytes ≡ 16
  pub short : a.len ≤ 16
  pub padded : drop a.len a.bytes ≡ replicate (16 - a.len) 0
  pub named : IsTrue (is_name (bytes_of a))

-- the bytes of a name give its room back
pub inverse_of-bytes_of : (a : Inside) → IsNameInside a
    → record { bytes = bytes_of a ++ replicate (16 - length (bytes_of a)) 0; len = length (bytes_of a) } ≡ a
inverse_of-bytes_of a h =
    let n = length-take-le a.len a.bytes (omega (arith, h.whole, h.short)) in
    let same = ap (λ (k : ℕ). bytes_of a ++ replicate (16 - k) 0) n
    ∙ ap (λ (rest : List ℕ). bytes_of a ++ rest) (sym h.padded) ∙ take-append-drop a.len a.bytes in
    λ i. record { bytes = same i; len = n i }
