-- Text of the outside as it is shown on a terminal.
use Rattle.std.specs.Prelude.{ℕ, ◌+◌, ◌-◌, ◌/◌, ◌%◌, ◌==◌, Bool, cond, leb, ltb, not, ◌&&◌, List, [], ◌∷◌, flat_map}

-- the byte is no control character
abbrev pub is_plain : ℕ → Bool
is_plain byte = leb 32 byte && not (byte == 127)

-- the digit of a number below 16
abbrev pub hex_digit : ℕ → ℕ
hex_digit number = cond (ltb number 10) (48 + number) (97 + (number - 10))

-- a control character is spelled with a backslash, an x and two digits
abbrev pub spelled : ℕ → List ℕ
spelled byte = 92 ∷ 120 ∷ hex_digit (byte / 16) ∷ hex_digit (byte % 16) ∷ []

-- the byte as it is shown
abbrev pub shown_byte : ℕ → List ℕ
shown_byte byte = cond (is_plain byte) (byte ∷ []) (spelled byte)

-- the text as it is shown
abbrev pub shown_text : List ℕ → List ℕ
shown_text text = flat_map shown_byte text
