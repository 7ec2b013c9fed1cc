-- Names.
use Rattle.std.specs.Prelude.{ℕ, Bool, ◌&&◌, ◌||◌, ◌==◌, List, length, nat_lt, nat_le}
use Rattle.std.specs.List.{list_all}
use Rattle.std.specs.Char.{is_ascii_alphanumeric}
use Rattle.std.specs.Cmp.Lexicographic.{pointwise}
use Rattle.rail_base.specs.Limits.{most, NameBytes}

-- a letter, a digit, `_` or `-`
abbrev pub is_name_byte : ℕ → Bool
is_name_byte byte = is_ascii_alphanumeric byte || byte == 95 || byte == 45

-- a text is a name where it has 1 to 16 bytes, each a letter, a digit, `_` or `-`
abbrev pub is_name : List ℕ → Bool
is_name bytes = nat_lt 0 (length bytes) && nat_le (length bytes) (most NameBytes) && list_all is_name_byte bytes

-- two names are the same where their bytes are
abbrev pub same_name : List ℕ → List ℕ → Bool
same_name = pointwise ◌==◌
