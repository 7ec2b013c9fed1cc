-- Names and times are text.
use Rattle.std.proofs.Common.{◌≡◌, ℕ, ◌+◌, ◌/◌, ◌%◌, ◌<◌, ◌^◌, true, ◌&&◌, List, [], ◌∷◌, length, decimal, nat_lt, nat_le, arith}
use Rattle.std.specs.List.{list_all}
use Rattle.std.specs.Str.{IsUtf8, IsAscii}
use Rattle.std.proofs.lemmas.Bool.{and_parts}
use Rattle.std.proofs.lemmas.Bool.Decides.{nat_tests}
use Rattle.std.proofs.lemmas.Fmt.{IsAscii-decimal}
use Rattle.std.proofs.lemmas.Str.{IsUtf8-from_ascii, IsAscii-append}
use Rattle.std.proofs.lemmas.Str.Ascii.{IsAscii-nil, IsAscii-cons}
use Rattle.rail_base.specs.Clock.{time_text, hours_text, two_digits}
use Rattle.rail_base.specs.Limits.{most, NameBytes}
use Rattle.rail_base.specs.NameForms.{is_name, is_name_byte}
use Rattle.rail_base.proofs.CallerLemmas.{hours_cases}

byte_below : (b : ℕ) → is_name_byte b ≡ true → b < 128
byte_below b is = grind (arith, nat_tests)

bytes_ascii : (bs : List ℕ) → list_all is_name_byte bs ≡ true → IsAscii bs
bytes_ascii [] all = IsAscii-nil
bytes_ascii (b ∷ bs) all =
    let (here, more) = and_parts (is_name_byte b) (list_all is_name_byte bs) all in
    IsAscii-cons b bs (byte_below b here) (bytes_ascii bs more)

-- a name is text
pub name_utf8 : (name : List ℕ) → is_name name ≡ true → IsUtf8 name
name_utf8 name is =
    let (sized, bytes) = and_parts (nat_lt 0 (length name) && nat_le (length name) (most NameBytes)) (list_all is_name_byte name) is in
    IsUtf8-from_ascii name (bytes_ascii name bytes)

two_ascii : (b n : ℕ) → b < 128 → n < 60 → IsAscii (b ∷ two_digits n)
two_ascii b n low few =
    IsAscii-cons b (two_digits n) low
    (IsAscii-cons (48 + n / 10) ((48 + n % 10) ∷ []) (omega arith) (IsAscii-cons (48 + n % 10) [] (omega arith) IsAscii-nil))

-- the text of a time is text
pub time_utf8 : (time : ℕ) → time < 2 ^ 64 → IsUtf8 (time_text time)
time_utf8 time fits =
    let hours = time / 36000 in
    let digits : IsAscii (decimal hours) = IsAscii-decimal hours (omega arith) in
    let first : IsAscii (hours_text hours) = hours_cases IsAscii hours (IsAscii-cons 48 (decimal hours) (omega arith) digits) digits in
    let minutes = two_ascii 58 (time / 600 % 60) (omega arith) (omega arith) in
    let seconds = two_ascii 58 (time / 10 % 60) (omega arith) (omega arith) in
    let tenths : IsAscii (46 ∷ (48 + time % 10) ∷ []) =
    IsAscii-cons 46 ((48 + time % 10) ∷ []) (omega arith) (IsAscii-cons (48 + time % 10) [] (omega arith) IsAscii-nil) in
    IsUtf8-from_ascii (time_text time) (IsAscii-append _ _ (IsAscii-append _ _ (IsAscii-append _ _ first minutes) seconds) tenths)
