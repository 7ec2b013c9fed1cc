-- Bytes that are moved from the front of what is left.
use Rattle.std.proofs.Common.{◌≡◌, ℕ, ◌+◌, ◌-◌, ◌≤◌, List, ◌++◌, length, take, drop, refl, ap, sym, ◌∙◌, append_assoc}
use Rattle.std.proofs.Math.Seq.{take-append-add}
use Rattle.std.proofs.lemmas.List.{length-drop, length-take-le, take_at, take-append-drop, take-append-le, take-take, drop-drop}
use Rattle.std.specs.Prelude.{Option, Some, None}
use Rattle.std.specs.Io.KnownBytes.{prepend_known}

-- the bytes moved, and then those behind them, are those that were left
pub moves_next : (bytes moved rest : List ℕ) (from count : ℕ) → count ≤ length bytes - from → moved ≡ take count (drop from bytes) → drop from bytes ≡ take count (moved ++ rest) ++ drop (from + count) bytes
moves_next bytes moved rest from count fits same =
    let within : count ≤ length (drop from bytes) = rw length-drop fits in
    let moved_length : length moved ≡ count = ap length same ∙ length-take-le count (drop from bytes) within in
    sym (rw (take_at moved rest count moved_length, same, ← drop-drop count from bytes) (take-append-drop count (drop from bytes)))

prepend_known_twice : (xs ys : List ℕ) (known : Option (List ℕ)) → prepend_known (xs ++ ys) known ≡ prepend_known xs (prepend_known ys known)
prepend_known_twice xs ys None = refl
prepend_known_twice xs ys (Some zs) = ap (λ bytes. Some bytes) (append_assoc xs ys zs)

front_and_moved : (front into post rest : List ℕ) (filled count len : ℕ) → length front ≡ filled → count ≤ length into → filled + count ≤ len → take (filled + count) (take len (front ++ (into ++ post) ++ rest)) ≡ front ++ take count into
front_and_moved front into post rest filled count len is_front is_within fits =
    rw (take-take, append_assoc, ← is_front, take-append-add, append_assoc, take-append-le) refl

-- the bytes read before, those moved now, and those left are those that were left at first
pub read_more : (first left now : Option (List ℕ)) (bytes front into post rest : List ℕ) (filled count len : ℕ)
    → first ≡ prepend_known (take filled bytes) left → front ≡ take filled bytes → length front ≡ filled
    → left ≡ prepend_known (take count into) now → count ≤ length into → filled + count ≤ len
    → first ≡ prepend_known (take (filled + count) (take len (front ++ (into ++ post) ++ rest))) now
read_more first left now bytes front into post rest filled count len before same is_front moved is_within fits =
    rw (front_and_moved front into post rest filled count len is_front is_within fits, prepend_known_twice front (take count into) now, ← moved, same) before
