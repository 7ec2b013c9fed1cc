-- What several writes in a row add.
use Rattle.std.proofs.Common.{◌≡◌, ℕ, ◌+◌, ◌≤◌, min, List, [], ◌++◌, length, refl, arith, append_assoc}
use Rattle.std.proofs.Math.Seq.{take-append-add}
use Rattle.std.proofs.lemmas.List.{append-nil, take-append-le, take_min}
use Rattle.std.proofs.lemmas.Option.{same_Some}
use Rattle.std.specs.Prelude.{Option, Some, None}
use Rattle.std.specs.Io.KnownBytes.{append_known}
use Rattle.rail_io.specs.Writes.{Adds, AddsPrefix}

-- what stays adds nothing
pub Adds-same : (old : Option (List ℕ)) → Adds old old []
Adds-same None = record { appended = λ after h. h }
Adds-same (Some before) = record { appended = λ after h. rw append-nil h }

append_known_twice : (old middle : Option (List ℕ)) (first second after : List ℕ) → append_known middle second ≡ Some after → Adds old middle first → append_known old (first ++ second) ≡ Some after
append_known_twice old None first second after two one = cc
append_known_twice None (Some between) first second after two one = let e = one.appended between refl in cc
append_known_twice (Some before) (Some between) first second after two one =
    let e : before ++ first ≡ between = same_Some _ _ (one.appended between refl) in rw (← append_assoc, e) two

-- two writes in a row add both
pub Adds-append : {old middle new : Option (List ℕ)} {first second : List ℕ} → Adds old middle first → Adds middle new second → Adds old new (first ++ second)
Adds-append {old} {middle} {new} {first} {second} one two =
    record { appended = λ after h. append_known_twice old middle first second after (two.appended after h) one }

-- a first part of a piece is a first part of what begins with the piece
pub AddsPrefix-more : {old new : Option (List ℕ)} {first : List ℕ} (second : List ℕ) → AddsPrefix old new first → AddsPrefix old new (first ++ second)
AddsPrefix-more {old} {new} {first} second one =
    let count : ℕ = min one.count (length first) in
    let within : count ≤ length first = omega arith in
    record { count = count; added = rw (take-append-le, take_min) one.added }

-- a write of all, and then of a first part, add a first part of both
pub AddsPrefix-append : {old middle new : Option (List ℕ)} {first second : List ℕ} → Adds old middle first → AddsPrefix middle new second → AddsPrefix old new (first ++ second)
AddsPrefix-append {old} {middle} {new} {first} {second} one two =
    record { count = length first + two.count; added = rw (take-append-add first second two.count) (Adds-append one two.added) }
