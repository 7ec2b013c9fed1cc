-- Why a file of a command is not read.
use Rattle.std.specs.Prelude.{◌≡◌, ◌⊎◌, ℕ, ◌<◌, Bool, true, false, not, ◌&&◌, cond, nat_lt, length, List, [], ◌∷◌, IsSomeAnd, Option, Some, None, option_and_then}
use Rattle.std.specs.Option.{option_map}
use Rattle.std.specs.Global.{Vec}
use Rattle.rail_base.specs.Refusals.{is_file}
use Rattle.rail_base.specs.declared.refusals.Refusal.{Refusal}
use Rattle.rail_base.specs.declared.refusals.Reason.{Reason}
use Rattle.rail_base.specs.declared.refusals.Reason.TheVariants.{LineEmpty, TooMany, WindowEmpty}
use Rattle.rail_base.specs.declared.refusals.Part.TheVariants as part
use Rattle.rail_rules.specs.Numbers.{or_else}
use Rattle.rail_io.specs.FaultCounts.{Rose}
use Rattle.rail_io.specs.declared.shelf.Shelf.{Ghosts}
use Rattle.rail_command_line.specs.Files.{File, file_as, most_bytes, number_of}
use Rattle.rail_command_line.specs.declared.files.FileRole.{FileRole}
use Rattle.rail_forms.specs.declared.status.Status.{Status}
use Rattle.rail_forms.specs.declared.status.Status.TheVariants.{Done, Usage, Refused, ReadFault, WriteFault, OutOfMemory, CheckedNo}

-- the refusal of a file of the role for its size
abbrev pub too_many_bytes : FileRole → Refusal
too_many_bytes role = record { reason = TooMany; part = part.File; item = number_of role; step = 0 }

-- why bytes of a file of the role are refused before they are read: they are more than it may have
abbrev pub too_large : FileRole → List ℕ → Option Refusal
too_large role bytes = cond (nat_lt (most_bytes role) (length bytes)) (Some (too_many_bytes role)) None

-- where the bytes of the file are told, they are no more than it may have
abbrev pub FitsWhereTold : (List ℕ → Option (List ℕ)) → File → Type 0
FitsWhereTold told file = (name bytes : List ℕ) → file.name ≡ Some name → told name ≡ Some bytes → too_large file.role bytes ≡ None

-- the bytes of a file, where they are told; of no file there are none
abbrev pub told_of : (List ℕ → Option (List ℕ)) → Option (List ℕ) → Option (Option (List ℕ))
told_of told None = Some None
told_of told (Some file) = option_map (λ bytes. Some bytes) (told file)

-- the bytes that were read of a file that may be missing
abbrev pub content_of : Option (Vec ℕ) → Option (List ℕ)
content_of bytes = option_map (λ (read : Vec ℕ). read.items) bytes

-- the same refusal of a file that may be missing
abbrev pub too_large_if_any : FileRole → Option (List ℕ) → Option Refusal
too_large_if_any role content = option_and_then (too_large role) content

-- a call failed at one of the files; no file before it is too large where its bytes are told
abbrev pub IsOneOf : (List ℕ → Option (List ℕ)) → List File → Option (List ℕ) → Type 0
IsOneOf told [] failed = ⊥
IsOneOf told (file ∷ files) failed =
    IsSomeAnd file.name (λ name. failed ≡ Some name) ⊎ (FitsWhereTold told file × IsOneOf told files failed)

-- the name of the last of the files that is there
abbrev pub last_file : List File → Option (List ℕ)
last_file [] = None
last_file (file ∷ files) = or_else (last_file files) file.name

-- a fault of reading: the count of faults rose, and the failed name is that of one of the files, none before which
-- is refused for its size
pub record IsReadFault {S : Type 0} (shelf : Ghosts S) (files : List File) (before now : S) : Type 0 where
  pub rose : Rose (shelf.faults before) (shelf.faults now)
  pub named : IsOneOf (shelf.told before) files (shelf.failed now)

-- the file of this name was begun and read to its end, and no call failed at it
pub record IsRead {S : Type 0} (shelf : Ghosts S) (file : List ℕ) (now : S) : Type 0 where
  pub is_begun : shelf.begun now ≡ Some file
  pub is_ended : shelf.ended now ≡ true
  pub none_failed : shelf.failed now ≡ None

-- the file is too large: it was begun, more of its bytes were moved than it may have, and where they are told they are more
pub record IsTooLarge {S : Type 0} (shelf : Ghosts S) (role : FileRole) (file : List ℕ) (before now : S) (answer : Refusal) : Type 0 where
  pub is : answer ≡ too_many_bytes role
  pub begun : shelf.begun now ≡ Some file
  pub over : most_bytes role < shelf.moved now
  pub larger : (bytes : List ℕ) → shelf.told before file ≡ Some bytes → too_large role bytes ≡ Some answer

-- one of the files is too large
abbrev pub IsOneTooLarge : {S : Type 0} → Ghosts S → List File → S → S → Refusal → Type 0
IsOneTooLarge shelf [] before now answer = ⊥
IsOneTooLarge shelf (file ∷ files) before now answer =
    IsSomeAnd file.name (λ name. IsTooLarge shelf file.role name before now answer) ⊎ IsOneTooLarge shelf files before now answer

-- why the file of this name, which has this role, was not read
abbrev pub IsFileAnswer : {S : Type 0} → Ghosts S → FileRole → List ℕ → S → S → Status → Type 0
IsFileAnswer shelf role file before now Done = ⊥
IsFileAnswer shelf role file before now Usage = ⊥
IsFileAnswer shelf role file before now (Refused refusal) = IsTooLarge shelf role file before now refusal
IsFileAnswer shelf role file before now ReadFault = IsReadFault shelf (file_as role (Some file) ∷ []) before now
IsFileAnswer shelf role file before now WriteFault = ⊥
IsFileAnswer shelf role file before now OutOfMemory = Unit {0}
IsFileAnswer shelf role file before now (CheckedNo line law) = ⊥

-- why a file that may be missing was not read
abbrev pub IsNamedAnswer : {S : Type 0} → Ghosts S → FileRole → Option (List ℕ) → S → S → Status → Type 0
IsNamedAnswer shelf role None before now status = ⊥
IsNamedAnswer shelf role (Some file) before now status = IsFileAnswer shelf role file before now status

-- a file was read to its end, where there is one
abbrev pub IsReadIfAny : {S : Type 0} → Ghosts S → Option (List ℕ) → S → S → Type 0
IsReadIfAny shelf None before now = now ≡ before
IsReadIfAny shelf (Some file) before now = IsRead shelf file now

-- the words themselves are refused for this reason, before any file
abbrev pub is_of_words : Reason → Bool
is_of_words LineEmpty = true
is_of_words WindowEmpty = true
is_of_words reason = false

-- with this status the last file was read to its end: it is no fault of reading, no want of memory, no refusal of the words
-- themselves and none of a file for its size
abbrev pub comes_of_files : Status → Bool
comes_of_files Done = true
comes_of_files WriteFault = true
comes_of_files (Refused refusal) = not (is_file refusal.part) && not (is_of_words refusal.reason)
comes_of_files (CheckedNo line law) = true
comes_of_files status = false
