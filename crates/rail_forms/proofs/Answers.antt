-- What a form answers, put together from what its parts answer.
use Rattle.std.proofs.Common.{◌≡◌, ◌≢◌, ℕ, ◌≤◌, false, nat_lt, cond, List, length, Option, Some, None, Result, Ok, Err, IsErrAnd, refl, sym, ap, subst, arith}
use Rattle.std.proofs.lemmas.Bool.Decides.{nat_tests}
use Rattle.std.proofs.lemmas.Option.{none-some, same_Some}
use Rattle.rail_base.specs.declared.refusals.Refusal.{Refusal}
use Rattle.rail_rules.specs.Numbers.{or_else}
use Rattle.rail_forms.specs.declared.status.Status.{Status}
use Rattle.rail_forms.specs.declared.status.Status.TheVariants.{Done, Usage, Refused, ReadFault, WriteFault, OutOfMemory, CheckedNo}
use Rattle.rail_forms.specs.Answers.{Decides, IsAnswer}
use Rattle.rail_io.specs.declared.shelf.Shelf.{Ghosts}
use Rattle.rail_command_line.specs.Files.{most_bytes}
use Rattle.rail_command_line.specs.declared.files.FileRole.{FileRole}
use Rattle.rail_forms.specs.Files.{IsFileAnswer, too_large, too_many_bytes}
use Rattle.rail_forms.specs.Promises.{ended}

not_more : (n m : ℕ) → m ≤ n → nat_lt n m ≡ false
not_more n m le = grind (arith, nat_tests)

-- a file that is short enough is not refused for its size
pub short_enough : (role : FileRole) (bytes : List ℕ) → length bytes ≤ most_bytes role → too_large role bytes ≡ None
short_enough role bytes few = ap (λ b. cond b (Some (too_many_bytes role)) None) (not_more (most_bytes role) (length bytes) few)

-- where nothing is refused at first, the answer is that of what comes after it
pub answer_after : (first later : Option Refusal) (whole part : Type 0) (status : Status) → first ≡ None → IsAnswer later whole part status → IsAnswer (or_else first later) whole part status
answer_after first later whole part status none answer = subst (λ (refusal : Option Refusal). IsAnswer (or_else refusal later) whole part status) (sym none) answer

-- nothing is decided where nothing is refused
pub none_decides : (first : Option Refusal) (status : Status) → first ≡ None → Decides first status
none_decides first status none = subst (λ (o : Option Refusal). Decides o status) (sym none) tt

-- the first refusal decides, also where it is that of a part that goes before all others
pub first_decides : (first later : Option Refusal) (whole part : Type 0) (status : Status) → IsAnswer (or_else first later) whole part status → Decides first status
first_decides None later whole part status answer = tt
first_decides (Some first) later whole part Done answer = absurd (none-some first (sym answer.0))
first_decides (Some first) later whole part Usage answer = tt
first_decides (Some first) later whole part (Refused refusal) answer = sym (same_Some first refusal answer)
first_decides (Some first) later whole part ReadFault answer = tt
first_decides (Some first) later whole part WriteFault answer = absurd (none-some first (sym answer.0))
first_decides (Some first) later whole part OutOfMemory answer = tt
first_decides (Some first) later whole part (CheckedNo line law) answer = absurd answer

pub answer_decides : (first : Option Refusal) (whole part : Type 0) (status : Status) → IsAnswer first whole part status → Decides first status
answer_decides None whole part status answer = tt
answer_decides (Some first) whole part status answer = first_decides (Some first) None whole part status answer

-- what is answered where a file was not read
pub file_answer : {S : Type 0} (shelf : Ghosts S) (role : FileRole) (file : List ℕ) (before now : S) (bytes : List ℕ) (later : Option Refusal) (whole part : Type 0) (status : Status)
    → IsFileAnswer shelf role file before now status → shelf.told before file ≡ Some bytes → IsAnswer (or_else (too_large role bytes) later) whole part status
file_answer shelf role file before now bytes later whole part Done is told = absurd is
file_answer shelf role file before now bytes later whole part Usage is told = absurd is
file_answer shelf role file before now bytes later whole part (Refused refusal) is told = ap (λ (o : Option Refusal). or_else o later) (is.larger bytes told)
file_answer shelf role file before now bytes later whole part ReadFault is told = tt
file_answer shelf role file before now bytes later whole part WriteFault is told = absurd is
file_answer shelf role file before now bytes later whole part OutOfMemory is told = tt
file_answer shelf role file before now bytes later whole part (CheckedNo line law) is told = absurd is

-- where it was not for its size, nothing else is decided against
pub unread_decides : {S : Type 0} (shelf : Ghosts S) (role : FileRole) (file : List ℕ) (before now : S) (first : Option Refusal) (status : Status)
    → IsFileAnswer shelf role file before now status → status ≢ Refused (too_many_bytes role) → Decides first status
unread_decides shelf role file before now None status is other = tt
unread_decides shelf role file before now (Some first) Done is other = absurd is
unread_decides shelf role file before now (Some first) Usage is other = absurd is
unread_decides shelf role file before now (Some first) (Refused refusal) is other = absurd (other (ap Refused is.is))
unread_decides shelf role file before now (Some first) ReadFault is other = tt
unread_decides shelf role file before now (Some first) WriteFault is other = absurd is
unread_decides shelf role file before now (Some first) OutOfMemory is other = tt
unread_decides shelf role file before now (Some first) (CheckedNo line law) is other = absurd is

-- a command that ends with a status
pub ended_with : (end : Result (Unit {0}) Status) (status : Status) → IsErrAnd end (λ other. other ≡ status) → ended end ≡ status
ended_with (Ok done) status is = absurd is
ended_with (Err other) status is = is

-- where nothing is refused and a write failed, a first part was written
pub part_answer : (whole part : Type 0) (status : Status) → status ≡ WriteFault → part → IsAnswer None whole part status
part_answer whole part status is written = subst (IsAnswer None whole part) (sym is) (refl, written)

-- the same where something else might have been refused, and is not
pub late_part : (late : Option Refusal) (whole part : Type 0) (status : Status) → late ≡ None → status ≡ WriteFault → part → IsAnswer late whole part status
late_part late whole part status none is written = subst (λ (o : Option Refusal). IsAnswer o whole part status) (sym none) (part_answer whole part status is written)
