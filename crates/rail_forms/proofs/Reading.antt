-- What is promised of the files where one of them was not read.
use Rattle.std.proofs.Common.{◌≡◌, ℕ, ◌≤◌, true, false, not, ◌&&◌, List, [], ◌∷◌, ◌++◌, Option, Some, refl, sym, ap, ◌∙◌, subst, inl, inr, IfSome, arith}
use Rattle.std.proofs.lemmas.Bool.{false≢true}
use Rattle.rail_base.specs.Refusals.{is_file}
use Rattle.rail_base.specs.declared.refusals.Refusal.{Refusal}
use Rattle.rail_io.specs.declared.shelf.Shelf.{Ghosts}
use Rattle.rail_io.specs.declared.sink.Sink.{Ghosts as SinkGhosts}
use Rattle.rail_command_line.specs.Files.{File, file_as}
use Rattle.rail_command_line.specs.declared.files.FileRole.{FileRole}
use Rattle.rail_forms.specs.declared.status.Status.{Status}
use Rattle.rail_forms.specs.declared.status.Status.TheVariants.{Done, Usage, Refused, ReadFault, WriteFault, OutOfMemory, CheckedNo}
use Rattle.rail_forms.specs.Files.{FitsWhereTold, IsFileAnswer, IsOneOf, IsOneTooLarge, IsRead, IsReadFault, IsTooLarge, comes_of_files, is_of_words, last_file}
use Rattle.rail_forms.specs.Promises.{KeepsPromise, ReadsFiles, WritesAnswer, is_of_bytes}

-- the files are no larger than a file may have bytes, where these are told
abbrev pub AreFit : (List ℕ → Option (List ℕ)) → List File → Type 0
AreFit told [] = Unit {0}
AreFit told (file ∷ files) = FitsWhereTold told file × AreFit told files

-- a call failed at one of the files behind those that fit
one_behind : (told : List ℕ → Option (List ℕ)) (first later : List File) (failed : Option (List ℕ)) → AreFit told first
    → IsOneOf told later failed → IsOneOf told (first ++ later) failed
one_behind told [] later failed fit one = one
one_behind told (file ∷ first) later failed fit one = inr (fit.0, one_behind told first later failed fit.1 one)

-- one of the files behind others is too large
large_behind : {S : Type 0} (shelf : Ghosts S) (first later : List File) (before now : S) (answer : Refusal)
    → IsOneTooLarge shelf later before now answer → IsOneTooLarge shelf (first ++ later) before now answer
large_behind shelf [] later before now answer one = one
large_behind shelf (file ∷ first) later before now answer one = inr (large_behind shelf first later before now answer one)

not_empty : (first later : List File) (file : File) → first ++ file ∷ later ≡ [] → ⊥
not_empty [] later file is = cc
not_empty (other ∷ first) later file is = cc

module _ {S : Type 0} (shelf : Ghosts S) (first later : List File) (role : FileRole) (file : List ℕ) (before between now : S) (fit : AreFit (shelf.told before) first)
    (told_still : shelf.told between ≡ shelf.told before) (faults_still : shelf.faults before ≤ shelf.faults between)
    (told_stays : shelf.told now ≡ shelf.told between) (faults_rise : shelf.faults between ≤ shelf.faults now) where
  abbrev failing : File
  failing = file_as role (Some file)

  abbrev files : List File
  files = first ++ failing ∷ later

  -- a file behind others was not read
  pub reads_failed : (status : Status) → IsFileAnswer shelf role file between now status → ReadsFiles shelf files before now status
  reads_failed status answer = record {
    read_fault = λ is. let fault : IsReadFault shelf (failing ∷ []) between now = subst (IsFileAnswer shelf role file between now) is answer in
        record {
          rose = omega (arith, fault.rose, faults_still);
          named = one_behind (shelf.told before) first (failing ∷ later) (shelf.failed now) fit (named fault.named);
        };
    too_large = λ refusal is of_file.
        let large : IsTooLarge shelf role file between now refusal = subst (IsFileAnswer shelf role file between now) is answer in
        large_behind shelf first (failing ∷ later) before now refusal (inl (record {
          is = large.is;
          begun = large.begun;
          over = large.over;
          larger = λ bytes told. large.larger bytes (ap (λ (t : List ℕ → Option (List ℕ)). t file) told_still ∙ told);
        }));
    read = λ comes. absurd (false≢true (sym (unread status answer) ∙ comes));
    unread = λ empty. absurd (not_empty first later failing empty);
    usage_unread = λ is. absurd (subst (IsFileAnswer shelf role file between now) is answer);
    told_stays = told_stays ∙ told_still;
    faults_never_fall = omega (arith, faults_still, faults_rise);
  }
    where
      named : IsOneOf (shelf.told between) (failing ∷ []) (shelf.failed now) → IsOneOf (shelf.told before) (failing ∷ later) (shelf.failed now)
      named (inl is) = inl is
      named (inr none) = absurd none.1

      unread : (status : Status) → IsFileAnswer shelf role file between now status → comes_of_files status ≡ false
      unread Done answer = absurd answer
      unread Usage answer = refl
      unread (Refused refusal) answer = ap (λ (r : Refusal). not (is_file r.part) && not (is_of_words r.reason)) answer.is
      unread ReadFault answer = refl
      unread WriteFault answer = absurd answer
      unread OutOfMemory answer = refl
      unread (CheckedNo line law) answer = absurd answer

  -- and nothing was written
  pub keeps_failed : {O : Type 0} (sink : SinkGhosts O) (out : O) (status : Status) → IsFileAnswer shelf role file between now status
      → KeepsPromise shelf sink files before now out out status
  keeps_failed sink out status answer = record {
    reads = reads_failed status answer;
    writes = record {
      write_fault = λ is. absurd (subst (IsFileAnswer shelf role file between now) is answer);
      unwritten = λ none. refl;
      faults_never_fall = omega arith;
    };
    in_table = λ is. subst (IsFileAnswer shelf role file between now) is answer;
  }

-- what is promised where all files were read, by a status that comes of what they hold
pub keeps_read : {S O : Type 0} (shelf : Ghosts S) (sink : SinkGhosts O) (file : File) (files : List File) (before now : S) (out out_now : O) (status : Status)
    → IfSome (last_file (file ∷ files)) (λ name. IsRead shelf name now) → shelf.told now ≡ shelf.told before → shelf.faults before ≤ shelf.faults now
    → is_of_bytes status ≡ true → WritesAnswer sink out out_now status → KeepsPromise shelf sink (file ∷ files) before now out out_now status
keeps_read shelf sink file files before now out out_now status read stays rise of_bytes writes = record {
  reads = record {
    read_fault = λ is. absurd (false≢true (sym (ap is_of_bytes is) ∙ of_bytes));
    too_large = λ refusal is of_file. absurd (false≢true (ap not (sym of_file) ∙ sym (ap is_of_bytes is) ∙ of_bytes));
    read = λ comes. read;
    unread = λ empty. absurd (not_empty [] files file empty);
    usage_unread = λ is. absurd (false≢true (sym (ap is_of_bytes is) ∙ of_bytes));
    told_stays = stays;
    faults_never_fall = rise;
  };
  writes = writes;
  in_table = λ is. false≢true (sym (ap is_of_bytes is) ∙ of_bytes);
}
