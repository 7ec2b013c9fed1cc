-- What every form promises beside its answer, by the status that it ends with.
use Rattle.std.specs.Prelude.{◌≡◌, ◌≢◌, ◌≤◌, Bool, true, false, not, List, [], Result, Ok, Err, IfSome}
use Rattle.rail_base.specs.Refusals.{is_file}
use Rattle.rail_base.specs.declared.refusals.Refusal.{Refusal}
use Rattle.rail_io.specs.FaultCounts.{Rose}
use Rattle.rail_io.specs.declared.shelf.Shelf.{Ghosts as ShelfGhosts}
use Rattle.rail_io.specs.declared.sink.Sink.{Ghosts as SinkGhosts}
use Rattle.rail_command_line.specs.Files.{File}
use Rattle.rail_forms.specs.declared.status.Status.{Status}
use Rattle.rail_forms.specs.declared.status.Status.TheVariants.{CheckedNo, Done, Usage, Refused, ReadFault, WriteFault}
use Rattle.rail_forms.specs.Files.{IsOneTooLarge, IsRead, IsReadFault, comes_of_files, last_file}

-- the status of a command that ended so
abbrev pub ended : Result (Unit {0}) Status → Status
ended (Ok done) = Done
ended (Err status) = status

-- with this status something may have been written
abbrev pub may_write : Status → Bool
may_write Done = true
may_write WriteFault = true
may_write (CheckedNo line law) = true
may_write status = false

-- what is done with bytes that were read may end so: with no fault of reading, with no refusal of a file for its size, and
-- not as words that are not in the table
abbrev pub is_of_bytes : Status → Bool
is_of_bytes Usage = false
is_of_bytes ReadFault = false
is_of_bytes (Refused refusal) = not (is_file refusal.part)
is_of_bytes status = true

-- what a command that reads these files in this order promises of the shelf
pub record ReadsFiles {S : Type 0} (shelf : ShelfGhosts S) (files : List File) (before now : S) (status : Status) : Type 0 where
  -- the count of faults rose, and the failed name is that of one of the files
  pub read_fault : status ≡ ReadFault → IsReadFault shelf files before now
  -- a file is refused for its size only where more of its bytes were moved than a file may have
  pub too_large : (refusal : Refusal) → status ≡ Refused refusal → is_file refusal.part ≡ true
      → IsOneTooLarge shelf files before now refusal
  -- all files were read before a status that comes of them
  pub read : comes_of_files status ≡ true → IfSome (last_file files) (λ file. IsRead shelf file now)
  -- no other file is read
  pub unread : files ≡ [] → now ≡ before
  -- no file is read where the words are not in the table
  pub usage_unread : status ≡ Usage → now ≡ before
  pub told_stays : shelf.told now ≡ shelf.told before
  pub faults_never_fall : shelf.faults before ≤ shelf.faults now

-- what a command promises of the output
pub record WritesAnswer {O : Type 0} (sink : SinkGhosts O) (before now : O) (status : Status) : Type 0 where
  -- the count of faults rose
  pub write_fault : status ≡ WriteFault → Rose (sink.faults before) (sink.faults now)
  -- nothing was written
  pub unwritten : may_write status ≡ false → now ≡ before
  pub faults_never_fall : sink.faults before ≤ sink.faults now

-- what a form that reads these files in this order promises beside its answer
pub record KeepsPromise {S O : Type 0} (shelf : ShelfGhosts S) (sink : SinkGhosts O) (files : List File)
    (before now : S) (out_before out_now : O) (status : Status) : Type 0 where
  pub reads : ReadsFiles shelf files before now status
  pub writes : WritesAnswer sink out_before out_now status
  pub in_table : status ≢ Usage
