-- Reading a whole file.
use Rattle.rail_io.specs.declared.shelf.StartFault.{StartFault}
use Rattle.rail_io.specs.declared.shelf.StartFault.TheVariants.{Failed, OutOfMemory}
use Rattle.rail_io.specs.declared.whole_files.ReadWhole.{ReadWhole}
use Rattle.rail_io.specs.declared.whole_files.ReadWhole.TheVariants as read_whole

-- why a file is not read that was not begun
abbrev pub why_not_read : StartFault → ReadWhole
why_not_read Failed = read_whole.ReadFault
why_not_read OutOfMemory = read_whole.OutOfMemory
