-- A shelf that keeps what is read from the shelf behind it.
use Rattle.rail_explain.specs.declared.kept_files.KeepingShelf.{KeepingShelf}

-- the shelf from which is read
abbrev pub behind_of : {S : Type 0} → KeepingShelf S → S
behind_of shelf = shelf.behind
