-- The reports of three worked histories.
use Rattle.std.specs.Prelude.{ℕ, List, [], ◌∷◌, ◌++◌, codes}

-- a train waits for a list, then until the other train has left the single track
abbrev pub deadlock_avoided : List ℕ
deadlock_avoided = codes "train A entry 00:02:00.0 00:02:00.0 0 out 00:04:07.6 held 0 stopped 0 closed 0 blocked 0 nolist 0" ++ 10 ∷ []
    ++ codes "train B entry 00:02:00.0 00:04:11.6 1316 out 00:06:29.2 held 1416 stopped 0 closed 0 blocked 1016 nolist 400" ++ 10 ∷ []
    ++ codes "total trains 2 out 2 cancelled 0 late 1316 held 1416" ++ 10 ∷ []

-- a train waits before a closed section to the end
abbrev pub closed_section : List ℕ
closed_section = codes "train A entry 00:02:00.0 00:02:00.0 0 out - held 170 stopped 0 closed 170 blocked 0 nolist 0" ++ 10 ∷ []
    ++ codes "total trains 1 out 0 cancelled 0 late 0 held 170" ++ 10 ∷ []

-- a train is cancelled before it is ready
abbrev pub cancelled : List ℕ
cancelled = codes "train A entry 00:02:00.0 - - out - held 0 stopped 0 closed 0 blocked 0 nolist 0" ++ 10 ∷ []
    ++ codes "total trains 1 out 0 cancelled 1 late 0 held 0" ++ 10 ∷ []
