-- Worked stairways: what is printed, as computed by hand from the rules.
use Rattle.std.specs.Prelude.{ℕ, codes, List, [], ◌∷◌}
use Rattle.rail_base.specs.declared.history.What.TheVariants.{Admit, End}
use Rattle.rail_base.specs.declared.history.Note.TheVariants.{Appended, Pulled}
use Rattle.rail_rules.specs.Fronts.{Front}
use Rattle.rail_worked.specs.Lines.{lines}

-- two trains pass at a loop
abbrev pub at_the_loop : List ℕ
at_the_loop = lines (codes "stair A 1 W 00:01:48.0 00:02:45.6 10 10 100 0 0 400 0 36 20"
    ∷ codes "stair A 1 PW 00:01:48.0 00:02:47.6 10 10 100 0 400 20 0 36 20"
    ∷ codes "stair A 1 L1 00:01:48.0 00:03:27.6 10 10 100 0 420 400 0 36 20"
    ∷ codes "stair A 2 PE 00:03:10.0 00:03:29.6 10 10 100 0 0 20 0 36 20"
    ∷ codes "stair A 2 E 00:03:10.0 00:04:09.6 10 10 100 0 20 400 0 36 20"
    ∷ codes "stair B 1 E 00:01:48.0 00:02:45.6 10 10 100 0 0 400 0 36 20"
    ∷ codes "stair B 1 PE 00:01:48.0 00:02:47.6 10 10 100 0 400 20 0 36 20"
    ∷ codes "stair B 1 L2 00:01:48.0 00:03:27.6 10 10 100 0 420 400 0 36 20"
    ∷ codes "stair B 2 PW 00:03:10.0 00:03:29.6 10 10 100 0 0 20 0 36 20"
    ∷ codes "stair B 2 W 00:03:10.0 00:04:09.6 10 10 100 0 20 400 0 36 20"
    ∷ codes "section W 2 1172" ∷ codes "section PW 2 792" ∷ codes "section L1 1 996"
    ∷ codes "section L2 1 996" ∷ codes "section PE 2 792" ∷ codes "section E 2 1172" ∷ [])

-- the first of them is admitted once, and the history ends while it stands on the loop track
abbrev pub left_standing : Front
left_standing =
    record { entry = record { at = 3000; what = End }; trains = 0 ∷ 1 ∷ [] } ∷
    record { entry = record { at = 1080; what = Admit 0 1 Appended }; trains = [] } ∷
    []

-- its interval there is open: it has no end and no standing part, and its running part is undecided; it is occupied up to the end line
abbrev pub standing_at_the_end : List ℕ
standing_at_the_end = lines (codes "stair A 1 W 00:01:48.0 00:02:45.6 10 10 100 0 0 400 0 36 20"
    ∷ codes "stair A 1 PW 00:01:48.0 00:02:47.6 10 10 100 0 400 20 0 36 20"
    ∷ codes "stair A 1 L1 00:01:48.0 - 10 10 100 0 420 - - 36 20"
    ∷ codes "section W 1 576" ∷ codes "section PW 1 596" ∷ codes "section L1 1 1920"
    ∷ codes "section L2 0 0" ∷ codes "section PE 0 0" ∷ codes "section E 0 0" ∷ [])

-- a train that turns stands on the loop track until its tail has cleared the points
abbrev pub turning : List ℕ
turning = lines (codes "stair A 1 L1 00:01:48.0 00:04:18.0 10 10 100 0 420 400 140 400 20" ∷ [])

-- a train takes over a section of its overlap as its next move is admitted
abbrev pub with_an_overlap : List ℕ
with_an_overlap = lines (codes "stair A 1 W 00:01:48.0 00:02:45.6 10 10 100 0 0 400 0 36 20"
    ∷ codes "stair A 1 PW 00:01:48.0 00:02:47.6 10 10 100 0 400 20 0 36 20"
    ∷ codes "stair A 1 L1 00:01:48.0 00:03:27.6 10 10 100 0 420 400 0 36 20"
    ∷ codes "over A 1 PE 00:01:48.0 00:03:10.0"
    ∷ codes "stair A 2 PE 00:03:10.0 00:03:29.6 10 10 100 0 0 20 0 36 20"
    ∷ codes "stair A 2 E 00:03:10.0 00:04:09.6 10 10 100 0 20 400 0 36 20"
    ∷ codes "stair B 1 E 00:04:09.6 00:05:07.2 10 10 0 0 0 500 0 36 20"
    ∷ codes "stair B 1 PE 00:04:09.6 00:05:09.2 10 10 0 0 500 20 0 36 20"
    ∷ codes "stair B 1 L2 00:04:09.6 00:05:49.2 10 10 0 0 520 400 0 36 20"
    ∷ codes "stair B 2 PW 00:05:31.6 00:05:51.2 10 10 100 0 0 20 0 36 20"
    ∷ codes "stair B 2 W 00:05:31.6 00:06:31.2 10 10 100 0 20 400 0 36 20"
    ∷ codes "section W 2 1172" ∷ codes "section PW 2 792" ∷ codes "section L1 1 996"
    ∷ codes "section L2 1 996" ∷ codes "section PE 3 1612" ∷ codes "section E 2 1172" ∷ [])

-- the timer of the overlap runs out before the next move is admitted
abbrev pub overlap_timed : List ℕ
overlap_timed = lines (codes "over A 1 PE 00:01:48.0 00:03:57.0" ∷ [])

-- the next move of the train is admitted at the same time
abbrev pub admitted_at_once : Front
admitted_at_once =
    record { entry = record { at = 3912; what = End }; trains = [] } ∷
    record { entry = record { at = 1080; what = Admit 0 2 Pulled }; trains = [] } ∷
    record { entry = record { at = 1080; what = Admit 0 1 Appended }; trains = [] } ∷
    []

-- it takes the overlap over at once, so that there is no interval of it
abbrev pub without_the_overlap : List ℕ
without_the_overlap = lines (codes "stair A 1 W 00:01:48.0 00:02:45.6 10 10 100 0 0 400 0 36 20"
    ∷ codes "stair A 1 PW 00:01:48.0 00:02:47.6 10 10 100 0 400 20 0 36 20"
    ∷ codes "stair A 1 L1 00:01:48.0 00:03:42.6 10 10 100 0 420 450 100 36 20"
    ∷ codes "stair A 2 PE 00:01:48.0 00:03:44.6 10 10 0 970 0 120 0 36 20"
    ∷ codes "stair A 2 E 00:01:48.0 00:04:24.6 10 10 0 970 120 400 0 36 20"
    ∷ codes "section W 1 576" ∷ codes "section PW 1 596" ∷ codes "section L1 1 1146"
    ∷ codes "section L2 0 0" ∷ codes "section PE 1 1166" ∷ codes "section E 1 1566" ∷ [])
