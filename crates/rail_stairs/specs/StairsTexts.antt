-- The text of a stairway.
use Rattle.std.specs.Prelude.{ℕ, Bool, cond, is_none, List, [], ◌∷◌, ◌++◌, length, flat_map, codes, decimal, unwrap_or}
use Rattle.rail_base.specs.Clock.{time_text}
use Rattle.rail_base.specs.declared.intervals.Interval.{Interval}
use Rattle.rail_base.specs.declared.intervals.Parts.{Parts}
use Rattle.rail_rules.specs.Numbers.{gather}
use Rattle.rail_rules.specs.Plant.{Plant}
use Rattle.rail_rules.specs.Fronts.{Front}
use Rattle.rail_rules.specs.Texts.{train_word, section_word, spaced}
use Rattle.rail_text.specs.Words.{number_word, time_word}
use Rattle.rail_stairs.specs.Stairways.{ended_at, occupation, stairway, visits}

-- the nine parts, in their order
abbrev pub part_words : Parts → List (List ℕ)
part_words parts = number_word parts.setting ∷ number_word parts.watching ∷ number_word parts.approach
    ∷ number_word parts.waiting ∷ number_word parts.earlier ∷ number_word parts.running
    ∷ number_word parts.standing ∷ number_word parts.clearing ∷ number_word parts.release ∷ []

-- the interval is one of an overlap: it has no parts, and so not the first of them, which is decided in all other intervals
abbrev pub is_of_overlap : Interval → Bool
is_of_overlap interval = is_none interval.parts.setting

-- the words that each interval has: train, move, section, begin and end
abbrev pub interval_words : Plant → Interval → List (List ℕ)
interval_words plant interval = train_word plant interval.train ∷ decimal interval.place
    ∷ section_word plant interval.section ∷ time_text interval.begin ∷ time_word interval.«end» ∷ []

-- the words of an interval of a needed section, with its parts
abbrev pub stair_words : Plant → Interval → List (List ℕ)
stair_words plant interval = codes "stair" ∷ interval_words plant interval ++ part_words interval.parts

-- the words of an interval of an overlap
abbrev pub over_words : Plant → Interval → List (List ℕ)
over_words plant interval = codes "over" ∷ interval_words plant interval

-- the line of an interval
abbrev pub stair_line : Plant → Interval → List ℕ
stair_line plant interval = spaced (cond (is_of_overlap interval) (over_words plant interval) (stair_words plant interval))

-- the words of a section: how many intervals it has, and how long it is occupied
abbrev pub section_words : Plant → ℕ → List Interval → ℕ → List (List ℕ)
section_words plant ended intervals x = codes "section" ∷ section_word plant x ∷ decimal (visits intervals x)
    ∷ decimal (occupation ended intervals x) ∷ []

-- the line of a section
abbrev pub section_line : Plant → ℕ → List Interval → ℕ → List ℕ
section_line plant ended intervals x = spaced (section_words plant ended intervals x)

-- the lines of all sections, by number
abbrev pub section_lines : Plant → ℕ → List Interval → List ℕ
section_lines plant ended intervals = gather (section_line plant ended intervals) (length plant.tables.sections)

-- the text of a stairway: the lines of its intervals by train, move and step, and the lines of the sections;
-- open intervals are ended at the time of the end line
abbrev pub stairs_text : Plant → Front → List ℕ
stairs_text plant front = flat_map (stair_line plant) (stairway plant front)
    ++ section_lines plant (unwrap_or (ended_at front) 0) (stairway plant front)
