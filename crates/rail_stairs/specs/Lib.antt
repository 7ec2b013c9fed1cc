-- What the contracts of stairways name: from the admissions and the end line alone.
pub mod Stairways
pub mod StairsTexts
pub mod EndedIntervals
-- What is noted of a history.
pub mod NotedHistories
-- What the program keeps on the way: the times of a train, and the table of the sections.
pub mod Journeys
pub mod JourneyTrains
pub mod Tallies
