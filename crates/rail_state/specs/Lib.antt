-- The events that lines are, and those that come with an admission.
pub mod Events
-- What a run keeps of each train.
pub mod TrainStates
-- By which sets it finds them.
pub mod BlockedAt
pub mod TrainSearches
-- What a run keeps, and the front that it stands for.
pub mod Representation
-- What a command's line changes.
pub mod SeenCauses
pub mod Admissions
