-- What an insertion is.
pub mod Copies
pub mod Bars
pub mod Insertions
pub mod TimeBounds
pub mod Certificates
-- What the code keeps.
pub mod Tables
pub mod NextCopies
-- How it is written.
pub mod Texts
