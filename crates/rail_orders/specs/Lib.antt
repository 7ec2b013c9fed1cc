-- What the commands told so far mean.
pub mod OrderTables
