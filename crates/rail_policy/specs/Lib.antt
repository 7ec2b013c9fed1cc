pub mod Choices
pub mod Desks
pub mod Keys
pub mod Scripts
pub mod Seats
