pub mod FirstHeld
