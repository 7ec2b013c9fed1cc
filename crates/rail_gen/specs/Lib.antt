-- What the contracts of this crate speak of.
pub mod LinePlants
pub mod AcceptedNetworks
pub mod MadeScenes
