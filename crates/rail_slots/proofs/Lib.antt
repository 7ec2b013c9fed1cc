-- How cells stay linked, what a room of slots keeps, what callers see of it, and how far it is to the end of a chain.
mod Linked
mod Sound
mod Shown
mod Ahead
