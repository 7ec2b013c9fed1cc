-- Lemmas for the crates above: what may be cited of this crate beside its definitions and public clauses. The other proof files are private to it.

-- Acceptance: the items of a sound network are accepted in their order.
pub use Rattle.rail_routes.proofs.SectionAcceptance.{section_after}
pub use Rattle.rail_routes.proofs.PostAcceptance.{portal_after, signal_after, board_after}
pub use Rattle.rail_routes.proofs.WayAcceptance.{turn_after, route_after}
-- what the rule of a sound route says of it, and that the first items of a list whose items are apart are so, too
pub use Rattle.rail_routes.proofs.WayChanges.{IsWellLed, well_led}
-- Roles: two that are the same are one.
pub use Rattle.rail_routes.proofs.SectionChanges.{same_from_role}
