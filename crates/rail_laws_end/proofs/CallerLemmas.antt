-- Lemmas for the crates above: what may be cited of this crate beside its definitions and public clauses. The other proof files are private to it.

-- Ending: at the end of a history every train is out or cancelled, unless a closure or a stop remains.
pub use Rattle.rail_laws_end.proofs.Ending.{complete_bound}
-- the same of a front that is lawful to the end
pub use Rattle.rail_laws_end.proofs.Ending.{complete_out}
-- Barred: at the end of a history each train that remains leads to one that an order bars.
pub use Rattle.rail_laws_end.proofs.Barred.{leads_to_barred}
-- Steps: two lines that a run may write after one front are one, or fresh admissions of one train.
pub use Rattle.rail_laws_end.proofs.Steps.{event_alone, hold_unsettles, next_lines, ready_known, settled_parts}
-- a due line isn't at an instant where nothing is due
pub use Rattle.rail_laws_end.proofs.Steps.{not_now}
-- Compared: two run histories of one input are one, or part at a fresh admission.
pub use Rattle.rail_laws_end.proofs.Compared.{one_run}
-- Chosen: two trains that a policy of a built-in kind would both choose are one.
pub use Rattle.rail_laws_end.proofs.Chosen.{one_chosen}
