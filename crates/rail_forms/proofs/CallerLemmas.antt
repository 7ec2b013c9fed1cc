-- Lemmas for the crates above: what may be cited of this crate beside its definitions and public clauses. The other proof files are private to it.

-- Answers: a file that is short enough is not refused for its size.
pub use Rattle.rail_forms.proofs.Answers.{short_enough}
-- Completing: a command of each form whose input is accepted is done, unless a call failed or memory was wanting.
pub use Rattle.rail_forms.proofs.Completing.{capacity_complete, check_complete, edit_complete, gen_complete, infra_complete, insert_complete, migrate_complete, play_complete, report_complete, reroute_complete, resume_complete, run_complete, save_complete, scene_complete, stairs_complete}
