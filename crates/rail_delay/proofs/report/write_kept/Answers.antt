use Rattle.std.proofs.Common.{refl}
use Rattle.rail_text.proofs.CallerLemmas.{both_written, part_written}
use Rattle.rail_delay.proofs.report.write_kept.Goals as goal

pub returns-in_err-write_calls : goal.returns-in_err-write_calls
returns-in_err-write_calls g c =
    part_written g.O.Sink _ _ _ _ _ c.from_residual.result c.from_residual.ensures.0
    (part_written g.O.Sink _ _ _ _ _ _ refl c.in_err-write_calls.ensures)

pub returns-in_err-write_trains : goal.returns-in_err-write_trains
returns-in_err-write_trains g c =
    part_written g.O.Sink _ _ _ _ _ c.from_residual-in_err-write_trains.result c.from_residual-in_err-write_trains.ensures.0
    (both_written g.O.Sink _ _ _ _ _ _ c.in_ok-write_calls.ensures c.in_err-write_trains.ensures)

pub returns : goal.returns
returns g c =
    both_written g.O.Sink _ _ _ _ _ _ (both_written g.O.Sink _ _ _ _ _ _ c.in_ok-write_calls.ensures c.in_ok-write_trains.ensures) c.write_total.ensures
