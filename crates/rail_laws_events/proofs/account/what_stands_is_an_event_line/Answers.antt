use Rattle.rail_laws_events.proofs.Written.{in_all_events, written_is_event}
use Rattle.rail_laws_events.proofs.account.what_stands_is_an_event_line.Goals as goal

pub returns : goal.returns
returns c = λ input fine front lawful e stood kind. in_all_events input.plant front e (written_is_event input fine front lawful e stood kind)
