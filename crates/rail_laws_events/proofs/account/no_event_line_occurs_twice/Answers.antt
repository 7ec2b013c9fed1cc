use Rattle.rail_laws_front.proofs.CallerLemmas.{never_overlap}
use Rattle.rail_laws_events.proofs.Distinct.{once_among_events}
use Rattle.rail_laws_events.proofs.Written.{few_admissions}
use Rattle.rail_laws_events.proofs.account.no_event_line_occurs_twice.Goals as goal

pub returns : goal.returns
returns c = λ input fine front lawful. once_among_events input.plant fine front (few_admissions input fine front lawful) (never_overlap input fine front lawful)
