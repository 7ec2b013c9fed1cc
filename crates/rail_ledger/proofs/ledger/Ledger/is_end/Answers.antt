use Rattle.std.proofs.Common.{◌∙◌}
use Rattle.rail_ledger.proofs.Going.{end_next}
use Rattle.rail_ledger.proofs.ledger.Ledger.is_end.Goals as goal

pub returns-clause-exact : goal.returns-clause-exact
returns-clause-exact c = (
  _,
  end_next c.args.self.now c.requires.going c.requires.settled c.requires.empty c.deref.result.now (c.deref.ensures.value ∙ c.list_remaining.ensures.trains),
  c.is_line-is_end.ensures,
)

pub returns-clause-unchanged : goal.returns-clause-unchanged
returns-clause-unchanged c = λ front at. record {
  accepted = at.accepted;
  ordered = at.ordered;
  rep = at.rep;
  placed = at.placed;
  keeps = at.keeps;
  queue_room = at.queue_room;
  list_room = c.clear.ensures.capacity ∙ c.list_remaining.ensures.room ∙ at.list_room;
  list_empty = λ still. c.clear.ensures.items;
  searcher = at.searcher;
  failures = at.failures;
}
