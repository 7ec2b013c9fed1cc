use Rattle.std.proofs.Common.{length, ap, refl, arith}
use Rattle.rail_history.specs.LinesLeft.{lines_left}
use Rattle.rail_rules.specs.Fronts.{Line}
use Rattle.rail_save.proofs.Following.{next_followed, none_followed}
use Rattle.rail_save.proofs.resuming.follow_lines.Goals as goal

pub loop-entry-init : goal.loop-entry-init
loop-entry-init g c = record {
  followed = none_followed _ (lines_left c.args.lines.now) _ _ _ c.requires.begun refl;
}

pub overflow_add-number : goal.overflow_add-number
overflow_add-number g c =
    omega (
      arith,
      c.loop-entry.invariant.followed.counted,
      ap (length {A = Line}) c.in-Some.ensures.next,
      c.requires.short,
    )

pub loop-entry-preserved : goal.loop-entry-preserved
loop-entry-preserved g c =
    let so_far = c.loop-entry.invariant.followed in
    record {
      followed = (next_followed _ _ (lines_left c.args.lines.now) c.loop-entry.number c.loop-entry.lines _ _ so_far c.in-Some.entry c.trains.result.now c.next_entry.new.self c.trains.ensures c.in-Some.ensures
          _ _ c.follow.ensures.input (c.follow.ensures.taken c.if-not-follow.false _ so_far.front so_far.stands));
    }
