-- The bytes read before, those moved in this turn and those left are those that were left at first.
use Rattle.std.proofs.Common.{arith, ◌≡◌, ◌+◌, ◌≤◌, length, take, ap, ◌∙◌}
use Rattle.std.proofs.lemmas.Grind.{common_steps}
use Rattle.std.proofs.lemmas.List.{length-take-le}
use Rattle.rail_io.proofs.Moved.{read_more}
use Rattle.rail_io.proofs.whole_files.read_begun.Goals as goal

pub loop-filled-preserved : goal.loop-filled-preserved
loop-filled-preserved g c =
    let within : c.loop-filled.filled + c.in_ok-count.count ≤ c.make_room.new.bytes.len = grind (arith, common_steps) in
    let room : c.loop-filled.filled ≤ length c.deref_mut.result.now = grind (arith, common_steps) in
    let front_is : take c.loop-filled.filled c.deref_mut.result.now ≡ take c.loop-filled.filled c.loop-filled.bytes.items =
    ap (λ bytes. take c.loop-filled.filled bytes) c.deref_mut.ensures.value ∙ c.in_ok-make_room.ensures.front in
    record {
      within = within;
      moved = omega (arith, c.in_ok-count.ensures.counts, c.loop-filled.invariant.moved);
      read = read_more _ _ _
          c.loop-filled.bytes.items
          (take c.loop-filled.filled c.deref_mut.result.now)
          c.read.new.into _ _ c.loop-filled.filled c.in_ok-count.count c.make_room.new.bytes.len
          c.loop-filled.invariant.read front_is
          (length-take-le _ _ room)
          c.in_ok-count.ensures.moves
          (grind (arith, common_steps))
          within;
      begun = cc c.in_ok-count.ensures.begun_stays;
      told = cc c.in_ok-count.ensures.told_stays;
      failed = cc c.in_ok-count.ensures.ok_keeps_failed;
      faults = omega (arith, c.in_ok-count.ensures.faults_never_fall);
    }
