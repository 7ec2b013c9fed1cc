use Rattle.std.proofs.Common.{◌+◌, ◌-◌, cond, Some, ap, ◌∙◌}
use Rattle.rail_base.specs.declared.plant.MoveRow.{MoveRow}
use Rattle.rail_rules.specs.Plant.{move_row}
use Rattle.rail_block.specs.declared.times.MoveTimes.{MoveTimes}
use Rattle.rail_block.proofs.Placing.{made_at}
use Rattle.rail_block.proofs.moves.KnownStep.parts.Goals as goal

pub returns : goal.returns
returns c = λ adms h.
    let plant = c.args.self.now.of.now.plant.now in
    let t = c.args.self.now.of.now.train in
    let p = c.args.self.now.of.now.place in
    let some = c.args.self.now.of.now.first in
    let m = p - 1 in
    let row : MoveRow = move_row plant t m in
    let own = made_at plant t adms p c.args.times.now some h.times in
    let set = c.from.ensures ∙ ap (λ (r : MoveRow). r.setting) c.row-row.ensures.row in
    let watched = c.from-2.ensures ∙ ap (λ (r : MoveRow). r.watching) c.row-row.ensures.row in
    let approached = c.approach_part.ensures.time ∙ ap (λ (times : MoveTimes). cond times.passes row.approach 0) own in
    let waited = c.waiting_part.ensures ∙ ap (λ (times : MoveTimes). times.go - (times.admitted + row.setting + row.watching + cond times.passes row.approach 0)) own in
    let entered = c.reach_time-entered.ensures.time adms h.times in
    let gone = ap (λ (times : MoveTimes). times.go) own in
    let run_before = c.between.ensures ∙ (λ k. entered k - gone k) in
    let run = c.running_part.ensures adms h in
    let stood = c.standing_part.ensures adms h in
    let cleared = c.clear_time.ensures.time in
    let released = c.from-3.ensures ∙ c.release.ensures in
    λ k. record {
      setting = Some (set k);
      watching = Some (watched k);
      approach = Some (approached k);
      waiting = Some (waited k);
      earlier = Some (run_before k);
      running = run k;
      standing = stood k;
      clearing = Some (cleared k);
      release = Some (released k);
    }
