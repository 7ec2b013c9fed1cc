use Rattle.std.proofs.Common.{◌∙◌}
use Rattle.rail_stairs.proofs.writing.write_interval.Goals as goal

pub returns : goal.returns
returns g c =
    let e = c.as_slice.ensures ∙ c.put_line.ensures in
    rw (← e) (record {
      adds = c.write_whole.ensures.adds;
      failed_adds_prefix = c.write_whole.ensures.failed_adds_prefix;
      failed_rose = c.write_whole.ensures.failed_rose;
      faults_never_fall = c.write_whole.ensures.faults_never_fall;
    })
