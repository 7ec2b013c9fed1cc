use Rattle.std.proofs.Common.{◌≡◌}
use Rattle.rail_forms.specs.Infra.{counts_line}
use Rattle.rail_forms.proofs.InfraTexts.{counts_from}
use Rattle.rail_forms.proofs.infra.write_counts.Goals as goal

pub returns : goal.returns
returns g c =
    let e : c.as_slice.result.now ≡ counts_line c.args.scene.now = counts_from _ c.as_slice.ensures c.put-2.ensures c.put_train_counts.ensures.text c.put_turn_and_route_counts.ensures.text c.put_section_and_post_counts.ensures.text c.put.ensures c.new-line.ensures in
    rw (← e) (record {
      adds = c.write_whole.ensures.adds;
      failed_adds_prefix = c.write_whole.ensures.failed_adds_prefix;
      failed_rose = c.write_whole.ensures.failed_rose;
      faults_never_fall = c.write_whole.ensures.faults_never_fall;
    })
