use Rattle.std.proofs.Common.{◌≡◌, length, ap}
use Rattle.rail_forms.specs.Infra.{route_line}
use Rattle.rail_forms.proofs.InfraTexts.{route_from}
use Rattle.rail_forms.proofs.infra.write_route.Goals as goal

pub returns : goal.returns
returns g c =
    let e : c.as_slice-2.result.now ≡ route_line c.args.network.now.sections c.args.route.now =
    route_from _ _ c.as_slice-2.ensures c.put-2.ensures c.put_number-2.ensures.text c.put_number.ensures.text c.put_name-3.ensures.text c.put_name-2.ensures.text c.put_name.ensures.text c.put.ensures c.new-line.ensures c.route_length.ensures (ap length c.as_slice.ensures) in
    rw (← e) (record {
      adds = c.write_whole.ensures.adds;
      failed_adds_prefix = c.write_whole.ensures.failed_adds_prefix;
      failed_rose = c.write_whole.ensures.failed_rose;
      faults_never_fall = c.write_whole.ensures.faults_never_fall;
    })
