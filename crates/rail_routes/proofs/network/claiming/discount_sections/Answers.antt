use Rattle.std.proofs.Common.{arith}
use Rattle.rail_routes.proofs.Tables.{count_by-sections_of}
use Rattle.rail_routes.proofs.network.claiming.discount_sections.Goals as goal

pub discount_each-requires : goal.discount_each-requires
discount_each-requires c = rw c.as_slice.ensures record {
  counted = λ name. omega (arith, count_by-sections_of name c.args.route.now, c.requires name);
}

pub discount_each-requires-2 : goal.discount_each-requires-2
discount_each-requires-2 c = rw c.as_slice-2.ensures record {
  counted = λ name. omega (arith, count_by-sections_of name c.args.route.now, c.requires name, rw c.as_slice.ensures at (c.discount_each.ensures.discounted name));
}
