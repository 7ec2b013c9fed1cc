use Rattle.std.proofs.Common.{◌≡◌, ◌<◌, List, ℕ, length, set, sym, ap, ◌∙◌, arith}
use Rattle.std.proofs.lemmas.List.{get_or-set_same}
use Rattle.rail_rules.specs.Places.{place_of}
use Rattle.rail_place.specs.Tables.{moves_in}
use Rattle.rail_consequence.specs.AnalystStates.{Tallied}
use Rattle.rail_consequence.proofs.Aside.{listing_same, noted_none, rows_but, tally_same}
use Rattle.rail_consequence.proofs.analyst.Analyst.set_aside.Goals as goal

pub returns-clause-aside : goal.returns-clause-aside
returns-clause-aside c = λ other alike.
    let plan = moves_in c.args.moves.now in
    let t = c.args.train in
    let s : List ℕ = c.self.inside.tally.positions in
    let r : List ℕ = c.follow_train.new.self.positions in
    let moved : r ≡ set s t 0 = c.follow_train.ensures.positions in
    let was : s ≡ c.args.self.now.tally.positions = ap (λ (tallied : Tallied). tallied.tally.positions) c.self.view_is in
    let within : t < length s = omega (arith, ap length was, c.requires.own.tally.long, c.requires.train) in
    let outside : place_of r t ≡ 0 = ap (λ places. place_of places t) moved ∙ get_or-set_same s t 0 0 within in
    let own = rw (sym c.self.view_is) at c.requires.own in
    record {
      listed = listing_same plan other t alike s r c.self.inside.inside c.exclude.new.self moved outside own.listed c.exclude.ensures;
      tally = tally_same plan other t alike c.follow_train.new.self outside c.follow_train.ensures.kept;
      noted = noted_none other r c.none-self-inside.result c.none-self-inside.ensures.stops c.none-self-inside.ensures.fell;
      rows = rows_but plan other t alike c.self.inside.sheet.rows own.rows;
    }
