use Rattle.std.proofs.Common.{◌*◌, length, ap, ◌∙◌}
use Rattle.rail_gen.specs.MadeScenes.{itinerary, train_of}
use Rattle.rail_gen.proofs.Turns.{words_drawn, rest_drawn}
use Rattle.rail_gen.proofs.trains.train.Goals as goal

pub returns-clause-train : goal.returns-clause-train
returns-clause-train c =
    let count = c.args.count in
    let west = c.coin-is_westbound.result in
    let tracks = c.in_ok-tracks.tracks.items in
    let words = words_drawn count c.args.words.now c.coin-is_westbound.new.words c.drawn-entry.new.words c.drawn-kind.new.words c.drawn-priority.new.words c.coins.new.words
    west c.drawn-entry.result c.drawn-kind.result c.drawn-priority.result tracks
    c.coin-is_westbound.ensures.value c.coin-is_westbound.ensures.rest c.drawn-entry.ensures.value c.drawn-entry.ensures.rest c.drawn-kind.ensures.value c.drawn-kind.ensures.rest
    c.drawn-priority.ensures.value c.drawn-priority.ensures.rest c.in_ok-tracks.ensures.value c.in_ok-tracks.ensures.rest in
    (λ i. record {
      name = c.train_name.ensures i;
      kind = c.kind_name.ensures i;
      entry = 10 * c.from.ensures i;
      priority = c.drawn-priority.result;
      routes = (c.from_vec.ensures ∙ c.in_ok-routes.ensures ∙ ap (λ ts. itinerary (length ts) west ts) c.as_slice.ensures.value ∙ ap (λ m. itinerary m west tracks) c.in_ok-tracks.ensures.long) i;
    })
    ∙ ap (train_of count c.args.n) words

pub returns-clause-rest : goal.returns-clause-rest
returns-clause-rest c =
    rest_drawn c.args.count c.args.words.now c.coin-is_westbound.new.words c.drawn-entry.new.words c.drawn-kind.new.words c.drawn-priority.new.words c.coins.new.words
    c.coin-is_westbound.result c.drawn-entry.result c.drawn-kind.result c.drawn-priority.result c.in_ok-tracks.tracks.items
    c.coin-is_westbound.ensures.value c.coin-is_westbound.ensures.rest c.drawn-entry.ensures.value c.drawn-entry.ensures.rest c.drawn-kind.ensures.value c.drawn-kind.ensures.rest
    c.drawn-priority.ensures.value c.drawn-priority.ensures.rest c.in_ok-tracks.ensures.value c.in_ok-tracks.ensures.rest
