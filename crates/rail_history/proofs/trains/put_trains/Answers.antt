use Rattle.std.proofs.Common.{◌≡◌, ℕ, ◌∷◌, ◌++◌, List, map, arith, refl}
use Rattle.rail_io.specs.Writes.{AddsPrefix}
use Rattle.rail_rules.specs.Texts.{behind}
use Rattle.rail_text.specs.Names.{names_in, train_name}
use Rattle.rail_history.specs.Lines.{item_text}
use Rattle.rail_history.proofs.Pieces.{none_handed_on, handed_on_then, one_more_said, failed_before}
use Rattle.rail_history.proofs.ItemTexts.{first_name}
use Rattle.rail_history.proofs.trains.put_trains.Goals as goal

pub loop-train-init : goal.loop-train-init
loop-train-init g c = record {
  said = c.args.line.now;
  so_far = none_handed_on _ c.args.line.now;
  whole = refl;
  room = c.requires;
  faults = omega arith;
}

pub returns-in_err-put_item-clause-failed_adds_prefix :
    goal.returns-in_err-put_item-clause-failed_adds_prefix
returns-in_err-put_item-clause-failed_adds_prefix g c =
    let inv = c.loop-train.invariant in
    let word : List ℕ = 32 ∷ item_text c.args.names.now (record { train = c.in-Some.train.now; count = 1 }) in
    let rest : List ℕ = behind (map (train_name (names_in c.args.names.now)) c.in-Some.others.now) in
    let whole : (inv.said ++ word) ++ rest ≡ c.args.line.now ++ behind (map (train_name (names_in c.args.names.now)) c.args.list.now) =
    one_more_said inv.said word rest _ _ (first_name c.args.names.now c.loop-train.left.now c.in-Some.train.now c.in-Some.others.now c.in-Some.ensures.cases.0) inv.whole in
    let part : AddsPrefix (g.O.Sink.written c.args.out.now) (g.O.Sink.written c.put_item.new.out) (c.args.line.now ++ behind (map (train_name (names_in c.args.names.now)) c.args.list.now)) =
    failed_before inv.so_far word rest c.in_err-put_item.ensures.failed_adds_prefix whole in
    grind (arith, part)

pub loop-train-preserved : goal.loop-train-preserved
loop-train-preserved g c =
    let inv = c.loop-train.invariant in
    let word : List ℕ = 32 ∷ item_text c.args.names.now (record { train = c.in-Some.train.now; count = 1 }) in
    record {
      said = inv.said ++ word;
      so_far = handed_on_then inv.so_far word c.in_ok-put_item.ensures.adds;
      whole = one_more_said inv.said word _ _ _ (first_name c.args.names.now c.loop-train.left.now c.in-Some.train.now c.in-Some.others.now c.in-Some.ensures.cases.0) inv.whole;
      room = c.in_ok-put_item.ensures.room;
      faults = omega (arith, inv.faults, c.in_ok-put_item.ensures.faults_never_fall);
    }
