use Rattle.std.proofs.Common.{◌≡◌, ℕ, [], ◌+◌, ◌∷◌, ◌++◌, List, drop, map, refl, sym, ap, ◌∙◌, subst, append_assoc}
use Rattle.std.proofs.lemmas.List.{take_rest}
use Rattle.rail_rules.specs.Texts.{behind, items_of}
use Rattle.rail_text.specs.Writes.{WritesText}
use Rattle.rail_text.proofs.CallerLemmas.{both_written, none_written, part_written, first_word}
use Rattle.rail_reroute.specs.Lines.{item_word, scene_names}
use Rattle.rail_reroute.proofs.lines.write_items.Goals as goal

pub loop-train-init : goal.loop-train-init
loop-train-init g c = record {
  said = [];
  written = none_written g.O.Sink c.args.out.now;
  whole = refl;
}

pub returns-in_err-write_item : goal.returns-in_err-write_item
returns-in_err-write_item g c =
    let inv = c.loop-train.invariant in
    let names = scene_names c.args.scene.now in
    let word : List ℕ = 32 ∷ item_word names (record { train = c.in-Some.train.now; count = c.repeats-more.result + 1 }) in
    let rest : List ℕ = behind (map (item_word names) (items_of (drop c.repeats-more.result c.in-Some.others.now))) in
    let Written : List ℕ → Type 0 = λ text. WritesText g.O.Sink c.args.out.now c.write_item.new.out text c.from_residual.result in
    let whole : (inv.said ++ word) ++ rest ≡ behind (map (item_word names) (items_of c.args.list.now)) =
    append_assoc inv.said word rest ∙ ap (λ (text : List ℕ). inv.said ++ text) (sym (first_word (item_word names) c.loop-train.left.now c.in-Some.train.now c.in-Some.others.now c.repeats-more.result c.in-Some.ensures.cases.0 c.repeats-more.ensures.count)) ∙ inv.whole in
    let here = both_written g.O.Sink _ _ _ _ _ _ inv.written c.in_err-write_item.ensures in
    subst Written whole (part_written g.O.Sink _ _ _ rest _ c.from_residual.result c.from_residual.ensures.0 here)

pub loop-train-preserved : goal.loop-train-preserved
loop-train-preserved g c =
    let inv = c.loop-train.invariant in
    let names = scene_names c.args.scene.now in
    let word : List ℕ = 32 ∷ item_word names (record { train = c.in-Some.train.now; count = c.repeats-more.result + 1 }) in
    let rest : List ℕ = behind (map (item_word names) (items_of (drop c.repeats-more.result c.in-Some.others.now))) in
    let whole : (inv.said ++ word) ++ rest ≡ behind (map (item_word names) (items_of c.args.list.now)) =
    append_assoc inv.said word rest ∙ ap (λ (text : List ℕ). inv.said ++ text) (sym (first_word (item_word names) c.loop-train.left.now c.in-Some.train.now c.in-Some.others.now c.repeats-more.result c.in-Some.ensures.cases.0 c.repeats-more.ensures.count)) ∙ inv.whole in
    record {
      said = inv.said ++ word;
      written = both_written g.O.Sink _ _ _ _ _ _ inv.written c.in_ok-write_item.ensures;
      whole = rw take_rest whole;
    }
