use Rattle.std.proofs.Common.{◌≡◌, ℕ, [], ◌∷◌, ◌++◌, List, refl, sym, ap, ◌∙◌, subst, append_assoc}
use Rattle.rail_explain.specs.Terminals.{shown_byte, shown_text}
use Rattle.rail_text.specs.Writes.{WritesText}
use Rattle.rail_text.proofs.CallerLemmas.{both_written, none_written, part_written}
use Rattle.rail_explain.proofs.terminals.write_shown.Goals as goal

-- what was written, the next byte, and the rest are the whole text
one_more : (said left others text : List ℕ) (byte : ℕ) → left ≡ byte ∷ others → said ++ shown_text left ≡ shown_text text
    → (said ++ shown_byte byte) ++ shown_text others ≡ shown_text text
one_more said left others text byte split whole = append_assoc said (shown_byte byte) (shown_text others) ∙ ap (λ (rest : List ℕ). said ++ shown_text rest) (sym split) ∙ whole

pub loop-byte-init : goal.loop-byte-init
loop-byte-init g c = record {
  said = [];
  written = none_written g.O.Sink c.args.out.now;
  whole = refl;
}

pub returns-in_err-write_byte : goal.returns-in_err-write_byte
returns-in_err-write_byte g c =
    let inv = c.loop-byte.invariant in
    let Written : List ℕ → Type 0 = λ text. WritesText g.O.Sink c.args.out.now c.write_byte.new.out text c.from_residual.result in
    let here = both_written g.O.Sink _ _ _ _ _ _ inv.written c.in_err-write_byte.ensures in
    subst Written (one_more inv.said c.loop-byte.left.now c.in-Some.others.now c.args.text.now c.in-Some.byte.now c.in-Some.ensures.cases.0 inv.whole)
    (part_written g.O.Sink _ _ _ (shown_text c.in-Some.others.now) _ c.from_residual.result c.from_residual.ensures.0 here)

pub loop-byte-preserved : goal.loop-byte-preserved
loop-byte-preserved g c =
    let inv = c.loop-byte.invariant in
    record {
      said = inv.said ++ shown_byte c.in-Some.byte.now;
      written = both_written g.O.Sink _ _ _ _ _ _ inv.written c.in_ok-write_byte.ensures;
      whole = one_more inv.said c.loop-byte.left.now c.in-Some.others.now c.args.text.now c.in-Some.byte.now c.in-Some.ensures.cases.0 inv.whole;
    }
