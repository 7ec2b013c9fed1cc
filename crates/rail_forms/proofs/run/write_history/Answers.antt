use Rattle.std.proofs.Common.{◌≡◌, sym, subst}
use Rattle.rail_io.specs.Writes.{Adds}
use Rattle.rail_rules.specs.Texts.{text}
use Rattle.rail_forms.proofs.run.write_history.Goals as goal

-- the output that the writer has in the end is the one that is given back
pub returns-clause-adds : goal.returns-clause-adds
returns-clause-adds g c =
    let noted = c.in_ok-follow_to_end.ensures.noted in
    let back : c.follow_to_end.new.notes.out.now ≡ c.out-1.given.0 = sym (c.out-1.given.1 (sym noted.noted.0)) in
    record {
      front = noted.front;
      run = noted.run;
      adds = subst (λ now. Adds (g.O.Sink.written c.args.out.now) (g.O.Sink.written now) (text c.args.begun.engine.core.input.plant noted.front)) back noted.noted.1.adds;
    }
