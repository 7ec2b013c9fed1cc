use Rattle.std.proofs.lemmas.Result.{err_from_is_err_and}
use Rattle.rail_forms.proofs.Progress.{next_cut, next_writable, next_written}
use Rattle.rail_forms.proofs.run.WriterLineNotes.note_line.Goals as goal

pub write_entry-requires : goal.write_entry-requires
write_entry-requires g c =
    let follows = c.requires.1 in (
      c.args.plant.now,
      record { sections = c.names.ensures.sections; trains = c.names.ensures.trains },
      next_writable follows.input follows.front follows.line c.args.plant.now c.args.entry c.args.listed.now follows.next,
    )

pub returns-in_err-write_entry-clause-cut : goal.returns-in_err-write_entry-clause-cut
returns-in_err-write_entry-clause-cut g c =
    let failed = err_from_is_err_and c.from_residual.result c.from_residual.ensures.1 in
    let written = c.in_err-write_entry.ensures in
    let more = written.failed_adds_prefix c.args.plant.now (record { sections = c.names.ensures.sections; trains = c.names.ensures.trains }) in
    rw failed.1 (λ input front line first next noted. (
      noted.0,
      next_cut input front line c.args.plant.now c.args.entry c.args.listed.now next
          g.O.Sink first.out.now c.args.self.now.out.now c.write_entry.new.out noted.1 more written.failed_rose written.faults_never_fall,
    ))

pub returns-clause-noted : goal.returns-clause-noted
returns-clause-noted g c = λ input front line first next noted.
    let written = c.in_ok-write_entry.ensures in
    let more = written.adds c.args.plant.now (record { sections = c.names.ensures.sections; trains = c.names.ensures.trains }) in (
      noted.0,
      next_written input front line c.args.plant.now c.args.entry c.args.listed.now next
          g.O.Sink first.out.now c.args.self.now.out.now c.write_entry.new.out noted.1 more written.faults_never_fall,
    )
