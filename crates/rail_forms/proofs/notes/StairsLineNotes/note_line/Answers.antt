use Rattle.std.proofs.Common.{◌≡◌, true, subst}
use Rattle.rail_base.specs.declared.history.Entry.{Entry}
use Rattle.rail_stairs.proofs.CallerLemmas.{room_for}
use Rattle.rail_stairs.specs.NotedHistories.{has_room}
use Rattle.rail_forms.proofs.notes.StairsLineNotes.note_line.Goals as goal

pub note-requires : goal.note-requires
note-requires c =
    let follows = c.requires.1 in
    let next = follows.next in
    record {
      room = subst (λ (entry : Entry). has_room c.args.self.now entry.what ≡ true) next.entry_is
          (room_for follows.input next.accepted follows.line follows.front c.args.self.now next.lawful follows.noted);
    }

pub returns-clause-noted : goal.returns-clause-noted
returns-clause-noted c = λ input front line first next noted. c.note.ensures.noted input.plant front line next.entry_is noted
