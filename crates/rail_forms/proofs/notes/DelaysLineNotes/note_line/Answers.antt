use Rattle.std.proofs.Common.{◌∷◌, sym, subst}
use Rattle.rail_delay.specs.Accounts.{AreNoted}
use Rattle.rail_laws_events.proofs.CallerLemmas.{input_parts}
use Rattle.rail_rules.specs.Plant.{Plant}
use Rattle.rail_forms.proofs.notes.DelaysLineNotes.note_line.Goals as goal

pub returns-clause-noted : goal.returns-clause-noted
returns-clause-noted c = λ input front line first next noted.
    let accepted = (input_parts input next.accepted).0 in
    subst (λ (p : Plant). AreNoted p input.commands (line ∷ front) c.note.new.self) next.plant_is
    (c.note.ensures.noted input.commands front line next.entry_is (c.a_lawful_front_is_in_order.ensures input accepted (line ∷ front) next.lawful)
    (subst (λ (p : Plant). AreNoted p input.commands front c.args.self.now) (sym next.plant_is) noted))
