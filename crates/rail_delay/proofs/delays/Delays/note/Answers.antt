use Rattle.std.proofs.Common.{ap}
use Rattle.rail_delay.specs.Accounts.{Kept}
use Rattle.rail_delay.proofs.Noted.{made_in, noted_in}
use Rattle.rail_delay.proofs.delays.Delays.note.Goals as goal

pub returns : goal.returns
returns c = record {
  noted = noted_in c.args.plant.now c.args.entry c.self.inside.accounts c.self.inside.visits c.self.inside.cancels c.args.self.now c.self.view_is
      _ _ _ _ _ c.deref_mut.ensures.value c.deref.ensures.value c.deref_mut-2.ensures.value c.note_account.ensures.after c.note_visit.ensures c.note_account.ensures.fits;
  made = made_in c.self.inside.accounts c.note_account.new.all _ _ c.deref_mut.ensures.value (c.note_account.ensures.after.trains) (ap (λ (k : Kept). k.accounts) c.self.view_is);
}
