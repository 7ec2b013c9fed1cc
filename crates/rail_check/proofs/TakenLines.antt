-- A ledger takes of the lines of a history what stands in the file.
use Rattle.std.proofs.Common.{◌≡◌, ℕ, List, refl, sym, ◌∙◌}
use Rattle.rail_base.specs.declared.history.Entry.{Entry}
use Rattle.rail_base.specs.declared.history.Note.TheVariants.{Pulled, Appended, Fresh}
use Rattle.rail_base.specs.declared.history.What.{What}
use Rattle.rail_base.specs.declared.history.What.TheVariants.{Free, Arrive, Enter, Out, Ready, Told, Untold, Admit, Hold, End}
use Rattle.rail_history.specs.Lines.{brought, line_of}
use Rattle.rail_ledger.specs.Ledgers.{line_taken, trains_taken}

-- trains that a line brings are taken, all of them
taken_trains : (what : What) (trains : List ℕ) → brought what trains ≡ trains → trains_taken what trains ≡ trains
taken_trains (Admit t m Fresh) trains h = refl
taken_trains (Admit t m Pulled) trains h = h
taken_trains (Admit t m Appended) trains h = h
taken_trains (Free x t) trains h = refl
taken_trains (Arrive t m) trains h = refl
taken_trains (Enter t m x) trains h = refl
taken_trains (Out t) trains h = refl
taken_trains (Ready t m) trains h = refl
taken_trains (Told n) trains h = refl
taken_trains (Untold n) trains h = refl
taken_trains (Hold t m why) trains h = refl
taken_trains End trains h = refl

-- the line that is taken is the one in the file
pub taken_line : (entry : Entry) (trains : List ℕ) → brought entry.what trains ≡ trains → line_taken entry trains ≡ line_of entry trains
taken_line entry trains h =
    let same = taken_trains entry.what trains h ∙ sym h in
    λ i. record { entry = entry; trains = same i }
