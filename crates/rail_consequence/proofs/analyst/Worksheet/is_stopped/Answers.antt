use Rattle.std.proofs.Common.{◌≡◌, ℕ, true, false, List, sym, ap, ◌∙◌, subst}
use Rattle.std.proofs.lemmas.Bool.{not-true}
use Rattle.rail_rules.specs.Moves.{Moves, stand}
use Rattle.rail_rules.specs.Numbers.{is_in}
use Rattle.rail_rules.specs.Places.{place_of}
use Rattle.rail_place.specs.Tables.{MoveLists, moves_in}
use Rattle.rail_sets.specs.Sets.{has}
use Rattle.rail_consequence.specs.declared.notes.Stop.{Stop}
use Rattle.rail_consequence.specs.declared.notes.Stop.TheVariants.{Next, Later}
use Rattle.rail_consequence.specs.Stops.{IsTakenByOther, IsNoted, section_of, stop_of}
use Rattle.rail_consequence.specs.Workspace.{IsReady, Work}
use Rattle.rail_consequence.proofs.Holding.{are_owned, other_bar}
use Rattle.rail_consequence.proofs.Stopping.{claim_apart, later_stopped, next_stopped}
use Rattle.rail_consequence.proofs.analyst.Worksheet.is_stopped.Goals as goal

-- a section that is taken, and on which the train does not stand, is taken by another
by_other : (table : List MoveLists) (w : Work) → IsReady table w → (t x : ℕ) → has w.taken x ≡ true → is_in x (stand (moves_in table) t (place_of w.places.positions t)) ≡ false → IsTakenByOther (moves_in table) w.places.positions t x
by_other table w ready t x = other_bar (moves_in table) w.places.positions w.taken ready.made.valid (are_owned table w.places ready.made w.taken ready.taken) t x

pub returns-in-Next : goal.returns-in-Next
returns-in-Next g c =
    let table = c.args.moves.now in
    let plan : Moves = moves_in table in
    let w = c.args.self.now in
    let s = w.places.positions in
    let t = c.args.train in
    let x = c.in-Next.section in
    let noted : stop_of c.args.notes.now.stops t ≡ Next x = sym c.stop.ensures ∙ c.in-Next.is in
    let P : Stop → Type 0 = λ stop. IsNoted plan s c.args.notes.now.fell t stop in
    λ stopped inside.
    let needed = subst P noted (c.requires.noted.each t inside) in
    let low = c.requires.words.all t (place_of s t) x c.requires.train needed in
    let out = claim_apart plan s t x c.requires.ready.made.moves.valid c.requires.train inside needed in
    (x, ap section_of noted, next_stopped plan s t x inside needed (by_other table w c.requires.ready t x (sym (c.is_taken.ensures low) ∙ stopped) out))

pub returns-then-is_taken : goal.returns-then-is_taken
returns-then-is_taken g c =
    let table = c.args.moves.now in
    let plan : Moves = moves_in table in
    let w = c.args.self.now in
    let s = w.places.positions in
    let t = c.args.train in
    let x = c.in-Later.section in
    let noted : stop_of c.args.notes.now.stops t ≡ Later x = sym c.stop.ensures ∙ c.in-Later.is in
    let P : Stop → Type 0 = λ stop. IsNoted plan s c.args.notes.now.fell t stop in
    λ untouched inside.
    let behind = subst P noted (c.requires.noted.each t inside) (c.is_touched.ensures (not-true c.is_touched.result untouched)) in
    let low = c.requires.words.all t behind.place x c.requires.train behind.needed in
    (x, ap section_of noted, later_stopped plan s t x inside behind (by_other table w c.requires.ready t x (sym (c.is_taken-in-Later.ensures low) ∙ c.if-is_taken.true) behind.apart))
