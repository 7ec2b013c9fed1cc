use Rattle.std.proofs.Common.{◌≡◌, ℕ, ◌<◌, true, false, List, get_or, length, set, sym, ap, ◌∙◌, subst, arith}
use Rattle.std.proofs.lemmas.Grind.{get_or_default_zero}
use Rattle.rail_rules.specs.Moves.{Moves}
use Rattle.rail_rules.specs.Places.{place_of}
use Rattle.rail_place.specs.Tables.{moves_in}
use Rattle.rail_sets.specs.Sets.{has}
use Rattle.rail_consequence.specs.Needs.{IsAmong, IsTallyFor, IsRecounted, Placed, count_of, needs_left}
use Rattle.rail_consequence.specs.Stops.{IsNotedTo}
use Rattle.rail_consequence.proofs.Counts.{among_counted, tallied_on}
use Rattle.rail_consequence.proofs.Moved.{noted_moved}
use Rattle.rail_consequence.proofs.tally.NeedTally.follow_train.Goals as goal

-- what is read of the list is the train's place
read_is : (s : List ℕ) (t i p : ℕ) → p ≡ get_or s i p → i ≡ t → t < length s → place_of s t ≡ p
read_is s t i p read at lt = sym (read ∙ ap (λ k. get_or s k p) at ∙ get_or_default_zero s t p lt)

pub recount-requires-clause-among : goal.recount-requires-clause-among
recount-requires-clause-among g c =
    let plan : Moves = moves_in c.args.moves.now in
    let t = c.args.train in
    let own : Placed = record { positions = c.self.inside.positions.items; counts = c.self.inside.needs } in
    let P : Placed → Type 0 = λ a. IsTallyFor plan a in
    let kept : P own = subst P (sym c.self.view_is) c.requires.kept in
    let listed : t < length own.positions = omega (arith, kept.long, c.requires.train) in
    let at = read_is own.positions t c.from.result c.index-from.result.now c.index-from.ensures (c.from.ensures ∙ c.train.view_is) listed in
    let Q : ℕ → Type 0 = λ p. IsAmong plan t p own.counts in
    subst Q at (among_counted plan own.positions own.counts kept.counted t listed (omega (arith, kept.long, c.requires.table.few)))

pub returns-clause-kept : goal.returns-clause-kept
returns-clause-kept g c =
    let plan : Moves = moves_in c.args.moves.now in
    let t = c.args.train in
    let own : Placed = record { positions = c.self.inside.positions.items; counts = c.self.inside.needs } in
    let P : Placed → Type 0 = λ a. IsTallyFor plan a in
    let kept : P own = subst P (sym c.self.view_is) c.requires.kept in
    let listed : t < length own.positions = omega (arith, kept.long, c.requires.train) in
    let at = read_is own.positions t c.from.result c.index-from.result.now c.index-from.ensures (c.from.ensures ∙ c.train.view_is) listed in
    let Q : ℕ → Type 0 = λ p. IsRecounted plan t p c.args.place own.counts c.recount.new.needs in
    let R : ℕ → Type 0 = λ i. IsTallyFor plan (record { positions = set own.positions i c.args.place; counts = c.recount.new.needs }) in
    subst R (sym (c.from-2.ensures ∙ c.train-2.view_is))
    (tallied_on plan own t c.args.place c.recount.new.needs kept c.requires.train c.requires.within (subst Q (sym at) c.recount.ensures))

pub returns-clause-noted : goal.returns-clause-noted
returns-clause-noted g c =
    let plan : Moves = moves_in c.args.moves.now in
    let t = c.args.train in
    let own : Placed = record { positions = c.self.inside.positions.items; counts = c.self.inside.needs } in
    let P : Placed → Type 0 = λ a. IsTallyFor plan a in
    let kept : P own = subst P (sym c.self.view_is) c.requires.kept in
    let listed : t < length own.positions = omega (arith, kept.long, c.requires.train) in
    let at = read_is own.positions t c.from.result c.index-from.result.now c.index-from.ensures (c.from.ensures ∙ c.train.view_is) listed in
    let N : Placed → Type 0 = λ a. IsNotedTo plan a.positions c.args.notes.now in
    let noted : N own = subst N (sym c.self.view_is) c.requires.noted in
    let F : ℕ → Type 0 = λ p. (x : ℕ) → needs_left plan t p x ≡ true → needs_left plan t c.args.place x ≡ false → count_of own.counts x ≡ 2 → has c.note_move.new.notes.fell x ≡ true in
    let R : ℕ → Type 0 = λ i. IsNotedTo plan (set own.positions i c.args.place) c.note_move.new.notes in
    subst R (sym (c.from-2.ensures ∙ c.train-2.view_is))
    (noted_moved plan own.positions own.counts t c.args.place c.args.notes.now c.note_move.new.notes c.requires.table.valid kept.long listed kept.counted c.note_move.ensures.kept
    (subst F (sym at) c.note_move.ensures.falls) noted c.note_move.ensures.here c.note_move.ensures.others (c.note_move.ensures.none noted.none))
