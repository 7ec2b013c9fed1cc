use Rattle.std.proofs.Common.{◌≡◌, ℕ, ◌<◌, List, Option, None, Some, eqb, length, set, refl, sym, ap, ◌∙◌, subst, inl, inr, ⊎_elim, arith}
use Rattle.std.proofs.lemmas.Bool.{eq-eqb, eqb-true, false≢true, or_cases, or_left, or_parts}
use Rattle.std.proofs.lemmas.Option.{none-some, same_Some}
use Rattle.rail_rules.specs.Moves.{Moves}
use Rattle.rail_place.specs.Tables.{moves_in}
use Rattle.rail_rules.specs.Numbers.{is_in}
use Rattle.rail_sets.specs.TrainSets.{has_train}
use Rattle.rail_consequence.specs.Freeing.{IsLookahead, MayWaitFor, WaitsFor}
use Rattle.rail_consequence.specs.Searches.{HasNoSafeLegOf}
use Rattle.rail_consequence.specs.Stops.{stop_of}
use Rattle.rail_consequence.specs.declared.notes.Stop.{Stop}
use Rattle.rail_consequence.proofs.analyst.Worksheet.add_awaited.Goals as goal
use Rattle.rail_consequence.proofs.analyst.Worksheet.add_awaited.Goals.{then-eq-via-then-eq, then-eq-via-else-eq+then-is_next, then-eq-via-else-eq+else-is_next+then-has}

-- a train that waits for one waits for no other
the_one : (plan : Moves) (s : List ℕ) (stops : List Stop) (u t h : ℕ) (o : Option ℕ) → ((key : Option ℕ) → WaitsFor plan s stops u key → key ≡ o) → o ≡ Some h → MayWaitFor plan s stops u t → t ≡ h
the_one plan s stops u t h o exact is may =
    ⊎_elim
    (λ none. absurd (none-some h (exact None none ∙ is)))
    (λ waits. same_Some t h (exact (Some t) waits ∙ is))
    may

pub is_kept_from_legs-requires-clause-ahead : goal.is_kept_from_legs-requires-clause-ahead
is_kept_from_legs-requires-clause-ahead g c =
    let plan : Moves = moves_in c.args.moves.now in
    let w = c.args.self.now in
    let P : ℕ → Type 0 = λ p. IsLookahead plan w.places.positions w.needs g.W.Width.WORDS c.in-Some.train p c.look_without-ahead.result in
    subst P (sym c.places-last.ensures) c.look_without-ahead.ensures.sets

pub returns-then-eq-clause-here : goal.returns-then-eq-clause-here
returns-then-eq-clause-here g c = λ t unmarked inside ne here may.
    let plan : Moves = moves_in c.args.moves.now in
    let s = c.args.self.now.places.positions in
    let stops = c.args.notes.now.stops in
    let h = c.in-Some.train in
    let same : t ≡ h = the_one plan s stops c.args.other t h c.awaited.result c.awaited.ensures.exact c.in-Some.is may in
    elim c.then-eq.branch [
      | then-eq-via-then-eq w ↦ absurd (ne (sym (same ∙ eqb-true h c.args.other (sym c.eq.ensures ∙ w.if-eq.true))))
      | then-eq-via-else-eq+then-is_next w ↦
          let next = w.is_next.ensures.some w.if-is_next.true in
          inl (next.0, ap (stop_of stops) same ∙ sym w.stop.ensures ∙ next.1)
      | then-eq-via-else-eq+else-is_next+then-has w ↦ absurd (false≢true (sym unmarked ∙ ap (has_train c.args.openers.now) same ∙ sym w.has.ensures ∙ w.if-has.true))
    ]

pub returns-then-stands_inside-clause-here : goal.returns-then-stands_inside-clause-here
returns-then-stands_inside-clause-here g c = λ t unmarked inside.
    absurd (false≢true (sym (or_parts (is_in t c.args.inside.now) (has_train c.args.openers.now t) (sym (c.insert_each.ensures t) ∙ unmarked)).0 ∙ c.requires.listed.all t inside))

pub returns-then-stands_inside-clause-more : goal.returns-then-stands_inside-clause-more
returns-then-stands_inside-clause-more g c = λ t unmarked. (or_parts (is_in t c.args.inside.now) (has_train c.args.openers.now t) (sym (c.insert_each.ensures t) ∙ unmarked)).1

pub returns-then-stands_inside-clause-known : goal.returns-then-stands_inside-clause-known
returns-then-stands_inside-clause-known g c = λ t on off.
    ⊎_elim
    (λ listed. c.requires.listed.trains t listed)
    (λ before. absurd (false≢true (sym off ∙ before)))
    (or_cases (is_in t c.args.inside.now) (has_train c.args.openers.now t) (sym (c.insert_each.ensures t) ∙ on))

pub insert_each-requires : goal.insert_each-requires
insert_each-requires g c = λ t listed. omega (arith, c.requires.listed.trains t listed, c.requires.ready.made.moves.few)

pub returns-then-not-is_kept_from_legs-clause-known : goal.returns-then-not-is_kept_from_legs-clause-known
returns-then-not-is_kept_from_legs-clause-known g c = λ t on off.
    let h = c.in-Some.train in
    ⊎_elim
    (λ same. let P : ℕ → Type 0 = λ v. v < length c.args.moves.now in subst P (sym (eqb-true t h same)) c.in-Some.ensures.known)
    (λ before. absurd (false≢true (sym off ∙ before)))
    (or_cases (eqb t h) (has_train c.args.openers.now t) (sym (c.insert.ensures t) ∙ on))

pub returns-then-not-is_kept_from_legs-clause-here : goal.returns-then-not-is_kept_from_legs-clause-here
returns-then-not-is_kept_from_legs-clause-here g c = λ t unmarked inside ne here may.
    let plan : Moves = moves_in c.args.moves.now in
    let s = c.args.self.now.places.positions in
    let h = c.in-Some.train in
    let same : t ≡ h = the_one plan s c.args.notes.now.stops c.args.other t h c.awaited.result c.awaited.ensures.exact c.in-Some.is may in
    absurd (false≢true (sym unmarked ∙ ap (has_train c.insert.new.self) same ∙ c.insert.ensures h ∙ or_left (eqb h h) (has_train c.args.openers.now h) (eq-eqb h h refl)))

pub returns-else-not-is_kept_from_legs-clause-here : goal.returns-else-not-is_kept_from_legs-clause-here
returns-else-not-is_kept_from_legs-clause-here g c = λ t unmarked inside ne here may.
    let plan : Moves = moves_in c.args.moves.now in
    let s = c.args.self.now.places.positions in
    let h = c.in-Some.train in
    let same : t ≡ h = the_one plan s c.args.notes.now.stops c.args.other t h c.awaited.result c.awaited.ensures.exact c.in-Some.is may in
    let P : ℕ → Type 0 = λ p. HasNoSafeLegOf plan (set s h p) c.args.other in
    let Q : ℕ → Type 0 = λ v. HasNoSafeLegOf plan (set s v (plan.moves v)) c.args.other in
    inr (subst Q (sym same) (subst P c.places-last.ensures (c.is_kept_from_legs.ensures c.if-not-is_kept_from_legs.false)))
