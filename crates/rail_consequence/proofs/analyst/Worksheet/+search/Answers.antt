use Rattle.std.proofs.Common.{◌≡◌, ℕ, ◌+◌, ◌-◌, ◌<◌, not, eqb, List, Option, None, Some, is_some, true, false, length, set, refl, sym, ap, ◌∙◌, subst, ⊎_elim, arith}
use Rattle.std.specs.Prelude.{MatchOption}
use Rattle.std.proofs.lemmas.Bool.{and_parts, cases_lt, false≢true, not-true}
use Rattle.rail_rules.specs.Numbers.{is_in}
use Rattle.rail_rules.specs.Moves.{Moves}
use Rattle.rail_rules.specs.Places.{place_of, nobody_inside}
use Rattle.rail_rules.specs.Analysis.{Finds, Leg, after_leg, is_leg}
use Rattle.rail_place.specs.Tables.{moves_in, MoveLists}
use Rattle.rail_sets.specs.TrainSets.{has_train}
use Rattle.rail_sets.specs.declared.train_set.TrainSet.{TrainSet}
use Rattle.rail_consequence.specs.Searches.{HasNoSafeLeg}
use Rattle.rail_consequence.specs.Stops.{IsTakenByOther, IsSettled}
use Rattle.rail_consequence.specs.declared.notes.Stop.{Stop}
use Rattle.rail_consequence.specs.Workspace.{Work, GoesOn, IsBack, IsListing}
use Rattle.rail_consequence.proofs.Noting.{noted_anew}
use Rattle.rail_consequence.proofs.Freeing.{leg_finds_none}
use Rattle.rail_consequence.proofs.Legs.{goes_parts, inside_listed, inside_parts}
use Rattle.rail_consequence.proofs.Listing.{listed_at, listed_on}
use Rattle.rail_consequence.proofs.Played.{back_by, goes_further, goes_played}
use Rattle.rail_consequence.proofs.Safe.{found_front, found_past_leg}
use Rattle.rail_consequence.proofs.Stopping.{leg_short, open_leads, open_more}
use Rattle.rail_consequence.proofs.Walks.{back_twice, cost_most, false_both, finds_at, found_by_free, found_nobody, goes_back, goes_searched, tried_more}
use Rattle.rail_consequence.proofs.Without.{IsOut, out_back, out_entered, out_few, out_free}
use Rattle.rail_consequence.proofs.analyst.Worksheet.+search.Goals as goal
use Rattle.rail_consequence.proofs.analyst.Worksheet.+search.Goals.{try_free_legs-then-depth-eq0+then-are_several_inside, try_free_legs-else-depth-eq0}

pub search-returns-then-search_on-clause-found : goal.search-returns-then-search_on-clause-found
search-returns-then-search_on-clause-found g t c =
    let plan : Moves = moves_in c.args.moves.now in
    let b = c.close.new.self in
    let found = c.search_on.ensures.found c.if-search_on.true in
    λ _. (
      goes_further plan c.args.self.now b c.search_on.new.self c.close.ensures.moves found.0,
      found.1,
      (c.close.ensures.same c.args.depth).1 found.2,
    )

pub search-returns-clause-none : goal.search-returns-clause-none
search-returns-clause-none g t c =
    let plan : Moves = moves_in c.args.moves.now in
    let a = c.args.self.now in
    let b = c.close.new.self in
    let e = c.search_on.new.self in
    let mark : c.len-mark.result ≡ length a.list = omega (arith, c.len-mark.ensures, c.self.inside.list.ok, ap (λ (w : Work). length w.list) c.self.view_is) in
    let none = c.search_on.ensures.none c.if-search_on.false in
    let goes = goes_further plan a b e c.close.ensures.moves (goes_back plan b e none.0) in
    λ _. (
      back_by plan a e c.go_back.new.self c.len-mark.result goes mark c.go_back.ensures.list c.go_back.ensures.positions,
      λ found. none.1 ((c.close.ensures.same c.args.depth).0 found),
    )

pub search_on-returns-then-is_done-clause-found : goal.search_on-returns-then-is_done-clause-found
search_on-returns-then-is_done-clause-found g t c =
    let plan : Moves = moves_in c.args.moves.now in
    let a = c.args.self.now in
    let nobody = c.is_done.ensures.0 c.if-is_done.true in
    λ _. (goes_back plan a a (record { list = refl; positions = refl }), nobody, found_nobody plan c.args.depth a.places.positions nobody)

pub search_on-returns-then-depth-eq0-clause-none : goal.search_on-returns-then-depth-eq0-clause-none
search_on-returns-then-depth-eq0-clause-none g t c =
    let plan : Moves = moves_in c.args.moves.now in
    let s = c.args.self.now.places.positions in
    let inside : nobody_inside plan s ≡ false = false_both c.is_done.result (nobody_inside plan s) c.is_done.ensures c.if-is_done.false in
    λ _. (
      record { list = refl; positions = refl },
      λ found.
          let first = found_by_free plan c.args.depth s inside c.requires.none found in
          absurd (omega (arith, first.2, c.if-depth-eq0.true)),
    )

pub search_on-returns-clause-found : goal.search_on-returns-clause-found
search_on-returns-clause-found g t c =
    let plan : Moves = moves_in c.args.moves.now in
    let s = c.args.self.now.places.positions in
    let more : c.args.depth - 1 + 1 ≡ c.args.depth = omega (arith, c.if-depth-eq0.false) in
    let P : ℕ → Type 0 = λ k. Finds plan k s in
    λ yes.
    let found = c.try_free_legs.ensures.found yes in
    (found.0, found.1, subst P more found.2)

pub search_on-returns-clause-none : goal.search_on-returns-clause-none
search_on-returns-clause-none g t c =
    let plan : Moves = moves_in c.args.moves.now in
    let s = c.args.self.now.places.positions in
    let inside : nobody_inside plan s ≡ false = false_both c.is_done.result (nobody_inside plan s) c.is_done.ensures c.if-is_done.false in
    λ no.
    let none = c.try_free_legs.ensures.none no in (
      none.0,
      λ found.
          let first = found_by_free plan c.args.depth s inside c.requires.none found in
          none.1 first.0 first.1 first.3,
    )

pub try_free_legs-loop-train-init : goal.try_free_legs-loop-train-init
try_free_legs-loop-train-init g t c =
    let plan : Moves = moves_in c.args.moves.now in
    let s = c.args.self.now.places.positions in
    let Parts : TrainSet → Type 0 = λ left. ((t : ℕ) → has_train left t ≡ true → t < length c.args.moves.now)
    × ((u p : ℕ) → has_train left u ≡ false → is_leg plan s (record { train = u; place = p }) ≡ true → Finds plan c.args.depth (set s u p) → ⊥) in
    let parts : Parts c.if-depth-eq0.openers = elim c.if-depth-eq0.branch [
      | try_free_legs-then-depth-eq0+then-are_several_inside w ↦
          let D : ℕ → Type 0 = λ k. (u p : ℕ) → has_train w.find_openers-openers.result u ≡ false → is_leg plan s (record { train = u; place = p }) ≡ true → Finds plan k (set s u p) → ⊥ in
          subst Parts (sym w.openers-is) (w.find_openers-openers.ensures.known, subst D (sym w.if-depth-eq0.true) (λ u p off is found. w.find_openers-openers.ensures.others u off p is found))
      | try_free_legs-else-depth-eq0 w ↦
          subst Parts (sym w.openers-is) (
            λ t on. c.requires.listed.trains t (sym (w.all_of-openers.ensures t) ∙ on),
            λ u p off is _. absurd (false≢true (sym off ∙ w.all_of-openers.ensures u ∙ c.requires.listed.all u (goes_parts plan s (record { train = u; place = p }) is).inside)),
          )
    ] in
    record {
      ready = c.requires.ready;
      back = record { list = refl; positions = refl };
      known = parts.0;
      none = parts.1;
    }

pub try_free_legs-loop-train-preserved : goal.try_free_legs-loop-train-preserved
try_free_legs-loop-train-preserved g t c =
    let plan : Moves = moves_in c.args.moves.now in
    let a = c.args.self.now in
    let b = c.loop-train.self in
    let n = c.in-Some.train in
    let inv = c.loop-train.invariant in
    let taken = c.in-Some.ensures.left in
    let none = c.try_legs_of.ensures.none c.if-try_legs_of.false in
    record {
      ready = c.try_legs_of.ensures.ready;
      back = back_twice a b c.try_legs_of.new.self inv.back none.0;
      known = λ t on. inv.known t (and_parts (not (eqb t n)) (has_train c.loop-train.openers t) (sym (taken t) ∙ on)).1;
      none = tried_more plan c.args.depth a.places.positions b.places.positions n c.loop-train.openers c.take_first.new.self inv.back.positions taken inv.none none.1;
    }

pub try_free_legs-returns-clause-none : goal.try_free_legs-returns-clause-none
try_free_legs-returns-clause-none g t c =
    λ _. (
      c.loop-train.invariant.back,
      λ leg is found. c.loop-train.invariant.none leg.train leg.place (c.in_default.ensures.none refl leg.train) is found,
    )

pub search-search_on-requires : goal.search-search_on-requires
search-search_on-requires g t c _ within =
    let plan : Moves = moves_in c.args.moves.now in
    let b = c.close.new.self in (
      omega arith,
      (
        within,
        (
          c.requires.words,
          (
            c.close.ensures.ready,
            (
              listed_on plan c.args.self.now b c.args.inside.now c.close.ensures.moves c.requires.listed,
              (c.close.ensures.none, c.close.ensures.settled),
            ),
          ),
        ),
      ),
    )

-- what a call needs to know at places that are as before
module _ (table : List MoveLists) (depth : ℕ) (inside : List ℕ) (a b : Work) (back : IsBack a b) where
  abbrev plan : Moves
  plan = moves_in table

  pub none_still : HasNoSafeLeg plan a.places.positions → HasNoSafeLeg plan b.places.positions
  none_still none = let P : List ℕ → Type 0 = λ q. HasNoSafeLeg plan q in subst P (sym back.positions) none

  pub settled_back : (stops : List Stop) → IsSettled plan a.places.positions stops → IsSettled plan b.places.positions stops
  settled_back stops settled = let P : List ℕ → Type 0 = λ q. IsSettled plan q stops in subst P (sym back.positions) settled

  pub listed_still : IsListing plan a.places.positions inside → IsListing plan b.places.positions inside
  listed_still listed = listed_at plan a.places.positions b.places.positions inside (sym back.positions) listed

pub try_free_legs-try_legs_of-requires : goal.try_free_legs-try_legs_of-requires
try_free_legs-try_legs_of-requires g t c _ within =
    let table = c.args.moves.now in
    let a = c.args.self.now in
    let b = c.loop-train.self in
    let inv = c.loop-train.invariant in (
      omega arith,
      (
        within,
        (
          c.requires.words,
          (
            inv.ready,
            (
              listed_still table c.args.depth c.args.inside.now a b inv.back c.requires.listed,
              (
                inv.known c.in-Some.train c.in-Some.ensures.was,
                (
                  c.requires.room,
                  (
                    none_still table c.args.depth c.args.inside.now a b inv.back c.requires.none,
                    settled_back table c.args.depth c.args.inside.now a b inv.back c.args.notes.now.stops c.requires.settled,
                  ),
                ),
              ),
            ),
          ),
        ),
      ),
    )

pub is_found_without-go_back-requires-clause-played : goal.is_found_without-go_back-requires-clause-played
is_found_without-go_back-requires-clause-played g t c =
    let table = c.args.moves.now in
    let plan : Moves = moves_in table in
    let a = c.args.self.now in
    let b = c.take_out.new.self in
    let d = c.search-found.new.self in
    let mark : c.len-mark.result ≡ length b.list = omega (arith, c.len-mark.ensures, c.self.inside.list.ok, ap (λ (w : Work). length w.list) c.self.view_is, ap length c.take_out.ensures.list) in
    let goes : GoesOn plan b d = goes_searched plan c.args.depth b d c.search-found.result c.search-found.ensures.found c.search-found.ensures.none in
    goes_played table b d c.len-mark.result c.take_out.ensures.ready goes mark

pub is_found_without-put-requires-clause-entered : goal.is_found_without-put-requires-clause-entered
is_found_without-put-requires-clause-entered g t c =
    let table = c.args.moves.now in
    let plan : Moves = moves_in table in
    let a = c.args.self.now in
    let b = c.take_out.new.self in
    let d = c.search-found.new.self in
    let mark : c.len-mark.result ≡ length b.list = omega (arith, c.len-mark.ensures, c.self.inside.list.ok, ap (λ (w : Work). length w.list) c.self.view_is, ap length c.take_out.ensures.list) in
    let goes : GoesOn plan b d = goes_searched plan c.args.depth b d c.search-found.result c.search-found.ensures.found c.search-found.ensures.none in
    let e = c.go_back.new.self in
    let back : IsBack b e = back_by plan b d e c.len-mark.result goes mark c.go_back.ensures.list c.go_back.ensures.positions in
    let out : IsOut plan c.args.train a e = record { list = back.list ∙ c.take_out.ensures.list; positions = back.positions ∙ c.take_out.ensures.positions } in
    let at : c.position-place.result ≡ place_of a.places.positions c.args.train = c.position-place.ensures ∙ ap (λ (w : Work). place_of w.places.positions c.args.train) c.self.view_is in
    out_entered table c.args.train c.position-place.result a e c.requires.ready c.requires.inside at out

pub is_found_without-put-requires-clause-free : goal.is_found_without-put-requires-clause-free
is_found_without-put-requires-clause-free g t c =
    let table = c.args.moves.now in
    let plan : Moves = moves_in table in
    let a = c.args.self.now in
    let b = c.take_out.new.self in
    let d = c.search-found.new.self in
    let mark : c.len-mark.result ≡ length b.list = omega (arith, c.len-mark.ensures, c.self.inside.list.ok, ap (λ (w : Work). length w.list) c.self.view_is, ap length c.take_out.ensures.list) in
    let goes : GoesOn plan b d = goes_searched plan c.args.depth b d c.search-found.result c.search-found.ensures.found c.search-found.ensures.none in
    let e = c.go_back.new.self in
    let back : IsBack b e = back_by plan b d e c.len-mark.result goes mark c.go_back.ensures.list c.go_back.ensures.positions in
    let out : IsOut plan c.args.train a e = record { list = back.list ∙ c.take_out.ensures.list; positions = back.positions ∙ c.take_out.ensures.positions } in
    let at : c.position-place.result ≡ place_of a.places.positions c.args.train = c.position-place.ensures ∙ ap (λ (w : Work). place_of w.places.positions c.args.train) c.self.view_is in
    out_free table c.args.train c.position-place.result a e c.requires.ready c.requires.inside at out

pub is_found_without-put-requires-clause-few : goal.is_found_without-put-requires-clause-few
is_found_without-put-requires-clause-few g t c =
    let table = c.args.moves.now in
    let plan : Moves = moves_in table in
    let a = c.args.self.now in
    let b = c.take_out.new.self in
    let d = c.search-found.new.self in
    let mark : c.len-mark.result ≡ length b.list = omega (arith, c.len-mark.ensures, c.self.inside.list.ok, ap (λ (w : Work). length w.list) c.self.view_is, ap length c.take_out.ensures.list) in
    let goes : GoesOn plan b d = goes_searched plan c.args.depth b d c.search-found.result c.search-found.ensures.found c.search-found.ensures.none in
    let e = c.go_back.new.self in
    let back : IsBack b e = back_by plan b d e c.len-mark.result goes mark c.go_back.ensures.list c.go_back.ensures.positions in
    let out : IsOut plan c.args.train a e = record { list = back.list ∙ c.take_out.ensures.list; positions = back.positions ∙ c.take_out.ensures.positions } in
    let at : c.position-place.result ≡ place_of a.places.positions c.args.train = c.position-place.ensures ∙ ap (λ (w : Work). place_of w.places.positions c.args.train) c.self.view_is in
    out_few table c.args.train c.position-place.result a e c.requires.ready c.requires.inside at out

pub is_found_without-returns-clause-back : goal.is_found_without-returns-clause-back
is_found_without-returns-clause-back g t c =
    let table = c.args.moves.now in
    let plan : Moves = moves_in table in
    let a = c.args.self.now in
    let b = c.take_out.new.self in
    let d = c.search-found.new.self in
    let mark : c.len-mark.result ≡ length b.list = omega (arith, c.len-mark.ensures, c.self.inside.list.ok, ap (λ (w : Work). length w.list) c.self.view_is, ap length c.take_out.ensures.list) in
    let goes : GoesOn plan b d = goes_searched plan c.args.depth b d c.search-found.result c.search-found.ensures.found c.search-found.ensures.none in
    let e = c.go_back.new.self in
    let back : IsBack b e = back_by plan b d e c.len-mark.result goes mark c.go_back.ensures.list c.go_back.ensures.positions in
    let out : IsOut plan c.args.train a e = record { list = back.list ∙ c.take_out.ensures.list; positions = back.positions ∙ c.take_out.ensures.positions } in
    let at : c.position-place.result ≡ place_of a.places.positions c.args.train = c.position-place.ensures ∙ ap (λ (w : Work). place_of w.places.positions c.args.train) c.self.view_is in
    record {
      list = c.put.ensures.list ∙ out.list;
      positions = c.put.ensures.positions ∙ out_back table c.args.train c.position-place.result a e c.requires.ready c.requires.inside at out;
    }

-- what an option tells that is one, and one that is not
shown : (A : Type 0) (B : ℕ → Type 0) (o : Option ℕ) → is_some o ≡ true → MatchOption o A B → (x : ℕ) × B x
shown A B None is told = absurd (false≢true is)
shown A B (Some x) is told = (x, told)

unshown : (A : Type 0) (B : ℕ → Type 0) (o : Option ℕ) → is_some o ≡ false → MatchOption o A B → A
unshown A B None is told = told
unshown A B (Some x) is told = absurd (false≢true (sym is))

pub is_hopeless-returns-then-not-can_go_on-clause-none : goal.is_hopeless-returns-then-not-can_go_on-clause-none
is_hopeless-returns-then-not-can_go_on-clause-none g t c = λ _ p is found. false≢true (sym (c.can_go_on.ensures.none c.if-not-can_go_on.true p) ∙ is)

pub is_hopeless-returns-clause-none : goal.is_hopeless-returns-clause-none
is_hopeless-returns-clause-none g t c =
    let plan : Moves = moves_in c.args.moves.now in
    λ yes p is found.
    c.is_found_without.ensures.none (not-true c.is_found_without.result yes) (found_past_leg plan c.args.depth c.args.self.now.places.positions c.args.train p is found)

pub try_leg-returns-then-frees_nobody-clause-none : goal.try_leg-returns-then-frees_nobody-clause-none
try_leg-returns-then-frees_nobody-clause-none g t c =
    let plan : Moves = moves_in c.args.moves.now in
    let s = c.args.self.now.places.positions in
    let P : ℕ → Type 0 = λ k. Finds plan k (set s c.args.train c.args.place) in
    λ _. (record { list = refl; positions = refl }, λ found. leg_finds_none plan s c.args.train c.args.place (c.frees_nobody.ensures c.if-frees_nobody.true) c.requires.none c.requires.leg (subst P c.if-depth-eq0.true found))

pub search_behind-returns-then-search-clause-found : goal.search_behind-returns-then-search-clause-found
search_behind-returns-then-search-clause-found g t c =
    let plan : Moves = moves_in c.args.moves.now in
    let a = c.args.self.now in
    let n = c.go_to.new.self in
    let leg : Leg = record { train = c.args.train; place = c.args.place } in
    let found = c.search.ensures.found c.if-search.true in
    λ _. (
      goes_further plan a n c.search.new.self c.go_to.ensures.moves found.0,
      found.1,
      found_front plan (c.args.depth + 1) c.args.depth a.places.positions leg c.requires.leg (omega (arith, cost_most plan a.places.positions leg)) (finds_at plan c.args.depth n.places.positions (after_leg a.places.positions leg) c.go_to.ensures.positions found.2),
    )

pub search_behind-go_back-requires-clause-played : goal.search_behind-go_back-requires-clause-played
search_behind-go_back-requires-clause-played g t c =
    let table = c.args.moves.now in
    let plan : Moves = moves_in table in
    let a = c.args.self.now in
    let n = c.go_to.new.self in
    let d = c.search.new.self in
    let mark : c.len-mark.result ≡ length a.list = omega (arith, c.len-mark.ensures, c.self.inside.list.ok, ap (λ (w : Work). length w.list) c.self.view_is) in
    goes_played table a d c.len-mark.result c.requires.ready (goes_further plan a n d c.go_to.ensures.moves (goes_back plan n d (c.search.ensures.none c.if-search.false).0)) mark

pub search_behind-returns-clause-none : goal.search_behind-returns-clause-none
search_behind-returns-clause-none g t c =
    let plan : Moves = moves_in c.args.moves.now in
    let a = c.args.self.now in
    let n = c.go_to.new.self in
    let d = c.search.new.self in
    let none = c.search.ensures.none c.if-search.false in
    λ _. (
      back_by plan a d c.go_back.new.self c.len-mark.result (goes_further plan a n d c.go_to.ensures.moves (goes_back plan n d none.0)) (omega (arith, c.len-mark.ensures, c.self.inside.list.ok, ap (λ (w : Work). length w.list) c.self.view_is)) c.go_back.ensures.list c.go_back.ensures.positions,
      λ found. none.1 (finds_at plan c.args.depth (set a.places.positions c.args.train c.args.place) n.places.positions (sym c.go_to.ensures.positions) found),
    )

pub try_legs_of-returns-then-is_some-clause-none : goal.try_legs_of-returns-then-is_some-clause-none
try_legs_of-returns-then-is_some-clause-none g t c =
    let plan : Moves = moves_in c.args.moves.now in
    let s = c.args.self.now.places.positions in
    let u = c.args.train in
    let b = c.loop-made.self in
    let inv = c.loop-made.invariant in
    let at : c.position-from.result ≡ place_of s u = c.position-from.ensures ∙ ap (λ (w : Work). place_of w.places.positions u) c.self.view_is ∙ ap (λ q. place_of q u) c.is_hopeless.ensures.back.positions in
    let stop = shown _ _ c.stop_of.result (sym c.is_some.ensures ∙ c.if-is_some.true) c.stop_of.ensures in
    let H : List ℕ → Type 0 = λ q. IsTakenByOther plan q u stop.0 in
    λ _. (
      inv.back,
      λ p is found.
          let goes = goes_parts plan s (record { train = u; place = p }) is in
          inv.tried p goes.ahead (leg_short plan s u stop.0 c.loop-made.made p (omega (arith, at, c.loop-made.auto.made)) stop.1.0 (subst H inv.back.positions stop.1.1) is) found,
    )

pub try_legs_of-try_leg-requires : goal.try_legs_of-try_leg-requires
try_legs_of-try_leg-requires g t c _ within =
    let table = c.args.moves.now in
    let plan : Moves = moves_in table in
    let a = c.args.self.now in
    let b = c.loop-made.self in
    let u = c.args.train in
    let inv = c.loop-made.invariant in
    let inside = c.is_hopeless.ensures.inside c.if-is_hopeless.false in
    let parts = inside_parts plan a.places.positions u inside in
    let at : c.position-from.result ≡ place_of a.places.positions u = c.position-from.ensures ∙ ap (λ (w : Work). place_of w.places.positions u) c.self.view_is ∙ ap (λ q. place_of q u) c.is_hopeless.ensures.back.positions in
    let F : List ℕ → Type 0 = λ q. (x : ℕ) → is_in x (plan.claim u c.loop-made.made) ≡ true → IsTakenByOther plan q u x → ⊥ in
    let free : F a.places.positions = subst F inv.back.positions (unshown _ _ c.stop_of.result (sym c.is_some.ensures ∙ c.if-is_some.false) c.stop_of.ensures) in
    let L : List ℕ → Type 0 = λ q. is_leg plan q (record { train = u; place = c.loop-made.made + 1 }) ≡ true in
    let leg = open_leads plan a.places.positions u c.loop-made.made c.requires.ready.made.moves.valid c.requires.train (inside_listed plan a.places.positions u inside) parts.0 (omega (arith, at, c.loop-made.auto.made)) (omega (arith, c.loop-made-test.true, c.places-last.ensures)) (open_more plan a.places.positions u c.loop-made.made inv.free free) in (
      omega arith,
      (
        within,
        (
          c.requires.words,
          (
            inv.ready,
            (
              listed_still table c.args.depth c.args.inside.now a b inv.back c.requires.listed,
              (
                c.requires.train,
                (
                  c.requires.room,
                  (
                    none_still table c.args.depth c.args.inside.now a b inv.back c.requires.none,
                    (settled_back table c.args.depth c.args.inside.now a b inv.back c.args.notes.now.stops c.requires.settled, subst L (sym inv.back.positions) leg),
                  ),
                ),
              ),
            ),
          ),
        ),
      ),
    )

pub try_legs_of-loop-made-preserved : goal.try_legs_of-loop-made-preserved
try_legs_of-loop-made-preserved g t c =
    let plan : Moves = moves_in c.args.moves.now in
    let s = c.args.self.now.places.positions in
    let u = c.args.train in
    let inv = c.loop-made.invariant in
    let none = c.try_leg.ensures.none c.if-try_leg.false in
    let F : List ℕ → Type 0 = λ q. (x : ℕ) → is_in x (plan.claim u c.loop-made.made) ≡ true → IsTakenByOther plan q u x → ⊥ in
    let free : F s = subst F inv.back.positions (unshown _ _ c.stop_of.result (sym c.is_some.ensures ∙ c.if-is_some.false) c.stop_of.ensures) in
    record {
      ready = c.try_leg.ensures.ready;
      back = back_twice c.args.self.now c.loop-made.self c.try_leg.new.self inv.back none.0;
      free = open_more plan s u c.loop-made.made inv.free free;
      tried = λ p low high found.
          ⊎_elim
          (λ earlier. inv.tried p low (omega (arith, earlier)) found)
          (λ here.
          let last : p ≡ c.loop-made.made + 1 = omega arith in
          none.1 (finds_at plan c.args.depth (set s u p) (set c.loop-made.self.places.positions u (c.loop-made.made + 1)) (ap (set s u) last ∙ ap (λ q. set q u (c.loop-made.made + 1)) (sym inv.back.positions)) found))
          (cases_lt p (c.loop-made.made + 1));
    }

pub try_legs_of-returns-clause-none : goal.try_legs_of-returns-clause-none
try_legs_of-returns-clause-none g t c =
    let plan : Moves = moves_in c.args.moves.now in
    let s = c.args.self.now.places.positions in
    λ _. (
      c.loop-made.invariant.back,
      λ p is found. let goes = goes_parts plan s (record { train = c.args.train; place = p }) is in c.loop-made.invariant.tried p goes.ahead (omega (arith, goes.within, c.places-last.ensures, c.loop-made-test.false)) found,
    )

pub is_found_without-note_leg-requires-clause-noted : goal.is_found_without-note_leg-requires-clause-noted
is_found_without-note_leg-requires-clause-noted g t c =
    let plan : Moves = moves_in c.args.moves.now in
    noted_anew plan c.args.self.now.places.positions c.args.notes.now.stops c.forget_falls.new.self c.requires.ready.made.valid c.requires.settled c.forget_falls.ensures.stops c.forget_falls.ensures.fell

pub search_behind-note_leg-requires-clause-noted : goal.search_behind-note_leg-requires-clause-noted
search_behind-note_leg-requires-clause-noted g t c =
    let plan : Moves = moves_in c.args.moves.now in
    noted_anew plan c.args.self.now.places.positions c.args.notes.now.stops c.forget_falls.new.self c.requires.ready.made.valid c.requires.settled c.forget_falls.ensures.stops c.forget_falls.ensures.fell
