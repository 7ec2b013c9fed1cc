use Rattle.std.proofs.Common.{rules, ◌≡◌, ◌≢◌, ℕ, ◌+◌, ◌-◌, ◌<◌, ◌≤◌, true, false, not, List, ◌++◌, length, replicate, get_or, drop, set, refl, sym, ap, ◌∙◌, subst, ⊎_elim, arith}
use Rattle.std.proofs.lemmas.Bool.{cases_Bool, false≢true, not-false}
use Rattle.std.proofs.lemmas.Grind.{common_steps}
use Rattle.std.proofs.lemmas.List.{get_or-replicate, length-append, length-drop, length-replicate, length-set}
use Rattle.rail_base.specs.declared.limits.TheConstants.{TRAINS}
use Rattle.rail_rules.specs.Moves.{Moves}
use Rattle.rail_rules.specs.Places.{completes, place_of}
use Rattle.rail_rules.specs.Numbers.{any_below, are_apart}
use Rattle.rail_rules.proofs.CallerLemmas.{any_below_at, any_below_none}
use Rattle.rail_place.specs.Tables.{moves_in}
use Rattle.rail_consequence.specs.Needs.{times}
use Rattle.rail_list.specs.KeptLists.{before_first, is_free_before}
use Rattle.rail_list.specs.declared.entries.Seen.{Seen}
use Rattle.rail_list.specs.declared.kept_list.Run.{Run}
use Rattle.rail_list.specs.declared.entries.Seen.TheVariants.{Idle, Passed}
use Rattle.rail_list.proofs.MovesLeft.{entries_fit, times_drop}
use Rattle.rail_list.proofs.Turns.{AreTold, IsClearOf, IsClearRun, IsPassed, before_run, clear_from, clear_later, clear_passed, clear_run, free_run, reached, times_run, told_later, told_still}
use Rattle.rail_list.proofs.entries.free_entries_before.Goals as goal

-- a run of the list that begins with an entry
record IsRun (list : List ℕ) (i r u : ℕ) : Type 0 where
  split : drop i list ≡ replicate r u ++ drop (i + r) list
  within : i + r ≤ length list

run_here : (list now : List ℕ) (i n r u : ℕ) → now ≡ list → i < length list → r ≡ n → drop i now ≡ replicate n u ++ drop (i + n) now → IsRun list i r u
run_here list now i n r u same lt many is =
    let P : ℕ → Type 0 = λ k. drop i list ≡ replicate k u ++ drop (i + k) list in
    let split : drop i list ≡ replicate r u ++ drop (i + r) list =
    subst P (sym many) (ap (drop i) (sym same) ∙ is ∙ ap (λ xs. replicate n u ++ drop (i + n) xs) same) in
    record {
      split = split;
      within = omega (arith, lt, ap length split, length-drop i list, length-append (replicate r u) (drop (i + r) list), length-replicate r u);
    }

-- what was passed of a run's train, and the moves that the train has left
record IsHere (plan : Moves) (list : List ℕ) (i r u n place : ℕ) : Type 0 where
  passed : n + r + times u (drop (i + r) list) ≡ times u list
  left : place + n + (r + times u (drop (i + r) list)) ≡ plan.moves u
  listed : times u (drop i list) ≡ r + times u (drop (i + r) list)

here : (plan : Moves) (s list sections : List ℕ) (i r u number n place : ℕ) (ws : List Seen) → completes plan s list ≡ true → IsRun list i r u → 1 ≤ r
    → number ≡ u → number < TRAINS → length ws ≡ TRAINS → AreTold plan sections list (drop i list) ws → get_or ws number (Passed 0) ≡ Passed n → place ≡ place_of s u
    → IsHere plan list i r u n place
here plan s list sections i r u number n place ws done run some named below long told is at =
    let P : Seen → Type 0 = λ w. IsPassed plan sections list (drop i list) u w in
    let passed : n + times u (drop i list) ≡ times u list = subst P (ap (λ k. get_or ws k (Passed 0)) (sym named) ∙ is) (told u (omega (arith, below, named, long))) in
    let listed : times u (drop i list) ≡ r + times u (drop (i + r) list) = ap (times u) run.split ∙ times_run r u (drop (i + r) list) in
    record {
      passed = omega (arith, passed, listed);
      left = omega (arith, at, reached plan s list (drop i list) (drop (i + r) list) r u n done run.split some passed);
      listed = listed;
    }

-- the moves of a run need none of the sections where none of so many from a move on does
unbarred : (plan : Moves) (sections rest : List ℕ) (r u k count : ℕ) → k + (r + times u rest) ≡ plan.moves u → r ≡ count
    → any_below (λ m. not (are_apart sections (plan.claim u (k + m)))) count ≡ false → IsClearRun plan sections r u rest
unbarred plan sections rest r u k count left many none = λ m from below.
    let step : m ≡ k + (m - k) = omega (arith, from, left) in
    ap (λ j. are_apart sections (plan.claim u j)) step
    ∙ not-false (are_apart sections (plan.claim u (k + (m - k))))
    (any_below_at (λ j. not (are_apart sections (plan.claim u (k + j)))) count (m - k) none (omega (arith, from, below, left, many)))

-- and where one of so many does, the list isn't free
barred : (plan : Moves) (sections rest : List ℕ) (r t u k count : ℕ) → u ≢ t → k + (r + times u rest) ≡ plan.moves u → r ≡ count
    → any_below (λ m. not (are_apart sections (plan.claim u (k + m)))) count ≡ true → is_free_before plan t sections (replicate r u ++ rest) ≡ false
barred plan sections rest r t u k count other left many some =
    ⊎_elim
    (λ free.
    let clear = clear_run plan r t u sections rest other (omega (arith, left)) free in
    absurd (false≢true
    (sym (any_below_none (λ m. not (are_apart sections (plan.claim u (k + m)))) count (λ m below. ap not (clear (k + m) (omega (arith, left)) (omega (arith, left, below, many)))))
    ∙ some)))
    (λ no. no)
    (cases_Bool (is_free_before plan t sections (replicate r u ++ rest)))

pub loop-index-init : goal.loop-index-init
loop-index-init c =
    let plan : Moves = moves_in c.args.moves.now in
    let list = c.args.kept.now.trains in
    record {
      same = refl;
      room = refl;
      within = omega arith;
      looked = omega arith;
      first = omega arith;
      exact = refl;
      long = search rules;
      told = λ u below. subst (λ w. IsPassed plan c.args.sections.now list list u w) (sym (get_or-replicate TRAINS u (Passed 0) (Passed 0) below)) (omega arith);
    }

pub overflow_add-index : goal.overflow_add-index
overflow_add-index c =
    let plan : Moves = moves_in c.args.moves.now in
    let s = c.args.places.now.positions in
    let list = c.args.kept.now.trains in
    let sections = c.args.sections.now in
    let i = c.loop-index.index in
    let r = c.from-index.result in
    let u = c.look-run.result.train in
    let t = c.args.train in
    let rest : List ℕ = drop (i + r) list in
    let many : r ≡ c.look-run.result.count = c.from-index.ensures ∙ ap (λ (w : Run). w.count) c.run.view_is in
    let lt : i < length list = omega (arith, c.loop-index-test.true, c.len-count.ensures) in
    let run = run_here list c.loop-index.kept.trains i c.look-run.result.count r u c.loop-index.invariant.same lt many c.look-run.ensures.run in
    let some : 1 ≤ r = omega (arith, c.look-run.ensures.some, many) in
    omega (arith, run.within, c.len-count.ensures, c.len-count.type_inv)

pub loop-index-preserved-in_default : goal.loop-index-preserved-in_default
loop-index-preserved-in_default c =
    let plan : Moves = moves_in c.args.moves.now in
    let s = c.args.places.now.positions in
    let list = c.args.kept.now.trains in
    let sections = c.args.sections.now in
    let i = c.loop-index.index in
    let r = c.from-index.result in
    let u = c.look-run.result.train in
    let t = c.args.train in
    let rest : List ℕ = drop (i + r) list in
    let many : r ≡ c.look-run.result.count = c.from-index.ensures ∙ ap (λ (w : Run). w.count) c.run.view_is in
    let lt : i < length list = omega (arith, c.loop-index-test.true, c.len-count.ensures) in
    let run = run_here list c.loop-index.kept.trains i c.look-run.result.count r u c.loop-index.invariant.same lt many c.look-run.ensures.run in
    let some : 1 ≤ r = omega (arith, c.look-run.ensures.some, many) in
    let number : c.from-number.result ≡ u = search rules in
    let below : c.from-number.result < TRAINS = search rules in
    let other : u ≢ t = λ e. grind (arith, common_steps) in
    let ws = c.loop-index.passed in
    let none : get_or ws u (Passed 0) ≡ Idle = ap (λ k. get_or ws k (Passed 0)) (sym number) ∙ c.in_default.is in
    let P : Seen → Type 0 = λ w. IsPassed plan sections list (drop i list) u w in
    let clear : IsClearOf plan sections (drop i list) u = subst P none (c.loop-index.invariant.told u (omega (arith, below, number, c.loop-index.invariant.long))) in
    let few : times u (drop i list) ≤ plan.moves u = omega (arith, times_drop i u list, entries_fit plan s list u c.requires.completes) in
    record {
      same = c.look-run.ensures.trains ∙ c.loop-index.invariant.same;
      room = c.look-run.ensures.room ∙ c.loop-index.invariant.room;
      within = run.within;
      looked = omega (arith, c.look-run.ensures.looked, c.loop-index.invariant.looked, some);
      first = omega (arith, c.loop-index.invariant.first, ap (λ xs. length (before_first t xs)) run.split, before_run r u t rest other);
      exact = sym (clear_passed plan sections (drop i list) rest r u t run.split other few clear) ∙ c.loop-index.invariant.exact;
      long = c.loop-index.invariant.long;
      told = told_still plan list sections (drop i list) rest r u ws run.split none c.loop-index.invariant.told;
    }

pub overflow_add-place : goal.overflow_add-place
overflow_add-place c =
    let plan : Moves = moves_in c.args.moves.now in
    let s = c.args.places.now.positions in
    let list = c.args.kept.now.trains in
    let sections = c.args.sections.now in
    let i = c.loop-index.index in
    let r = c.from-index.result in
    let u = c.look-run.result.train in
    let t = c.args.train in
    let rest : List ℕ = drop (i + r) list in
    let many : r ≡ c.look-run.result.count = c.from-index.ensures ∙ ap (λ (w : Run). w.count) c.run.view_is in
    let lt : i < length list = omega (arith, c.loop-index-test.true, c.len-count.ensures) in
    let run = run_here list c.loop-index.kept.trains i c.look-run.result.count r u c.loop-index.invariant.same lt many c.look-run.ensures.run in
    let some : 1 ≤ r = omega (arith, c.look-run.ensures.some, many) in
    let number : c.from-number.result ≡ u = search rules in
    let below : c.from-number.result < TRAINS = search rules in
    let at : c.position.result ≡ place_of s u = search rules in
    let now = here plan s list sections i r u c.from-number.result c.from-times.result c.position.result c.loop-index.passed
    c.requires.completes run some number below c.loop-index.invariant.long c.loop-index.invariant.told (c.in-Passed.is ∙ ap Passed (sym c.from-times.ensures)) at in
    omega (arith, now.left, c.requires.made.moves.short u)

pub loop-index-preserved-then-not-does_need_from : goal.loop-index-preserved-then-not-does_need_from
loop-index-preserved-then-not-does_need_from c =
    let plan : Moves = moves_in c.args.moves.now in
    let s = c.args.places.now.positions in
    let list = c.args.kept.now.trains in
    let sections = c.args.sections.now in
    let i = c.loop-index.index in
    let r = c.from-index.result in
    let u = c.look-run.result.train in
    let t = c.args.train in
    let rest : List ℕ = drop (i + r) list in
    let many : r ≡ c.look-run.result.count = c.from-index.ensures ∙ ap (λ (w : Run). w.count) c.run.view_is in
    let lt : i < length list = omega (arith, c.loop-index-test.true, c.len-count.ensures) in
    let run = run_here list c.loop-index.kept.trains i c.look-run.result.count r u c.loop-index.invariant.same lt many c.look-run.ensures.run in
    let some : 1 ≤ r = omega (arith, c.look-run.ensures.some, many) in
    let number : c.from-number.result ≡ u = search rules in
    let below : c.from-number.result < TRAINS = search rules in
    let at : c.position.result ≡ place_of s u = search rules in
    let now = here plan s list sections i r u c.from-number.result c.from-times.result c.position.result c.loop-index.passed
    c.requires.completes run some number below c.loop-index.invariant.long c.loop-index.invariant.told (c.in-Passed.is ∙ ap Passed (sym c.from-times.ensures)) at in
    let other : u ≢ t = λ e. grind (arith, common_steps) in
    let P : ℕ → Type 0 = λ k. AreTold plan sections list rest (set c.loop-index.passed k Idle) in
    let clear : IsClearOf plan sections (drop i list) u = clear_from plan sections (drop i list) u (c.position.result + c.from-times.result)
    (omega (arith, now.left, now.listed))
    (sym c.does_need_from.ensures ∙ c.if-not-does_need_from.true) in
    record {
      same = c.look-run.ensures.trains ∙ c.loop-index.invariant.same;
      room = c.look-run.ensures.room ∙ c.loop-index.invariant.room;
      within = run.within;
      looked = omega (arith, c.look-run.ensures.looked, c.loop-index.invariant.looked, some);
      first = omega (arith, c.loop-index.invariant.first, ap (λ xs. length (before_first t xs)) run.split, before_run r u t rest other);
      exact = sym (clear_passed plan sections (drop i list) rest r u t run.split other (omega (arith, now.left, now.listed)) clear) ∙ c.loop-index.invariant.exact;
      long = length-set c.loop-index.passed c.from-number.result Idle ∙ c.loop-index.invariant.long;
      told = subst P (sym number) (told_later plan list sections (drop i list) rest r u c.loop-index.passed Idle run.split (omega (arith, below, number, c.loop-index.invariant.long)) c.loop-index.invariant.told
          (clear_later plan sections (drop i list) rest r u u run.split clear));
    }

pub does_need_one_of-requires-clause-last : goal.does_need_one_of-requires-clause-last
does_need_one_of-requires-clause-last c =
    let plan : Moves = moves_in c.args.moves.now in
    let s = c.args.places.now.positions in
    let list = c.args.kept.now.trains in
    let sections = c.args.sections.now in
    let i = c.loop-index.index in
    let r = c.from-index.result in
    let u = c.look-run.result.train in
    let t = c.args.train in
    let rest : List ℕ = drop (i + r) list in
    let many : r ≡ c.look-run.result.count = c.from-index.ensures ∙ ap (λ (w : Run). w.count) c.run.view_is in
    let lt : i < length list = omega (arith, c.loop-index-test.true, c.len-count.ensures) in
    let run = run_here list c.loop-index.kept.trains i c.look-run.result.count r u c.loop-index.invariant.same lt many c.look-run.ensures.run in
    let some : 1 ≤ r = omega (arith, c.look-run.ensures.some, many) in
    let number : c.from-number.result ≡ u = search rules in
    let below : c.from-number.result < TRAINS = search rules in
    let at : c.position.result ≡ place_of s u = search rules in
    let now = here plan s list sections i r u c.from-number.result c.from-times.result c.position.result c.loop-index.passed
    c.requires.completes run some number below c.loop-index.invariant.long c.loop-index.invariant.told (c.in-Passed.is ∙ ap Passed (sym c.from-times.ensures)) at in
    omega (arith, now.left, many)

pub returns-then-does_need_one_of-clause-exact : goal.returns-then-does_need_one_of-clause-exact
returns-then-does_need_one_of-clause-exact c =
    let plan : Moves = moves_in c.args.moves.now in
    let s = c.args.places.now.positions in
    let list = c.args.kept.now.trains in
    let sections = c.args.sections.now in
    let i = c.loop-index.index in
    let r = c.from-index.result in
    let u = c.look-run.result.train in
    let t = c.args.train in
    let rest : List ℕ = drop (i + r) list in
    let many : r ≡ c.look-run.result.count = c.from-index.ensures ∙ ap (λ (w : Run). w.count) c.run.view_is in
    let lt : i < length list = omega (arith, c.loop-index-test.true, c.len-count.ensures) in
    let run = run_here list c.loop-index.kept.trains i c.look-run.result.count r u c.loop-index.invariant.same lt many c.look-run.ensures.run in
    let some : 1 ≤ r = omega (arith, c.look-run.ensures.some, many) in
    let number : c.from-number.result ≡ u = search rules in
    let below : c.from-number.result < TRAINS = search rules in
    let at : c.position.result ≡ place_of s u = search rules in
    let now = here plan s list sections i r u c.from-number.result c.from-times.result c.position.result c.loop-index.passed
    c.requires.completes run some number below c.loop-index.invariant.long c.loop-index.invariant.told (c.in-Passed.is ∙ ap Passed (sym c.from-times.ensures)) at in
    let other : u ≢ t = λ e. grind (arith, common_steps) in
    let no = barred plan sections rest r t u (c.position.result + c.from-times.result) c.look-run.result.count other now.left many (sym c.does_need_one_of.ensures ∙ c.if-does_need_one_of.true) in
    sym no ∙ ap (is_free_before plan t sections) (sym run.split) ∙ c.loop-index.invariant.exact

pub overflow_add-passed : goal.overflow_add-passed
overflow_add-passed c =
    let plan : Moves = moves_in c.args.moves.now in
    let s = c.args.places.now.positions in
    let list = c.args.kept.now.trains in
    let sections = c.args.sections.now in
    let i = c.loop-index.index in
    let r = c.from-index.result in
    let u = c.look-run.result.train in
    let t = c.args.train in
    let rest : List ℕ = drop (i + r) list in
    let many : r ≡ c.look-run.result.count = c.from-index.ensures ∙ ap (λ (w : Run). w.count) c.run.view_is in
    let lt : i < length list = omega (arith, c.loop-index-test.true, c.len-count.ensures) in
    let run = run_here list c.loop-index.kept.trains i c.look-run.result.count r u c.loop-index.invariant.same lt many c.look-run.ensures.run in
    let some : 1 ≤ r = omega (arith, c.look-run.ensures.some, many) in
    let number : c.from-number.result ≡ u = search rules in
    let below : c.from-number.result < TRAINS = search rules in
    let at : c.position.result ≡ place_of s u = search rules in
    let now = here plan s list sections i r u c.from-number.result c.from-times.result c.position.result c.loop-index.passed
    c.requires.completes run some number below c.loop-index.invariant.long c.loop-index.invariant.told (c.in-Passed.is ∙ ap Passed (sym c.from-times.ensures)) at in
    omega (arith, now.left, many, c.requires.made.moves.short u)

pub overflow_cast-passed : goal.overflow_cast-passed
overflow_cast-passed c =
    let plan : Moves = moves_in c.args.moves.now in
    let s = c.args.places.now.positions in
    let list = c.args.kept.now.trains in
    let sections = c.args.sections.now in
    let i = c.loop-index.index in
    let r = c.from-index.result in
    let u = c.look-run.result.train in
    let t = c.args.train in
    let rest : List ℕ = drop (i + r) list in
    let many : r ≡ c.look-run.result.count = c.from-index.ensures ∙ ap (λ (w : Run). w.count) c.run.view_is in
    let lt : i < length list = omega (arith, c.loop-index-test.true, c.len-count.ensures) in
    let run = run_here list c.loop-index.kept.trains i c.look-run.result.count r u c.loop-index.invariant.same lt many c.look-run.ensures.run in
    let some : 1 ≤ r = omega (arith, c.look-run.ensures.some, many) in
    let number : c.from-number.result ≡ u = search rules in
    let below : c.from-number.result < TRAINS = search rules in
    let at : c.position.result ≡ place_of s u = search rules in
    let now = here plan s list sections i r u c.from-number.result c.from-times.result c.position.result c.loop-index.passed
    c.requires.completes run some number below c.loop-index.invariant.long c.loop-index.invariant.told (c.in-Passed.is ∙ ap Passed (sym c.from-times.ensures)) at in
    omega (arith, now.left, many, c.requires.made.moves.short u)

pub loop-index-preserved : goal.loop-index-preserved
loop-index-preserved c =
    let plan : Moves = moves_in c.args.moves.now in
    let s = c.args.places.now.positions in
    let list = c.args.kept.now.trains in
    let sections = c.args.sections.now in
    let i = c.loop-index.index in
    let r = c.from-index.result in
    let u = c.look-run.result.train in
    let t = c.args.train in
    let rest : List ℕ = drop (i + r) list in
    let many : r ≡ c.look-run.result.count = c.from-index.ensures ∙ ap (λ (w : Run). w.count) c.run.view_is in
    let lt : i < length list = omega (arith, c.loop-index-test.true, c.len-count.ensures) in
    let run = run_here list c.loop-index.kept.trains i c.look-run.result.count r u c.loop-index.invariant.same lt many c.look-run.ensures.run in
    let some : 1 ≤ r = omega (arith, c.look-run.ensures.some, many) in
    let number : c.from-number.result ≡ u = search rules in
    let below : c.from-number.result < TRAINS = search rules in
    let at : c.position.result ≡ place_of s u = search rules in
    let now = here plan s list sections i r u c.from-number.result c.from-times.result c.position.result c.loop-index.passed
    c.requires.completes run some number below c.loop-index.invariant.long c.loop-index.invariant.told (c.in-Passed.is ∙ ap Passed (sym c.from-times.ensures)) at in
    let other : u ≢ t = λ e. grind (arith, common_steps) in
    let clear = unbarred plan sections rest r u (c.position.result + c.from-times.result) c.look-run.result.count now.left many (sym c.does_need_one_of.ensures ∙ c.if-does_need_one_of.false) in
    let more : Seen = Passed (c.from-times.result + c.look-run.result.count) in
    let P : ℕ → Type 0 = λ k. AreTold plan sections list rest (set c.loop-index.passed k more) in
    let own : c.from-times.result + c.look-run.result.count + times u rest ≡ times u list = omega (arith, now.passed, many) in
    record {
      same = c.look-run.ensures.trains ∙ c.loop-index.invariant.same;
      room = c.look-run.ensures.room ∙ c.loop-index.invariant.room;
      within = run.within;
      looked = omega (arith, c.look-run.ensures.looked, c.loop-index.invariant.looked, some);
      first = omega (arith, c.loop-index.invariant.first, ap (λ xs. length (before_first t xs)) run.split, before_run r u t rest other);
      exact = sym (ap (is_free_before plan t sections) run.split ∙ free_run plan r t u sections rest other (omega (arith, now.left)) clear) ∙ c.loop-index.invariant.exact;
      long = length-set c.loop-index.passed c.from-number.result more ∙ c.loop-index.invariant.long;
      told = subst P (sym number) (told_later plan list sections (drop i list) rest r u c.loop-index.passed more run.split (omega (arith, below, number, c.loop-index.invariant.long)) c.loop-index.invariant.told own);
    }
