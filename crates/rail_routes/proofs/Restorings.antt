-- Items that were put in are found by name and taken out again, and items that were taken out stood at their place.
use Rattle.std.proofs.Common.{◌≡◌, ℕ, suc, ◌+◌, ◌≤◌, Bool, true, false, cond, not, ◌&&◌, ◌||◌, nat_lt, List, [], ◌∷◌, ◌++◌, length, count_by, position, Option, Some, None, is_some, IsSomeAnd, Result, Ok, Err, OnOk, IfOk, refl, sym, ap, subst, ◌∙◌, arith}
use Rattle.std.specs.List.{find, list_all, list_any, position_or_len}
use Rattle.std.specs.Option.{option_or}
use Rattle.std.proofs.lemmas.Bool.Decides.{nat_tests}
use Rattle.std.proofs.lemmas.List.Edits.{insert_end}
use Rattle.std.proofs.lemmas.List.Folds.{list_any-append}
use Rattle.rail_base.proofs.CallerLemmas.{all_passed}
use Rattle.rail_track.specs.Lists.{without, StoodAt}
use Rattle.rail_track.proofs.CallerLemmas.{count_by-insert, find-insert, without-insert, stood_at, find_passes, list_any-count_by, same_name-self, without-absent}
use Rattle.rail_routes.specs.declared.items.Post.{Post}
use Rattle.rail_routes.specs.declared.items.PostRole.{PostRole}
use Rattle.rail_routes.specs.declared.items.PostRole.TheVariants.{Portal, Signal, Board}
use Rattle.rail_routes.specs.declared.items.Route.{Route}
use Rattle.rail_routes.specs.declared.items.Turn.{Turn}
use Rattle.rail_routes.specs.Net.{Net, is_post, is_route, is_turn, post_named}
use Rattle.rail_routes.specs.PostChanges.{PostStoodAt, posts_of, post_position, with_post_as, with_post_at_as, without_post}
use Rattle.rail_routes.specs.PostRules.{is_formed, post_refusal, post_tests, stands_well}
use Rattle.rail_routes.specs.RouteRules.{route_refusal, route_tests}
use Rattle.rail_routes.specs.TurnRules.{turn_refusal, turn_tests}
use Rattle.rail_routes.specs.SoundNetworks.{IsSoundNetwork, is_sound_post, is_timed, same_role}
use Rattle.rail_routes.proofs.Lists.{any_from_found, both_false, both_true, find_true}
use Rattle.rail_routes.proofs.Removals.{post_of_lists}
use Rattle.rail_routes.proofs.SectionChanges.{same_from_role}
use Rattle.rail_routes.proofs.Uses.{list_any-find}

module _ {X : Type 0} (p : X → Bool) where
  nothing : (o : Option X) → is_some o ≡ false → o ≡ None
  nothing None e = refl
  nothing (Some x) e = cc

  found_none : (xs : List X) → list_any p xs ≡ false → find p xs ≡ None
  found_none xs none = nothing (find p xs) (sym (list_any-find p xs) ∙ none)

  whole_way : (xs : List X) → find p xs ≡ None → position_or_len p xs ≡ length xs
  whole_way [] none = refl
  whole_way (x ∷ xs) none = by (p x) (whole_way xs) none
    where
      by : (b : Bool) → (find p xs ≡ None → position_or_len p xs ≡ length xs) → cond b (Some x) (find p xs) ≡ None → cond (not b) (1 + position_or_len p xs) 0 ≡ suc (length xs)
      by true rest none = cc
      by false rest none = omega (arith, rest none)

  no_position : (xs : List X) → find p xs ≡ None → position p xs ≡ None
  no_position xs none =
      let end = whole_way xs none in
      let past : nat_lt (position_or_len p xs) (length xs) ≡ false = grind (arith, nat_tests) in
      ap (λ b. cond b (Some (position_or_len p xs)) None) past

  -- an item that was added last is found, and taken out again
  pub found_last : (xs : List X) (x : X) → list_any p xs ≡ false → p x ≡ true → find p (xs ++ x ∷ []) ≡ Some x
  found_last xs x none is = ap (find p) (sym (insert_end xs x)) ∙ find-insert p xs (length xs) x none is

  pub without_last : (xs : List X) (x : X) → list_any p xs ≡ false → p x ≡ true → without p (xs ++ x ∷ []) ≡ xs
  without_last xs x none is = ap (without p) (sym (insert_end xs x)) ∙ without-insert p xs (length xs) x none is

  -- where one list has an item, and no two of the lists have, the other list has none
  pub none_else : (xs ys : List X) (more : ℕ) (x : X) → find p xs ≡ Some x → count_by p xs + count_by p ys + more ≤ 1 → find p ys ≡ None
  none_else xs ys more x found few =
      let some : nat_lt 0 (count_by p xs) ≡ true = sym (list_any-count_by p xs) ∙ any_from_found p xs x found in
      let none : nat_lt 0 (count_by p ys) ≡ false = grind (arith, nat_tests) in
      found_none ys (list_any-count_by p ys ∙ none)

-- what follows from what holds of a result that is no fault
pub on_ok_more : {T E : Type 0} (r : Result T E) {A B : Type 0} → OnOk r A → (A → B) → OnOk r B
on_ok_more (Ok x) a f = f a
on_ok_more (Err e) a f = tt

-- an item that was taken out stood at its place in the list before
module _ {X : Type 0} (p : X → Bool) (xs : List X) where
  pub stood_of : (old new : List X) (x : X) → find p xs ≡ Some x → new ≡ without p xs → xs ≡ old → IsSomeAnd (position p old) (StoodAt x new old)
  stood_of old new x found rest same =
      subst (λ (ys : List X). IsSomeAnd (position p ys) (StoodAt x new ys)) same
      (subst (λ (zs : List X). IsSomeAnd (position p xs) (StoodAt x zs xs)) (sym rest) (stood_at p xs x found))

-- an item that was taken out passes
module _ {X E : Type 0} (p : X → Bool) (xs : List X) where
  pub passes_if_found : (r : Result X E) (Q : X → Type 0) → IfOk r (λ x. find p xs ≡ Some x) → ((x : X) → p x ≡ true → Q x) → IfOk r Q
  passes_if_found (Ok x) Q found f = f x (find_true p xs x found)
  passes_if_found (Err e) Q found f = tt

  pub stood_if_found : (r : Result X E) (old new : List X) → IfOk r (λ x. find p xs ≡ Some x) → OnOk r (new ≡ without p xs) → xs ≡ old → IfOk r (λ x. IsSomeAnd (position p old) (StoodAt x new old))
  stood_if_found (Ok x) old new found rest same = stood_of p xs old new x found rest same
  stood_if_found (Err e) old new found rest same = tt

-- a place of one list among places of several
first_place : {P Q : ℕ → Type 0} (o q : Option ℕ) → ((i : ℕ) → P i → Q i) → IsSomeAnd o P → IsSomeAnd (option_or o q) Q
first_place None q f h = absurd h
first_place (Some i) q f h = f i h

anywhere : {P Q : ℕ → Type 0} (o : Option ℕ) → ((i : ℕ) → P i → Q i) → IsSomeAnd o P → IsSomeAnd o Q
anywhere None f h = absurd h
anywhere (Some i) f h = f i h

-- no post of the network has this name
pub record IsNewName (name : List ℕ) (net : Net) : Type 0 where
  pub portals : list_any (is_post name) net.portals ≡ false
  pub signals : list_any (is_post name) net.signals ≡ false
  pub boards : list_any (is_post name) net.boards ≡ false

by_lists : (name : List ℕ) (net : Net) → post_named name net ≡ option_or (option_or (find (is_post name) net.portals) (find (is_post name) net.signals)) (find (is_post name) net.boards)
by_lists name net = sym (post_of_lists name net.portals net.signals net.boards _ _ _ _ refl refl refl refl)

-- a post of a new name that was put in is found
module _ (post : Post) (index : ℕ) (net : Net) (new : IsNewName post.name net) where
  own : is_post post.name post ≡ true
  own = same_name-self post.name

  pub post_found : (role : PostRole) → post_named post.name (with_post_at_as role index post net) ≡ Some post
  post_found Portal =
      by_lists post.name (with_post_at_as Portal index post net)
      ∙ (λ i. option_or (option_or (find-insert (is_post post.name) net.portals index post new.portals own i) (find (is_post post.name) net.signals)) (find (is_post post.name) net.boards))
  post_found Signal =
      by_lists post.name (with_post_at_as Signal index post net)
      ∙ (λ i. option_or (option_or (found_none (is_post post.name) net.portals new.portals i) (find-insert (is_post post.name) net.signals index post new.signals own i)) (find (is_post post.name) net.boards))
  post_found Board =
      by_lists post.name (with_post_at_as Board index post net)
      ∙ (λ i. option_or (option_or (found_none (is_post post.name) net.portals new.portals i) (found_none (is_post post.name) net.signals new.signals i)) (find-insert (is_post post.name) net.boards index post new.boards own i))

  unchanged : (others : List Post) → list_any (is_post post.name) others ≡ false → without (is_post post.name) others ≡ others
  unchanged others none = without-absent (is_post post.name) others (found_none (is_post post.name) others none)

  -- and is taken out again
  pub post_taken : (role : PostRole) → without_post post.name (with_post_at_as role index post net) ≡ net
  post_taken Portal = λ i. record net {
    portals = without-insert (is_post post.name) net.portals index post new.portals own i;
    signals = unchanged net.signals new.signals i;
    boards = unchanged net.boards new.boards i;
  }
  post_taken Signal = λ i. record net {
    portals = unchanged net.portals new.portals i;
    signals = without-insert (is_post post.name) net.signals index post new.signals own i;
    boards = unchanged net.boards new.boards i;
  }
  post_taken Board = λ i. record net {
    portals = unchanged net.portals new.portals i;
    signals = unchanged net.signals new.signals i;
    boards = without-insert (is_post post.name) net.boards index post new.boards own i;
  }

-- a post that is added last is put in at the end of the list of its role
put_last : (role : PostRole) (post : Post) (net : Net) → with_post_as role post net ≡ with_post_at_as role (length (posts_of role net)) post net
put_last Portal post net = ap (λ (xs : List Post). record net { portals = xs }) (sym (insert_end net.portals post))
put_last Signal post net = ap (λ (xs : List Post). record net { signals = xs }) (sym (insert_end net.signals post))
put_last Board post net = ap (λ (xs : List Post). record net { boards = xs }) (sym (insert_end net.boards post))

-- a post of a new name that was added last is found, and taken out again
module _ (post : Post) (net : Net) (new : IsNewName post.name net) (role : PostRole) where
  pub added_found : post_named post.name (with_post_as role post net) ≡ Some post
  added_found = ap (post_named post.name) (put_last role post net) ∙ post_found post (length (posts_of role net)) net new role

  pub added_taken : without_post post.name (with_post_as role post net) ≡ net
  added_taken = ap (without_post post.name) (put_last role post net) ∙ post_taken post (length (posts_of role net)) net new role

-- a post with which a network is sound has a new name
pub new_name : (role : PostRole) (index : ℕ) (post : Post) (net : Net) → IsSoundNetwork (with_post_at_as role index post net) → IsNewName post.name net
new_name role index post net sound = by role (sound.distinct.posts_by_name post.name)
  where
    test : Post → Bool
    test = is_post post.name

    one : ◌≡◌ {A = ℕ} (cond (test post) 1 0) 1
    one = ap {B = ℕ} (λ b. cond b 1 0) (same_name-self post.name)

    no : (others : List Post) → count_by test others ≡ 0 → list_any test others ≡ false
    no others none = list_any-count_by test others ∙ ap (nat_lt 0) none

    by : (r : PostRole) → count_by test (with_post_at_as r index post net).portals + count_by test (with_post_at_as r index post net).signals + count_by test (with_post_at_as r index post net).boards ≤ 1 → IsNewName post.name net
    by Portal few =
        let more = count_by-insert test net.portals index post in
        record { portals = no net.portals (omega (arith, one, more, few)); signals = no net.signals (omega (arith, one, more, few)); boards = no net.boards (omega (arith, one, more, few)) }
    by Signal few =
        let more = count_by-insert test net.signals index post in
        record { portals = no net.portals (omega (arith, one, more, few)); signals = no net.signals (omega (arith, one, more, few)); boards = no net.boards (omega (arith, one, more, few)) }
    by Board few =
        let more = count_by-insert test net.boards index post in
        record { portals = no net.portals (omega (arith, one, more, few)); signals = no net.signals (omega (arith, one, more, few)); boards = no net.boards (omega (arith, one, more, few)) }

-- the role of a post of a list
role_of : (role : PostRole) (net : Net) (of_role : List Post) (name : List ℕ) (post : Post) → list_all (is_sound_post role net.sections) of_role ≡ true → find (is_post name) of_role ≡ Some post → post.role ≡ role
role_of role net of_role name post all found =
    let h = find_passes (is_post name) (is_sound_post role net.sections) of_role post all found in
    let b = both_true (same_role role post.role && is_formed post && is_timed post) (stands_well net.sections post) h in
    same_from_role role post.role (both_true (same_role role post.role) (is_formed post) (both_true (same_role role post.role && is_formed post) (is_timed post) b.0).0).0

-- a turn that passed its tests is between other posts than those before it
pub fresh_turn : (net : Net) (turn : Turn) → turn_refusal net turn ≡ None → list_any (is_turn turn.arriving turn.leaving) net.turns ≡ false
fresh_turn net turn none = (all_passed (turn_tests net turn) none).1.1.0

-- a turn is between its posts
pub own_turn : (turn : Turn) → is_turn turn.arriving turn.leaving turn ≡ true
own_turn turn = λ i. same_name-self turn.arriving i && same_name-self turn.leaving i

-- a route that passed its tests has a new name
pub fresh_route : (net : Net) (route : Route) → route_refusal net route ≡ None → list_any (is_route route.name) net.routes ≡ false
fresh_route net route none = (all_passed (route_tests net route) none).1.1.1.0

-- a post that passed its tests has a new name
pub new_by_tests : (net : Net) (post : Post) → post_refusal net post ≡ None → IsNewName post.name net
new_by_tests net post none =
    let a = all_passed (post_tests net post) none in
    let test = is_post post.name in
    let apart : (list_any test net.portals || list_any test net.signals || list_any test net.boards) ≡ false =
    (λ i. sym (list_any-append test net.portals net.signals) i || list_any test net.boards) ∙ sym (list_any-append test (net.portals ++ net.signals) net.boards) ∙ a.1.1.1.1.0 in
    let first = both_false (list_any test net.portals || list_any test net.signals) (list_any test net.boards) apart in
    let ends = both_false (list_any test net.portals) (list_any test net.signals) first.0 in
    record { portals = ends.0; signals = ends.1; boards = first.1 }

-- a post that was taken out stood at its place in the list of its role
module _ (net : Net) (name : List ℕ) (post : Post) (sound : IsSoundNetwork net) where
  abbrev Stood : Type 0
  Stood = IsSomeAnd (post_position name net) (PostStoodAt post (without_post name net) net)

  few : count_by (is_post name) net.portals + count_by (is_post name) net.signals + count_by (is_post name) net.boards ≤ 1
  few = sound.distinct.posts_by_name name

  in_portals : find (is_post name) net.portals ≡ Some post → Stood
  in_portals found =
      let test = is_post name in
      let role = role_of Portal net net.portals name post sound.portals found in
      let signals = without-absent test net.signals (none_else test net.portals net.signals (count_by test net.boards) post found few) in
      let boards = without-absent test net.boards (none_else test net.portals net.boards (count_by test net.signals) post found (omega (arith, few))) in
      let there : (i : ℕ) → StoodAt post (without test net.portals) net.portals i → PostStoodAt post (without_post name net) net i = λ i w. record {
        within = subst (λ (r : PostRole). i ≤ length (posts_of r (without_post name net))) (sym role) w.within;
        again = subst (λ (r : PostRole). with_post_at_as r i post (without_post name net) ≡ net) (sym role) (λ j. record net { portals = w.again j; signals = signals j; boards = boards j });
      } in
      first_place (option_or (position test net.portals) (position test net.signals)) (position test net.boards) there
      (first_place (position test net.portals) (position test net.signals) (λ i w. w) (stood_at test net.portals post found))

  in_signals : find (is_post name) net.signals ≡ Some post → Stood
  in_signals found =
      let test = is_post name in
      let role = role_of Signal net net.signals name post sound.signals found in
      let none = none_else test net.signals net.portals (count_by test net.boards) post found (omega (arith, few)) in
      let portals = without-absent test net.portals none in
      let boards = without-absent test net.boards (none_else test net.signals net.boards (count_by test net.portals) post found (omega (arith, few))) in
      let there : (i : ℕ) → StoodAt post (without test net.signals) net.signals i → PostStoodAt post (without_post name net) net i = λ i w. record {
        within = subst (λ (r : PostRole). i ≤ length (posts_of r (without_post name net))) (sym role) w.within;
        again = subst (λ (r : PostRole). with_post_at_as r i post (without_post name net) ≡ net) (sym role) (λ j. record net { portals = portals j; signals = w.again j; boards = boards j });
      } in
      subst (λ (o : Option ℕ). IsSomeAnd (option_or (option_or o (position test net.signals)) (position test net.boards)) (PostStoodAt post (without_post name net) net)) (sym (no_position test net.portals none))
      (first_place (position test net.signals) (position test net.boards) there (stood_at test net.signals post found))

  in_boards : find (is_post name) net.boards ≡ Some post → Stood
  in_boards found =
      let test = is_post name in
      let role = role_of Board net net.boards name post sound.boards found in
      let no_portal = none_else test net.boards net.portals (count_by test net.signals) post found (omega (arith, few)) in
      let no_signal = none_else test net.boards net.signals (count_by test net.portals) post found (omega (arith, few)) in
      let portals = without-absent test net.portals no_portal in
      let signals = without-absent test net.signals no_signal in
      let there : (i : ℕ) → StoodAt post (without test net.boards) net.boards i → PostStoodAt post (without_post name net) net i = λ i w. record {
        within = subst (λ (r : PostRole). i ≤ length (posts_of r (without_post name net))) (sym role) w.within;
        again = subst (λ (r : PostRole). with_post_at_as r i post (without_post name net) ≡ net) (sym role) (λ j. record net { portals = portals j; signals = signals j; boards = w.again j });
      } in
      let none : option_or (position test net.portals) (position test net.signals) ≡ None = λ j. option_or (no_position test net.portals no_portal j) (no_position test net.signals no_signal j) in
      subst (λ (o : Option ℕ). IsSomeAnd (option_or o (position test net.boards)) (PostStoodAt post (without_post name net) net)) (sym none)
      (anywhere (position test net.boards) there (stood_at test net.boards post found))

  pub post_stood : post_named name net ≡ Some post → Stood
  post_stood found = by (find (is_post name) net.portals) (find (is_post name) net.signals) (find (is_post name) net.boards) refl refl refl (sym (by_lists name net) ∙ found)
    where
      by : (p s b : Option Post) → find (is_post name) net.portals ≡ p → find (is_post name) net.signals ≡ s → find (is_post name) net.boards ≡ b → option_or (option_or p s) b ≡ Some post → Stood
      by (Some x) s b ep es eb is = in_portals (ep ∙ is)
      by None (Some x) b ep es eb is = in_signals (es ∙ is)
      by None None b ep es eb is = in_boards (eb ∙ is)
