-- The turns and the routes of a sound network are accepted one after the other, in their order.
use Rattle.std.proofs.Common.{◌≡◌, ℕ, ◌+◌, ◌-◌, ◌≤◌, nat_le, Bool, true, false, not, ◌&&◌, ◌||◌, List, [], ◌∷◌, ◌++◌, length, take, count_by, Option, Some, None, is_some, refl, sym, ap, subst, ◌∙◌, arith, length-append, append_assoc}
use Rattle.std.specs.List.{list_all, list_any}
use Rattle.std.specs.Option.{option_map_or, option_or}
use Rattle.std.proofs.lemmas.Bool.{and_parts}
use Rattle.std.proofs.lemmas.Bool.Decides.{nat_tests}
use Rattle.std.proofs.Math.Seq.{take-append_seam}
use Rattle.std.proofs.lemmas.List.Folds.{list_all-append, list_any-append}
use Rattle.rail_base.specs.FirstRefusals.{Test, first_failing, tests_over}
use Rattle.rail_base.specs.Limits.{is_from_one, most, Turns, TurnTime, Routes, RouteSections, OverlapSections}
use Rattle.rail_base.specs.Lists.{are_distinct}
use Rattle.rail_base.specs.NameForms.{same_name}
use Rattle.rail_base.specs.declared.refusals.Reason.TheVariants.{RouteRepeat, Unknown, TooMany, Range, Repeated}
use Rattle.rail_base.proofs.CallerLemmas.{AllPassed, none_failing, first_failing-append}
use Rattle.rail_track.specs.declared.section.NetFault.{NetFault}
use Rattle.rail_track.specs.declared.section.Section.{Section}
use Rattle.rail_track.specs.Joints.{is_named, section_named}
use Rattle.rail_track.specs.NetFaults.{refused_where}
use Rattle.rail_track.specs.Passages.{has_passage, passages, leads}
use Rattle.rail_track.proofs.CallerLemmas.{same_name-comm, same_name-self, distinct_before, none_before}
use Rattle.rail_routes.specs.declared.items.Post.{Post}
use Rattle.rail_routes.specs.declared.items.Turn.{Turn}
use Rattle.rail_routes.specs.declared.items.Step.{Step}
use Rattle.rail_routes.specs.declared.items.Route.{Route}
use Rattle.rail_routes.specs.Net.{Net, posts, is_post, is_turn, is_route, post_named}
use Rattle.rail_routes.specs.TurnRules.{turn_tests, turns_well, turn_refusal}
use Rattle.rail_routes.specs.RouteRules.{occurred, repeats_behind, repeat_tests, begins, leads_on, leads_from, goes_on, ends, step_tests, lead_tests, is_beyond, path_from, overlap_from, way_tests, misses_section, route_refusal}
use Rattle.rail_routes.specs.SoundNetworks.{IsSoundNetwork, is_sound_turn, is_sound_route, have_one_section, lead_to, lead_on, is_sound_path, is_sound_overlap, lead_between}
use Rattle.rail_routes.proofs.Uses.{list_any-find}
use Rattle.rail_routes.proofs.Lists.{distinct_front}
use Rattle.rail_routes.proofs.WayChanges.{well_led}

both : (b c : Bool) → b ≡ true → c ≡ true → (b && c) ≡ true
both b c p q = λ i. p i && q i

any_right : (b c : Bool) → c ≡ true → (b || c) ≡ true
any_right true c is = refl
any_right false c is = is

any_left : (b c : Bool) → b ≡ true → (b || c) ≡ true
any_left true c is = refl
any_left false c is = cc

-- a turn of a sound network is accepted after those before it
pub turn_after : (net : Net) (before : List Turn) (t : Turn) (after : List Turn) → IsSoundNetwork net → net.turns ≡ before ++ t ∷ after →
    turn_refusal (record net { turns = before }) t ≡ None
turn_after net before t after sound is =
    let few : length (before ++ t ∷ after) ≤ 512 = subst (λ ts. length ts ≤ 512) is sound.distinct.few_turns in
    let size = length-append before (t ∷ after) in
    let room : nat_le (most Turns) (length before) ≡ false = crowd before t after few in
    let all = sym (list_all-append (is_sound_turn net) before (t ∷ after)) ∙ ap (list_all (is_sound_turn net)) (sym is) ∙ sound.turns in
    let (first, rest) = and_parts (list_all (is_sound_turn net) before) (list_all (is_sound_turn net) (t ∷ after)) all in
    let (this, others) = and_parts (is_sound_turn net t) (list_all (is_sound_turn net) after) rest in
    let (known, well) = and_parts (nat_le t.time (most TurnTime) && list_any (is_post t.arriving) (posts net)) (turns_well net t) this in
    let (timed, arriving) = and_parts (nat_le t.time (most TurnTime)) (list_any (is_post t.arriving) (posts net)) known in
    let (most, apart) = and_parts (not (list_any (is_post t.arriving) net.portals) && list_any (is_post t.leaving) net.signals) (not (same_name t.arriving t.leaving)) well in
    let (none, signal) = and_parts (not (list_any (is_post t.arriving) net.portals)) (list_any (is_post t.leaving) net.signals) most in
    let fresh : list_any (is_turn t.arriving t.leaving) before ≡ false = none_before (is_turn t.arriving t.leaving) before t after (both _ _ (same_name-self t.arriving) (same_name-self t.leaving)) (subst (λ ts. count_by (is_turn t.arriving t.leaving) ts ≤ 1) is (sound.distinct.turns_by_posts t.arriving t.leaving)) in
    let q = is_post t.leaving in
    let leaving : list_any q (posts net) ≡ true = list_any-append q (net.portals ++ net.signals) net.boards ∙ any_left _ (list_any q net.boards) (list_any-append q net.portals net.signals ∙ any_right (list_any q net.portals) (list_any q net.signals) signal) in
    none_failing (turn_tests (record net { turns = before }) t) (room, (ap not timed, (fresh, (ap not arriving, (ap not leaving, (ap not well, tt))))))
  where
    crowd : (xs : List Turn) (x : Turn) (ys : List Turn) → length (xs ++ x ∷ ys) ≤ 512 → nat_le (most Turns) (length xs) ≡ false
    crowd xs x ys few = let size = length-append xs (x ∷ ys) in grind (arith, nat_tests)

both_passed : {R : Type 0} (ts us : List (Test R)) → first_failing ts ≡ None → first_failing us ≡ None → first_failing (ts ++ us) ≡ None
both_passed ts us a b = first_failing-append ts us ∙ ap (λ o. option_or o (first_failing us)) a ∙ b

-- no section occurs twice
repeats : (steps done rest : List Step) → steps ≡ done ++ rest → are_distinct have_one_section steps ≡ true → (n : ℕ) → n ≡ length done + 1
    → AllPassed (tests_over (λ m (step : Step). refused_where RouteRepeat m (occurred steps m step)) n rest)
repeats steps done [] is apart n at = tt
repeats steps done (step ∷ rest) is apart n at =
    let before : n - 1 ≡ length done = omega arith in
    let taken : take (n - 1) steps ≡ done = ap (λ m. take m steps) before ∙ ap (take (length done)) is ∙ take-append_seam done (step ∷ rest) in
    let fresh = distinct_before have_one_section (λ (x y : Step). same_name-comm x.section y.section) done step rest (ap (are_distinct have_one_section) (sym is) ∙ apart) in
    let size = length-append done (step ∷ []) in (
      ap (list_any (λ (other : Step). same_name step.section other.section)) taken ∙ fresh,
      repeats steps (done ++ step ∷ []) rest (is ∙ sym (append_assoc done (step ∷ []) rest)) apart (n + 1) (omega (arith, size, at)),
    )

-- a section with a passage is one of the sections
passes_known : (o : Option Section) (from to : List ℕ) → option_map_or (λ (s : Section). list_any (leads from to) (passages s.kind s.joints)) o false ≡ true → is_some o ≡ true
passes_known None from to h = cc
passes_known (Some s) from to h = refl

module _ (sections : List Section) (end : Post) where
  steps_pass : (n : ℕ) (joint : List ℕ) (steps : List Step) → lead_to sections end joint steps ≡ true → AllPassed (step_tests sections end n joint steps)
  steps_pass n joint [] leads = tt
  steps_pass n joint (step ∷ rest) leads =
      let (on, more) = and_parts (leads_on sections end joint step rest) (lead_to sections end step.to rest) leads in
      (ap not on, steps_pass (n + 1) step.to rest more)

  step_known : (joint : List ℕ) (step : Step) → leads_from sections joint step ≡ true → list_any (is_named step.section) sections ≡ true
  step_known joint step leads =
      let (here, passes) = and_parts (same_name joint step.from) (has_passage sections step.section step.from step.to) leads in
      list_any-find (is_named step.section) sections ∙ passes_known (section_named step.section sections) step.from step.to passes

  steps_known : (joint : List ℕ) (steps : List Step) → lead_to sections end joint steps ≡ true → misses_section sections steps ≡ false
  steps_known joint [] leads = refl
  steps_known joint (step ∷ rest) leads =
      let (on, more) = and_parts (leads_on sections end joint step rest) (lead_to sections end step.to rest) leads in
      let (there, next) = and_parts (leads_from sections joint step) (goes_on rest || ends end step) on in
      λ i. not (step_known joint step there i) || steps_known step.to rest more i

  overlap_known : (joint : List ℕ) (steps : List Step) → lead_on sections joint steps ≡ true → misses_section sections steps ≡ false
  overlap_known joint [] leads = refl
  overlap_known joint (step ∷ rest) leads =
      let (there, more) = and_parts (leads_from sections joint step) (lead_on sections step.to rest) leads in
      λ i. not (step_known joint step there i) || overlap_known step.to rest more i

  overlap_passes : (n : ℕ) (joint : List ℕ) (steps : List Step) → lead_on sections joint steps ≡ true → AllPassed (lead_tests sections n joint steps)
  overlap_passes n joint [] leads = tt
  overlap_passes n joint (step ∷ rest) leads =
      let (there, more) = and_parts (leads_from sections joint step) (lead_on sections step.to rest) leads in
      (ap not there, overlap_passes (n + 1) step.to rest more)

-- what a route between two posts has
record Leads (sections : List Section) (a b : Option Post) (steps overlap : List Step) : Type 0 where
  begin : is_some a ≡ true
  end : is_some b ≡ true
  known : misses_section sections steps ≡ false
  over_known : misses_section sections overlap ≡ false
  way : first_failing (way_tests a b sections steps overlap) ≡ None

between : (sections : List Section) (a b : Option Post) (steps overlap : List Step) → lead_between sections a b steps overlap ≡ true → Leads sections a b steps overlap
between sections None b steps overlap h = cc
between sections (Some x) None steps overlap h = cc
between sections (Some x) (Some y) steps overlap h =
    let (path, over) = and_parts (is_sound_path sections x y steps) (is_sound_overlap sections y overlap) h in
    let (first, rest) = and_parts (begins x sections steps) (lead_to sections y x.joint steps) path in
    let (within, on) = and_parts (not (is_beyond y.role overlap)) (lead_on sections y.joint overlap) over in
    record {
      begin = refl;
      end = refl;
      known = steps_known sections y x.joint steps rest;
      over_known = overlap_known sections y y.joint overlap on;
      way =
          both_passed (path_from x y sections steps) (overlap_from y sections (length steps + 1) overlap)
          (none_failing (path_from x y sections steps) (ap not first, steps_pass sections y 1 x.joint steps rest))
          (none_failing (overlap_from y sections (length steps + 1) overlap) (not_true (is_beyond y.role overlap) within, overlap_passes sections y (length steps + 1) y.joint overlap on));
    }
  where
    not_true : (b : Bool) → not b ≡ true → b ≡ false
    not_true true h = cc
    not_true false h = refl

-- a route of a sound network is accepted after those before it
pub route_after : (net : Net) (before : List Route) (r : Route) (after : List Route) → IsSoundNetwork net → net.routes ≡ before ++ r ∷ after → route_refusal (record net { routes = before }) r ≡ None
route_after net before r after sound is =
    let few : length (before ++ r ∷ after) ≤ 1024 = subst (λ (rs : List Route). length rs ≤ 1024) is sound.distinct.few_routes in
    let room = crowd before r after few in
    let all = sym (list_all-append (is_sound_route net) before (r ∷ after)) ∙ ap (list_all (is_sound_route net)) (sym is) ∙ sound.routes in
    let (first, rest) = and_parts (list_all (is_sound_route net) before) (list_all (is_sound_route net) (r ∷ after)) all in
    let (this, others) = and_parts (is_sound_route net r) (list_all (is_sound_route net) after) rest in
    let rule = well_led net r this in
    let fresh : list_any (is_route r.name) before ≡ false = none_before (is_route r.name) before r after (same_name-self r.name) (subst (λ (rs : List Route). count_by (is_route r.name) rs ≤ 1) is (sound.distinct.routes_by_name r.name)) in
    let led_by = between net.sections (post_named r.from net) (post_named r.to net) r.steps r.overlap rule.led in
    let from : list_any (is_post r.from) (posts net) ≡ true = list_any-find (is_post r.from) (posts net) ∙ led_by.begin in
    let to : list_any (is_post r.to) (posts net) ≡ true = list_any-find (is_post r.to) (posts net) ∙ led_by.end in
    let path_apart = distinct_front have_one_section r.steps r.overlap rule.apart in
    let unrepeated : first_failing (repeat_tests r.steps r.overlap) ≡ None =
    both_passed (repeats_behind [] r.steps) (repeats_behind r.steps r.overlap)
    (none_failing (repeats_behind [] r.steps) (repeats r.steps [] r.steps refl path_apart 1 refl))
    (none_failing (repeats_behind r.steps r.overlap) (repeats (r.steps ++ r.overlap) r.steps r.overlap refl rule.apart (length r.steps + 1) refl)) in
    let ways = way_tests (post_named r.from net) (post_named r.to net) net.sections r.steps r.overlap in
    both_passed (head_tests net before r) (repeat_tests r.steps r.overlap ++ ways)
    (none_failing (head_tests net before r) (room, (ap not rule.sized, (ap not rule.few, (fresh, (ap not from, (ap not to, (led_by.known, (led_by.over_known, tt)))))))))
    (both_passed (repeat_tests r.steps r.overlap) ways unrepeated led_by.way)
  where
    crowd : (xs : List Route) (x : Route) (ys : List Route) → length (xs ++ x ∷ ys) ≤ 1024 → nat_le (most Routes) (length xs) ≡ false
    crowd xs x ys few = let size = length-append xs (x ∷ ys) in grind (arith, nat_tests)

    head_tests : Net → List Route → Route → List (Test NetFault)
    head_tests n rs x =
        refused_where TooMany 0 (nat_le (most Routes) (length rs))
        ∷ refused_where Range 4 (not (is_from_one (most RouteSections) (length x.steps)))
        ∷ refused_where Range 5 (not (nat_le (length x.overlap) (most OverlapSections)))
        ∷ refused_where Repeated 1 (list_any (is_route x.name) rs)
        ∷ refused_where Unknown 2 (not (list_any (is_post x.from) (posts n)))
        ∷ refused_where Unknown 3 (not (list_any (is_post x.to) (posts n)))
        ∷ refused_where Unknown 4 (misses_section n.sections x.steps)
        ∷ refused_where Unknown 5 (misses_section n.sections x.overlap)
        ∷ []
