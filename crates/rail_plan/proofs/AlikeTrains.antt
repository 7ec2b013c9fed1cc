-- Trains that are alike: the same moves are spelled for them, and where one has no fault the other has none.
use Rattle.std.proofs.Common.{◌≡◌, ℕ, zero, suc, ◌+◌, ◌-◌, ◌<◌, Bool, true, false, not, cond, List, [], ◌∷◌, ◌++◌, length, get_or, map, take, is_some, Option, Some, None, refl, sym, ap, ◌∙◌, arith}
use Rattle.std.specs.Prelude.{nat_le}
use Rattle.std.specs.List.{find}
use Rattle.std.proofs.lemmas.List.{get_or-map, get_or-take, length-take, map_more}
use Rattle.rail_base.specs.declared.plant.MoveRow.{MoveRow}
use Rattle.rail_base.specs.declared.plant.Tables.{Tables}
use Rattle.rail_base.specs.declared.plant.TrainRow.{TrainRow}
use Rattle.rail_rules.specs.Numbers.{is_in, or_else}
use Rattle.rail_rules.specs.Plant.{Plant, no_move, no_train, train}
use Rattle.rail_place.specs.Tables.{MoveLists, lists_of, no_lists}
use Rattle.rail_plan.specs.Alike.{AreAlike, IsMadeTo}
use Rattle.rail_plan.specs.MoveTables.{needs_in, overs_in, spelled}
use Rattle.rail_plan.specs.PlanFaults.{bare, blocked_by, fault_of_train, fault_over, first_answer, metres_of, standing_of}
use Rattle.rail_plan.specs.declared.faults.PlanFault.{PlanFault}
use Rattle.rail_plan.specs.declared.faults.PlanFault.TheVariants.{TooLong}
use Rattle.rail_plan.proofs.Firsts.{first_more, none_at, parts_none}
use Rattle.rail_plan.proofs.OtherRows.{first_same}

cond_none : (b : Bool) (x y : PlanFault) → cond b (Some x) None ≡ None → cond b (Some y) None ≡ None
cond_none true x y none = absurd (cc)
cond_none false x y none = refl

blocked_none : (t u place : ℕ) (o : Option ℕ) → blocked_by t place o ≡ None → blocked_by u place o ≡ None
blocked_none t u place None none = refl
blocked_none t u place (Some x) none = absurd (cc)

both_none : (o other : Option PlanFault) → o ≡ None → other ≡ None → or_else o other ≡ None
both_none o other first second = ap (λ p. or_else p other) first ∙ second

first_none : (f g : ℕ → Option PlanFault) (n : ℕ) → ((i : ℕ) → f i ≡ None → g i ≡ None) → first_answer f n ≡ None → first_answer g n ≡ None
first_none f g zero each none = refl
first_none f g (suc n) each none =
    let parts = parts_none (first_answer f n) (f n) none in
    both_none (first_answer g n) (g n) (first_none f g n each parts.0) (each n parts.1)

over_none : (plant : Plant) (t u metres : ℕ) (rows : List MoveRow) (m : ℕ) → fault_over plant t metres rows m ≡ None → fault_over plant u metres rows m ≡ None
over_none plant t u metres rows m none =
    let row : MoveRow = get_or rows m no_move in
    let next : MoveRow = get_or rows (suc m) no_move in
    let long : Bool = not (nat_le metres (metres_of plant row.sections)) in
    let block : Option ℕ = find (λ x. is_in x (standing_of plant metres row)) (next.sections ++ next.overlap) in
    let parts = parts_none (cond long (Some (TooLong t (suc m))) None) (blocked_by t (suc m) block) none in
    both_none (cond long (Some (TooLong u (suc m))) None) (blocked_by u (suc m) block)
    (cond_none long (TooLong t (suc m)) (TooLong u (suc m)) parts.0) (blocked_none t u (suc m) block parts.1)

-- a train that makes the moves of another one without a fault, and is as long, has none
pub none_alike : (tables : Tables) (t u : ℕ) → AreAlike (train (bare tables) t) (train (bare tables) u) → fault_of_train (bare tables) t ≡ None → fault_of_train (bare tables) u ≡ None
none_alike tables t u alike none =
    let plant : Plant = bare tables in
    let row : TrainRow = train plant t in
    let other : TrainRow = train plant u in
    let over : ℕ → ℕ → ℕ → List MoveRow → Option PlanFault = λ k m metres moves. fault_over plant k metres moves m in
    let here : first_answer (λ m. over t m row.kind.length row.moves) (length row.moves - 1) ≡ None = sym (first_same tables tables.trains t) ∙ none in
    let there : first_answer (λ m. over u m row.kind.length row.moves) (length row.moves - 1) ≡ None =
    first_none (λ m. over t m row.kind.length row.moves) (λ m. over u m row.kind.length row.moves) (length row.moves - 1) (λ m gone. over_none plant t u row.kind.length row.moves m gone) here in
    first_same tables tables.trains u
    ∙ sym (λ i. first_answer (λ m. over u m (alike.long i) (alike.moves i)) (length (alike.moves i) - 1))
    ∙ there

-- the same moves are spelled for both
pub spelled_alike : (plant : Plant) (row other : TrainRow) → AreAlike row other → spelled plant row ≡ spelled plant other
spelled_alike plant row other alike =
    λ i. lists_of (needs_in (alike.moves i)) (overs_in (alike.moves i)) (map (standing_of plant (alike.long i)) (alike.moves i))

-- one train more, which is like an earlier one
pub made_alike : (tables : Tables) (t first : ℕ) (old new : List MoveLists) → t < length tables.trains → first < t
    → AreAlike (train (bare tables) first) (train (bare tables) t) → IsMadeTo tables t old
    → new ≡ old ++ get_or old first no_lists ∷ [] → IsMadeTo tables (t + 1) new
made_alike tables t first old new within before alike made is =
    let f : TrainRow → MoveLists = spelled (bare tables) in
    let same : get_or old first no_lists ≡ f (train (bare tables) t) =
    ap (λ n. get_or n first no_lists) made.table
    ∙ get_or-map f (take t tables.trains) first no_train no_lists (omega (arith, before, within, length-take t tables.trains))
    ∙ ap f (get_or-take t tables.trains first no_train before)
    ∙ spelled_alike (bare tables) (train (bare tables) first) (train (bare tables) t) alike in
    let next : t + 1 ≡ suc t = omega arith in
    record {
      table = is ∙ ap (λ r. old ++ r ∷ []) same ∙ ap (λ n. n ++ f (train (bare tables) t) ∷ []) made.table ∙ sym (map_more f tables.trains t no_train within);
      none = ap (first_answer (fault_of_train (bare tables))) next
          ∙ first_more (fault_of_train (bare tables)) t made.none (ap is_some (none_alike tables first t alike (none_at (fault_of_train (bare tables)) t first made.none before)));
    }
