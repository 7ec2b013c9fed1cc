-- A train that is taken out, and put back where it stood.
use Rattle.std.proofs.Common.{◌≡◌, ◌≢◌, ℕ, ◌+◌, ◌<◌, ◌≤◌, true, List, length, set, ap, ◌∙◌, arith}
use Rattle.std.proofs.lemmas.List.{get_or-set_same, get_or-set_other, set-set, set-get_or}
use Rattle.rail_rules.specs.Numbers.{are_apart}
use Rattle.rail_rules.specs.Moves.{Moves, stand}
use Rattle.rail_rules.specs.Places.{place_of, is_inside}
use Rattle.rail_rules.specs.Analysis.{moves_left}
use Rattle.rail_base.specs.declared.limits.TheConstants.{LIST_TRAINS}
use Rattle.rail_place.specs.Tables.{moves_in, MoveLists}
use Rattle.rail_place.proofs.CallerLemmas.{state_apart}
use Rattle.rail_consequence.specs.Workspace.{Work, IsReady}
use Rattle.rail_consequence.proofs.Legs.{inside_listed, inside_parts}

-- the train is out, and nothing else changed
pub record IsOut (plan : Moves) (t : ℕ) (a e : Work) : Type 0 where
  pub list : e.list ≡ a.list
  pub positions : e.places.positions ≡ set a.places.positions t (plan.moves t)

module _ (table : List MoveLists) (t place : ℕ) (a e : Work) (ready : IsReady table a) (was : is_inside (moves_in table) a.places.positions t ≡ true) (at : place ≡ place_of a.places.positions t) (out : IsOut (moves_in table) t a e) where
  abbrev plan : Moves
  plan = moves_in table

  abbrev s : List ℕ
  s = a.places.positions

  pub out_entered : 0 < place_of e.places.positions t
  out_entered = omega (arith, ap (λ q. place_of q t) out.positions, get_or-set_same s t (plan.moves t) 0 (inside_listed plan s t was), (inside_parts plan s t was).0, (inside_parts plan s t was).1)

  pub out_back : set e.places.positions t place ≡ s
  out_back = ap (λ q. set q t place) out.positions ∙ set-set s t (plan.moves t) place ∙ ap (set s t) at ∙ set-get_or s t 0

  pub out_free : (u : ℕ) → u ≢ t → are_apart (stand plan t place) (stand plan u (place_of e.places.positions u)) ≡ true
  out_free u ne =
      ap (λ p. are_apart (stand plan t p) (stand plan u (place_of e.places.positions u))) at
      ∙ ap (λ p. are_apart (stand plan t (place_of s t)) (stand plan u p)) (ap (λ q. place_of q u) out.positions ∙ get_or-set_other s t u (plan.moves t) 0 ne)
      ∙ state_apart plan s t u ready.made.valid (inside_listed plan s t was) ne

  pub out_few : length e.list + moves_left plan (set e.places.positions t place) ≤ LIST_TRAINS
  out_few = omega (arith, ready.few, ap length out.list, ap (moves_left plan) out_back)
