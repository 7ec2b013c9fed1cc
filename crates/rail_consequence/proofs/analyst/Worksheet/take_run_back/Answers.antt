use Rattle.std.proofs.Common.{◌≡◌, ℕ, ◌-◌, List, length, take, drop, refl, sym, ap, ◌∙◌, subst, arith}
use Rattle.rail_rules.specs.Moves.{Moves}
use Rattle.rail_place.specs.Tables.{moves_in}
use Rattle.rail_place.specs.Plays.{IsPlayed}
use Rattle.rail_consequence.specs.Workspace.{Work}
use Rattle.rail_consequence.proofs.Backward.{counted_run}
use Rattle.rail_consequence.proofs.Played.{ready_as}
use Rattle.rail_consequence.proofs.analyst.Worksheet.take_run_back.Goals as goal

pub position-requires : goal.position-requires
position-requires g c = (counted_run c.self.view_is c.requires.ready c.requires.played c.requires.mark c.deref.ensures.value (c.in-Some.ensures ∙ c.last.ensures.value) c.repeats_at_end-count.ensures.count refl).placed

pub overflow_sub-place : goal.overflow_sub-place
overflow_sub-place g c =
    let run = counted_run c.self.view_is c.requires.ready c.requires.played c.requires.mark c.deref.ensures.value (c.in-Some.ensures ∙ c.last.ensures.value) c.repeats_at_end-count.ensures.count c.position.ensures in
    omega (arith, run.ahead)

pub put-requires : goal.put-requires
put-requires g c =
    let run = counted_run c.self.view_is c.requires.ready c.requires.played c.requires.mark c.deref.ensures.value (c.in-Some.ensures ∙ c.last.ensures.value) c.repeats_at_end-count.ensures.count c.position.ensures in
    let old = ready_as c.args.moves.now _ c.args.self.now c.self.view_is c.requires.ready in
    record {
      words = c.requires.words;
      ready = record {
        rows = old.rows;
        made = old.made;
        taken = old.taken;
        wide = old.wide;
        counted = old.counted;
        few = omega (arith, old.few, c.truncate.ensures.len, c.truncate.new.self.ok, c.self.inside.list.ok, c.len.ensures);
      };
      train = run.listed;
      entered = omega (arith, run.ahead, c.position.ensures);
      within = run.within;
      later = omega (arith, run.ahead);
      free = run.free;
      few = omega (arith, run.few, c.truncate.ensures.len, c.len.ensures, c.self.inside.list.ok, c.truncate.new.self.ok);
    }

pub returns-clause-fewer : goal.returns-clause-fewer
returns-clause-fewer g c =
    let run = counted_run c.self.view_is c.requires.ready c.requires.played c.requires.mark c.deref.ensures.value (c.in-Some.ensures ∙ c.last.ensures.value) c.repeats_at_end-count.ensures.count c.position.ensures in
    omega (arith, run.some, c.requires.mark, c.truncate.ensures.len, c.len.ensures, c.self.inside.list.ok, c.truncate.new.self.ok, ap length c.put.ensures.list, ap (λ (w : Work). length w.list) c.self.view_is)

pub returns-clause-positions : goal.returns-clause-positions
returns-clause-positions g c =
    let plan : Moves = moves_in c.args.moves.now in
    let run = counted_run c.self.view_is c.requires.ready c.requires.played c.requires.mark c.deref.ensures.value (c.in-Some.ensures ∙ c.last.ensures.value) c.repeats_at_end-count.ensures.count c.position.ensures in
    let k : ℕ = c.repeats_at_end-count.result in
    let long : c.len.result - k ≡ length c.self.inside.list.items - k = omega (arith, c.len.ensures, c.self.inside.list.ok) in
    let list : c.put.new.self.list ≡ take (length c.self.inside.list.items - k) c.self.inside.list.items = c.put.ensures.list ∙ c.truncate.ensures.items ∙ ap (λ n. take n c.self.inside.list.items) long in
    λ s led.
    let P : List ℕ → Type 0 = λ q. IsPlayed plan s (drop c.args.mark c.put.new.self.list) q in
    let W : Work → Type 0 = λ w. IsPlayed plan s (drop c.args.mark w.list) w.places.positions in
    subst P (sym c.put.ensures.positions) (run.back s c.put.new.self.list list (subst W (sym c.self.view_is) led))
