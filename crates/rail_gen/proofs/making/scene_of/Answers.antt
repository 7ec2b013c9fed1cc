use Rattle.std.proofs.Common.{sym, subst, ap, ◌∙◌}
use Rattle.rail_scene.specs.Scenes.{IsScene}
use Rattle.rail_compile.specs.Refusals.{compile_refusal}
use Rattle.rail_gen.proofs.Made.{scene_made}
use Rattle.rail_gen.proofs.making.scene_of.Goals as goal

pub returns-clause-made : goal.returns-clause-made
returns-clause-made c =
    scene_made c.args.number c.seed_from_u64-words.result c.drawn.new.words c.drawn-2.new.words c.drawn.result c.drawn-2.result
    (record { release = 30; depth = 1; policy = c.name.result; overlap_time = 0; network = c.in-Ok.network; kinds = c.from_vec.result; trains = c.from_vec-2.result })
    c.seed_from_u64-words.ensures c.drawn.ensures.value c.drawn.ensures.rest c.drawn-2.ensures.value c.drawn-2.ensures.rest
    (λ i. record {
      release = 30;
      depth = 1;
      policy = c.name.ensures i;
      overlap_time = 0;
      network = c.in-Ok.ensures i;
      kinds = (c.from_vec.ensures ∙ c.in_ok-kinds.ensures) i;
      trains = (c.from_vec-2.ensures ∙ c.in_ok-trains.ensures) i;
    })

pub returns-clause-kept : goal.returns-clause-kept
returns-clause-kept c = subst IsScene (sym (returns-clause-made c)) (c.a_made_up_scene_is_accepted.ensures.scene c.args.number)

pub returns-clause-compiled : goal.returns-clause-compiled
returns-clause-compiled c = ap compile_refusal (returns-clause-made c) ∙ c.a_made_up_scene_is_accepted.ensures.compiled c.args.number
