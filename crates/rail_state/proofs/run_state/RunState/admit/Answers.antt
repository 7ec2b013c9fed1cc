use Rattle.std.proofs.Common.{◌≡◌, ◌⊎◌, ℕ, ◌+◌, ◌-◌, ◌<◌, ◌^◌, Bool, List, [], ◌∷◌, ◌++◌, length, Option, false, true, refl, sym, ap, ◌∙◌, subst, arith}
use Rattle.std.proofs.lemmas.List.{length-append}
use Rattle.rail_block.specs.declared.times.MoveTimes.{MoveTimes}
use Rattle.rail_block.specs.CarriedTimes.{AreBelow, times_at}
use Rattle.rail_block.specs.KnownMoves.{own_times}
use Rattle.rail_queue.specs.declared.event.Event.{Event}
use Rattle.rail_laws_step.specs.HolderTables.{taken_by}
use Rattle.rail_state.specs.Events.{AreFreedOnce}
use Rattle.rail_state.specs.Representation.{taken_over}
use Rattle.rail_state.specs.declared.train.TrainState.{TrainState}
use Rattle.rail_rules.specs.Fronts.{Front, admissions}
use Rattle.rail_rules.specs.Plant.{Plant, is_forced, moves, claimed}
use Rattle.rail_rules.specs.Times.{stop_time}
use Rattle.rail_laws_step.proofs.CallerLemmas.{taken_long}
use Rattle.rail_state.proofs.GivenMoves.{ArePushed, as_made, next_place, next_times, pushed_at}
use Rattle.rail_state.proofs.run_state.RunState.admit.Goals as goal

pub push_move-arrival-requires-clause-times : goal.push_move-arrival-requires-clause-times
push_move-arrival-requires-clause-times c =
    let front : Front = c.requires.givable.0 in
    let givable = c.requires.givable.1 in
    let times = next_times c.args.plant.now front c.args.self.now.trains c.args.self.now.instant c.args.train c.get.result.now c.times_of-times.result givable c.get.ensures c.times_of-times.ensures.times in
    subst (AreBelow (2 ^ 51)) (sym times) givable.below_next

pub push_move-arrival-requires-clause-single : goal.push_move-arrival-requires-clause-single
push_move-arrival-requires-clause-single c =
    let train_state : TrainState = c.get.result.now in
    let of = c.new-known.ensures in
    let h = c.args.self.now.holders in
    let es = c.args.self.now.queue.events in
    let behind : (train_state.place + 1) - 1 ≡ train_state.place = omega arith in
    as_made (λ plant t p. AreFreedOnce (taken_over plant h t (p - 1)) es) (sym of.plant) (sym of.train) (sym of.place)
    (subst (λ p. AreFreedOnce (taken_over c.args.plant.now h c.args.train p) es) (ap (λ (r : TrainState). r.place) (sym c.get.ensures) ∙ sym behind) c.requires.single)

pub push_move-arrival-requires-clause-last : goal.push_move-arrival-requires-clause-last
push_move-arrival-requires-clause-last c = subst (λ (r : TrainState). AreBelow (2 ^ 51) r.times) (sym c.get.ensures) c.requires.givable.1.below

pub admit-requires-clause-sections : goal.admit-requires-clause-sections
admit-requires-clause-sections c =
    let known = c.new-known.result in
    ap length c.take_sections.ensures ∙ taken_long c.args.self.now.holders (claimed known.plant.now known.train (known.place - 1)) known.train ∙ c.requires.sections

pub returns-clause-given : goal.returns-clause-given
returns-clause-given c = λ front givable.
    let plant = c.args.plant.now in
    let t = c.args.train in
    let now = c.args.self.now.instant in
    let train_state : TrainState = c.get.result.now in
    let next : ℕ = train_state.place + 1 in
    let times : MoveTimes = c.times_of-times.result in
    let arrival : Option ℕ = c.push_move-arrival.result in
    let adms : List ℕ = admissions front t ++ now ∷ [] in
    let at = next_place plant front c.args.self.now.trains now t train_state givable c.get.ensures in
    let are_times = next_times plant front c.args.self.now.trains now t train_state times givable c.get.ensures c.times_of-times.ensures.times in
    let long : length adms ≡ next = omega (arith, length-append (admissions front t) (now ∷ []), at.after) in
    let made : times ≡ times_at plant t adms next = are_times ∙ ap (times_at plant t adms) (sym at.after) in
    let known = c.new-known.result in
    let of = c.new-known.ensures in
    let long_known : length adms ≡ known.place = long ∙ sym of.place in
    let made_known : times ≡ own_times known adms = made ∙ (λ k. times_at (sym of.plant k) (sym of.train k) adms (sym of.place k)) in
    let H : ℕ → Plant → ℕ → ℕ → Type 0 = λ at plant t p. (is_forced plant t p ≡ false) × (p < moves plant t) × (at ≡ stop_time plant t times.free_run) in
    let N : Plant → ℕ → ℕ → Type 0 = λ plant t p. (is_forced plant t p ≡ true) ⊎ (p ≡ moves plant t) in
    let before : List Event = c.args.self.now.queue.events in
    let after : List Event = c.push_move-arrival.new.queue.events in
    let E : (Event → Bool) → Plant → ℕ → ℕ → Type 0 = λ q plant t p. ArePushed plant c.args.self.now.holders t adms times arrival q before after p (p - 1) in (
      times,
      arrival,
      record {
        pushed = λ q. pushed_at plant c.args.self.now.holders front t next adms times arrival q before after at (as_made (E q) of.plant of.train of.place (c.push_move-arrival.ensures.counted adms long_known made_known q));
        are_times = are_times;
        deferred = λ when is. as_made (H when) of.plant of.train (of.place ∙ at.after) (c.push_move-arrival.ensures.deferred when is);
        not_deferred = λ is. as_made N of.plant of.train (of.place ∙ at.after) (c.push_move-arrival.ensures.not_deferred is);
        many = c.admit.ensures.length;
        trains = λ u lt. c.admit.ensures.trains u (omega (arith, lt, givable.many));
        holders = c.take_sections.ensures ∙ (λ k. taken_by c.args.self.now.holders (claimed (of.plant k) (of.train k) (of.place k - 1)) (of.train k)) ∙ ap (λ m. taken_by c.args.self.now.holders (claimed plant t m) t) at.before;
        time = refl;
        going = refl;
        settled = refl;
      },
    )
