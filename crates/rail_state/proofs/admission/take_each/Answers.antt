use Rattle.std.proofs.Common.{◌≡◌, ℕ, ◌+◌, List, ◌∷◌, drop, Option, sym, subst}
use Rattle.rail_laws_step.specs.HolderTables.{taken_by}
use Rattle.rail_state.specs.Admissions.{CanBeTaken}
use Rattle.rail_state.proofs.GivenMoves.{first_holder, first_known, first_of_rest, rest_after, taken_next}
use Rattle.rail_state.proofs.admission.take_each.Goals as goal

pub loop-section-preserved : goal.loop-section-preserved
loop-section-preserved c =
    let h = c.loop-section.holders in
    let xs = c.args.sections.now in
    let i = c.loop-section.section-index in
    let x = c.section-item.result in
    let t = c.args.train in
    let rest : List ℕ = drop (i + 1) xs in
    let first : drop i xs ≡ x ∷ rest = first_of_rest xs i x c.loop-section-test.true c.section-item.is in
    let C : List ℕ → Type 0 = CanBeTaken h c.args.train c.args.own.now in
    let T : List (Option ℕ) → Type 0 = λ g. taken_by g rest t ≡ taken_by c.args.holders.now xs t in
    let R : List (Option ℕ) → Type 0 = λ g. CanBeTaken g t c.args.own.now rest in
    record {
      taken = subst T (sym c.take_free.ensures) (taken_next h xs i x t (taken_by c.args.holders.now xs t) first c.loop-section.invariant.taken);
      rest = subst R (sym c.take_free.ensures) (rest_after h x t c.args.own.now rest (subst C first c.loop-section.invariant.rest));
    }

pub take_free-requires-clause-section : goal.take_free-requires-clause-section
take_free-requires-clause-section c =
    let h = c.loop-section.holders in
    let xs = c.args.sections.now in
    let i = c.loop-section.section-index in
    let x = c.section-item.result in
    let C : List ℕ → Type 0 = CanBeTaken h c.args.train c.args.own.now in
    first_known h x c.args.train c.args.own.now (drop (i + 1) xs) (subst C (first_of_rest xs i x c.loop-section-test.true c.section-item.is) c.loop-section.invariant.rest)

pub take_free-requires-clause-holder : goal.take_free-requires-clause-holder
take_free-requires-clause-holder c =
    let h = c.loop-section.holders in
    let xs = c.args.sections.now in
    let i = c.loop-section.section-index in
    let x = c.section-item.result in
    let C : List ℕ → Type 0 = CanBeTaken h c.args.train c.args.own.now in
    first_holder h x c.args.train c.args.own.now (drop (i + 1) xs) (subst C (first_of_rest xs i x c.loop-section-test.true c.section-item.is) c.loop-section.invariant.rest)
