use Rattle.std.proofs.Common.{◌≡◌, ◌≢◌, ℕ, not, eqb, true, false, sym, ap, ◌∙◌, subst}
use Rattle.std.proofs.lemmas.Bool.{false≢true, ne_eqb, not_from_false, and_from}
use Rattle.rail_rules.specs.Moves.{Moves}
use Rattle.rail_rules.specs.Places.{is_inside}
use Rattle.rail_place.specs.Tables.{moves_in}
use Rattle.rail_sets.specs.declared.train_set.TrainSet.{TrainSet}
use Rattle.rail_sets.specs.TrainSets.{has_train}
use Rattle.rail_consequence.specs.Workspace.{Work}
use Rattle.rail_consequence.proofs.analyst.Worksheet.trains_inside.Goals as goal
use Rattle.rail_consequence.proofs.analyst.Worksheet.trains_inside.Goals.{then-train-trains+then-not-stands_inside, else-train-trains}

pub loop-train-preserved : goal.loop-train-preserved
loop-train-preserved c = λ t inside.
    let plan : Moves = moves_in c.args.moves.now in
    let y : ℕ = c.train.inside.0 in
    let P : TrainSet → Type 0 = λ trains. has_train trains t ≡ true in
    let had = c.loop-train.invariant t inside in
    elim c.if-train-trains.branch [
      | then-train-trains+then-not-stands_inside w ↦
          let out : is_inside plan c.args.self.now.places.positions y ≡ false =
          sym (ap (λ (v : Work). is_inside plan v.places.positions y) c.self.view_is) ∙ sym w.stands_inside.ensures ∙ w.if-not-stands_inside.true in
          let other : t ≢ y = λ same. false≢true (sym out ∙ ap (is_inside plan c.args.self.now.places.positions) (sym same) ∙ inside) in
          subst P (sym w.left-is) (w.remove.ensures.left t ∙ and_from (not (eqb t y)) (has_train c.loop-train.left t) (not_from_false (eqb t y) (ne_eqb t y other)) had)
      | else-train-trains w ↦ subst P (sym w.left-is) had
    ]
