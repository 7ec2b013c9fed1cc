use Rattle.rail_text.specs.Lines.{words}
use Rattle.rail_edit_file.proofs.Steps.{first_step, first_way}
use Rattle.rail_edit_file.proofs.lists.step.Goals as goal

pub returns-clause-read : goal.returns-clause-read
returns-clause-read c =
    first_step c.args.from c.args.section.now c.in_ok-section.section c.in_ok-to.to.now c.in_ok-to-2.to (words c.args.rest.now) (words c.in_ok-to.rest.now) c.in_ok-to.ensures.words c.in_ok-section.ensures c.in_ok-to-2.ensures

pub returns-clause-way : goal.returns-clause-way
returns-clause-way c = λ other.
    first_way c.args.from c.args.section.now c.in_ok-section.section c.in_ok-to.to.now c.in_ok-to-2.to (words c.args.rest.now) (words c.in_ok-to.rest.now) other c.in_ok-to.ensures.words c.in_ok-section.ensures c.in_ok-to-2.ensures
