use Rattle.std.proofs.Common.{◌≡◌, sym, subst}
use Rattle.std.specs.Prelude.{MatchOption}
use Rattle.rail_command_line.specs.declared.forms.Form.{Form}
use Rattle.rail_command_line.specs.Forms.{Lacks, Spells, form_in, values_in}
use Rattle.rail_command_line.proofs.forms.request_with.Goals as goal

pub returns-in_err-number_in-in-Scene : goal.returns-in_err-number_in-in-Scene
returns-in_err-number_in-in-Scene c = rw c.from_residual-in_err-number_in-in-Scene.ensures
    (subst (λ (form : Form). Lacks form c.args.words.now) (sym c.in-Scene.is) c.in_err-number_in-in-Scene.ensures)

pub returns-in_err-number_in-in-Gen : goal.returns-in_err-number_in-in-Gen
returns-in_err-number_in-in-Gen c = rw c.from_residual-in_err-number_in-in-Gen.ensures
    (subst (λ (form : Form). Lacks form c.args.words.now) (sym c.in-Gen.is) c.in_err-number_in-in-Gen.ensures)

pub returns-in-Capacity : goal.returns-in-Capacity
returns-in-Capacity c =
    subst (λ (form : Form). MatchOption c.study_of.result (Lacks form c.args.words.now) (λ request. (form_in request ≡ form) × Spells (form_in request) (values_in request) c.args.words.now))
    (sym c.in-Capacity.is) c.study_of.ensures

pub returns-in-Insert : goal.returns-in-Insert
returns-in-Insert c =
    subst (λ (form : Form). MatchOption c.paths_of.result (Lacks form c.args.words.now) (λ request. (form_in request ≡ form) × Spells (form_in request) (values_in request) c.args.words.now))
    (sym c.in-Insert.is) c.paths_of.ensures

pub returns-in-Save : goal.returns-in-Save
returns-in-Save c =
    subst (λ (form : Form). MatchOption c.saving_of.result (Lacks form c.args.words.now) (λ request. (form_in request ≡ form) × Spells (form_in request) (values_in request) c.args.words.now))
    (sym c.in-Save.is) c.saving_of.ensures
