use Rattle.std.proofs.Common.{◌≡◌, ℕ, Bool, ap, sym, ◌∙◌}
use Rattle.std.specs.List.{find}
use Rattle.std.specs.Option.{option_or}
use Rattle.std.proofs.lemmas.List.Folds.{find-append}
use Rattle.rail_rules.specs.Numbers.{is_in}
use Rattle.rail_plan.proofs.standing.first_claimed.Goals as goal

pub returns : goal.returns
returns c =
    let p : ℕ → Bool = λ x. is_in x c.args.stand.now in
    let first : c.first_common.result ≡ find p c.args.row.now.sections = c.first_common.ensures ∙ ap (find p) c.sections.ensures in
    let second : c.first_common-2.result ≡ find p c.args.row.now.overlap = c.first_common-2.ensures ∙ ap (find p) c.overlap.ensures in
    c.or.ensures ∙ ap (λ o. option_or o c.first_common-2.result) first ∙ ap (option_or (find p c.args.row.now.sections)) second
    ∙ sym (find-append p c.args.row.now.sections c.args.row.now.overlap)
