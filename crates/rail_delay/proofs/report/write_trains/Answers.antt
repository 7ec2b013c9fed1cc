use Rattle.std.proofs.Common.{◌≡◌, ◌∙◌, List, length, get_or, Ok, Err, ap, subst, arith}
use Rattle.std.proofs.lemmas.List.{get_or_default}
use Rattle.rail_rules.specs.Plant.{trains}
use Rattle.rail_rules.specs.Texts.{spaced}
use Rattle.rail_delay.specs.declared.account.Account.{Account}
use Rattle.rail_delay.specs.declared.visits.Visit.{Visit}
use Rattle.rail_delay.specs.Noting.{account_of}
use Rattle.rail_delay.specs.Reports.{no_account, train_line, train_words}
use Rattle.rail_text.specs.Writes.{WritesText}
use Rattle.rail_delay.proofs.Writes.{failed_at, next_written}
use Rattle.rail_delay.proofs.report.write_trains.Goals as goal

pub returns-in_err-write_train : goal.returns-in_err-write_train
returns-in_err-write_train g c =
    let plant = c.args.plant.now in
    let t = c.loop-number.number in
    let all = c.args.delays.now.accounts in
    let rows = c.args.delays.now.visits in
    let account : c.index-accounts-from.result ≡ account_of all t =
    c.index-accounts-from.is
    ∙ get_or_default c.accounts.result.now c.from.result _ no_account (omega (arith, c.loop-number-test.true, c.loop-number.auto.number-end, c.trains-trains.ensures.count, c.moves.ensures.trains, c.requires, c.from.ensures, ap (length {A = Account}) c.accounts.ensures))
    ∙ ap (λ (xs : List Account). get_or xs c.from.result no_account) c.accounts.ensures
    ∙ ap (account_of all) c.from.ensures in
    let line = subst (λ (kept : Account). WritesText g.O.Sink c.loop-number.out c.write_train.new.out (spaced (train_words plant t c.visits.result.now kept)) (Err c.in_err-write_train.field-0.0)) account c.in_err-write_train.ensures in
    let here = subst (λ (row : List Visit). WritesText g.O.Sink c.loop-number.out c.write_train.new.out (spaced (train_words plant t row (account_of all t))) (Err c.in_err-write_train.field-0.0)) c.visits.ensures line in
    failed_at g.O.Sink _ _ _ (train_line plant all rows) (trains plant) t _ c.from_residual.result c.from_residual.ensures.0
    (omega (arith, c.loop-number-test.true, c.loop-number.auto.number-end, c.trains-trains.ensures.count, c.moves.ensures.trains))
    c.loop-number.invariant here

pub loop-number-preserved : goal.loop-number-preserved
loop-number-preserved g c =
    let plant = c.args.plant.now in
    let t = c.loop-number.number in
    let all = c.args.delays.now.accounts in
    let rows = c.args.delays.now.visits in
    let account : c.index-accounts-from.result ≡ account_of all t =
    c.index-accounts-from.is
    ∙ get_or_default c.accounts.result.now c.from.result _ no_account (omega (arith, c.loop-number-test.true, c.loop-number.auto.number-end, c.trains-trains.ensures.count, c.moves.ensures.trains, c.requires, c.from.ensures, ap (length {A = Account}) c.accounts.ensures))
    ∙ ap (λ (xs : List Account). get_or xs c.from.result no_account) c.accounts.ensures
    ∙ ap (account_of all) c.from.ensures in
    let line = subst (λ (kept : Account). WritesText g.O.Sink c.loop-number.out c.write_train.new.out (spaced (train_words plant t c.visits.result.now kept)) (Ok tt)) account c.in_ok-write_train.ensures in
    let here = subst (λ (row : List Visit). WritesText g.O.Sink c.loop-number.out c.write_train.new.out (spaced (train_words plant t row (account_of all t))) (Ok tt)) c.visits.ensures line in
    next_written g.O.Sink _ _ _ (train_line plant all rows) t c.loop-number.invariant here
