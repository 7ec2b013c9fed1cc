use Rattle.std.proofs.Common.{◌++◌, ◌∙◌, ℕ, List, []}
use Rattle.std.proofs.lemmas.Result.{err_from_is_err_and}
use Rattle.rail_ledger.specs.declared.input.RunInput.{RunInput}
use Rattle.rail_text.specs.Names.{HasNames}
use Rattle.rail_check.specs.Checkers.{Decides, IsFollowed, ReachesEnd}
use Rattle.rail_check.proofs.Following.{has_for, refused_in, with_none, with_some}
use Rattle.rail_check.proofs.file.check_file.Goals as goal

pub follow-requires-clause-following : goal.follow-requires-clause-following
follow-requires-clause-following c =
    let input : RunInput = c.args.input in
    let bytes : List ℕ = c.args.bytes.now in
    let begun : IsFollowed input bytes c.in_ok-checker.checker c.new-file.result =
    record { lines = []; read = c.new-file.ensures.front input.plant; checked = c.in_ok-checker.ensures } in
    record { input = input; bytes = bytes; is = begun }

pub returns-in_err-verdict-clause-refused : goal.returns-in_err-verdict-clause-refused
returns-in_err-verdict-clause-refused c =
    let p = err_from_is_err_and c.from_residual-in_err-verdict.result c.from_residual-in_err-verdict.ensures.1 in
    let input : RunInput = c.args.input in
    let bytes : List ℕ = c.args.bytes.now in
    let begun : IsFollowed input bytes c.in_ok-checker.checker c.new-file.result =
    record { lines = []; read = c.new-file.ensures.front input.plant; checked = c.in_ok-checker.ensures } in
    let refused = c.in_err-verdict.ensures.refused input bytes begun in
    rw (p.1, p.2) refused

pub returns-in_err-read_rest-in-Some-clause-refused :
    goal.returns-in_err-read_rest-in-Some-clause-refused
returns-in_err-read_rest-in-Some-clause-refused c =
    let p = err_from_is_err_and c.from_residual-in_err-read_rest-in-Some.result c.from_residual-in_err-read_rest-in-Some.ensures.1 in
    let input : RunInput = c.args.input in
    let bytes : List ℕ = c.args.bytes.now in
    let begun : IsFollowed input bytes c.in_ok-checker.checker c.new-file.result =
    record { lines = []; read = c.new-file.ensures.front input.plant; checked = c.in_ok-checker.ensures } in
    let decided = with_some (Decides c.in_ok-checker.checker c.new-file.result c.follow.new.file) c.in_ok-verdict.field-0 c.in-Some.verdict c.in-Some.is c.in_ok-verdict.ensures.decided input bytes begun in
    let has : HasNames input.plant c.names.result.now =
    has_for c.follow.new.self input (c.in_ok-verdict.ensures.input ∙ begun.checked.input_is) c.names.result.now (record { sections = c.names.ensures.sections; trains = c.names.ensures.trains }) in
    let refused = refused_in input c.requires.accepted c.names.result.now has bytes decided.lines c.follow.new.file decided.read c.in_err-read_rest-in-Some.field-0.0 c.in_err-read_rest-in-Some.ensures.refused in
    rw (p.1, p.2) refused

pub returns-in-Some-clause-verdict : goal.returns-in-Some-clause-verdict
returns-in-Some-clause-verdict c =
    let input : RunInput = c.args.input in
    let bytes : List ℕ = c.args.bytes.now in
    let begun : IsFollowed input bytes c.in_ok-checker.checker c.new-file.result =
    record { lines = []; read = c.new-file.ensures.front input.plant; checked = c.in_ok-checker.ensures } in
    let decided = with_some (Decides c.in_ok-checker.checker c.new-file.result c.follow.new.file) c.in_ok-verdict.field-0 c.in-Some.verdict c.in-Some.is c.in_ok-verdict.ensures.decided input bytes begun in
    let has : HasNames input.plant c.names.result.now =
    has_for c.follow.new.self input (c.in_ok-verdict.ensures.input ∙ begun.checked.input_is) c.names.result.now (record { sections = c.names.ensures.sections; trains = c.names.ensures.trains }) in
    let rest = c.in_ok-read_rest-in-Some.ensures.read input.plant has bytes decided.lines decided.read in
    record { lines = decided.lines ++ rest.0; is_history = rest.1; judged = decided.same rest.0 }

pub end-requires-clause-checking : goal.end-requires-clause-checking
end-requires-clause-checking c =
    let input : RunInput = c.args.input in
    let bytes : List ℕ = c.args.bytes.now in
    let begun : IsFollowed input bytes c.in_ok-checker.checker c.new-file.result =
    record { lines = []; read = c.new-file.ensures.front input.plant; checked = c.in_ok-checker.ensures } in
    let whole = with_none (ReachesEnd c.in_ok-checker.checker c.new-file.result c.follow.new.self) c.in_ok-verdict.field-0 c.in-None.is c.in_ok-verdict.ensures.ended input bytes begun in
    record { front = whole.checked.front; at = (whole.checked.at, whole.checked.after_hold_is) }

pub returns-clause-verdict : goal.returns-clause-verdict
returns-clause-verdict c =
    let input : RunInput = c.args.input in
    let bytes : List ℕ = c.args.bytes.now in
    let begun : IsFollowed input bytes c.in_ok-checker.checker c.new-file.result =
    record { lines = []; read = c.new-file.ensures.front input.plant; checked = c.in_ok-checker.ensures } in
    let whole = with_none (ReachesEnd c.in_ok-checker.checker c.new-file.result c.follow.new.self) c.in_ok-verdict.field-0 c.in-None.is c.in_ok-verdict.ensures.ended input bytes begun in
    record { lines = whole.lines; is_history = whole.is_history; judged = c.end.ensures input whole.lines whole.checked }
