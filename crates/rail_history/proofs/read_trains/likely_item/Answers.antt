use Rattle.std.proofs.Common.{ℕ, ◌+◌, ◌-◌, ◌∙◌, List, drop, length, sym, arith, length-drop}
use Rattle.std.proofs.lemmas.List.{take_all}
use Rattle.rail_history.proofs.TrainsRead.{count_lt, train_lt, with_star, without_star}
use Rattle.rail_history.proofs.read_trains.likely_item.Goals as goal

pub returns-in_err-train-in-Some : goal.returns-in_err-train-in-Some
returns-in_err-train-in-Some c = λ plant has named item small is.
    let parts = with_star plant named c.args.word.now item small is c.in-Some.end (sym c.star.ensures ∙ c.in-Some.is) in
    let none = c.in_err-train-in-Some.ensures plant has named item.train (train_lt plant named item small) parts.0 in
    cc none

pub returns-in_err-count-in-Some : goal.returns-in_err-count-in-Some
returns-in_err-count-in-Some c = λ plant has named item small is.
    let parts = with_star plant named c.args.word.now item small is c.in-Some.end (sym c.star.ensures ∙ c.in-Some.is) in
    let word : List ℕ = c.args.word.now in
    let digits = take_all (length word - (c.in-Some.end + 1)) (drop (c.in-Some.end + 1) word) (omega (arith, length-drop (c.in-Some.end + 1) word)) ∙ parts.1 in
    let none = c.in_err-count-in-Some.ensures item.count (count_lt plant named item small) digits in
    cc none

pub returns-in_err-train_of-in-None : goal.returns-in_err-train_of-in-None
returns-in_err-train_of-in-None c = λ plant has named item small is.
    let parts = without_star plant named c.args.word.now item small is (sym c.star.ensures ∙ c.in-None.is) in
    let none = c.in_err-train_of-in-None.ensures plant has named item.train (train_lt plant named item small) parts.0 in
    cc none

pub returns-in_ok-count-in-Some : goal.returns-in_ok-count-in-Some
returns-in_ok-count-in-Some c = λ plant has named item small is.
    let parts = with_star plant named c.args.word.now item small is c.in-Some.end (sym c.star.ensures ∙ c.in-Some.is) in
    let word : List ℕ = c.args.word.now in
    let digits = take_all (length word - (c.in-Some.end + 1)) (drop (c.in-Some.end + 1) word) (omega (arith, length-drop (c.in-Some.end + 1) word)) ∙ parts.1 in
    let train = c.in_ok-train-in-Some.ensures plant has named item.train (train_lt plant named item small) parts.0 in
    let count = c.in_ok-count-in-Some.ensures item.count (count_lt plant named item small) digits in
    cc (train, count)

pub returns-in_ok-train_of-in-None : goal.returns-in_ok-train_of-in-None
returns-in_ok-train_of-in-None c = λ plant has named item small is.
    let parts = without_star plant named c.args.word.now item small is (sym c.star.ensures ∙ c.in-None.is) in
    let train = c.in_ok-train_of-in-None.ensures plant has named item.train (train_lt plant named item small) parts.0 in
    let one = parts.1 in
    cc (train, one)
