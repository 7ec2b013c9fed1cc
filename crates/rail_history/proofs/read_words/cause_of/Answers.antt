use Rattle.std.proofs.Common.{ℕ, List, drop, Some, sym, ap, ◌∙◌, subst}
use Rattle.rail_rules.specs.Texts.{cause_words}
use Rattle.rail_history.specs.declared.read_words.HoldReason.{HoldReason}
use Rattle.rail_history.proofs.Spelled.{Causes, cause_spaceless, causes, spaceless_drop}
use Rattle.rail_history.proofs.read_words.cause_of.Goals as goal

pub returns-in-Stopped : goal.returns-in-Stopped
returns-in-Stopped c = λ plant has named why writable spelled same.
    let ws : List (List ℕ) = cause_words plant why in
    let free1 = spaceless_drop ws (cause_spaceless plant named why writable) in
    let cut1 = c.cut.ensures.words (drop 1 ws) free1 same in
    let free2 = spaceless_drop (drop 1 ws) free1 in
    let cut2 = c.cut-2.ensures.words (drop 1 (drop 1 ws)) free2 cut1.1 in
    let by_word = causes plant why writable c.args.word.now c.cut.result.0.now c.cut-2.result.0.now (spelled, cut1.0, cut2.0) in
    let told = subst (λ (r : HoldReason). Causes plant c.cut.result.0.now c.cut-2.result.0.now why r) (sym c.reason_of.ensures ∙ c.in-Stopped.is) by_word in
    ap Some (sym told)

pub returns-in-Closed : goal.returns-in-Closed
returns-in-Closed c = λ plant has named why writable spelled same.
    let ws : List (List ℕ) = cause_words plant why in
    let free1 = spaceless_drop ws (cause_spaceless plant named why writable) in
    let cut1 = c.cut.ensures.words (drop 1 ws) free1 same in
    let free2 = spaceless_drop (drop 1 ws) free1 in
    let cut2 = c.cut-2.ensures.words (drop 1 (drop 1 ws)) free2 cut1.1 in
    let by_word = causes plant why writable c.args.word.now c.cut.result.0.now c.cut-2.result.0.now (spelled, cut1.0, cut2.0) in
    let told = subst (λ (r : HoldReason). Causes plant c.cut.result.0.now c.cut-2.result.0.now why r) (sym c.reason_of.ensures ∙ c.in-Closed.is) by_word in
    c.read_closed.ensures plant has named told.0 told.2 told.3 ∙ ap Some (sym told.1)

pub returns-in-Blocked : goal.returns-in-Blocked
returns-in-Blocked c = λ plant has named why writable spelled same.
    let ws : List (List ℕ) = cause_words plant why in
    let free1 = spaceless_drop ws (cause_spaceless plant named why writable) in
    let cut1 = c.cut.ensures.words (drop 1 ws) free1 same in
    let free2 = spaceless_drop (drop 1 ws) free1 in
    let cut2 = c.cut-2.ensures.words (drop 1 (drop 1 ws)) free2 cut1.1 in
    let by_word = causes plant why writable c.args.word.now c.cut.result.0.now c.cut-2.result.0.now (spelled, cut1.0, cut2.0) in
    let told = subst (λ (r : HoldReason). Causes plant c.cut.result.0.now c.cut-2.result.0.now why r) (sym c.reason_of.ensures ∙ c.in-Blocked.is) by_word in
    c.read_blocked.ensures plant has named told.0 told.1 told.3 told.4 told.5 told.6 ∙ ap Some (sym told.2)

pub returns-in-NoList : goal.returns-in-NoList
returns-in-NoList c = λ plant has named why writable spelled same.
    let ws : List (List ℕ) = cause_words plant why in
    let free1 = spaceless_drop ws (cause_spaceless plant named why writable) in
    let cut1 = c.cut.ensures.words (drop 1 ws) free1 same in
    let free2 = spaceless_drop (drop 1 ws) free1 in
    let cut2 = c.cut-2.ensures.words (drop 1 (drop 1 ws)) free2 cut1.1 in
    let by_word = causes plant why writable c.args.word.now c.cut.result.0.now c.cut-2.result.0.now (spelled, cut1.0, cut2.0) in
    let told = subst (λ (r : HoldReason). Causes plant c.cut.result.0.now c.cut-2.result.0.now why r) (sym c.reason_of.ensures ∙ c.in-NoList.is) by_word in
    ap Some (sym told)

pub returns-in-Other : goal.returns-in-Other
returns-in-Other c = λ plant has named why writable spelled same.
    let ws : List (List ℕ) = cause_words plant why in
    let free1 = spaceless_drop ws (cause_spaceless plant named why writable) in
    let cut1 = c.cut.ensures.words (drop 1 ws) free1 same in
    let free2 = spaceless_drop (drop 1 ws) free1 in
    let cut2 = c.cut-2.ensures.words (drop 1 (drop 1 ws)) free2 cut1.1 in
    let by_word = causes plant why writable c.args.word.now c.cut.result.0.now c.cut-2.result.0.now (spelled, cut1.0, cut2.0) in
    let told = subst (λ (r : HoldReason). Causes plant c.cut.result.0.now c.cut-2.result.0.now why r) (sym c.reason_of.ensures ∙ c.in-Other.is) by_word in
    absurd told
