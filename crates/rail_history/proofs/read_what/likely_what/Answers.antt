use Rattle.std.proofs.Common.{ℕ, List, drop, Some, sym, ap, ◌∙◌, subst}
use Rattle.rail_rules.specs.Texts.{what_words}
use Rattle.rail_history.specs.declared.read_words.Verb.{Verb}
use Rattle.rail_history.proofs.Spelled.{Spells, spaceless_drop, spelled, what_spaceless}
use Rattle.rail_history.proofs.read_what.likely_what.Goals as goal

pub returns-in-Free : goal.returns-in-Free
returns-in-Free c = λ plant has named line what writable small same.
    let ws : List (List ℕ) = what_words plant line what in
    let free = what_spaceless plant named line what writable in
    let cut1 = c.cut.ensures.words ws free same in
    let free1 = spaceless_drop ws free in
    let cut2 = c.cut-2.ensures.words (drop 1 ws) free1 cut1.1 in
    let free2 = spaceless_drop (drop 1 ws) free1 in
    let cut3 = c.cut-3.ensures.words (drop 1 (drop 1 ws)) free2 cut2.1 in
    let free3 = spaceless_drop (drop 1 (drop 1 ws)) free2 in
    let cut4 = c.cut-4.ensures.words (drop 1 (drop 1 (drop 1 ws))) free3 cut3.1 in
    let by_verb = spelled plant named line what writable small c.cut.result.0.now c.cut-2.result.0.now c.cut-3.result.0.now c.cut-4.result.0.now c.cut-4.result.1.now (cut1.0, cut2.0, cut3.0, cut4.0, cut4.1) in
    let told = subst (λ (v : Verb). Spells plant c.cut-2.result.0.now c.cut-3.result.0.now c.cut-4.result.0.now c.cut-4.result.1.now what v) (sym c.verb_of.ensures ∙ c.in-Free.is) by_verb in
    c.read_free.ensures plant has named told.0 told.1 told.3 told.4 told.5 told.6 ∙ ap Some (sym told.2)

pub returns-in-Arrive : goal.returns-in-Arrive
returns-in-Arrive c = λ plant has named line what writable small same.
    let ws : List (List ℕ) = what_words plant line what in
    let free = what_spaceless plant named line what writable in
    let cut1 = c.cut.ensures.words ws free same in
    let free1 = spaceless_drop ws free in
    let cut2 = c.cut-2.ensures.words (drop 1 ws) free1 cut1.1 in
    let free2 = spaceless_drop (drop 1 ws) free1 in
    let cut3 = c.cut-3.ensures.words (drop 1 (drop 1 ws)) free2 cut2.1 in
    let free3 = spaceless_drop (drop 1 (drop 1 ws)) free2 in
    let cut4 = c.cut-4.ensures.words (drop 1 (drop 1 (drop 1 ws))) free3 cut3.1 in
    let by_verb = spelled plant named line what writable small c.cut.result.0.now c.cut-2.result.0.now c.cut-3.result.0.now c.cut-4.result.0.now c.cut-4.result.1.now (cut1.0, cut2.0, cut3.0, cut4.0, cut4.1) in
    let told = subst (λ (v : Verb). Spells plant c.cut-2.result.0.now c.cut-3.result.0.now c.cut-4.result.0.now c.cut-4.result.1.now what v) (sym c.verb_of.ensures ∙ c.in-Arrive.is) by_verb in
    c.read_arrive.ensures plant has named told.0 told.1 told.3 told.4 told.5 told.6 ∙ ap Some (sym told.2)

pub returns-in-Enter : goal.returns-in-Enter
returns-in-Enter c = λ plant has named line what writable small same.
    let ws : List (List ℕ) = what_words plant line what in
    let free = what_spaceless plant named line what writable in
    let cut1 = c.cut.ensures.words ws free same in
    let free1 = spaceless_drop ws free in
    let cut2 = c.cut-2.ensures.words (drop 1 ws) free1 cut1.1 in
    let free2 = spaceless_drop (drop 1 ws) free1 in
    let cut3 = c.cut-3.ensures.words (drop 1 (drop 1 ws)) free2 cut2.1 in
    let free3 = spaceless_drop (drop 1 (drop 1 ws)) free2 in
    let cut4 = c.cut-4.ensures.words (drop 1 (drop 1 (drop 1 ws))) free3 cut3.1 in
    let by_verb = spelled plant named line what writable small c.cut.result.0.now c.cut-2.result.0.now c.cut-3.result.0.now c.cut-4.result.0.now c.cut-4.result.1.now (cut1.0, cut2.0, cut3.0, cut4.0, cut4.1) in
    let told = subst (λ (v : Verb). Spells plant c.cut-2.result.0.now c.cut-3.result.0.now c.cut-4.result.0.now c.cut-4.result.1.now what v) (sym c.verb_of.ensures ∙ c.in-Enter.is) by_verb in
    c.read_enter.ensures plant has named told.0 told.1 told.2 told.4 told.5 told.6 told.7 told.8 told.9 ∙ ap Some (sym told.3)

pub returns-in-Out : goal.returns-in-Out
returns-in-Out c = λ plant has named line what writable small same.
    let ws : List (List ℕ) = what_words plant line what in
    let free = what_spaceless plant named line what writable in
    let cut1 = c.cut.ensures.words ws free same in
    let free1 = spaceless_drop ws free in
    let cut2 = c.cut-2.ensures.words (drop 1 ws) free1 cut1.1 in
    let free2 = spaceless_drop (drop 1 ws) free1 in
    let cut3 = c.cut-3.ensures.words (drop 1 (drop 1 ws)) free2 cut2.1 in
    let free3 = spaceless_drop (drop 1 (drop 1 ws)) free2 in
    let cut4 = c.cut-4.ensures.words (drop 1 (drop 1 (drop 1 ws))) free3 cut3.1 in
    let by_verb = spelled plant named line what writable small c.cut.result.0.now c.cut-2.result.0.now c.cut-3.result.0.now c.cut-4.result.0.now c.cut-4.result.1.now (cut1.0, cut2.0, cut3.0, cut4.0, cut4.1) in
    let told = subst (λ (v : Verb). Spells plant c.cut-2.result.0.now c.cut-3.result.0.now c.cut-4.result.0.now c.cut-4.result.1.now what v) (sym c.verb_of.ensures ∙ c.in-Out.is) by_verb in
    c.read_out.ensures plant has named told.0 told.2 told.3 ∙ ap Some (sym told.1)

pub returns-in-Ready : goal.returns-in-Ready
returns-in-Ready c = λ plant has named line what writable small same.
    let ws : List (List ℕ) = what_words plant line what in
    let free = what_spaceless plant named line what writable in
    let cut1 = c.cut.ensures.words ws free same in
    let free1 = spaceless_drop ws free in
    let cut2 = c.cut-2.ensures.words (drop 1 ws) free1 cut1.1 in
    let free2 = spaceless_drop (drop 1 ws) free1 in
    let cut3 = c.cut-3.ensures.words (drop 1 (drop 1 ws)) free2 cut2.1 in
    let free3 = spaceless_drop (drop 1 (drop 1 ws)) free2 in
    let cut4 = c.cut-4.ensures.words (drop 1 (drop 1 (drop 1 ws))) free3 cut3.1 in
    let by_verb = spelled plant named line what writable small c.cut.result.0.now c.cut-2.result.0.now c.cut-3.result.0.now c.cut-4.result.0.now c.cut-4.result.1.now (cut1.0, cut2.0, cut3.0, cut4.0, cut4.1) in
    let told = subst (λ (v : Verb). Spells plant c.cut-2.result.0.now c.cut-3.result.0.now c.cut-4.result.0.now c.cut-4.result.1.now what v) (sym c.verb_of.ensures ∙ c.in-Ready.is) by_verb in
    c.read_ready.ensures plant has named told.0 told.1 told.3 told.4 told.5 told.6 ∙ ap Some (sym told.2)

pub returns-in-Told : goal.returns-in-Told
returns-in-Told c = λ plant has named line what writable small same.
    let ws : List (List ℕ) = what_words plant line what in
    let free = what_spaceless plant named line what writable in
    let cut1 = c.cut.ensures.words ws free same in
    let free1 = spaceless_drop ws free in
    let cut2 = c.cut-2.ensures.words (drop 1 ws) free1 cut1.1 in
    let free2 = spaceless_drop (drop 1 ws) free1 in
    let cut3 = c.cut-3.ensures.words (drop 1 (drop 1 ws)) free2 cut2.1 in
    let free3 = spaceless_drop (drop 1 (drop 1 ws)) free2 in
    let cut4 = c.cut-4.ensures.words (drop 1 (drop 1 (drop 1 ws))) free3 cut3.1 in
    let by_verb = spelled plant named line what writable small c.cut.result.0.now c.cut-2.result.0.now c.cut-3.result.0.now c.cut-4.result.0.now c.cut-4.result.1.now (cut1.0, cut2.0, cut3.0, cut4.0, cut4.1) in
    let told = subst (λ (v : Verb). Spells plant c.cut-2.result.0.now c.cut-3.result.0.now c.cut-4.result.0.now c.cut-4.result.1.now what v) (sym c.verb_of.ensures ∙ c.in-Told.is) by_verb in
    c.read_told.ensures told.0 told.2 told.3 ∙ ap Some (sym told.1)

pub returns-in-Untold : goal.returns-in-Untold
returns-in-Untold c = λ plant has named line what writable small same.
    let ws : List (List ℕ) = what_words plant line what in
    let free = what_spaceless plant named line what writable in
    let cut1 = c.cut.ensures.words ws free same in
    let free1 = spaceless_drop ws free in
    let cut2 = c.cut-2.ensures.words (drop 1 ws) free1 cut1.1 in
    let free2 = spaceless_drop (drop 1 ws) free1 in
    let cut3 = c.cut-3.ensures.words (drop 1 (drop 1 ws)) free2 cut2.1 in
    let free3 = spaceless_drop (drop 1 (drop 1 ws)) free2 in
    let cut4 = c.cut-4.ensures.words (drop 1 (drop 1 (drop 1 ws))) free3 cut3.1 in
    let by_verb = spelled plant named line what writable small c.cut.result.0.now c.cut-2.result.0.now c.cut-3.result.0.now c.cut-4.result.0.now c.cut-4.result.1.now (cut1.0, cut2.0, cut3.0, cut4.0, cut4.1) in
    let told = subst (λ (v : Verb). Spells plant c.cut-2.result.0.now c.cut-3.result.0.now c.cut-4.result.0.now c.cut-4.result.1.now what v) (sym c.verb_of.ensures ∙ c.in-Untold.is) by_verb in
    c.read_untold.ensures told.0 told.2 told.3 ∙ ap Some (sym told.1)

pub returns-in-Admit : goal.returns-in-Admit
returns-in-Admit c = λ plant has named line what writable small same.
    let ws : List (List ℕ) = what_words plant line what in
    let free = what_spaceless plant named line what writable in
    let cut1 = c.cut.ensures.words ws free same in
    let free1 = spaceless_drop ws free in
    let cut2 = c.cut-2.ensures.words (drop 1 ws) free1 cut1.1 in
    let free2 = spaceless_drop (drop 1 ws) free1 in
    let cut3 = c.cut-3.ensures.words (drop 1 (drop 1 ws)) free2 cut2.1 in
    let free3 = spaceless_drop (drop 1 (drop 1 ws)) free2 in
    let cut4 = c.cut-4.ensures.words (drop 1 (drop 1 (drop 1 ws))) free3 cut3.1 in
    let by_verb = spelled plant named line what writable small c.cut.result.0.now c.cut-2.result.0.now c.cut-3.result.0.now c.cut-4.result.0.now c.cut-4.result.1.now (cut1.0, cut2.0, cut3.0, cut4.0, cut4.1) in
    let told = subst (λ (v : Verb). Spells plant c.cut-2.result.0.now c.cut-3.result.0.now c.cut-4.result.0.now c.cut-4.result.1.now what v) (sym c.verb_of.ensures ∙ c.in-Admit.is) by_verb in
    c.read_admit.ensures plant has named told.0 told.1 told.2 told.4 told.5 told.6 told.7 told.8 ∙ ap Some (sym told.3)

pub returns-in-Hold : goal.returns-in-Hold
returns-in-Hold c = λ plant has named line what writable small same.
    let ws : List (List ℕ) = what_words plant line what in
    let free = what_spaceless plant named line what writable in
    let cut1 = c.cut.ensures.words ws free same in
    let free1 = spaceless_drop ws free in
    let cut2 = c.cut-2.ensures.words (drop 1 ws) free1 cut1.1 in
    let free2 = spaceless_drop (drop 1 ws) free1 in
    let cut3 = c.cut-3.ensures.words (drop 1 (drop 1 ws)) free2 cut2.1 in
    let free3 = spaceless_drop (drop 1 (drop 1 ws)) free2 in
    let cut4 = c.cut-4.ensures.words (drop 1 (drop 1 (drop 1 ws))) free3 cut3.1 in
    let by_verb = spelled plant named line what writable small c.cut.result.0.now c.cut-2.result.0.now c.cut-3.result.0.now c.cut-4.result.0.now c.cut-4.result.1.now (cut1.0, cut2.0, cut3.0, cut4.0, cut4.1) in
    let told = subst (λ (v : Verb). Spells plant c.cut-2.result.0.now c.cut-3.result.0.now c.cut-4.result.0.now c.cut-4.result.1.now what v) (sym c.verb_of.ensures ∙ c.in-Hold.is) by_verb in
    c.read_hold.ensures plant has named told.0 told.1 told.2 told.4 told.5 told.6 told.7 told.8 told.9 told.10 ∙ ap Some (sym told.3)

pub returns-in-End : goal.returns-in-End
returns-in-End c = λ plant has named line what writable small same.
    let ws : List (List ℕ) = what_words plant line what in
    let free = what_spaceless plant named line what writable in
    let cut1 = c.cut.ensures.words ws free same in
    let free1 = spaceless_drop ws free in
    let cut2 = c.cut-2.ensures.words (drop 1 ws) free1 cut1.1 in
    let free2 = spaceless_drop (drop 1 ws) free1 in
    let cut3 = c.cut-3.ensures.words (drop 1 (drop 1 ws)) free2 cut2.1 in
    let free3 = spaceless_drop (drop 1 (drop 1 ws)) free2 in
    let cut4 = c.cut-4.ensures.words (drop 1 (drop 1 (drop 1 ws))) free3 cut3.1 in
    let by_verb = spelled plant named line what writable small c.cut.result.0.now c.cut-2.result.0.now c.cut-3.result.0.now c.cut-4.result.0.now c.cut-4.result.1.now (cut1.0, cut2.0, cut3.0, cut4.0, cut4.1) in
    let told = subst (λ (v : Verb). Spells plant c.cut-2.result.0.now c.cut-3.result.0.now c.cut-4.result.0.now c.cut-4.result.1.now what v) (sym c.verb_of.ensures ∙ c.in-End.is) by_verb in
    ap Some (sym told)

pub returns-in-Other : goal.returns-in-Other
returns-in-Other c = λ plant has named line what writable small same.
    let ws : List (List ℕ) = what_words plant line what in
    let free = what_spaceless plant named line what writable in
    let cut1 = c.cut.ensures.words ws free same in
    let free1 = spaceless_drop ws free in
    let cut2 = c.cut-2.ensures.words (drop 1 ws) free1 cut1.1 in
    let free2 = spaceless_drop (drop 1 ws) free1 in
    let cut3 = c.cut-3.ensures.words (drop 1 (drop 1 ws)) free2 cut2.1 in
    let free3 = spaceless_drop (drop 1 (drop 1 ws)) free2 in
    let cut4 = c.cut-4.ensures.words (drop 1 (drop 1 (drop 1 ws))) free3 cut3.1 in
    let by_verb = spelled plant named line what writable small c.cut.result.0.now c.cut-2.result.0.now c.cut-3.result.0.now c.cut-4.result.0.now c.cut-4.result.1.now (cut1.0, cut2.0, cut3.0, cut4.0, cut4.1) in
    let told = subst (λ (v : Verb). Spells plant c.cut-2.result.0.now c.cut-3.result.0.now c.cut-4.result.0.now c.cut-4.result.1.now what v) (sym c.verb_of.ensures ∙ c.in-Other.is) by_verb in
    absurd told
