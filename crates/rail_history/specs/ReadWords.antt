-- Words of a line, and which lines are read.
use Rattle.std.specs.Prelude.{ℕ, ◌==◌, Bool, true, not, cond, nat_lt, List, [], ◌∷◌, ◌++◌, codes, Option, Some, None}
use Rattle.std.specs.List.{list_any}
use Rattle.rail_base.specs.declared.history.What.{What}
use Rattle.rail_base.specs.declared.history.What.TheVariants.{Arrive, Enter, Ready, Told, Untold, Admit, Hold}
use Rattle.rail_base.specs.declared.history.Note.{Note}
use Rattle.rail_base.specs.declared.history.Note.TheVariants.{Pulled, Appended, Fresh}
use Rattle.rail_rules.specs.Numbers.{same_numbers}
use Rattle.rail_history.specs.declared.read_words.Verb.{Verb}
use Rattle.rail_history.specs.declared.read_words.Verb.TheVariants as verb
use Rattle.rail_history.specs.declared.read_words.HoldReason.{HoldReason}
use Rattle.rail_history.specs.declared.read_words.HoldReason.TheVariants as reason

-- words with one space between two of them
abbrev pub joined : List (List ℕ) → List ℕ
joined [] = []
joined (w ∷ []) = w
joined (w ∷ v ∷ words) = w ++ 32 ∷ joined (v ∷ words)

-- no space stands in a word
abbrev pub is_spaceless : List ℕ → Bool
is_spaceless word = not (list_any (λ b. b == 32) word)

-- a number that fits 16 bits
abbrev pub is_small : ℕ → Bool
is_small n = nat_lt n 65536

-- the numbers of a move or command fit 16 bits
abbrev pub is_small_what : What → Bool
is_small_what (Arrive t m) = is_small m
is_small_what (Enter t m x) = is_small m
is_small_what (Ready t m) = is_small m
is_small_what (Told k) = is_small k
is_small_what (Untold k) = is_small k
is_small_what (Admit t m note) = is_small m
is_small_what (Hold t m why) = is_small m
is_small_what _ = true

-- what one of the rarer words behind the time tells
abbrev pub rare_verb_of : List ℕ → Verb
rare_verb_of word =
    cond (same_numbers word (codes "told")) verb.Told
    (cond (same_numbers word (codes "untold")) verb.Untold
    (cond (same_numbers word (codes "admit")) verb.Admit
    (cond (same_numbers word (codes "hold")) verb.Hold
    (cond (same_numbers word (codes "end")) verb.End verb.Other))))

-- what the word behind the time tells
abbrev pub verb_of : List ℕ → Verb
verb_of word =
    cond (same_numbers word (codes "free")) verb.Free
    (cond (same_numbers word (codes "arrive")) verb.Arrive
    (cond (same_numbers word (codes "enter")) verb.Enter
    (cond (same_numbers word (codes "out")) verb.Out
    (cond (same_numbers word (codes "ready")) verb.Ready (rare_verb_of word)))))

-- the note that a word tells
abbrev pub note_of : List ℕ → Option Note
note_of word =
    cond (same_numbers word (codes "pulled")) (Some Pulled)
    (cond (same_numbers word (codes "appended")) (Some Appended)
    (cond (same_numbers word (codes "fresh")) (Some Fresh) None))

-- what the first word of a cause tells
abbrev pub reason_of : List ℕ → HoldReason
reason_of word =
    cond (same_numbers word (codes "stopped")) reason.Stopped
    (cond (same_numbers word (codes "closed")) reason.Closed
    (cond (same_numbers word (codes "blocked")) reason.Blocked
    (cond (same_numbers word (codes "nolist")) reason.NoList reason.Other)))
