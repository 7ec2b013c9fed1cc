-- The numbers of a line determine what it says, and so one entry is one by its numbers.
use Rattle.std.proofs.Common.{◌≡◌, ℕ, true, cond, eqb, List, get_or, refl, sym, ap, ◌∙◌}
use Rattle.std.specs.Cmp.Lexicographic.{bytes_decides}
use Rattle.std.proofs.lemmas.Bool.{and_parts, eqb-true}
use Rattle.rail_base.specs.declared.history.Entry.{Entry}
use Rattle.rail_base.specs.declared.history.What.{What}
use Rattle.rail_base.specs.declared.history.What.TheVariants.{Free, Arrive, Enter, Out, Ready, Told, Untold, Admit, Hold, End}
use Rattle.rail_base.specs.declared.history.Note.{Note}
use Rattle.rail_base.specs.declared.history.Note.TheVariants.{Pulled, Appended, Fresh}
use Rattle.rail_base.specs.declared.history.Cause.{Cause}
use Rattle.rail_base.specs.declared.history.Cause.TheVariants.{Stopped, Closed, Blocked, NoList}
use Rattle.rail_rules.specs.Numbers.{same_numbers}
use Rattle.rail_rules.specs.Fronts.{code_of, same_entry}

-- what the numbers say: by class, number and the rest
note_back : ℕ → Note
note_back n = cond (eqb n 0) Pulled (cond (eqb n 1) Appended Fresh)

cause_back : ℕ → ℕ → ℕ → Cause
cause_back n x u = cond (eqb n 0) Stopped (cond (eqb n 1) (Closed x) (cond (eqb n 2) (Blocked x u) NoList))

what_back : List ℕ → What
what_back code =
    let class : ℕ = get_or code 0 0 in
    let a : ℕ = get_or code 1 0 in
    let b : ℕ = get_or code 2 0 in
    let c : ℕ = get_or code 3 0 in
    cond (eqb class 0) (Free a b) (cond (eqb class 1) (Arrive a b) (cond (eqb class 2) (Enter a b c) (cond (eqb class 3) (Out a) (cond (eqb class 4) (Ready a b)
    (cond (eqb class 5) (cond (eqb b 0) (Told a) (Untold a)) (cond (eqb class 6) (Admit a b (note_back c)) (cond (eqb class 7) (Hold a b (cause_back c (get_or code 4 0) (get_or code 5 0))) End)))))))

back : (what : What) → what_back (code_of what) ≡ what
unfolding what_back note_back cause_back
back (Free x t) = refl
back (Arrive t m) = refl
back (Enter t m x) = refl
back (Out t) = refl
back (Ready t m) = refl
back (Told k) = refl
back (Untold k) = refl
back (Admit t m Pulled) = refl
back (Admit t m Appended) = refl
back (Admit t m Fresh) = refl
back (Hold t m Stopped) = refl
back (Hold t m (Closed x)) = refl
back (Hold t m (Blocked x u)) = refl
back (Hold t m NoList) = refl
back End = refl

pub same_what : (a b : What) → same_numbers (code_of a) (code_of b) ≡ true → a ≡ b
same_what a b h = sym (back a) ∙ ap what_back ((bytes_decides (code_of a) (code_of b)).0 h) ∙ back b

-- entries that are one by their numbers are one
pub one_entry : (a b : Entry) → same_entry a b ≡ true → a ≡ b
one_entry a b h =
    let both = and_parts (eqb a.at b.at) (same_numbers (code_of a.what) (code_of b.what)) h in
    let times = eqb-true a.at b.at both.0 in
    let whats = same_what a.what b.what both.1 in
    λ i. record { at = times i; what = whats i }
