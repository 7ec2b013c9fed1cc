use Rattle.std.proofs.Common.{◌≡◌, ℕ, get_or, replicate, ⊎_elim, arith}
use Rattle.std.proofs.lemmas.Bool.{cases_lt}
use Rattle.std.proofs.lemmas.List.{get_or_past, get_or-replicate, length-replicate}
use Rattle.rail_base.specs.declared.limits.TheConstants.{TRAINS}
use Rattle.rail_consequence.specs.declared.notes.Stop.{Stop}
use Rattle.rail_consequence.specs.declared.notes.Stop.TheVariants.{Unknown}
use Rattle.rail_consequence.proofs.notes.SearchNotes.none.Goals as goal

-- nothing is noted anywhere
unknown_at : (n u : ℕ) → get_or {A = Stop} (replicate n Unknown) u Unknown ≡ Unknown
unknown_at n u =
    ⊎_elim
    (λ within. get_or-replicate n u Unknown Unknown within)
    (λ past. get_or_past (replicate n Unknown) u Unknown (omega (arith, past, length-replicate {A = Stop} n Unknown)))
    (cases_lt u n)

pub returns-clause-stops : goal.returns-clause-stops
returns-clause-stops c = λ u. unknown_at TRAINS u
