-- What leads to the begin of the window does so still, while bounds are tightened and fixed.
use Rattle.std.proofs.Common.{◌≡◌, ℕ, zero, suc, true, List, sym, ap, ◌∙◌}
use Rattle.rail_capacity.specs.declared.bounds.TrainBound.{TrainBound}
use Rattle.rail_capacity.specs.Shifts.{touched_train}
use Rattle.rail_capacity.specs.Bounds.{bound_of, Leads}

-- each fixed bound is as it was
pub record KeepsFixed (old new : List TrainBound) : Type 0 where
  pub same : (t : ℕ) → (bound_of old t).fixed ≡ true → bound_of new t ≡ bound_of old t

pub still_leads : (old new : List TrainBound) → KeepsFixed old new → (steps t : ℕ) → Leads old steps t → Leads new steps t
still_leads old new kept zero t leads =
    let is = kept.same t leads.0 in
    (ap (λ (r : TrainBound). r.fixed) is ∙ leads.0, λ a touches. leads.1 a (sym (ap (λ (r : TrainBound). touched_train r.tight) is) ∙ touches))
still_leads old new kept (suc steps) t leads =
    let is = kept.same t leads.0 in
    (ap (λ (r : TrainBound). r.fixed) is ∙ leads.0, λ a touches. still_leads old new kept steps a (leads.1 a (sym (ap (λ (r : TrainBound). touched_train r.tight) is) ∙ touches)))

pub leads_more : (table : List TrainBound) (steps t : ℕ) → Leads table steps t → Leads table (suc steps) t
leads_more table zero t leads = (leads.0, λ a touches. absurd (leads.1 a touches))
leads_more table (suc steps) t leads = (leads.0, λ a touches. leads_more table steps a (leads.1 a touches))
