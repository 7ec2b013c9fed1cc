-- What a hold line says.
use Rattle.std.proofs.Common.{◌≡◌, ℕ, Bool, true, false, cond, eqb, Option, Some, None, sym, ap}
use Rattle.std.specs.Option.{option_map_or}
use Rattle.rail_base.specs.declared.history.What.{What}
use Rattle.rail_base.specs.declared.history.What.TheVariants.{Free, Arrive, Enter, Out, Ready, Told, Untold, Admit, Hold, End}
use Rattle.rail_delay.specs.declared.account.OpenHold.{OpenHold}
use Rattle.rail_delay.specs.Waits.{holding_by}

-- a hold line says since when by its time
pub since_now : (t at : ℕ) (what : What) (hold : OpenHold) → holding_by t at what ≡ Some hold → hold.since ≡ at
since_now t at (Hold u m why) hold same = by (eqb u t) same
  where
    by : (b : Bool) → cond b (Some (record { since = at; cause = why })) None ≡ Some hold → hold.since ≡ at
    by true same = ap (λ (o : Option OpenHold). option_map_or (λ (h : OpenHold). h.since) o at) (sym same)
    by false same = cc
since_now t at (Free x u) hold same = cc
since_now t at (Arrive u m) hold same = cc
since_now t at (Enter u m x) hold same = cc
since_now t at (Out u) hold same = cc
since_now t at (Ready u m) hold same = cc
since_now t at (Told k) hold same = cc
since_now t at (Untold k) hold same = cc
since_now t at (Admit u m note) hold same = cc
since_now t at End hold same = cc
