-- Which lines are free, ready and enter lines.
use Rattle.std.proofs.Common.{◌≡◌, ℕ, eqb, Bool, true, false, refl, sym, ap, ◌∙◌, ◌⊎◌, inl, inr, ⊎_elim}
use Rattle.std.proofs.lemmas.Bool.{cases_Bool, eqb-true, eq-eqb, false≢true}
use Rattle.rail_base.specs.declared.history.What.{What}
use Rattle.rail_base.specs.declared.history.What.TheVariants.{Free, Arrive, Enter, Out, Ready, Told, Untold, Admit, Hold, End}
use Rattle.rail_rules.specs.Lawful.{is_out_line}
use Rattle.rail_laws_step.specs.Heads.{enters}

abbrev pub is_ready_line : What → Bool
is_ready_line (Ready t m) = true
is_ready_line _ = false

abbrev ready_train : What → ℕ
ready_train (Ready t m) = t
ready_train _ = 0

-- a line is a ready line of the train or isn't
pub ready_view : (t : ℕ) (w : What) → ((m : ℕ) × (w ≡ Ready t m)) ⊎ ((m : ℕ) → w ≡ Ready t m → ⊥)
ready_view t (Ready u m) =
    ⊎_elim
    (λ here. inl (m, ap (λ v. Ready v m) (eqb-true u t here)))
    (λ other. inr (λ n same. false≢true (sym other ∙ eq-eqb u t (ap ready_train same))))
    (cases_Bool (eqb u t))
ready_view t (Free x u) = inr (λ m same. false≢true (ap is_ready_line same))
ready_view t (Arrive u n) = inr (λ m same. false≢true (ap is_ready_line same))
ready_view t (Enter u n x) = inr (λ m same. false≢true (ap is_ready_line same))
ready_view t (Out u) = inr (λ m same. false≢true (ap is_ready_line same))
ready_view t (Told k) = inr (λ m same. false≢true (ap is_ready_line same))
ready_view t (Untold k) = inr (λ m same. false≢true (ap is_ready_line same))
ready_view t (Admit u n note) = inr (λ m same. false≢true (ap is_ready_line same))
ready_view t (Hold u n why) = inr (λ m same. false≢true (ap is_ready_line same))
ready_view t End = inr (λ m same. false≢true (ap is_ready_line same))

abbrev pub is_free_line : What → Bool
is_free_line (Free x t) = true
is_free_line _ = false

pub record FreesOne (w : What) : Type 0 where
  pub section : ℕ
  pub train : ℕ
  pub same : w ≡ Free section train

-- a line is a free line or isn't
pub free_view : (w : What) → FreesOne w ⊎ ((x t : ℕ) → w ≡ Free x t → ⊥)
free_view (Free x u) = inl (record { section = x; train = u; same = refl })
free_view (Ready u m) = inr (λ x t same. false≢true (ap is_free_line same))
free_view (Arrive u n) = inr (λ x t same. false≢true (ap is_free_line same))
free_view (Enter u n y) = inr (λ x t same. false≢true (ap is_free_line same))
free_view (Out u) = inr (λ x t same. false≢true (ap is_free_line same))
free_view (Told k) = inr (λ x t same. false≢true (ap is_free_line same))
free_view (Untold k) = inr (λ x t same. false≢true (ap is_free_line same))
free_view (Admit u n note) = inr (λ x t same. false≢true (ap is_free_line same))
free_view (Hold u n why) = inr (λ x t same. false≢true (ap is_free_line same))
free_view End = inr (λ x t same. false≢true (ap is_free_line same))

pub record EntersOne (t : ℕ) (w : What) : Type 0 where
  pub move : ℕ
  pub section : ℕ
  pub same : w ≡ Enter t move section

-- a line is an enter line of the train or isn't
pub enter_view : (t : ℕ) (w : What) → EntersOne t w ⊎ (enters t w ≡ false)
enter_view t (Enter u m x) = ⊎_elim (λ here. inl (record { move = m; section = x; same = ap (λ v. Enter v m x) (eqb-true u t here) })) (λ other. inr other) (cases_Bool (eqb u t))
enter_view t (Free x u) = inr refl
enter_view t (Ready u m) = inr refl
enter_view t (Arrive u n) = inr refl
enter_view t (Out u) = inr refl
enter_view t (Told k) = inr refl
enter_view t (Untold k) = inr refl
enter_view t (Admit u n note) = inr refl
enter_view t (Hold u n why) = inr refl
enter_view t End = inr refl

-- a line is an out line of the train or isn't
pub out_view : (t : ℕ) (w : What) → (w ≡ Out t) ⊎ (is_out_line t w ≡ false)
out_view t (Out u) = ⊎_elim (λ here. inl (ap Out (eqb-true u t here))) (λ other. inr other) (cases_Bool (eqb u t))
out_view t (Enter u m x) = inr refl
out_view t (Free x u) = inr refl
out_view t (Ready u m) = inr refl
out_view t (Arrive u n) = inr refl
out_view t (Told k) = inr refl
out_view t (Untold k) = inr refl
out_view t (Admit u n note) = inr refl
out_view t (Hold u n why) = inr refl
out_view t End = inr refl
