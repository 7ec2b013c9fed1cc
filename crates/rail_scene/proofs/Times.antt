-- A text spells one time at most, so that the greatest below a limit is that one.
use Rattle.std.proofs.Common.{◌≡◌, ℕ, zero, suc, ◌<◌, ◌≤◌, Bool, true, false, cond, ◌||◌, List, ◌++◌, codes, ◌⊎◌, inl, inr, Option, Some, None, option_and_then, refl, sym, ap, ◌∙◌, subst, arith}
use Rattle.std.proofs.lemmas.Bool.{cases_Bool}
use Rattle.std.specs.Cmp.Lexicographic.{bytes_decides}
use Rattle.rail_base.specs.NameForms.{same_name}
use Rattle.rail_base.specs.Clock.{IsLenientTime, time_text}
use Rattle.rail_scene.specs.Fields.{spells_time, time_up_to}

either : (a b : Bool) → (a || b) ≡ true → (a ≡ true) ⊎ (b ≡ true)
either true b h = inl refl
either false b h = inr h

or_true : (a b : Bool) → b ≡ true → (a || b) ≡ true
or_true true b h = refl
or_true false b h = h

spelled : (text : List ℕ) (time : ℕ) → spells_time text time ≡ true → (text ≡ time_text time) ⊎ (text ++ codes ".0" ≡ time_text time)
spelled text time h =
    elim (either (same_name text (time_text time)) (same_name (text ++ codes ".0") (time_text time)) h) [
      | inl a ↦ inl ((bytes_decides text (time_text time)).0 a)
      | inr b ↦ inr ((bytes_decides (text ++ codes ".0") (time_text time)).0 b)
    ]

is_lenient : (text : List ℕ) (time : ℕ) → time < 36_000_000_000_000_000 → spells_time text time ≡ true → IsLenientTime text time
is_lenient text time short h = record { short = short; spelled = spelled text time h }

spells : (text : List ℕ) (time : ℕ) → IsLenientTime text time → spells_time text time ≡ true
spells text time h =
    elim h.spelled [
      | inl a ↦ ap (λ b. b || same_name (text ++ codes ".0") (time_text time)) ((bytes_decides text (time_text time)).1 a)
      | inr b ↦ or_true (same_name text (time_text time)) (same_name (text ++ codes ".0") (time_text time)) ((bytes_decides (text ++ codes ".0") (time_text time)).1 b)
    ]

-- the search from a limit down
up_to-none : (limit : ℕ) (text : List ℕ) → ((t : ℕ) → t ≤ limit → spells_time text t ≡ false) → time_up_to limit text ≡ None
unfolding time_up_to
up_to-none zero text h = ap (λ b. cond b (Some 0) None) (h 0 (omega arith))
up_to-none (suc limit) text h = ap (λ b. cond b (Some (suc limit)) (time_up_to limit text)) (h (suc limit) (omega arith)) ∙ up_to-none limit text (λ t le. h t (omega arith))

up_to-some : (limit time : ℕ) (text : List ℕ) → time ≤ limit → spells_time text time ≡ true → ((t : ℕ) → t ≤ limit → spells_time text t ≡ true → t ≡ time) → time_up_to limit text ≡ Some time
unfolding time_up_to
up_to-some zero time text le is one =
    let here : time ≡ 0 = omega arith in
    ap (λ b. cond b (Some 0) None) (subst (λ (t : ℕ). spells_time text t ≡ true) here is) ∙ ap Some (sym here)
up_to-some (suc limit) time text le is one =
    elim (cases_Bool (spells_time text (suc limit))) [
      | inl there ↦ ap (λ b. cond b (Some (suc limit)) (time_up_to limit text)) there ∙ ap Some (one (suc limit) (omega arith) there)
      | inr absent ↦ let other : time ≡ suc limit → ⊥ = λ e. let bad : true ≡ false = sym (subst (λ (t : ℕ). spells_time text t ≡ true) e is) ∙ absent in cc bad in
          ap (λ b. cond b (Some (suc limit)) (time_up_to limit text)) absent ∙ up_to-some limit time text (omega (arith, other)) is (λ t less. one t (omega arith))
    ]

module _ (limit : ℕ) (short : limit < 36_000_000_000_000_000) (text : List ℕ) (one : (a b : ℕ) → IsLenientTime text a → IsLenientTime text b → a ≡ b) where
  pub reads_none : ((time : ℕ) → IsLenientTime text time → ⊥) → time_up_to limit text ≡ None
  reads_none never = up_to-none limit text (λ t le. elim (cases_Bool (spells_time text t)) [ inl there ↦ absurd (never t (is_lenient text t (omega arith) there)) | inr absent ↦ absent ])

  pub reads_some : (time : ℕ) → IsLenientTime text time → time ≤ limit → time_up_to limit text ≡ Some time
  reads_some time is le = up_to-some limit time text le (spells text time is) (λ t less yes. one t time (is_lenient text t (omega arith) yes) is)

  pub reads_late : (time : ℕ) → IsLenientTime text time → limit < time → time_up_to limit text ≡ None
  reads_late time is late = up_to-none limit text (λ t le. elim (cases_Bool (spells_time text t)) [ inl there ↦ let same : t ≡ time = one t time (is_lenient text t (omega arith) there) is in absurd (omega arith) | inr absent ↦ absent ])

-- a time that is found is none past the limit
up_to-within : (limit time : ℕ) (text : List ℕ) → time_up_to limit text ≡ Some time → time ≤ limit
unfolding time_up_to
up_to-within zero time text found = by (spells_time text 0) found
  where
    by : (b : Bool) → cond b (Some 0) None ≡ Some time → time ≤ 0
    by true is = let same : 0 ≡ time = cc in omega arith
    by false is = cc
up_to-within (suc limit) time text found = by (spells_time text (suc limit)) (up_to-within limit time text) found
  where
    by : (b : Bool) → (time_up_to limit text ≡ Some time → time ≤ limit) → cond b (Some (suc limit)) (time_up_to limit text) ≡ Some time → time ≤ suc limit
    by true rest is = let same : suc limit ≡ time = cc in omega arith
    by false rest is = let less : time ≤ limit = rest is in omega arith

pub time_within : (limit time : ℕ) (text : Option (List ℕ)) → option_and_then (time_up_to limit) text ≡ Some time → time ≤ limit
time_within limit time None found = cc
time_within limit time (Some text) found = up_to-within limit time text found
