-- Failures that are kept.
use Rattle.std.proofs.Common.{◌≡◌, ◌≢◌, ℕ, suc, ◌<◌, ◌==◌, Bool, true, false, not, ◌&&◌, ◌||◌, List, length, Option, IfSome, refl, sym, ap, ◌∙◌, subst, ⊎_elim, arith}
use Rattle.std.proofs.lemmas.Bool.{and_cases, and_from, and_left, and_parts, and_right, cases_eq, eq-eqb, false≢true, ne_eqb, not-false, not-true, or_from, or_parts, or_right}
use Rattle.std.proofs.lemmas.List.{length-set}
use Rattle.rail_rules.specs.Moves.{Moves}
use Rattle.rail_rules.specs.Places.{after, place_of}
use Rattle.rail_rules.specs.Analysis.{finds}
use Rattle.rail_sets.specs.declared.train_set.TrainSet.{TrainSet}
use Rattle.rail_sets.specs.TrainSets.{has_train}
use Rattle.rail_consequence.specs.Cores.{IsCore}
use Rattle.rail_consequence.proofs.CallerLemmas.{core_behind, core_none}
use Rattle.rail_list.specs.Failures.{AreFailures, AreKept, AreOthersKept, Failed, HasMoved, TellsKept, TellsSafe, core_at, is_core_kept, is_forgotten, is_kept}
use Rattle.rail_list.proofs.Behind.{core_kept}
use Rattle.rail_list.proofs.Finding.{finds_none}

-- the failures that a move leaves are failures behind it
pub failures_behind : (plan : Moves) (depth : ℕ) (s r : List ℕ) (moved : ℕ) (old new : Failed)
    → HasMoved plan s moved r → new.cores ≡ old.cores → AreKept plan moved r old new
    → AreFailures plan depth s old → AreFailures plan depth r new
failures_behind plan depth s r moved old new came cores kept are t lt is =
    let there : r ≡ after s moved = came.0 in
    let both = and_parts (is_kept old t) (not (is_forgotten plan s old moved t)) (sym (kept s came t) ∙ is) in
    let stays = or_parts (t == moved) (has_train (core_at old t) moved && not (is_core_kept plan s moved t)) (not-true (is_forgotten plan s old moved t) both.1) in
    let ne : t ≢ moved = λ e. false≢true (sym stays.0 ∙ eq-eqb t moved e) in
    let same : core_at old t ≡ core_at new t = ap (λ (list : List TrainSet). core_at (record { cores = list; kept = new.kept }) t) (sym cores) in
    let listed : t < length s = omega (arith, lt, ap length there, length-set s moved (suc (place_of s moved))) in
    let P : List ℕ → Type 0 = λ q. IsCore plan depth (after q t) (has_train (core_at new t)) in
    let Q : TrainSet → Type 0 = λ set. IsCore plan depth (after (after s moved) t) (has_train set) in
    let core : ℕ → Bool = has_train (core_at old t) in
    let was : IsCore plan depth (after s t) core = are t listed both.0 in
    subst P (sym there)
    (subst Q same
    (⊎_elim
    (λ apart. core_behind plan depth s t moved core listed (λ e. ne (sym e)) apart was)
    (λ lasts. core_kept plan depth s moved t core ne (not-false (is_core_kept plan s moved t) lasts) was)
    (and_cases (core moved) (not (is_core_kept plan s moved t)) stays.1)))

and_yes : (b : Bool) → (b && true) ≡ b
and_yes true = refl
and_yes false = refl

-- those that the move doesn't touch stay as they are
pub others_forgotten : (plan : Moves) (s r : List ℕ) (moved : ℕ) (old new : Failed) → HasMoved plan s moved r → new.cores ≡ old.cores
    → AreKept plan moved r old new → AreOthersKept moved old new
others_forgotten plan s r moved old new came cores kept = λ t untouched.
    let apart = or_parts (t == moved) (has_train (core_at old t) moved) untouched in
    let stays : is_forgotten plan s old moved t ≡ false =
    or_from (t == moved) (has_train (core_at old t) moved && not (is_core_kept plan s moved t)) apart.0
    (and_left (has_train (core_at old t) moved) (not (is_core_kept plan s moved t)) apart.1) in (
      kept s came t ∙ ap (λ b. is_kept old t && not b) stays ∙ and_yes (is_kept old t),
      ap (λ (list : List TrainSet). core_at (record { cores = list; kept = new.kept }) t) cores,
    )

-- so do all failures but that of the train of which one is kept
pub others_noted : (moved : ℕ) (old new : Failed) → ((t : ℕ) → is_kept new t ≡ (t == moved || is_kept old t))
    → ((t : ℕ) → t ≢ moved → core_at new t ≡ core_at old t) → AreOthersKept moved old new
others_noted moved old new kept cores = λ t untouched.
    let other : (t == moved) ≡ false = (or_parts (t == moved) (has_train (core_at old t) moved) untouched).0 in (
      kept t ∙ ap (λ b. b || is_kept old t) other,
      cores t (λ same. false≢true (sym other ∙ eq-eqb t moved same)),
    )

-- a failure more
pub failures_more : (plan : Moves) (depth : ℕ) (s : List ℕ) (train : ℕ) (core : TrainSet) (old new : Failed)
    → IsCore plan depth (after s train) (has_train core)
    → ((t : ℕ) → is_kept new t ≡ (t == train || is_kept old t))
    → core_at new train ≡ core → ((t : ℕ) → t ≢ train → core_at new t ≡ core_at old t)
    → AreFailures plan depth s old → AreFailures plan depth s new
failures_more plan depth s train core old new is kept here others are t lt on =
    ⊎_elim
    (λ same.
    let P : ℕ → Type 0 = λ u. IsCore plan depth (after s u) (has_train (core_at new u)) in
    let Q : TrainSet → Type 0 = λ set. IsCore plan depth (after s train) (has_train set) in
    subst P (sym same) (subst Q (sym here) is))
    (λ ne.
    let Q : TrainSet → Type 0 = λ set. IsCore plan depth (after s t) (has_train set) in
    let off : (t == train) ≡ false = ne_eqb t train ne in
    subst Q (sym (others t ne)) (are t lt (sym (kept t ∙ ap (λ b. b || is_kept old t) off) ∙ on)))
    (cases_eq t train)

-- nothing is found where a failure is kept
pub failure_finds_none : (plan : Moves) (depth : ℕ) (s : List ℕ) (t : ℕ) (failed : Failed) → AreFailures plan depth s failed
    → t < length s → is_kept failed t ≡ true → finds plan depth (after s t) ≡ false
failure_finds_none plan depth s t failed are lt is =
    finds_none plan depth (after s t) (core_none plan depth (after s t) (has_train (core_at failed t)) (are t lt is))

-- the train that moved is one of the core, which doesn't last
abbrev pub is_ended : Moves → List ℕ → Failed → ℕ → ℕ → Bool
is_ended plan s old moved t = has_train (core_at old t) moved && not (is_core_kept plan s moved t)

-- what is kept where a train moved: of the trains that are not left any more those whose core doesn't last are taken out, of the others only the train that moved
pub record IsForgotten (plan : Moves) (s : List ℕ) (old : Failed) (moved : ℕ) (kept left : TrainSet) : Type 0 where
  pub later : (t : ℕ) → has_train left t ≡ true → has_train kept t ≡ (not (t == moved) && is_kept old t)
  pub done : (t : ℕ) → has_train left t ≡ false → has_train kept t ≡ (is_kept old t && not (is_forgotten plan s old moved t))

-- the same wherever the train came from, where it is none of those that are left; and what is known of its move
pub record IsForgetting (plan : Moves) (r : List ℕ) (old : Failed) (moved : ℕ) (kept left : TrainSet) (known : Option Bool) : Type 0 where
  pub other : (t : ℕ) → has_train left t ≡ true → t ≢ moved
  pub told : IfSome known (TellsSafe plan moved r)
  pub forgotten : (s : List ℕ) → HasMoved plan s moved r → IsForgotten plan s old moved kept left

ended_is : (own kept ended : Bool) → ended ≡ false → (not own && kept) ≡ (kept && not (own || ended))
ended_is true true ended off = refl
ended_is true false ended off = refl
ended_is false true ended off = ap not (sym off)
ended_is false false ended off = refl

-- one train of those that are left is done, and the others are as before
forgotten_next : (plan : Moves) (s : List ℕ) (old : Failed) (moved t : ℕ) (kept next left fewer : TrainSet)
    → ((u : ℕ) → has_train fewer u ≡ (not (u == t) && has_train left u))
    → IsForgotten plan s old moved kept left
    → has_train next t ≡ (is_kept old t && not (is_forgotten plan s old moved t))
    → ((u : ℕ) → u ≢ t → has_train next u ≡ has_train kept u) → IsForgotten plan s old moved next fewer
forgotten_next plan s old moved t kept next left fewer taken before here others = record {
  later = λ u on.
      let both = and_parts (not (u == t)) (has_train left u) (sym (taken u) ∙ on) in
      others u (λ e. false≢true (sym (not-true (u == t) both.0) ∙ eq-eqb u t e)) ∙ before.later u both.1;
  done = λ u off.
      ⊎_elim
      (λ same.
      let P : ℕ → Type 0 = λ v. has_train next v ≡ (is_kept old v && not (is_forgotten plan s old moved v)) in
      subst P (sym same) here)
      (λ ne.
      let out : has_train left u ≡ false = sym (ap (λ b. not b && has_train left u) (ne_eqb u t ne)) ∙ sym (taken u) ∙ off in
      others u ne ∙ before.done u out)
      (cases_eq u t);
}

-- who is left is not the train that moved
fewer_other : (moved t : ℕ) (left fewer : TrainSet) → ((u : ℕ) → has_train fewer u ≡ (not (u == t) && has_train left u))
    → ((u : ℕ) → has_train left u ≡ true → u ≢ moved) → (u : ℕ) → has_train fewer u ≡ true → u ≢ moved
fewer_other moved t left fewer taken other u on = other u (and_parts (not (u == t)) (has_train left u) (sym (taken u) ∙ on)).1

-- the train that moved is one of its core, which doesn't last: it is taken out
pub forgetting_ended : (plan : Moves) (r : List ℕ) (old : Failed) (moved t : ℕ) (kept next left fewer : TrainSet) (known told_now : Option Bool) (lasts : Bool)
    → ((u : ℕ) → has_train fewer u ≡ (not (u == t) && has_train left u))
    → IsForgetting plan r old moved kept left known
    → has_train (core_at old t) moved ≡ true → IfSome told_now (TellsSafe plan moved r) → TellsKept plan moved t r lasts → lasts ≡ false
    → ((u : ℕ) → has_train next u ≡ (not (u == t) && has_train kept u)) → IsForgetting plan r old moved next fewer told_now
forgetting_ended plan r old moved t kept next left fewer known told_now lasts taken before touched told tells off out =
    let none : has_train next t ≡ false = out t ∙ ap (λ b. not b && has_train kept t) (eq-eqb t t refl) in record {
      other = fewer_other moved t left fewer taken before.other;
      told = told;
      forgotten = λ s came.
          let ended : is_ended plan s old moved t ≡ true =
          and_from (has_train (core_at old t) moved) (not (is_core_kept plan s moved t)) touched (ap not (sym (tells s came) ∙ off)) in
          forgotten_next plan s old moved t kept next left fewer taken (before.forgotten s came)
          (none ∙ sym (and_right (is_kept old t) (not (is_forgotten plan s old moved t)) (ap not (or_right (t == moved) (is_ended plan s old moved t) ended))))
          (λ u ne. out u ∙ ap (λ b. not b && has_train kept u) (ne_eqb u t ne));
    }

-- it is none of its core, or the core lasts: it stays
forgetting_lasts : (plan : Moves) (r : List ℕ) (old : Failed) (moved t : ℕ) (kept left fewer : TrainSet) (known told_now : Option Bool)
    → ((u : ℕ) → has_train fewer u ≡ (not (u == t) && has_train left u))
    → has_train left t ≡ true → IsForgetting plan r old moved kept left known
    → IfSome told_now (TellsSafe plan moved r) → ((s : List ℕ) → HasMoved plan s moved r → is_ended plan s old moved t ≡ false) → IsForgetting plan r old moved kept fewer told_now
forgetting_lasts plan r old moved t kept left fewer known told_now taken was before told lasts = record {
  other = fewer_other moved t left fewer taken before.other;
  told = told;
  forgotten = λ s came.
      let now : IsForgotten plan s old moved kept left = before.forgotten s came in
      forgotten_next plan s old moved t kept kept left fewer taken now
      (now.later t was ∙ ended_is (t == moved) (is_kept old t) (is_ended plan s old moved t) (lasts s came))
      (λ u ne. refl);
}

pub forgetting_apart : (plan : Moves) (r : List ℕ) (old : Failed) (moved t : ℕ) (kept left fewer : TrainSet) (known : Option Bool)
    → ((u : ℕ) → has_train fewer u ≡ (not (u == t) && has_train left u))
    → has_train left t ≡ true → IsForgetting plan r old moved kept left known
    → has_train (core_at old t) moved ≡ false → IsForgetting plan r old moved kept fewer known
forgetting_apart plan r old moved t kept left fewer known taken was before apart =
    forgetting_lasts plan r old moved t kept left fewer known known taken was before before.told
    (λ s came. and_left (has_train (core_at old t) moved) (not (is_core_kept plan s moved t)) apart)

pub forgetting_kept : (plan : Moves) (r : List ℕ) (old : Failed) (moved t : ℕ) (kept left fewer : TrainSet) (known told_now : Option Bool) (lasts : Bool)
    → ((u : ℕ) → has_train fewer u ≡ (not (u == t) && has_train left u))
    → has_train left t ≡ true → IsForgetting plan r old moved kept left known
    → IfSome told_now (TellsSafe plan moved r) → TellsKept plan moved t r lasts → lasts ≡ true → IsForgetting plan r old moved kept fewer told_now
forgetting_kept plan r old moved t kept left fewer known told_now lasts taken was before told tells on =
    forgetting_lasts plan r old moved t kept left fewer known told_now taken was before told
    (λ s came. and_right (has_train (core_at old t) moved) (not (is_core_kept plan s moved t)) (ap not (sym (tells s came) ∙ on)))

-- the search from behind the next move of the train failed with the core
pub failure_noted : (plan : Moves) (depth : ℕ) (s r : List ℕ) (train : ℕ) (found core : TrainSet) (old new : Failed)
    → r ≡ after s train → core ≡ found → IsCore plan depth r (has_train found)
    → ((t : ℕ) → is_kept new t ≡ (t == train || is_kept old t))
    → core_at new train ≡ core → ((t : ℕ) → t ≢ train → core_at new t ≡ core_at old t)
    → AreFailures plan depth s old → AreFailures plan depth s new
failure_noted plan depth s r train found core old new there same is kept here others are =
    let P : List ℕ → Type 0 = λ q. IsCore plan depth q (has_train found) in
    let Q : TrainSet → Type 0 = λ set. IsCore plan depth (after s train) (has_train set) in
    failures_more plan depth s train core old new (subst Q (sym same) (subst P there is)) kept here others are
