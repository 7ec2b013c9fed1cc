-- The runs before an entry that is taken out, moved back by one place: of each only the ends change.
use Rattle.std.proofs.Common.{◌≡◌, ◌≢◌, ℕ, zero, suc, ◌+◌, ◌-◌, ◌<◌, ◌≤◌, eqb, List, [], ◌∷◌, length, get_or, drop, set, refl, sym, ap, ◌∙◌, subst, ⊎_elim, arith}
use Rattle.std.specs.List.{remove}
use Rattle.std.proofs.lemmas.Bool.{cases_eq, cases_lt, cond-true, cond-false, eq-eqb, ne_eqb}
use Rattle.std.proofs.lemmas.Grind.{same_number_lists}
use Rattle.std.proofs.lemmas.List.{drop-drop, drop_more, get_or-drop, get_or-set_other, get_or-set_same, length-drop, length-set}
use Rattle.std.proofs.lemmas.List.Edits.{get_or-remove_above, get_or-remove_below, length-remove}
use Rattle.rail_list.specs.KeptLists.{AreRuns, before_first, entries_at_start}
use Rattle.rail_list.proofs.SideBySide.{start_head, start_other, start_same}

-- the entries of its train side by side from an entry on
abbrev from_entry : List ℕ → ℕ → ℕ
from_entry list p = entries_at_start (get_or list p 0) (drop p list)

-- a count of the entries of its train side by side from an entry on
pub record IsCount (list : List ℕ) (p c : ℕ) : Type 0 where
  pub some : 1 ≤ c
  pub few : c ≤ from_entry list p

-- an entry at a start of equal ones
record IsInside (list : List ℕ) (m n u : ℕ) : Type 0 where
  same : get_or list m 0 ≡ u
  left : n ≤ m + entries_at_start u (drop m list)

in_start : (m n u : ℕ) (list : List ℕ) → n ≤ entries_at_start u list → m < n → IsInside list m n u
in_start zero n u list few lt = record { same = (start_head u list (omega (arith, few, lt))).0; left = omega (arith, few) }
in_start (suc m) n u [] few lt = absurd (omega (arith, few, lt))
in_start (suc m) n u (v ∷ rest) few lt =
    ⊎_elim
    (λ same.
    let count : entries_at_start u (v ∷ rest) ≡ suc (entries_at_start u rest) = ap (λ k. entries_at_start u (k ∷ rest)) same ∙ start_same u rest in
    let behind = in_start m (n - 1) u rest (omega (arith, few, count)) (omega (arith, lt)) in
    record { same = behind.same; left = omega (arith, behind.left, lt) })
    (λ other. absurd (omega (arith, few, lt, start_other u v rest other)))
    (cases_eq v u)

-- an entry of a run that is known
in_run : (list : List ℕ) (i n p : ℕ) → n ≤ from_entry list i → i ≤ p → p < i + n → (get_or list p 0 ≡ get_or list i 0) × (i + n ≤ p + from_entry list p)
in_run list i n p few from below =
    let u : ℕ = get_or list i 0 in
    let inside = in_start (p - i) n u (drop i list) few (omega (arith, from, below)) in
    let at : i + (p - i) ≡ p = omega (arith, from) in
    let here : get_or list p 0 ≡ u = ap (λ j. get_or list j 0) (sym at) ∙ sym (get_or-drop i list (p - i) 0) ∙ inside.same in
    let rest : drop (p - i) (drop i list) ≡ drop p list = drop-drop (p - i) i list ∙ ap (λ j. drop j list) at in
    (here, omega (arith, inside.left, from, ap (entries_at_start u) rest, ap (λ v. entries_at_start v (drop p list)) here))

-- an entry of a run has one more side by side than the next one
next_count : (list : List ℕ) (p : ℕ) → p < length list → get_or list (p + 1) 0 ≡ get_or list p 0 → from_entry list p ≡ suc (from_entry list (p + 1))
next_count list p lt same =
    let u : ℕ = get_or list p 0 in
    ap (entries_at_start u) (drop_more list p 0 lt) ∙ start_same u (drop (p + 1) list) ∙ ap (λ v. suc (entries_at_start v (drop (p + 1) list))) (sym same)

-- an entry and its count, where a table has them
pub record IsEntry (list trains counts : List ℕ) (p q : ℕ) : Type 0 where
  pub train : get_or trains q 0 ≡ get_or list p 0
  pub count : IsCount list p (get_or counts q 0)

-- the entries up to an index stand one place later, those behind it where they stood; the entry at the index is held
pub record AreMoved (list trains counts : List ℕ) (front index u n : ℕ) : Type 0 where
  pub long : length trains ≡ length list
  pub beside : length counts ≡ length list
  pub from : front ≤ index
  pub below : index < length list
  pub train : u ≡ get_or list index 0
  pub count : IsCount list index n
  pub moved : (p : ℕ) → front ≤ p → p < index → IsEntry list trains counts p (p + 1)
  pub ahead : (p : ℕ) → index < p → p < length list → IsEntry list trains counts p p

entry_other : (list trains counts : List ℕ) (p q j k u c d : ℕ) → q ≢ j → q ≢ k → IsEntry list trains counts p q → IsEntry list (set trains j u) (set (set counts j c) k d) p q
entry_other list trains counts p q j k u c d not_j not_k is =
    let same : get_or (set (set counts j c) k d) q 0 ≡ get_or counts q 0 = get_or-set_other (set counts j c) k q d 0 not_k ∙ get_or-set_other counts j q c 0 not_j in
    let P : ℕ → Type 0 = λ x. IsCount list p x in
    record { train = get_or-set_other trains j q u 0 not_j ∙ is.train; count = subst P (sym same) is.count }

-- the train of an entry of the run that is moved
moved_train : (list trains counts : List ℕ) (front index u n p : ℕ) → AreMoved list trains counts front index u n → index + n < length list → index ≤ p → p < index + n
    → get_or (set trains (index + n) u) (p + 1) 0 ≡ get_or list p 0
moved_train list trains counts front index u n p are lt from below =
    let j : ℕ = index + n in
    let known = in_run list index n p are.count.few from below in
    ⊎_elim
    (λ last. ap (λ k. get_or (set trains j u) k 0) last ∙ get_or-set_same trains j u 0 (omega (arith, lt, are.long)) ∙ are.train ∙ sym known.0)
    (λ inner.
    let behind = in_run list index n (p + 1) are.count.few (omega (arith, from)) (omega (arith, below, inner)) in
    get_or-set_other trains j (p + 1) u 0 inner ∙ (are.ahead (p + 1) (omega (arith, from)) (omega (arith, below, lt))).train ∙ behind.0 ∙ sym known.0)
    (cases_eq (p + 1) j)

-- an entry of the run that is moved
moved_entry : (list trains counts : List ℕ) (front index u n p : ℕ) → AreMoved list trains counts front index u n → index + n < length list → index ≤ p → p < index + n
    → IsEntry list (set trains (index + n) u) (set (set counts (index + n) 1) (index + 1) n) p (p + 1)
moved_entry list trains counts front index u n p are lt from below =
    let j : ℕ = index + n in
    let known = in_run list index n p are.count.few from below in
    let ones : List ℕ = set counts j 1 in
    let long_ones : length ones ≡ length list = length-set counts j 1 ∙ are.beside in
    ⊎_elim
    (λ first.
    let at : p + 1 ≡ index + 1 = omega (arith, first) in
    let P : ℕ → Type 0 = λ x. IsCount list p x in
    let Q : ℕ → Type 0 = λ k. IsCount list k n in
    let there : get_or (set ones (index + 1) n) (p + 1) 0 ≡ n = ap (λ k. get_or (set ones (index + 1) n) k 0) at ∙ get_or-set_same ones (index + 1) n 0 (omega (arith, lt, are.count.some, long_ones)) in
    record {
      train = moved_train list trains counts front index u n p are lt from below;
      count = subst P (sym there) (subst Q (sym first) are.count);
    })
    (λ later.
    let other : p + 1 ≢ index + 1 = λ e. later (omega (arith, e)) in
    let past : get_or (set ones (index + 1) n) (p + 1) 0 ≡ get_or ones (p + 1) 0 = get_or-set_other ones (index + 1) (p + 1) n 0 other in
    let P : ℕ → Type 0 = λ x. IsCount list p x in
    ⊎_elim
    (λ last.
    let there : get_or ones (p + 1) 0 ≡ 1 = ap (λ k. get_or ones k 0) last ∙ get_or-set_same counts j 1 0 (omega (arith, lt, are.beside)) in
    record {
      train = moved_train list trains counts front index u n p are lt from below;
      count = subst P (sym (past ∙ there)) (record { some = omega arith; few = omega (arith, known.1, below) });
    })
    (λ inner.
    let next = are.ahead (p + 1) (omega (arith, from)) (omega (arith, below, lt)) in
    let there : get_or ones (p + 1) 0 ≡ get_or counts (p + 1) 0 = get_or-set_other counts j (p + 1) 1 0 inner in
    let behind = in_run list index n (p + 1) are.count.few (omega (arith, from)) (omega (arith, below, inner)) in
    let more = next_count list p (omega (arith, below, lt)) (behind.0 ∙ sym known.0) in
    record {
      train = moved_train list trains counts front index u n p are lt from below;
      count = subst P (sym (past ∙ there)) (record { some = next.count.some; few = omega (arith, next.count.few, more) });
    })
    (cases_eq (p + 1) j))
    (cases_eq p index)

-- a run is moved
pub moved_run : (list trains counts : List ℕ) (front index u n : ℕ) → AreMoved list trains counts front index u n → index + n < length list
    → AreMoved list (set trains (index + n) u) (set (set counts (index + n) 1) (index + 1) n) front (index + n) (get_or trains (index + n) 0) (get_or counts (index + n) 0)
moved_run list trains counts front index u n are lt =
    let j : ℕ = index + n in
    let some = are.count.some in
    let next = are.ahead j (omega (arith, some)) lt in
    record {
      long = length-set trains j u ∙ are.long;
      beside = length-set (set counts j 1) (index + 1) n ∙ length-set counts j 1 ∙ are.beside;
      from = omega (arith, are.from);
      below = lt;
      train = next.train;
      count = next.count;
      moved = λ p from below.
          ⊎_elim
          (λ earlier. entry_other list trains counts p (p + 1) j (index + 1) u 1 n (λ e. absurd (omega (arith, e, earlier, some))) (λ e. absurd (omega (arith, e, earlier))) (are.moved p from earlier))
          (λ here. moved_entry list trains counts front index u n p are lt here below)
          (cases_lt p index);
      ahead = λ p later below.
          entry_other list trains counts p p j (index + 1) u 1 n (λ e. absurd (omega (arith, e, later))) (λ e. absurd (omega (arith, e, later, some))) (are.ahead p (omega (arith, later)) below);
    }

-- before the first run is moved
pub none_moved : (list counts : List ℕ) (front : ℕ) → front < length list → length counts ≡ length list → AreRuns (drop front list) (drop front counts)
    → AreMoved list list counts front front (get_or list front 0) (get_or counts front 0)
none_moved list counts front lt beside are =
    let known : (p : ℕ) → front ≤ p → p < length list → IsCount list p (get_or counts p 0) = λ p from below.
    let at : front + (p - front) ≡ p = omega (arith, from) in
    let now = are (p - front) (omega (arith, from, below, length-drop front list)) in
    let count : get_or (drop front counts) (p - front) 0 ≡ get_or counts p 0 = get_or-drop front counts (p - front) 0 ∙ ap (λ j. get_or counts j 0) at in
    let train : get_or (drop front list) (p - front) 0 ≡ get_or list p 0 = get_or-drop front list (p - front) 0 ∙ ap (λ j. get_or list j 0) at in
    let rest : drop (p - front) (drop front list) ≡ drop p list = drop-drop (p - front) front list ∙ ap (λ j. drop j list) at in
    record {
      some = omega (arith, now.0, count);
      few = omega (arith, now.1, count, ap (λ v. entries_at_start v (drop (p - front) (drop front list))) train, ap (entries_at_start (get_or list p 0)) rest);
    } in
    record {
      long = refl;
      beside = beside;
      from = omega arith;
      below = lt;
      train = refl;
      count = known front (omega arith) lt;
      moved = λ p from below. absurd (omega (arith, from, below));
      ahead = λ p later below. record { train = refl; count = known p (omega (arith, later)) below };
    }

-- an entry before the first of the train is one of another
ne_before : (i t : ℕ) (list : List ℕ) → i < length (before_first t list) → get_or list i 0 ≢ t
ne_before i t [] lt = absurd (omega (arith, lt))
ne_before zero t (v ∷ rest) lt = λ same. absurd (omega (arith, lt, ap length (cond-true (eqb v t) [] (v ∷ before_first t rest) (eq-eqb v t same))))
ne_before (suc i) t (v ∷ rest) lt =
    ⊎_elim
    (λ same. absurd (omega (arith, lt, ap length (cond-true (eqb v t) [] (v ∷ before_first t rest) (eq-eqb v t same)))))
    (λ other. ne_before i t rest (omega (arith, lt, ap length (cond-false (eqb v t) [] (v ∷ before_first t rest) (ne_eqb v t other)))))
    (cases_eq v t)

pub ne_first : (list : List ℕ) (front before p : ℕ) → before ≡ length (before_first (get_or (drop front list) before 0) (drop front list)) → front ≤ p → p < front + before
    → get_or list p 0 ≢ get_or list (front + before) 0
ne_first list front before p first from below = λ same.
    let at : front + (p - front) ≡ p = omega (arith, from) in
    ne_before (p - front) (get_or (drop front list) before 0) (drop front list) (omega (arith, from, below, first))
    (get_or-drop front list (p - front) 0 ∙ ap (λ j. get_or list j 0) at ∙ same ∙ sym (get_or-drop front list before 0))

-- no run before the train's first entry reaches it
pub run_ends : (list trains counts : List ℕ) (front before index u n : ℕ) → AreMoved list trains counts front index u n → index < front + before
    → before ≡ length (before_first (get_or (drop front list) before 0) (drop front list)) → index + n ≤ front + before
run_ends list trains counts front before index u n are lt first =
    ⊎_elim
    (λ past. absurd (ne_first list front before index first are.from lt (sym (in_run list index n (front + before) are.count.few (omega (arith, lt)) past).0)))
    (λ ends. ends)
    (cases_lt (front + before) (index + n))

-- an entry of another train taken out leaves as many entries of a train side by side
start_removed : (k u : ℕ) (list : List ℕ) → u ≢ get_or list k 0 → k < length list → entries_at_start u list ≤ entries_at_start u (remove list k)
start_removed k u [] ne lt = absurd (omega (arith, lt))
start_removed zero u (v ∷ rest) ne lt = omega (arith, start_other u v rest (λ e. ne (sym e)))
start_removed (suc k) u (v ∷ rest) ne lt =
    ⊎_elim
    (λ same. omega (arith, ap (λ w. entries_at_start u (w ∷ rest)) same, ap (λ w. entries_at_start u (w ∷ remove rest k)) same, start_same u rest, start_same u (remove rest k), start_removed k u rest ne (omega (arith, lt))))
    (λ other. omega (arith, start_other u v rest other))
    (cases_eq v u)

from_removed : (i k u : ℕ) (list : List ℕ) → i < k → k < length list → u ≢ get_or list k 0 → entries_at_start u (drop i list) ≤ entries_at_start u (drop i (remove list k))
from_removed zero k u list lt within ne = start_removed k u list ne within
from_removed (suc i) k u [] lt within ne = absurd (omega (arith, within))
from_removed (suc i) zero u (v ∷ rest) lt within ne = absurd (omega (arith, lt))
from_removed (suc i) (suc k) u (v ∷ rest) lt within ne = from_removed i k u rest (omega (arith, lt)) (omega (arith, within)) ne

behind_removed : (i k : ℕ) (list : List ℕ) → k ≤ i → k < length list → drop i (remove list k) ≡ drop (i + 1) list
behind_removed i k [] from within = absurd (omega (arith, within))
behind_removed i zero (v ∷ rest) from within =
    let next : suc i ≡ i + 1 = omega arith in
    ap (λ j. drop j (v ∷ rest)) next
behind_removed zero (suc k) (v ∷ rest) from within = absurd (omega (arith, from))
behind_removed (suc i) (suc k) (v ∷ rest) from within =
    let next : suc (i + 1) ≡ suc i + 1 = omega arith in
    behind_removed i k rest (omega (arith, from)) (omega (arith, within)) ∙ ap (λ j. drop j (v ∷ rest)) next

-- the list without the entry, once all runs before it were moved
pub moved_list : (list trains counts : List ℕ) (front before u n : ℕ) → AreMoved list trains counts front (front + before) u n
    → drop (front + 1) trains ≡ remove (drop front list) before
moved_list list trains counts front before u n are =
    let rest : List ℕ = drop front list in
    let within : before < length rest = omega (arith, are.below, length-drop front list) in
    same_number_lists (drop (front + 1) trains) (remove rest before)
    (omega (arith, length-drop (front + 1) trains, are.long, length-remove rest before within, length-drop front list))
    (λ i below.
    let here : get_or (drop (front + 1) trains) i 0 ≡ get_or trains (front + 1 + i) 0 = get_or-drop (front + 1) trains i 0 in
    ⊎_elim
    (λ earlier.
    let at : front + 1 + i ≡ front + i + 1 = omega arith in
    here ∙ ap (λ j. get_or trains j 0) at ∙ (are.moved (front + i) (omega arith) (omega (arith, earlier))).train
    ∙ sym (get_or-drop front list i 0) ∙ sym (get_or-remove_below rest before 0 i earlier within))
    (λ later.
    let at : front + 1 + i ≡ front + (i + 1) = omega arith in
    here ∙ (are.ahead (front + 1 + i) (omega (arith, later)) (omega (arith, below, length-drop (front + 1) trains, are.long))).train
    ∙ ap (λ j. get_or list j 0) at ∙ sym (get_or-drop front list (i + 1) 0) ∙ sym (get_or-remove_above rest before 0 i later within))
    (cases_lt i before))

-- and its runs
pub moved_runs : (list trains counts : List ℕ) (front before u n : ℕ) → AreMoved list trains counts front (front + before) u n
    → before ≡ length (before_first (get_or (drop front list) before 0) (drop front list)) → AreRuns (drop (front + 1) trains) (drop (front + 1) counts)
moved_runs list trains counts front before u n are first =
    let rest : List ℕ = drop front list in
    let within : before < length rest = omega (arith, are.below, length-drop front list) in
    let P : List ℕ → Type 0 = λ xs. AreRuns xs (drop (front + 1) counts) in
    subst P (sym (moved_list list trains counts front before u n are))
    (λ i below.
    let left : List ℕ = remove rest before in
    let long = length-remove rest before within in
    let here : get_or (drop (front + 1) counts) i 0 ≡ get_or counts (front + 1 + i) 0 = get_or-drop (front + 1) counts i 0 in
    ⊎_elim
    (λ earlier.
    let at : front + 1 + i ≡ front + i + 1 = omega arith in
    let now = (are.moved (front + i) (omega arith) (omega (arith, earlier))).count in
    let count : get_or (drop (front + 1) counts) i 0 ≡ get_or counts (front + i + 1) 0 = here ∙ ap (λ j. get_or counts j 0) at in
    let v : ℕ = get_or list (front + i) 0 in
    let train : get_or left i 0 ≡ v = get_or-remove_below rest before 0 i earlier within ∙ get_or-drop front list i 0 in
    let other : v ≢ get_or rest before 0 = λ e. ne_first list front before (front + i) first (omega arith) (omega (arith, earlier)) (e ∙ get_or-drop front list before 0) in (
      omega (arith, now.some, count),
      omega (arith, now.few, count, ap (entries_at_start v) (drop-drop i front list), from_removed i before v rest earlier within other, ap (λ w. entries_at_start w (drop i left)) train),
    ))
    (λ later.
    let now = (are.ahead (front + 1 + i) (omega (arith, later)) (omega (arith, below, long, length-drop front list))).count in
    let at : front + (i + 1) ≡ front + 1 + i = omega arith in
    let v : ℕ = get_or list (front + 1 + i) 0 in
    let train : get_or left i 0 ≡ v = get_or-remove_above rest before 0 i later within ∙ get_or-drop front list (i + 1) 0 ∙ ap (λ j. get_or list j 0) at in
    let tail : drop i left ≡ drop (front + 1 + i) list = behind_removed i before rest later within ∙ drop-drop (i + 1) front list ∙ ap (λ j. drop j list) at in (
      omega (arith, now.some, here),
      omega (arith, now.few, here, ap (entries_at_start v) tail, ap (λ w. entries_at_start w (drop i left)) train),
    ))
    (cases_lt i before))
