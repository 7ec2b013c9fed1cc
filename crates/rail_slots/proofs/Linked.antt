-- How cells stay linked where one is taken out, and where one is put behind another.
use Rattle.std.proofs.Common.{◌≡◌, ℕ, zero, suc, ◌+◌, ◌<◌, ◌≤◌, ◌≢◌, cond, eqb, List, [], ◌∷◌, ◌++◌, length, get_or, set, Option, Some, None, refl, sym, ap, ◌∙◌, ⊎_elim, arith, length-append, replicate}
use Rattle.std.proofs.lemmas.Bool.{cases_eq, cases_lt, eq-eqb, ne_eqb}
use Rattle.std.proofs.lemmas.List.{get_or-set_same, get_or-set_other, length-set, length_push, length-replicate}
use Rattle.rail_slots.specs.Links.{lists_of, walk, walks, Links, AllLink, times, total, all_times, cells, IsLinked, taken, put}

-- what a list of links says is what a walk of enough steps gives
pub walk_is : (n : ℕ) (next : List (Option ℕ)) (at : Option ℕ) (list : List ℕ) → Links next at list → length list ≤ n → walk n next at ≡ list
walk_is zero next at [] links within = refl
walk_is (suc n) next at [] links within = rw links refl
walk_is zero next at (x ∷ rest) links within = absurd (omega (arith, within))
walk_is (suc n) next at (x ∷ rest) links within = rw links.0 (ap (λ (l : List ℕ). x ∷ l) (walk_is n next (get_or next x None) rest links.1 (omega (arith, within))))

pub walks_are : (n : ℕ) (next : List (Option ℕ)) (cell : ℕ) (lists : List (List ℕ)) → AllLink next cell lists → cells lists ≤ n → walks n next cell (length lists) ≡ lists
walks_are n next cell [] links within = refl
walks_are n next cell (list ∷ lists) links within =
    rw (walk_is n next (Some cell) list links.0 (omega (arith, within))) (ap (λ (ls : List (List ℕ)). list ∷ ls) (walks_are n next (suc cell) lists links.1 (omega (arith, within))))

pub one_if : (x q : ℕ) → x ≡ q → cond {A = ℕ} (eqb x q) 1 0 ≡ 1
one_if x q same = rw (eq-eqb x q same) refl

pub none_if : (x q : ℕ) → (x ≡ q → ⊥) → cond {A = ℕ} (eqb x q) 1 0 ≡ 0
none_if x q other = rw (ne_eqb x q other) refl

-- a cell that stands in no list is another one than each that does
pub other_first : (q x : ℕ) (rest : List ℕ) → times q (x ∷ rest) ≡ 0 → (x ≢ q) × (times q rest ≡ 0)
other_first q x rest none =
    ⊎_elim
    (λ same. absurd (omega (arith, none, one_if x q same)))
    (λ other. (other, omega (arith, none)))
    (cases_eq x q)

-- what is written to a cell that stands in no list changes no list
pub kept : (next : List (Option ℕ)) (at : Option ℕ) (list : List ℕ) (s : ℕ) (v : Option ℕ) → times s list ≡ 0 → Links next at list → Links (set next s v) at list
kept next at [] s v none links = links
kept next at (x ∷ rest) s v none links =
    let parts = other_first s x rest none in
    (links.0, rw (get_or-set_other next s x v None parts.0) (kept next (get_or next x None) rest s v parts.1 links.1))

pub all_kept : (next : List (Option ℕ)) (cell : ℕ) (lists : List (List ℕ)) (s : ℕ) (v : Option ℕ) → all_times s lists ≡ 0 → AllLink next cell lists → AllLink (set next s v) cell lists
all_kept next cell [] s v none links = tt
all_kept next cell (list ∷ lists) s v none links =
    (kept next (Some cell) list s v (omega (arith, none)) links.0, all_kept next (suc cell) lists s v (omega (arith, none)) links.1)

-- how often a cell stands in a list where one place is known
pub at_place : (q p : ℕ) (before rest : List ℕ) → times q (before ++ p ∷ rest) ≡ times q before + (cond (eqb p q) 1 0 + times q rest)
at_place q p [] rest = omega arith
at_place q p (x ∷ before) rest = omega (arith, at_place q p before rest)

pub itself : (p : ℕ) (before rest : List ℕ) → times p (before ++ p ∷ rest) ≡ times p before + (1 + times p rest)
itself p before rest = omega (arith, at_place p p before rest, one_if p p refl)

-- the first of a list in which another cell stands once behind it is not that cell
apart : (p x : ℕ) (l : List ℕ) → times p (x ∷ l) ≤ 1 → 1 ≤ times p l → x ≢ p
apart p x l once stands same = omega (arith, once, stands, one_if x p same)

fewer : (p x : ℕ) (l : List ℕ) (n : ℕ) → times p (x ∷ l) ≤ n → times p l ≤ n
fewer p x l n h = omega (arith, h)

-- a cell is taken out behind another one
pub cut : (next : List (Option ℕ)) (at : Option ℕ) (before : List ℕ) (p s : ℕ) (rest : List ℕ) → p < length next → Links next at (before ++ p ∷ s ∷ rest) → times p (before ++ p ∷ s ∷ rest) ≤ 1 → Links (taken next p s) at (before ++ p ∷ rest)
cut next at [] p s rest lt links once =
    let none : times p rest ≡ 0 = (let h = itself p [] (s ∷ rest) in omega (arith, h, once)) in
    (links.0, rw (get_or-set_same next p (get_or next s None) None lt) (kept next (get_or next s None) rest p (get_or next s None) none links.1.1))
cut next at (x ∷ before) p s rest lt links once =
    let ne : x ≢ p = apart p x (before ++ p ∷ s ∷ rest) once (let h = itself p before (s ∷ rest) in omega (arith, h)) in
    (links.0, rw (get_or-set_other next p x (get_or next s None) None ne) (cut next (get_or next x None) before p s rest lt links.1 (fewer p x (before ++ p ∷ s ∷ rest) 1 once)))

-- a cell is put behind another one
pub put_in : (next : List (Option ℕ)) (at : Option ℕ) (before : List ℕ) (p s : ℕ) (rest : List ℕ) → p < length next → s < length next → Links next at (before ++ p ∷ rest) → times p (before ++ p ∷ rest) ≤ 1 → times s (before ++ p ∷ rest) ≡ 0 → Links (put next p s) at (before ++ p ∷ s ∷ rest)
put_in next at [] p s rest lt in_room links once none =
    let first = other_first s p rest none in
    let gone : times p rest ≡ 0 = (let h = itself p [] rest in omega (arith, h, once)) in
    let written : List (Option ℕ) = set next s (get_or next p None) in
    let long : p < length written = omega (arith, length-set next s (get_or next p None)) in (
      links.0,
      (
        get_or-set_same written p (Some s) None long,
        rw (get_or-set_other written p s (Some s) None (λ same. first.0 (sym same)) ∙ get_or-set_same next s (get_or next p None) None in_room)
            (kept written (get_or next p None) rest p (Some s) gone (kept next (get_or next p None) rest s (get_or next p None) first.1 links.1)),
      ),
    )
put_in next at (x ∷ before) p s rest lt in_room links once none =
    let ne : x ≢ p = apart p x (before ++ p ∷ rest) once (let h = itself p before rest in omega (arith, h)) in
    let first = other_first s x (before ++ p ∷ rest) none in (
      links.0,
      rw (get_or-set_other (set next s (get_or next p None)) p x (Some s) None ne ∙ get_or-set_other next s x (get_or next p None) None first.0)
          (put_in next (get_or next x None) before p s rest lt in_room links.1 (fewer p x (before ++ p ∷ rest) 1 once) first.1),
    )

pub at_least : (p : ℕ) (lists : List (List ℕ)) (k : ℕ) (before rest : List ℕ) → k < length lists → get_or lists k [] ≡ before ++ p ∷ rest → 1 ≤ all_times p lists
at_least p [] k before rest within is = absurd (omega (arith, within))
at_least p (list ∷ lists) zero before rest within is = let h : times p list ≡ times p before + (1 + times p rest) = ap (times p) is ∙ itself p before rest in omega (arith, h)
at_least p (list ∷ lists) (suc k) before rest within is = let h = at_least p lists k before rest (omega (arith, within)) is in omega (arith, h)

-- the same in one of some lists
pub all_cut : (next : List (Option ℕ)) (cell : ℕ) (lists : List (List ℕ)) (k : ℕ) (before : List ℕ) (p s : ℕ) (rest : List ℕ) → p < length next → k < length lists → get_or lists k [] ≡ before ++ p ∷ s ∷ rest → AllLink next cell lists → all_times p lists ≤ 1 → AllLink (taken next p s) cell (set lists k (before ++ p ∷ rest))
all_cut next cell [] k before p s rest lt within is links once = absurd (omega (arith, within))
all_cut next cell (list ∷ lists) zero before p s rest lt within is links once =
    let here : times p list ≡ times p before + (1 + times p (s ∷ rest)) = ap (times p) is ∙ itself p before (s ∷ rest) in
    let mine : times p (before ++ p ∷ s ∷ rest) ≤ 1 = (let h = ap (times p) is in omega (arith, h, once)) in
    let there : all_times p lists ≡ 0 = omega (arith, here, once) in
    (cut next (Some cell) before p s rest lt (rw is at links.0) mine, all_kept next (suc cell) lists p (get_or next s None) there links.1)
all_cut next cell (list ∷ lists) (suc k) before p s rest lt within is links once =
    let tail = all_cut next (suc cell) lists k before p s rest lt (omega (arith, within)) is links.1 (omega (arith, once)) in
    let there : 1 ≤ all_times p lists = at_least p lists k before (s ∷ rest) (omega (arith, within)) is in
    (kept next (Some cell) list p (get_or next s None) (omega (arith, there, once)) links.0, tail)

pub all_put : (next : List (Option ℕ)) (cell : ℕ) (lists : List (List ℕ)) (k : ℕ) (before : List ℕ) (p s : ℕ) (rest : List ℕ) → p < length next → s < length next → k < length lists → get_or lists k [] ≡ before ++ p ∷ rest → AllLink next cell lists → all_times p lists ≤ 1 → all_times s lists ≡ 0 → AllLink (put next p s) cell (set lists k (before ++ p ∷ s ∷ rest))
all_put next cell [] k before p s rest lt in_room within is links once none = absurd (omega (arith, within))
all_put next cell (list ∷ lists) zero before p s rest lt in_room within is links once none =
    let here : times p list ≡ times p before + (1 + times p rest) = ap (times p) is ∙ itself p before rest in
    let mine : times p (before ++ p ∷ rest) ≤ 1 = (let h = ap (times p) is in omega (arith, h, once)) in
    let nowhere : times s (before ++ p ∷ rest) ≡ 0 = (let h = ap (times s) is in omega (arith, h, none)) in
    let there : all_times p lists ≡ 0 = omega (arith, here, once) in (
      put_in next (Some cell) before p s rest lt in_room (rw is at links.0) mine nowhere,
      all_kept (set next s (get_or next p None)) (suc cell) lists p (Some s) there (all_kept next (suc cell) lists s (get_or next p None) (omega (arith, none)) links.1),
    )
all_put next cell (list ∷ lists) (suc k) before p s rest lt in_room within is links once none =
    let tail = all_put next (suc cell) lists k before p s rest lt in_room (omega (arith, within)) is links.1 (omega (arith, once)) (omega (arith, none)) in
    let there : 1 ≤ all_times p lists = at_least p lists k before rest (omega (arith, within)) is in
    (kept (set next s (get_or next p None)) (Some cell) list p (Some s) (omega (arith, there, once)) (kept next (Some cell) list s (get_or next p None) (omega (arith, none)) links.0), tail)

-- how a change of one list changes the counts
pub changed : (f : List ℕ → ℕ) (lists : List (List ℕ)) (k : ℕ) (old new : List ℕ) → k < length lists → get_or lists k [] ≡ old → total f (set lists k new) + f old ≡ total f lists + f new
changed f [] k old new within is = absurd (omega (arith, within))
changed f (list ∷ lists) zero old new within is = let h = ap f is in omega (arith, h)
changed f (list ∷ lists) (suc k) old new within is = let h = changed f lists k old new (omega (arith, within)) is in omega (arith, h)

long_at : (p : ℕ) (before rest : List ℕ) → length (before ++ p ∷ rest) ≡ length before + (1 + length rest)
long_at p before rest = omega (arith, length-append before (p ∷ rest))

pub in_room : (next : List (Option ℕ)) (lists : List (List ℕ)) (k : ℕ) (before : List ℕ) (p : ℕ) (rest : List ℕ) → IsLinked next lists → k < length lists → get_or lists k [] ≡ before ++ p ∷ rest → p < length next
in_room next lists k before p rest linked within is =
    ⊎_elim
    (λ less. less)
    (λ most. absurd (omega (arith, linked.within p most, at_least p lists k before rest within is)))
    (cases_lt p (length next))

only_once : (lists : List (List ℕ)) (q s : ℕ) → all_times q lists ≤ 1 → all_times s lists ≡ 0 → all_times q lists + cond (eqb s q) 1 0 ≤ 1
only_once lists q s once none =
    ⊎_elim
    (λ same. let h = ap (λ (n : ℕ). all_times n lists) same in omega (arith, none, h, one_if s q same))
    (λ other. omega (arith, once, none_if s q other))
    (cases_eq s q)

-- lists that are linked stay so where a cell is taken out, which then stands nowhere
pub record Without (next : List (Option ℕ)) (lists : List (List ℕ)) (s : ℕ) : Type 0 where
  pub linked : IsLinked next lists
  pub nowhere : all_times s lists ≡ 0
  pub space : cells lists < length next

pub linked_without : (next : List (Option ℕ)) (lists : List (List ℕ)) (k : ℕ) (before : List ℕ) (p s : ℕ) (rest : List ℕ) → IsLinked next lists → k < length lists → get_or lists k [] ≡ before ++ p ∷ s ∷ rest → Without (taken next p s) (set lists k (before ++ p ∷ rest)) s
linked_without next lists k before p s rest linked within is =
    let lt : p < length next = in_room next lists k before p (s ∷ rest) linked within is in
    let same : length (taken next p s) ≡ length next = length-set next p (get_or next s None) in
    let count : (q : ℕ) → all_times q (set lists k (before ++ p ∷ rest)) + cond (eqb s q) 1 0 ≡ all_times q lists = λ q.
    (let h = changed (times q) lists k (before ++ p ∷ s ∷ rest) (before ++ p ∷ rest) within is in
    omega (arith, h, at_place q p before (s ∷ rest), at_place q p before rest)) in
    let mine : all_times s (set lists k (before ++ p ∷ rest)) + 1 ≡ all_times s lists = omega (arith, count s, one_if s s refl) in
    let size = changed length lists k (before ++ p ∷ s ∷ rest) (before ++ p ∷ rest) within is in
    record {
      linked = record {
        links = all_cut next 0 lists k before p s rest lt within is linked.links (linked.once p);
        once = λ q. omega (arith, count q, linked.once q);
        within = λ q h. omega (arith, count q, linked.within q (omega (arith, same, h)));
        room = omega (arith, same, size, linked.room, long_at p before (s ∷ rest), long_at p before rest);
      };
      nowhere = omega (arith, mine, linked.once s);
      space = omega (arith, same, size, linked.room, long_at p before (s ∷ rest), long_at p before rest);
    }

-- and where one that stands nowhere is put in
pub linked_with : (next : List (Option ℕ)) (lists : List (List ℕ)) (k : ℕ) (before : List ℕ) (p s : ℕ) (rest : List ℕ) → Without next lists s → s < length next → k < length lists → get_or lists k [] ≡ before ++ p ∷ rest → IsLinked (put next p s) (set lists k (before ++ p ∷ s ∷ rest))
linked_with next lists k before p s rest free in_space within is =
    let linked = free.linked in
    let lt : p < length next = in_room next lists k before p rest linked within is in
    let same : length (put next p s) ≡ length next = length-set (set next s (get_or next p None)) p (Some s) ∙ length-set next s (get_or next p None) in
    let count : (q : ℕ) → all_times q (set lists k (before ++ p ∷ s ∷ rest)) ≡ all_times q lists + cond (eqb s q) 1 0 = λ q.
    (let h = changed (times q) lists k (before ++ p ∷ rest) (before ++ p ∷ s ∷ rest) within is in
    omega (arith, h, at_place q p before (s ∷ rest), at_place q p before rest)) in
    let size = changed length lists k (before ++ p ∷ rest) (before ++ p ∷ s ∷ rest) within is in
    let one : (q : ℕ) → all_times q lists + cond (eqb s q) 1 0 ≤ 1 = λ q. only_once lists q s (linked.once q) free.nowhere in
    record {
      links = all_put next 0 lists k before p s rest lt in_space within is linked.links (linked.once p) free.nowhere;
      once = λ q. omega (arith, count q, one q);
      within = λ q h.
          let e : cond {A = ℕ} (eqb s q) 1 0 ≡ 0 = none_if s q (λ is_s. omega (arith, same, h, is_s, in_space)) in
          omega (arith, count q, e, linked.within q (omega (arith, same, h)));
      room = omega (arith, same, size, free.space, long_at p before (s ∷ rest), long_at p before rest);
    }

-- a new cell stands nowhere
longer : (next : List (Option ℕ)) (q : ℕ) → get_or (next ++ None ∷ []) q None ≡ get_or next q None
longer [] zero = refl
longer [] (suc q) = refl
longer (x ∷ next) zero = refl
longer (x ∷ next) (suc q) = longer next q

longer_links : (next : List (Option ℕ)) (at : Option ℕ) (list : List ℕ) → Links next at list → Links (next ++ None ∷ []) at list
longer_links next at [] links = links
longer_links next at (x ∷ rest) links = (links.0, rw (longer next x) (longer_links next (get_or next x None) rest links.1))

all_longer : (next : List (Option ℕ)) (cell : ℕ) (lists : List (List ℕ)) → AllLink next cell lists → AllLink (next ++ None ∷ []) cell lists
all_longer next cell [] links = tt
all_longer next cell (list ∷ lists) links = (longer_links next (Some cell) list links.0, all_longer next (suc cell) lists links.1)

pub linked_new : (next : List (Option ℕ)) (lists : List (List ℕ)) → IsLinked next lists → Without (next ++ None ∷ []) lists (length next)
linked_new next lists linked =
    let long = length_push next None in
    record {
      linked = record {
        links = all_longer next 0 lists linked.links;
        once = linked.once;
        within = λ q most. linked.within q (omega (arith, long, most));
        room = omega (arith, long, linked.room);
      };
      nowhere = linked.within (length next) (omega arith);
      space = omega (arith, long, linked.room);
    }

-- what is said of lists that are linked is what the walks give
pub shown : (next : List (Option ℕ)) (free : List ℕ) (lists : List (List ℕ)) → IsLinked next (free ∷ lists) → (walk (length next) next (Some 0) ≡ free) × (lists_of next 1 (length lists) ≡ lists)
shown next free lists linked = (
  walk_is (length next) next (Some 0) free linked.links.0 (omega (arith, linked.room)),
  walks_are (length next) next 1 lists linked.links.1 (omega (arith, linked.room)),
)

-- so many cells, each a list by itself
abbrev pub alone : ℕ → ℕ → List (List ℕ)
alone cell zero = []
alone cell (suc k) = (cell ∷ []) ∷ alone (suc cell) k

nothing_behind : (n c : ℕ) → get_or (replicate {A = Option ℕ} n None) c None ≡ None
nothing_behind zero c = refl
nothing_behind (suc n) zero = refl
nothing_behind (suc n) (suc c) = nothing_behind n c

alone_link : (n cell k : ℕ) → AllLink (replicate n None) cell (alone cell k)
alone_link n cell zero = tt
alone_link n cell (suc k) = ((refl, nothing_behind n cell), alone_link n (suc cell) k)

alone_below : (q cell k : ℕ) → q < cell → all_times q (alone cell k) ≡ 0
alone_below q cell zero less = refl
alone_below q cell (suc k) less = omega (arith, none_if cell q (λ same. omega (arith, less, same)), alone_below q (suc cell) k (omega (arith, less)))

pub alone_above : (q cell k : ℕ) → cell + k ≤ q → all_times q (alone cell k) ≡ 0
alone_above q cell zero less = refl
alone_above q cell (suc k) less = omega (arith, none_if cell q (λ same. omega (arith, less, same)), alone_above q (suc cell) k (omega (arith, less)))

alone_once : (q cell k : ℕ) → all_times q (alone cell k) ≤ 1
alone_once q cell zero = omega arith
alone_once q cell (suc k) =
    ⊎_elim
    (λ same. omega (arith, one_if cell q same, alone_below q (suc cell) k (omega (arith, same))))
    (λ other. omega (arith, none_if cell q other, alone_once q (suc cell) k))
    (cases_eq cell q)

alone_cells : (cell k : ℕ) → cells (alone cell k) ≡ k
alone_cells cell zero = refl
alone_cells cell (suc k) = omega (arith, alone_cells (suc cell) k)

pub alone_long : (cell k : ℕ) → length (alone cell k) ≡ k
alone_long cell zero = refl
alone_long cell (suc k) = omega (arith, alone_long (suc cell) k)

pub put_long : (next : List (Option ℕ)) (cell s : ℕ) → length (put next cell s) ≡ length next
put_long next cell s = length-set (set next s (get_or next cell None)) cell (Some s) ∙ length-set next s (get_or next cell None)

-- cells by themselves are linked
pub alone_linked : (heads : ℕ) → IsLinked (replicate heads None) (alone 0 heads)
alone_linked heads =
    let long : length (replicate {A = Option ℕ} heads None) ≡ heads = length-replicate heads None in
    record {
      links = alone_link heads 0 heads;
      once = λ q. alone_once q 0 heads;
      within = λ q most. alone_above q 0 heads (omega (arith, long, most));
      room = omega (arith, long, alone_cells 0 heads);
    }
