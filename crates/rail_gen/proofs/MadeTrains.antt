-- The trains of a made-up scene: each is made from words in range, and no two have one name.
use Rattle.std.proofs.Common.{◌≡◌, ℕ, ◌+◌, ◌-◌, ◌*◌, ◌/◌, ◌%◌, ◌<◌, ◌≤◌, zero, suc, nat_le, Bool, true, false, not, ◌&&◌, ◌||◌, List, [], ◌∷◌, ◌++◌, length, codes, inl, inr, refl, ap, ◌∙◌, arith}
use Rattle.std.specs.List.{list_all, list_any}
use Rattle.std.proofs.lemmas.Bool.{cases_Bool}
use Rattle.std.proofs.lemmas.Bool.Decides.{nat_tests}
use Rattle.rand_pcg.specs.Lcg.{Lcg}
use Rattle.rail_base.specs.Clock.{two_digits}
use Rattle.rail_base.specs.Limits.{is_from_one, most, InputTime, ItineraryRoutes, Trains}
use Rattle.rail_base.specs.Lists.{are_distinct}
use Rattle.rail_base.specs.NameForms.{same_name}
use Rattle.rail_track.proofs.CallerLemmas.{same_from_name}
use Rattle.rail_scene.specs.declared.scene.SceneTrain.{SceneTrain}
use Rattle.rail_scene.specs.Scenes.{IsScene, is_fit_train, is_one_train}
use Rattle.rail_gen.specs.MadeScenes.{drawn, coin, coins, TrainWords, train_words, eastward, westward, itinerary, train_of, trains_from, line_scene}

-- a train made from words in range
pub record IsMade (count : ℕ) (train : SceneTrain) : Type 0 where
  pub number : ℕ
  pub words : TrainWords
  pub is : train ≡ train_of count number words
  pub kind : words.kind < 3
  pub entry : words.entry < 7_200
  pub priority : words.priority < 4
  pub tracks : length words.tracks ≡ count

-- a fact of each train
abbrev pub Each : (SceneTrain → Type 0) → List SceneTrain → Type 0
Each G [] = Unit {0}
Each G (x ∷ xs) = G x × Each G xs

pub coins_count : (n : ℕ) (g : Lcg) → length (coins n g).0 ≡ n
unfolding coins
coins_count zero g = refl
coins_count (suc n) g = ap suc (coins_count n (coin g).1)

-- the words of a train are in range
record AreInRange (count : ℕ) (words : TrainWords) : Type 0 where
  kind : words.kind < 3
  entry : words.entry < 7_200
  priority : words.priority < 4
  tracks : length words.tracks ≡ count

below : (modulus : ℕ) (g : Lcg) → 0 < modulus → (drawn modulus g).0 < modulus
below modulus g some = omega arith

words_in_range : (count : ℕ) (g : Lcg) → AreInRange count (train_words count g).0
unfolding train_words
words_in_range count g =
    let way = coin g in
    let entry = drawn 7_200 way.1 in
    let kind = drawn 3 entry.1 in
    let priority = drawn 4 kind.1 in
    record {
      kind = below 3 entry.1 (omega arith);
      entry = below 7_200 way.1 (omega arith);
      priority = below 4 kind.1 (omega arith);
      tracks = coins_count count priority.1;
    }

-- the trains of a scene are made
pub all_made : (count n more : ℕ) (g : Lcg) → Each (IsMade count) (trains_from count n more g)
unfolding trains_from
all_made count n zero g = tt
all_made count n (suc more) g =
    let words = train_words count g in
    let range = words_in_range count g in (
      record { number = n; words = words.0; is = refl; kind = range.kind; entry = range.entry; priority = range.priority; tracks = range.tracks },
      all_made count (n + 1) more words.1,
    )

pub trains_count : (count n more : ℕ) (g : Lcg) → length (trains_from count n more g) ≡ more
unfolding trains_from
trains_count count n zero g = refl
trains_count count n (suc more) g = ap suc (trains_count count (n + 1) more (train_words count g).1)

-- two numbers below a hundred have two names
names_apart : (n m : ℕ) → n < m → m < 100 → same_name (codes "T" ++ two_digits n) (codes "T" ++ two_digits m) ≡ false
names_apart n m less few =
    elim (cases_Bool (same_name (codes "T" ++ two_digits n) (codes "T" ++ two_digits m))) [
      | inl same ↦
          let is = same_from_name (codes "T" ++ two_digits n) (codes "T" ++ two_digits m) same in
          let tens : 48 + n / 10 ≡ 48 + m / 10 = cc in
          let ones : 48 + n % 10 ≡ 48 + m % 10 = cc in
          absurd (omega (arith, tens, ones))
      | inr apart ↦ apart
    ]

none_alike : (count n : ℕ) (words : TrainWords) (m more : ℕ) (g : Lcg) → n < m → m + more ≤ 100 → list_any (is_one_train (train_of count n words)) (trains_from count m more g) ≡ false
unfolding trains_from
none_alike count n words m zero g less few = refl
none_alike count n words m (suc more) g less few =
    λ i. names_apart n m less (omega arith) i || none_alike count n words (m + 1) more (train_words count g).1 (omega arith) (omega arith) i

pub trains_apart : (count n more : ℕ) (g : Lcg) → n + more ≤ 100 → are_distinct is_one_train (trains_from count n more g) ≡ true
unfolding trains_from
trains_apart count n zero g few = refl
trains_apart count n (suc more) g few =
    let words = train_words count g in
    λ i. not (none_alike count n words.0 (n + 1) more words.1 (omega arith) (omega arith) i) && trains_apart count (n + 1) more words.1 (omega arith) i

east_count : (k : ℕ) (tracks : List Bool) → length (eastward k tracks) ≡ length tracks + length tracks
east_count k [] = refl
east_count k (b ∷ tracks) = omega (arith, east_count (k + 1) tracks)

west_count : (k : ℕ) (tracks : List Bool) → length (westward k tracks) ≡ length tracks + length tracks
west_count k [] = refl
west_count k (b ∷ tracks) = omega (arith, west_count (k - 1) tracks)

routes_count : (count : ℕ) (west : Bool) (tracks : List Bool) → length (itinerary count west tracks) ≡ 1 + (length tracks + length tracks)
routes_count count true tracks = omega (arith, west_count count tracks)
routes_count count false tracks = omega (arith, east_count 1 tracks)

fit : (count : ℕ) → count ≤ 8 → (train : SceneTrain) → IsMade count train → is_fit_train train ≡ true
fit count few train made = ap is_fit_train made.is ∙ own made.number made.words made.entry made.tracks
  where
    within : (n : ℕ) → n < 7_200 → nat_le (10 * n) (most InputTime) ≡ true
    within n low = grind (arith, nat_tests)

    some : (n k : ℕ) → n ≡ 1 + (k + k) → k ≤ 8 → is_from_one (most ItineraryRoutes) n ≡ true
    some n k is low =
        let first : nat_le 1 n ≡ true = grind (arith, nat_tests) in
        let last : nat_le n 128 ≡ true = grind (arith, nat_tests) in
        λ i. first i && last i

    own : (number : ℕ) (words : TrainWords) → words.entry < 7_200 → length words.tracks ≡ count → is_fit_train (train_of count number words) ≡ true
    own number words entry tracks =
        let many = some (length (itinerary count words.is_westbound words.tracks)) (length words.tracks) (routes_count count words.is_westbound words.tracks) (omega (arith, tracks)) in
        λ i. within words.entry entry i && many i

all_fit : (count : ℕ) → count ≤ 8 → (trains : List SceneTrain) → Each (IsMade count) trains → list_all is_fit_train trains ≡ true
all_fit count few [] all = refl
all_fit count few (x ∷ xs) all = λ i. fit count few x all.0 i && all_fit count few xs all.1 i

-- a line with few trains that are made is a scene
pub is_scene : (count : ℕ) → count ≤ 8 → (trains : List SceneTrain) → Each (IsMade count) trains → length trains ≤ most Trains
    → are_distinct is_one_train trains ≡ true → IsScene (line_scene count trains)
is_scene count few trains all many apart = record {
  release = omega arith;
  depth = omega arith;
  overlap_time = omega arith;
  few_kinds = omega arith;
  few_trains = many;
  kinds = refl;
  trains = all_fit count few trains all;
  kinds_apart = refl;
  trains_apart = apart;
}
