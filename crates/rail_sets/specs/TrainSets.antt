-- Sets of trains as words of 64 bits.
use Rattle.std.specs.Prelude.{ℕ, ◌+◌, ◌/◌, ◌%◌, ◌==◌, Bool, List, [], ◌∷◌, get_or}
use Rattle.std.specs.Int.{bit_at}
use Rattle.rail_sets.specs.declared.train_set.TrainSet.{TrainSet}

-- the set has the train
abbrev pub has_train : TrainSet → ℕ → Bool
has_train set t = bit_at (get_or set.words (t / 64) 0) (t % 64) == 1

-- the words of a set as numbers, added up: less where a train is taken out
abbrev pub size_of : TrainSet → ℕ
size_of set = sum set.words
  where
    sum : List ℕ → ℕ
    sum [] = 0
    sum (word ∷ words) = word + sum words
