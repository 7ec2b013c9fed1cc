-- Policies that answer from a list.
use Rattle.std.specs.Prelude.{ℕ, ◌+◌, List, cond, get_or, nat_lt}
use Rattle.rail_policy.specs.declared.scripted_policy.ScriptedPolicy.{ScriptedPolicy}

-- the answers, in the order in which they are given
abbrev pub answers_of : ScriptedPolicy → List ℕ
answers_of policy = policy.answers.items

-- the index of the answer that is given next
abbrev pub index_to_come : ScriptedPolicy → ℕ
index_to_come policy = policy.next

-- the answer that is given next; 0 where there is none
abbrev pub answer_to_come : ScriptedPolicy → ℕ
answer_to_come policy = get_or (answers_of policy) (index_to_come policy) 0

-- the index behind this one among so many answers, which is the first one again behind the last
abbrev pub index_after : ℕ → ℕ → ℕ
index_after count index = cond (nat_lt (index + 1) count) (index + 1) 0
