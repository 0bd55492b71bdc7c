-- The records of what a thread holds: keys, each as often as it is recorded. Their order says nothing.
use Rattle.std.specs.Prelude.{ℕ, ◌+◌, ◌-◌, ◌==◌, List, count_by}
use Rattle.lot_base.specs.Waiting.{with_value}

-- how often each key is recorded
abbrev pub times_recorded : List ℕ → ℕ → ℕ
times_recorded records key = count_by (λ recorded. recorded == key) records

-- the key once more than before, and every other as often
abbrev pub one_more : (ℕ → ℕ) → ℕ → ℕ → ℕ
one_more times key = with_value times key (times key + 1)

-- the key once less than before, if it was recorded, and every other as often
abbrev pub one_less : (ℕ → ℕ) → ℕ → ℕ → ℕ
one_less times key = with_value times key (times key - 1)
