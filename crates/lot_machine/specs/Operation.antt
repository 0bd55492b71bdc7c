-- What an unpark's operation makes of the waiters of its key, and the token that it hands out. Waiters may be anything
-- here: the machine's, or the nodes of a row of buckets.
use Rattle.std.specs.Prelude.{ℕ, List}
use Rattle.lot_base.specs.declared.token.UnparkToken.{UnparkToken}
use Rattle.lot_base.specs.Waiting.{Split, split_first, split_all, split_filter, split_by}
use Rattle.lot_machine.specs.declared.step.Op.{Op}
use Rattle.lot_machine.specs.declared.step.Op.TheVariants.{One, All, Filter, Requeue}

abbrev pub token_of : Op → UnparkToken
token_of (One key token) = token
token_of (All key token) = token
token_of (Filter key decisions token) = token
token_of (Requeue from to op token) = token

-- what is taken, moved and left, where these are the waiters of each key
abbrev pub split_of : {A : Type 0} → Op → (ℕ → List A) → Split A
split_of (One key token) lists = split_first (lists key)
split_of (All key token) lists = split_all (lists key)
split_of (Filter key decisions token) lists = split_filter decisions.items (lists key)
split_of (Requeue from to op token) lists = split_by op (lists from)
