-- What clauses say of the beginning of a `Once`.
use Rattle.std.specs.Prelude.{◌≡◌}
use Rattle.lock_words.specs.declared.beginning.Beginning.{Beginning}
use Rattle.lock_words.specs.declared.beginning.Begun.{Begun}

-- the right was given at this beginning
abbrev pub IsBegunAt : Beginning → Begun → Type 0
IsBegunAt beginning begun = begun.seat.table_id ≡ beginning.table.shared.table_id
