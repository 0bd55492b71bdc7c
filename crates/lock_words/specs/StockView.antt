-- The views of the threads at a stock.
use Rattle.std.specs.Prelude.{ℕ, List, Option, None}
use Rattle.lock_words.specs.declared.stock.view.View.{View}

abbrev pub view : ℕ → Option ℕ → Option (List ℕ) → ℕ → View
view holds waits carries aside = record { holds = holds; waits = waits; carries = carries; aside = aside }

-- it holds so many permits, and does not carry the title
abbrev pub having : ℕ → Option ℕ → View
having holds waits = view holds waits None 0

-- it neither holds a permit nor waits
abbrev pub resting : View
resting = having 0 None
