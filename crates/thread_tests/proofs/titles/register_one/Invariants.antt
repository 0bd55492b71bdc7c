use Rattle.std.proofs.Common.{true, [], ◌∷◌}
use Rattle.thread_tests.proofs.titles.register_one.Given as goal

-- number 0 alone is registered
abbrev pub ghost-register : goal.ghost-register
ghost-register a = true ∷ []
