use Rattle.std.proofs.Common.{true, false, [], ◌∷◌}
use Rattle.thread_tests.proofs.witnesses.register_and_retire.Given as goal

-- number 0 alone is registered, and none in the end
abbrev pub ghost-register : goal.ghost-register
ghost-register a = true ∷ []

abbrev pub ghost-acquire : goal.ghost-acquire
ghost-acquire a = a.key ∷ []

abbrev pub ghost-release : goal.ghost-release
ghost-release a = []

abbrev pub ghost-retire : goal.ghost-retire
ghost-retire a = false ∷ []
