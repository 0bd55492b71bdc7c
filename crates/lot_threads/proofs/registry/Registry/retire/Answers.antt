use Rattle.std.proofs.Common.{◌≡◌, ◌<◌, ℕ, Bool, List, [], ◌∷◌, ◌++◌, false, length, map, slice_set, sym, ap, ◌∙◌, subst}
use Rattle.std.proofs.Common.{arith, rules}
use Rattle.std.proofs.lemmas.List.{length-map, map-set}
use Rattle.lot_machine.specs.declared.status.Status.TheVariants.{Running}
use Rattle.lot_machine.specs.declared.step.Answer.TheVariants as answer
use Rattle.lot_machine.specs.declared.step.Step.TheVariants as step
use Rattle.lot_machine.specs.declared.numbers.Use.{Use}
use Rattle.lot_machine.specs.declared.numbers.Use.TheVariants.{Free}
use Rattle.lot_machine.specs.Numbers.{is_in_use}
use Rattle.lot_history.specs.Moves.{Moves}
use Rattle.lot_history.specs.Pieces.{AllSo}
use Rattle.lot_history.specs.Witness.{max_threads_of, pieces_in, pieces_of}
use Rattle.lot_history.specs.declared.view.Piece.{Piece}
use Rattle.lot_history.specs.declared.view.Piece.TheVariants.{Numbers, Records, Thread, Timing}
use Rattle.lot_history.proofs.NumberLemmas.{retires}
use Rattle.lot_threads.specs.Cells.{numbers_in}
use Rattle.lot_threads.specs.Members.{Is}
use Rattle.lot_threads.proofs.RetireLemmas.{one_more_unset, registered_runs}
use Rattle.lot_threads.proofs.registry.Registry.retire.Goals as goal

-- the witness has all pieces of the thread, and the numbers', which say that its number is registered
pub add_retired-requires-clause-moves : goal.add_retired-requires-clause-moves
add_retired-requires-clause-moves c =
    let bound = max_threads_of c.args.history.now in
    let number = c.args.node.value.number in
    let numbers = c.args.self.now.numbers in
    let uses : List Bool = map is_in_use numbers in
    let keys = c.requires.records.keys in
    let timed = c.requires.timing.timed in
    let own : List Piece = Thread number Running ∷ Records number keys ∷ Timing number timed ∷ Numbers uses ∷ [] in
    let none : pieces_of c.args.me.now ≡ [] = c.requires.idle.no_pieces in
    let thread : pieces_of c.take.new.me ≡ Thread number Running ∷ [] =
    c.take.ensures.pieces ∙ (ap (λ (ps : List Piece). ps ++ pieces_in c.args.thread) none ∙ c.requires.thread.pieces) in
    let records : pieces_of c.take-2.new.me ≡ Thread number Running ∷ Records number keys ∷ [] =
    c.take-2.ensures.pieces ∙ (ap (λ (ps : List Piece). ps ++ pieces_in c.args.records) thread
    ∙ ap (λ (ps : List Piece). Thread number Running ∷ ps) c.requires.records.has.pieces) in
    let timing : pieces_of c.take-3.new.me ≡ Thread number Running ∷ Records number keys ∷ Timing number timed ∷ [] =
    c.take-3.ensures.pieces ∙ (ap (λ (ps : List Piece). ps ++ pieces_in c.args.timing) records
    ∙ ap (λ (ps : List Piece). Thread number Running ∷ Records number keys ∷ ps) c.requires.timing.has.pieces) in
    let all : pieces_of c.take-4.new.me ≡ own =
    c.take-4.ensures.pieces ∙ (ap (λ (ps : List Piece). ps ++ pieces_in c.replace-part.result) timing
    ∙ (ap (λ part. Thread number Running ∷ Records number keys ∷ Timing number timed ∷ pieces_in part)
    c.replace-part.ensures.value
    ∙ ap (λ (ps : List Piece). Thread number Running ∷ Records number keys ∷ Timing number timed ∷ ps)
    c.requires.registry.part.pieces)) in
    let looks = c.look.ensures.looks in
    let seen : pieces_of c.look.new.me ≡ own = looks.pieces ∙ all in
    let registered = registered_runs looks.machine number keys timed uses
    (subst (λ (ps : List Piece). AllSo looks.machine ps) seen looks.so) in
    let below : number < length uses =
    omega (arith, c.requires.below, c.requires.registry.count, length-map numbers is_in_use) in
    let freed : map is_in_use c.release.new.self ≡ slice_set uses number false =
    ap (λ (after : List Use). map is_in_use after) c.release.ensures.freed ∙ map-set is_in_use numbers number Free in
    let read : c.deref.result.now.number ≡ number = search rules in
    subst (λ (n : ℕ). Moves bound (Is (step.Retire n) answer.Retired) (pieces_of c.look.new.me)
    (numbers_in c.release.new.self ∷ [])) (sym read)
    (subst (λ (ps : List Piece). Moves bound (Is (step.Retire number) answer.Retired) ps
    (numbers_in c.release.new.self ∷ [])) (sym seen)
    (subst (λ (after : List Bool). Moves bound (Is (step.Retire number) answer.Retired) own (Numbers after ∷ []))
    (sym freed) (retires bound number keys timed uses (slice_set uses number false)
    (one_more_unset uses number below registered))))
