-- The end of a registration: the number is registered, since its thread runs.
use Rattle.std.proofs.Common.{◌≡◌, ◌≢◌, ℕ, ◌<◌, Bool, true, false, List, [], ◌∷◌, length, slice_set, sym, ap, ◌∙◌}
use Rattle.std.proofs.Common.{⊎_elim}
use Rattle.std.proofs.lemmas.List.{get_or-set_same, get_or-set_other}
use Rattle.std.proofs.lemmas.Bool.{cases_eq}
use Rattle.lot_base.proofs.ValueLemmas.{with_value-same, with_value-other}
use Rattle.lot_machine.specs.declared.status.Status.TheVariants.{Running}
use Rattle.lot_machine.specs.Machine.{Machine}
use Rattle.lot_machine.specs.Status.{is_registered}
use Rattle.lot_history.specs.declared.view.Piece.TheVariants.{Numbers, Records, Thread, Timing}
use Rattle.lot_history.specs.Pieces.{has_number, AllSo, IsOneMore}

-- a number that is registered is one more than those without it
pub one_more_unset : (uses : List Bool) (number : ℕ) → number < length uses → has_number uses number ≡ true
    → IsOneMore (slice_set uses number false) number uses
one_more_unset uses number low registered = record {
  free = get_or-set_same uses number false false low;
  numbers = λ k. ⊎_elim
      (λ (same : k ≡ number). ap (has_number uses) same ∙ (registered
      ∙ sym (with_value-same (has_number (slice_set uses number false)) number true k same)))
      (λ (other : k ≢ number). sym (get_or-set_other uses number k false false other)
      ∙ sym (with_value-other (has_number (slice_set uses number false)) number true k other))
      (cases_eq k number);
}

-- the number of a thread that runs is registered
pub registered_runs : (m : Machine) (number : ℕ) (keys : List ℕ) (timed : Bool) (uses : List Bool)
    → AllSo m (Thread number Running ∷ Records number keys ∷ Timing number timed ∷ Numbers uses ∷ [])
    → has_number uses number ≡ true
registered_runs m number keys timed uses (runs, (recorded, (timing, (so, _)))) = sym (so.0 number) ∙ ap is_registered runs
