-- Steps that concern one thread alone, or none.
use Rattle.std.proofs.Common.{◌≡◌, ◌≢◌, ℕ, ◌+◌, ◌≤◌, Bool, true, List, [], ◌∷◌, refl, sym, ap, ◌∙◌, subst, ⊎_elim, arith}
use Rattle.std.proofs.lemmas.Bool.{cases_eq}
use Rattle.lot_base.specs.declared.token.UnparkToken.{UnparkToken}
use Rattle.lot_base.proofs.ValueLemmas.{with_value-same, with_value-other}
use Rattle.lot_machine.specs.declared.status.Status.{Status}
use Rattle.lot_machine.specs.declared.status.Status.TheVariants as status
use Rattle.lot_machine.specs.declared.step.Answer.{Answer}
use Rattle.lot_machine.specs.declared.step.Answer.TheVariants as answer
use Rattle.lot_machine.specs.declared.step.Step.{Step}
use Rattle.lot_machine.specs.declared.step.Step.TheVariants as step
use Rattle.lot_machine.specs.Machine.{Machine, with_status}
use Rattle.lot_machine.specs.Status.{is_registered}
use Rattle.lot_machine.specs.Steps.{IsStep, IsReturn, IsResolve}
use Rattle.lot_history.specs.declared.view.Piece.{Piece}
use Rattle.lot_history.specs.declared.view.Piece.TheVariants.{Thread}
use Rattle.lot_history.specs.Moves.{SameCover, Finds, Reaches, Moves}
use Rattle.lot_history.specs.Pieces.{Name, list, title, dealing, thread, records, timing, numbers, covers, cover, Alike, AllSo}
use Rattle.lot_history.proofs.PieceLemmas.{own_thread, AllSo-alike}

-- this step, with this answer
abbrev pub Is : Step → Answer → Step → Answer → Type 0
Is step answer s a = (s ≡ step) × (a ≡ answer)

-- a step of which more is known
pub says : (max_threads : ℕ) (said also : Step → Answer → Type 0) (before after : List Piece)
    → ((s : Step) (a : Answer) → said s a → also s a) → Moves max_threads said before after
    → Moves max_threads also before after
says max_threads said also before after more moves = record {
  cover = moves.cover;
  step = λ m finds. let to : Reaches m said after = moves.step m finds in record {
    step = to.step;
    answer = to.answer;
    is_said = more to.step to.answer to.is_said;
    next = to.next;
    does = to.does;
    so = to.so;
    others = to.others;
  };
}

-- one whose answer goes by another name, wherever it is made
pub answers : (max_threads : ℕ) (step : Step) (answer other : Answer) (before after : List Piece)
    → ((m : Machine) → Finds max_threads before m → answer ≡ other) → Moves max_threads (Is step answer) before after
    → Moves max_threads (Is step other) before after
answers max_threads step answer other before after same moves = record {
  cover = moves.cover;
  step = λ m finds. let to : Reaches m (Is step answer) after = moves.step m finds in record {
    step = to.step;
    answer = to.answer;
    is_said = (to.is_said.0, to.is_said.1 ∙ same m finds);
    next = to.next;
    does = to.does;
    so = to.so;
    others = to.others;
  };
}

-- one of which the machine that is found says that it may be made
pub supposing : (max_threads : ℕ) (said : Step → Answer → Type 0) (before after : List Piece) → SameCover before after
    → ((m : Machine) → Finds max_threads before m → Moves max_threads said before after)
    → Moves max_threads said before after
supposing max_threads said before after same moves =
    record { cover = same; step = λ m finds. (moves m finds).step m finds }

-- one that is known, where pieces go by other names
pub said_moves : (max_threads : ℕ) (step : Step) (answer : Answer) (said : Step → Answer → Type 0)
    (before after old new : List Piece) → old ≡ before → new ≡ after → said step answer
    → Moves max_threads (Is step answer) before after → Moves max_threads said old new
said_moves max_threads step answer said before after old new is_before is_after is_said moves =
    subst (λ (ps : List Piece). Moves max_threads said ps new) (sym is_before)
    (subst (Moves max_threads said before) (sym is_after)
    (says max_threads (Is step answer) said before after
    (λ s a is. subst (λ t. said t a) (sym is.0) (subst (said step) (sym is.1) is_said)) moves))

-- a step that leaves the machine as it is needs no piece, and leaves those that there are
pub stays_moves : (max_threads : ℕ) (s : Step) (a : Answer) (pieces : List Piece)
    → ((m : Machine) → Finds max_threads pieces m → IsStep m s a m) → Moves max_threads (Is s a) pieces pieces
stays_moves max_threads s a pieces does = record {
  cover = λ name. refl;
  step = λ m finds. record {
    step = s;
    answer = a;
    is_said = (refl, refl);
    next = m;
    does = does m finds;
    so = finds.so;
    others = λ name none. alike m name;
  };
}
  where
    alike : (m : Machine) (name : Name) → Alike m m name
    alike m (list key) = refl
    alike m (title key) = refl
    alike m (dealing key) = tt
    alike m (thread number) = refl
    alike m (records number) = refl
    alike m (timing number) = λ timed waits. waits
    alike m numbers = λ number. refl

pub trims : (max_threads : ℕ) (pieces : List Piece) → Moves max_threads (Is step.Trim answer.Trimmed) pieces pieces
trims max_threads pieces = stays_moves max_threads step.Trim answer.Trimmed pieces (λ m finds. refl)

-- where memory is wanting, too
pub trims_nothing : (max_threads : ℕ) (pieces : List Piece)
    → Moves max_threads (Is step.Trim answer.NoMemory) pieces pieces
trims_nothing max_threads pieces = stays_moves max_threads step.Trim answer.NoMemory pieces (λ m finds. refl)

-- the status of a thread changes, which does not wait then
pub turned_timing : (m : Machine) (number : ℕ) (after : Status) → ((timed : Bool) → after ≢ status.Waiting timed)
    → (other : ℕ) → Alike m (with_status m number after) (timing other)
turned_timing m number after awake other timed waits =
    ⊎_elim
    (λ (same : other ≡ number). absurd (awake timed (sym (with_value-same m.status number after other same) ∙ waits)))
    (λ (apart : other ≢ number). sym (with_value-other m.status number after other apart) ∙ waits)
    (cases_eq other number)

-- the status of a registered thread changes, and it stays registered
module _ (m : Machine) (number : ℕ) (before after : Status) (is : m.status number ≡ before)
    (was : is_registered before ≡ true) (still : is_registered after ≡ true) where
  pub turned_thread : (other : ℕ) → covers (thread other) (Thread number after) ≡ 0
      → Alike m (with_status m number after) (thread other)
  turned_thread other none =
      ⊎_elim (λ (same : other ≡ number). let one = own_thread other number after same in
      absurd (omega arith))
      (λ (apart : other ≢ number). sym (with_value-other m.status number after other apart))
      (cases_eq other number)

  pub turned_numbers : Alike m (with_status m number after) numbers
  turned_numbers = λ other.
      ⊎_elim (λ (same : other ≡ number). ap (λ n. is_registered (m.status n)) same ∙ (ap is_registered is ∙ (was ∙ (sym still
      ∙ ap is_registered (sym (with_value-same m.status number after other same))))))
      (λ (apart : other ≢ number). ap is_registered (sym (with_value-other m.status number after other apart)))
      (cases_eq other number)

  pub turned_alike : ((timed : Bool) → after ≢ status.Waiting timed) → (rest : List Piece) (name : Name)
      → cover name (Thread number after ∷ rest) ≡ 0 → Alike m (with_status m number after) name
  turned_alike awake rest (list key) none = refl
  turned_alike awake rest (title key) none = refl
  turned_alike awake rest (dealing key) none = tt
  turned_alike awake rest (records other) none = refl
  turned_alike awake rest (timing other) none = turned_timing m number after awake other
  turned_alike awake rest (thread other) none = turned_thread other (omega (arith, none))
  turned_alike awake rest numbers none = turned_numbers

-- what the other pieces say stays so where one thread alone changes, which has a piece of its own
pub rest_so : (m new : Machine) (first : Piece) (rest : List Piece)
    → ((name : Name) → covers name first + cover name rest ≤ 1)
    → ((name : Name) → covers name first ≡ 0 → Alike m new name) → AllSo m rest → AllSo new rest
rest_so m new first rest once alike so =
    AllSo-alike m new rest (λ name more. alike name (let o = once name in omega arith)) so

-- a step by which a registered thread that stands in no list gets another status
pub turns : (max_threads number : ℕ) (s : Step) (a : Answer) (before after : Status) (rest : List Piece)
    → is_registered before ≡ true → is_registered after ≡ true → ((timed : Bool) → after ≢ status.Waiting timed)
    → ((m : Machine) → m.status number ≡ before → IsStep m s a (with_status m number after))
    → Moves max_threads (Is s a) (Thread number before ∷ rest) (Thread number after ∷ rest)
turns max_threads number s a before after rest was still awake does = record {
  cover = same;
  step = λ m finds. record {
    step = s;
    answer = a;
    is_said = (refl, refl);
    next = with_status m number after;
    does = does m finds.so.0;
    so = (
      with_value-same m.status number after number refl,
      rest_so m (with_status m number after) (Thread number after) rest
          (λ name. let c = same name in let o = finds.once name in omega arith)
          (λ name none. turned_alike m number before after finds.so.0 was still awake [] name (omega arith)) finds.so.1,
    );
    others = turned_alike m number before after finds.so.0 was still awake rest;
  };
}
  where
    same : (name : Name) → cover name (Thread number after ∷ rest) ≡ cover name (Thread number before ∷ rest)
    same (list key) = refl
    same (title key) = refl
    same (dealing key) = refl
    same (thread other) = refl
    same (records other) = refl
    same (timing other) = refl
    same numbers = refl

-- a thread that was taken comes back with its token, by `Return`, or by `Resolve` once its deadline has passed
module _ (max_threads number : ℕ) (token : UnparkToken) (rest : List Piece) where
  abbrev pub ComesBack : Step → Type 0
  ComesBack s = Moves max_threads (Is s (answer.Unparked token)) (Thread number (status.Taken token) ∷ rest)
      (Thread number status.Running ∷ rest)

  pub returns : ComesBack (step.Return number)
  returns = turns max_threads number (step.Return number) (answer.Unparked token) (status.Taken token) status.Running
      rest refl refl (λ timed is. cc (is))
      (λ m taken. subst (λ s. IsReturn m number s (answer.Unparked token) (with_status m number status.Running))
      (sym taken) (refl, refl))

  pub resolves : ComesBack (step.Resolve number)
  resolves = turns max_threads number (step.Resolve number) (answer.Unparked token) (status.Taken token) status.Running
      rest refl refl (λ timed is. cc (is))
      (λ m taken. subst (λ s. IsResolve m number s (answer.Unparked token) (with_status m number status.Running))
      (sym taken) (refl, refl))
