-- A thread settles, one local instruction at a time.
use Rattle.std.proofs.Common.{◌≡◌, ℕ, zero, suc, ◌+◌, ◌-◌, ◌<◌, List, refl, sym, ap, ◌∙◌, set-set, arith}
use Rattle.std.specs.Prelude.{slice_get}
use Rattle.lot_litmus.specs.declared.code.Instruction.{Instruction}
use Rattle.lot_litmus.specs.declared.state.Progress.{Progress}
use Rattle.lot_litmus.specs.declared.test.Fault.{Fault}
use Rattle.lot_litmus.specs.Configuration.{Configuration}
use Rattle.lot_litmus.specs.Steps.{Goes, Fails, Locally, Rests, Advances, Errs, settled, settled_by, local_step}
use Rattle.lot_litmus.specs.Steps.{with_progress}

left : (most i : ℕ) → i < most → most - i ≡ suc (most - (i + 1))
left most i below = omega (arith, below)

settled-here : (most i : ℕ) (code : List Instruction) (c : Configuration) (thread : ℕ) (p : Progress) (does : Locally)
    → i < most → local_step (with_progress c thread p) p (slice_get code p.at) ≡ does
    → settled (most - i) code c thread p
    ≡ settled_by (settled (most - (i + 1)) code (with_progress c thread p) thread) (Goes (with_progress c thread p)) does
settled-here most i code c thread p does below is =
    ap (λ more. settled more code c thread p) (left most i below)
    ∙ ap (settled_by (settled (most - (i + 1)) code (with_progress c thread p) thread)
    (Goes (with_progress c thread p))) is

pub settled-rests : (most i : ℕ) (code : List Instruction) (c : Configuration) (thread : ℕ) (p : Progress) → i < most
    → local_step (with_progress c thread p) p (slice_get code p.at) ≡ Rests
    → Goes (with_progress c thread p) ≡ settled (most - i) code c thread p
settled-rests most i code c thread p below is = sym (settled-here most i code c thread p Rests below is)

pub settled-errs : (most i : ℕ) (code : List Instruction) (c : Configuration) (thread : ℕ) (p : Progress) (fault : Fault)
    → i < most → local_step (with_progress c thread p) p (slice_get code p.at) ≡ Errs fault
    → Fails fault ≡ settled (most - i) code c thread p
settled-errs most i code c thread p fault below is = sym (settled-here most i code c thread p (Errs fault) below is)

-- where a thread had come before it came here does not matter
settled-again : (more : ℕ) (code : List Instruction) (c : Configuration) (thread : ℕ) (p q : Progress)
    → settled more code (with_progress c thread p) thread q ≡ settled more code c thread q
settled-again zero code c thread p q = refl
settled-again (suc more) code c thread p q =
    ap (λ (d : Configuration). settled_by (settled more code d thread) (Goes d) (local_step d q (slice_get code q.at)))
    (ap (λ (threads : List Progress). record c { threads = threads }) (set-set c.threads thread p q))

pub settled-advances : (most i : ℕ) (code : List Instruction) (c : Configuration) (thread : ℕ) (p q : Progress)
    → i < most → local_step (with_progress c thread p) p (slice_get code p.at) ≡ Advances q
    → settled (most - (i + 1)) code c thread q ≡ settled (most - i) code c thread p
settled-advances most i code c thread p q below is =
    sym (settled-again (most - (i + 1)) code c thread p q)
    ∙ sym (settled-here most i code c thread p (Advances q) below is)
