use Rattle.std.proofs.Common.{◌≡◌, ◌-◌, ◌∙◌, sym, ap, arith}
use Rattle.std.specs.Prelude.{slice_get}
use Rattle.lot_litmus.specs.Performing.{locally_of}
use Rattle.lot_litmus.specs.Steps.{Goes, local_bound, local_step, settled, with_progress}
use Rattle.lot_litmus.specs.View.{configuration_of}
use Rattle.lot_litmus.proofs.BoundLemmas.{local_bound-is}
use Rattle.lot_litmus.proofs.StepLemmas.{settled-rests, settled-errs, settled-advances}
use Rattle.lot_litmus.proofs.state.State.settle.Goals as goal

pub loop-init : goal.loop-init
loop-init c = ap (λ n. settled n c.args.code.now.instructions.items (configuration_of c.args.self.now) c.args.thread.number c.args.progress) (omega arith)

pub returns-in-Rests : goal.returns-in-Rests
returns-in-Rests c =
    ap Goes (c.set_progress.ensures
    ∙ ap (with_progress (configuration_of c.loop.self) c.args.thread.number) (c.go_locally.ensures.rests c.in-Rests.is))
    ∙ settled-rests local_bound c.loop.counter c.args.code.now.instructions.items (configuration_of c.loop.self)
    c.args.thread.number c.loop.progress (rw local_bound-is c.loop-test.true)
    (sym c.go_locally.ensures.does ∙ ap (λ does. locally_of does c.go_locally.new.progress) c.in-Rests.is)
    ∙ c.loop.invariant

pub returns-in-Errs : goal.returns-in-Errs
returns-in-Errs c =
    settled-errs local_bound c.loop.counter c.args.code.now.instructions.items (configuration_of c.loop.self)
    c.args.thread.number c.loop.progress c.in-Errs.fault (rw local_bound-is c.loop-test.true)
    (sym c.go_locally.ensures.does ∙ ap (λ does. locally_of does c.go_locally.new.progress) c.in-Errs.is)
    ∙ c.loop.invariant

pub loop-preserved : goal.loop-preserved
loop-preserved c =
    settled-advances local_bound c.loop.counter c.args.code.now.instructions.items (configuration_of c.loop.self)
    c.args.thread.number c.loop.progress c.go_locally.new.progress (rw local_bound-is c.loop-test.true)
    (sym c.go_locally.ensures.does ∙ ap (λ does. locally_of does c.go_locally.new.progress) c.in-Advances.is)
    ∙ c.loop.invariant

pub returns : goal.returns
returns c =
    ap (λ n. settled n c.args.code.now.instructions.items (configuration_of c.loop.self) c.args.thread.number
    c.loop.progress) none
    ∙ c.loop.invariant
  where
    none : 0 ≡ local_bound - c.loop.counter
    none = let past = c.loop-test.false in rw local_bound-is (omega (arith, past))
