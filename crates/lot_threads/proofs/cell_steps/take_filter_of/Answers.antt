use Rattle.std.proofs.Common.{◌≡◌, ℕ, List, [], ◌∷◌, ◌++◌, rules, sym, ap, ◌∙◌, subst}
use mathlib.Core.List.{IsPrefix}
use Rattle.lot_base.specs.Filter.{IsFilterCallable, IsFiltered}
use Rattle.lot_base.specs.NodeLists.{lists_of}
use Rattle.lot_base.specs.declared.token.ParkToken.{ParkToken}
use Rattle.lot_base.specs.declared.token.UnparkResult.{UnparkResult}
use Rattle.lot_machine.specs.declared.step.Answer.{Answer}
use Rattle.lot_machine.specs.declared.step.Answer.TheVariants as answer
use Rattle.lot_machine.specs.declared.step.Op.TheVariants.{Filter}
use Rattle.lot_machine.specs.declared.step.Step.{Step}
use Rattle.lot_machine.specs.declared.step.Step.TheVariants.{Unpark}
use Rattle.lot_history.specs.declared.event.Event.{Event}
use Rattle.lot_history.specs.declared.view.Piece.{Piece}
use Rattle.lot_history.specs.Pieces.{AllSo}
use Rattle.lot_history.specs.Tells as tells
use Rattle.lot_history.specs.Witness.{limit_of, max_threads_of, number_of, pieces_in, pieces_of, seen_by, view_of, Extends}
use Rattle.lot_threads.specs.Cells.{lists_in}
use Rattle.lot_threads.proofs.AnswerLemmas.{same_result}
use Rattle.lot_threads.proofs.ListLemmas.{tokens_at}
use Rattle.lot_threads.proofs.LookLemmas.{extends_after, finds, prefix_trans, same_tokens}
use Rattle.lot_threads.proofs.WithinLemmas.{finds as finds_waiters, is_section}
use Rattle.lot_threads.proofs.cell_steps.take_filter_of.Goals as goal

-- the machine that was seen is as the bucket's part says, on whose park tokens the filter is called
pub take_filter_with-requires-clause-filter : goal.take_filter_with-requires-clause-filter
take_filter_with-requires-clause-filter g c =
    let bucket = c.args.cell.now.bucket in
    let key = c.args.key in
    let took = c.take.new.me in
    let taken : pieces_of took ≡ lists_in (limit_of c.args.history.now) bucket ∷ [] =
    c.take.ensures.pieces ∙ (ap (λ (ps : List Piece). ps ++ pieces_in c.replace-part.result) c.requires.idle.no_pieces
    ∙ (ap (λ part. pieces_in part) c.replace-part.ensures.value ∙ c.requires.cell.own.part.pieces)) in
    let looks = c.look.ensures.looks in
    subst (λ (tokens : List ParkToken). IsFilterCallable g.F.FnMut c.args.filter tokens)
    (sym (same_tokens c.args.history.now c.args.me.now took c.look.new.me bucket key c.requires.cell.here c.take.ensures.seen
    taken looks))
    (c.requires.callable.may_filter looks.machine (finds c.args.history.now c.args.me.now took c.look.new.me bucket key
    c.requires.cell.here c.take.ensures.seen taken looks))

pub take_filter_with-requires-clause-callback : goal.take_filter_with-requires-clause-callback
take_filter_with-requires-clause-callback g c =
    let bucket = c.args.cell.now.bucket in
    let key = c.args.key in
    let took = c.take.new.me in
    let taken : pieces_of took ≡ lists_in (limit_of c.args.history.now) bucket ∷ [] =
    c.take.ensures.pieces ∙ (ap (λ (ps : List Piece). ps ++ pieces_in c.replace-part.result) c.requires.idle.no_pieces
    ∙ (ap (λ part. pieces_in part) c.replace-part.ensures.value ∙ c.requires.cell.own.part.pieces)) in
    let looks = c.look.ensures.looks in
    λ decisions decided section has. c.requires.callable.may_call_back looks.machine
    (finds c.args.history.now c.args.me.now took c.look.new.me bucket key c.requires.cell.here c.take.ensures.seen taken looks)
    (lists_of bucket.nodes key)
    (same_tokens c.args.history.now c.args.me.now took c.look.new.me bucket key c.requires.cell.here c.take.ensures.seen
    taken looks) decisions decided section (is_section c.args.history.now bucket key c.requires.cell.here section.now has)

-- the machine that the step found is as the bucket's part says, on whose park tokens the filter decided
pub returns-clause-unparked : goal.returns-clause-unparked
returns-clause-unparked g c =
    let bucket = c.args.cell.now.bucket in
    let key = c.args.key in
    let filter = c.args.filter in
    let callback = c.args.callback in
    let history = c.args.history.now in
    let here = c.requires.cell.here in
    let bound = max_threads_of history in
    let number = number_of c.take.new.me in
    let result = c.take_filter_with.result.0 in
    let took = c.take.new.me in
    let looked = c.look.new.me in
    let last = c.take_filter_with.new.me in
    let looks = c.look.ensures.looks in
    let taken : pieces_of took ≡ lists_in (limit_of c.args.history.now) bucket ∷ [] =
    c.take.ensures.pieces ∙ (ap (λ (ps : List Piece). ps ++ pieces_in c.replace-part.result) c.requires.idle.no_pieces
    ∙ (ap (λ part. pieces_in part) c.replace-part.ensures.value ∙ c.requires.cell.own.part.pieces)) in
    let adds = c.take_filter_with.ensures.adds in
    let found = c.take_filter_with.ensures.found in
    let m = found.machine in
    let so : AllSo m (lists_in (limit_of c.args.history.now) bucket ∷ []) =
    subst (λ (ps : List Piece). AllSo m ps) (looks.pieces ∙ taken) found.so in
    let told = adds.is_said.0.1 in
    let same : adds.is_said.0.0 ≡ result =
    same_result adds.is_said.0.0 result (sym told.answer ∙ adds.is_said.1) in
    let extends : Extends history looked (Unpark (Filter key told.decisions told.token)) (answer.Unpark result) last =
    subst (λ (s : Step). Extends history looked s (answer.Unpark result) last) told.step
    (subst (λ (a : Answer). Extends history looked adds.step a last) adds.is_said.1 adds.extends) in
    let from_took : Extends history took (Unpark (Filter key told.decisions told.token)) (answer.Unpark result) last =
    extends_after bound number (view_of took) (view_of looked) (view_of last) looks
    (Unpark (Filter key told.decisions told.token)) (answer.Unpark result)
    (subst (λ (by : ℕ). tells.Extends bound by (view_of looked) (Unpark (Filter key told.decisions told.token))
    (answer.Unpark result) (view_of last)) c.look.ensures.still.number extends) in
    record {
      decisions = told.decisions;
      token = told.token;
      extends = record {
        between = from_took.between;
        seen = search rules;
        mine = search rules;
        all_mine = search rules;
        history = search rules;
      };
      found = record {
        before = found.before;
        last = found.last;
        machine = m;
        begins = prefix_trans (seen_by c.args.me.now) (seen_by looked) found.before
            (subst (λ (es : List Event). IsPrefix es (seen_by looked)) c.take.ensures.seen looks.seen) found.begins;
        seen = found.seen;
        leads = found.leads;
        so = search rules;
      };
      calls = record {
        decided = subst (λ (tokens : List ParkToken). IsFiltered g.F.FnMut filter tokens told.decisions.items)
            (tokens_at m (limit_of c.args.history.now) bucket.size bucket.place key bucket.nodes here so) told.decided;
        section = told.section;
        within = is_section history bucket key here told.section.now told.has;
        finds = finds_waiters history bucket key here told.section.now told.has m so;
        called = subst (λ (found : UnparkResult). g.C.FnOnce.post callback (told.section, (found, tt)) told.token) same
            told.called;
      };
    }
