-- What a section told, once it has committed its unparks, which adds nothing.
use denote.Ref.{Bor}
use Rattle.std.proofs.Common.{◌≡◌, ℕ, List, [], ◌∷◌, sym, ap, ◌∙◌, subst}
use Rattle.std.specs.Fn.{Once}
use Rattle.lot_base.specs.BucketState.{BucketState}
use Rattle.lot_base.specs.NodeLists.{lists_of}
use Rattle.lot_base.specs.Place.{place_of}
use Rattle.lot_base.specs.Waiting.{result_of, split_first}
use Rattle.lot_base.specs.declared.token.RequeueOp.{RequeueOp}
use Rattle.lot_base.specs.declared.token.UnparkResult.{UnparkResult}
use Rattle.lot_base.specs.declared.token.UnparkToken.{UnparkToken}
use Rattle.lot_machine.specs.declared.step.Answer.{Answer}
use Rattle.lot_machine.specs.declared.step.Answer.TheVariants as answer
use Rattle.lot_machine.specs.declared.step.Op.TheVariants as op
use Rattle.lot_machine.specs.declared.step.Step.{Step}
use Rattle.lot_machine.specs.declared.step.Step.TheVariants as step
use Rattle.lot_history.specs.declared.event.Event.{Event}
use Rattle.lot_history.specs.declared.history.History.{History}
use Rattle.lot_history.specs.declared.history.Witness.{Witness}
use Rattle.lot_history.specs.History.{IsHistory, events_by}
use Rattle.lot_history.specs.Pieces.{AllSo}
use Rattle.lot_history.specs.Witness.{Adds, Extends, Found, events_of, id_of, max_threads_of, number_of, seen_by, limit_of}
use Rattle.lot_threads.specs.Cells.{Has, lists_in}
use Rattle.lot_threads.specs.Requeues.{ChoosesWithin, IsRequeueWithin, RequeuesWithin}
use Rattle.lot_threads.specs.Within.{FindsPieces, MayCallBack, UnparksOne}
use Rattle.lot_threads.specs.declared.critical_section.CriticalSection.{CriticalSection}
use Rattle.lot_threads.proofs.AnswerLemmas.{same_result}
use Rattle.lot_threads.proofs.WithinLemmas.{finds, first_result, is_section}

module _ (history : History) (old told new : Witness) (seen : seen_by new ≡ seen_by told) where
  pub extends_still : (s : Step) (a : Answer) → events_of new ≡ events_of told → Extends history old s a told
      → Extends history old s a new
  extends_still s a mine extends = record {
    between = extends.between;
    seen = seen ∙ extends.seen;
    mine = mine ∙ extends.mine;
    all_mine = ap (λ (es : List Event). events_by (number_of old) es) seen ∙ (extends.all_mine ∙ sym mine);
    history = subst (λ (es : List Event). IsHistory (max_threads_of history) es) (sym seen) extends.history;
  }

  abbrev pub found_still : Found history old told → Found history old new
  found_still found = record {
    before = found.before;
    last = found.last;
    machine = found.machine;
    begins = found.begins;
    seen = seen ∙ found.seen;
    leads = found.leads;
    so = found.so;
  }

  pub unparks_still : {C : Type 0} (c : Once C (Bor CriticalSection × (UnparkResult × Unit {0})) UnparkToken) (callback : C)
      (key : ℕ) (result : UnparkResult) → events_of new ≡ events_of told → UnparksOne c callback key history old result told
      → UnparksOne c callback key history old result new
  unparks_still c callback key result mine unparks = record {
    section = unparks.section;
    within = unparks.within;
    token = unparks.token;
    called = unparks.called;
    extends = extends_still (step.Unpark (op.One key unparks.token)) (answer.Unpark result) mine unparks.extends;
    found = found_still unparks.found;
    finds = unparks.finds;
  }

module _ {C : Type 0} (c : Once C (Bor CriticalSection × (UnparkResult × Unit {0})) UnparkToken) (callback : C)
    (history : History) (bucket : BucketState) (key : ℕ) where
  -- the unpark has the token that the callback answered in a section that has the bucket's part
  abbrev pub IsOne : Step → Answer → Type 0
  IsOne s a = (section : Bor CriticalSection) × (given : UnparkResult) × (token : UnparkToken)
      × Has (id_of history) (lists_in (limit_of history) bucket ∷ []) section.now.part
      × c.post callback (section, (given, tt)) token
      × (s ≡ step.Unpark (op.One key token)) × (a ≡ answer.Unpark given)

  -- it may be called there
  pub may_call_back : place_of key bucket.size ≡ bucket.place → MayCallBack c callback history key
      → (section : Bor CriticalSection) → Has (id_of history) (lists_in (limit_of history) bucket ∷ []) section.now.part
      → c.pre callback (section, (result_of (split_first (lists_of bucket.nodes key)), tt))
  may_call_back here may section has =
      subst (λ (found : UnparkResult). c.pre callback (section, (found, tt)))
      (first_result history bucket key here section.now has) (may section (is_section history bucket key here section.now has))

  -- the section in which the callback was called has the bucket as the step found it
  pub unparks_one : place_of key bucket.size ≡ bucket.place → (old new : Witness) (result : UnparkResult)
      → Adds history old (λ s a. IsOne s a × (a ≡ answer.Unpark result)) new
      → FindsPieces history (lists_in (limit_of history) bucket ∷ []) old new → UnparksOne c callback key history old result new
  unparks_one here old new result adds found =
      let said = adds.is_said.0 in
      let section = said.0 in
      let token = said.2 in
      let has = said.3 in
      let same : said.1 ≡ result = same_result said.1 result (sym said.6 ∙ adds.is_said.1) in
      record {
        section = section;
        within = is_section history bucket key here section.now has;
        token = token;
        called = subst (λ (given : UnparkResult). c.post callback (section, (given, tt)) token) same said.4;
        extends = subst (λ (s : Step). Extends history old s (answer.Unpark result) new) said.5
            (subst (λ (a : Answer). Extends history old adds.step a new) adds.is_said.1 adds.extends);
        found = found.found;
        finds = finds history bucket key here section.now has found.found.machine found.so;
      }

module _ (history : History) (bucket : BucketState) (key : ℕ) (here : place_of key bucket.size ≡ bucket.place)
    (old told new : Witness) (seen : seen_by new ≡ seen_by told) (mine : events_of new ≡ events_of told)
    (result : UnparkResult) where
  module _ {V C : Type 0} (v : Once V (Bor CriticalSection × Unit {0}) RequeueOp)
      (c : Once C (Bor CriticalSection × (RequeueOp × (UnparkResult × Unit {0}))) UnparkToken) (validate : V) (callback : C)
      (to : ℕ) where
    -- the section in which the closures were called has the bucket as the step found it
    pub requeues : Adds history old (λ s a. ((given : UnparkResult)
        × IsRequeueWithin v c validate callback history bucket key to given s a) × (a ≡ answer.Unpark result)) told
        → (found : Found history old told) → AllSo found.machine (lists_in (limit_of history) bucket ∷ [])
        → RequeuesWithin v c validate callback key to history old result new
    requeues adds found so =
        let said = adds.is_said.0.1 in
        let same : adds.is_said.0.0 ≡ result =
        same_result adds.is_said.0.0 result (sym said.answer ∙ adds.is_said.1) in
        record {
          section = said.section;
          within = is_section history bucket key here said.section said.has;
          op = said.op;
          token = said.token;
          calls = subst (λ (given : UnparkResult).
              ChoosesWithin v c validate callback said.section said.op given said.token) same said.calls;
          extends = extends_still history old told new seen (step.Unpark (op.Requeue key to said.op said.token))
              (answer.Unpark result) mine
              (subst (λ (s : Step). Extends history old s (answer.Unpark result) told) said.step
              (subst (λ (a : Answer). Extends history old adds.step a told) adds.is_said.1 adds.extends));
          found = found_still history old told new seen found;
          finds = finds history bucket key here said.section said.has found.machine so;
        }
