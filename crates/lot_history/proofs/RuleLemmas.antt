-- What keeps the rule of a history.
use Rattle.std.proofs.Common.{◌≡◌, ◌≢◌, ◌⊎◌, ℕ, zero, suc, ◌+◌, ◌<◌, ◌≤◌, ◌==◌, List, [], ◌∷◌, ◌++◌, length, set, cond}
use Rattle.std.proofs.Common.{refl, sym, ap, ◌∙◌, subst, inl, inr, ⊎_elim, arith, length-append, append-nil, All}
use Rattle.std.proofs.Common.{Option}
use Rattle.std.proofs.lemmas.Bool.{cases_eq, eq-eqb, ne_eqb, cond-true, cond-false}
use Rattle.std.proofs.lemmas.List.Elements.{All-nil, All-append, All-contains}
use Rattle.std.proofs.lemmas.Option.{same_Some}
use Rattle.std.proofs.Math.ListN.{length-set}
use mathlib.Core.List.{IsPrefix}
use mathlib.Core.Option.{some, some-injective, some-ne-none}
use lib.ListN.{get_elem?}
use Rattle.atomic_table.specs.Seated.{TableId}
use Rattle.atomic_table.proofs.Lists.{at_set}
use Rattle.lot_machine.specs.declared.step.Answer.{Answer}
use Rattle.lot_machine.specs.declared.step.Step.{Step}
use Rattle.lot_machine.proofs.StepLemmas.{IsConsistent-step}
use Rattle.lot_history.proofs.MachineLemmas.{max_threads-step}
use Rattle.lot_history.specs.declared.deal.Deal.{Deal}
use Rattle.lot_history.specs.declared.event.Event.{Event}
use Rattle.lot_history.specs.declared.view.Piece.{Piece}
use Rattle.lot_history.specs.declared.view.View.{View}
use Rattle.lot_history.specs.History.{events_by}
use Rattle.lot_history.specs.Pieces.{Name, dealing, cover, AllSo}
use Rattle.lot_history.specs.Moves.{Finds, Reaches, Moves, Regroups}
use Rattle.lot_history.specs.Rule.{IsDealt, Knows, Kept}
use Rattle.lot_history.specs.Titles.{Agree}
use Rattle.lot_history.specs.Views.{spent_view, told_view}
use Rattle.lot_history.specs.Tells.{Found, event, Adds, Looks}
use Rattle.lot_history.proofs.EventLemmas.{prefix_self, prefix_nil, prefix_longer, events_by-own, events_by-other}
use Rattle.lot_history.proofs.EventLemmas.{LeadsTo-push}
use Rattle.lot_history.proofs.PieceLemmas.{AlikeWhere, AllSo-alike, AllSo-append, cover-append}

-- places in a list

in_range : {A : Type 0} (l : List A) (i : ℕ) (a : A) → get_elem? l i ≡ some a → i < length l
in_range [] i a at = absurd (some-ne-none a (sym at))
in_range (x ∷ xs) zero a at = omega arith
in_range (x ∷ xs) (suc i) a at = omega (arith, in_range xs i a at)

at_end : {A : Type 0} (l : List A) (a b : A) (j : ℕ) → get_elem? (l ++ a ∷ []) j ≡ some b
    → (get_elem? l j ≡ some b) ⊎ ((j ≡ length l) × (a ≡ b))
at_end [] a b zero at = inr (refl, some-injective a b at)
at_end [] a b (suc j) at = absurd (some-ne-none b (sym at))
at_end (x ∷ xs) a b zero at = inl at
at_end (x ∷ xs) a b (suc j) at = ⊎_elim inl (λ t. inr (ap suc t.0, t.1)) (at_end xs a b j at)

-- deals that are so agree
pub agree : (homes : ℕ → Option TableId) (deals : List Deal) → All (IsDealt homes) deals → Agree deals
agree homes deals so one other among too same = same_Some one.home other.home
    (sym (All-contains (IsDealt homes) deals one so among)
    ∙ (ap homes same ∙ All-contains (IsDealt homes) deals other so too))

-- what is so of a seat and its number is so of them by other names
pub at_place : (so : ℕ → View → Type 0) (i j : ℕ) (w u : View) → j ≡ i → w ≡ u → so i w → so j u
at_place so i j w u place same holds = subst (λ k. so k u) (sym place) (subst (so i) same holds)

-- other seats know of the same history
pub with_seats : (max_threads : ℕ) (views : List View) (kept : Kept max_threads views) (after : List View)
    (owner : Name → ℕ) (homes : ℕ → Option TableId) → length views ≤ length after
    → ((j : ℕ) (u : View) → get_elem? after j ≡ some u → Knows kept.events kept.machine owner homes j u)
    → Kept max_threads after
with_seats max_threads views kept after owner homes longer each = record {
  events = kept.events;
  machine = kept.machine;
  owner = owner;
  homes = homes;
  run = kept.run;
  few = kept.few;
  threads = kept.threads;
  consistent = kept.consistent;
  each = each;
  others = λ j high. kept.others j (omega (arith, longer, high));
}

-- a new seat, which knows of nothing
pub arrives : (max_threads : ℕ) (views : List View) → Kept max_threads views → Kept max_threads (views ++ told_view [] ∷ [])
arrives max_threads views kept = with_seats max_threads views kept (views ++ told_view [] ∷ []) kept.owner kept.homes
    (omega (arith, length-append views (told_view [] ∷ [])))
    (λ j u there. ⊎_elim (kept.each j u)
    (λ t. at_place (Knows kept.events kept.machine kept.owner kept.homes) (length views) j (told_view []) u t.0 t.1 knows)
    (at_end views (told_view []) u j there))
  where
    knows : Knows kept.events kept.machine kept.owner kept.homes (length views) (told_view [])
    knows = record {
      seen = prefix_nil kept.events;
      heard = prefix_nil kept.events;
      mine = kept.others (length views) (omega arith);
      owns = λ name covered. absurd (omega (arith, covered));
      once = λ name. omega arith;
      pieces = tt;
      deals = All-nil (IsDealt kept.homes);
      undealt = λ key covered. absurd (omega (arith, covered));
    }

module _ (max_threads : ℕ) (views : List View) (kept : Kept max_threads views) (id : ℕ) (v : View)
    (at : get_elem? views id ≡ some v) where
  abbrev own : Knows kept.events kept.machine kept.owner kept.homes id v
  own = kept.each id v at

  found : Finds max_threads v.pieces kept.machine
  found =
      record { few = kept.few; threads = kept.threads; consistent = kept.consistent; once = own.once; so = own.pieces }

  below : id < length views
  below = in_range views id v at

  -- a seat knows otherwise of the same history
  pub with_view : (w : View) → Knows kept.events kept.machine kept.owner kept.homes id w
      → Kept max_threads (set views id w)
  with_view w knows = with_seats max_threads views kept (set views id w) kept.owner kept.homes
      (omega (arith, length-set views id w))
      (λ j u there. ⊎_elim
      (λ t. at_place (Knows kept.events kept.machine kept.owner kept.homes) id j w u t.0 t.1 knows)
      (λ t. kept.each j u t.1) (at_set views id j w u there))

  -- a look
  pub looks : (w : View) × Kept max_threads (set views id w) × Looks max_threads id v w × IsPrefix v.heard w.seen
      × (w.deals ≡ v.deals) × Agree v.deals
  looks =
      let w : View = record { seen = kept.events; heard = []; mine = v.mine; pieces = v.pieces; deals = v.deals } in (
        w,
        with_view w (record {
          seen = prefix_self kept.events;
          heard = prefix_nil kept.events;
          mine = own.mine;
          owns = own.owns;
          once = own.once;
          pieces = own.pieces;
          deals = own.deals;
          undealt = own.undealt;
        }),
        record {
          machine = kept.machine;
          seen = own.seen;
          mine = refl;
          all_mine = own.mine;
          history = kept.run;
          so = own.pieces;
          pieces = refl;
        },
        own.heard,
        refl,
        agree kept.homes v.deals own.deals,
      )

  -- the same parts in other pieces
  pub regroups : (after : List Piece) → Regroups max_threads v.pieces after → Kept max_threads (set views id (record v { pieces = after }))
  regroups after same = with_view (record v { pieces = after }) (record {
    seen = own.seen;
    heard = own.heard;
    mine = own.mine;
    owns = λ name covered. own.owns name (subst (λ n. 0 < n) (same.cover name) covered);
    once = λ name. subst (λ n. n ≤ 1) (sym (same.cover name)) (own.once name);
    pieces = same.so kept.machine found;
    deals = own.deals;
    undealt = λ key covered. own.undealt key (subst (λ n. 0 < n) (same.cover (dealing key)) covered);
  })

  -- a step
  module _ (said : Step → Answer → Type 0) (after : List Piece) (moves : Moves max_threads said v.pieces after) where
    abbrev from : Reaches kept.machine said after
    from = moves.step kept.machine found

    abbrev added : Event
    added = event id from.step from.answer

    abbrev new_view : View
    new_view =
        record {
          seen = kept.events ++ added ∷ [];
          heard = [];
          mine = v.mine ++ added ∷ [];
          pieces = after;
          deals = v.deals;
        }

    own_knows : Knows (kept.events ++ added ∷ []) from.next kept.owner kept.homes id new_view
    own_knows = record {
      seen = prefix_self (kept.events ++ added ∷ []);
      heard = prefix_nil (kept.events ++ added ∷ []);
      mine = events_by-own id kept.events added refl ∙ ap (λ es. es ++ added ∷ []) own.mine;
      owns = λ name covered. own.owns name (subst (λ n. 0 < n) (moves.cover name) covered);
      once = λ name. subst (λ n. n ≤ 1) (sym (moves.cover name)) (own.once name);
      pieces = from.so;
      deals = own.deals;
      undealt = λ key covered. own.undealt key (subst (λ n. 0 < n) (moves.cover (dealing key)) covered);
    }

    alike : (j : ℕ) (u : View) → j ≢ id → Knows kept.events kept.machine kept.owner kept.homes j u
        → AlikeWhere kept.machine from.next (λ name. cover name u.pieces)
    alike j u other knows name covered =
        ⊎_elim (from.others name)
        (λ (any : cover name after ≢ 0). let c = moves.cover name in
        let more : 0 < cover name v.pieces = omega arith in
        absurd (other (sym (knows.owns name covered) ∙ own.owns name more)))
        (cases_eq (cover name after) 0)

    other_knows : (j : ℕ) (u : View) → j ≢ id → Knows kept.events kept.machine kept.owner kept.homes j u
        → Knows (kept.events ++ added ∷ []) from.next kept.owner kept.homes j u
    other_knows j u other knows = record {
      seen = prefix_longer u.seen kept.events (added ∷ []) knows.seen;
      heard = prefix_longer u.heard kept.events (added ∷ []) knows.heard;
      mine = events_by-other j kept.events added (λ e. other (sym e)) ∙ knows.mine;
      owns = knows.owns;
      once = knows.once;
      pieces = AllSo-alike kept.machine from.next u.pieces (alike j u other knows) knows.pieces;
      deals = knows.deals;
      undealt = knows.undealt;
    }

    stepped : Kept max_threads (set views id new_view)
    stepped = record {
      events = kept.events ++ added ∷ [];
      machine = from.next;
      owner = kept.owner;
      homes = kept.homes;
      run = LeadsTo-push max_threads kept.events added kept.machine from.next kept.run from.does;
      few = kept.few;
      threads = max_threads-step kept.machine from.step from.answer from.next from.does ∙ kept.threads;
      consistent = IsConsistent-step kept.machine from.step from.answer from.next kept.consistent from.does;
      each = λ j u there. ⊎_elim
          (λ t. at_place (Knows (kept.events ++ added ∷ []) from.next kept.owner kept.homes) id j new_view u t.0 t.1 own_knows)
          (λ t. other_knows j u t.0 (kept.each j u t.1)) (at_set views id j new_view u there);
      others = λ j high. let far : length views ≤ j = subst (λ n. n ≤ j) (length-set views id new_view) high in
          events_by-other j kept.events added (λ e. absurd (let b = below in omega arith)) ∙ kept.others j far;
    }

    pub adds : (w : View) × Kept max_threads (set views id w) × Adds max_threads id said v w
        × (w.pieces ≡ after) × Found max_threads id v w × (w.deals ≡ v.deals)
    adds = (
      new_view,
      stepped,
      record {
        step = from.step;
        answer = from.answer;
        is_said = from.is_said;
        extends = record {
          between = own.seen.0;
          seen = ap (λ es. es ++ added ∷ []) (sym own.seen.1);
          mine = refl;
          all_mine = own_knows.mine;
          history = (from.next, LeadsTo-push max_threads kept.events added kept.machine from.next kept.run from.does);
        };
      },
      refl,
      record {
        before = kept.events;
        last = added;
        machine = kept.machine;
        begins = own.seen;
        seen = refl;
        leads = kept.run;
        so = own.pieces;
      },
      refl,
    )

  -- a new seat is given some pieces of this one, has seen this much, and knows of these deals
  module _ (seen : List Event) (begins : IsPrefix seen kept.events) (ps qs : List Piece) (deals : List Deal)
      (parts : (name : Name) → cover name ps + cover name qs ≡ cover name v.pieces)
      (left_so : AllSo kept.machine ps) (right_so : AllSo kept.machine qs) (dealt : All (IsDealt kept.homes) deals)
    where
      abbrev left : View
      left = record v { pieces = ps }

      abbrev right : View
      right = record { seen = seen; heard = []; mine = []; pieces = qs; deals = deals }

      abbrev new : ℕ
      new = length views

      abbrev owner : Name → ℕ
      owner name = cond (cover name qs == 0) (kept.owner name) new

      owner-kept : (name : Name) → cover name qs ≡ 0 → owner name ≡ kept.owner name
      owner-kept name none = cond-true (cover name qs == 0) (kept.owner name) new (eq-eqb (cover name qs) 0 none)

      owner-new : (name : Name) → cover name qs ≢ 0 → owner name ≡ new
      owner-new name any = cond-false (cover name qs == 0) (kept.owner name) new (ne_eqb (cover name qs) 0 any)

      left_knows : Knows kept.events kept.machine owner kept.homes id left
      left_knows = record {
        seen = own.seen;
        heard = own.heard;
        mine = own.mine;
        owns = λ name covered. let p = parts name in let o = own.once name in
            owner-kept name (omega arith) ∙ own.owns name (omega arith);
        once = λ name. let p = parts name in let o = own.once name in omega arith;
        pieces = left_so;
        deals = own.deals;
        undealt = λ key covered. own.undealt key (let p = parts (dealing key) in omega arith);
      }

      right_knows : Knows kept.events kept.machine owner kept.homes new right
      right_knows = record {
        seen = begins;
        heard = prefix_nil kept.events;
        mine = kept.others new (omega arith);
        owns = λ name covered. owner-new name (λ none. absurd (omega arith));
        once = λ name. let p = parts name in let o = own.once name in omega arith;
        pieces = right_so;
        deals = dealt;
        undealt = λ key covered. own.undealt key (let p = parts (dealing key) in omega arith);
      }

      rest_knows : (j : ℕ) (u : View) → j ≢ id → Knows kept.events kept.machine kept.owner kept.homes j u
          → Knows kept.events kept.machine owner kept.homes j u
      rest_knows j u other knows = record {
        seen = knows.seen;
        heard = knows.heard;
        mine = knows.mine;
        owns = λ name covered. ⊎_elim
            (λ (none : cover name qs ≡ 0). owner-kept name none ∙ knows.owns name covered)
            (λ (any : cover name qs ≢ 0). let p = parts name in let more : 0 < cover name v.pieces = omega arith in
            absurd (other (sym (knows.owns name covered) ∙ own.owns name more)))
            (cases_eq (cover name qs) 0);
        once = knows.once;
        pieces = knows.pieces;
        deals = knows.deals;
        undealt = knows.undealt;
      }

      pub splits : Kept max_threads (set views id left ++ right ∷ [])
      splits = with_seats max_threads views kept (set views id left ++ right ∷ []) owner kept.homes
          (omega (arith, length-set views id left, length-append (set views id left) (right ∷ [])))
          (λ j u there. ⊎_elim
          (λ here. ⊎_elim
          (λ t. at_place (Knows kept.events kept.machine owner kept.homes) id j left u t.0 t.1 left_knows)
          (λ t. rest_knows j u t.0 (kept.each j u t.1)) (at_set views id j left u here))
          (λ t. at_place (Knows kept.events kept.machine owner kept.homes) new j right u
          (t.0 ∙ length-set views id left) t.1 right_knows)
          (at_end (set views id left) right u j there))

  -- another seat, which has added nothing, gives its pieces to this one, and tells what it has seen
  module _ (other : ℕ) (w : View) (apart : other ≢ id) (there : get_elem? views other ≡ some w) (quiet : w.mine ≡ []) where
    abbrev their : Knows kept.events kept.machine kept.owner kept.homes other w
    their = kept.each other w there

    abbrev both : View
    both = record {
      seen = v.seen;
      heard = w.seen;
      mine = v.mine;
      pieces = v.pieces ++ w.pieces;
      deals = v.deals ++ w.deals;
    }

    abbrev new_owner : Name → ℕ
    new_owner name = cond (cover name w.pieces == 0) (kept.owner name) id

    new_owner-kept : (name : Name) → cover name w.pieces ≡ 0 → new_owner name ≡ kept.owner name
    new_owner-kept name none =
        cond-true (cover name w.pieces == 0) (kept.owner name) id (eq-eqb (cover name w.pieces) 0 none)

    new_owner-own : (name : Name) → cover name w.pieces ≢ 0 → new_owner name ≡ id
    new_owner-own name any =
        cond-false (cover name w.pieces == 0) (kept.owner name) id (ne_eqb (cover name w.pieces) 0 any)

    -- no name is covered by both
    disjoint : (name : Name) → 0 < cover name w.pieces → cover name v.pieces ≡ 0
    disjoint name covered =
        ⊎_elim (λ (none : cover name v.pieces ≡ 0). none)
        (λ (any : cover name v.pieces ≢ 0). let more : 0 < cover name v.pieces = omega arith in
        absurd (apart (sym (their.owns name covered) ∙ own.owns name more)))
        (cases_eq (cover name v.pieces) 0)

    both_knows : Knows kept.events kept.machine new_owner kept.homes id both
    both_knows = record {
      seen = own.seen;
      heard = their.seen;
      mine = own.mine;
      owns = λ name covered. ⊎_elim
          (λ (none : cover name w.pieces ≡ 0). new_owner-kept name none
          ∙ own.owns name (let c = cover-append name v.pieces w.pieces in omega arith))
          (new_owner-own name)
          (cases_eq (cover name w.pieces) 0);
      once = λ name. let c = cover-append name v.pieces w.pieces in let o = own.once name in let t = their.once name in
          ⊎_elim (λ (none : cover name w.pieces ≡ 0). let z = none in omega arith)
          (λ (any : cover name w.pieces ≢ 0). let d = disjoint name (omega arith) in omega arith)
          (cases_eq (cover name w.pieces) 0);
      pieces = AllSo-append kept.machine v.pieces w.pieces own.pieces their.pieces;
      deals = All-append (IsDealt kept.homes) v.deals w.deals own.deals their.deals;
      undealt = λ key covered. let c = cover-append (dealing key) v.pieces w.pieces in
          ⊎_elim (λ (none : cover (dealing key) w.pieces ≡ 0). own.undealt key (let z = none in omega arith))
          (λ (any : cover (dealing key) w.pieces ≢ 0). their.undealt key (omega arith))
          (cases_eq (cover (dealing key) w.pieces) 0);
    }

    spent_knows : Knows kept.events kept.machine new_owner kept.homes other spent_view
    spent_knows = record {
      seen = prefix_nil kept.events;
      heard = prefix_nil kept.events;
      mine = their.mine ∙ quiet;
      owns = λ name covered. absurd (omega arith);
      once = λ name. omega arith;
      pieces = tt;
      deals = All-nil (IsDealt kept.homes);
      undealt = λ key covered. absurd (omega arith);
    }

    third_knows : (j : ℕ) (u : View) → j ≢ other → Knows kept.events kept.machine kept.owner kept.homes j u
        → Knows kept.events kept.machine new_owner kept.homes j u
    third_knows j u else knows = record {
      seen = knows.seen;
      heard = knows.heard;
      mine = knows.mine;
      owns = λ name covered. ⊎_elim
          (λ (none : cover name w.pieces ≡ 0). new_owner-kept name none ∙ knows.owns name covered)
          (λ (any : cover name w.pieces ≢ 0). let more : 0 < cover name w.pieces = omega arith in
          absurd (else (sym (knows.owns name covered) ∙ their.owns name more)))
          (cases_eq (cover name w.pieces) 0);
      once = knows.once;
      pieces = knows.pieces;
      deals = knows.deals;
      undealt = knows.undealt;
    }

    pub joins : Kept max_threads (set (set views id both) other spent_view)
    joins = with_seats max_threads views kept (set (set views id both) other spent_view) new_owner kept.homes
        (omega (arith, length-set views id both, length-set (set views id both) other spent_view))
        (λ j u now. ⊎_elim
        (λ t. at_place (Knows kept.events kept.machine new_owner kept.homes) other j spent_view u t.0 t.1 spent_knows)
        (λ t. ⊎_elim
        (λ s. at_place (Knows kept.events kept.machine new_owner kept.homes) id j both u s.0 s.1 both_knows)
        (λ s. third_knows j u t.0 (kept.each j u s.1)) (at_set views id j both u t.1))
        (at_set (set views id both) other j spent_view u now))

-- what a seat learns by a look, once another without pieces was joined to it
pub looks-joined : (max_threads number same_number : ℕ) (old joined new : View) (heard : List Event)
    (pieces : List Piece) (deals : List Deal) → same_number ≡ number
    → joined ≡ record old { heard = heard; pieces = old.pieces ++ pieces; deals = old.deals ++ deals } → pieces ≡ []
    → Looks max_threads same_number joined new → Looks max_threads number old new
looks-joined max_threads number same_number old joined new heard pieces deals same is none looks = record {
  machine = looks.machine;
  seen = subst (λ es. IsPrefix es new.seen) (ap (λ (v : View). v.seen) is) looks.seen;
  mine = looks.mine ∙ ap (λ (v : View). v.mine) is;
  all_mine = subst (λ n. events_by n new.seen ≡ new.mine) same looks.all_mine;
  history = looks.history;
  so = looks.so;
  pieces = looks.pieces ∙ (ap (λ (v : View). v.pieces) is
      ∙ (ap (λ ps. old.pieces ++ ps) none ∙ append-nil old.pieces));
}
