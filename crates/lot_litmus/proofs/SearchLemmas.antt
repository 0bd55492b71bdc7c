-- What a search knows of its states makes its answers right.
use Rattle.std.proofs.Common.{◌≡◌, ◌≢◌, ◌⊎◌, ℕ, zero, suc, ◌+◌, ◌<◌, ◌≤◌, Bool, true, false, ◌||◌, ◌==◌, List, [], ◌∷◌, ◌++◌, length}
use Rattle.std.proofs.Common.{refl, sym, ap, ◌∙◌, subst, inl, inr, ⊎_elim, length-append, arith}
use Rattle.std.specs.Prelude.{slice_get, slice_set, slice_index_or, get_or, Option, Some, None}
use Rattle.std.proofs.lemmas.Bool.{or_cases, or_parts, eqb-true, eqb-false, cases_eq, cases_lt}
use Rattle.std.proofs.lemmas.Option.{slice_get-get_or, slice_get_within, slice_get_past, slice_get_cases}
use Rattle.lot_litmus.specs.declared.code.Code.{Code}
use Rattle.lot_litmus.specs.declared.search.Leads.{Leads}
use Rattle.lot_litmus.specs.declared.search.Looked.TheVariants as looked
use Rattle.lot_litmus.specs.declared.search.Search.{Search}
use Rattle.lot_litmus.specs.declared.state.State.{State}
use Rattle.lot_litmus.specs.declared.test.Test.{Test}
use Rattle.lot_litmus.specs.Configuration.{Configuration}
use Rattle.lot_litmus.specs.Schedule.{HasEnded, CanEnd, IsSafe, after_step, run}
use Rattle.lot_litmus.specs.Search.{IsAt, Grows, IsLead, AreLeads, IsSearch, HasLooked, is_marked, lead_to_marked}
use Rattle.lot_litmus.specs.Search.{is_hopeful, AreHopeful, AreLost}
use Rattle.lot_litmus.specs.Steps.{Outcome, Blocked, Goes, stepped, stepped_in, unended}
use Rattle.lot_litmus.specs.View.{configuration_of}
use Rattle.lot_litmus.proofs.ViewLemmas.{slice_get-set_same, slice_get-set_other}

-- one more at the end of a list
pub pushed-get : {A : Type 0} (xs : List A) (x y : A) (i : ℕ) → slice_get xs i ≡ Some y
    → slice_get (xs ++ x ∷ []) i ≡ Some y
pushed-get [] x y i here = absurd (cc here)
pushed-get (z ∷ zs) x y zero here = here
pushed-get (z ∷ zs) x y (suc i) here = pushed-get zs x y i here

pub pushed-last : {A : Type 0} (xs : List A) (x : A) → slice_get (xs ++ x ∷ []) (length xs) ≡ Some x
pushed-last [] x = refl
pushed-last (z ∷ zs) x = pushed-last zs x

pushed-cases : {A : Type 0} (xs : List A) (x y : A) (i : ℕ) → slice_get (xs ++ x ∷ []) i ≡ Some y
    → (slice_get xs i ≡ Some y) ⊎ ((i ≡ length xs) × (x ≡ y))
pushed-cases [] x y zero here = inr (refl, cc here)
pushed-cases [] x y (suc i) here = absurd (cc here)
pushed-cases (z ∷ zs) x y zero here = inl here
pushed-cases (z ∷ zs) x y (suc i) here =
    ⊎_elim (λ (before : slice_get zs i ≡ Some y). inl before)
    (λ (last : (i ≡ length zs) × (x ≡ y)). inr (ap suc last.0, last.1))
    (pushed-cases zs x y i here)

pub grows-push : (old new : List State) (x : State) → new ≡ old ++ x ∷ [] → Grows old new
grows-push old new x is i s here = subst (λ states. slice_get states i ≡ Some s) (sym is) (pushed-get old x s i here)

pub grows-within : (old new : List State) (i : ℕ) → Grows old new → i < length old → i < length new
grows-within old new i grows below =
    ⊎_elim
    (λ (found : (x : State) × (i < length old) × (slice_get old i ≡ Some x) × (get_or old i x ≡ x)).
    slice_get_within new i found.0 (grows i found.0 found.2))
    (λ (past : (length old ≤ i) × (slice_get old i ≡ None)). absurd (omega (arith, below, past.0)))
    ((slice_get_cases old i).1)

pub lead-grows : (test : Test) (old new : List State) (s : State) (thread : ℕ) (to : Option (Option ℕ)) → Grows old new
    → IsLead test old s thread to → IsLead test new s thread to
lead-grows test old new s thread None grows is = is
lead-grows test old new s thread (Some None) grows is = is
lead-grows test old new s thread (Some (Some j)) grows (next, here, is) = (next, grows j next here, is)

-- there are no other threads
pub stepped-past : (test : Test) (c : Configuration) (thread : ℕ) → length c.threads ≤ thread
    → stepped test c thread ≡ Blocked
stepped-past test c thread past =
    ap (stepped_in test c thread (slice_get test.codes thread)) (slice_get_past c.threads thread past)
    ∙ none (slice_get test.codes thread)
  where
    none : (code : Option Code) → stepped_in test c thread code None ≡ Blocked
    none None = refl
    none (Some code) = refl

-- one more state was looked at
pub looked-more : (test : Test) (old new : Search) (leads : Leads) → IsSearch test old
    → length old.leads.items < length old.states.items → Grows old.states.items new.states.items
    → new.leads.items ≡ old.leads.items ++ leads ∷ []
    → HasLooked test old.states.items new.states.items (length old.leads.items) (looked.Leads leads)
    → IsSearch test new
looked-more test old new leads is below grows pushed looks =
    let (first, here, at) = is.first in
    record {
      first = (first, grows 0 first here, at);
      within = within;
      leads = all;
    }
  where
    within : length new.leads.items ≤ length new.states.items
    within =
        let more = ap length pushed ∙ length-append old.leads.items (leads ∷ []) in
        let inside = grows-within old.states.items new.states.items (length old.leads.items) grows below in
        omega (arith, more, inside)

    same : (i : ℕ) (s : State) → i < length old.states.items → slice_get new.states.items i ≡ Some s
        → slice_get old.states.items i ≡ Some s
    same i s inside here =
        let there = slice_get-get_or old.states.items i s inside in
        there ∙ sym (grows i (get_or old.states.items i s) there) ∙ here

    all : (i : ℕ) (s : State) (l : Leads) → slice_get new.states.items i ≡ Some s
        → slice_get new.leads.items i ≡ Some l → AreLeads test new.states.items s l
    all i s l here led =
        ⊎_elim
        (λ (before : slice_get old.leads.items i ≡ Some l).
        let below_leads = slice_get_within old.leads.items i l before in
        let fits = is.within in
        let there = same i s (omega (arith, below_leads, fits)) here in
        (λ (thread : ℕ). lead-grows test old.states.items new.states.items s thread (slice_get l.to thread) grows
        (is.leads i s l there before thread)))
        (λ (last : (i ≡ length old.leads.items) × (leads ≡ l)).
        let at = last.0 in
        subst (AreLeads test new.states.items s) last.1
        (looks s (subst (λ k. slice_get old.states.items k ≡ Some s) at (same i s (omega (arith, at, below)) here))))
        (pushed-cases old.leads.items leads l i (subst (λ leads. slice_get leads i ≡ Some l) pushed led))

-- one more thread's step was looked at
pub looked-turn : (test : Test) (now after : List State) (s : State) (number : ℕ) (leads : List (Option ℕ))
    (to : Option ℕ) → number < length leads → Grows now after
    → ((thread : ℕ) → thread < number → IsLead test now s thread (slice_get leads thread))
    → IsLead test after s number (Some to) → (thread : ℕ) → thread < number + 1
    → IsLead test after s thread (slice_get (slice_set leads number to) thread)
looked-turn test now after s number leads to inside grows before lead thread below =
    ⊎_elim
    (λ (here : thread ≡ number).
    subst (λ t. IsLead test after s t (slice_get (slice_set leads number to) t)) (sym here)
    (subst (IsLead test after s number) (sym (slice_get-set_same leads number to inside)) lead))
    (λ (other : thread ≢ number).
    subst (IsLead test after s thread) (sym (slice_get-set_other leads number thread to other))
    (lead-grows test now after s thread (slice_get leads thread) grows
    (before thread (omega (arith, below, other)))))
    (cases_eq thread number)

pub lead-goes : (test : Test) (states : List State) (s next : State) (thread j : ℕ)
    → stepped test (configuration_of s) thread ≡ Goes (configuration_of next) → IsAt states j next
    → IsLead test states s thread (Some (Some j))
lead-goes test states s next thread j goes (found, there, is) = (found, there, goes ∙ ap Goes (sym is))

pub looked-on : (test : Test) (first now after : List State) (from : State) (index number at : ℕ)
    (leads : List (Option ℕ)) (to : Option ℕ) → number < length leads → at ≡ number → Grows first now → Grows now after
    → slice_get now index ≡ Some from
    → ((s : State) (thread : ℕ) → slice_get first index ≡ Some s → thread < number
    → IsLead test now s thread (slice_get leads thread))
    → IsLead test after from number (Some to) → (s : State) (thread : ℕ) → slice_get first index ≡ Some s
    → thread < number + 1 → IsLead test after s thread (slice_get (slice_set leads at to) thread)
looked-on test first now after from index number at leads to inside is grew grows here before lead s thread was below =
    let same : from ≡ s = cc (sym here ∙ grew index s was) in
    subst (λ n. IsLead test after s thread (slice_get (slice_set leads n to) thread)) (sym is)
    (looked-turn test now after s number leads to inside grows (λ t. before s t was)
    (subst (λ state. IsLead test after state number (Some to)) same lead) thread below)

-- all threads' steps were
pub looked-all : (test : Test) (states : List State) (s : State) (leads : Leads) → length s.threads ≡ 6
    → length leads.to ≡ 6 → ((thread : ℕ) → thread < 6 → IsLead test states s thread (slice_get leads.to thread))
    → AreLeads test states s leads
looked-all test states s leads threads long within thread =
    ⊎_elim (λ (below : thread < 6). within thread below)
    (λ (past : 6 ≤ thread).
    subst (IsLead test states s thread) (sym (slice_get_past leads.to thread (rw long past)))
    (stepped-past test (configuration_of s) thread (rw threads past)))
    (cases_lt thread 6)

-- marks

marked-at : (marks : List Bool) (j : ℕ) → slice_index_or marks j false ≡ true → slice_get marks j ≡ Some true
marked-at [] j is = absurd (cc is)
marked-at (mark ∷ marks) zero is = ap Some is
marked-at (mark ∷ marks) (suc j) is = marked-at marks j is

unmarked-at : (marks : List Bool) (j : ℕ) → j < length marks → slice_index_or marks j false ≡ false
    → slice_get marks j ≡ Some false
unmarked-at [] j inside is = absurd (omega (arith, inside))
unmarked-at (mark ∷ marks) zero inside is = ap Some is
unmarked-at (mark ∷ marks) (suc j) inside is = unmarked-at marks j (omega (arith, inside)) is

-- one of the leads is to a marked state
marked-lead : (marks : List Bool) (leads : List (Option ℕ)) → lead_to_marked marks leads ≡ true
    → (thread j : ℕ) × (slice_get leads thread ≡ Some (Some j)) × (slice_get marks j ≡ Some true)
marked-lead marks [] is = absurd (cc is)
marked-lead marks (None ∷ leads) is =
    let (thread, j, to, marked) = marked-lead marks leads is in (suc thread, j, to, marked)
marked-lead marks (Some k ∷ leads) is =
    ⊎_elim (λ (now : slice_index_or marks k false ≡ true). (0, k, refl, marked-at marks k now))
    (λ (later : lead_to_marked marks leads ≡ true).
    let (thread, j, to, marked) = marked-lead marks leads later in (suc thread, j, to, marked))
    (or_cases (slice_index_or marks k false) (lead_to_marked marks leads) is)

-- or none is
unmarked-lead : (marks : List Bool) (leads : List (Option ℕ)) (thread j : ℕ) → lead_to_marked marks leads ≡ false
    → slice_get leads thread ≡ Some (Some j) → slice_index_or marks j false ≡ false
unmarked-lead marks [] thread j is to = absurd (cc to)
unmarked-lead marks (lead ∷ leads) zero j is to =
    let same : lead ≡ Some j = cc to in
    subst (λ l. is_marked marks l ≡ false) same ((or_parts (is_marked marks lead) (lead_to_marked marks leads) is).0)
unmarked-lead marks (lead ∷ leads) (suc thread) j is to =
    unmarked-lead marks leads thread j ((or_parts (is_marked marks lead) (lead_to_marked marks leads) is).1) to

-- a run from a state from which an end can be reached
onward : (test : Test) (c : Configuration) (thread : ℕ) (next : Configuration) → stepped test c thread ≡ Goes next
    → CanEnd test (Goes next) → CanEnd test (Goes c)
onward test c thread next is (rest, ended) = (
  thread ∷ rest,
  subst (λ outcome. HasEnded test (after_step (λ d. run test d rest) c outcome)) (sym is) ended,
)

pub hopeful-at : (test : Test) (search : Search) (marks : List Bool) (i : ℕ) (s : State) → IsSearch test search
    → AreHopeful test search.states.items marks → slice_get search.states.items i ≡ Some s
    → is_hopeful test marks (slice_get search.states.items i) (slice_get search.leads.items i) ≡ true
    → CanEnd test (Goes (configuration_of s))
hopeful-at test search marks i s is hopeful here may =
    by_leads (slice_get search.leads.items i) refl
    (subst (λ found. is_hopeful test marks found (slice_get search.leads.items i) ≡ true) here may)
  where
    by_leads : (led : Option Leads) → slice_get search.leads.items i ≡ led → is_hopeful test marks (Some s) led ≡ true
        → CanEnd test (Goes (configuration_of s))
    by_leads None led can = absurd (cc can)
    by_leads (Some leads) led can =
        ⊎_elim (λ (ended : (unended test.codes s.threads == 0) ≡ true). ([], eqb-true _ _ ended))
        (λ (leading : lead_to_marked marks leads.to ≡ true).
        let (thread, j, to, marked) = marked-lead marks leads.to leading in
        let (next, there, goes) =
        subst (IsLead test search.states.items s thread) to (is.leads i s leads here led thread) in
        onward test (configuration_of s) thread (configuration_of next) goes (hopeful j next there marked))
        (or_cases (unended test.codes s.threads == 0) (lead_to_marked marks leads.to) can)

-- one more is marked
pub mark-hopeful : (test : Test) (search : Search) (marks : List Bool) (index : ℕ) → IsSearch test search
    → AreHopeful test search.states.items marks
    → is_hopeful test marks (slice_get search.states.items index) (slice_get search.leads.items index) ≡ true
    → AreHopeful test search.states.items (slice_set marks index true)
mark-hopeful test search marks index is hopeful may i s here marked =
    ⊎_elim
    (λ (same : i ≡ index). hopeful-at test search marks i s is hopeful here
    (subst (λ k. is_hopeful test marks (slice_get search.states.items k) (slice_get search.leads.items k) ≡ true)
    (sym same) may))
    (λ (other : i ≢ index). hopeful i s here (sym (slice_get-set_other marks index i true other) ∙ marked))
    (cases_eq i index)

module _ (test : Test) (search : Search) (is : IsSearch test search)
    (complete : length search.leads.items ≡ length search.states.items) where
  leads_at : (i : ℕ) (s : State) → slice_get search.states.items i ≡ Some s
      → (leads : Leads) × (slice_get search.leads.items i ≡ Some leads) × AreLeads test search.states.items s leads
  leads_at i s here =
      let leads = get_or search.leads.items i (record { to = [] }) in
      let inside : i < length search.leads.items =
      rw complete (slice_get_within search.states.items i s here) in
      let led = slice_get-get_or search.leads.items i (record { to = [] }) inside in
      (leads, led, is.leads i s leads here led)

  -- no schedule leads elsewhere
  abbrev StaysIn : Outcome → Type 0
  StaysIn outcome = (j : ℕ) × (last : State) × (slice_get search.states.items j ≡ Some last)
      × (outcome ≡ Goes (configuration_of last))

  stays : (schedule : List ℕ) (i : ℕ) (s : State) → slice_get search.states.items i ≡ Some s
      → StaysIn (run test (configuration_of s) schedule)
  stays [] i s here = (i, s, here, refl)
  stays (thread ∷ threads) i s here =
      let (leads, led, are) = leads_at i s here in
      goes_on (stays threads) (slice_get leads.to thread) (are thread)
    where
      goes_on : ((j : ℕ) (next : State) → slice_get search.states.items j ≡ Some next
          → StaysIn (run test (configuration_of next) threads))
          → (to : Option (Option ℕ)) → IsLead test search.states.items s thread to
          → StaysIn (run test (configuration_of s) (thread ∷ threads))
      goes_on later None is_blocked = rw is_blocked (later i s here)
      goes_on later (Some None) is_blocked = rw is_blocked (later i s here)
      goes_on later (Some (Some j)) (next, there, goes) = rw goes (later j next there)

  pub safe : (marks : List Bool) → length marks ≡ length search.states.items → AreHopeful test search.states.items marks
      → ((i : ℕ) → i < length marks → slice_get marks i ≡ Some true) → IsSafe test
  safe marks same hopeful all schedule =
      let (first, here, at) = is.first in
      let (j, last, there, ran) = stays schedule 0 first here in
      subst (CanEnd test) (sym (sym (ap (λ c. run test c schedule) at) ∙ ran))
      (hopeful j last there (all j (rw same (slice_get_within search.states.items j last there))))

  module _ (marks : List Bool) (same : length marks ≡ length search.states.items)
      (all : (i : ℕ) → i < length marks → slice_get marks i ≡ Some false
      → is_hopeful test marks (slice_get search.states.items i) (slice_get search.leads.items i) ≡ false) where
    none_at : (i : ℕ) (s : State) (leads : Leads) → slice_get search.states.items i ≡ Some s
        → slice_get search.leads.items i ≡ Some leads → slice_get marks i ≡ Some false
        → (unended test.codes s.threads == 0 || lead_to_marked marks leads.to) ≡ false
    none_at i s leads here led unmarked =
        subst (λ found. is_hopeful test marks (Some s) found ≡ false) led
        (subst (λ found. is_hopeful test marks found (slice_get search.leads.items i) ≡ false) here
        (all i (slice_get_within marks i false unmarked) unmarked))

    abbrev NeverEnds : List ℕ → Type 0
    NeverEnds rest =
        (i : ℕ) (s : State) → slice_get search.states.items i ≡ Some s → slice_get marks i ≡ Some false
        → HasEnded test (run test (configuration_of s) rest) → ⊥

    goes_on : (thread : ℕ) (threads : List ℕ) (i : ℕ) (s : State) (leads : Leads) → NeverEnds threads
        → slice_get search.states.items i ≡ Some s → slice_get marks i ≡ Some false
        → lead_to_marked marks leads.to ≡ false → (to : Option (Option ℕ)) → slice_get leads.to thread ≡ to
        → IsLead test search.states.items s thread to
        → HasEnded test (after_step (λ d. run test d threads) (configuration_of s)
        (stepped test (configuration_of s) thread)) → ⊥
    goes_on thread threads i s leads later here unmarked none None led is_blocked ended =
        later i s here unmarked
        (subst (λ outcome. HasEnded test (after_step (λ d. run test d threads) (configuration_of s) outcome))
        is_blocked ended)
    goes_on thread threads i s leads later here unmarked none (Some None) led is_blocked ended =
        later i s here unmarked
        (subst (λ outcome. HasEnded test (after_step (λ d. run test d threads) (configuration_of s) outcome))
        is_blocked ended)
    goes_on thread threads i s leads later here unmarked none (Some (Some j)) led (next, there, goes) ended =
        later j next there
        (unmarked-at marks j (rw same (slice_get_within search.states.items j next there))
        (unmarked-lead marks leads.to thread j none led))
        (subst (λ outcome. HasEnded test (after_step (λ d. run test d threads) (configuration_of s) outcome))
        goes ended)

    never : (rest : List ℕ) → NeverEnds rest
    never [] i s here unmarked ended =
        let (leads, led, are) = leads_at i s here in
        eqb-false (unended test.codes s.threads) 0
        ((or_parts (unended test.codes s.threads == 0) (lead_to_marked marks leads.to)
        (none_at i s leads here led unmarked)).0) ended
    never (thread ∷ threads) i s here unmarked ended =
        let (leads, led, are) = leads_at i s here in
        goes_on thread threads i s leads (never threads) here unmarked
        ((or_parts (unended test.codes s.threads == 0) (lead_to_marked marks leads.to)
        (none_at i s leads here led unmarked)).1)
        (slice_get leads.to thread) refl (are thread) ended

    pub lost : AreLost test search.states.items marks
    lost i s here unmarked rest = never rest i s here unmarked
