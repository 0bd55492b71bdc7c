-- Steps on a word with phases by threads that carry the key of its queue.
use Rattle.std.proofs.Common.{◌≡◌, ℕ, List, [], ◌∷◌, Option, None, Some, ap, ◌∙◌}
use Rattle.atomic_table.specs.Table.{State, Me, Step, Allows, opening, rest}
use Rattle.lot_word_lock.specs.WordKey.{without_key, UnderKey, TellsUnderKey}
use Rattle.lot_word_lock.proofs.WordKeyLemmas.{step_under_key, opens_under_key}
use Rattle.lock_words.specs.PhaseRule.{being, resting, Phased}
use Rattle.lock_words.specs.Phases.{carrying}
use Rattle.lock_words.specs.declared.phases.view.View.{View}
use Rattle.lock_words.proofs.PhaseBoard.{opens}

module _ {M : Type 0} where
  -- what a seat has once the title lies in the slot that it took
  pub with_title : (me after : Me (Option M) View) (now : View) (title : M) (others : List (ℕ × Option M))
      → after ≡ (me.0, (0, Some title) ∷ []) → me ≡ (now, others) → after ≡ (now, (0, Some title) ∷ [])
  with_title me after now title others put is = put ∙ (λ i. ((is i).0, (0, Some title) ∷ []))

  -- a thread that carries the title and does not lead the phase
  pub follows : (me : Me (Option M) View) (numbers : List ℕ) → me.0.leads ≡ 0
      → me ≡ carrying me.0.waits me.0.leads numbers me.0.phase → me ≡ carrying me.0.waits 0 numbers me.0.phase
  follows me numbers unled is = is ∙ ap (λ (l : ℕ). carrying me.0.waits l numbers me.0.phase) unled

  -- and once it was put back, and the seat waits no longer
  pub ended_knows : (me after : Me (Option M) View) (now : View) (title : M) (read phase : ℕ) → read ≡ phase
      → after ≡ (being None read, rest me.1) → me ≡ (now, (0, Some title) ∷ []) → after ≡ (being None phase, [])
  ended_knows me after now title read phase same is put =
      is ∙ (ap (λ (m : Me (Option M) View). (being None read, rest m.1)) put ∙ ap (λ (p : ℕ). (being None p, [])) same)

module _ {M K : Type 0} (told : M → List ℕ) (fits : K → M → Type 0) where
  abbrev pub RuleOf : K → State (Option M) View → Type 0
  RuleOf k = Phased told (fits k)

module _ {M K : Type 0} (told : M → List ℕ) (fits : K → M → Type 0) (key : K) where
  -- the rule of a word of this queue
  abbrev pub Keyed : State (Option M) (K × View) → Type 0
  Keyed = UnderKey (RuleOf told fits) key

  pub opens_keyed : (title : M) → fits key title → told title ≡ []
      → Keyed (opening (0 ∷ []) (Some title ∷ []) (key, resting))
  opens_keyed title fit nobody =
      opens_under_key (RuleOf told fits) key (0 ∷ []) (Some title ∷ []) resting (opens told (fits key) title fit nobody)

  -- a step of a thread, where the key, the view and the number of slots are known by equations
  pub at_key : (n n' id : ℕ) (m : Me (Option M) (K × View)) (m' : Me (Option M) View) (i : ℕ) (f g : ℕ → ℕ)
      (tells : K → Step (Option M) → Me (Option M) View → ℕ → Me (Option M) View → Type 0) (st : ℕ → Step (Option M))
      → n ≡ n' → m.0.0 ≡ key → without_key m ≡ m'
      → Allows (Phased told (fits key)) n' id m' i f (λ r. tells key (st n') m' (g r))
      → Allows Keyed n id m i f (λ r. TellsUnderKey tells (st n) m (g r))
  at_key = step_under_key (RuleOf told fits) key
