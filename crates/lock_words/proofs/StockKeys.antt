-- Steps of a stock by threads that carry its key, and the slots that they carry.
use Rattle.std.proofs.Common.{◌≡◌, ℕ, zero, suc, ◌*◌, ◌<◌, Bool, true, false, List, [], ◌∷◌, sym, refl, ap, ◌∙◌, arith}
use mathlib.Core.Option.{some}
use Rattle.std.proofs.lemmas.Bool.{true≢false}
use Rattle.atomic_table.specs.Table.{State, Me, Step, Allows, opening, rest}
use Rattle.lot_word_lock.specs.WordKey.{without_key, UnderKey, TellsUnderKey}
use Rattle.lot_word_lock.proofs.WordKeyLemmas.{step_under_key, opens_under_key}
use Rattle.lock_words.specs.Stock.{MayOpenWith}
use Rattle.lock_words.specs.StockView.{resting}
use Rattle.lock_words.specs.StockRule.{Placed, Counted}
use Rattle.lock_words.specs.declared.stock.Content.{Content}
use Rattle.lock_words.specs.declared.stock.Content.TheVariants.{Out, Value, Title}
use Rattle.lock_words.specs.declared.stock.Supply.{Supply}
use Rattle.lock_words.specs.declared.stock.view.View.{View}
use Rattle.lock_words.proofs.StockTries.{opens}

module _ {S V : Type 0} where
  -- what a seat has where the slot that it took last is known
  pub in_front : (me : Me S V) (view : V) (slot : ℕ) (content : S) (others : List (ℕ × S))
      → me ≡ (view, (slot, content) ∷ others) → me ≡ (me.0, (slot, content) ∷ rest me.1)
  in_front me view slot content others is =
      let out : me.1 ≡ (slot, content) ∷ others = λ i. (is i).1 in
      let same : me.1 ≡ (slot, content) ∷ rest me.1 =
      out ∙ ap (λ (slots : List (ℕ × S)). (slot, content) ∷ rest slots) (sym out) in
      λ i. (me.0, same i)

  -- the same, once another content was put there
  pub put_in_front : (me after : Me S V) (view : V) (slot : ℕ) (was content : S) (others : List (ℕ × S))
      → after ≡ (me.0, (slot, content) ∷ rest me.1) → me ≡ (view, (slot, was) ∷ others)
      → after ≡ (view, (slot, content) ∷ others)
  put_in_front me after view slot was content others put is =
      put ∙ (λ i. ((is i).0, (slot, content) ∷ rest (is i).1))

module _ {T M K : Type 0} (told : M → List ℕ) (fits : K → M → Type 0) (key : Supply K) where
  abbrev pub RuleOf : Supply K → State (Content T M) View → Type 0
  RuleOf k = Counted told (fits k.queue) k.permits k.guards

  -- the rule of a stock of this key
  abbrev pub Keyed : State (Content T M) (Supply K × View) → Type 0
  Keyed = UnderKey RuleOf key

  single : (content : Content T M) → MayOpenWith key content → key.guards ≡ true → key.permits ≡ 1
  single (Value value) may guards = may
  single Out may guards = absurd (true≢false (sym guards ∙ may))
  single (Title title) may guards = absurd (true≢false (sym guards ∙ may))

  placed : (content : Content T M) (title : M) (guards : Bool) (permits : ℕ) → (guards ≡ true → permits ≡ 1)
      → MayOpenWith key content → key.guards ≡ guards → Placed guards permits (some content ∷ some (Title title) ∷ [])
  placed content title false permits one may is = tt
  placed (Value value) title true zero one may is = absurd (omega (arith, one refl))
  placed (Value value) title true (suc more) one may is = (value, refl)
  placed Out title true permits one may is = absurd (true≢false (sym is ∙ may))
  placed (Title other) title true permits one may is = absurd (true≢false (sym is ∙ may))

  pub opens_keyed : (content : Content T M) (title : M) → fits key.queue title → told title ≡ [] → key.permits < 4294967296
      → MayOpenWith key content
      → Keyed (opening (key.permits * 4 ∷ 0 ∷ []) (content ∷ Title title ∷ []) (key, resting))
  opens_keyed content title fit nobody few may = opens_under_key RuleOf key (key.permits * 4 ∷ 0 ∷ [])
      (content ∷ Title title ∷ []) resting (opens told (fits key.queue) key.permits key.guards content title fit nobody few
      (single content may) (placed content title key.guards key.permits (single content may) may refl))

  -- a step of a thread, where the key, the view and the number of slots are known by equations
  pub at_key : (n n' id : ℕ) (m : Me (Content T M) (Supply K × View)) (m' : Me (Content T M) View) (i : ℕ) (f g : ℕ → ℕ)
      (tells : Supply K → Step (Content T M) → Me (Content T M) View → ℕ → Me (Content T M) View → Type 0)
      (st : ℕ → Step (Content T M)) → n ≡ n' → m.0.0 ≡ key → without_key m ≡ m'
      → Allows (Counted told (fits key.queue) key.permits key.guards) n' id m' i f (λ r. tells key (st n') m' (g r))
      → Allows Keyed n id m i f (λ r. TellsUnderKey tells (st n) m (g r))
  at_key = step_under_key RuleOf key
