-- What the guard of a titled mutex makes of the hand of its thread.
use Rattle.std.proofs.Common.{◌≡◌, ℕ, List, Bool, true, None, [], ◌∷◌, Box, sym, refl, ap, ◌∙◌, subst}
use Rattle.std.specs.declared.alloc.Global.{Global}
use Rattle.atomic_table.specs.Table.{rest}
use Rattle.lock_words.specs.Stock.{HasPermit, HasValue, seat_of, supply_of}
use Rattle.lock_words.specs.StockRule.{Kept}
use Rattle.lock_words.specs.StockView.{having}
use Rattle.lock_words.specs.declared.stock.Content.{Content}
use Rattle.lock_words.specs.declared.stock.Content.TheVariants.{Out, Value}
use Rattle.lock_words.specs.declared.stock.Hand.{Hand}
use Rattle.lock_words.specs.declared.stock.Stock.{Stock}
use Rattle.parking_lot.specs.declared.queue_title.QueueKey.{QueueKey}
use Rattle.parking_lot.specs.declared.queue_title.QueueTitle.{QueueTitle}
use Rattle.parking_lot.proofs.GateLemmas.{Seat}

module _ {T : Type 0} where
  module _ (stock : Stock T QueueTitle QueueKey) (guards : (supply_of stock).guards ≡ true)
      (hand : Hand T QueueTitle QueueKey) where
    -- the holder has the value
    pub full : HasPermit stock None hand → (value : Box T Global) × (seat_of hand ≡ (having 1 None, (0, Value value) ∷ []))
    full has =
        let kept = subst (λ (b : Bool). Kept b has.0) guards has.1 in
        (kept.0, has.2 ∙ ap (λ (slots : List (ℕ × Content T QueueTitle)). (having 1 None, slots)) kept.1)

    pub has_value : HasPermit stock None hand → HasValue hand
    has_value has =
        let it = full has in
        (it.0, it.1 ∙ sym (ap (λ (me : Seat T). (me.0, (0, Value it.0) ∷ rest me.1)) it.1))

    -- once the value is taken out
    pub emptied : (old : Hand T QueueTitle QueueKey) (value : Box T Global)
        → seat_of old ≡ (having 1 None, (0, Value value) ∷ []) → seat_of hand ≡ ((seat_of old).0, (0, Out) ∷ rest (seat_of old).1)
        → seat_of hand ≡ (having 1 None, (0, Out) ∷ [])
    emptied old value was out = out ∙ ap (λ (me : Seat T). (me.0, (0, Out) ∷ rest me.1)) was

    -- and once it is put back
    pub filled : (old : Hand T QueueTitle QueueKey) (value : Box T Global) → seat_of old ≡ (having 1 None, (0, Out) ∷ [])
        → seat_of hand ≡ ((seat_of old).0, (0, Value value) ∷ rest (seat_of old).1) → HasPermit stock None hand
    filled old value empty back = (
      (0, Value value) ∷ [],
      subst (λ (b : Bool). Kept {T = T} {M = QueueTitle} b ((0, Value value) ∷ [])) (sym guards) (value, refl),
      back ∙ ap (λ (me : Seat T). (me.0, (0, Value value) ∷ rest me.1)) empty,
    )
