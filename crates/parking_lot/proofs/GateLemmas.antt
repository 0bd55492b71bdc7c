-- Titles of a gate's queue, and what the steps of the gate make of the hands of its threads.
use Rattle.std.specs.Prelude.{Contains}
use Rattle.std.proofs.Common.{◌≡◌, ℕ, Option, None, Some, List, [], ◌∷◌, sym, refl, ap, ◌∙◌, subst, ⊎_elim}
use Rattle.std.proofs.lemmas.Bool.{true≢false}
use Rattle.std.proofs.Common.{Bool, false}
use Rattle.std.proofs.lemmas.Option.{same_Some}
use Rattle.atomic_table.specs.Seated.{TableId}
use Rattle.atomic_table.specs.Table.{Me, rest}
use Rattle.lot_base.specs.Waiting.{has_any}
use Rattle.lot_history.specs.Witness.{IsWitnessOf}
use Rattle.lot_history.specs.declared.history.History.{History}
use Rattle.lot_history.specs.declared.view.Piece.TheVariants as piece
use Rattle.lot_threads.specs.Cells.{Has}
use Rattle.lot_threads.specs.Titled.{IsTitle, told_by, without_next}
use Rattle.lot_threads.specs.declared.title.Title as titles
use Rattle.lock_words.specs.Stock.{IsHandOf, IsCarrying, IsWithout, HasPermit, HasPermitAndTitle, carrying, numbers_in}
use Rattle.lock_words.specs.Stock.{seat_of, holds_of, waits_of, numbers_of, aside_of, supply_of}
use Rattle.lock_words.specs.StockRule.{Kept}
use Rattle.lock_words.specs.StockSteps.{behind}
use Rattle.lock_words.specs.StockView.{having, resting}
use Rattle.lock_words.specs.declared.stock.Content.{Content}
use Rattle.lock_words.specs.declared.stock.Hand.{Hand}
use Rattle.lock_words.specs.declared.stock.Stock.{Stock}
use Rattle.lock_words.specs.declared.stock.view.View.{View}
use Rattle.parking_lot.specs.Gates.{Holds, HoldsAs, HoldsBare, MayWait}
use Rattle.parking_lot.specs.Queues.{FitsQueue, IsQueueOf, MayBe}
use Rattle.parking_lot.specs.declared.queue_title.QueueKey.{QueueKey}
use Rattle.parking_lot.specs.declared.queue_title.QueueTitle.{QueueTitle}
use Rattle.lock_words.proofs.SeatCounts.{None_not_Some}

-- a title of the key in the lot's history is one of the queue
pub fits_queue : (history : History) (queue : QueueKey) (title : titles.Title) → IsWitnessOf history queue.home
    → IsTitle history queue.key title → FitsQueue queue title
fits_queue history queue title own is = λ other same. record {
  has = subst (λ (home : TableId). Has home (piece.Title queue.key (told_by title) ∷ []) title.part)
      (sym own.table ∙ same.table) is.has;
}

-- those behind the first
pub next_behind : (numbers : List ℕ) → without_next numbers ≡ behind numbers
next_behind [] = refl
next_behind (_ ∷ _) = refl

-- nobody is left where none is said to be
pub none_left : (numbers : List ℕ) → has_any numbers ≡ false → numbers ≡ []
none_left [] none = refl
none_left (_ ∷ _) none = absurd (true≢false none)

-- a title that fits the queue of a gate is one of its key
pub is_own : (history : History) (key : ℕ) (queue : QueueKey) → IsQueueOf history key queue → (title : titles.Title)
    → FitsQueue queue title → IsTitle history key title
is_own history key queue own title fits =
    subst (λ (k : ℕ). IsTitle history k title) own.on_key (fits history own.of_lot)

-- a title of its key fits the queue of a gate
pub fits_own : (history : History) (key : ℕ) (queue : QueueKey) → IsQueueOf history key queue → (title : titles.Title)
    → IsTitle history key title → FitsQueue queue title
fits_own history key queue own title is =
    fits_queue history queue title own.of_lot (subst (λ (k : ℕ). IsTitle history k title) (sym own.on_key) is)

-- what a thread at a gate of this value knows and has
abbrev pub Seat : Type 0 → Type 0
Seat T = Me (Content T QueueTitle) View

module _ {T : Type 0} where
  -- a thread that does not carry the title
  pub without : (hand : Hand T QueueTitle QueueKey) (holds : ℕ) (waits : Option ℕ) (slots : List (ℕ × Content T QueueTitle))
      → seat_of hand ≡ (having holds waits, slots) → IsWithout hand
  without hand holds waits slots is =
      ap (λ (me : Seat T). me.0) is ∙ sym (ap (λ (me : Seat T). having me.0.holds me.0.waits) is)

  module _ (stock : Stock T QueueTitle QueueKey) (hand : Hand T QueueTitle QueueKey) (own : IsHandOf stock hand) where
    -- a thread that holds no permit, and waits as nothing or as its number
    pub may_wait : (number : ℕ) (waits : Option ℕ) → MayBe number waits → seat_of hand ≡ (having 0 waits, [])
        → MayWait stock number hand
    may_wait number waits may is =
        let same : waits_of hand ≡ waits = ap (λ (me : Seat T). me.0.waits) is in
        record {
          of_stock = own;
          holds_none = is ∙ ap (λ (w : Option ℕ). (having 0 w, [])) (sym same);
          as_number = subst (MayBe number) (sym same) may;
        }

    -- one that holds a permit
    pub holds_as : (number : ℕ) (waits : Option ℕ) → MayBe number waits → HasPermit stock waits hand
        → HoldsAs stock number hand
    holds_as number waits may has =
        let same : waits_of hand ≡ waits = ap (λ (me : Seat T). me.0.waits) has.2 in
        record {
          of_stock = own;
          permit = subst (λ (w : Option ℕ). HasPermit stock w hand) (sym same) has;
          as_number = subst (MayBe number) (sym same) may;
        }

    -- one that took a permit, and did not wait before
    pub took : (old : Hand T QueueTitle QueueKey) → seat_of old ≡ (resting, []) → HasPermit stock (waits_of old) hand
        → Holds stock hand
    took old rested has = record {
      of_stock = own;
      permit = subst (λ (w : Option ℕ). HasPermit stock w hand) (ap (λ (me : Seat T). me.0.waits) rested) has;
    }

    -- one that holds a permit, and gave its number up
    pub settled : (old : Hand T QueueTitle QueueKey) (waits : Option ℕ) → HasPermit stock waits old
        → seat_of hand ≡ (having (holds_of old) None, (seat_of old).1) → Holds stock hand
    settled old waits has is = record {
      of_stock = own;
      permit = (has.0, has.1, is ∙ ap (λ (me : Seat T). (having me.0.holds None, me.1)) has.2);
    }

    -- one whose permit guards no value
    pub bare : (supply_of stock).guards ≡ false → Holds stock hand → HoldsBare stock hand
    bare guards holds = record {
      of_stock = own;
      permit = holds.permit.2 ∙ ap (λ (slots : List (ℕ × Content T QueueTitle)). (having 1 None, slots))
          (subst (λ (b : Bool). Kept b holds.permit.0) guards holds.permit.1);
    }

    pub not_bare : (supply_of stock).guards ≡ false → HoldsBare stock hand → Holds stock hand
    not_bare guards holds = record {
      of_stock = own;
      permit = (
        [],
        subst (λ (b : Bool). Kept {T = T} {M = QueueTitle} b []) (sym guards) refl,
        holds.permit,
      );
    }

    -- one that holds a permit as before
    pub held : (old : Hand T QueueTitle QueueKey) (waits : Option ℕ) → HasPermit stock waits old
        → seat_of hand ≡ seat_of old → HasPermit stock waits hand
    held old waits has same = (has.0, has.1, same ∙ has.2)

  -- a thread that has taken the title out
  module _ (hand : Hand T QueueTitle QueueKey) (old : Seat T) (told : List ℕ) (aside : ℕ)
      (is : seat_of hand ≡ carrying old told aside) where
    pub is_carrying : IsCarrying hand
    is_carrying =
        is ∙ sym (ap (λ (me : Seat T). carrying (me.0, rest me.1) (numbers_in me.0.carries) me.0.aside) is)

    -- the same of what it knows by itself, where the title tells as before
    pub carries_on : (after : List ℕ) → after ≡ told
        → seat_of hand ≡ carrying ((seat_of hand).0, rest (seat_of hand).1) after aside
    carries_on after same =
        is ∙ sym (ap (λ (me : Seat T). carrying (me.0, rest me.1) told aside) is)
        ∙ ap (λ (ns : List ℕ). carrying ((seat_of hand).0, rest (seat_of hand).1) ns aside) (sym same)

    pub waits_same : waits_of hand ≡ old.0.waits
    waits_same = ap (λ (me : Seat T). me.0.waits) is

    pub numbers_same : numbers_of hand ≡ told
    numbers_same = ap (λ (me : Seat T). numbers_in me.0.carries) is

    pub aside_same : aside_of hand ≡ aside
    aside_same = ap (λ (me : Seat T). me.0.aside) is

    pub told_same : (after : List ℕ) → after ≡ told → after ≡ numbers_of hand
    told_same after same = same ∙ sym numbers_same

    -- its number is not among those that the title told
    pub gone_out : (number : ℕ) → MayBe number old.0.waits → ¬ Contains told number → (n : ℕ) → waits_of hand ≡ Some n
        → ¬ Contains (numbers_of hand) n
    gone_out number may out n waits_now has =
        ⊎_elim (λ (unset : old.0.waits ≡ None). absurd (None_not_Some n (sym unset ∙ (sym waits_same ∙ waits_now))))
        (λ (mine : old.0.waits ≡ Some number).
        out (subst (Contains told) (same_Some n number (sym waits_now ∙ (waits_same ∙ mine)))
        (subst (λ (ns : List ℕ). Contains ns n) numbers_same has))) may

    -- what it has once the title is back, whatever it waits as then
    pub back : (new : Seat T) (after : Option ℕ) → new ≡ (having (holds_of hand) after, rest (seat_of hand).1)
        → new ≡ (having old.0.holds after, old.1)
    back new after put = put ∙ ap (λ (me : Seat T). (having me.0.holds after, rest me.1)) is

  -- the holder, which has taken the title
  pub holds_title : (stock : Stock T QueueTitle QueueKey) (hand old : Hand T QueueTitle QueueKey) (told : List ℕ)
      → HasPermit stock None old → seat_of hand ≡ carrying (seat_of old) told 0 → HasPermitAndTitle stock hand
  holds_title stock hand old told has is =
      let now : seat_of hand ≡ carrying (having 1 None, has.0) told 0 =
      is ∙ ap (λ (me : Seat T). carrying me told 0) has.2 in
      (has.0, has.1, now ∙ sym (ap (λ (me : Seat T). carrying (having 1 None, has.0) (numbers_in me.0.carries) 0) now))
