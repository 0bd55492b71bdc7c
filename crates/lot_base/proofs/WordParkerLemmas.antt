-- A new parker of one word keeps the rule of its table, and so does each step.
use Rattle.std.proofs.Common.{◌≡◌, ℕ, ◌<◌, ◌≢◌, eqb, List, [], ◌∷◌, get_or, set, sym, refl, ◌∙◌, subst}
use Rattle.std.proofs.Common.{arith, length-set, get_or-set_same, replicate}
use mathlib.Core.Logic.{dite}
use mathlib.Core.Option.{some, none}
use native.Mathlib.Decide.{ℕ_discrete}
use lib.Seq.{set-get_or}
use prog.Atomic.{either}
use Rattle.atomic_table.specs.Table.{Me, Act, keeps, takes, gives, Valid, stepped, step, opening, Allows, Arrives, Enters}
use Rattle.atomic_table.proofs.Lists.{set_here, exchanged}
use Rattle.lot_base.specs.declared.thread_parker.LoadedSlot.{LoadedSlot}
use Rattle.lot_base.specs.declared.thread_parker.ParkerKey.{ParkerKey}
use Rattle.lot_base.specs.Loaded.{HasNoNode, IsSlotFor}
use Rattle.lot_base.specs.NodeFields.{NodeFields}
use Rattle.lot_base.specs.WordParkerRule.{Tells, ParkerOrderly, HasSlot, OpenTells}

module _ {L H : Type 0} (fits : H → NodeFields → L → Type 0) (key : ParkerKey H) where
  -- a word that is less than 3 tells of a slot what another such word does
  pub still_empty : (old new : ℕ) (slot : LoadedSlot L H) → old < 3 → new < 3 → Tells fits key old slot
      → Tells fits key new slot
  still_empty old new slot low lower t = record {
    owned = t.owned;
    empty = (λ _. lower, λ _. t.empty.1 low);
    known = omega arith;
  }

  pub starts : (slot : LoadedSlot L H) → IsSlotFor (fits key.home) key.number slot → HasNoNode slot
      → ParkerOrderly fits key (opening (replicate 15 0) (slot ∷ []) key)
  starts slot is bare = record {
    long = refl;
    home = λ _. (
      slot,
      refl,
      record { owned = is; empty = (λ _. omega arith, λ _. bare); known = omega arith },
    );
  }

  -- a new seat
  pub arrives : (n i : ℕ) → Enters (ParkerOrderly fits key) n i (λ _ _. Unit {0})
  arrives n i s o wide _ = (key, record { long = o.long; home = o.home }, tt)

  -- a new seat that makes the word busy
  pub busies : (n new : ℕ) → new ≡ 1
      → Arrives (ParkerOrderly fits key) n 7 (λ _. new) (OpenTells fits (step n 7 new 0 none) (key, []))
  busies n new is s o wide _ =
      let long = o.long in
      let here : get_or (set s.words 7 new) 7 0 ≡ 1 = get_or-set_same s.words 7 new 0 (omega arith) ∙ is in
      dite (ℕ_discrete (get_or s.words 7 0) 1)
      (λ e. (
        key,
        keeps,
        tt,
        record { long = length-set s.words 7 new ∙ long; home = λ ne. absurd (ne here) },
        λ ne. absurd (ne e),
      ))
      (λ ne. let at = o.home ne in (
        key,
        takes 0 at.0,
        at.1,
        record { long = length-set s.words 7 new ∙ long; home = λ ne-here. absurd (ne-here here) },
        λ _. (at.0, refl, at.2),
      ))

  -- a seat that has the slot puts it back, and the word tells of it
  pub closes : (n id word : ℕ) (me : Me (LoadedSlot L H) (ParkerKey H)) → n ≡ 1 → HasSlot me (Tells fits key word)
      → Allows (ParkerOrderly fits key) n id me 7 (λ _. word) (λ _ _. Unit {0})
  closes n id word me slots has =
      subst (λ (c : List (ℕ × LoadedSlot L H)).
      Allows (ParkerOrderly fits key) n id (me.0, c) 7 (λ _. word) (λ _ _. Unit {0}))
      (sym has.1)
      (λ s o wide _ _.
      let long = o.long in (
        me.0,
        gives,
        tt,
        record {
          long = length-set s.words 7 word ∙ long;
          home = λ _. (
            has.0,
            set_here s.homes 0 (some has.0) (omega arith),
            subst (λ w. Tells fits key w has.0) (sym (get_or-set_same s.words 7 word 0 (omega arith))) has.2,
          );
        },
        tt,
      ))

  -- a seat exchanges one word for another that tells the same
  pub marks : (n id old new : ℕ) (me : Me (LoadedSlot L H) (ParkerKey H)) → old ≢ 1 → old < 3 → new < 3
      → Allows (ParkerOrderly fits key) n id me 7 (λ y. either (eqb y old) new y) (λ _ _. Unit {0})
  marks n id old new me settled low lower s o wide _ _ =
      let long = o.long in
      let there : get_or (set s.words 7 new) 7 0 ≡ new = get_or-set_same s.words 7 new 0 (omega arith) in
      exchanged (get_or s.words 7 0) old new
      (λ k. (w : ParkerKey H) × (a : Act (LoadedSlot L H)) × Valid s.homes me.1 a
      × ParkerOrderly fits key (stepped s 7 k id me.1 w a) × Unit {0})
      (λ hit. let at = o.home (λ e. settled (sym hit ∙ e)) in (
        me.0,
        keeps,
        tt,
        record {
          long = length-set s.words 7 new ∙ long;
          home = λ _. (
            at.0,
            at.1,
            subst (λ w. Tells fits key w at.0) (sym there)
                (still_empty old new at.0 low lower (subst (λ w. Tells fits key w at.0) hit at.2)),
          );
        },
        tt,
      ))
      (λ _. (
        me.0,
        keeps,
        tt,
        subst (λ (ws : List ℕ).
            ParkerOrderly fits key record { words = ws; homes = s.homes; views = set s.views id me.0 })
            (sym (set-get_or s.words 7 0)) (record { long = o.long; home = o.home }),
        tt,
      ))
