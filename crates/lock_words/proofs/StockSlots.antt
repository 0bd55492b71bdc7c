-- The slots of a stock: what a thread takes and gives with its permit.
use Rattle.std.proofs.Common.{◌≡◌, ℕ, zero, suc, Bool, true, false, List, [], length, set, sym, refl, ◌∙◌, subst, arith}
use mathlib.Core.Option.{some, none}
use mathlib.Core.Option as maybe
use Rattle.atomic_table.specs.Table.{Act, keeps, takes, gives, Valid, carried_after, homes_after}
use Rattle.atomic_table.proofs.Lists.{set_here, set_else}
use Rattle.lock_words.specs.declared.stock.Content.{Content}
use Rattle.lock_words.specs.declared.stock.Content.TheVariants.{Value}
use Rattle.lock_words.specs.StockRule.{Homes, Placed, Kept, HasTitle}

module _ {T M : Type 0} where
  -- what becomes of slot 1 does not matter to the value
  pub placed_else : (guards : Bool) (free : ℕ) (hs : Homes T M) (x : maybe.Option (Content T M)) → Placed guards free hs
      → Placed guards free (set hs 1 x)
  placed_else false free hs x placed = tt
  placed_else true zero hs x placed = set_else hs 1 0 x (λ e. omega arith) ∙ placed
  placed_else true (suc free) hs x placed = (placed.0, set_else hs 1 0 x (λ e. omega arith) ∙ placed.1)

module _ {T M : Type 0} (told : M → List ℕ) (fits : M → Type 0) where
  -- what becomes of slot 0 does not matter to the title
  title_else : (hs : Homes T M) (x : maybe.Option (Content T M)) (numbers : List ℕ) → HasTitle told fits numbers hs
      → HasTitle told fits numbers (set hs 0 x)
  title_else hs x numbers has = record {
    title = has.title;
    home = set_else hs 0 1 x (λ e. omega arith) ∙ has.home;
    fit = has.fit;
    tells = has.tells;
  }

  -- a thread that takes a permit, after which so many are free, takes the value with it
  pub record Takes (guards : Bool) (free : ℕ) (hs : Homes T M) : Type 0 where
    pub act : Act (Content T M)
    pub valid : Valid hs [] act
    pub placed : Placed guards free (homes_after hs [] act)
    pub kept : Kept guards (carried_after [] act)
    pub titled : (numbers : List ℕ) → HasTitle told fits numbers hs → HasTitle told fits numbers (homes_after hs [] act)

  pub takes_value : (guards : Bool) (free : ℕ) (hs : Homes T M) → length hs ≡ 2 → (guards ≡ true → free ≡ 0)
      → Placed guards (suc free) hs → Takes guards free hs
  takes_value false free hs wide none_left placed = record {
    act = keeps;
    valid = tt;
    placed = tt;
    kept = refl;
    titled = λ numbers has. has;
  }
  takes_value true free hs wide none_left placed = record {
    act = takes 0 (Value placed.0);
    valid = placed.1;
    placed = subst (λ (n : ℕ). Placed true n (set hs 0 none)) (sym (none_left refl)) (set_here hs 0 none (omega arith));
    kept = (placed.0, refl);
    titled = λ numbers has. title_else hs none numbers has;
  }

  -- what a thread does with these slots as so many permits become free, and the slots that it has then
  pub record Gives (guards : Bool) (slots : List (ℕ × Content T M)) (free after : ℕ) (left : List (ℕ × Content T M)) : Type 0 where
    pub act : Act (Content T M)
    pub valid : (hs : Homes T M) → Valid hs slots act
    pub placed : (hs : Homes T M) → length hs ≡ 2 → Placed guards free hs → Placed guards after (homes_after hs slots act)
    pub has : carried_after slots act ≡ left
    pub titled : (hs : Homes T M) (numbers : List ℕ) → HasTitle told fits numbers hs
        → HasTitle told fits numbers (homes_after hs slots act)

  -- a thread that gives no permit back
  pub gives_nothing : (guards : Bool) (slots : List (ℕ × Content T M)) (free : ℕ) → Gives guards slots free free slots
  gives_nothing guards slots free = record {
    act = keeps;
    valid = λ hs. tt;
    placed = λ hs wide placed. placed;
    has = refl;
    titled = λ hs numbers has. has;
  }

  -- one that gives its permit back, and the value with it
  pub gives_value : (guards : Bool) (slots : List (ℕ × Content T M)) (free : ℕ) → Kept guards slots
      → Gives guards slots free (suc free) []
  gives_value false slots free kept = record {
    act = keeps;
    valid = λ hs. tt;
    placed = λ hs wide placed. tt;
    has = kept;
    titled = λ hs numbers has. has;
  }
  gives_value true slots free kept =
      subst (λ (had : List (ℕ × Content T M)). Gives true had free (suc free) []) (sym kept.1) (record {
        act = gives;
        valid = λ hs. tt;
        placed = λ hs wide placed. (kept.0, set_here hs 0 (some (Value kept.0)) (omega arith));
        has = refl;
        titled = λ hs numbers has. title_else hs (some (Value kept.0)) numbers has;
      })
