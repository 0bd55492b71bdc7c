-- What a stock leaves when it ends.
use Rattle.std.proofs.Common.{◌≡◌, ℕ, ◌≤◌, true, List, [], ◌∷◌, sym, ap, ◌∙◌, arith, Box}
use Rattle.std.specs.Prelude.{slice_index}
use Rattle.std.specs.declared.alloc.Global.{Global}
use mathlib.Core.Option.{some, some-injective, some-ne-none}
use lib.ListN.{get_elem?}
use Rattle.atomic_table.specs.Table.{Final}
use Rattle.lot_word_lock.specs.WordKey.{without_keys}
use Rattle.lock_words.specs.StockLaws.{SomeHolder, word_of}
use Rattle.lock_words.specs.StockRule.{HasValue}
use Rattle.lock_words.specs.declared.stock.Content.{Content}
use Rattle.lock_words.specs.declared.stock.Content.TheVariants.{Value}
use Rattle.lock_words.specs.declared.stock.Supply.{Supply}
use Rattle.lock_words.proofs.StockHolds.{excludes}
use Rattle.lock_words.proofs.StockKeys.{Keyed}

first_is : (words : List ℕ) (word : ℕ) → get_elem? words 0 ≡ some word → slice_index words 0 ≡ word
first_is [] word is = absurd (some-ne-none word (sym is))
first_is (first ∷ words) word is = some-injective first word is

-- the value that a free permit guards is in its slot
pub free_has_value : {T M K : Type 0} (told : M → List ℕ) (fits : K → M → Type 0) (key : Supply K) (words : List ℕ)
    (slots : List (Content T M)) → Final (Keyed told fits key) words slots → (word : ℕ)
    → get_elem? words 0 ≡ some word → (content : Content T M) → get_elem? slots 0 ≡ some content → key.guards ≡ true → 4 ≤ word
    → (value : Box T Global) × (content ≡ Value value)
free_has_value told fits key words slots final word at_word content at_content guards some_free =
    let state = without_keys final.0 in
    let laws = excludes told (fits key.queue) key.permits key.guards state final.1.rest guards in
    let same : word_of state ≡ word = ap (λ (ws : List ℕ). slice_index ws 0) final.2 ∙ first_is words word at_word in
    let nobody : ¬ SomeHolder state = λ holder. let few = laws.told.1 holder in omega arith in
    let home : HasValue state.homes = laws.free nobody in
    (home.0, some-injective content (Value home.0) (sym at_content ∙ final.4 0 (Value home.0) home.1))
