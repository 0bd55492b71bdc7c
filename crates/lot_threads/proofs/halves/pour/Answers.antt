use Rattle.std.proofs.Common.{◌≡◌, ℕ, ◌*◌, ◌/◌, List, [], ◌∷◌, ◌++◌, append_assoc, sym, ap, ◌∙◌}
use Rattle.std.proofs.lemmas.List.Elements.{All-append, All-cons, All-nil}
use Rattle.lot_base.specs.BucketState.{BucketState}
use Rattle.lot_base.specs.Node.{fields}
use Rattle.lot_base.specs.NodeFields.{NodeFields}
use Rattle.lot_base.specs.Place.{place_of}
use Rattle.lot_threads.proofs.HalfLemmas.{place_up}
use Rattle.lot_threads.proofs.halves.pour.Goals as goal

pub put_last-requires : goal.put_last-requires
put_last-requires c =
    let so_far = c.loop-node.invariant in
    let size = c.args.into.now.size in
    let key : ℕ = (fields c.in-Some.node.value).key in
    let found : place_of key (2 * size) ≡ c.args.from.now.place =
    ap (place_of key) (sym (so_far.from.size ∙ c.requires.sizes)) ∙ (c.in-Some.ensures.in_place ∙ so_far.from.place) in
    ap (place_of key) so_far.into.size
    ∙ (sym (place_up size c.requires.size key)
    ∙ (ap (λ p. p / 2) found ∙ (c.requires.places ∙ sym so_far.into.place)))

pub loop-node-preserved : goal.loop-node-preserved
loop-node-preserved c =
    let so_far = c.loop-node.invariant in
    let node : NodeFields = fields c.in-Some.node.value in
    let put = c.put_last.ensures in
    let gone : List NodeFields = so_far.gone in
    let Own : NodeFields → Type 0 = λ n. place_of n.key c.args.from.now.size ≡ c.args.from.now.place in
    let own : Own node =
    ap (place_of node.key) (sym so_far.from.size) ∙ (c.in-Some.ensures.in_place ∙ so_far.from.place) in
    record {
      from = record {
        place = c.in-Some.ensures.place.place ∙ so_far.from.place;
        size = c.in-Some.ensures.place.size ∙ so_far.from.size;
      };
      into = record {
        place = ap (λ (b : BucketState). b.place) put ∙ so_far.into.place;
        size = ap (λ (b : BucketState). b.size) put ∙ so_far.into.size;
      };
      gone = gone ++ node ∷ [];
      before = so_far.before
          ∙ (ap (λ (l : List NodeFields). gone ++ l) c.in-Some.ensures.nodes
          ∙ sym (append_assoc gone (node ∷ []) c.pop.new.self.nodes));
      behind = ap (λ (b : BucketState). b.nodes) put
          ∙ (ap (λ (l : List NodeFields). l ++ node ∷ []) so_far.behind
          ∙ append_assoc c.args.into.now.nodes gone (node ∷ []));
      in_place = All-append Own gone (node ∷ []) so_far.in_place (All-cons Own node [] own (All-nil Own));
    }
