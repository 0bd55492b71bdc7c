use Rattle.std.proofs.Common.{◌≡◌, ◌+◌, ◌*◌, List, refl, sym, ap, ◌∙◌, subst}
use Rattle.lot_base.specs.BucketState.{BucketState}
use Rattle.lot_base.specs.Node.{fields}
use Rattle.lot_base.specs.NodeFields.{NodeFields}
use Rattle.lot_base.specs.Place.{place_of}
use Rattle.lot_threads.proofs.HalfLemmas.{IsSpreading, second_place, spread-end, spread-high, spread-low}
use Rattle.lot_threads.proofs.halves.spread.Goals as goal

pub loop-node-preserved-then-place : goal.loop-node-preserved-then-place
loop-node-preserved-then-place c =
    let so_far = c.loop-node.invariant in
    let old = c.args.bucket.now in
    let node : NodeFields = fields c.in-Some.node.value in
    let put = c.put_last.ensures in
    let sized : c.size.result ≡ 2 * old.size = c.size.ensures.value ∙ (so_far.low.size ∙ c.requires.low.size) in
    let found : c.place.result ≡ place_of node.key (2 * old.size) =
    c.place.ensures.value
    ∙ (ap (λ n. place_of n.key c.size.result) c.deref.ensures ∙ ap (place_of node.key) sized) in
    let here : place_of node.key (2 * old.size) ≡ 2 * old.place =
    sym found
    ∙ (c.if-place.true ∙ (c.place-in-Some.ensures.value ∙ (so_far.low.place ∙ c.requires.low.place))) in
    record {
      bucket = record {
        place = c.in-Some.ensures.place.place ∙ so_far.bucket.place;
        size = c.in-Some.ensures.place.size ∙ so_far.bucket.size;
      };
      low = record {
        place = ap (λ (b : BucketState). b.place) put ∙ so_far.low.place;
        size = ap (λ (b : BucketState). b.size) put ∙ so_far.low.size;
      };
      high = so_far.high;
      spreading = subst (λ (l : List NodeFields). IsSpreading old.size old.place old.nodes c.pop.new.self.nodes l
          c.loop-node.high.nodes) (sym (ap (λ (b : BucketState). b.nodes) put))
          (spread-low old.size old.place old.nodes c.loop-node.bucket.nodes c.loop-node.low.nodes
          c.loop-node.high.nodes so_far.spreading node c.pop.new.self.nodes c.in-Some.ensures.nodes here);
    }

pub put_last-requires-else-place : goal.put_last-requires-else-place
put_last-requires-else-place c =
    let so_far = c.loop-node.invariant in
    let old = c.args.bucket.now in
    let node : NodeFields = fields c.in-Some.node.value in
    let sized : c.size.result ≡ 2 * old.size = c.size.ensures.value ∙ (so_far.low.size ∙ c.requires.low.size) in
    let found : c.place.result ≡ place_of node.key (2 * old.size) =
    c.place.ensures.value
    ∙ (ap (λ n. place_of n.key c.size.result) c.deref.ensures ∙ ap (place_of node.key) sized) in
    let first : c.place-in-Some.result ≡ 2 * old.place =
    c.place-in-Some.ensures.value ∙ (so_far.low.place ∙ c.requires.low.place) in
    let own : place_of node.key old.size ≡ old.place =
    ap (place_of node.key) (sym so_far.bucket.size) ∙ (c.in-Some.ensures.in_place ∙ so_far.bucket.place) in
    let here : place_of node.key (2 * old.size) ≡ 2 * old.place + 1 =
    second_place old.size c.requires.size old.place node.key own
    (λ same. c.if-place.false (found ∙ (same ∙ sym first))) in
    ap (place_of node.key) (so_far.high.size ∙ c.requires.high.size)
    ∙ (here ∙ sym (so_far.high.place ∙ c.requires.high.place))

pub loop-node-preserved : goal.loop-node-preserved
loop-node-preserved c =
    let so_far = c.loop-node.invariant in
    let old = c.args.bucket.now in
    let node : NodeFields = fields c.in-Some.node.value in
    let put = c.put_last-else-place.ensures in
    let sized : c.size.result ≡ 2 * old.size = c.size.ensures.value ∙ (so_far.low.size ∙ c.requires.low.size) in
    let found : c.place.result ≡ place_of node.key (2 * old.size) =
    c.place.ensures.value
    ∙ (ap (λ n. place_of n.key c.size.result) c.deref.ensures ∙ ap (place_of node.key) sized) in
    let first : c.place-in-Some.result ≡ 2 * old.place =
    c.place-in-Some.ensures.value ∙ (so_far.low.place ∙ c.requires.low.place) in
    let own : place_of node.key old.size ≡ old.place =
    ap (place_of node.key) (sym so_far.bucket.size) ∙ (c.in-Some.ensures.in_place ∙ so_far.bucket.place) in
    let here : place_of node.key (2 * old.size) ≡ 2 * old.place + 1 =
    second_place old.size c.requires.size old.place node.key own
    (λ same. c.if-place.false (found ∙ (same ∙ sym first))) in
    record {
      bucket = record {
        place = c.in-Some.ensures.place.place ∙ so_far.bucket.place;
        size = c.in-Some.ensures.place.size ∙ so_far.bucket.size;
      };
      low = so_far.low;
      high = record {
        place = ap (λ (b : BucketState). b.place) put ∙ so_far.high.place;
        size = ap (λ (b : BucketState). b.size) put ∙ so_far.high.size;
      };
      spreading = subst (λ (l : List NodeFields). IsSpreading old.size old.place old.nodes c.pop.new.self.nodes
          c.loop-node.low.nodes l) (sym (ap (λ (b : BucketState). b.nodes) put))
          (spread-high old.size old.place old.nodes c.loop-node.bucket.nodes c.loop-node.low.nodes
          c.loop-node.high.nodes so_far.spreading node c.pop.new.self.nodes c.in-Some.ensures.nodes here);
    }

pub returns-clause-halves : goal.returns-clause-halves
returns-clause-halves c =
    let old = c.args.bucket.now in
    spread-end old.size old.place old.nodes c.loop-node.bucket.nodes c.loop-node.low.nodes c.loop-node.high.nodes
    c.loop-node.invariant.spreading (c.in_default.ensures.none.0 refl)
