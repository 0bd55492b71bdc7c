-- What a step does with some pieces it does beside any others, and however they are put together.
use Rattle.std.proofs.Common.{ℕ, List, ◌++◌, refl, ◌∙◌, arith}
use Rattle.lot_machine.specs.declared.step.Answer.{Answer}
use Rattle.lot_machine.specs.declared.step.Step.{Step}
use Rattle.lot_machine.specs.Machine.{Machine}
use Rattle.lot_machine.proofs.StepLemmas.{IsConsistent-step}
use Rattle.lot_history.specs.declared.view.Piece.{Piece}
use Rattle.lot_history.specs.Moves.{Finds, Reaches, Moves, Regroups}
use Rattle.lot_history.proofs.MachineLemmas.{max_threads-step}
use Rattle.lot_history.proofs.PieceLemmas.{AllSo-alike, AllSo-append, AllSo-parts, cover-append}

module _ (max_threads : ℕ) where
  -- what is found of all pieces is found of the first of them
  found_first : (first rest : List Piece) (m : Machine) → Finds max_threads (first ++ rest) m
      → Finds max_threads first m
  found_first first rest m finds = record {
    few = finds.few;
    threads = finds.threads;
    consistent = finds.consistent;
    once = λ name. let both = cover-append name first rest in let once = finds.once name in omega arith;
    so = (AllSo-parts m first rest finds.so).0;
  }

  -- and of the others
  found_rest : (first rest : List Piece) (m : Machine) → Finds max_threads (first ++ rest) m
      → Finds max_threads rest m
  found_rest first rest m finds = record {
    few = finds.few;
    threads = finds.threads;
    consistent = finds.consistent;
    once = λ name. let both = cover-append name first rest in let once = finds.once name in omega arith;
    so = (AllSo-parts m first rest finds.so).1;
  }

  -- a step leaves other pieces as they are
  pub framed : (said : Step → Answer → Type 0) (before after rest : List Piece) → Moves max_threads said before after
      → Moves max_threads said (before ++ rest) (after ++ rest)
  framed said before after rest moves = record {
    cover = λ name. let same = moves.cover name in
        let old = cover-append name before rest in let new = cover-append name after rest in omega arith;
    step = λ m finds. let to : Reaches m said after = moves.step m (found_first before rest m finds) in record {
      step = to.step;
      answer = to.answer;
      is_said = to.is_said;
      next = to.next;
      does = to.does;
      so = AllSo-append to.next after rest to.so
          (AllSo-alike m to.next rest
          (λ name more. to.others name
          (let same = moves.cover name in
          let once = finds.once name in let both = cover-append name before rest in omega arith))
          (AllSo-parts m before rest finds.so).1);
      others = λ name none. to.others name (let both = cover-append name after rest in omega arith);
    };
  }

  -- the same pieces
  pub kept_pieces : (pieces : List Piece) → Regroups max_threads pieces pieces
  kept_pieces pieces = record { cover = λ name. refl; so = λ m finds. finds.so }

  -- the parts of some pieces in others, beside those of further ones
  pub beside : (before after old new : List Piece) → Regroups max_threads before after → Regroups max_threads old new
      → Regroups max_threads (before ++ old) (after ++ new)
  beside before after old new first second = record {
    cover = λ name. let one = first.cover name in
        let two = second.cover name in
        let was = cover-append name before old in let is = cover-append name after new in omega arith;
    so = λ m finds. AllSo-append m after new (first.so m (found_first before old m finds))
        (second.so m (found_rest before old m finds));
  }

  -- the pieces in another order
  pub turned : (first rest : List Piece) → Regroups max_threads (first ++ rest) (rest ++ first)
  turned first rest = record {
    cover = λ name. let old = cover-append name first rest in let new = cover-append name rest first in omega arith;
    so = λ m finds. let parts = AllSo-parts m first rest finds.so in AllSo-append m rest first parts.1 parts.0;
  }

  -- what is found of pieces is found of the same parts in others
  found_again : (before after : List Piece) → Regroups max_threads before after → (m : Machine)
      → Finds max_threads before m → Finds max_threads after m
  found_again before after same m finds = record {
    few = finds.few;
    threads = finds.threads;
    consistent = finds.consistent;
    once = λ name. let alike = same.cover name in let once = finds.once name in omega arith;
    so = same.so m finds;
  }

  -- one after another
  pub chained : (before between after : List Piece) → Regroups max_threads before between
      → Regroups max_threads between after → Regroups max_threads before after
  chained before between after first second = record {
    cover = λ name. second.cover name ∙ first.cover name;
    so = λ m finds. second.so m (found_again before between first m finds);
  }

  -- a step whose pieces are put together otherwise before it and after it
  pub regrouped : (said : Step → Answer → Type 0) (old before after new : List Piece) → Regroups max_threads old before
      → Moves max_threads said before after → Regroups max_threads after new → Moves max_threads said old new
  regrouped said old before after new first moves last = record {
    cover = λ name. let one = first.cover name in
        let two = moves.cover name in let three = last.cover name in omega arith;
    step = λ m finds. let to : Reaches m said after = moves.step m (found_again old before first m finds) in record {
      step = to.step;
      answer = to.answer;
      is_said = to.is_said;
      next = to.next;
      does = to.does;
      so = last.so to.next (record {
        few = finds.few;
        threads = max_threads-step m to.step to.answer to.next to.does ∙ finds.threads;
        consistent = IsConsistent-step m to.step to.answer to.next finds.consistent to.does;
        once = λ name. let one = first.cover name in
            let two = moves.cover name in let once = finds.once name in omega arith;
        so = to.so;
      });
      others = λ name none. to.others name (let three = last.cover name in omega arith);
    };
  }

  -- a step whose pieces are first the other way round, as where they were taken behind others
  pub behind : (said : Step → Answer → Type 0) (first rest after : List Piece)
      → Moves max_threads said (rest ++ first) after → Moves max_threads said (first ++ rest) after
  behind said first rest after moves =
      regrouped said (first ++ rest) (rest ++ first) after after (turned first rest) moves (kept_pieces after)
