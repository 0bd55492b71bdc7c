use Rattle.std.proofs.Common.{List, arith, length, sym, ap, ◌∙◌, subst}
use Rattle.std.proofs.lemmas.List.{length-replicate}
use Rattle.atomic_table.specs.Seated.{TableId}
use Rattle.lot_machine.specs.declared.numbers.Use.{Use}
use Rattle.lot_machine.specs.declared.numbers.Use.TheVariants.{Free}
use Rattle.lot_history.specs.Views.{first_of}
use Rattle.lot_history.specs.Witness.{IsPartOf}
use Rattle.lot_threads.proofs.NumberLemmas.{free_so, none_registered}
use Rattle.lot_threads.proofs.registry.new_registry.Goals as goal

pub new-requires : goal.new-requires
new-requires c =
    let part = c.give-part.result in
    let here = sym c.requires.home.table in
    record {
      few = c.requires.few;
      count = ap (λ (numbers : List Use). length numbers) c.requires.numbers
          ∙ length-replicate c.args.max_threads Free;
      part = record {
        of_history = subst (λ (home : TableId). IsPartOf home part) here c.give-part.ensures.part;
        pieces = c.give-part.ensures.first ∙ ap first_of c.requires.piece
            ∙ free_so c.args.max_threads c.args.numbers c.requires.numbers;
      };
      witness = record {
        table = c.tell.ensures.witness.table ∙ here;
        slots = c.tell.ensures.witness.slots;
        nothing_added = c.tell.ensures.nothing_added;
        no_pieces = c.tell.ensures.no_pieces;
      };
      row = omega arith;
      room = omega (arith, none_registered c.args.max_threads c.args.numbers c.requires.numbers);
    }
