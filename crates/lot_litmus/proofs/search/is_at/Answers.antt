use Rattle.std.proofs.Common.{rules, ◌∙◌, sym, ap}
use Rattle.std.specs.Prelude.{Some}
use Rattle.std.proofs.lemmas.Option.{slice_get-get_or}
use Rattle.lot_litmus.specs.View.{configuration_of}
use Rattle.lot_litmus.proofs.search.is_at.Goals as goal

pub returns : goal.returns
returns c =
    λ same. (
      c.index-states-index.result,
      slice_get-get_or c.args.states.now c.args.index c.index-states-index.result (search rules)
          ∙ ap Some (sym c.index-states-index.is),
      sym (ap configuration_of c.state.ensures.value) ∙ c.is_same.ensures same,
    )
