-- A `&` to a queue is a `&` to each of its nodes. Assumes `Logic`.
use denote.Param.Shared.{copy_shared}
use denote.Struct.Field.{RawPtr-field}
use denote.Struct.Laws.{RawPtr-copy}
use denote.Struct.Lending.{of_Lends}
use denote.RawPtr.{null_ptr}
use Rattle.lot_base.specs.contracts.queue.Queue.TheInside as C
use Rattle.lot_base.proofs.queue.Queue.TheLaw.Statement.{statement}
use Rattle.lot_base.proofs.ChainLemmas.{nodes_lent_laws, Lends-nodes}

pub shares : statement
shares = of_Lends C.struct C.the_codes C.the_heap C.the_lent
    (λ d p. nodes_lent_laws d.nodes null_ptr)
    (copy_shared RawPtr-field RawPtr-copy, (copy_shared RawPtr-field RawPtr-copy, tt))
    (λ M 𝓤 𝓛 d p. Lends-nodes 𝓛 C.the_row.lives d.nodes null_ptr)
