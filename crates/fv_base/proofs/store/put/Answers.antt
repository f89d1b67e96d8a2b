use Rattle.std.proofs.Common.{Some, sym}
use Rattle.fv_base.proofs.StoreLemmas.{names_in-set}
use Rattle.fv_base.proofs.store.put.Goals as goal

pub returns-clause-ok : goal.returns-clause-ok
returns-clause-ok c =
    rw (sym c.in_ok-name.ensures.items, sym c.in_ok-bytes.ensures.items)
    (names_in-set c.in_ok-name.name.items c.args.store.now c.insert.new.self
    (Some c.in_ok-bytes.bytes) c.in_ok-insert.ensures.updates)
