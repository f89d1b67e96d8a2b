use Rattle.std.proofs.Common.{ℕ, ◌^◌, ◌<◌, List, sym, subst}
use Rattle.sat_search.specs.Ledger.{State, IsLedger, id_at}
use Rattle.sat_search.proofs.Named.{small_ids}
use Rattle.sat_search.proofs.ledger.Ledger.add.Goals as goal

pub by_ids-requires : goal.by_ids-requires
by_ids-requires c =
    let i = c.self.inside in
    let s : State = record {
      clauses = i.clauses;
      ids = i.ids.items;
      first = i.first;
      top = i.top;
      steps = i.steps;
      dropped = i.dropped;
    } in
    let k : IsLedger s = subst IsLedger (sym c.self.view_is) c.requires.ledger in
    let P : List ℕ → Type 0 = λ z. (place : ℕ) → id_at z place < 2 ^ 63 in
    subst P (sym c.deref.ensures.value) (small_ids k.0 k.1 k.2 s k.3)
