use Rattle.std.proofs.Common.{sym, subst}
use Rattle.sat_search.specs.Turns.{State, IsSearch, GoesOn}
use Rattle.sat_search.proofs.Turns.{is_ledger, begins_anew}
use Rattle.sat_search.proofs.search.Search.forget.Goals as goal

pub forget-requires : goal.forget-requires
forget-requires c =
    let i = c.self.inside in
    let s : State = record {
      vars = i.vars;
      ledger = i.ledger;
      trail = i.trail;
      left = i.left;
      taken = i.propagation;
    } in
    is_ledger s (subst IsSearch (sym c.self.view_is) c.requires)

pub returns : goal.returns
returns c =
    let i = c.self.inside in
    let s : State = record {
      vars = i.vars;
      ledger = i.ledger;
      trail = i.trail;
      left = i.left;
      taken = i.propagation;
    } in
    subst (λ z. GoesOn z (record {
      vars = i.vars;
      ledger = c.forget.new.self;
      trail = c.new.result;
      left = i.left;
      taken = c.new-2.result;
    })) c.self.view_is
    (begins_anew s c.forget.new.self c.new.result c.new-2.result c.in_ok-forget.ensures.told c.in_ok-forget.ensures.few
    c.new.ensures c.new-2.ensures)
