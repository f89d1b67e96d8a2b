use Rattle.std.proofs.Common.{sym, subst}
use Rattle.sat_propagate.specs.declared.unit_scan.Scan.TheVariants as scan
use Rattle.sat_search.specs.declared.turn.Turn.TheVariants as turn
use Rattle.sat_search.specs.Turns.{State, Looked, Turns}
use Rattle.sat_search.proofs.Turns.{with_trail, satisfies, decides}
use Rattle.sat_search.proofs.search.Search.decide.Goals as goal

pub returns-in-None : goal.returns-in-None
returns-in-None c =
    let i = c.self.inside in
    let s : State = record {
      vars = i.vars;
      ledger = i.ledger;
      trail = i.trail;
      left = i.left;
      taken = i.propagation;
    } in
    subst (λ z. Turns z s turn.Satisfied) c.self.view_is
    (satisfies s (subst (λ z. Looked z scan.Settled) (sym c.self.view_is) c.requires.looked) c.in-None.ensures)

pub returns-in_ok-push-in-Some : goal.returns-in_ok-push-in-Some
returns-in_ok-push-in-Some c =
    let i = c.self.inside in
    let s : State = record {
      vars = i.vars;
      ledger = i.ledger;
      trail = i.trail;
      left = i.left;
      taken = i.propagation;
    } in
    let whole = c.push.new.self in
    subst (λ z. Turns z (with_trail s whole) turn.On) c.self.view_is
    (decides s (subst (λ z. Looked z scan.Settled) (sym c.self.view_is) c.requires.looked) c.in-Some.lit
    c.in-Some.ensures whole c.in_ok-push-in-Some.ensures)
