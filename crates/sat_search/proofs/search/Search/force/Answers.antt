use Rattle.std.proofs.Common.{sym, subst}
use Rattle.sat_propagate.specs.declared.unit_scan.Scan.TheVariants as scan
use Rattle.sat_search.specs.declared.turn.Turn.TheVariants as turn
use Rattle.sat_search.specs.Turns.{State, IsSearch, Looked, Turns}
use Rattle.sat_search.proofs.Turns.{with_trail, forced_is_lit, forced_is_free, forces}
use Rattle.sat_search.proofs.search.Search.force.Goals as goal

pub push-requires-clause-lit : goal.push-requires-clause-lit
push-requires-clause-lit c =
    let i = c.self.inside in
    let s : State = record {
      vars = i.vars;
      ledger = i.ledger;
      trail = i.trail;
      left = i.left;
      taken = i.propagation;
    } in
    let found = scan.Unit c.args.place c.args.lit in
    forced_is_lit s c.args.place c.args.lit (subst (λ z. Looked z found) (sym c.self.view_is) c.requires.looked)
    (subst IsSearch (sym c.self.view_is) c.requires.search)

pub push-requires-clause-fresh : goal.push-requires-clause-fresh
push-requires-clause-fresh c =
    let i = c.self.inside in
    let s : State = record {
      vars = i.vars;
      ledger = i.ledger;
      trail = i.trail;
      left = i.left;
      taken = i.propagation;
    } in
    let found = scan.Unit c.args.place c.args.lit in
    forced_is_free s c.args.place c.args.lit (subst (λ z. Looked z found) (sym c.self.view_is) c.requires.looked)
    (subst IsSearch (sym c.self.view_is) c.requires.search)

pub returns : goal.returns
returns c =
    let i = c.self.inside in
    let s : State = record {
      vars = i.vars;
      ledger = i.ledger;
      trail = i.trail;
      left = i.left;
      taken = i.propagation;
    } in
    let found = scan.Unit c.args.place c.args.lit in
    let whole = c.push.new.self in
    subst (λ z. Turns z (with_trail s whole) turn.On) c.self.view_is
    (forces s c.args.place c.args.lit (subst (λ z. Looked z found) (sym c.self.view_is) c.requires.looked) whole
    c.in_ok-push.ensures)
