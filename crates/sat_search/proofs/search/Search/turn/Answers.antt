use Rattle.std.specs.Prelude.{IfOk}
use Rattle.std.proofs.Common.{sym, subst}
use Rattle.sat_trail.specs.Trail.{Stand}
use Rattle.sat_propagate.specs.Propagation.{AllLits, Holds}
use Rattle.sat_propagate.specs.declared.unit_scan.Scan.TheVariants as scan
use Rattle.sat_search.specs.Turns.{State, IsSearch, Turns}
use Rattle.sat_search.proofs.Turns.{with_taken, all_are_lits, stands, looked_at, searches_behind}
use Rattle.sat_search.proofs.Turns.{forced_kept, turn_from}
use Rattle.sat_search.proofs.search.Search.turn.Goals as goal

pub next-requires-clause-holds : goal.next-requires-clause-holds
next-requires-clause-holds c =
    let i = c.self.inside in
    let s : State = record {
      vars = i.vars;
      ledger = i.ledger;
      trail = i.trail;
      left = i.left;
      taken = i.propagation;
    } in
    let k : IsSearch s = subst IsSearch (sym c.self.view_is) c.requires in
    subst (λ z. Holds z s.trail s.taken) (sym c.clauses.ensures) k.2.holds

pub next-requires-clause-stand : goal.next-requires-clause-stand
next-requires-clause-stand c =
    let i = c.self.inside in
    let s : State = record {
      vars = i.vars;
      ledger = i.ledger;
      trail = i.trail;
      left = i.left;
      taken = i.propagation;
    } in
    let k : IsSearch s = subst IsSearch (sym c.self.view_is) c.requires in
    subst (λ z. Stand z s.trail) (sym c.clauses.ensures) (stands s k)

pub next-requires-clause-lits : goal.next-requires-clause-lits
next-requires-clause-lits c =
    let i = c.self.inside in
    let s : State = record {
      vars = i.vars;
      ledger = i.ledger;
      trail = i.trail;
      left = i.left;
      taken = i.propagation;
    } in
    let k : IsSearch s = subst IsSearch (sym c.self.view_is) c.requires in
    subst AllLits (sym c.clauses.ensures) (all_are_lits s k)

pub force-requires-clause-search : goal.force-requires-clause-search
force-requires-clause-search c =
    let i = c.self.inside in
    let s : State = record {
      vars = i.vars;
      ledger = i.ledger;
      trail = i.trail;
      left = i.left;
      taken = i.propagation;
    } in
    let k : IsSearch s = subst IsSearch (sym c.self.view_is) c.requires in
    let looked = looked_at s c.next.new.self c.clauses.result.now c.in_ok-scan.scan (scan.Unit c.in-Unit.place
    c.in-Unit.lit) c.clauses.ensures
    c.in_ok-scan.ensures.sees c.in_ok-scan.ensures.holds c.in-Unit.is in
    searches_behind s c.next.new.self (scan.Unit c.in-Unit.place c.in-Unit.lit) looked k

pub force-requires-clause-looked : goal.force-requires-clause-looked
force-requires-clause-looked c =
    let i = c.self.inside in
    let s : State = record {
      vars = i.vars;
      ledger = i.ledger;
      trail = i.trail;
      left = i.left;
      taken = i.propagation;
    } in
    let k : IsSearch s = subst IsSearch (sym c.self.view_is) c.requires in
    let looked = looked_at s c.next.new.self c.clauses.result.now c.in_ok-scan.scan (scan.Unit c.in-Unit.place
    c.in-Unit.lit) c.clauses.ensures
    c.in_ok-scan.ensures.sees c.in_ok-scan.ensures.holds c.in-Unit.is in
    forced_kept (with_taken s c.next.new.self) c.in-Unit.place c.in-Unit.lit looked
    (searches_behind s c.next.new.self (scan.Unit c.in-Unit.place c.in-Unit.lit) looked k)

pub decide-requires-clause-search : goal.decide-requires-clause-search
decide-requires-clause-search c =
    let i = c.self.inside in
    let s : State = record {
      vars = i.vars;
      ledger = i.ledger;
      trail = i.trail;
      left = i.left;
      taken = i.propagation;
    } in
    let k : IsSearch s = subst IsSearch (sym c.self.view_is) c.requires in
    let looked = looked_at s c.next.new.self c.clauses.result.now c.in_ok-scan.scan scan.Settled c.clauses.ensures
    c.in_ok-scan.ensures.sees c.in_ok-scan.ensures.holds c.in-Settled.is in
    searches_behind s c.next.new.self scan.Settled looked k

pub decide-requires-clause-looked : goal.decide-requires-clause-looked
decide-requires-clause-looked c =
    let i = c.self.inside in
    let s : State = record {
      vars = i.vars;
      ledger = i.ledger;
      trail = i.trail;
      left = i.left;
      taken = i.propagation;
    } in
    let k : IsSearch s = subst IsSearch (sym c.self.view_is) c.requires in
    let looked = looked_at s c.next.new.self c.clauses.result.now c.in_ok-scan.scan scan.Settled c.clauses.ensures
    c.in_ok-scan.ensures.sees c.in_ok-scan.ensures.holds c.in-Settled.is in
    looked

pub learn-requires-clause-search : goal.learn-requires-clause-search
learn-requires-clause-search c =
    let i = c.self.inside in
    let s : State = record {
      vars = i.vars;
      ledger = i.ledger;
      trail = i.trail;
      left = i.left;
      taken = i.propagation;
    } in
    let k : IsSearch s = subst IsSearch (sym c.self.view_is) c.requires in
    let looked = looked_at s c.next.new.self c.clauses.result.now c.in_ok-scan.scan (scan.Conflict
    c.in-Conflict.place) c.clauses.ensures
    c.in_ok-scan.ensures.sees c.in_ok-scan.ensures.holds c.in-Conflict.is in
    searches_behind s c.next.new.self (scan.Conflict c.in-Conflict.place) looked k

pub learn-requires-clause-looked : goal.learn-requires-clause-looked
learn-requires-clause-looked c =
    let i = c.self.inside in
    let s : State = record {
      vars = i.vars;
      ledger = i.ledger;
      trail = i.trail;
      left = i.left;
      taken = i.propagation;
    } in
    let k : IsSearch s = subst IsSearch (sym c.self.view_is) c.requires in
    let looked = looked_at s c.next.new.self c.clauses.result.now c.in_ok-scan.scan (scan.Conflict
    c.in-Conflict.place) c.clauses.ensures
    c.in_ok-scan.ensures.sees c.in_ok-scan.ensures.holds c.in-Conflict.is in
    looked

pub refute-requires-clause-search : goal.refute-requires-clause-search
refute-requires-clause-search c =
    let i = c.self.inside in
    let s : State = record {
      vars = i.vars;
      ledger = i.ledger;
      trail = i.trail;
      left = i.left;
      taken = i.propagation;
    } in
    let k : IsSearch s = subst IsSearch (sym c.self.view_is) c.requires in
    let looked = looked_at s c.next.new.self c.clauses.result.now c.in_ok-scan.scan (scan.Conflict
    c.in-Conflict.place) c.clauses.ensures
    c.in_ok-scan.ensures.sees c.in_ok-scan.ensures.holds c.in-Conflict.is in
    searches_behind s c.next.new.self (scan.Conflict c.in-Conflict.place) looked k

pub refute-requires-clause-looked : goal.refute-requires-clause-looked
refute-requires-clause-looked c =
    let i = c.self.inside in
    let s : State = record {
      vars = i.vars;
      ledger = i.ledger;
      trail = i.trail;
      left = i.left;
      taken = i.propagation;
    } in
    let k : IsSearch s = subst IsSearch (sym c.self.view_is) c.requires in
    let looked = looked_at s c.next.new.self c.clauses.result.now c.in_ok-scan.scan (scan.Conflict
    c.in-Conflict.place) c.clauses.ensures
    c.in_ok-scan.ensures.sees c.in_ok-scan.ensures.holds c.in-Conflict.is in
    looked

pub returns-in-Unit : goal.returns-in-Unit
returns-in-Unit c =
    let i = c.self.inside in
    let s : State = record {
      vars = i.vars;
      ledger = i.ledger;
      trail = i.trail;
      left = i.left;
      taken = i.propagation;
    } in
    let looked = looked_at s c.next.new.self c.clauses.result.now c.in_ok-scan.scan (scan.Unit c.in-Unit.place
    c.in-Unit.lit) c.clauses.ensures
    c.in_ok-scan.ensures.sees c.in_ok-scan.ensures.holds c.in-Unit.is in
    subst (λ z. IfOk c.force.result (Turns z c.force.new.self)) c.self.view_is
    (turn_from s c.next.new.self c.force.new.self (scan.Unit c.in-Unit.place c.in-Unit.lit) c.force.result looked
    c.force.ensures)

pub returns-in-Settled : goal.returns-in-Settled
returns-in-Settled c =
    let i = c.self.inside in
    let s : State = record {
      vars = i.vars;
      ledger = i.ledger;
      trail = i.trail;
      left = i.left;
      taken = i.propagation;
    } in
    let looked = looked_at s c.next.new.self c.clauses.result.now c.in_ok-scan.scan scan.Settled c.clauses.ensures
    c.in_ok-scan.ensures.sees c.in_ok-scan.ensures.holds c.in-Settled.is in
    subst (λ z. IfOk c.decide.result (Turns z c.decide.new.self)) c.self.view_is
    (turn_from s c.next.new.self c.decide.new.self scan.Settled c.decide.result looked c.decide.ensures)

pub returns-then-has_decision : goal.returns-then-has_decision
returns-then-has_decision c =
    let i = c.self.inside in
    let s : State = record {
      vars = i.vars;
      ledger = i.ledger;
      trail = i.trail;
      left = i.left;
      taken = i.propagation;
    } in
    let looked = looked_at s c.next.new.self c.clauses.result.now c.in_ok-scan.scan (scan.Conflict
    c.in-Conflict.place) c.clauses.ensures
    c.in_ok-scan.ensures.sees c.in_ok-scan.ensures.holds c.in-Conflict.is in
    subst (λ z. IfOk c.learn.result (Turns z c.learn.new.self)) c.self.view_is
    (turn_from s c.next.new.self c.learn.new.self (scan.Conflict c.in-Conflict.place) c.learn.result looked
    c.learn.ensures)

pub returns-else-has_decision : goal.returns-else-has_decision
returns-else-has_decision c =
    let i = c.self.inside in
    let s : State = record {
      vars = i.vars;
      ledger = i.ledger;
      trail = i.trail;
      left = i.left;
      taken = i.propagation;
    } in
    let looked = looked_at s c.next.new.self c.clauses.result.now c.in_ok-scan.scan (scan.Conflict
    c.in-Conflict.place) c.clauses.ensures
    c.in_ok-scan.ensures.sees c.in_ok-scan.ensures.holds c.in-Conflict.is in
    subst (λ z. IfOk c.refute.result (Turns z c.refute.new.self)) c.self.view_is
    (turn_from s c.next.new.self c.refute.new.self (scan.Conflict c.in-Conflict.place) c.refute.result looked
    c.refute.ensures)
