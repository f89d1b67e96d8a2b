use Rattle.std.proofs.Common.{◌≡◌, ◌-◌, ◌^◌, ◌<◌, true, length, reverse, refl, sym, subst, ◌∙◌}
use Rattle.lrat_check.specs.Sets.{AreLits}
use Rattle.sat_trail.specs.Trail.{decided}
use Rattle.sat_propagate.specs.Propagation.{AllLits}
use Rattle.sat_propagate.specs.declared.unit_scan.Scan.TheVariants as scan
use Rattle.sat_learn.specs.Learning.{Learns}
use Rattle.sat_search.specs.Ledger.{Adds}
use Rattle.sat_search.specs.Turns.{State, IsSearch, Looked, with_ledger, Learned}
use Rattle.sat_search.proofs.Turns.{few_clauses, all_are_lits, conflicts, is_ledger, false_lits}
use Rattle.sat_search.proofs.search.Search.add_learnt.Goals as goal

pub learn-requires-clause-few : goal.learn-requires-clause-few
learn-requires-clause-few c =
    let i = c.self.inside in
    let s : State = record {
      vars = i.vars;
      ledger = i.ledger;
      trail = i.trail;
      left = i.left;
      taken = i.propagation;
    } in
    let k : IsSearch s = subst IsSearch (sym c.self.view_is) c.requires.search in
    subst (λ z. length z < 2 ^ 63 - 1) (sym c.clauses.ensures) (few_clauses s k)

pub learn-requires-clause-lits : goal.learn-requires-clause-lits
learn-requires-clause-lits c =
    let i = c.self.inside in
    let s : State = record {
      vars = i.vars;
      ledger = i.ledger;
      trail = i.trail;
      left = i.left;
      taken = i.propagation;
    } in
    let k : IsSearch s = subst IsSearch (sym c.self.view_is) c.requires.search in
    subst AllLits (sym c.clauses.ensures) (all_are_lits s k)

pub learn-requires-clause-decided : goal.learn-requires-clause-decided
learn-requires-clause-decided c = subst (λ z. decided z.trail ≡ true) (sym c.self.view_is) c.requires.decided

pub learn-requires-clause-conflict : goal.learn-requires-clause-conflict
learn-requires-clause-conflict c =
    let i = c.self.inside in
    let s : State = record {
      vars = i.vars;
      ledger = i.ledger;
      trail = i.trail;
      left = i.left;
      taken = i.propagation;
    } in
    let k : IsSearch s = subst IsSearch (sym c.self.view_is) c.requires.search in
    let l : Looked s (scan.Conflict c.args.place) =
    subst (λ z. Looked z (scan.Conflict c.args.place)) (sym c.self.view_is) c.requires.looked in
    conflicts s c.args.place c.clauses.result.now c.clauses.ensures k l

pub add-requires-clause-ledger : goal.add-requires-clause-ledger
add-requires-clause-ledger c =
    let i = c.self.inside in
    let s : State = record {
      vars = i.vars;
      ledger = i.ledger;
      trail = i.trail;
      left = i.left;
      taken = i.propagation;
    } in
    let k : IsSearch s = subst IsSearch (sym c.self.view_is) c.requires.search in
    is_ledger s k

pub add-requires-clause-lits : goal.add-requires-clause-lits
add-requires-clause-lits c =
    let i = c.self.inside in
    let s : State = record {
      vars = i.vars;
      ledger = i.ledger;
      trail = i.trail;
      left = i.left;
      taken = i.propagation;
    } in
    let k : IsSearch s = subst IsSearch (sym c.self.view_is) c.requires.search in
    subst AreLits (sym c.deref.ensures.value)
    (false_lits s c.in_ok-learnt.learnt.lits.items k c.in_ok-learnt.ensures.false_there)

pub returns : goal.returns
returns c =
    let i = c.self.inside in
    let s : State = record {
      vars = i.vars;
      ledger = i.ledger;
      trail = i.trail;
      left = i.left;
      taken = i.propagation;
    } in
    let learnt = c.in_ok-learnt.learnt in
    let r = learnt.lits.items in
    let hints = reverse learnt.hints.items in
    let b = c.in_ok-is_new.is_new in
    let book = c.add.new.self in
    let cut = c.learn.new.trail in
    let w : Learns i.ledger.clauses r hints i.trail cut =
    subst (λ z. Learns z r hints i.trail cut) c.clauses.ensures c.in_ok-learnt.ensures in
    let a : Adds i.ledger book r hints b =
    subst (λ z. Adds i.ledger book r z b) (c.deref-2.ensures.value ∙ c.reverse.ensures.items)
    (subst (λ z. Adds i.ledger book z c.deref-2.result.now b) c.deref.ensures.value c.in_ok-is_new.ensures) in
    subst (λ z. Learned z (with_ledger s book cut i.left) b) c.self.view_is
    (record { clause = r; hints = hints; learns = w; adds = a; same = refl })
