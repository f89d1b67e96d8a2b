use Rattle.std.proofs.Common.{◌≡◌, ◌-◌, ◌^◌, ◌<◌, false, length, reverse, sym, subst, ◌∙◌}
use Rattle.lrat_check.specs.Sets.{AreLits}
use Rattle.sat_trail.specs.Trail.{decided}
use Rattle.sat_propagate.specs.Propagation.{AllLits}
use Rattle.sat_propagate.specs.declared.unit_scan.Scan.TheVariants as scan
use Rattle.sat_learn.specs.Analysis.{Derives}
use Rattle.sat_search.specs.Ledger.{Adds}
use Rattle.sat_search.specs.declared.turn.Turn.TheVariants as turn
use Rattle.sat_search.specs.Turns.{State, IsSearch, Looked, with_ledger, Turns}
use Rattle.sat_search.proofs.Turns.{few_clauses, all_are_lits, conflicts, is_ledger, refutes}
use Rattle.sat_search.proofs.search.Search.refute.Goals as goal

pub to_empty-requires-clause-few : goal.to_empty-requires-clause-few
to_empty-requires-clause-few c =
    let i = c.self.inside in
    let s : State = record {
      vars = i.vars;
      ledger = i.ledger;
      trail = i.trail;
      left = i.left;
      taken = i.propagation;
    } in
    let k : IsSearch s = subst IsSearch (sym c.self.view_is) c.requires.search in
    subst (λ z. length z < 2 ^ 63 - 1) (sym c.clauses.ensures) (few_clauses s k)

pub to_empty-requires-clause-lits : goal.to_empty-requires-clause-lits
to_empty-requires-clause-lits c =
    let i = c.self.inside in
    let s : State = record {
      vars = i.vars;
      ledger = i.ledger;
      trail = i.trail;
      left = i.left;
      taken = i.propagation;
    } in
    let k : IsSearch s = subst IsSearch (sym c.self.view_is) c.requires.search in
    subst AllLits (sym c.clauses.ensures) (all_are_lits s k)

pub to_empty-requires-clause-undecided : goal.to_empty-requires-clause-undecided
to_empty-requires-clause-undecided c = subst (λ z. decided z.trail ≡ false) (sym c.self.view_is) c.requires.undecided

pub to_empty-requires-clause-conflict : goal.to_empty-requires-clause-conflict
to_empty-requires-clause-conflict c =
    let i = c.self.inside in
    let s : State = record {
      vars = i.vars;
      ledger = i.ledger;
      trail = i.trail;
      left = i.left;
      taken = i.propagation;
    } in
    let k : IsSearch s = subst IsSearch (sym c.self.view_is) c.requires.search in
    let l : Looked s (scan.Conflict c.args.place) =
    subst (λ z. Looked z (scan.Conflict c.args.place)) (sym c.self.view_is) c.requires.looked in
    conflicts s c.args.place c.clauses.result.now c.clauses.ensures k l

pub add-requires-clause-ledger : goal.add-requires-clause-ledger
add-requires-clause-ledger c =
    let i = c.self.inside in
    let s : State = record {
      vars = i.vars;
      ledger = i.ledger;
      trail = i.trail;
      left = i.left;
      taken = i.propagation;
    } in
    let k : IsSearch s = subst IsSearch (sym c.self.view_is) c.requires.search in
    is_ledger s k

pub add-requires-clause-lits : goal.add-requires-clause-lits
add-requires-clause-lits c =
    subst AreLits (sym c.deref.ensures.value) (subst AreLits (sym c.in_ok-learnt.ensures.empty) tt)

pub returns : goal.returns
returns c =
    let i = c.self.inside in
    let s : State = record {
      vars = i.vars;
      ledger = i.ledger;
      trail = i.trail;
      left = i.left;
      taken = i.propagation;
    } in
    let learnt = c.in_ok-learnt.learnt in
    let r = learnt.lits.items in
    let hints = reverse learnt.hints.items in
    let b = c.in_ok-add.field-0 in
    let book = c.add.new.self in
    let u = c.to_empty.new.trail in
    let d : Derives i.ledger.clauses u r hints =
    subst (λ z. Derives z u r hints) c.clauses.ensures c.in_ok-learnt.ensures.derives in
    let a : Adds i.ledger book r hints b =
    subst (λ z. Adds i.ledger book r z b) (c.deref-2.ensures.value ∙ c.reverse.ensures.items)
    (subst (λ z. Adds i.ledger book z c.deref-2.result.now b) c.deref.ensures.value c.in_ok-add.ensures) in
    subst (λ z. Turns z (with_ledger s book u i.left) turn.Refuted) c.self.view_is
    (refutes s u r hints d c.in_ok-learnt.ensures.empty book b a)
