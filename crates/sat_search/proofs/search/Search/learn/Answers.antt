use Rattle.std.proofs.Common.{◌<◌, sym, subst, arith}
use Rattle.sat_search.specs.Turns.{State, Learned}
use Rattle.sat_search.proofs.Turns.{brings_back, some_left, goes_from, goes_to, spends}
use Rattle.sat_search.proofs.search.Search.learn.Goals as goal

pub returns-then-not-is_new : goal.returns-then-not-is_new
returns-then-not-is_new c =
    brings_back c.args.self.now c.add_learnt.new.self c.in_ok-is_new.is_new c.in_ok-is_new.ensures
    c.if-not-is_new.true

pub overflow_sub-self : goal.overflow_sub-self
overflow_sub-self c =
    let i = c.self.inside in
    let m : State = record {
      vars = i.vars;
      ledger = i.ledger;
      trail = i.trail;
      left = i.left;
      taken = i.propagation;
    } in
    let b = c.in_ok-is_new.is_new in
    let w : Learned c.args.self.now m b =
    subst (λ z. Learned c.args.self.now z b) (sym c.self.view_is) c.in_ok-is_new.ensures in
    let some : 0 < i.left = some_left c.args.self.now m b w c.requires.search in
    omega (arith, some)

pub returns-then-self-eq0 : goal.returns-then-self-eq0
returns-then-self-eq0 c =
    let i = c.self.inside in
    let m : State = record {
      vars = i.vars;
      ledger = i.ledger;
      trail = i.trail;
      left = i.left;
      taken = i.propagation;
    } in
    let b = c.in_ok-is_new.is_new in
    let w : Learned c.args.self.now m b =
    subst (λ z. Learned c.args.self.now z b) (sym c.self.view_is) c.in_ok-is_new.ensures in
    spends c.args.self.now m b w c.if-not-is_new.false c.if-self-eq0.true

pub tidy-requires : goal.tidy-requires
tidy-requires c =
    let i = c.self.inside in
    let m : State = record {
      vars = i.vars;
      ledger = i.ledger;
      trail = i.trail;
      left = i.left;
      taken = i.propagation;
    } in
    let b = c.in_ok-is_new.is_new in
    let w : Learned c.args.self.now m b =
    subst (λ z. Learned c.args.self.now z b) (sym c.self.view_is) c.in_ok-is_new.ensures in
    goes_from c.args.self.now m b w c.if-not-is_new.false (omega (arith, c.if-self-eq0.false)) c.requires.search

pub returns : goal.returns
returns c =
    let i = c.self.inside in
    let m : State = record {
      vars = i.vars;
      ledger = i.ledger;
      trail = i.trail;
      left = i.left;
      taken = i.propagation;
    } in
    let b = c.in_ok-is_new.is_new in
    let w : Learned c.args.self.now m b =
    subst (λ z. Learned c.args.self.now z b) (sym c.self.view_is) c.in_ok-is_new.ensures in
    goes_to c.args.self.now m b w c.if-not-is_new.false (omega (arith, c.if-self-eq0.false)) c.tidy.new.self
    c.in_ok-tidy.ensures
