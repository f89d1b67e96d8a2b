use Rattle.std.proofs.Common.{◌≡◌, ◌∙◌, ◌+◌, ◌++◌, [], ◌∷◌, refl, ap, sym, subst, arith}
use Rattle.std.specs.Prelude.{drop}
use Rattle.std.proofs.lemmas.Grind.{common_steps}
use Rattle.vl_mean.specs.Walk.{connection, connection_steps}
use Rattle.vl_elab_check.specs.Left.{AreLeft}
use Rattle.vl_elab_check.proofs.Rest.{found_none, none_at_all, left_start, left_on, left_stop, left_end}
use Rattle.vl_elab_check.proofs.connections.walk_connections.Goals as goal

pub returns-then-is_empty-clause-walked : goal.returns-then-is_empty-clause-walked
returns-then-is_empty-clause-walked c ms at u inside t same inner known =
    none_at_all ms t (connection_steps at c.args.module.now u inside []) c.args.all.now c.is_empty.result
    c.args.walk.now.totals c.is_empty.ensures c.if-is_empty.true refl known

pub loop-given-init : goal.loop-given-init
loop-given-init c = record {
  path = refl;
  walked = λ ms at u inside t same inner known. (
    [],
    c.new-earlier.ensures,
    left_start ms t (connection_steps at c.args.module.now u inside [] c.args.all.now) c.args.walk.now.totals known,
  );
}

pub loop-given-preserved : goal.loop-given-preserved
loop-given-preserved c = record {
  path = c.in_ok-found.ensures.path ∙ c.loop-given.invariant.path;
  walked = λ ms at u inside t same inner known.
      let m = c.args.module.now in
      let x = c.given-item.result in
      let all = connection_steps at m u inside [] c.args.all.now in
      let front : drop c.loop-given.given-index c.args.all.now ≡ c.given-item.result
      ∷ drop (c.loop-given.given-index + 1) c.args.all.now = grind (arith, common_steps) in
      let rest = drop (c.loop-given.given-index + 1) c.args.all.now in
      let old = c.loop-given.invariant.walked ms at u inside t same inner known in
      let left = subst (λ l. AreLeft ms t all c.loop-given.walk.totals (connection_steps at m u inside old.0 l)) front
      old.2 in (
        old.0 ++ x.port ∷ [],
        c.in_ok-found.ensures.earlier old.0 old.1,
        left_on ms t all c.loop-given.walk.totals c.walk_connection.new.walk.totals (connection at m u inside old.0 x ∷ [])
            (connection_steps at m u inside (old.0 ++ x.port ∷ []) rest) c.in_ok-found.found left
            (c.in_ok-found.ensures.walked ms at m u inside left.now old.0 c.in_ok-ports.ensures same inner old.1
            left.known)
            (found_none c.in_ok-found.found c.is_some.result c.is_some.ensures c.if-is_some.false),
      );
}

pub returns-then-is_some-clause-walked : goal.returns-then-is_some-clause-walked
returns-then-is_some-clause-walked c ms at u inside t same inner known =
    let m = c.args.module.now in
    let x = c.given-item.result in
    let all = connection_steps at m u inside [] c.args.all.now in
    let front : drop c.loop-given.given-index c.args.all.now ≡ c.given-item.result
    ∷ drop (c.loop-given.given-index + 1) c.args.all.now = grind (arith, common_steps) in
    let rest = drop (c.loop-given.given-index + 1) c.args.all.now in
    let old = c.loop-given.invariant.walked ms at u inside t same inner known in
    let left = subst (λ l. AreLeft ms t all c.loop-given.walk.totals (connection_steps at m u inside old.0 l)) front old.2 in
    left_stop ms t all c.loop-given.walk.totals c.walk_connection.new.walk.totals (connection at m u inside old.0 x ∷ [])
    (connection_steps at m u inside (old.0 ++ x.port ∷ []) rest) c.in_ok-found.found left
    (c.in_ok-found.ensures.walked ms at m u inside left.now old.0 c.in_ok-ports.ensures same inner old.1 left.known)
    (sym c.is_some.ensures ∙ c.if-is_some.true)

pub returns-clause-walked : goal.returns-clause-walked
returns-clause-walked c ms at u inside t same inner known =
    let m = c.args.module.now in
    let gone : drop c.loop-given.given-index c.args.all.now ≡ [] = grind (arith, common_steps) in
    let old = c.loop-given.invariant.walked ms at u inside t same inner known in
    left_end ms t (connection_steps at m u inside [] c.args.all.now) c.loop-given.walk.totals
    (connection_steps at m u inside old.0 (drop c.loop-given.given-index c.args.all.now))
    (ap (connection_steps at m u inside old.0) gone) old.2

pub returns-then-is_some-clause-path : goal.returns-then-is_some-clause-path
returns-then-is_some-clause-path c = c.in_ok-found.ensures.path ∙ c.loop-given.invariant.path

pub returns-clause-path : goal.returns-clause-path
returns-clause-path c = c.loop-given.invariant.path
