use Rattle.std.specs.Prelude.{◌==◌, ◌&&◌}
use Rattle.std.proofs.Common.{ap, sym, ◌∙◌}
use Rattle.wn_net.specs.Net.{value_at}
use Rattle.wn_net.proofs.Laws.{built_node}
use Rattle.wn_net.proofs.Moved.{value_within}
use Rattle.vl_lower_assign.proofs.Tests.{both_one, path_node, path_none, path_some}
use Rattle.vl_lower_assign.proofs.path.path_where.Goals as goal

pub returns-in-None-clause-value : goal.returns-in-None-clause-value
returns-in-None-clause-value c = λ g given.
    let net = c.args.net.now in
    ap (λ b. b && (value_at net g c.args.test == 1)) (sym (path_none net g c.args.path c.in-None.is))

pub and-requires-clause-left : goal.and-requires-clause-left
and-requires-clause-left c = (path_node c.args.net.now c.args.path c.in-Some.outer c.in-Some.is c.requires.path).0

pub and-requires-clause-right : goal.and-requires-clause-right
and-requires-clause-right c = (
  c.requires.test.0,
  c.requires.test.1 ∙ sym (path_node c.args.net.now c.args.path c.in-Some.outer c.in-Some.is c.requires.path).1,
)

pub returns-in_ok-both-in-Some-clause-there : goal.returns-in_ok-both-in-Some-clause-there
returns-in_ok-both-in-Some-clause-there c =
    let built = c.in_ok-both-in-Some.ensures.built in
    let outer = path_node c.args.net.now c.args.path c.in-Some.outer c.in-Some.is c.requires.path in
    let made = built_node _ _ _ _ _ _ built in (made.0, made.1 ∙ outer.1)

pub returns-in_ok-both-in-Some-clause-value : goal.returns-in_ok-both-in-Some-clause-value
returns-in_ok-both-in-Some-clause-value c = λ g given.
    let net = c.args.net.now in
    let outer = path_node net c.args.path c.in-Some.outer c.in-Some.is c.requires.path in
    let whole = c.width-width.ensures.whole in
    ap (λ n. n == 1) (c.in_ok-both-in-Some.ensures.built.value g)
    ∙ both_one (value_at net g c.in-Some.outer) (value_at net g c.args.test)
    (value_within net g 1 c.in-Some.outer whole given outer) (value_within net g 1 c.args.test whole given c.requires.test)
    ∙ ap (λ b. b && (value_at net g c.args.test == 1))
    (sym (path_some net g c.args.path c.in-Some.outer c.in-Some.is))
