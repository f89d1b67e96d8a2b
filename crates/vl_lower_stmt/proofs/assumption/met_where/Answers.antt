use Rattle.std.specs.Prelude.{◌==◌, ◌||◌, not}
use Rattle.std.proofs.Common.{ap, sym, ◌∙◌}
use Rattle.fv_bits.specs.Bits.{bit, complement}
use Rattle.wn_net.specs.Net.{value_at}
use Rattle.wn_net.proofs.Laws.{built_node, node_on, value_on}
use Rattle.wn_net.proofs.Moved.{value_within}
use Rattle.vl_lower_assign.proofs.Tests.{path_node, path_none, path_some}
use Rattle.vl_lower_stmt.proofs.Conditions.{met_one, only_met}
use Rattle.vl_lower_stmt.proofs.assumption.met_where.Goals as goal

pub returns-in-None-clause-value : goal.returns-in-None-clause-value
returns-in-None-clause-value c = λ g given.
    let net = c.args.net.now in
    only_met (value_at net g c.args.test) (value_within net g 1 c.args.test c.width-width.ensures.whole given
    c.requires.test)
    ∙ ap (λ b. bit (not b || (value_at net g c.args.test == 1))) (sym (path_none net g c.args.path c.in-None.is))

pub not-requires : goal.not-requires
not-requires c = (path_node c.args.net.now c.args.path c.in-Some.taken c.in-Some.is c.requires.path).0

pub or-requires-clause-right : goal.or-requires-clause-right
or-requires-clause-right c =
    let outer = path_node c.args.net.now c.args.path c.in-Some.taken c.in-Some.is c.requires.path in
    let built = c.in_ok-other-in-Some.ensures.built in
    let test = node_on c.args.net.now c.not.new.self 1 c.args.test built.adds c.requires.test in
    (test.0, test.1 ∙ sym ((built_node _ _ _ _ _ _ built).1 ∙ outer.1))

pub returns-in_ok-met-in-Some-clause-there : goal.returns-in_ok-met-in-Some-clause-there
returns-in_ok-met-in-Some-clause-there c =
    let outer = path_node c.args.net.now c.args.path c.in-Some.taken c.in-Some.is c.requires.path in
    let one = built_node _ _ _ _ _ _ c.in_ok-other-in-Some.ensures.built in
    let two = built_node _ _ _ _ _ _ c.in_ok-met-in-Some.ensures.built in
    (two.0, two.1 ∙ one.1 ∙ outer.1)

pub returns-in_ok-met-in-Some-clause-value : goal.returns-in_ok-met-in-Some-clause-value
returns-in_ok-met-in-Some-clause-value c = λ g given.
    let net = c.args.net.now in
    let mid = c.not.new.self in
    let outer = path_node net c.args.path c.in-Some.taken c.in-Some.is c.requires.path in
    let one = c.in_ok-other-in-Some.ensures.built in
    let two = c.in_ok-met-in-Some.ensures.built in
    let whole = c.width-width.ensures.whole in
    two.value g
    ∙ met_one (value_at net g c.in-Some.taken) (value_at net g c.args.test) (value_at mid g
    c.in_ok-other-in-Some.other)
    (value_at mid g c.args.test) (value_within net g 1 c.in-Some.taken whole given outer)
    (value_within net g 1 c.args.test whole given c.requires.test)
    (one.value g ∙ ap (λ w. complement w (value_at net g c.in-Some.taken)) outer.1)
    (value_on net mid g c.args.test one.adds c.requires.test.0)
    ∙ ap (λ b. bit (not b || (value_at net g c.args.test == 1)))
    (sym (path_some net g c.args.path c.in-Some.taken c.in-Some.is))
