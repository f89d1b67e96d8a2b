use Rattle.std.specs.Prelude.{◌==◌, ◌&&◌}
use Rattle.std.proofs.Common.{ap, ◌∙◌}
use Rattle.wn_net.specs.Net.{value_at}
use Rattle.wn_net.proofs.Laws.{built_node, given_on}
use Rattle.wn_net.proofs.Moved.{value_within}
use Rattle.fv_bits.specs.Bits.{complement}
use Rattle.vl_lower_assign.proofs.Tests.{path_on, path_there, turned_one}
use Rattle.vl_lower_assign.proofs.path.path_unless.Goals as goal

pub path_where-requires-clause-path : goal.path_where-requires-clause-path
path_where-requires-clause-path c =
    path_there c.args.net.now c.not.new.self c.args.path c.in_ok-turned.ensures.built.adds c.requires.path

pub path_where-requires-clause-test : goal.path_where-requires-clause-test
path_where-requires-clause-test c =
    let made = built_node _ _ _ _ _ _ c.in_ok-turned.ensures.built in (made.0, made.1 ∙ c.requires.test.1)

pub returns-clause-value : goal.returns-clause-value
returns-clause-value c = λ g given.
    let net = c.args.net.now in
    let mid = c.not.new.self in
    let built = c.in_ok-turned.ensures.built in
    let whole = c.width-width.ensures.whole in
    c.in_ok-other.ensures.value g (given_on net mid g built.adds given)
    ∙ (λ i. path_on net mid g c.args.path built.adds c.requires.path i
    && ((ap (λ n. n == 1) (built.value g ∙ ap (λ w. complement w (value_at net g c.args.test)) c.requires.test.1)
    ∙ turned_one (value_at net g c.args.test) (value_within net g 1 c.args.test whole given c.requires.test)) i))
