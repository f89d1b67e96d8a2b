use Rattle.std.specs.Prelude.{◌==◌}
use Rattle.std.proofs.Common.{ap, sym, ◌∙◌}
use Rattle.vl_lower_assign.proofs.Tests.{path_node, path_none, path_some}
use Rattle.vl_lower_assign.proofs.path.test_of.Goals as goal

pub returns-in_ok-one-in-None-clause-value : goal.returns-in_ok-one-in-None-clause-value
returns-in_ok-one-in-None-clause-value c = λ g given.
    ap (λ n. n == 1) (c.in_ok-one-in-None.ensures.shows.value g given)
    ∙ sym (path_none c.args.net.now g c.args.path c.in-None.is)

pub returns-in-Some-clause-there : goal.returns-in-Some-clause-there
returns-in-Some-clause-there c = path_node c.args.net.now c.args.path c.in-Some.test c.in-Some.is c.requires

pub returns-in-Some-clause-value : goal.returns-in-Some-clause-value
returns-in-Some-clause-value c = λ g given. sym (path_some c.args.net.now g c.args.path c.in-Some.test c.in-Some.is)
