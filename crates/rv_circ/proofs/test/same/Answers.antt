use Rattle.std.proofs.Common.{◌∙◌}
use Rattle.wn_net.specs.Net.{value_at}
use Rattle.wn_net.proofs.Laws.{built_node}
use Rattle.wn_net.proofs.Moved.{value_within}
use Rattle.rv_circ.proofs.TestLemmas.{same_is}
use Rattle.rv_circ.proofs.test.same.Goals as goal

pub returns-clause-shows : goal.returns-clause-shows
returns-clause-shows c =
    let old = c.args.net.now in
    let a = c.args.a in
    let b = c.args.b in
    let known = c.width.ensures.whole in
    let test = c.in_ok-test.ensures.built in
    record {
      node = built_node _ _ _ _ _ _ test;
      value = λ g given.
          test.value g
          ∙ same_is (value_at old g a) (value_at old g b) (value_within old g 1 a known given c.requires.left)
          (value_within old g 1 b known given c.requires.right);
    }
