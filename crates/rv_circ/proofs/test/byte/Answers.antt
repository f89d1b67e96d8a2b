use Rattle.std.specs.Prelude.{◌≡◌, ◌+◌, ◌-◌, ◌*◌}
use Rattle.std.proofs.Common.{◌∙◌, arith}
use Rattle.rv_circ.proofs.test.byte.Goals as goal

pub returns-clause-shows : goal.returns-clause-shows
returns-clause-shows c =
    let bits = c.in_ok-bits.ensures in
    let eight : 8 * c.args.index + 7 + 1 - 8 * c.args.index ≡ 8 = omega arith in
    record {
      node = (bits.shows.node.0, bits.shows.node.1 ∙ eight);
      value = λ g given. bits.shows.value g given;
    }
