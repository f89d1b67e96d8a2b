use Rattle.std.specs.Prelude.{◌≡◌, ◌+◌}
use Rattle.std.proofs.Common.{sym, ◌∙◌, arith}
use Rattle.fv_bits.specs.Bits.{joined, low}
use Rattle.wn_net.specs.Net.{value_at}
use Rattle.wn_net.proofs.Laws.{built_node, value_on}
use Rattle.vl_lower_assign.proofs.Spliced.{alone, lowest}
use Rattle.vl_lower_assign.proofs.bits.with_low.Goals as goal

pub returns-then-count-eq0-clause-shows : goal.returns-then-count-eq0-clause-shows
returns-then-count-eq0-clause-shows c =
    let net = c.args.net.now in
    let none : c.args.count ≡ 0 = c.if-count-eq0.true in
    record {
      node = (c.requires.front, omega (arith, none));
      value = λ g given.
          let x = value_at net g c.args.vector in
          let m = value_at net g c.args.front in
          alone m x ∙ (λ i. joined (sym none i) m (low (sym none i) x));
    }

pub returns-clause-shows : goal.returns-clause-shows
returns-clause-shows c =
    let net = c.args.net.now in
    let low_built = c.in_ok-low.ensures.built in
    let built = c.in_ok-whole.ensures.built in
    let front_is = low_built.adds.keeps.widths c.args.front c.requires.front in
    record {
      node = (
        (built_node _ _ _ _ _ _ built).0,
        built.width ∙ (λ i. front_is i + low_built.width i),
      );
      value = λ g given.
          built.value g
          ∙ (λ i. joined (low_built.width i) (value_on net _ g c.args.front low_built.adds c.requires.front i)
          ((low_built.value g ∙ lowest c.args.count (value_at net g c.args.vector)) i));
    }
