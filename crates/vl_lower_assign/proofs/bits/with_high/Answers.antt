use Rattle.std.specs.Prelude.{◌≡◌, ◌+◌, ◌-◌, ◌/◌, ◌^◌}
use Rattle.std.proofs.Common.{sym, ◌∙◌, arith}
use Rattle.fv_bits.specs.Bits.{joined, low}
use Rattle.wn_net.specs.Net.{width_at, value_at}
use Rattle.wn_net.proofs.Laws.{built_node, value_on}
use Rattle.wn_net.proofs.Moved.{value_below}
use Rattle.vl_lower_assign.proofs.Spliced.{nothing_above, highest}
use Rattle.vl_lower_assign.proofs.bits.with_high.Goals as goal

pub returns-then-count-width-clause-shows : goal.returns-then-count-width-clause-shows
returns-then-count-width-clause-shows c =
    let net = c.args.net.now in
    let same : width_at net c.args.back ≡ width_at net c.args.vector =
    sym c.width-count.ensures.value ∙ c.if-count-width.true ∙ c.width-width.ensures.value in
    record {
      node = (c.requires.back, same);
      value = λ g given.
          let x = value_at net g c.args.vector in
          let m = value_at net g c.args.back in
          nothing_above (width_at net c.args.vector) x m
          (value_below net g c.width-width.ensures.whole given c.args.vector)
          ∙ (λ i. joined (sym same i) (x / 2 ^ sym same i) m);
    }

pub returns-clause-shows : goal.returns-clause-shows
returns-clause-shows c =
    let net = c.args.net.now in
    let high = c.in_ok-high.ensures.built in
    let built = c.in_ok-whole.ensures.built in
    let back_is = high.adds.keeps.widths c.args.back c.requires.back in
    let w = width_at net c.args.vector in
    let k = width_at net c.args.back in
    let long : c.width-width.result - c.width-count.result + k ≡ w =
    omega (arith, c.width-width.ensures.value, c.width-count.ensures.value, c.requires.within) in
    record {
      node = ((built_node _ _ _ _ _ _ built).0, built.width ∙ (λ i. high.width i + back_is i) ∙ long);
      value = λ g given.
          let x = value_at net g c.args.vector in
          let fits = value_below net g c.width-width.ensures.whole given c.args.vector in
          built.value g
          ∙ (λ i. joined (back_is i)
          ((high.value g
          ∙ (λ j. low (c.width-width.ensures.value j - c.width-count.ensures.value j) (x / 2 ^
          c.width-count.ensures.value j))
          ∙ highest w k x c.requires.within fits) i) (value_on net _ g c.args.back high.adds c.requires.back i));
    }
