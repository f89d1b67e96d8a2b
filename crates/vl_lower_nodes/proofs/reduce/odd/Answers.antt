use Rattle.std.specs.Prelude.{◌-◌, bit_xor}
use Rattle.std.proofs.Common.{arith, ◌∙◌}
use Rattle.fv_bits.specs.Bits.{part}
use Rattle.wn_net.specs.Net.{width_at, value_at}
use Rattle.wn_net.proofs.Laws.{adds_on, given_on, value_on}
use Rattle.vl_lower_nodes.proofs.ParityLemmas.{parity_step}
use Rattle.vl_lower_nodes.proofs.reduce.odd.Goals as goal

pub loop-place-preserved : goal.loop-place-preserved
loop-place-preserved c =
    let net = c.args.net.now in
    let id = c.args.a in
    let kept = c.loop-place.invariant in
    let place = c.loop-place.place in
    record {
      below = omega arith;
      adds = adds_on _ _ _ kept.adds c.in_ok-odd-2.ensures.adds;
      shows = record {
        node = c.in_ok-odd-2.ensures.shows.node;
        value = λ g given. c.in_ok-odd-2.ensures.shows.value g (given_on _ _ g kept.adds given)
            ∙ (λ i. bit_xor (part (place - 1) 1 (value_on net c.loop-place.net g id kept.adds c.requires.there i))
            (kept.shows.value g given i))
            ∙ parity_step (width_at net id) (place - 1) place (value_at net g id) (omega arith) kept.below;
      };
    }
