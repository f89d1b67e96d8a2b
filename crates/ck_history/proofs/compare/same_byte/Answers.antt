use Rattle.std.specs.Prelude.{◌==◌, ◌*◌}
use Rattle.std.proofs.Common.{ap, ◌∙◌}
use Rattle.fv_bits.specs.Bits.{bit, part}
use Rattle.wn_net.proofs.Laws.{adds_on, given_on, value_on, built_node}
use Rattle.ck_history.proofs.compare.same_byte.Goals as goal

pub returns-clause-tells : goal.returns-clause-tells
returns-clause-tells c =
    let old = c.args.net.now in
    let one = c.slice.new.self in
    let two = c.slice-2.new.self in
    let first = c.in_ok-first.ensures.built in
    let second = c.in_ok-second.ensures.built in
    let id = c.in_ok-id.ensures.tells in
    let k = 8 * c.args.index in
    record {
      node = id.node;
      value = λ g given.
          id.value g (given_on old two g (adds_on old one two first.adds second.adds) given)
          ∙ (λ i. bit ((value_on one two g c.in_ok-first.first second.adds (built_node _ _ _ _ _ _ first).0
          ∙ first.value g) i
          == (second.value g ∙ ap (part k 8) (value_on old one g c.args.b first.adds c.requires.right.0)) i));
    }
