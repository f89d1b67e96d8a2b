use Rattle.std.specs.Prelude.{◌==◌, ◌||◌}
use Rattle.std.proofs.Common.{◌∙◌}
use Rattle.fv_bits.specs.Bits.{bit}
use Rattle.wn_net.proofs.Laws.{adds_on, given_on, value_on}
use Rattle.ck_history.proofs.Laws.{told, told_on}
use Rattle.ck_history.proofs.compare.one_of_two.Goals as goal

pub returns-clause-tells : goal.returns-clause-tells
returns-clause-tells c =
    let old = c.args.net.now in
    let one = c.is_same.new.net in
    let two = c.zext.new.self in
    let three = c.is_same-2.new.net in
    let first = c.in_ok-first.ensures in
    let same = c.in_ok-same.ensures.built in
    let second = c.in_ok-second.ensures in
    let id = c.in_ok-id.ensures in
    let to_two = adds_on old one two first.adds same.adds in
    let to_three = adds_on old two three to_two second.adds in
    let later = adds_on one two three same.adds second.adds in
    record {
      node = id.tells.node;
      value = λ g given.
          id.tells.value g (given_on old three g to_three given)
          ∙ (λ i. bit (told_on old one three _ c.in_ok-first.first g first.tells later given i
          || (told two three _ c.in_ok-second.second g second.tells (given_on old two g to_two given)
          ∙ (λ j. value_on old two g c.args.wide to_two c.requires.wide.0 j
          == (same.value g ∙ value_on old one g c.args.number first.adds c.requires.number.0) j)) i));
    }
