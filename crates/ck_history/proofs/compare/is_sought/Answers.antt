use Rattle.std.specs.Prelude.{◌≡◌, ◌&&◌}
use Rattle.std.proofs.Common.{◌∙◌}
use Rattle.fv_bits.specs.Bits.{bit}
use Rattle.wn_net.proofs.Laws.{adds_on, given_on}
use Rattle.ck_history.specs.Truths.{is_one}
use Rattle.ck_history.proofs.Laws.{told, told_on, one_on}
use Rattle.ck_history.specs.Entries.{entry_at}
use Rattle.ck_history.proofs.Entries.{entry_on}
use Rattle.ck_history.specs.Searches.{key_meets, small_meets}
use Rattle.ck_history.proofs.compare.is_sought.Goals as goal

pub returns-clause-tells : goal.returns-clause-tells
returns-clause-tells c =
    let old = c.args.net.now in
    let one = c.key_meets.new.net in
    let two = c.small_meets.new.net in
    let three = c.both.new.net in
    let key = c.in_ok-key.ensures in
    let small = c.in_ok-small.ensures in
    let numbers = c.in_ok-numbers.ensures in
    let id = c.in_ok-id.ensures in
    let own = c.args.own in
    let other = c.args.other in
    let s = c.args.sought in
    let to_two = adds_on old one two key.adds small.adds in
    let to_three = adds_on old two three to_two numbers.adds in
    record {
      node = id.tells.node;
      value = λ g given.
          let given1 = given_on old one g key.adds given in
          let given2 = given_on old two g to_two given in
          let key_is : is_one two g c.in_ok-key.key
          ≡ key_meets s.key (entry_at old g own).key (entry_at old g other).key =
          told_on old one two _ c.in_ok-key.key g key.tells small.adds given in
          let small_is : is_one two g c.in_ok-small.small ≡ small_meets s.small (entry_at old g own)
          (entry_at old g other) =
          told one two _ c.in_ok-small.small g small.tells given1
          ∙ (λ i. small_meets s.small (entry_on old one g own key.adds c.requires.own i)
          (entry_on old one g other key.adds c.requires.other i)) in
          id.tells.value g (given_on old three g to_three given)
          ∙ (λ i. bit (one_on old three g other.there to_three c.requires.other.there.0 i
          && (told two three _ c.in_ok-numbers.numbers g numbers.tells given2 ∙ (λ j. key_is j && small_is j)) i));
    }
