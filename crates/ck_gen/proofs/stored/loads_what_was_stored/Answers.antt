use Rattle.std.specs.Prelude.{◌||◌}
use Rattle.std.proofs.Common.{◌∙◌}
use Rattle.wn_net.proofs.Laws.{adds_on, adds_regs, given_on, value_on}
use Rattle.ck_history.proofs.Laws.{told, told_on}
use Rattle.ck_history.proofs.Entries.{show_on}
use Rattle.ck_gen.specs.Kept.{all_as_stored}
use Rattle.rvfi_port.proofs.AddedRegs.{retire_on}
use Rattle.ck_gen.proofs.stored.loads_what_was_stored.Goals as goal

pub returns-clause-tells : goal.returns-clause-tells
returns-clause-tells c =
    let old = c.args.net.now in
    let one = c.is_elsewhere.new.net in
    let two = c.all_as_stored.new.net in
    let x = c.args.channel.now in
    let elsewhere = c.in_ok-elsewhere.ensures in
    let stored = c.in_ok-stored.ensures in
    let id = c.in_ok-id.ensures in
    record {
      node = id.tells.node;
      value = λ g es given show.
          told two c.either.new.net _ c.in_ok-id.id g id.tells
          (given_on old two g (adds_on old one two elsewhere.adds stored.adds) given)
          ∙ (λ i. told_on old one two _ c.in_ok-elsewhere.elsewhere g elsewhere.tells stored.adds given i
          || (stored.tells.value g es (given_on old one g elsewhere.adds given)
          (show_on old one 102 g c.args.words.now es elsewhere.adds c.requires.words show)
          ∙ (λ j. all_as_stored (value_on old one g x.valid elsewhere.adds c.requires.channel.valid.0 j)
          (retire_on old one g x (adds_regs old one elsewhere.adds) c.requires.channel j) es)) i);
    }
