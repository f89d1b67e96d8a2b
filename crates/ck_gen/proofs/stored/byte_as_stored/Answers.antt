use Rattle.std.specs.Prelude.{◌||◌}
use Rattle.std.proofs.Common.{◌∙◌}
use Rattle.wn_net.proofs.Laws.{given_on}
use Rattle.ck_history.proofs.Laws.{told}
use Rattle.ck_history.proofs.Entries.{entry_on, show_on}
use Rattle.ck_history.specs.Searches.{first_agrees}
use Rattle.ck_gen.specs.Kept.{sought_store}
use Rattle.ck_gen.proofs.stored.byte_as_stored.Goals as goal

pub returns-clause-tells : goal.returns-clause-tells
returns-clause-tells c =
    let old = c.args.net.now in
    let one = c.lacks.new.net in
    let idle = c.in_ok-idle.ensures in
    let id = c.in_ok-id.ensures in
    record {
      node = id.tells.node;
      value = λ g es given show.
          id.tells.value g es (given_on old one g idle.adds given)
          (show_on old one 102 g c.args.words.now es idle.adds c.requires.words show)
          ∙ (λ i. told old one _ c.in_ok-idle.idle g idle.tells given i
          || first_agrees (sought_store c.args.index) (entry_on old one g c.args.own idle.adds c.requires.own i) es);
    }
