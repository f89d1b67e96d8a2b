use Rattle.std.specs.Prelude.{◌||◌}
use Rattle.std.proofs.Common.{◌∙◌}
use Rattle.wn_net.proofs.Laws.{given_on}
use Rattle.ck_history.proofs.Laws.{told, one_on}
use Rattle.ck_gen.proofs.earlier.or_agrees.Goals as goal

pub returns-clause-tells : goal.returns-clause-tells
returns-clause-tells c =
    let old = c.args.net.now in
    let one = c.first_agrees.new.net in
    let found = c.in_ok-found.ensures in
    let id = c.in_ok-id.ensures in
    record {
      node = id.tells.node;
      value = λ g es given show.
          told one c.either.new.net _ c.in_ok-id.id g id.tells (given_on old one g found.adds given)
          ∙ (λ i. one_on old one g c.args.test found.adds c.requires.test.0 i || found.tells g es given show i);
    }
