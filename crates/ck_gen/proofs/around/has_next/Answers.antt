use Rattle.std.specs.Prelude.{not}
use Rattle.std.proofs.Common.{ap, ◌∙◌}
use Rattle.wn_net.proofs.Laws.{given_on}
use Rattle.ck_history.proofs.Laws.{told}
use Rattle.ck_gen.proofs.around.has_next.Goals as goal

pub returns-clause-tells : goal.returns-clause-tells
returns-clause-tells c = λ g es given show.
    let none = c.in_ok-none.ensures in
    told c.first_agrees.new.net c.turned.new.net _ c.in_ok-id.id g c.in_ok-id.ensures.tells
    (given_on c.args.net.now c.first_agrees.new.net g none.adds given)
    ∙ ap not (none.tells g es given show)
