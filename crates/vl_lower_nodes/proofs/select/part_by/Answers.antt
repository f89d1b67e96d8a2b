use Rattle.std.proofs.Common.{◌∙◌, arith}
use Rattle.std.specs.Prelude.{◌≤◌}
use Rattle.wn_net.specs.Net.{width_at, value_at}
use Rattle.wn_net.proofs.Moved.{value_below}
use Rattle.vl_lower_nodes.proofs.PartLemmas.{fixed_is}
use Rattle.vl_lower_nodes.proofs.select.part_by.Goals as goal

pub returns-clause-value : goal.returns-clause-value
returns-clause-value c = λ g p given at.
    let net = c.args.net.now in
    let id = c.args.vector in
    let w = width_at net id in
    let few : w ≤ 128 = omega (arith, c.width-width.ensures.value, c.width-width.ensures.few) in
    c.in_ok-part.ensures.shows.value g given
    ∙ fixed_is c.args.count w (value_at net g id) (value_at net g c.args.place.up) (value_at net g c.args.place.down) p
    (value_below net g c.width-width.ensures.whole given id) few c.requires.few at.upwards at.downwards
