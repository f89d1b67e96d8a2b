use Rattle.std.specs.Prelude.{if◌then◌else◌}
use Rattle.std.proofs.Common.{sym, ◌∙◌}
use Rattle.wn_net.proofs.Laws.{given_on, there_on, value_on}
use Rattle.vl_lower_assign.proofs.Tests.{path_on, path_there}
use Rattle.vl_lower_assign.proofs.write.written_cell.Goals as goal

pub where_taken-requires-clause-path : goal.where_taken-requires-clause-path
where_taken-requires-clause-path c =
    path_there c.args.net.now c.put_at.new.net c.args.path c.in_ok-put.ensures.adds c.requires.path

pub where_taken-requires-clause-other : goal.where_taken-requires-clause-other
where_taken-requires-clause-other c = (
  there_on _ _ c.args.cell c.in_ok-put.ensures.adds c.requires.cell,
  c.in_ok-put.ensures.adds.keeps.widths c.args.cell c.requires.cell ∙ sym c.in_ok-put.ensures.there.1,
)

pub returns-clause-there : goal.returns-clause-there
returns-clause-there c =
    let made = c.in_ok-node.ensures.shows.node in (made.0, made.1 ∙ c.in_ok-put.ensures.there.1)

pub returns-clause-value : goal.returns-clause-value
returns-clause-value c = λ g p given here.
    let net = c.args.net.now in
    let mid = c.put_at.new.net in
    let one = c.in_ok-put.ensures.adds in
    c.in_ok-node.ensures.shows.value g (given_on net mid g one given)
    ∙ (λ i. if path_on net mid g c.args.path one c.requires.path i then c.in_ok-put.ensures.value g p given here i
    else value_on net mid g c.args.cell one c.requires.cell i)
