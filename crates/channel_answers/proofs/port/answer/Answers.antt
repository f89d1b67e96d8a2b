use Rattle.std.specs.Prelude.{List}
use Rattle.std.proofs.Common.{sym, subst}
use Rattle.wn_net.specs.declared.names.NetName.{NetName}
use Rattle.channel_answers.specs.Listed.{AreListed}
use Rattle.channel_answers.proofs.Names.{listed_none}
use Rattle.channel_answers.proofs.port.answer.Goals as goal

pub put_words-requires : goal.put_words-requires
put_words-requires c =
    let P : List NetName → Type 0 = λ xs. AreListed c.new-net.result xs in
    subst P (sym c.new-list.ensures) (listed_none c.new-net.result)
