use Rattle.std.specs.Prelude.{◌≡◌, None}
use Rattle.std.proofs.Common.{rules}
use Rattle.wn_net.specs.Net.{value_at, width_at}
use Rattle.wn_mem.proofs.After.{changes_all}
use Rattle.wn_mem.proofs.write.changed_word.Goals as goal

pub returns-in_default-clause-value : goal.returns-in_default-clause-value
returns-in_default-clause-value c = λ g mask number s.
    let none : c.args.shared.kept ≡ None = search rules in
    changes_all c.args.net.now g (width_at c.args.net.now c.args.word) mask number
    (value_at c.args.net.now g c.args.word) c.args.shared.written c.args.shared.kept s none
