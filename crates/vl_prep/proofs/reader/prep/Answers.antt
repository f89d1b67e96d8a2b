use Rattle.std.proofs.Common.{rules}
use Rattle.vl_prep.specs.Macros.{held}
use Rattle.vl_prep.proofs.Places.{placed_output, placed_at}
use Rattle.vl_prep.proofs.Whole.{groups_of}
use Rattle.vl_prep.proofs.reader.prep.Goals as goal

pub returns-in-Some-clause-placed : goal.returns-in-Some-clause-placed
returns-in-Some-clause-placed c = placed_at (held c.args.macros) c.args.tokens.now c.into_fault.result (search rules)

pub returns-clause-groups : goal.returns-clause-groups
returns-clause-groups c = groups_of (held c.args.macros) c.args.tokens.now
    (record { macros = held c.read_text.new.prepared.macros; output = c.into_vec.result.items }) (search rules)

pub returns-clause-placed : goal.returns-clause-placed
returns-clause-placed c = placed_output (held c.args.macros) c.args.tokens.now
    (record { macros = held c.read_text.new.prepared.macros; output = c.into_vec.result.items }) (search rules)
