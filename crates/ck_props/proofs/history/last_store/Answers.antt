use Rattle.std.proofs.Common.{◌&&◌, ◌==◌, ◌∙◌, rules, tests}
use Rattle.std.proofs.lemmas.Iterator.Adapters.{YieldsList-from_rev_slice}
use Rattle.std.proofs.lemmas.Iterator.Search.{find_from_yields_List}
use Rattle.rv_table.specs.Agree.{has}
use Rattle.ck_spec.specs.Lists.{is_earlier}
use Rattle.ck_props.proofs.history.last_store.Goals as goal

pub returns : goal.returns
returns c = c.copied.ensures
    ∙ find_from_yields_List (λ r. is_earlier c.args.check.now r && (r.retire.mem_addr == c.args.address && has r.retire.mem_wmask c.args.index)) _ _ c.find.result c.find.ensures.ran
    (YieldsList-from_rev_slice c.args.retires.now (cc)) (λ x b q k. search (rules, tests))
