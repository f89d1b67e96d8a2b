use Rattle.vl_prep.specs.Macros.{held}
use Rattle.vl_text.specs.SourceText.{Reading}
use Rattle.vl_text.specs.Texts.{lines_seen, texts_seen}
use Rattle.rvf_load.specs.Loads.{Asked}
use Rattle.rvf_load.proofs.Joining.{are_modules, text_answered, tree_answered}
use Rattle.rvf_load.proofs.loading.load.Goals as goal

pub from_tree-requires-clause-formed : goal.from_tree-requires-clause-formed
from_tree-requires-clause-formed c =
    let r : Reading = record { tree = c.in-Ok.tree; macros = held c.in-Ok.macros } in
    are_modules r c.args.core (texts_seen c.args.texts.now) (lines_seen c.args.assumptions.now)
    c.in-Ok.ensures.exactly.is

pub returns-in-Ok : goal.returns-in-Ok
returns-in-Ok c =
    let texts = texts_seen c.args.texts.now in
    let lines = lines_seen c.args.assumptions.now in
    let r : Reading = record { tree = c.in-Ok.tree; macros = held c.in-Ok.macros } in
    let a : Asked = record {
      core = c.args.core;
      texts = texts;
      lines = lines;
      channels = c.args.channels;
      probes = c.args.probes;
      factors = c.args.factors.now;
    } in
    tree_answered a r c.from_tree.result c.in-Ok.ensures.exactly
    (c.from_tree.ensures texts lines c.in-Ok.ensures.exactly)

pub returns-in-Err : goal.returns-in-Err
returns-in-Err c =
    let a : Asked = record {
      core = c.args.core;
      texts = texts_seen c.args.texts.now;
      lines = lines_seen c.args.assumptions.now;
      channels = c.args.channels;
      probes = c.args.probes;
      factors = c.args.factors.now;
    } in
    rw (c.of_text.ensures) (text_answered a c.in-Err.fault c.in-Err.ensures.exactly)
