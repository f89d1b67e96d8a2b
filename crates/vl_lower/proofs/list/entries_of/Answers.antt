use Rattle.std.specs.Option.{option_copied}
use Rattle.std.proofs.Common.{ap, sym, ◌∙◌, arith}
use Rattle.vl_mean.specs.FlatLaw.{IsKept}
use Rattle.vl_flow_cells.proofs.Lists.{all_at}
use Rattle.vl_lower.specs.Listed.{entries_by}
use Rattle.vl_lower.proofs.Rest.{cells_left, name_more}
use Rattle.vl_lower.proofs.list.entries_of.Goals as goal

pub put_name-requires-clause-there : goal.put_name-requires-clause-there
put_name-requires-clause-there c =
    let at = sym c.get.ensures ∙ ap option_copied c.in-Some.is in
    omega (arith, c.loop-index.invariant.there, cells_left c.args.decls.now c.loop-index.index c.in-Some.decl.now at)

pub cell_count-requires : goal.cell_count-requires
cell_count-requires c =
    all_at IsKept c.args.decls.now c.loop-index.index c.in-Some.decl.now
    (sym c.get.ensures ∙ ap option_copied c.in-Some.is) c.requires.kept

pub loop-index-preserved : goal.loop-index-preserved
loop-index-preserved c =
    let ds = c.args.decls.now in
    let d = c.in-Some.decl.now in
    let at = sym c.get.ensures ∙ ap option_copied c.in-Some.is in
    record {
      rest =
          name_more c.args.firsts.now c.args.cells.now ds c.loop-index.list c.put_name.new.list
          (entries_by c.args.firsts.now ds c.args.cells.now 0 0) c.loop-index.index c.loop-index.first
          c.cell_count.result c.loop-index.memory c.in_ok-memory-in-Some.memory d at c.loop-index.invariant.rest
          c.in_ok-memory-in-Some.ensures.list c.in_ok-memory-in-Some.ensures.next c.cell_count.ensures.value;
      there =
          omega (arith, c.loop-index.invariant.there, cells_left ds c.loop-index.index d at, c.cell_count.ensures.value);
    }
