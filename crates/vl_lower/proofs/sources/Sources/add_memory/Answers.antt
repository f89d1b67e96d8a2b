use Rattle.std.specs.Prelude.{refl, [], length}
use Rattle.std.specs.List.{AllByRecursion}
use Rattle.std.proofs.Common.{ap, subst, sym, ◌∙◌}
use Rattle.vl_mean.specs.Cells.{cells}
use Rattle.wn_net.specs.declared.parts.Mem.{Mem}
use Rattle.wn_net.specs.Net.{IsInitOf}
use Rattle.vl_lower.specs.Design.{keeping}
use Rattle.vl_lower.proofs.Single.{mem_adds, memory_adds}
use Rattle.vl_lower.proofs.Spots.{starts_fit, starts_many}
use Rattle.vl_lower.proofs.sources.Sources.add_memory.Goals as goal

pub mem-requires-clause-each : goal.mem-requires-clause-each
mem-requires-clause-each c =
    let d = c.args.decl.now in
    ap length c.in_ok-starts.ensures ∙ starts_many (keeping c.args.keeps.now) d.width c.len-first.result (cells d)
    ∙ sym c.cell_count.ensures.value

pub mem-requires-clause-init : goal.mem-requires-clause-init
mem-requires-clause-init c =
    let d = c.args.decl.now in
    subst (AllByRecursion (IsInitOf d.width)) (sym c.in_ok-starts.ensures)
    (starts_fit (keeping c.args.keeps.now) d.width c.len-first.result (cells d))

pub returns : goal.returns
returns c =
    let old = c.args.self.now in
    let d = c.args.decl.now in
    let m : Mem = record { width = d.width; words = c.cell_count.result; init = c.in_ok-starts.starts; writes = [] } in
    memory_adds old _ c.add_words.new.self (keeping c.args.keeps.now) d c.len-first.result c.cell_count.result
    c.args.name c.in_ok-mem.mem c.in_ok-starts.starts c.len-first.ensures c.cell_count.ensures.value
    c.in_ok-starts.ensures c.in_ok-mem.ensures.last
    (mem_adds old _ m c.args.name c.len-first.result refl c.in_ok-mem.ensures.new c.in_ok-mem.ensures.grows refl refl
    refl refl c.in_ok-push.ensures.ok c.in_ok-push-2.ensures.ok)
    c.in_ok-add_words.ensures
