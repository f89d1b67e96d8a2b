use Rattle.std.proofs.Common.{arith, sym, subst}
use Rattle.vl_flow_check.specs.Doubled.{Tells}
use Rattle.vl_flow_check.proofs.Lowest.{memory_named, vector_named}
use Rattle.vl_flow_check.proofs.doubled.doubled_at.Goals as goal

pub span_of-span-requires : goal.span_of-span-requires
span_of-span-requires c = omega (arith, c.requires.within, c.requires.groups.below.names)

pub returns-then-is_memory : goal.returns-then-is_memory
returns-then-is_memory c drivers d vectors names at =
    c.in_ok-lowest.ensures drivers d at
    (names c.args.place d at (memory_named d (sym (c.if-is_memory.ensures d at))))

pub returns : goal.returns
returns c drivers d vectors names at =
    let ds = c.args.decls.now in
    let span = c.span_of-span.ensures ds c.requires.groups in
    c.in_ok-lowest-2.ensures drivers d at
    (subst (λ cell. Tells ds drivers c.args.vectors.now.shares.items c.args.vectors.now.bits cell d) (sym span.first)
    (vectors c.args.place d at (vector_named d (sym (c.if-is_memory.ensures d at)))))
