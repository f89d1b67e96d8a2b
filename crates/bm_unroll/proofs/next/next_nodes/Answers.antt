use Rattle.std.proofs.Common.{ap, ◌∙◌, subst, sym}
use Rattle.std.specs.Prelude.{List, map}
use Rattle.bm_unroll.specs.declared.state.MemoryNodes.{MemoryNodes}
use Rattle.bm_unroll.specs.Memories.{AreMemories, memory_numbers, memory_width}
use Rattle.bm_unroll.proofs.Moving.{regs_there, regs_widths, regs_numbers, table_long}
use Rattle.bm_unroll.proofs.next.next_nodes.Goals as goal

pub next_regs-requires : goal.next_regs-requires
next_regs-requires c = table_long c.args.net.now c.args.frames.now c.args.table.now c.requires.widths

pub returns-clause-there : goal.returns-clause-there
returns-clause-there c =
    let new = c.next_memories.new.frames in
    let P : List MemoryNodes → Type 0 = λ ms. AreMemories new ms in
    record {
      regs =
          regs_there c.args.frames.now new c.args.net.now c.args.table.now c.state_of-next.result.regs
          c.in_ok-mems.ensures.adds c.regs.ensures.whole c.requires.table c.requires.widths
          (c.state_of-next.ensures.regs ∙ c.in_ok-regs.ensures);
      mems = subst P (sym c.state_of-next.ensures.mems) c.in_ok-mems.ensures.there;
    }

pub returns-clause-regs : goal.returns-clause-regs
returns-clause-regs c =
    regs_widths c.args.frames.now c.next_memories.new.frames c.args.net.now c.args.table.now
    c.state_of-next.result.regs c.in_ok-mems.ensures.adds c.regs.ensures.whole c.requires.table c.requires.widths
    (c.state_of-next.ensures.regs ∙ c.in_ok-regs.ensures)

pub returns-clause-mems : goal.returns-clause-mems
returns-clause-mems c =
    ap (map (memory_width c.next_memories.new.frames)) c.state_of-next.ensures.mems ∙ c.in_ok-mems.ensures.shape

pub returns-clause-numbers : goal.returns-clause-numbers
returns-clause-numbers c = λ g given.
    let new = c.next_memories.new.frames in
    λ i. record {
      regs =
          regs_numbers c.args.frames.now new c.args.net.now g c.args.table.now c.state_of-next.result.regs
          c.in_ok-mems.ensures.adds c.regs.ensures.whole c.requires.table c.requires.widths
          (c.state_of-next.ensures.regs ∙ c.in_ok-regs.ensures) i;
      mems =
          (ap (map (memory_numbers new g)) c.state_of-next.ensures.mems ∙ c.in_ok-mems.ensures.numbers g given) i;
    }
