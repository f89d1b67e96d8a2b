-- The table of a net with one more input or register.
use Rattle.std.specs.Prelude.{◌≡◌, ℕ, List, length, Result, Ok, Err, IfOk, OnErr}
use Rattle.std.proofs.Common.{sym, subst, true≢false}
use Rattle.fv_text.specs.declared.memory.Memory.{Memory}
use Rattle.wn_net.specs.declared.node.Node.{Node}
use Rattle.wn_net.specs.declared.node.Node.TheVariants as n
use Rattle.wn_net.specs.declared.parts.Reg.{Reg}
use Rattle.wn_net.specs.declared.parts.Input.{Input}
use Rattle.wn_net.specs.Net.{Netlist}
use Rattle.wn_net.specs.Changes.{BuildsInput, BuildsReg}
use Rattle.wn_opt.specs.declared.table.Table.{Table}
use Rattle.wn_opt.specs.Table.{IsTableOf}
use Rattle.wn_opt.proofs.Tables.{table_same}

pub table_input : (old new : Netlist) (t : Table) (input : Input) (r : Result ℕ Memory) → IsTableOf old.nodes t
    → IfOk r (BuildsInput old new input) → OnErr r (new ≡ old) → IsTableOf new.nodes t
table_input old new t input (Ok id) h built same =
    subst (λ (ns : List Node). IsTableOf ns t) (sym built.nodes)
    (table_same old.nodes t (n.Input (length old.inputs)) h (λ op none. true≢false op))
table_input old new t input (Err e) h built same = subst (λ (m : Netlist). IsTableOf m.nodes t) (sym same) h

pub table_reg : (old new : Netlist) (t : Table) (reg : Reg) (r : Result ℕ Memory) → IsTableOf old.nodes t
    → IfOk r (BuildsReg old new reg) → OnErr r (new ≡ old) → IsTableOf new.nodes t
table_reg old new t reg (Ok id) h built same =
    subst (λ (ns : List Node). IsTableOf ns t) (sym built.nodes)
    (table_same old.nodes t (n.Reg (length old.regs)) h (λ op none. true≢false op))
table_reg old new t reg (Err e) h built same = subst (λ (m : Netlist). IsTableOf m.nodes t) (sym same) h
