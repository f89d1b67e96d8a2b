-- Faults that aren't want of memory.
use Rattle.vl_mean.specs.declared.const_fault.ConstFault.{ConstFault}
use Rattle.vl_mean.specs.declared.const_fault.ConstFault.TheVariants as f
use Rattle.vl_mean.specs.ConstantFaults.{UnlessMemory}

pub unless_memory : (g : ConstFault) (P : Type 0) → P → UnlessMemory g P
unless_memory (f.NotConstant p) P h = h
unless_memory (f.ZeroDivisor p) P h = h
unless_memory (f.TooWide p n) P h = h
unless_memory (f.Range p) P h = h
unless_memory f.Memory P h = tt
