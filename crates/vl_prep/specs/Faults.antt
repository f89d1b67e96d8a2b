-- Between functions: What the public calls promise. Where clauses speak of a fault. Rule of this project.
use Rattle.vl_prep.specs.declared.fault.PrepFault.{PrepFault}
use Rattle.vl_prep.specs.declared.fault.PrepFault.TheVariants.{UnknownMacro, UnbalancedIf, MacroArgs, MacroDepth}
use Rattle.vl_prep.specs.declared.fault.PrepFault.TheVariants.{Include, TooManyTokens, NoName, Memory}

-- by cases on the fault: want of memory says nothing
abbrev pub OnNotMemory : PrepFault → Type 0 → Type 0
OnNotMemory (UnknownMacro name at) P = P
OnNotMemory (UnbalancedIf at) P = P
OnNotMemory (MacroArgs at) P = P
OnNotMemory (MacroDepth at) P = P
OnNotMemory (Include at) P = P
OnNotMemory (TooManyTokens at) P = P
OnNotMemory (NoName at) P = P
OnNotMemory Memory P = Unit {0}
