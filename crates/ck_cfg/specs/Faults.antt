-- Meaning: The numbers of the refusals, and how clauses speak of them. Rule of this project.
use Rattle.std.specs.Prelude.{ℕ, ◌≡◌, Result, Ok, Err}
use Rattle.ck_cfg.specs.declared.fault.CfgFault.{CfgFault}
use Rattle.ck_cfg.specs.declared.fault.CfgFault.TheVariants.{Section, Option, Depth, Isa, Missing, Twice, TooDeep}
use Rattle.ck_cfg.specs.declared.fault.CfgFault.TheVariants.{NotUtf8, Nret, Script, Memory}

-- the number of a refusal in print; want of memory has none
abbrev pub number_of : CfgFault → ℕ
number_of (Section line name) = 1
number_of (Option line key) = 2
number_of (Depth line) = 3
number_of (Isa line text) = 4
number_of (Missing section) = 5
number_of (Twice line key) = 6
number_of (TooDeep line) = 7
number_of NotUtf8 = 8
number_of (Nret line) = 9
number_of (Script line) = 10
number_of Memory = 0

-- a fact about a refusal; want of memory says nothing
abbrev pub OrMemory : CfgFault → Type 0 → Type 0
OrMemory (Section line name) P = P
OrMemory (Option line key) P = P
OrMemory (Depth line) P = P
OrMemory (Isa line text) P = P
OrMemory (Missing section) P = P
OrMemory (Twice line key) P = P
OrMemory (TooDeep line) P = P
OrMemory NotUtf8 P = P
OrMemory (Nret line) P = P
OrMemory (Script line) P = P
OrMemory Memory P = Unit {0}

-- the answer is the wanted one
abbrev pub Answers : {X : Type 0} → Result X CfgFault → Result X CfgFault → Type 0
Answers (Ok x) wanted = wanted ≡ Ok x
Answers (Err e) wanted = OrMemory e (wanted ≡ Err e)

-- the value that is left is the wanted one, or the refusal is
abbrev pub Goes : {X : Type 0} → X → Result (Unit {0}) CfgFault → Result X CfgFault → Type 0
Goes now (Ok u) wanted = wanted ≡ Ok now
Goes now (Err e) wanted = OrMemory e (wanted ≡ Err e)
