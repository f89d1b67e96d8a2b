-- Meaning: Why a text is refused as a graph, and the numbers of the refusals in print. Rule of this project.
use Rattle.std.specs.Prelude.{ℕ, ◌≡◌, Result, Ok, Err}
use Rattle.aiger_text.specs.declared.fault.AagFault.{AagFault}
use Rattle.aiger_text.specs.declared.fault.AagFault.TheVariants.{
  Header,
  Kind,
  Literal,
  Twice,
  Open,
  Undefined,
  Loop,
  Memory,
}

-- the number of a refusal in print; want of memory has none
abbrev pub aag_number : AagFault → ℕ
aag_number (Header line) = 1
aag_number (Kind line) = 2
aag_number (Literal line) = 3
aag_number (Twice line) = 4
aag_number (Open line) = 5
aag_number (Undefined line) = 6
aag_number (Loop line) = 7
aag_number Memory = 0

-- a fact about a refusal; want of memory says nothing
abbrev pub OrMemory : AagFault → Type 0 → Type 0
OrMemory (Header line) P = P
OrMemory (Kind line) P = P
OrMemory (Literal line) P = P
OrMemory (Twice line) P = P
OrMemory (Open line) P = P
OrMemory (Undefined line) P = P
OrMemory (Loop line) P = P
OrMemory Memory P = Unit {0}

-- an answer that isn't refused wants memory
abbrev pub OnlyMemory : {X : Type 0} → Result X AagFault → Type 0
OnlyMemory (Ok x) = Unit {0}
OnlyMemory (Err e) = e ≡ Memory
