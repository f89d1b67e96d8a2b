-- Meaning: What a text says line by line (AIGER; Biere, 2007, section 2): behind the header the inputs, the output and
-- the gates, and the first line that says none of these. Which line is refused, and why, is a rule of this project.
use Rattle.std.specs.Prelude.{
  ℕ,
  ◌/◌,
  ◌%◌,
  Bool,
  not,
  ◌&&◌,
  nat_eq,
  nat_lt,
  ◌==◌,
  if◌then◌else◌,
  List,
  [],
  ◌∷◌,
}
use Rattle.std.specs.Prelude.{◌++◌, length, map, Option, Some, None, Result, Ok, Err}
use Rattle.std.specs.Option.{ok_or}
use Rattle.std.specs.List.{list_any}
use Rattle.fv_lines.specs.Words.{next_place}
use Rattle.aiger_text.specs.declared.fault.AagFault.{AagFault}
use Rattle.aiger_text.specs.declared.fault.AagFault.TheVariants.{Header, Kind, Literal, Twice, Open}
use Rattle.aiger_text.specs.declared.header.Sizes.{Sizes}
use Rattle.aiger_text.specs.declared.gate.Output.{Output}
use Rattle.aiger_text.specs.declared.gate.Gate.{Gate}
use Rattle.fv_text.specs.Results.{and_then}
use Rattle.aiger_text.specs.Header.{if_some, header_of}
use Rattle.aiger_text.specs.Lines.{lines, words, literal_of}

-- the literals of the inputs, the output, and the gates, in the order of lines
pub record Said : Type 0 where
  pub inputs : List ℕ
  pub output : Output
  pub gates : List Gate

-- the variable of a literal: variable v has the literals 2v and 2v + 1
abbrev pub variable : ℕ → ℕ
variable literal = literal / 2

-- the variables that lines define, in the order of lines
abbrev pub variables : Said → List ℕ
variables said = map variable said.inputs ++ map (λ g. variable g.literal) said.gates

abbrev pub with_gate : Said → Gate → Said
with_gate said g = record { inputs = said.inputs; output = said.output; gates = said.gates ++ g ∷ [] }

-- a literal that a line may define is even and not 0
abbrev pub if_even : ℕ → Option ℕ
if_even l = if (l % 2 == 0) && not (l == 0) then Some l else None

abbrev pub defined_literal : ℕ → List ℕ → Option ℕ
defined_literal most word = if_some (literal_of most word) if_even

-- what a line of a gate says: the literal that it defines, and its two operands
abbrev pub gate_of : ℕ → ℕ → List (List ℕ) → Option Gate
gate_of most line (d ∷ l ∷ r ∷ []) =
    if_some (defined_literal most d) (λ literal. if_some (literal_of most l) (λ left. if_some (literal_of most r)
    (λ right. Some (record { line = line; literal = literal; left = left; right = right }))))
gate_of most line ws = None

-- none of these is the variable of the literal
abbrev pub once : {X : Type 0} → List ℕ → ℕ → ℕ → X → Result X AagFault
once before line literal next = if list_any (nat_eq (variable literal)) before then Err (Twice line) else Ok next

-- a line of an input, behind inputs with these literals
abbrev pub input_line : ℕ → ℕ → List ℕ → List ℕ → Result (List ℕ) AagFault
input_line most line inputs text =
    and_then (ok_or (defined_literal most text) (Literal line))
    (λ l. once (map variable inputs) line l (inputs ++ l ∷ []))

-- the line of the output
abbrev pub output_line : ℕ → ℕ → List ℕ → Result Output AagFault
output_line most line text =
    and_then (ok_or (literal_of most text) (Literal line)) (λ l. Ok (record { line = line; literal = l }))

-- a line of a gate, behind what other lines say
abbrev pub gate_line : ℕ → ℕ → Said → List ℕ → Result Said AagFault
gate_line most line said text =
    and_then (ok_or (gate_of most line (words text)) (Literal line))
    (λ g. once (variables said) line g.literal (with_gate said g))

-- the gates, as many as the header says; lines behind the last one aren't read
abbrev pub read_gates : Sizes → ℕ → Said → List (List ℕ) → Result Said AagFault
read_gates sizes line said [] = if length said.gates == sizes.gates then Ok said else Err (Open line)
read_gates sizes line said (t ∷ ts) =
    if length said.gates == sizes.gates then Ok said
    else and_then (gate_line sizes.most line said t) (λ s. read_gates sizes (next_place line) s ts)

-- the inputs, as many as the header says, and behind them the output
abbrev pub read_inputs : Sizes → ℕ → List ℕ → List (List ℕ) → Result Said AagFault
read_inputs sizes line inputs [] = Err (Open line)
read_inputs sizes line inputs (t ∷ ts) =
    if nat_lt (length inputs) sizes.inputs
    then and_then (input_line sizes.most line inputs t) (λ all. read_inputs sizes (next_place line) all ts)
    else and_then (output_line sizes.most line t)
    (λ o. read_gates sizes (next_place line) (record { inputs = inputs; output = o; gates = [] }) ts)

-- the first line is the header
abbrev pub read_lines : List (List ℕ) → Result Said AagFault
read_lines [] = Err (Header 1)
read_lines (t ∷ ts) =
    and_then (ok_or (header_of t) (Header 1))
    (λ sizes. if sizes.plain then read_inputs sizes 2 [] ts else Err (Kind 1))

-- what a text says, or why it says nothing
abbrev pub said_by : List ℕ → Result Said AagFault
said_by bytes = read_lines (lines bytes)
