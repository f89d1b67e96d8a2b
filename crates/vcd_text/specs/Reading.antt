-- Between functions: Which traces can be read back from their dumps, and where a text first departs from all of these
-- dumps. Rule of this project.
use Rattle.std.specs.Prelude.{
  ℕ,
  ◌+◌,
  ◌-◌,
  ◌^◌,
  ◌<◌,
  ◌≤◌,
  ◌≡◌,
  min,
  Bool,
  true,
  not,
  ◌&&◌,
  ◌==◌,
  nat_lt,
  decimal,
}
use Rattle.std.specs.Prelude.{List, ◌++◌, length, take, slice_get, Option, Some, MatchOption}
use Rattle.std.specs.List.{AllByRecursion, list_all}
use Rattle.fv_text.specs.declared.trace.Trace.{Trace}
use Rattle.fv_text.specs.declared.trace.TraceName.{TraceName}
use Rattle.fv_lines.specs.Cuts.{whole_lines}
use Rattle.vcd_text.specs.declared.fault.VcdFault.{VcdFault}
use Rattle.vcd_text.specs.declared.fault.VcdFault.TheVariants.{Line, Memory}
use Rattle.vcd_dump.specs.Digits.{code, binary}
use Rattle.vcd_dump.specs.Vcd.{IsTrace, IsWide, name_line, value_line, vcd_lines, vcd_text}

-- neither a blank nor a control byte
abbrev pub is_plain : ℕ → Bool
is_plain b = nat_lt 32 b && not (b == 127)

abbrev pub IsPlain : TraceName → Type 0
IsPlain n = list_all is_plain n.text ≡ true

-- a trace whose names have no blanks and no control bytes
pub record IsReadable (t : Trace) : Type 0 where
  pub trace : IsTrace t
  pub plain : AllByRecursion IsPlain t.names

-- the dump of some trace that can be read begins with these lines
pub record IsFront (lines : List (List ℕ)) : Type 0 where
  pub whose : Trace
  pub readable : IsReadable whose
  pub rest : List (List ℕ)
  pub same : vcd_lines whose ≡ lines ++ rest

-- the first line that no dump has behind the lines before it; where the text ends too early, or behind its last LF,
-- it is the line behind the last. Lines count from 1, and the count stands still at 2^32 - 1
pub record IsFirstFault (bytes : List ℕ) (line : ℕ) : Type 0 where
  pub before : ℕ
  pub place : line ≡ min (before + 1) (2 ^ 32 - 1)
  pub within : before ≤ length (whole_lines bytes)
  pub leads : IsFront (take before (whole_lines bytes))
  pub stops : before < length (whole_lines bytes) → IsFront (take (before + 1) (whole_lines bytes)) → ⊥

-- the bytes are no dump of a trace that can be read
abbrev pub IsNoDump : List ℕ → Type 0
IsNoDump bytes = (t : Trace) → IsReadable t → vcd_text t ≡ bytes → ⊥

-- the bytes are a dump, and of this trace alone
pub record IsDumpOf (bytes : List ℕ) (t : Trace) : Type 0 where
  pub readable : IsReadable t
  pub same : vcd_text t ≡ bytes
  pub only : (u : Trace) → IsReadable u → vcd_text u ≡ bytes → u ≡ t

-- what a fault says; want of memory says nothing
abbrev pub IsFaultOf : List ℕ → VcdFault → Type 0
IsFaultOf bytes (Line line) = IsNoDump bytes × IsFirstFault bytes line
IsFaultOf bytes Memory = Unit {0}

-- the name has this index
abbrev pub IsAt : List TraceName → ℕ → TraceName → Type 0
IsAt names index name = slice_get names index ≡ Some name

-- the parts of a line that says a value
pub record IsValue (wide : Bool) (digits characters : List ℕ) (index value : ℕ) (name : TraceName) : Type 0 where
  pub form : wide ≡ not (name.width == 1)
  pub digits_are : digits ≡ binary value
  pub code_is : characters ≡ code index
  pub fits : value < 2 ^ name.width

-- the digits of a width from 1 to 128, and of none
abbrev pub IsWidth : List ℕ → ℕ → Type 0
IsWidth digits width = (1 ≤ width) × (width ≤ 128) × (digits ≡ decimal width)

abbrev pub IsNoWidth : List ℕ → Type 0
IsNoWidth digits = (width : ℕ) → 1 ≤ width → width ≤ 128 → digits ≡ decimal width → ⊥

-- the form and the digits of a value of this name, and of none
abbrev pub IsValueFor : Bool → List ℕ → TraceName → ℕ → Type 0
IsValueFor wide digits name value =
    (wide ≡ not (name.width == 1)) × (digits ≡ binary value) × (value < 2 ^ name.width)

abbrev pub IsNoValueFor : Bool → List ℕ → TraceName → Type 0
IsNoValueFor wide digits name =
    (value : ℕ) → wide ≡ not (name.width == 1) → digits ≡ binary value → value < 2 ^ name.width → ⊥

-- the parts of a line are those of this value of the name with this index, and of none
abbrev pub IsIn : List TraceName → Bool → List ℕ → List ℕ → ℕ × ℕ → Type 0
IsIn names wide digits characters found =
    (name : TraceName) × IsAt names found.0 name × IsValue wide digits characters found.0 found.1 name

abbrev pub IsNoneIn : List TraceName → Bool → List ℕ → List ℕ → Type 0
IsNoneIn names wide digits characters =
    (index value : ℕ) (name : TraceName) → IsAt names index name
    → IsValue wide digits characters index value name → ⊥

-- what a search for a value finds in these parts
abbrev pub FindsParts : List TraceName → Bool → List ℕ → List ℕ → Option (ℕ × ℕ) → Type 0
FindsParts names wide digits characters result =
    MatchOption result (IsNoneIn names wide digits characters) (IsIn names wide digits characters)

-- the line of this value of the name with this index, and of none
abbrev pub IsValueLine : List TraceName → List ℕ → ℕ × ℕ → Type 0
IsValueLine names line found =
    (name : TraceName) × IsAt names found.0 name × (found.1 < 2 ^ name.width)
    × (line ≡ value_line found.0 name found.1)

abbrev pub IsNoValueLine : List TraceName → List ℕ → Type 0
IsNoValueLine names line =
    (index value : ℕ) (name : TraceName) → IsAt names index name → value < 2 ^ name.width
    → line ≡ value_line index name value → ⊥

-- what a search for a value finds in this line
abbrev pub FindsValue : List TraceName → List ℕ → Option (ℕ × ℕ) → Type 0
FindsValue names line result = MatchOption result (IsNoValueLine names line) (IsValueLine names line)

-- the line declares a name of this width and text, and none
abbrev pub IsNameLine : ℕ → List ℕ → ℕ × List ℕ → Type 0
IsNameLine index line found =
    (1 ≤ found.0) × (found.0 ≤ 128) × (list_all is_plain found.1 ≡ true)
    × (line ≡ name_line index (record { text = found.1; width = found.0 }))

abbrev pub IsNoNameLine : ℕ → List ℕ → Type 0
IsNoNameLine index line = (name : TraceName) → IsWide name → IsPlain name → line ≡ name_line index name → ⊥

-- what a search for a name finds in this line
abbrev pub FindsName : ℕ → List ℕ → Option (ℕ × List ℕ) → Type 0
FindsName index line result = MatchOption result (IsNoNameLine index line) (IsNameLine index line)
