-- Meaning: The value-change dump of a trace (IEEE 1364-2005, 18.2), line by line. The order of its parts, the one
-- scope, and the last line are rules of this project.
use Rattle.std.specs.Prelude.{
  ℕ,
  ◌+◌,
  ◌^◌,
  ◌<◌,
  ◌≤◌,
  if◌then◌else◌,
  ◌==◌,
  List,
  [],
  ◌∷◌,
  ◌++◌,
  length,
  flat_map,
}
use Rattle.std.specs.Prelude.{codes, decimal}
use Rattle.std.specs.List.{AllByRecursion}
use Rattle.fv_text.specs.declared.trace.Trace.{Trace}
use Rattle.fv_text.specs.declared.trace.TraceName.{TraceName}
use Rattle.vcd_dump.specs.Digits.{code, binary}

-- one value for each name, each of at most the name's width
abbrev pub AreValues : List TraceName → List ℕ → Type 0
AreValues [] [] = Unit {0}
AreValues [] (v ∷ vs) = ⊥
AreValues (n ∷ ns) [] = ⊥
AreValues (n ∷ ns) (v ∷ vs) = (v < 2 ^ n.width) × AreValues ns vs

-- a name of 1 to 128 bits
abbrev pub IsWide : TraceName → Type 0
IsWide n = (1 ≤ n.width) × (n.width ≤ 128)

-- a trace that has a text: at least one cycle, widths from 1 to 128, and in each cycle one value for each name
pub record IsTrace (t : Trace) : Type 0 where
  pub some : 0 < length t.cycles
  pub wide : AllByRecursion IsWide t.names
  pub values : AllByRecursion (AreValues t.names) t.cycles

-- a line with its LF
abbrev pub with_end : List ℕ → List ℕ
with_end line = line ++ 10 ∷ []

-- the lines, each with its LF
abbrev pub text_of : List (List ℕ) → List ℕ
text_of lines = flat_map with_end lines

-- the line that says a name's width and code
abbrev pub name_line : ℕ → TraceName → List ℕ
name_line index n =
    codes "$var wire " ++ decimal n.width ++ 32 ∷ [] ++ code index ++ 32 ∷ [] ++ n.text ++ codes " $end"

-- a line for each name, the first of which has this index
abbrev pub name_lines : ℕ → List TraceName → List (List ℕ)
name_lines index [] = []
name_lines index (n ∷ ns) = name_line index n ∷ name_lines (index + 1) ns

-- a value: one digit for a width of 1, else `b`, the binary digits and a blank
abbrev pub value_of : ℕ → ℕ → List ℕ
value_of width v = if width == 1 then binary v else codes "b" ++ binary v ++ 32 ∷ []

-- the value of a name, with the name's code behind it
abbrev pub value_line : ℕ → TraceName → ℕ → List ℕ
value_line index n v = value_of n.width v ++ code index

-- the values of all names
abbrev pub value_lines : ℕ → List TraceName → List ℕ → List (List ℕ)
value_lines index [] vs = []
value_lines index (n ∷ ns) [] = []
value_lines index (n ∷ ns) (v ∷ vs) = value_line index n v ∷ value_lines (index + 1) ns vs

-- the value of a name, where it isn't the one before
abbrev pub change_line : ℕ → TraceName → ℕ → ℕ → List (List ℕ)
change_line index n before v = if before == v then [] else value_line index n v ∷ []

-- the values that changed
abbrev pub change_lines : ℕ → List TraceName → List ℕ → List ℕ → List (List ℕ)
change_lines index [] before vs = []
change_lines index (n ∷ ns) [] vs = []
change_lines index (n ∷ ns) (b ∷ bs) [] = []
change_lines index (n ∷ ns) (b ∷ bs) (v ∷ vs) = change_line index n b v ++ change_lines (index + 1) ns bs vs

-- the line of a time
abbrev pub time_line : ℕ → List ℕ
time_line t = codes "#" ++ decimal t

-- the cycles from time t on, with the values before them; the last line is the number of all cycles
abbrev pub later_lines : List TraceName → ℕ → List ℕ → List (List ℕ) → List (List ℕ)
later_lines ns t before [] = time_line t ∷ []
later_lines ns t before (vs ∷ cycles) =
    time_line t ∷ (change_lines 0 ns before vs ++ later_lines ns (t + 1) vs cycles)

-- time 0 with all values
abbrev pub first_lines : List TraceName → List ℕ → List (List ℕ)
first_lines ns vs = codes "#0" ∷ codes "$dumpvars" ∷ (value_lines 0 ns vs ++ codes "$end" ∷ [])

-- all values at time 0, and the changes at later times
abbrev pub cycle_lines : List TraceName → List (List ℕ) → List (List ℕ)
cycle_lines ns [] = []
cycle_lines ns (vs ∷ cycles) = first_lines ns vs ++ later_lines ns 1 vs cycles

-- the one scope with all names
abbrev pub header_lines : List TraceName → List (List ℕ)
header_lines ns =
    codes "$timescale 1 ns $end" ∷ codes "$scope module rvfi_wrapper $end"
    ∷ (name_lines 0 ns ++ codes "$upscope $end" ∷ codes "$enddefinitions $end" ∷ [])

-- all lines
abbrev pub vcd_lines : Trace → List (List ℕ)
vcd_lines t = header_lines t.names ++ cycle_lines t.names t.cycles

-- the text of a trace
abbrev pub vcd_text : Trace → List ℕ
vcd_text t = text_of (vcd_lines t)
