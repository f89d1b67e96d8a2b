-- Meaning: The trace of a run of a design: what each full name has in each cycle (rule of this project).
use Rattle.std.specs.Prelude.{◌≡◌, ℕ, List, [], ◌∷◌, ◌++◌, map, bytes_eq, if◌then◌else◌}
use Rattle.std.specs.List.{IsDistinct}
use Rattle.fv_text.specs.declared.trace.Trace.{Trace}
use Rattle.fv_text.specs.declared.trace.TraceName.{TraceName}
use Rattle.vl_size.specs.declared.decl.Decl.{Decl}
use Rattle.vl_size.specs.Size.{Values}
use Rattle.vl_mean.specs.Cells.{cells}
use Rattle.vl_mean.specs.Parts.{Part, declares}
use Rattle.vl_mean.specs.Scopes.{is_clock_class}
use Rattle.wn_net.specs.declared.names.Names.{Names}
use Rattle.wn_net.specs.Net.{Netlist, IsNet}
use Rattle.wn_net.specs.Names.{AreNamesOf}
use Rattle.wn_run.specs.Runs.{Choices, AreChoicesOf}
use Rattle.vl_lower_spec.specs.Evaluations.{IsLowered, run_of}
use Rattle.tr_replay.specs.Traces.{trace_of}
use Rattle.vcd_dump.specs.Vcd.{IsTrace}

-- the name that is declared, or in place of a memory its words from the left bound on, with the width
abbrev pub shown_by : Decl → List TraceName
shown_by d = map (λ text. record { text = text; width = d.width }) (cells d)

-- all full names in the order of their declarations, the clock left out
abbrev pub shown : List Part → List TraceName
shown [] = []
shown (declares d ∷ ps) = if is_clock_class d.class then shown ps else shown_by d ++ shown ps
shown (p ∷ ps) = shown ps

-- what they have in a cycle
abbrev pub numbers_shown : List Part → Values → List ℕ
numbers_shown ps v = map (λ n. v n.text) (shown ps)

-- and in each cycle of a run
abbrev pub trace_of_run : List Part → List Values → Trace
trace_of_run ps run = record { names = shown ps; cycles = map (numbers_shown ps) run }

-- no two of them have one text
abbrev pub HaveOwnNames : List Part → Type 0
HaveOwnNames ps = IsDistinct (λ (a b : TraceName). bytes_eq a.text b.text) (shown ps)

-- ---- laws

-- the trace of a net's run is that of the design's run with the same choices
abbrev pub TracesAreTheDesigns : Type 0
TracesAreTheDesigns =
    (ps : List Part) (net : Netlist) (names : Names) (ch : Choices) (cycle : ℕ) → IsLowered ps net names
    → IsNet net → HaveOwnNames ps → AreChoicesOf net ch
    → trace_of net names ch cycle ≡ trace_of_run ps (run_of net names ch cycle)

-- and it has a dump
abbrev pub TracesHaveDumps : Type 0
TracesHaveDumps =
    (net : Netlist) (names : Names) (ch : Choices) (cycle : ℕ) → IsNet net → AreNamesOf net names
    → AreChoicesOf net ch → IsTrace (trace_of net names ch cycle)
