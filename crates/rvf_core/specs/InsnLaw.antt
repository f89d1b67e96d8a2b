-- Meaning: What the checks of instructions mean together: where none of them can fail at a channel, each word of the
-- configuration's instruction set that retires there in their cycle does what the manual's table says. Rule of this
-- project.
use Rattle.std.specs.Prelude.{◌≡◌, ℕ, true, List, Ok}
use Rattle.std.specs.List.{Contains}
use Rattle.rv_table.specs.declared.row.RowId.{RowId}
use Rattle.rv_table.specs.Agree.{agrees}
use Rattle.rv_table.specs.Effect.{effect}
use Rattle.rv_table.specs.Matching.{matches}
use Rattle.vl_size.specs.Size.{Values}
use Rattle.vl_mean.specs.Runs.{IsAssumed, IsRun}
use Rattle.vl_text.specs.SourceText.{Reading}
use Rattle.ck_cfg.specs.declared.check.Check.{Check}
use Rattle.ck_cfg.specs.declared.config.Config.{Config}
use Rattle.ck_cfg.specs.declared.kind.CheckKind.TheVariants as kind
use Rattle.ck_cfg.specs.Checks.{checks_of, isa_rows}
use Rattle.ck_cfg.specs.Reading.{config_of}
use Rattle.ck_design.specs.Retirements.{retire_in, retires_in, values_at}
use Rattle.rvf_case.specs.Loads.{design_of}
use Rattle.rvf_core.specs.Verdicts.{IsReading, Violates, opts_in, text_of}

-- no run violates a check of an instruction at the channel
abbrev pub NoneFails : Config → List (List ℕ) → ℕ → Type 0
NoneFails c files channel =
    (x : Check) → Contains (checks_of c) x → x.kind ≡ kind.Insn → x.channel ≡ channel → (run : List Values)
    → Violates c files x run → ⊥

-- In an assumed run of the design that the text of these checks writes, a word that retires at the channel of one of
-- them, in its cycle, and matches a row of the instruction set, has the effect of the row.
abbrev pub InstructionsAgree : Type 0
InstructionsAgree =
    (bytes : List ℕ) (c : Config) (files : List (List ℕ)) (x : Check) (reading : Reading) (run : List Values)
    (row : RowId) → config_of bytes ≡ Ok c → Contains (checks_of c) x → x.kind ≡ kind.Insn
    → NoneFails c files x.channel → IsReading (text_of c files kind.Insn) reading
    → IsRun (design_of reading.tree.modules) x.cycle run → IsAssumed (design_of reading.tree.modules) run
    → retires_in (values_at run x.cycle) x.channel ≡ true → Contains (isa_rows c.isa) row
    → matches row (retire_in (values_at run x.cycle) x.channel).insn ≡ true
    → agrees (retire_in (values_at run x.cycle) x.channel)
    (effect row (retire_in (values_at run x.cycle) x.channel) (opts_in (text_of c files kind.Insn) reading)) ≡ true
