-- Meaning: What a configuration says, or why it says nothing (documentation of riscv-formal, in this project's
-- profile). The lines are taken in order, each in its section; of several refusals the first line's is answered, and
-- at one line the one with the lowest number.
use Rattle.std.specs.Prelude.{
  ℕ,
  ◌&&◌,
  false,
  if◌then◌else◌,
  List,
  [],
  ◌∷◌,
  ◌++◌,
  Option,
  Some,
  None,
  codes,
  Result,
}
use Rattle.std.specs.Prelude.{Ok, Err}
use Rattle.std.specs.Str.{is_utf8}
use Rattle.fv_lines.specs.Words.{is_nil, words}
use Rattle.ck_cfg.specs.declared.kind.CheckKind.{CheckKind}
use Rattle.ck_cfg.specs.declared.config.Config.{Config}
use Rattle.ck_cfg.specs.declared.config.Piece.{Piece}
use Rattle.ck_cfg.specs.declared.config.KindPiece.{KindPiece}
use Rattle.ck_cfg.specs.declared.section.Section.{Section}
use Rattle.ck_cfg.specs.declared.section.Section.TheVariants.{Options, Depth, Defines, KindDefines, VerilogFiles}
use Rattle.ck_cfg.specs.declared.section.Section.TheVariants.{ScriptSources, Csrs, Sort, Assume}
use Rattle.ck_cfg.specs.declared.fault.CfgFault.{CfgFault}
use Rattle.ck_cfg.specs.declared.fault.CfgFault.TheVariants as fault
use Rattle.ck_cfg.specs.declared.reader.Reader.{Reader}
use Rattle.ck_cfg.specs.Channels.{stated_nret}
use Rattle.fv_text.specs.Results.{and_then}
use Rattle.ck_cfg.specs.Line.{Line, section_begun, counted_lines}
use Rattle.ck_cfg.specs.Section.{section_named}
use Rattle.ck_cfg.specs.Options.{isa, is_among, with_option}
use Rattle.ck_cfg.specs.Depths.{with_depth}
use Rattle.ck_cfg.specs.Scripts.{with_files, with_script}

-- what holds before the first line: the set RV32I, so many channels, and no section
abbrev pub empty_config : ℕ → Config
empty_config channels = record {
  isa = isa false false;
  nret = channels;
  depths = [];
  skips = [];
  defines = [];
  kind_defines = [];
  files = [];
  sort = [];
  assumes = [];
}

-- what is read before the first line
abbrev pub start : ℕ → Reader
start channels = record { section = None; sections = []; keys = []; config = empty_config channels }

-- a line of text
abbrev pub piece : ℕ → List ℕ → Piece
piece line text = record { line = line; text = text }

-- a line of text in a section: an option, a depth, a line for all checks or for those of a kind, names of files, the
-- name of a check that comes first, or an assumption
abbrev pub with_text_in : Section → Reader → ℕ → List ℕ → Result Reader CfgFault
with_text_in Options r line text = with_option r line (words text)
with_text_in Depth r line text = with_depth r line (words text)
with_text_in Defines r line text =
    Ok (record r { config = record r.config { defines = r.config.defines ++ piece line text ∷ [] } })
with_text_in (KindDefines kind) r line text =
    let p : KindPiece = record { kind = kind; piece = piece line text } in
    Ok (record r { config = record r.config { kind_defines = r.config.kind_defines ++ p ∷ [] } })
with_text_in VerilogFiles r line text = Ok (with_files r (text ∷ []))
with_text_in ScriptSources r line text = with_script r line (words text)
with_text_in Csrs r line text = Ok r
with_text_in Sort r line text = Ok (record r { config = record r.config { sort = r.config.sort ++ text ∷ [] } })
with_text_in Assume r line text =
    Ok (record r { config = record r.config { assumes = r.config.assumes ++ piece line text ∷ [] } })

-- a line of text, which stands in this section, or in none
abbrev pub with_text_at : Option Section → Reader → ℕ → List ℕ → Result Reader CfgFault
with_text_at None r line text = Err (fault.Section line [])
with_text_at (Some s) r line text = with_text_in s r line text

-- a line of text: there is a section that it stands in
abbrev pub with_text : Reader → ℕ → List ℕ → Result Reader CfgFault
with_text r line text = with_text_at r.section r line text

-- in this section from here on
abbrev pub in_section : Reader → Section → List ℕ → Reader
in_section r s name = record r { section = Some s; sections = r.sections ++ name ∷ [] }

-- the begin of the section of a name, if there is one: it stands there once
abbrev pub with_section_named : Option Section → Reader → ℕ → List ℕ → Result Reader CfgFault
with_section_named None r line name = Err (fault.Section line name)
with_section_named (Some s) r line name =
    if is_among r.sections name then Err (fault.Twice line name) else Ok (in_section r s name)

-- the begin of a section
abbrev pub with_section : Reader → ℕ → List ℕ → Result Reader CfgFault
with_section r line name = with_section_named (section_named name) r line name

-- a line that begins the section of this name, or none
abbrev pub with_line_begun : Option (List ℕ) → Reader → Line → Result Reader CfgFault
with_line_begun None r l = with_text r l.number l.text
with_line_begun (Some name) r l = with_section r l.number name

-- a line: it begins a section, or stands in one
abbrev pub with_line : Reader → Line → Result Reader CfgFault
with_line r l = with_line_begun (section_begun l.text) r l

-- the lines in order, up to the first that is refused
abbrev pub with_lines : Reader → List Line → Result Reader CfgFault
with_lines r [] = Ok r
with_lines r (l ∷ ls) = and_then (with_line r l) (λ s. with_lines s ls)

-- the lines end: there is a depth line, and a file name
abbrev pub finished : Reader → Result Config CfgFault
finished r = if is_nil r.config.depths && is_nil r.config.skips then Err (fault.Missing (codes "depth"))
    else if is_nil r.config.files then Err (fault.Missing (codes "verilog-files")) else Ok r.config

-- the configuration of lines, or why they have none; their number of channels holds from the first one on
abbrev pub config_of_lines : List Line → Result Config CfgFault
config_of_lines ls = and_then (with_lines (start (stated_nret ls)) ls) finished

-- the configuration of a text, or why it has none
abbrev pub config_of : List ℕ → Result Config CfgFault
config_of bytes = if is_utf8 bytes then config_of_lines (counted_lines bytes) else Err fault.NotUtf8
