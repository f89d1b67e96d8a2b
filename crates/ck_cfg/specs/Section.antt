-- Meaning: The sections of a configuration and their names (documentation of riscv-formal, in this project's profile).
use Rattle.std.specs.Prelude.{ℕ, List, [], ◌∷◌, ◌++◌, Option, map, find, codes}
use Rattle.std.specs.Str.{bytes_eq}
use Rattle.ck_cfg.specs.declared.section.Section.{Section}
use Rattle.ck_cfg.specs.declared.section.Section.TheVariants.{Options, Depth, Defines, KindDefines, VerilogFiles}
use Rattle.ck_cfg.specs.declared.section.Section.TheVariants.{ScriptSources, Csrs, Sort, Assume}
use Rattle.ck_cfg.specs.Kind.{kind_name, kinds}

-- the name between the brackets
unfoldable pub section_name : Section → List ℕ
section_name Options = codes "options"
section_name Depth = codes "depth"
section_name Defines = codes "defines"
section_name (KindDefines kind) = codes "defines " ++ kind_name kind
section_name VerilogFiles = codes "verilog-files"
section_name ScriptSources = codes "script-sources"
section_name Csrs = codes "csrs"
section_name Sort = codes "sort"
section_name Assume = codes "assume"

-- all sections
abbrev pub sections : List Section
sections = Options ∷ Depth ∷ Defines ∷ (map (λ kind. KindDefines kind) kinds
    ++ VerilogFiles ∷ ScriptSources ∷ Csrs ∷ Sort ∷ Assume ∷ [])

-- the section of this name, if there is one
unfoldable pub section_named : List ℕ → Option Section
section_named name = find (λ s. bytes_eq (section_name s) name) sections
