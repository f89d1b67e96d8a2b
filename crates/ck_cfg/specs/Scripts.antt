-- Meaning: The lines of `[script-sources]`: the lines `read_verilog` of a script of Yosys, in this project's profile.
use Rattle.std.specs.Prelude.{
  ℕ,
  if◌then◌else◌,
  List,
  [],
  ◌∷◌,
  ◌++◌,
  Option,
  Some,
  None,
  codes,
  Result,
  Ok,
  Err,
}
use Rattle.std.specs.List.{list_any}
use Rattle.std.specs.Str.{bytes_eq}
use Rattle.fv_lines.specs.Words.{begins_with}
use Rattle.ck_cfg.specs.declared.fault.CfgFault.{CfgFault}
use Rattle.ck_cfg.specs.declared.fault.CfgFault.TheVariants as fault
use Rattle.ck_cfg.specs.declared.reader.Reader.{Reader}
use Rattle.ck_cfg.specs.Options.{is_among}

-- the options, which have no effect
abbrev pub script_options : List (List ℕ)
script_options = codes "-sv" ∷ codes "-formal" ∷ []

-- the names behind the options: one or more, none of which begins with `-`
abbrev pub names_behind : List (List ℕ) → Option (List (List ℕ))
names_behind [] = None
names_behind (w ∷ ws) = if is_among script_options w then names_behind ws
    else if list_any (begins_with 45) (w ∷ ws) then None else Some (w ∷ ws)

-- the names of the files that the words read
abbrev pub names_read : List (List ℕ) → Option (List (List ℕ))
names_read [] = None
names_read (w ∷ ws) = if bytes_eq w (codes "read_verilog") then names_behind ws else None

-- these file names more
abbrev pub with_files : Reader → List (List ℕ) → Reader
with_files r names = record r { config = record r.config { files = r.config.files ++ names } }

-- the names that a line reads, or that it isn't of its form
abbrev pub with_names : Reader → ℕ → Option (List (List ℕ)) → Result Reader CfgFault
with_names r line None = Err (fault.Script line)
with_names r line (Some names) = Ok (with_files r names)

-- a line of the section: its words
abbrev pub with_script : Reader → ℕ → List (List ℕ) → Result Reader CfgFault
with_script r line ws = with_names r line (names_read ws)
