-- Meaning: The lines of `[options]` (documentation of riscv-formal, in this project's profile).
use Rattle.std.specs.Prelude.{
  ℕ,
  Bool,
  true,
  false,
  if◌then◌else◌,
  List,
  [],
  ◌∷◌,
  ◌++◌,
  Option,
  Some,
  None,
  codes,
}
use Rattle.std.specs.Prelude.{Result, Ok, Err}
use Rattle.std.specs.List.{list_any}
use Rattle.std.specs.Str.{bytes_eq}
use Rattle.rv_table.specs.declared.retire.Isa.{Isa}
use Rattle.ck_cfg.specs.declared.fault.CfgFault.{CfgFault}
use Rattle.ck_cfg.specs.declared.fault.CfgFault.TheVariants as fault
use Rattle.ck_cfg.specs.declared.reader.Reader.{Reader}

-- one of these texts is that text
abbrev pub is_among : List (List ℕ) → List ℕ → Bool
is_among texts text = list_any (λ t. bytes_eq t text) texts

-- RV32I with M, with C
abbrev pub isa : Bool → Bool → Isa
isa m c = record { m = m; c = c }

-- the instruction set of a name
abbrev pub isa_named : List ℕ → Option Isa
isa_named name = if bytes_eq name (codes "rv32i") then Some (isa false false)
    else if bytes_eq name (codes "rv32im") then Some (isa true false)
    else if bytes_eq name (codes "rv32ic") then Some (isa false true)
    else if bytes_eq name (codes "rv32imc") then Some (isa true true) else None

-- the keys that are accepted without effect, with values or without
abbrev pub idle_keys : List (List ℕ)
idle_keys = codes "solver" ∷ codes "append" ∷ codes "abspath" ∷ codes "dumpsmt2" ∷ []

-- one key more
abbrev pub with_key : Reader → List ℕ → Reader
with_key r key = record r { keys = r.keys ++ key ∷ [] }

-- the key, unless it stands there for the second time
abbrev pub once : Reader → ℕ → List ℕ → Result Reader CfgFault
once r line key = if is_among r.keys key then Err (fault.Twice line key) else Ok (with_key r key)

-- with this instruction set
abbrev pub with_isa_of : Isa → Reader → Reader
with_isa_of i r = record r { config = record r.config { isa = i } }

-- the instruction set that a value names, or that it names none
abbrev pub with_isa_named : Reader → ℕ → List ℕ → List ℕ → Option Isa → Result Reader CfgFault
with_isa_named r line key value None = Err (fault.Isa line value)
with_isa_named r line key value (Some i) = once (with_isa_of i r) line key

-- `isa` has one value, the name of an instruction set
abbrev pub with_isa : Reader → ℕ → List ℕ → List (List ℕ) → Result Reader CfgFault
with_isa r line key (value ∷ []) = with_isa_named r line key value (isa_named value)
with_isa r line key values = Err (fault.Option line key)

-- the number of channels of a value
abbrev pub nret_named : List ℕ → Option ℕ
nret_named value = if bytes_eq value (codes "1") then Some 1 else if bytes_eq value (codes "2") then Some 2 else None

-- with the key, where its value is a number of channels
abbrev pub with_nret_named : Reader → ℕ → List ℕ → Option ℕ → Result Reader CfgFault
with_nret_named r line key None = Err (fault.Nret line)
with_nret_named r line key (Some n) = Ok (with_key r key)

-- `nret` has one value, 1 or 2, which holds from the first line on
abbrev pub with_nret : Reader → ℕ → List ℕ → List (List ℕ) → Result Reader CfgFault
with_nret r line key (value ∷ []) =
    if is_among r.keys key then Err (fault.Twice line key) else with_nret_named r line key (nret_named value)
with_nret r line key values = Err (fault.Option line key)

-- a line of the section: its words
abbrev pub with_option : Reader → ℕ → List (List ℕ) → Result Reader CfgFault
with_option r line [] = Err (fault.Option line [])
with_option r line (key ∷ values) = if bytes_eq key (codes "isa") then with_isa r line key values
    else if bytes_eq key (codes "nret") then with_nret r line key values
    else if is_among idle_keys key then once r line key else Err (fault.Option line key)
