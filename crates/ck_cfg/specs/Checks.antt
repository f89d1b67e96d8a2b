-- Meaning: The checks of a configuration and their order (documentation of riscv-formal, in this project's profile).
use Rattle.std.specs.Prelude.{
  ℕ,
  Bool,
  not,
  if◌then◌else◌,
  List,
  [],
  ◌∷◌,
  ◌++◌,
  Option,
  Some,
  None,
  option_map,
}
use Rattle.std.specs.Prelude.{option_to_list, map, find, codes, decimal}
use Rattle.std.specs.List.{filter, flat_map, range_with_len}
use Rattle.std.specs.Option.{option_or}
use Rattle.std.specs.Str.{bytes_eq}
use Rattle.rv_table.specs.declared.retire.Isa.{Isa}
use Rattle.rv_table.specs.declared.row.RowId.{RowId}
use Rattle.rv_table.specs.Matching as matching
use Rattle.ck_cfg.specs.declared.kind.CheckKind.{CheckKind}
use Rattle.ck_cfg.specs.declared.kind.CheckKind.TheVariants.{Insn}
use Rattle.ck_cfg.specs.declared.config.Depth.{Depth}
use Rattle.ck_cfg.specs.declared.config.Config.{Config}
use Rattle.ck_cfg.specs.declared.check.Check.{Check}
use Rattle.ck_cfg.specs.Kind.{kind_name, kinds}
use Rattle.ck_cfg.specs.Depths.{is_for}

-- the depth of a kind at a channel: the channel's own line comes before the line without a channel
abbrev pub depth_for : List Depth → CheckKind → ℕ → Option Depth
depth_for depths kind channel = option_or (find (is_for kind (Some channel)) depths) (find (is_for kind None) depths)

-- `_ROW` where there is a row
abbrev pub row_part : Option RowId → List ℕ
row_part None = []
row_part (Some row) = codes "_" ++ matching.name row

-- `insn_ROW_chN`, and `KIND_chN` for the other kinds
abbrev pub check_name : CheckKind → Option RowId → ℕ → List ℕ
check_name kind row channel = kind_name kind ++ row_part row ++ codes "_ch" ++ decimal channel

-- the check of a kind at a channel, with the cycles of this depth
abbrev pub check_at : CheckKind → Option RowId → ℕ → Depth → Check
check_at kind row channel d = record {
  name = check_name kind row channel;
  kind = kind;
  row = row;
  channel = channel;
  start = d.start;
  trig = d.trig;
  cycle = d.cycle;
}

-- the check at a channel, where it has a depth
abbrev pub channel_check : List Depth → CheckKind → Option RowId → ℕ → List Check
channel_check depths kind row channel =
    option_to_list (option_map (check_at kind row channel) (depth_for depths kind channel))

-- the checks at all channels, in their order
abbrev pub channel_checks : Config → CheckKind → Option RowId → List Check
channel_checks c kind row = flat_map (channel_check c.depths kind row) (range_with_len 0 c.nret)

-- the checks of a row, if the instruction set has it
abbrev pub row_checks : Config → RowId → List Check
row_checks c row = if matching.has c.isa row then channel_checks c Insn (Some row) else []

-- the rows of the instruction set, in their order
abbrev pub isa_rows : Isa → List RowId
isa_rows isa = filter (matching.has isa) matching.rows

-- what the checks of a kind are about: the rows for insn, and no row for the others
abbrev pub kind_rows : Isa → CheckKind → List (Option RowId)
kind_rows isa Insn = map (λ row. Some row) (isa_rows isa)
kind_rows isa kind = None ∷ []

-- the checks of a kind
abbrev pub kind_checks : Config → CheckKind → List Check
kind_checks c kind = flat_map (channel_checks c kind) (kind_rows c.isa kind)

-- the kinds in their order, the rows in theirs, the channels inside each
abbrev pub listed_checks : Config → List Check
listed_checks c = flat_map (kind_checks c) kinds

-- the check has this name
abbrev pub is_named : List ℕ → Check → Bool
is_named name c = bytes_eq c.name name

-- the checks that are named come first, in the order of the names; a name that no check has, or that stood before,
-- moves nothing
abbrev pub moved : List (List ℕ) → List Check → List Check
moved [] checks = checks
moved (name ∷ names) checks = filter (is_named name) checks ++ moved names (filter (λ c. not (is_named name c)) checks)

-- the checks of a configuration
abbrev pub checks_of : Config → List Check
checks_of c = moved c.sort (listed_checks c)
