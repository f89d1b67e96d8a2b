-- Meaning: What is to be reached, for a list of checks (rule of this project): for each kind that has a check whether
-- its assumptions can be met, and for each row of an insn check whether a word of it can retire.
use Rattle.std.specs.Prelude.{ℕ, max, if◌then◌else◌, List, [], ◌∷◌, ◌++◌, Option, Some, None, codes, decimal}
use Rattle.std.specs.Prelude.{option_map, option_to_list}
use Rattle.std.specs.List.{flat_map}
use Rattle.rv_table.specs.declared.row.RowId.{RowId}
use Rattle.rv_table.specs.Matching as matching
use Rattle.ck_cfg.specs.declared.kind.CheckKind.{CheckKind}
use Rattle.ck_cfg.specs.declared.kind.CheckKind.TheVariants.{Insn}
use Rattle.ck_cfg.specs.declared.check.Check.{Check}
use Rattle.ck_cfg.specs.Kind.{kind_name, kinds, is_kind}
use Rattle.ck_cover.specs.declared.target.Target.{Target}

-- ---- any_KIND

-- the greater one of a number that may be there and another one
abbrev pub greater_by : Option ℕ → ℕ → ℕ
greater_by None n = n
greater_by (Some m) n = max m n

-- of two that may be there
abbrev pub greater : Option ℕ → Option ℕ → Option ℕ
greater m None = m
greater m (Some n) = Some (greater_by m n)

-- the cycle of a check, where it is of the kind
abbrev pub cycle_for : CheckKind → Check → Option ℕ
cycle_for kind c = if is_kind c.kind kind then Some c.cycle else None

-- the greatest cycle of a check of the kind, if it has one
abbrev pub greatest : CheckKind → List Check → Option ℕ
greatest kind [] = None
greatest kind (c ∷ cs) = greater (cycle_for kind c) (greatest kind cs)

abbrev pub any_name : CheckKind → List ℕ
any_name kind = codes "any_" ++ kind_name kind

-- a run of so many cycles, whatever retires
abbrev pub any_target : CheckKind → ℕ → Target
any_target kind cycle =
    record { name = any_name kind; kind = kind; row = None; channel = 0; cycle = cycle }

-- of a kind, where it has a check
abbrev pub any_of : List Check → CheckKind → List Target
any_of checks kind = option_to_list (option_map (any_target kind) (greatest kind checks))

-- the kinds in their order
abbrev pub any_targets : List Check → List Target
any_targets checks = flat_map (any_of checks) kinds

-- ---- hit_ROW_chN

abbrev pub hit_name : RowId → ℕ → List ℕ
hit_name row channel = codes "hit_" ++ matching.name row ++ codes "_ch" ++ decimal channel

-- a run at whose end a word of the row retires in the check's channel
abbrev pub hit_target : Check → RowId → Target
hit_target c row =
    record { name = hit_name row c.channel; kind = Insn; row = Some row; channel = c.channel; cycle = c.cycle }

-- the row of an insn check
abbrev pub hit_row : Check → Option RowId
hit_row c = if is_kind c.kind Insn then c.row else None

abbrev pub hit_of : Check → List Target
hit_of c = option_to_list (option_map (hit_target c) (hit_row c))

-- the insn checks in their order
abbrev pub hit_targets : List Check → List Target
hit_targets checks = flat_map hit_of checks

-- the targets of a list of checks
abbrev pub targets_of : List Check → List Target
targets_of checks = any_targets checks ++ hit_targets checks
