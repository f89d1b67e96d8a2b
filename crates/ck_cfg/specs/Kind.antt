-- Meaning: The kinds of checks (documentation of riscv-formal; imem and dmem have this project's form).
use Rattle.std.specs.Prelude.{ℕ, Bool, List, [], ◌∷◌, codes}
use Rattle.std.specs.Str.{bytes_eq}
use Rattle.ck_cfg.specs.declared.kind.CheckKind.{CheckKind}
use Rattle.ck_cfg.specs.declared.kind.CheckKind.TheVariants.{Insn, Ill, Reg, PcFwd, PcBwd, Causal, Unique, Liveness}
use Rattle.ck_cfg.specs.declared.kind.CheckKind.TheVariants.{Imem, Dmem}

-- the name in a configuration and in the names of checks
unfoldable pub kind_name : CheckKind → List ℕ
kind_name Insn = codes "insn"
kind_name Ill = codes "ill"
kind_name Reg = codes "reg"
kind_name PcFwd = codes "pc_fwd"
kind_name PcBwd = codes "pc_bwd"
kind_name Causal = codes "causal"
kind_name Unique = codes "unique"
kind_name Liveness = codes "liveness"
kind_name Imem = codes "imem"
kind_name Dmem = codes "dmem"

-- the order of the list of checks
abbrev pub kinds : List CheckKind
kinds = Insn ∷ Ill ∷ Reg ∷ PcFwd ∷ PcBwd ∷ Causal ∷ Unique ∷ Liveness ∷ Imem ∷ Dmem ∷ []

-- the kinds are the same: they have the same name
abbrev pub is_kind : CheckKind → CheckKind → Bool
is_kind k other = bytes_eq (kind_name k) (kind_name other)
