-- A compressed row has the effect of its expansion.
use Rattle.std.proofs.Common.{◌≡◌, true, ap}
use Rattle.rv_table.specs.declared.retire.Retire.{Retire}
use Rattle.rv_table.specs.declared.retire.Opts.{Opts}
use Rattle.rv_table.specs.declared.row.BaseRow.{BaseRow}
use Rattle.rv_table.specs.declared.row.CompressedRow.{CompressedRow}
use Rattle.rv_table.specs.declared.row.RowId.TheVariants.{Base, Compressed}
use Rattle.rv_table.specs.Compressed.{compressed_row}
use Rattle.rv_table.specs.Matching.{matches}
use Rattle.rv_table.specs.Effect.{expansion, word_effect, effect}
use Rattle.rv_table.proofs.Unique.{unique}
use Rattle.rv_table.proofs.Expansions.{expansion_matches}

same_base : (a b : BaseRow) → Base a ≡ Base b → a ≡ b
same_base a b e = cc

pub does_as_expansion : (row : CompressedRow) (base : BaseRow) (retire : Retire) (opts : Opts)
    → matches (Base base) (expansion row retire.insn) ≡ true
    → effect (Compressed row) retire opts ≡ word_effect base (expansion row retire.insn) 2 retire opts
unfolding effect
does_as_expansion row base retire opts match =
    let same : (compressed_row row).base ≡ base =
    same_base _ _ (unique (Base (compressed_row row).base) (Base base) _ (expansion_matches row retire.insn) match) in
    ap (λ b. word_effect b (expansion row retire.insn) 2 retire opts) same
