-- Between functions: Operators on bits by their names (rule of this project).
use Rattle.std.specs.Prelude.{Bool, ◌&&◌, ◌||◌}
use Rattle.bb_aig.specs.Bits.{differ}
use Rattle.bb_words.specs.declared.pairs.BitOperator.{BitOperator}
use Rattle.bb_words.specs.declared.pairs.BitOperator.TheVariants.{And, Or, Xor}

abbrev pub of_operator : BitOperator → Bool → Bool → Bool
of_operator And a b = a && b
of_operator Or a b = a || b
of_operator Xor a b = differ a b
