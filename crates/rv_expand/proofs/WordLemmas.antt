-- Words of parts that are joined, and the sums that the table writes.
use Rattle.std.specs.Prelude.{◌≡◌, ℕ, ◌+◌, ◌*◌, ◌^◌}
use Rattle.std.proofs.Common.{arith}
use Rattle.fv_bits.specs.Bits.{joined}
use Rattle.rv_table.specs.Fields.{field}
use Rattle.rv_table.specs.Assembled.{of_parts, of_upper, jump_part}

pub of_parts_is : (opcode low funct3 rs1 middle high : ℕ)
    → joined 15 (joined 5 (joined 5 high middle) rs1) (joined 7 (joined 5 funct3 low) opcode)
    ≡ of_parts opcode low funct3 rs1 middle high
of_parts_is opcode low funct3 rs1 middle high = omega arith

pub of_upper_is : (opcode rd upper : ℕ) → joined 7 (joined 5 upper rd) opcode ≡ of_upper opcode rd upper
of_upper_is opcode rd upper = omega arith

jump_sum : (a b c d : ℕ) → joined 8 (joined 1 (joined 10 a b) c) d ≡ a * 2 ^ 19 + b * 2 ^ 9 + c * 2 ^ 8 + d
jump_sum a b c d = omega arith

pub jump_part_is : (n : ℕ)
    → joined 8 (joined 1 (joined 10 (field 20 20 n) (field 10 1 n)) (field 11 11 n)) (field 19 12 n) ≡ jump_part n
jump_part_is n = jump_sum (field 20 20 n) (field 10 1 n) (field 11 11 n) (field 19 12 n)
