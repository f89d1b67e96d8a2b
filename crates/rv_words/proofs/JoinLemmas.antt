-- Bits that are joined, and the sums that the table writes.
use Rattle.std.specs.Prelude.{◌≡◌, ℕ, ◌+◌, ◌*◌, ◌^◌}
use Rattle.std.proofs.Common.{ap, arith}
use Rattle.fv_bits.specs.Bits.{joined}
use Rattle.rv_table.specs.Fields.{field, sign_extended}
use Rattle.rv_table.specs.Immediates.{b_immediate, u_immediate, j_immediate}
use Rattle.rv_words.specs.Parts.{branch_bits, jump_bits}

branch_sum : (s u m l : ℕ) → joined 1 (joined 4 (joined 6 (joined 1 s u) m) l) 0
    ≡ s * 2 ^ 12 + u * 2 ^ 11 + m * 2 ^ 5 + l * 2 ^ 1
branch_sum s u m l = omega arith

pub b_immediate_is : (w : ℕ) → sign_extended 13 (joined 1 (branch_bits w) 0) ≡ b_immediate w
unfolding b_immediate
b_immediate_is w = ap (sign_extended 13) (branch_sum (field 31 31 w) (field 7 7 w) (field 30 25 w) (field 11 8 w))

jump_sum : (s u m l : ℕ) → joined 1 (joined 10 (joined 1 (joined 8 s u) m) l) 0
    ≡ s * 2 ^ 20 + u * 2 ^ 12 + m * 2 ^ 11 + l * 2 ^ 1
jump_sum s u m l = omega arith

pub j_immediate_is : (w : ℕ) → sign_extended 21 (joined 1 (jump_bits w) 0) ≡ j_immediate w
unfolding j_immediate
j_immediate_is w = ap (sign_extended 21) (jump_sum (field 31 31 w) (field 19 12 w) (field 20 20 w) (field 30 21 w))

upper : (u : ℕ) → joined 12 u 0 ≡ u * 2 ^ 12
upper u = omega arith

pub u_immediate_is : (w : ℕ) → joined 12 (field 31 12 w) 0 ≡ u_immediate w
unfolding u_immediate
u_immediate_is w = upper (field 31 12 w)

pub ruleset immediates = (b_immediate_is, j_immediate_is, u_immediate_is)
