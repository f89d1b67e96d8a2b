-- Bits of a half word that are joined, and the sums that the table writes.
use Rattle.std.specs.Prelude.{◌≡◌, refl, ℕ, ◌+◌, ◌*◌, ◌^◌}
use Rattle.std.proofs.Common.{ap, arith}
use Rattle.fv_bits.specs.Bits.{joined}
use Rattle.rv_table.specs.Fields.{field, sign_extended}
use Rattle.rv_table.specs.Compressed.{near_low, near_high, six, addi4spn_immediate, word_offset, jump_offset}
use Rattle.rv_table.specs.Compressed.{addi16sp_immediate, lui_immediate, branch_offset, lwsp_offset, swsp_offset}

eight : (n : ℕ) → joined 3 1 n ≡ 8 + n
eight n = omega arith

pub near_low_is : (h : ℕ) → joined 3 1 (field 4 2 h) ≡ near_low h
unfolding near_low
near_low_is h = eight (field 4 2 h)

pub near_high_is : (h : ℕ) → joined 3 1 (field 9 7 h) ≡ near_high h
unfolding near_high
near_high_is h = eight (field 9 7 h)

pub six_is : (h : ℕ) → sign_extended 6 (joined 5 (field 12 12 h) (field 6 2 h)) ≡ six h
unfolding six
six_is h = refl

addi4spn_sum : (a b c d : ℕ) → joined 2 (joined 1 (joined 1 (joined 2 a b) c) d) 0
    ≡ a * 2 ^ 6 + b * 2 ^ 4 + c * 2 ^ 3 + d * 2 ^ 2
addi4spn_sum a b c d = omega arith

pub addi4spn_immediate_is : (h : ℕ)
    → joined 2 (joined 1 (joined 1 (joined 2 (field 10 7 h) (field 12 11 h)) (field 5 5 h)) (field 6 6 h)) 0
    ≡ addi4spn_immediate h
unfolding addi4spn_immediate
addi4spn_immediate_is h = addi4spn_sum (field 10 7 h) (field 12 11 h) (field 5 5 h) (field 6 6 h)

word_sum : (a b c : ℕ) → joined 2 (joined 1 (joined 3 a b) c) 0 ≡ a * 2 ^ 6 + b * 2 ^ 3 + c * 2 ^ 2
word_sum a b c = omega arith

pub word_offset_is : (h : ℕ) → joined 2 (joined 1 (joined 3 (field 5 5 h) (field 12 10 h)) (field 6 6 h)) 0
    ≡ word_offset h
unfolding word_offset
word_offset_is h = word_sum (field 5 5 h) (field 12 10 h) (field 6 6 h)

-- the bits of a jump's offset without the 0 below
abbrev jump_bits : ℕ → ℕ → ℕ → ℕ → ℕ → ℕ → ℕ → ℕ → ℕ
jump_bits a b c d e f g i = joined 3 (joined 1 (joined 1 (joined 1 (joined 1 (joined 2 (joined 1 a b) c) d) e) f) g) i

jump_sum : (a b c d e f g i : ℕ) → joined 1 (jump_bits a b c d e f g i) 0
    ≡ (a * 2 ^ 11 + b * 2 ^ 10 + c * 2 ^ 8 + d * 2 ^ 7) + (e * 2 ^ 6 + f * 2 ^ 5 + g * 2 ^ 4 + i * 2 ^ 1)
jump_sum a b c d e f g i = omega arith

pub jump_offset_is : (h : ℕ)
    → sign_extended 12 (joined 1 (jump_bits (field 12 12 h) (field 8 8 h) (field 10 9 h) (field 6 6 h) (field 7 7 h)
    (field 2 2 h) (field 11 11 h) (field 5 3 h)) 0) ≡ jump_offset h
unfolding jump_offset
jump_offset_is h =
    ap (sign_extended 12) (jump_sum (field 12 12 h) (field 8 8 h) (field 10 9 h) (field 6 6 h) (field 7 7 h)
    (field 2 2 h) (field 11 11 h) (field 5 3 h))

addi16sp_sum : (a b c d e : ℕ) → joined 4 (joined 1 (joined 1 (joined 1 (joined 2 a b) c) d) e) 0
    ≡ a * 2 ^ 9 + b * 2 ^ 7 + c * 2 ^ 6 + d * 2 ^ 5 + e * 2 ^ 4
addi16sp_sum a b c d e = omega arith

pub addi16sp_immediate_is : (h : ℕ)
    → sign_extended 10 (joined 4 (joined 1 (joined 1 (joined 1 (joined 2 (field 12 12 h) (field 4 3 h)) (field 5 5 h))
    (field 2 2 h)) (field 6 6 h)) 0) ≡ addi16sp_immediate h
unfolding addi16sp_immediate
addi16sp_immediate_is h =
    ap (sign_extended 10)
    (addi16sp_sum (field 12 12 h) (field 4 3 h) (field 5 5 h) (field 2 2 h) (field 6 6 h))

lui_sum : (a b : ℕ) → joined 12 (joined 5 a b) 0 ≡ a * 2 ^ 17 + b * 2 ^ 12
lui_sum a b = omega arith

pub lui_immediate_is : (h : ℕ) → sign_extended 18 (joined 12 (joined 5 (field 12 12 h) (field 6 2 h)) 0)
    ≡ lui_immediate h
unfolding lui_immediate
lui_immediate_is h = ap (sign_extended 18) (lui_sum (field 12 12 h) (field 6 2 h))

branch_sum : (a b c d e : ℕ) → joined 1 (joined 2 (joined 2 (joined 1 (joined 2 a b) c) d) e) 0
    ≡ a * 2 ^ 8 + b * 2 ^ 6 + c * 2 ^ 5 + d * 2 ^ 3 + e * 2 ^ 1
branch_sum a b c d e = omega arith

pub branch_offset_is : (h : ℕ)
    → sign_extended 9 (joined 1 (joined 2 (joined 2 (joined 1 (joined 2 (field 12 12 h) (field 6 5 h)) (field 2 2 h))
    (field 11 10 h)) (field 4 3 h)) 0) ≡ branch_offset h
unfolding branch_offset
branch_offset_is h =
    ap (sign_extended 9)
    (branch_sum (field 12 12 h) (field 6 5 h) (field 2 2 h) (field 11 10 h) (field 4 3 h))

lwsp_sum : (a b c : ℕ) → joined 2 (joined 3 (joined 1 a b) c) 0 ≡ a * 2 ^ 6 + b * 2 ^ 5 + c * 2 ^ 2
lwsp_sum a b c = omega arith

pub lwsp_offset_is : (h : ℕ) → joined 2 (joined 3 (joined 1 (field 3 2 h) (field 12 12 h)) (field 6 4 h)) 0
    ≡ lwsp_offset h
unfolding lwsp_offset
lwsp_offset_is h = lwsp_sum (field 3 2 h) (field 12 12 h) (field 6 4 h)

swsp_sum : (a b : ℕ) → joined 2 (joined 4 a b) 0 ≡ a * 2 ^ 6 + b * 2 ^ 2
swsp_sum a b = omega arith

pub swsp_offset_is : (h : ℕ) → joined 2 (joined 4 (field 8 7 h) (field 12 9 h)) 0 ≡ swsp_offset h
unfolding swsp_offset
swsp_offset_is h = swsp_sum (field 8 7 h) (field 12 9 h)

pub ruleset halves = (
  near_low_is,
  near_high_is,
  six_is,
  addi4spn_immediate_is,
  word_offset_is,
  jump_offset_is,
  addi16sp_immediate_is,
  lui_immediate_is,
  branch_offset_is,
  lwsp_offset_is,
  swsp_offset_is,
)
