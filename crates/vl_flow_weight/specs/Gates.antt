-- Between functions: Gates of an expression by the number of bits that it has from its context: so many, so many for
-- each bit, and so many for the square of the bits. Rule of this project.
use Rattle.std.specs.Prelude.{ℕ, ◌+◌, ◌*◌}
use Rattle.vl_mean.specs.ConstantFaults.{capped}
use Rattle.vl_flow_weight.specs.declared.gates.Gates.{Gates}

-- with n bits, up to 2^64 - 1
abbrev pub gates_at : Gates → ℕ → ℕ
gates_at g n = capped (g.fixed + g.per_bit * n + g.per_square * n * n)
