-- Between functions: Which bits of a vector are among so many bits from a place on. Rule of this project.
use Rattle.std.specs.Prelude.{◌≡◌, ℕ, ◌+◌, ◌-◌, ◌<◌, ◌≤◌, ℤ, pos, ◌+ℤ◌}

-- Of n bits from the place p on, those from `skip` on are the bits from `from` to before `past` of a vector of w bits,
-- and no others are of it.
pub record IsOverlap (n w : ℕ) (p : ℤ) (from past skip : ℕ) : Type 0 where
  pub some : from < past
  pub within : past ≤ w
  pub place : pos from ≡ p +ℤ pos skip
  pub enough : skip + (past - from) ≤ n
  pub each : (j i : ℕ) → j < w → i < n → pos j ≡ p +ℤ pos i → (from ≤ j) × (j < past)
