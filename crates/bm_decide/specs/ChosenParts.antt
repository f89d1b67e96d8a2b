-- Between functions: What functions promise one another: numbers of which one is put in the place of another.
use Rattle.std.specs.Prelude.{ℕ, ◌==◌, ◌&&◌, if◌then◌else◌}

abbrev pub put_at : (ℕ → ℕ) → ℕ → ℕ → ℕ → ℕ
put_at old index number i = if i == index then number else old i

abbrev pub put_at_both : (ℕ → ℕ → ℕ) → ℕ → ℕ → ℕ → ℕ → ℕ → ℕ
put_at_both old row index number r i = if r == row && i == index then number else old r i
