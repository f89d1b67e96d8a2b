-- Between functions: A number for each width from 0 to 128. Rule of this project.
use Rattle.std.specs.Prelude.{◌≡◌, ℕ, ◌<◌, ◌≤◌, ◌^◌, List, get_or}

abbrev pub AreFit : List ℕ → Type 0
AreFit ns = (w : ℕ) → w ≤ 128 → get_or ns w 0 < 2 ^ w

-- at each width, the number that the function has there
abbrev pub IsRow : List ℕ → (ℕ → ℕ) → Type 0
IsRow ns f = (w : ℕ) → w ≤ 128 → get_or ns w 0 ≡ f w
