-- Between functions: Constants that are known, among all that there are. Rule of this project.
use Rattle.std.specs.Prelude.{◌≡◌, ℕ, List, Option, Some}
use Rattle.vl_mean.specs.declared.const_number.Const.{Const}

-- what the first calls a constant is the same constant to the second
abbrev pub AreAmong : (List ℕ → Option Const) → (List ℕ → Option Const) → Type 0
AreAmong known all = (text : List ℕ) (c : Const) → known text ≡ Some c → all text ≡ Some c
