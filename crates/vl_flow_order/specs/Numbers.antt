-- Meaning: Drivers under numbers, counted from 0. Rule of this project.
use Rattle.std.specs.Prelude.{◌≡◌, ℕ, ◌<◌, ◌++◌, List, [], ◌∷◌, length, Bool, false, not, take, drop}
use Rattle.std.specs.Prelude.{Option, Some, None, slice_get, if◌then◌else◌}
use Rattle.fv_text.specs.declared.pos.Pos.{Pos}
use Rattle.vl_size.specs.Places.{is_earlier}
use Rattle.vl_mean.specs.declared.driver.Driver.{Driver}
use Rattle.vl_flow_order.specs.declared.footprint.Footprint.{Footprint}

abbrev pub AreNumbers : ℕ → List ℕ → Type 0
AreNumbers count numbers = (k n : ℕ) → slice_get numbers k ≡ Some n → n < count

-- ---- those that aren't clocked

abbrev pub settles : Option Footprint → Bool
settles None = false
settles (Some f) = not f.is_clocked

abbrev pub settled_of : List Footprint → List ℕ → List ℕ
settled_of fs [] = []
settled_of fs (n ∷ numbers) = if settles (slice_get fs n) then n ∷ settled_of fs numbers else settled_of fs numbers

-- ---- what the numbers mean

abbrev pub with_driver : Option Driver → List Driver → List Driver
with_driver None xs = xs
with_driver (Some x) xs = x ∷ xs

abbrev pub numbered : List Driver → List ℕ → List Driver
numbered drivers [] = []
numbered drivers (n ∷ numbers) = with_driver (slice_get drivers n) (numbered drivers numbers)

abbrev pub places : List Driver → List Pos
places [] = []
places (x ∷ xs) = x.pos ∷ places xs

-- ---- the earliest place

-- none of the first numbers is that of a driver with an earlier place than the one of the number at `best`
abbrev pub IsEarliest : List Driver → List ℕ → ℕ → ℕ → Type 0
IsEarliest drivers numbers count best =
    (k n m : ℕ) (x y : Driver) → k < count → slice_get numbers k ≡ Some n → slice_get drivers n ≡ Some x
    → slice_get numbers best ≡ Some m → slice_get drivers m ≡ Some y → is_earlier x.pos y.pos ≡ false

-- the numbers from one with an earliest place on, and then those before it
pub record IsTurned (drivers : List Driver) (numbers turned : List ℕ) : Type 0 where
  pub at : ℕ
  pub within : at < length numbers
  pub earliest : IsEarliest drivers numbers (length numbers) at
  pub parts : turned ≡ drop at numbers ++ take at numbers
