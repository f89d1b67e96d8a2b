-- Between functions: An order of the drivers of a design without hierarchy: each that isn't a clocked block stands
-- once, behind all that drive what it reads. Rule of this project.
use Rattle.std.specs.Prelude.{◌≡◌, ℕ, ◌<◌, ◌==◌, List, [], ◌∷◌, Bool, true, false, ◌||◌, not}
use Rattle.std.specs.Prelude.{Option, Some, None, slice_get}
use Rattle.vl_size.specs.declared.decl.Decl.{Decl}
use Rattle.vl_mean.specs.declared.driver.Driver.{Driver}
use Rattle.vl_flow_spec.specs.Drivers.{is_clocked}
use Rattle.vl_flow_spec.specs.Refusals.{ReadsFrom}

-- the driver of the number is there, and is no clocked block
abbrev pub is_settled : Option Driver → Bool
is_settled None = false
is_settled (Some x) = not (is_clocked x.what)

abbrev pub has_number : List ℕ → ℕ → Bool
has_number [] i = false
has_number (j ∷ js) i = (i == j) || has_number js i

-- numbers of drivers, counted from 0
pub record IsSequence (ds : List Decl) (drivers : List Driver) (sequence : List ℕ) : Type 0 where
  pub only : (a i : ℕ) → slice_get sequence a ≡ Some i → is_settled (slice_get drivers i) ≡ true
  pub all : (i : ℕ) → is_settled (slice_get drivers i) ≡ true → has_number sequence i ≡ true
  pub once : (a b i : ℕ) → slice_get sequence a ≡ Some i → slice_get sequence b ≡ Some i → a ≡ b
  pub behind : (a b i j : ℕ) (x y : Driver) → slice_get sequence a ≡ Some i → slice_get sequence b ≡ Some j
      → slice_get drivers i ≡ Some x → slice_get drivers j ≡ Some y → ReadsFrom ds x y → b < a
