-- Meaning: That two lists of parts have the same maps: the same hold, choose, step, begin, are runs and are assumed;
-- and that blocks drive the same bits, and the same have values at first.
-- Rule of this project.
use Rattle.std.specs.Prelude.{◌≡◌, ℕ, List}
use Rattle.vl_size.specs.Size.{Values}
use Rattle.vl_mean.specs.Parts.{Part}
use Rattle.vl_mean.specs.Runs.{Holds, ChoosesAlike, Next, Init, IsRun, IsAssumed, initial_writes, is_driven}

abbrev pub Iff : Type 0 → Type 0 → Type 0
Iff A B = (A → B) × (B → A)

pub record AreSameMaps (ps qs : List Part) : Type 0 where
  pub holds : (v : Values) → Iff (Holds ps v) (Holds qs v)
  pub chosen : (u v : Values) → Iff (ChoosesAlike ps u v) (ChoosesAlike qs u v)
  pub steps : (v u : Values) → Iff (Next ps v u) (Next qs v u)
  pub begins : (v : Values) → Iff (Init ps v) (Init qs v)
  pub runs : (d : ℕ) (run : List Values) → Iff (IsRun ps d run) (IsRun qs d run)
  pub assumed : (run : List Values) → Iff (IsAssumed ps run) (IsAssumed qs run)
  pub driven : (name : List ℕ) (bit : ℕ) → is_driven ps name bit ≡ is_driven qs name bit
  pub writes : initial_writes ps ≡ initial_writes qs
