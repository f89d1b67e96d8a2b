-- Meaning: Induction on the length of a run, of which nothing is said but in which cycles a property holds. Rule of
-- this project.
use Rattle.std.specs.Prelude.{◌≡◌, ℕ, ◌+◌, ◌<◌, ◌≤◌, Bool, true}

-- the property holds in the first k cycles from 1 on, as far as the run goes
abbrev pub HoldsFirst : (ℕ → Bool) → ℕ → ℕ → Type 0
HoldsFirst holds k last = (j : ℕ) → 1 ≤ j → j ≤ k → j ≤ last → holds j ≡ true

-- behind each k cycles from 1 on in which it holds, it holds in the next one
abbrev pub HoldsBehind : (ℕ → Bool) → ℕ → ℕ → Type 0
HoldsBehind holds k last =
    (i : ℕ) → 1 ≤ i → i + k ≤ last → ((j : ℕ) → j < k → holds (i + j) ≡ true) → holds (i + k) ≡ true

-- then it holds in all cycles from 1 on, however long the run is
abbrev pub EachLength : Type 0
EachLength =
    (holds : ℕ → Bool) (k last : ℕ) → HoldsFirst holds k last → HoldsBehind holds k last
    → (j : ℕ) → 1 ≤ j → j ≤ last → holds j ≡ true
