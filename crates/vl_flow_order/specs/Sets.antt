-- Between functions: Which bits several sets have. Rule of this project.
use Rattle.std.specs.Prelude.{◌≡◌, ℕ, List, [], ◌∷◌, Bool, false, ◌&&◌, ◌||◌}
use Rattle.fv_bit_sets.specs.declared.step.Step.{Step}
use Rattle.fv_bit_sets.specs.Cells.{has}
use Rattle.vl_flow_order.specs.declared.crossing.Crossing.{Crossing}

-- one of the sets has the bit
abbrev pub some_has : List (List Step) → ℕ → ℕ → Bool
some_has [] c i = false
some_has (s ∷ ss) c i = has s c i || some_has ss c i

-- one of the first sets and one of the second sets, which stands at another place, have the bit
abbrev pub crosses : List (List Step) → List (List Step) → ℕ → ℕ → Bool
crosses [] ss c i = false
crosses (r ∷ rs) [] c i = false
crosses (r ∷ rs) (s ∷ ss) c i = (has r c i && some_has ss c i) || ((has s c i && some_has rs c i) || crosses rs ss c i)

pub record IsCrossing (firsts seconds : List (List Step)) (x : Crossing) : Type 0 where
  pub first : (c i : ℕ) → has x.first c i ≡ some_has firsts c i
  pub second : (c i : ℕ) → has x.second c i ≡ some_has seconds c i
  pub both : (c i : ℕ) → has x.both c i ≡ crosses firsts seconds c i

-- of two crossings, one behind the other
pub record IsJoined (left right x : Crossing) : Type 0 where
  pub first : (c i : ℕ) → has x.first c i ≡ (has left.first c i || has right.first c i)
  pub second : (c i : ℕ) → has x.second c i ≡ (has left.second c i || has right.second c i)
  pub both : (c i : ℕ) → has x.both c i
      ≡ ((has left.both c i || has right.both c i)
      || ((has left.first c i && has right.second c i) || (has right.first c i && has left.second c i)))
