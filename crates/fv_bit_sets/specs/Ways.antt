-- Between functions: Which bits of two sets are taken. Rule of this project.
use Rattle.std.specs.Prelude.{◌≡◌, ℕ, List, Bool, ◌&&◌, ◌||◌, not, None}
use Rattle.fv_bit_sets.specs.declared.how.How.{How}
use Rattle.fv_bit_sets.specs.declared.how.How.TheVariants as h
use Rattle.fv_bit_sets.specs.declared.step.Step.{Step}
use Rattle.fv_bit_sets.specs.Cells.{has, AreRising}

abbrev pub way_of : How → Bool → Bool → Bool
way_of h.Either a b = a || b
way_of h.Both a b = a && b
way_of h.FirstAlone a b = a && not b

pub record Joins (how : How) (first second made : List Step) : Type 0 where
  pub rising : AreRising 0 None made
  pub bits : (cell bit : ℕ) → has made cell bit ≡ way_of how (has first cell bit) (has second cell bit)
