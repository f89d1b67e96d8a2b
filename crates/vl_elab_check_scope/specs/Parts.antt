-- Between functions: Names that stand twice, over a test of the names before them: what the functions that look for
-- them promise one another. Rule of this project.
use Rattle.std.specs.Prelude.{ℕ, List, [], ◌∷◌, ◌++◌, Bool, ◌||◌, bytes_eq}
use Rattle.fv_text.specs.declared.pos.Pos.{Pos}
use Rattle.vl_elab_spec.specs.declared.elab_fault.ElabFault.{ElabFault}
use Rattle.vl_elab_spec.specs.declared.elab_fault.ElabFault.TheVariants as f
use Rattle.vl_elab_spec.specs.Expressions.{refused_if}

-- with a name more
abbrev pub with_name : (List ℕ → Bool) → List ℕ → List ℕ → Bool
with_name earlier text other = bytes_eq other text || earlier other

abbrev pub with_names : (List ℕ → Bool) → List (List ℕ) → List ℕ → Bool
with_names earlier [] = earlier
with_names earlier (x ∷ xs) = with_names (with_name earlier x) xs

-- each of them behind those before it
abbrev pub twice_by : (List ℕ → Bool) → List (List ℕ × Pos) → List ElabFault
twice_by earlier [] = []
twice_by earlier (n ∷ ns) = refused_if (earlier n.0) (f.Twice n.0 n.1) ++ twice_by (with_name earlier n.0) ns

-- labels, one of which may stand several times in a construct
abbrev pub labels_by : (List ℕ → Bool) → List (List ℕ × Pos) → List ElabFault
labels_by earlier [] = []
labels_by earlier (n ∷ ns) = refused_if (earlier n.0) (f.Twice n.0 n.1) ++ labels_by earlier ns
