-- Between functions: Why an instance is refused by itself, by three tests: its module isn't there, its name stands
-- before it, it stands within its own module. IEEE 1364-2005, section 12.1; the order is a rule of this project.
use Rattle.std.specs.Prelude.{ℕ, List, ◌++◌, Bool}
use Rattle.fv_text.specs.declared.pos.Pos.{Pos}
use Rattle.vl_tree.specs.declared.part.Instance.{Instance}
use Rattle.vl_elab_spec.specs.declared.elab_fault.ElabFault.{ElabFault}
use Rattle.vl_elab_spec.specs.declared.elab_fault.ElabFault.TheVariants as f
use Rattle.vl_elab_spec.specs.Expressions.{refused_if}

abbrev pub refused_by : Bool → Bool → Bool → Pos → Instance → List (List ℕ) → List ElabFault
refused_by missing twice within p x path =
    refused_if missing (f.NoModule x.definition) ++ refused_if twice (f.Twice x.name p)
    ++ refused_if within (f.Recursive path)
