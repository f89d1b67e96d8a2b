-- The context of a parameter's own value.
use Rattle.std.specs.Prelude.{◌≡◌, refl, List, Option, Some, None, is_none, is_some, Bool, true, false, not}
use Rattle.std.specs.Option.{option_copied}
use Rattle.std.proofs.Common.{Bor}
use Rattle.vl_tree.specs.declared.declaration.Range.{Range}
use Rattle.vl_tree.specs.Expr.{Expr}
use Rattle.vl_elab_spec.specs.Items.{given_context, value_context}
use Rattle.vl_elab_spec.specs.Meanings.{Names}

pub same_context : (ns : List Names) (r : Option Range) (e : Expr) → given_context ns ns r e ≡ value_context ns r e
same_context ns None e = refl
same_context ns (Some r) e = refl

pub ruleset contexts = (same_context)

-- a reference that isn't there
pub copied_none : {T : Type 0} (b : Bool) (o : Option (Bor T)) → is_some o ≡ not b → b ≡ is_none (option_copied o)
copied_none true None h = refl
copied_none false None h = cc
copied_none true (Some x) h = cc
copied_none false (Some x) h = refl
