-- The full names of a design that isn't refused differ.
use Rattle.std.specs.Prelude.{refl, ℕ, ◌+◌, ◌≤◌, List, [], length}
use Rattle.std.specs.Prelude.{true, All}
use Rattle.std.proofs.Common.{sym, subst, arith}
use Rattle.vl_tree.specs.declared.source.Module.{Module}
use Rattle.vl_tree.specs.WellFormed.{IsModule}
use Rattle.vl_size.specs.Table.{AreDifferent}
use Rattle.vl_mean.specs.Parts.{design}
use Rattle.vl_mean.specs.Walk.{Use, Step, top_input}
use Rattle.vl_mean.specs.Walk.{unfolded}
use Rattle.vl_mean.specs.Walk.{walk}
use Rattle.vl_elab_spec.specs.declared.elab_fault.ElabFault.TheVariants as f
use Rattle.vl_mean.specs.FlatLaw.{nodes}
use Rattle.vl_elab_spec.specs.Refused.{counted}
use Rattle.vl_mean_flat.specs.Flattened.{decls_of}
use Rattle.vl_elab_accepted_laws.specs.Unrefused.{NoStepRefused}
use Rattle.vl_elab_accepted_laws.proofs.Contained.{Different}
use Rattle.vl_elab_accepted_laws.proofs.Declared.{full_names, full-parts, different-decls}
use Rattle.vl_elab_accepted_laws.proofs.Good.{Good, Under, Any}
use Rattle.vl_elab_accepted_laws.proofs.Items.{good-module}
use Rattle.vl_elab_accepted_laws.proofs.Loops.{AreFew, both-clear, weight}
use Rattle.vl_elab_accepted_laws.proofs.NoneRefused.{IsCounted, walk-counted}
use Rattle.vl_elab_accepted_laws.proofs.SoundWalked.{walk_sound}
use Rattle.vl_elab_accepted_laws.proofs.Modules.{good-unfolded}

few-of : (xs : List Step) → 0 + weight xs ≤ 4000000 → AreFew 1 xs
few-of xs h = omega arith

-- ---- the design

pub names_differ : (ms : List Module) (top : List ℕ) → All IsModule ms → NoStepRefused ms top
    → AreDifferent (decls_of (design ms top))
names_differ ms top formed e =
    let counted : IsCounted ms (record { nodes = 0; names = 0 }) (walk ms top) = walk-counted ms top e in
    let u : Use = record { is_top = true; overrides = []; input = top_input } in
    let good : Good (Under [] Any) (full_names (walk ms top))
    = good-module ms (Under [] Any) top (λ m. unfolded (length ms) ms m u [] [] []) formed
    (λ m w h l. good-unfolded ms formed (length ms) m u [] [] [] w refl h l)
    (both-clear ms (walk ms top) counted.fine (walk_sound ms top formed e))
    (few-of (walk ms top) counted.few) in
    different-decls (design ms top) (subst Different (sym (full-parts (walk ms top))) good.different)
