-- Selects without a varying index, one after the other.
use Rattle.std.specs.Prelude.{◌≡◌, Bool, true, ◌&&◌, List}
use Rattle.std.proofs.Common.{sym, ◌∙◌}
use Rattle.fv_text.specs.declared.pos.Pos.{Pos}
use Rattle.vl_tree.specs.Expr.{Expr, Selects, bit, indexed}
use Rattle.vl_size.specs.declared.decl.Decl.{Decl}
use Rattle.vl_size.specs.Size.{is_constant}
use Rattle.vl_mean.specs.FlatLaw.{flat_scopes}
use Rattle.vl_mean.specs.Targets.{are_fixed}
use Rattle.vl_flow_spec.proofs.Bools.{and_left, and_right}
use Rattle.vl_flow_spec.proofs.Flat.{fixed, flat_fixed}

pub fixed_bit : (ds : List Decl) (p : Pos) (i : Expr) (rest : Selects) (b : Bool) → b ≡ is_constant i
    → are_fixed (flat_scopes ds) (bit p i rest) ≡ (b && are_fixed (flat_scopes ds) rest)
fixed_bit ds p i rest b e = flat_fixed ds (bit p i rest) ∙ (λ j. sym e j && sym (flat_fixed ds rest) j)

pub fixed_indexed : (ds : List Decl) (p : Pos) (i n : Expr) (rest : Selects) (b : Bool) → b ≡ is_constant i
    → are_fixed (flat_scopes ds) (indexed p i n rest) ≡ (b && are_fixed (flat_scopes ds) rest)
fixed_indexed ds p i n rest b e = flat_fixed ds (indexed p i n rest) ∙ (λ j. sym e j && sym (flat_fixed ds rest) j)

pub ruleset fixed_selects = (fixed_bit, fixed_indexed)

-- the first index is a constant, and the other selects have no varying index
pub bit_fixed : (ds : List Decl) (p : Pos) (i : Expr) (rest : Selects)
    → are_fixed (flat_scopes ds) (bit p i rest) ≡ true
    → (is_constant i ≡ true) × (are_fixed (flat_scopes ds) rest ≡ true)
bit_fixed ds p i rest h =
    let both : (is_constant i && fixed ds rest) ≡ true = sym (flat_fixed ds (bit p i rest)) ∙ h in (
      and_left (is_constant i) (fixed ds rest) both,
      flat_fixed ds rest ∙ and_right (is_constant i) (fixed ds rest) both,
    )

pub indexed_fixed : (ds : List Decl) (p : Pos) (i n : Expr) (rest : Selects)
    → are_fixed (flat_scopes ds) (indexed p i n rest) ≡ true → is_constant i ≡ true
indexed_fixed ds p i n rest h =
    and_left (is_constant i) (fixed ds rest) (sym (flat_fixed ds (indexed p i n rest)) ∙ h)
