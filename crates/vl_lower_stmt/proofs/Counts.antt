-- How many bits the selects of a vector take.
use Rattle.std.specs.Prelude.{◌≡◌, ℕ, ◌*◌, ◌≤◌, Bool, true, false, ◌&&◌, List, Option, Some, None, IsSome, ℤ, pos}
use Rattle.std.specs.Prelude.{if◌then◌else◌}
use Rattle.std.proofs.Common.{ap, sym, ◌∙◌, arith, true≢false, refl}
use Rattle.fv_text.specs.declared.pos.Pos.{Pos}
use Rattle.vl_tree.specs.Expr.{Expr, whole, part, indexed}
use Rattle.vl_size.specs.declared.decl.Decl.{Decl}
use Rattle.vl_size.specs.Sign.{sign}
use Rattle.vl_size.specs.Size.{◌>>=◌, Cells, index_of, is_constant, no_names, operand, operand_of, or_none, part_size}
use Rattle.vl_size.specs.Size.{size, times, value, vector_size}
use Rattle.vl_size.specs.Table.{span}
use Rattle.vl_flow_cells.proofs.Constants.{one_operand}
use Rattle.vl_lower_expr.proofs.Parts.{times_is}
use Rattle.vl_lower_expr.proofs.Sized.{is_or_none, is_range}

module _ (ds : List Decl) where
  -- a constant's value as it stands in a size
  abbrev index_at : Expr → ℕ → ℤ
  index_at e k = index_of (operand (Some k) (sign ds e) (λ m t. value ds no_names m t e))

  index_is : (e : Expr) (k : ℕ) (v : Cells) → size ds e ≡ Some k → is_constant e ≡ true
      → index_at e k ≡ index_of (operand_of ds v e)
  index_is e k v h c =
      ap (λ o. index_of (operand o (sign ds e) (λ m t. value ds no_names m t e))) (sym h)
      ∙ ap index_of (one_operand ds ds no_names v e c)

  range_count : (d : Decl) (l r : ℤ) → IsSome (part_size d l r) → or_none (part_size d l r) ≡ span l r
  range_count d l r h = (is_range d l r (or_none (part_size d l r)) (is_or_none (part_size d l r) h)).bits

  pub part_count : (d : Decl) (p : Pos) (l r : Expr) (v : Cells) → IsSome (vector_size ds d (part p l r whole))
      → or_none (vector_size ds d (part p l r whole))
      ≡ span (index_of (operand_of ds v l)) (index_of (operand_of ds v r))
  part_count d p l r v h = by (size ds l) (size ds r) (is_constant l) (is_constant r) refl refl refl refl h
    where
      by : (o q : Option ℕ) (a b : Bool) → size ds l ≡ o → size ds r ≡ q → is_constant l ≡ a → is_constant r ≡ b
          → IsSome (o >>= λ k. q >>= λ j. if a && b then part_size d (index_at l k) (index_at r j) else None)
          → or_none (o >>= λ k. q >>= λ j. if a && b then part_size d (index_at l k) (index_at r j) else None)
          ≡ span (index_of (operand_of ds v l)) (index_of (operand_of ds v r))
      by None q a b e f c g h = absurd (true≢false (sym h))
      by (Some k) None a b e f c g h = absurd (true≢false (sym h))
      by (Some k) (Some j) false b e f c g h = absurd (true≢false (sym h))
      by (Some k) (Some j) true false e f c g h = absurd (true≢false (sym h))
      by (Some k) (Some j) true true e f c g h =
          range_count d (index_at l k) (index_at r j) h
          ∙ (λ i. span (index_is l k v e c i) (index_is r j v f g i))

  pub indexed_count : (d : Decl) (p : Pos) (s n : Expr) (v : Cells) (count : ℕ)
      → IsSome (vector_size ds d (indexed p s n whole)) → index_of (operand_of ds v n) ≡ pos count → 1 ≤ count
      → count * 1 ≤ 128 → count ≡ or_none (vector_size ds d (indexed p s n whole))
  indexed_count d p s n v count h same some few = by (size ds s) (size ds n) (is_constant n) refl refl h
    where
      by : (o q : Option ℕ) (b : Bool) → size ds n ≡ q → is_constant n ≡ b
          → IsSome (o >>= λ k. q >>= λ j. if b then times (index_at n j) 1 else None)
          → count ≡ or_none (o >>= λ k. q >>= λ j. if b then times (index_at n j) 1 else None)
      by None q b e c h = absurd (true≢false (sym h))
      by (Some k) None b e c h = absurd (true≢false (sym h))
      by (Some k) (Some j) false e c h = absurd (true≢false (sym h))
      by (Some k) (Some j) true e c h =
          let whole : count ≡ count * 1 = omega arith in
          let is = index_is n j v e c ∙ same in
          whole ∙ sym (ap or_none (ap (λ z. times z 1) is ∙ times_is count 1 some few))
