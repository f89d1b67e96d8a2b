-- The answered refusal of an expression is that of its parts.
use Rattle.std.specs.Prelude.{◌≡◌, refl, ℕ, List, ◌++◌, Bool, true, false, ◌||◌, Option, Some, Result, Ok, Err, IfOk}
use Rattle.std.specs.Prelude.{if◌then◌else◌}
use Rattle.std.proofs.Common.{ap, sym, ◌∙◌}
use Rattle.fv_text.specs.declared.pos.Pos.{Pos}
use Rattle.vl_tree.specs.declared.expr.Select.{Select}
use Rattle.vl_tree.specs.declared.expr.Select.TheVariants as s
use Rattle.vl_tree.specs.Expr.{
  Expr,
  Exprs,
  Selects,
  number,
  name,
  paren,
  unary,
  binary,
  conditional,
  concat,
  repeat,
  cast,
  none,
  more,
  whole,
  bit,
  part,
  indexed,
}
use Rattle.vl_tree.specs.ExprView.{with_select}
use Rattle.vl_size.proofs.Falls.{select_depth}
use Rattle.vl_size.proofs.Rest.{part_depth}
use Rattle.vl_size.specs.Size.{divides}
use Rattle.vl_elab_spec.specs.declared.elab_fault.ElabFault.{ElabFault}
use Rattle.vl_elab_spec.specs.Expressions.{too_wide, name_width, wide_size, no_copies, read_refusals, is_constant_name}
use Rattle.vl_elab_spec.specs.Expressions.{refusals, refused_if, all_refusals, select_refusals}
use Rattle.vl_elab_spec.specs.Meanings.{Meaning, Names, meaning_in}
use Rattle.vl_elab_spec.specs.Refused.{comes_before, lower_of, lowest}
use Rattle.vl_elab_spec.proofs.LowestFirst.{lowest_append}
use Rattle.vl_elab_check_expr.specs.Judged.{fault, faults, selects_fault, select_fault}

-- of two parts
pub lowest_two : (gs hs : List ElabFault) (g h : Option ElabFault) → g ≡ lowest gs → h ≡ lowest hs
    → lower_of g h ≡ lowest (gs ++ hs)
lowest_two gs hs g h d e = (λ i. lower_of (d i) (e i)) ∙ sym (lowest_append gs hs)

pub ruleset lowest_parts = (lowest_two)

if_alike : {A : Type 0} (b : Bool) (x : A) → (if b then x else x) ≡ x
if_alike true x = refl
if_alike false x = refl

-- one refusal, which two tests give
both_alike : (a b : Bool) (g : ElabFault)
    → lower_of (lowest (refused_if a g)) (lowest (refused_if b g)) ≡ lowest (refused_if (a || b) g)
both_alike true true g = ap Some (if_alike (comes_before g g) g)
both_alike true false g = refl
both_alike false true g = refl
both_alike false false g = refl

pub alike_two : (a b : Bool) (g : ElabFault)
    → lowest (refused_if (a || b) g) ≡ lowest (refused_if a g ++ refused_if b g)
alike_two a b g = sym (both_alike a b g) ∙ lowest_two (refused_if a g) (refused_if b g) _ _ refl refl

alike_next : (a b : Bool) (gs : List ElabFault) (g : ElabFault) → lowest (refused_if a g) ≡ lowest gs
    → lowest (refused_if (a || b) g) ≡ lowest (gs ++ refused_if b g)
alike_next a b gs g e = sym (both_alike a b g) ∙ lowest_two gs (refused_if b g) _ _ e refl

pub alike_four : (a b c d : Bool) (g : ElabFault) → lowest (refused_if (a || b || c || d) g)
    ≡ lowest (refused_if a g ++ refused_if b g ++ refused_if c g ++ refused_if d g)
alike_four a b c d g =
    alike_next (a || b || c) d (refused_if a g ++ refused_if b g ++ refused_if c g) g
    (alike_next (a || b) c (refused_if a g ++ refused_if b g) g (alike_two a b g))

pub ruleset alike = (alike_two, alike_four)

pub ok_same : {A E : Type 0} (r : Result A E) (x y : A) → x ≡ y → IfOk r (λ g. g ≡ x)
    → IfOk r (λ g. g ≡ y)
ok_same (Ok g) x y e h = h ∙ e
ok_same (Err f) x y e h = h

module _ (ns : List Names) where
  mutual
    pub same_fault : (fixed : Bool) (e : Expr) → fault ns fixed e ≡ lowest (refusals ns fixed e)
    same_fault fixed (number p n) = refl
    same_fault fixed (name p text ss) =
        let m = meaning_in ns text in
        let inner = select_refusals ns (fixed || is_constant_name ns m) ss in
        let own = read_refusals ns fixed p text m ss in
        lowest_two (inner ++ own) (too_wide p (name_width ns text m ss)) _ _
        (lowest_two inner own _ _ (same_selects_fault (fixed || is_constant_name ns m) ss) refl) refl
    same_fault fixed (paren p x) =
        lowest_two (refusals ns fixed x) (too_wide p (wide_size ns x)) _ _ (same_fault fixed x) refl
    same_fault fixed (unary p op x) =
        lowest_two (refusals ns fixed x) (too_wide p (wide_size ns (unary p op x))) _ _ (same_fault fixed x) refl
    same_fault fixed (binary p op x y) =
        let xs = refusals ns (fixed || divides op) x in
        let ys = refusals ns (fixed || divides op) y in
        lowest_two (xs ++ ys) (too_wide p (wide_size ns (binary p op x y))) _ _
        (lowest_two xs ys _ _ (same_fault (fixed || divides op) x) (same_fault (fixed || divides op) y)) refl
    same_fault fixed (conditional p c x y) =
        let cs = refusals ns fixed c in
        let xs = refusals ns fixed x in
        let ys = refusals ns fixed y in
        lowest_two (cs ++ xs ++ ys) (too_wide p (wide_size ns (conditional p c x y))) _ _
        (lowest_two (cs ++ xs) ys _ _ (lowest_two cs xs _ _ (same_fault fixed c) (same_fault fixed x))
        (same_fault fixed y)) refl
    same_fault fixed (concat p es) =
        lowest_two (all_refusals ns fixed es) (too_wide p (wide_size ns (concat p es))) _ _ (same_faults fixed es) refl
    same_fault fixed (repeat p n es) =
        let nn = refusals ns true n in
        let xs = all_refusals ns fixed es in
        lowest_two (nn ++ xs ++ no_copies ns p n) (too_wide p (wide_size ns (repeat p n es))) _ _
        (lowest_two (nn ++ xs) (no_copies ns p n) _ _ (lowest_two nn xs _ _ (same_fault true n) (same_faults fixed es))
        refl) refl
    same_fault fixed (cast p to x) =
        lowest_two (refusals ns fixed x) (too_wide p (wide_size ns x)) _ _ (same_fault fixed x) refl

    same_faults : (fixed : Bool) (es : Exprs) → faults ns fixed es ≡ lowest (all_refusals ns fixed es)
    same_faults fixed none = refl
    same_faults fixed (more e es) =
        lowest_two (refusals ns fixed e) (all_refusals ns fixed es) _ _ (same_fault fixed e) (same_faults fixed es)

    pub same_selects_fault : (fixed : Bool) (ss : Selects)
        → selects_fault ns fixed ss ≡ lowest (select_refusals ns fixed ss)
    same_selects_fault fixed whole = refl
    same_selects_fault fixed (bit q i ss) =
        lowest_two (refusals ns fixed i) (select_refusals ns fixed ss) _ _ (same_fault fixed i)
        (same_selects_fault fixed ss)
    same_selects_fault fixed (part q l r ss) =
        let ls = refusals ns true l in
        let rs = refusals ns true r in
        lowest_two (ls ++ rs) (select_refusals ns fixed ss) _ _
        (lowest_two ls rs _ _ (same_fault true l) (same_fault true r)) (same_selects_fault fixed ss)
    same_selects_fault fixed (indexed q i n ss) =
        let is = refusals ns fixed i in
        let nn = refusals ns true n in
        lowest_two (is ++ nn) (select_refusals ns fixed ss) _ _
        (lowest_two is nn _ _ (same_fault fixed i) (same_fault true n)) (same_selects_fault fixed ss)

  -- a name that some scope declares
  pub name_is : (fixed b either : Bool) (p : Pos) (text : List ℕ) (ss : Selects) (m : Meaning)
      (inner own both r : Option ElabFault) (w : Option ℕ) → m ≡ meaning_in ns text
      → b ≡ is_constant_name ns m
      → either ≡ (fixed || b) → inner ≡ selects_fault ns either ss
      → own ≡ lowest (read_refusals ns fixed p text m ss)
      → w ≡ name_width ns text m ss → both ≡ lower_of inner own → r ≡ lower_of both (lowest (too_wide p w))
      → r ≡ fault ns fixed (name p text ss)
  name_is fixed b either p text ss m inner own both r w e hb he hi ho hw hg hr =
      hr ∙ (λ i. lower_of (hg i) (lowest (too_wide p (hw i))))
      ∙ (λ i. lower_of (lower_of (hi i) (ho i)) (lowest (too_wide p (name_width ns text m ss))))
      ∙ (λ i. lower_of (lower_of (selects_fault ns (he i) ss) (lowest (read_refusals ns fixed p text m ss)))
      (lowest (too_wide p (name_width ns text m ss))))
      ∙ (λ i. lower_of (lower_of (selects_fault ns (fixed || hb i) ss) (lowest (read_refusals ns fixed p text m ss)))
      (lowest (too_wide p (name_width ns text m ss))))
      ∙ ap (λ m. lower_of (lower_of (selects_fault ns (fixed || is_constant_name ns m) ss)
      (lowest (read_refusals ns fixed p text m ss))) (lowest (too_wide p (name_width ns text m ss)))) e

  -- one select before the others
  pub select_next : (fixed : Bool) (x : Select) (ss : Selects)
      → selects_fault ns fixed (with_select x ss) ≡ lower_of (select_fault ns fixed x) (selects_fault ns fixed ss)
  select_next fixed (s.Bit q i) ss = refl
  select_next fixed (s.Part q l r) ss = refl
  select_next fixed (s.Indexed q i n) ss = refl

pub ruleset judged = (part_depth, select_depth, select_next)
