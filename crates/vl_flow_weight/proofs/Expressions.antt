-- What expressions weigh, from what their parts do.
use Rattle.std.specs.Prelude.{◌≡◌, refl, ℕ, ◌+◌, List, Bool, true, false, ◌&&◌, Some}
use Rattle.std.proofs.Common.{ap, ◌∙◌, arith}
use Rattle.fv_text.specs.declared.pos.Pos.{Pos}
use Rattle.fv_text.specs.declared.number.Number.{Number}
use Rattle.vl_tree.specs.declared.expr.Select.{Select}
use Rattle.vl_tree.specs.declared.expr.Select.TheVariants as s
use Rattle.vl_tree.specs.declared.operator.Cast.{Cast}
use Rattle.vl_tree.specs.Expr.{Expr, Exprs, Selects, number, name, paren, concat, repeat, cast, more, whole}
use Rattle.vl_tree.specs.ExprView.{selects, with_select}
use Rattle.vl_size.specs.declared.decl.Decl.{Decl}
use Rattle.vl_size.specs.Size.{are_constant, is_constant, or_none, size}
use Rattle.vl_size.specs.Table.{declared_as}
use Rattle.vl_mean.specs.ConstantFaults.{capped}
use Rattle.vl_flow_spec.specs.Weight.{access_weight, own_size, parts_weight, selects_weight, weight}
use Rattle.vl_flow_weight.specs.declared.weighed.Weighed.{Weighed}
use Rattle.vl_flow_weight.specs.Gates.{gates_at}
use Rattle.vl_flow_weight.specs.Weighing.{IsWeightOf}
use Rattle.vl_flow_weight.proofs.Sums.{two}
use Rattle.vl_flow_weight.proofs.Operands.{own_gates}
use Rattle.vl_flow_weight.specs.declared.expr.Parts.{Parts}
use Rattle.vl_flow_weight.specs.Shares.{ArePartsOf}
use Rattle.vl_flow_weight.proofs.Adding.{Sums, sum_more}

pub and_true : (a : Bool) → a ≡ (a && true)
and_true true = refl
and_true false = refl

-- what reading selects of a name weighs, but for their indices
abbrev pub AccessOf : List Decl → List ℕ → List Select → ℕ → Type 0
AccessOf ds text ss access =
    access ≡ capped (access_weight ds (declared_as ds text) (selects ss))

abbrev pub IndicesOf : List Decl → List Select → ℕ → Type 0
IndicesOf ds ss indices = indices ≡ capped (selects_weight ds (selects ss))

abbrev pub IndexOf : List Decl → Select → ℕ → Type 0
IndexOf ds x index = index ≡ capped (selects_weight ds (with_select x whole))

module _ (ds : List Decl) (p : Pos) (made : Weighed) where
  pub number_weighs : (n : Number) → made.size ≡ Some n.width → made.is_constant ≡ true
      → ((k : ℕ) → gates_at made.gates k ≡ 0) → IsWeightOf ds (number p n) made
  number_weighs n size constant gates = record {
    size = size;
    constant = constant;
    gates = λ k. let free : 0 ≡ capped 0 = omega arith in gates k ∙ free;
  }

  pub name_weighs : (text : List ℕ) (ss : Selects) (access indices sum : ℕ) → made.size ≡ size ds (name p text ss)
      → made.is_constant ≡ false
      → access ≡ capped (access_weight ds (declared_as ds text) ss)
      → indices ≡ capped (selects_weight ds ss) → sum ≡ capped (access + indices)
      → ((k : ℕ) → gates_at made.gates k ≡ sum) → IsWeightOf ds (name p text ss) made
  name_weighs text ss access indices sum size constant is_access is_indices is_sum gates = record {
    size = size;
    constant = constant;
    gates = λ k.
        gates k
        ∙ two (access_weight ds (declared_as ds text) ss) (selects_weight ds ss) access
        indices sum is_access is_indices is_sum;
  }

  pub concat_weighs : (es : Exprs) (parts : Parts) → made.size ≡ size ds (concat p es)
      → made.is_constant ≡ parts.are_constant → ((k : ℕ) → gates_at made.gates k ≡ parts.weight)
      → ArePartsOf ds es parts → IsWeightOf ds (concat p es) made
  concat_weighs es parts size constant gates h = record {
    size = size;
    constant = constant ∙ h.constant_is;
    gates = λ k. gates k ∙ h.weight_is;
  }

  pub repeat_weighs : (n : Expr) (es : Exprs) (count : Weighed) (parts : Parts) → made.size ≡ size ds (repeat p n es)
      → made.is_constant ≡ (count.is_constant && parts.are_constant)
      → ((k : ℕ) → gates_at made.gates k ≡ parts.weight) → IsWeightOf ds n count → ArePartsOf ds es parts
      → IsWeightOf ds (repeat p n es) made
  repeat_weighs n es count parts size constant gates g h = record {
    size = size;
    constant = constant ∙ (λ i. g.constant i && h.constant_is i);
    gates = λ k. gates k ∙ h.weight_is;
  }

  pub cast_weighs : (to : Cast) (x : Expr) (o : Weighed) (own : ℕ) → made.size ≡ o.size
      → made.is_constant ≡ o.is_constant → own ≡ gates_at o.gates (or_none o.size)
      → ((k : ℕ) → gates_at made.gates k ≡ own) → IsWeightOf ds x o → IsWeightOf ds (cast p to x) made
  cast_weighs to x o own size constant is_own gates h = record {
    size = size ∙ h.size;
    constant = constant ∙ h.constant;
    gates = λ k. gates k ∙ own_gates ds x o own h is_own;
  }

  pub paren_weighs : (x : Expr) → IsWeightOf ds x made → IsWeightOf ds (paren p x) made
  paren_weighs x h = record {
    size = h.size;
    constant = h.constant;
    gates = h.gates;
  }

module _ (ds : List Decl) where
  -- ---- one part before the others

  pub part_added : (e : Expr) (es : Exprs) (o : Weighed) (own sum next all : ℕ) → IsWeightOf ds e o
      → own ≡ gates_at o.gates (or_none o.size) → next ≡ capped (sum + own)
      → Sums sum (parts_weight ds (more e es)) all → Sums next (parts_weight ds es) all
  part_added e es o own sum next all h is e' sums =
      sum_more sum (weight ds (own_size ds e) e) own next (parts_weight ds es) all (own_gates ds e o own h is) e' sums

  pub part_constant : (e : Expr) (es : Exprs) (o : Weighed) (before after all : Bool) → IsWeightOf ds e o
      → after ≡ (before && o.is_constant) → (before && are_constant (more e es)) ≡ all
      → (after && are_constant es) ≡ all
  part_constant e es o before after all h is e' =
      ap (λ b. b && are_constant es) (is ∙ ap (λ b. before && b) h.constant)
      ∙ assoc before (is_constant e) (are_constant es) ∙ e'
    where
      assoc : (a b c : Bool) → ((a && b) && c) ≡ (a && (b && c))
      assoc true b c = refl
      assoc false b c = refl

  -- ---- one select before the others

  pub select_first : (x : Select) (rest : Selects)
      → selects_weight ds (with_select x rest) ≡ selects_weight ds (with_select x whole) + selects_weight ds rest
  select_first (s.Bit p i) rest = omega arith
  select_first (s.Part p l r) rest = omega arith
  select_first (s.Indexed p i n) rest = omega arith

  -- an index weighs what it does by itself
  pub index_weighs : (e : Expr) (o : Weighed) (own : ℕ) → IsWeightOf ds e o
      → own ≡ gates_at o.gates (or_none o.size) → own ≡ capped (weight ds (own_size ds e) e + 0)
  index_weighs e o own h is =
      let none : weight ds (own_size ds e) e ≡ weight ds (own_size ds e) e + 0 = omega arith in
      own_gates ds e o own h is ∙ ap capped none
