-- What operations weigh, from what is known of their operands.
use Rattle.std.specs.Prelude.{◌≡◌, ℕ, ◌+◌, ◌*◌, max, List, Bool, true, false, ◌&&◌, Option, Some}
use Rattle.std.proofs.Common.{ap, sym, ◌∙◌, arith}
use Rattle.fv_text.specs.declared.pos.Pos.{Pos}
use Rattle.vl_tree.specs.declared.operator.BinaryOperator.{BinaryOperator}
use Rattle.vl_tree.specs.declared.operator.UnaryOperator.{UnaryOperator}
use Rattle.vl_tree.specs.Expr.{Expr, unary, binary, conditional}
use Rattle.vl_size.specs.declared.decl.Decl.{Decl}
use Rattle.vl_size.specs.declared.way.Way.TheVariants as w
use Rattle.vl_size.specs.Divisors.{is_logical}
use Rattle.vl_size.specs.Size.{◌>>=◌, is_constant, or_none, size, unary_size, operation_size as size_of_operation}
use Rattle.vl_size.specs.Way.{way, keeps_size}
use Rattle.vl_mean.specs.ConstantFaults.{capped}
use Rattle.vl_flow_spec.specs.Weight.{operation_weight, unary_weight, own_size, weight}
use Rattle.vl_flow_weight.specs.declared.gates.Gates.{Gates}
use Rattle.vl_flow_weight.specs.declared.weighed.Weighed.{Weighed}
use Rattle.vl_flow_weight.specs.Gates.{gates_at}
use Rattle.vl_flow_weight.specs.Weighing.{IsWeightOf}
use Rattle.vl_flow_weight.proofs.Sums.{three, two}
use Rattle.vl_flow_weight.proofs.Ways.{by_choice, by_compared, by_larger, by_left, by_logical, by_unary, of_constant}
use Rattle.vl_flow_weight.proofs.Ways.{of_constant_choice, of_constants}

free : (t : ℕ) → t ≡ 0 → 0 ≡ capped t
free t e = let none : 0 ≡ capped 0 = omega arith in none ∙ ap capped (sym e)

pub own_bits : (ds : List Decl) (x : Expr) (o : Weighed) (bits : ℕ) → IsWeightOf ds x o → bits ≡ or_none o.size
    → bits ≡ own_size ds x
own_bits ds x o bits h e = e ∙ ap or_none h.size

-- with as many bits as it has by itself
pub own_gates : (ds : List Decl) (x : Expr) (o : Weighed) (g : ℕ) → IsWeightOf ds x o
    → g ≡ gates_at o.gates (or_none o.size) → g ≡ capped (weight ds (own_size ds x) x)
own_gates ds x o g h e = e ∙ h.gates (or_none o.size) ∙ ap (λ k. capped (weight ds k x)) (ap or_none h.size)

module _ (ds : List Decl) (p : Pos) where
  -- ---- one operand

  module _ (op : UnaryOperator) (x : Expr) (o : Weighed) (h : IsWeightOf ds x o) where
    module _ (u all : Gates) (is_u : (n : ℕ) → gates_at u n ≡ capped (unary_weight op n))
        (is_all : (n : ℕ) → gates_at all n ≡ capped (gates_at u n + gates_at o.gates n)) where
      unary_sum : (n : ℕ) → gates_at all n ≡ capped (unary_weight op n + weight ds n x)
      unary_sum n =
          two (unary_weight op n) (weight ds n x) (gates_at u n) (gates_at o.gates n) (gates_at all n) (is_u n)
          (h.gates n) (is_all n)

      pub unary_kept : keeps_size op ≡ true → is_constant x ≡ false → (n : ℕ)
          → gates_at all n ≡ capped (weight ds n (unary p op x))
      unary_kept keeps varies n = unary_sum n ∙ ap capped (sym (by_unary ds p op x n true keeps varies))

      pub unary_reduced : keeps_size op ≡ false → is_constant x ≡ false → (made : Gates) (bits at : ℕ)
          → bits ≡ or_none o.size → at ≡ gates_at all bits → ((n : ℕ) → gates_at made n ≡ at) → (n : ℕ)
          → gates_at made n ≡ capped (weight ds n (unary p op x))
      unary_reduced keeps varies made bits at is_bits is_at is n =
          is n ∙ is_at ∙ unary_sum bits
          ∙ ap (λ k. capped (unary_weight op k + weight ds k x)) (own_bits ds x o bits h is_bits)
          ∙ ap capped (sym (by_unary ds p op x n false keeps varies))

    pub unary_is : (s : Option ℕ) (g : Gates) → s ≡ (o.size >>= λ m. Some (unary_size op m)) → o.is_constant ≡ false
        → (is_constant x ≡ false → (n : ℕ) → gates_at g n ≡ capped (weight ds n (unary p op x)))
        → IsWeightOf ds (unary p op x) (record { size = s; is_constant = false; gates = g })
    unary_is s g e varies is = record {
      size = e ∙ ap (λ t. t >>= λ m. Some (unary_size op m)) h.size;
      constant = sym varies ∙ h.constant;
      gates = is (sym h.constant ∙ varies);
    }

    pub unary_constant : (s : Option ℕ) (g : Gates) → s ≡ (o.size >>= λ m. Some (unary_size op m))
        → o.is_constant ≡ true → ((n : ℕ) → gates_at g n ≡ 0)
        → IsWeightOf ds (unary p op x) (record { size = s; is_constant = true; gates = g })
    unary_constant s g e fixed is = record {
      size = e ∙ ap (λ t. t >>= λ m. Some (unary_size op m)) h.size;
      constant = sym fixed ∙ h.constant;
      gates = λ n.
          is n ∙ free (weight ds n (unary p op x)) (of_constant ds p op x n (sym h.constant ∙ fixed));
    }

  -- ---- two operands

  module _ (op : BinaryOperator) (x y : Expr) (l r : Weighed) (h : IsWeightOf ds x l) (k : IsWeightOf ds y r) where
    module _ (varies : (is_constant x && is_constant y) ≡ false) (here : Gates)
        (is_here : (n : ℕ) → gates_at here n ≡ capped (operation_weight op n)) where
      larger_sum : (inner all : Gates) → ((n : ℕ) → gates_at inner n ≡ capped (gates_at l.gates n + gates_at r.gates n))
          → ((n : ℕ) → gates_at all n ≡ capped (gates_at here n + gates_at inner n)) → (n : ℕ)
          → gates_at all n ≡ capped (operation_weight op n + (weight ds n x + weight ds n y))
      larger_sum inner all is_inner is_all n =
          three (operation_weight op n) (weight ds n x) (weight ds n y) (gates_at here n) (gates_at l.gates n)
          (gates_at r.gates n) (gates_at inner n) (gates_at all n) (is_here n) (h.gates n) (k.gates n) (is_inner n)
          (is_all n)

      pub larger_is : way op ≡ w.Larger → (inner all : Gates)
          → ((n : ℕ) → gates_at inner n ≡ capped (gates_at l.gates n + gates_at r.gates n))
          → ((n : ℕ) → gates_at all n ≡ capped (gates_at here n + gates_at inner n)) → (n : ℕ)
          → gates_at all n ≡ capped (weight ds n (binary p op x y))
      larger_is e inner all is_inner is_all n =
          larger_sum inner all is_inner is_all n ∙ ap capped (sym (by_larger ds p op x y n e varies))

      pub left_is : way op ≡ w.Left → (own : ℕ) (fixed inner all : Gates)
          → own ≡ gates_at r.gates (or_none r.size) → ((n : ℕ) → gates_at fixed n ≡ own)
          → ((n : ℕ) → gates_at inner n ≡ capped (gates_at l.gates n + gates_at fixed n))
          → ((n : ℕ) → gates_at all n ≡ capped (gates_at here n + gates_at inner n)) → (n : ℕ)
          → gates_at all n ≡ capped (weight ds n (binary p op x y))
      left_is e own fixed inner all is_own is_fixed is_inner is_all n =
          three (operation_weight op n) (weight ds n x) (weight ds (own_size ds y) y) (gates_at here n)
          (gates_at l.gates n) (gates_at fixed n) (gates_at inner n) (gates_at all n) (is_here n) (h.gates n)
          (is_fixed n ∙ own_gates ds y r own k is_own) (is_inner n) (is_all n)
          ∙ ap capped (sym (by_left ds p op x y n e varies))

      larger_bits : (bits : ℕ) → bits ≡ max (or_none l.size) (or_none r.size)
          → bits ≡ max (own_size ds x) (own_size ds y)
      larger_bits bits e = e ∙ (λ i. max (or_none (h.size i)) (or_none (k.size i)))

      pub logical_is : way op ≡ w.One → is_logical op ≡ true → (bits at lo ro : ℕ) (first left right inner all : Gates)
          → bits ≡ max (or_none l.size) (or_none r.size) → at ≡ gates_at here bits
          → lo ≡ gates_at l.gates (or_none l.size) → ro ≡ gates_at r.gates (or_none r.size)
          → ((n : ℕ) → gates_at first n ≡ at) → ((n : ℕ) → gates_at left n ≡ lo)
          → ((n : ℕ) → gates_at right n ≡ ro)
          → ((n : ℕ) → gates_at inner n ≡ capped (gates_at left n + gates_at right n))
          → ((n : ℕ) → gates_at all n ≡ capped (gates_at first n + gates_at inner n)) → (n : ℕ)
          → gates_at all n ≡ capped (weight ds n (binary p op x y))
      logical_is e f bits at lo ro first left right inner all is_bits is_at is_lo is_ro is_first is_left is_right
          is_inner is_all n =
          three (operation_weight op (max (own_size ds x) (own_size ds y))) (weight ds (own_size ds x) x)
          (weight ds (own_size ds y) y) (gates_at first n) (gates_at left n) (gates_at right n) (gates_at inner n)
          (gates_at all n)
          (is_first n ∙ is_at ∙ is_here bits ∙ ap (λ m. capped (operation_weight op m)) (larger_bits bits is_bits))
          (is_left n ∙ own_gates ds x l lo h is_lo) (is_right n ∙ own_gates ds y r ro k is_ro) (is_inner n) (is_all n)
          ∙ ap capped (sym (by_logical ds p op x y n e f varies))

      pub compared_is : way op ≡ w.One → is_logical op ≡ false → (bits at : ℕ) (inner all made : Gates)
          → bits ≡ max (or_none l.size) (or_none r.size)
          → ((n : ℕ) → gates_at inner n ≡ capped (gates_at l.gates n + gates_at r.gates n))
          → ((n : ℕ) → gates_at all n ≡ capped (gates_at here n + gates_at inner n)) → at ≡ gates_at all bits
          → ((n : ℕ) → gates_at made n ≡ at) → (n : ℕ)
          → gates_at made n ≡ capped (weight ds n (binary p op x y))
      compared_is e f bits at inner all made is_bits is_inner is_all is_at is n =
          is n ∙ is_at ∙ larger_sum inner all is_inner is_all bits
          ∙ ap (λ m. capped (operation_weight op m + (weight ds m x + weight ds m y))) (larger_bits bits is_bits)
          ∙ ap capped (sym (by_compared ds p op x y n e f varies))

    both_constant : (b : Bool) → (l.is_constant && r.is_constant) ≡ b → (is_constant x && is_constant y) ≡ b
    both_constant b e = (λ i. sym h.constant i && sym k.constant i) ∙ e

    sizes : (s : Option ℕ) (c : Bool) → c ≡ (l.is_constant && r.is_constant)
        → s ≡ (l.size >>= λ m. r.size >>= λ n. size_of_operation op m n c)
        → s ≡ (size ds x >>= λ m. size ds y >>= λ n. size_of_operation op m n (is_constant x && is_constant y))
    sizes s c f e =
        e ∙ (λ i. h.size i >>= λ m. k.size i >>= λ n. size_of_operation op m n (f i))
        ∙ (λ i. size ds x >>= λ m. size ds y >>= λ n. size_of_operation op m n (h.constant i && k.constant i))

    pub binary_is : (s : Option ℕ) (c : Bool) (g : Gates) → c ≡ (l.is_constant && r.is_constant)
        → s ≡ (l.size >>= λ m. r.size >>= λ n. size_of_operation op m n c) → c ≡ false
        → ((is_constant x && is_constant y) ≡ false → (n : ℕ)
        → gates_at g n ≡ capped (weight ds n (binary p op x y)))
        → IsWeightOf ds (binary p op x y) (record { size = s; is_constant = false; gates = g })
    binary_is s c g f e varies is = record {
      size = sizes s c f e;
      constant = sym varies ∙ f ∙ (λ i. h.constant i && k.constant i);
      gates = is (both_constant false (sym f ∙ varies));
    }

    pub binary_constant : (s : Option ℕ) (c : Bool) (g : Gates) → c ≡ (l.is_constant && r.is_constant)
        → s ≡ (l.size >>= λ m. r.size >>= λ n. size_of_operation op m n c) → c ≡ true
        → ((n : ℕ) → gates_at g n ≡ 0)
        → IsWeightOf ds (binary p op x y) (record { size = s; is_constant = true; gates = g })
    binary_constant s c g f e fixed is = record {
      size = sizes s c f e;
      constant = sym fixed ∙ f ∙ (λ i. h.constant i && k.constant i);
      gates = λ n.
          is n
          ∙ free (weight ds n (binary p op x y)) (of_constants ds p op x y n (both_constant true (sym f ∙ fixed)));
    }

  -- ---- a choice

  module _ (c x y : Expr) (q l r : Weighed) (g : IsWeightOf ds c q) (h : IsWeightOf ds x l) (k : IsWeightOf ds y r)
    where
      pub choice_is : (is_constant c && (is_constant x && is_constant y)) ≡ false → (own : ℕ)
          (fixed parts inner one all : Gates) → own ≡ gates_at q.gates (or_none q.size)
          → ((n : ℕ) → gates_at fixed n ≡ own)
          → ((n : ℕ) → gates_at parts n ≡ capped (gates_at fixed n + gates_at l.gates n))
          → ((n : ℕ) → gates_at inner n ≡ capped (gates_at parts n + gates_at r.gates n))
          → ((n : ℕ) → gates_at one n ≡ capped (1 * n))
          → ((n : ℕ) → gates_at all n ≡ capped (gates_at one n + gates_at inner n)) → (n : ℕ)
          → gates_at all n ≡ capped (weight ds n (conditional p c x y))
      choice_is varies own fixed parts inner one all is_own is_fixed is_parts is_inner is_one is_all n =
          two n (weight ds (own_size ds c) c + weight ds n x + weight ds n y) (gates_at one n) (gates_at inner n)
          (gates_at all n) (is_one n ∙ single)
          (two (weight ds (own_size ds c) c + weight ds n x) (weight ds n y) (gates_at parts n) (gates_at r.gates n)
          (gates_at inner n)
          (two (weight ds (own_size ds c) c) (weight ds n x) (gates_at fixed n) (gates_at l.gates n) (gates_at parts n)
          (is_fixed n ∙ own_gates ds c q own g is_own) (h.gates n) (is_parts n)) (k.gates n) (is_inner n)) (is_all n)
          ∙ ap capped (sym (by_choice ds p c x y n varies))
        where
          single : capped (1 * n) ≡ capped n
          single = omega arith

      all_constant : (b : Bool) → (q.is_constant && (l.is_constant && r.is_constant)) ≡ b
          → (is_constant c && (is_constant x && is_constant y)) ≡ b
      all_constant b e = (λ i. sym g.constant i && (sym h.constant i && sym k.constant i)) ∙ e

      three_sizes : (s : Option ℕ) → s ≡ (q.size >>= λ j. l.size >>= λ m. r.size >>= λ n. Some (max m n))
          → s ≡ (size ds c >>= λ j. size ds x >>= λ m. size ds y >>= λ n. Some (max m n))
      three_sizes s e = e ∙ (λ i. g.size i >>= λ j. h.size i >>= λ m. k.size i >>= λ n. Some (max m n))

      pub conditional_is : (s : Option ℕ) (b : Bool) (made : Gates)
          → b ≡ (q.is_constant && (l.is_constant && r.is_constant))
          → s ≡ (q.size >>= λ j. l.size >>= λ m. r.size >>= λ n. Some (max m n)) → b ≡ false
          → ((is_constant c && (is_constant x && is_constant y)) ≡ false → (n : ℕ)
          → gates_at made n ≡ capped (weight ds n (conditional p c x y)))
          → IsWeightOf ds (conditional p c x y) (record { size = s; is_constant = false; gates = made })
      conditional_is s b made f e varies is = record {
        size = three_sizes s e;
        constant = sym varies ∙ f ∙ (λ i. g.constant i && (h.constant i && k.constant i));
        gates = is (all_constant false (sym f ∙ varies));
      }

      pub conditional_constant : (s : Option ℕ) (b : Bool) (made : Gates)
          → b ≡ (q.is_constant && (l.is_constant && r.is_constant))
          → s ≡ (q.size >>= λ j. l.size >>= λ m. r.size >>= λ n. Some (max m n)) → b ≡ true
          → ((n : ℕ) → gates_at made n ≡ 0)
          → IsWeightOf ds (conditional p c x y) (record { size = s; is_constant = true; gates = made })
      conditional_constant s b made f e fixed is = record {
        size = three_sizes s e;
        constant = sym fixed ∙ f ∙ (λ i. g.constant i && (h.constant i && k.constant i));
        gates = λ n.
            is n
            ∙ free (weight ds n (conditional p c x y))
            (of_constant_choice ds p c x y n (all_constant true (sym f ∙ fixed)));
      }
