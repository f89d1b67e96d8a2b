-- A well formed expression is built again from its flat list of prefixes, atoms and operators, so that it is the only
-- one with this list.
use Rattle.std.proofs.Common.{◌≡◌, ℕ, zero, suc, ◌+◌, ◌≤◌, Bool, true, false, List, [], ◌∷◌, Option, Some, None, refl}
use Rattle.std.proofs.Common.{sym, ap, ◌∙◌, arith}
use Rattle.fv_text.specs.declared.pos.Pos.{Pos}
use Rattle.vl_tree.specs.declared.operator.UnaryOperator.{UnaryOperator}
use Rattle.vl_tree.specs.declared.operator.BinaryOperator.{BinaryOperator}
use Rattle.vl_tree.specs.Expr.{Expr, number, paren, unary, binary, conditional, concat, repeat, cast}
use Rattle.vl_tree.specs.Expr as tree
use Rattle.vl_tree.specs.ExprWellFormed.{IsWellFormed, binds, level}
use Rattle.vl_parse_grammar.proofs.Spine.{binds_range}

pub data Elem : Type 0 where
  prefix_at : Pos → UnaryOperator → Elem
  atom : Expr → Elem
  operation : BinaryOperator → Elem
  question : Elem
  colon : Elem

abbrev pub flat : Expr → List Elem → List Elem
flat (unary p op x) r = prefix_at p op ∷ flat x r
flat (binary p op x y) r = flat x (operation op ∷ flat y r)
flat (conditional p x y z) r = flat x (question ∷ flat y (colon ∷ flat z r))
flat x r = atom x ∷ r

abbrev pub place_of : Expr → Pos
place_of (number p n) = p
place_of (tree.name p text ss) = p
place_of (paren p x) = p
place_of (unary p op x) = p
place_of (binary p op x y) = p
place_of (conditional p x y z) = p
place_of (concat p es) = p
place_of (repeat p n es) = p
place_of (cast p to x) = p

-- an operation stands where its first operand does
abbrev pub IsPlaced : Expr → Type 0
IsPlaced (unary p op x) = IsPlaced x
IsPlaced (binary p op x y) = (p ≡ place_of x) × IsPlaced x × IsPlaced y
IsPlaced (conditional p x y z) = (p ≡ place_of x) × IsPlaced x × IsPlaced y × IsPlaced z
IsPlaced x = Unit {0}

-- what waits for an operand
data Waiting : Type 0 where
  start : Waiting
  prefix : Pos → UnaryOperator → Waiting → Waiting
  left : Expr → BinaryOperator → Waiting → Waiting
  ask : Expr → Waiting → Waiting
  choice : Expr → Expr → Waiting → Waiting

abbrev floor : Waiting → ℕ
floor (prefix q op p) = 11
floor (left x op p) = binds op + 1
floor p = 0

abbrev upto : ℕ → ℕ → Bool
upto zero n = true
upto (suc m) zero = false
upto (suc m) (suc n) = upto m n

-- what waits, and the operand, when what binds at least so much is applied; 0: all but a `?`
abbrev reduced : ℕ → Waiting → Expr → Waiting × Expr
reduced l start x = (start, x)
reduced l (prefix q op p) x = reduced l p (unary q op x)
reduced l (left y op p) x =
    elim (upto l (binds op)) [ true ↦ reduced l p (binary (place_of y) op y x) | false ↦ (left y op p, x) ]
reduced l (ask y p) x = (ask y p, x)
reduced zero (choice y z p) x = reduced zero p (conditional (place_of y) y z x)
reduced (suc l) (choice y z p) x = (choice y z p, x)

abbrev turned : Waiting → Expr → Waiting
turned (ask y p) x = choice y x p
turned p x = p

abbrev mutual
  operand : Waiting → List Elem → Option Expr
  operand p (prefix_at q op ∷ r) = operand (prefix q op p) r
  operand p (atom x ∷ r) = more p x r
  operand p r = None

  more : Waiting → Expr → List Elem → Option Expr
  more p x [] = Some (reduced 0 p x).1
  more p x (operation op ∷ r) = let n = reduced (binds op) p x in operand (left n.1 op n.0) r
  more p x (question ∷ r) = let n = reduced 1 p x in operand (ask n.1 n.0) r
  more p x (colon ∷ r) = let n = reduced 0 p x in operand (turned n.0 n.1) r
  more p x r = None

-- what comes next binds at most so much
abbrev Next : ℕ → List Elem → Type 0
Next l (operation op ∷ r) = binds op ≤ l
Next l (question ∷ r) = 1 ≤ l
Next l r = Unit {0}

next_more : (l m : ℕ) (r : List Elem) → l ≤ m → Next l r → Next m r
next_more l m (operation op ∷ r) h n = omega (arith, h, n)
next_more l m (question ∷ r) h n = omega (arith, h, n)
next_more l m (prefix_at q op ∷ r) h n = tt
next_more l m (atom x ∷ r) h n = tt
next_more l m (colon ∷ r) h n = tt
next_more l m [] h n = tt

upto_true : (m n : ℕ) → m ≤ n → upto m n ≡ true
upto_true zero n h = refl
upto_true (suc m) zero h = absurd (omega (arith, h))
upto_true (suc m) (suc n) h = upto_true m n (omega (arith, h))

upto_false : (m n : ℕ) → n + 1 ≤ m → upto m n ≡ false
upto_false zero n h = absurd (omega (arith, h))
upto_false (suc m) zero h = refl
upto_false (suc m) (suc n) h = upto_false m n (omega (arith, h))

left_true : (l : ℕ) (y x : Expr) (op : BinaryOperator) (p : Waiting) → upto l (binds op) ≡ true
    → reduced l (left y op p) x ≡ reduced l p (binary (place_of y) op y x)
left_true l y x op p h =
    ap (λ b. elim b as (λ _. Waiting × Expr) [
      | true ↦ reduced l p (binary (place_of y) op y x)
      | false ↦
          (left y op p, x)
    ]) h

left_false : (l : ℕ) (y x : Expr) (op : BinaryOperator) (p : Waiting) → upto l (binds op) ≡ false
    → reduced l (left y op p) x ≡ (left y op p, x)
left_false l y x op p h =
    ap (λ b. elim b as (λ _. Waiting × Expr) [
      | true ↦ reduced l p (binary (place_of y) op y x)
      | false ↦
          (left y op p, x)
    ]) h

-- nothing is applied
stays : (l : ℕ) (p : Waiting) (x : Expr) → 1 ≤ l → l ≤ 10 → floor p ≤ l → reduced l p x ≡ (p, x)
stays l start x o h f = refl
stays l (prefix q op p) x o h f = absurd (omega (arith, h, f))
stays l (left y op p) x o h f = left_false l y x op p (upto_false l (binds op) f)
stays l (ask y p) x o h f = refl
stays zero (choice y z p) x o h f = absurd (omega (arith, o))
stays (suc l) (choice y z p) x o h f = refl

-- an operator that waits is applied before what binds no more
applied : (op : BinaryOperator) (y x : Expr) (p : Waiting) (r : List Elem) → Next (binds op) r
    → more (left y op p) x r ≡ more p (binary (place_of y) op y x) r
applied op y x p [] n = refl
applied op y x p (operation o ∷ r) n =
    ap (λ n. operand (left n.1 o n.0) r) (left_true (binds o) y x op p (upto_true (binds o) (binds op) n))
applied op y x p (question ∷ r) n = ap (λ n. operand (ask n.1 n.0) r) (left_true 1 y x op p (upto_true 1 (binds op) n))
applied op y x p (colon ∷ r) n = refl
applied op y x p (prefix_at q o ∷ r) n = refl
applied op y x p (atom z ∷ r) n = refl

prefixed : (q : Pos) (op : UnaryOperator) (x : Expr) (p : Waiting) (r : List Elem)
    → more (prefix q op p) x r ≡ more p (unary q op x) r
prefixed q op x p [] = refl
prefixed q op x p (operation o ∷ r) = refl
prefixed q op x p (question ∷ r) = refl
prefixed q op x p (colon ∷ r) = refl
prefixed q op x p (prefix_at q2 o ∷ r) = refl
prefixed q op x p (atom z ∷ r) = refl

chosen : (y z x : Expr) (p : Waiting) (r : List Elem) → Next 0 r
    → more (choice y z p) x r ≡ more p (conditional (place_of y) y z x) r
chosen y z x p [] n = refl
chosen y z x p (operation o ∷ r) n = absurd (omega (arith, n, (binds_range o).0))
chosen y z x p (question ∷ r) n = absurd (omega (arith, n))
chosen y z x p (colon ∷ r) n = refl
chosen y z x p (prefix_at q o ∷ r) n = refl
chosen y z x p (atom v ∷ r) n = refl

built : (x : Expr) (p : Waiting) (r : List Elem) → IsWellFormed x → IsPlaced x → floor p ≤ level x → Next (level x) r
    → operand p (flat x r) ≡ more p x r
built (number q n) p r w i f h = refl
built (tree.name q text ss) p r w i f h = refl
built (paren q x) p r w i f h = refl
built (concat q es) p r w i f h = refl
built (repeat q n es) p r w i f h = refl
built (cast q to x) p r w i f h = refl
built (unary q op x) p r w i f h =
    built x (prefix q op p) r w.1 i w.0 (next_more 11 (level x) r w.0 h) ∙ prefixed q op x p r
built (binary q op x y) p r w i f h =
    built x p (operation op ∷ flat y r) w.2 i.1 (omega (arith, f, w.0)) w.0
    ∙ ap (λ n. operand (left n.1 op n.0) (flat y r)) (stays (binds op) p x (binds_range op).0 (binds_range op).1 f)
    ∙ built y (left x op p) r w.3 i.2 (omega (arith, w.1)) (next_more (binds op) (level y) r (omega (arith, w.1)) h)
    ∙ applied op x y p r h ∙ ap (λ v. more p (binary v op x y) r) (sym i.0)
built (conditional q x y z) p r w i f h =
    built x p (question ∷ flat y (colon ∷ flat z r)) w.1 i.1 (omega (arith, f)) w.0
    ∙ ap (λ n. operand (ask n.1 n.0) (flat y (colon ∷ flat z r)))
    (stays 1 p x (omega arith) (omega arith) (omega (arith, f)))
    ∙ built y (ask x p) (colon ∷ flat z r) w.2 i.2 (omega arith) tt
    ∙ built z (choice x y p) r w.3 i.3 (omega arith) (next_more 0 (level z) r (omega arith) h)
    ∙ chosen x y z p r h ∙ ap (λ v. more p (conditional v x y z) r) (sym i.0)

some_same : (x y : Expr) → Some x ≡ Some y → x ≡ y
some_same x y h = cc

-- one list, one well formed expression
pub one_of_list : (x y : Expr) → IsWellFormed x → IsWellFormed y → IsPlaced x → IsPlaced y → flat x [] ≡ flat y []
    → x ≡ y
one_of_list x y w v i j h =
    some_same x y (sym (built x start [] w i (omega arith) tt) ∙ ap (operand start) h
    ∙ built y start [] v j (omega arith) tt)
