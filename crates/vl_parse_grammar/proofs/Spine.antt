-- Operators that wait for an operand, on a spine, and how those that bind strongly enough are applied.
use Rattle.std.proofs.Common.{◌≡◌, ℕ, zero, suc, ◌+◌, ◌≤◌, List, ◌∷◌, refl, inl, inr, arith}
use Rattle.std.specs.Prelude.{◌⊎◌}
use Rattle.fv_text.specs.declared.pos.Pos.{Pos}
use Rattle.fv_text.specs.declared.kind.Kind.{Kind}
use Rattle.fv_text.specs.declared.kind.Kind.TheVariants as k
use Rattle.fv_text.specs.declared.symbol.Symbol.TheVariants as s
use Rattle.vl_tree.specs.declared.operator.UnaryOperator.{UnaryOperator}
use Rattle.vl_tree.specs.declared.operator.BinaryOperator.{BinaryOperator}
use Rattle.vl_tree.specs.declared.operator.BinaryOperator.TheVariants as b
use Rattle.vl_tree.specs.Expr.{Expr, unary, binary, conditional}
use Rattle.vl_tree.specs.ExprSpelling.{spell, unary_sign, binary_sign}
use Rattle.vl_tree.specs.ExprWellFormed.{IsWellFormed, binds, level}
use Rattle.vl_parse_grammar.proofs.Onto.{onto}

-- a place, where none is known
abbrev pub nowhere : Pos
nowhere = record { file = 1; line = 1; col = 1 }

-- what waits for an operand, the innermost first
pub data Spine : Type 0 where
  start : Spine
  prefix : UnaryOperator → Spine → Spine
  left : Expr → BinaryOperator → Spine → Spine
  ask : Expr → Spine → Spine
  choice : Expr → Expr → Spine → Spine

-- its tokens, before others
abbrev pub before : Spine → List Kind → List Kind
before start ks = ks
before (prefix op p) ks = before p (k.Symbol (unary_sign op) ∷ ks)
before (left x op p) ks = before p (onto (spell x) (k.Symbol (binary_sign op) ∷ ks))
before (ask x p) ks = before p (onto (spell x) (k.Symbol s.Question ∷ ks))
before (choice x y p) ks = before p (onto (spell x) (k.Symbol s.Question ∷ onto (spell y) (k.Symbol s.Colon ∷ ks)))

-- how many colons are to come
abbrev pub waits : Spine → ℕ
waits start = 0
waits (prefix op p) = waits p
waits (left x op p) = waits p
waits (ask x p) = suc (waits p)
waits (choice x y p) = waits p

-- the level that the next operand needs
abbrev pub floor : Spine → ℕ
floor (prefix op p) = 11
floor (left x op p) = binds op + 1
floor p = 0

abbrev pub IsFormed : Spine → Type 0
IsFormed start = Unit {0}
IsFormed (prefix op p) = IsFormed p
IsFormed (left x op p) = IsWellFormed x × (binds op ≤ level x) × (floor p ≤ binds op) × IsFormed p
IsFormed (ask x p) = IsWellFormed x × (1 ≤ level x) × (floor p ≤ 0) × IsFormed p
IsFormed (choice x y p) = IsWellFormed x × (1 ≤ level x) × IsWellFormed y × (floor p ≤ 0) × IsFormed p

pub binds_range : (op : BinaryOperator) → (1 ≤ binds op) × (binds op ≤ 10)
binds_range b.Multiply = (omega arith, omega arith)
binds_range op = (omega arith, omega arith)

pub floor_range : (p : Spine) → floor p ≤ 11
floor_range start = omega arith
floor_range (prefix op p) = omega arith
floor_range (left x op p) = omega (arith, (binds_range op).1)
floor_range (ask x p) = omega arith
floor_range (choice x y p) = omega arith

pub floor_none : (p : Spine) → floor p ≤ 1 → floor p ≤ 0
floor_none start h = omega arith
floor_none (prefix op p) h = absurd (omega (arith, h))
floor_none (left x op p) h = absurd (omega (arith, h, (binds_range op).0))
floor_none (ask x p) h = omega arith
floor_none (choice x y p) h = omega arith

at_most : (m n : ℕ) → (m ≤ n) ⊎ (n + 1 ≤ m)
at_most zero n = inl (omega arith)
at_most (suc m) zero = inr (omega arith)
at_most (suc m) (suc n) = elim (at_most m n) [ inl h ↦ inl (omega (arith, h)) | inr h ↦ inr (omega (arith, h)) ]

-- the spine and the operand are spelled by the tokens, up to the others
pub record State (p : Spine) (x : Expr) (ts ks : List Kind) : Type 0 where
  pub same : ts ≡ before p (onto (spell x) ks)
  pub formed : IsWellFormed x
  pub spine : IsFormed p
  pub fits : floor p ≤ level x

-- operators that bind so much are applied
pub record Reduced (l q : ℕ) (ts ks : List Kind) : Type 0 where
  pub p : Spine
  pub x : Expr
  pub now : State p x ts ks
  pub low : floor p ≤ l
  pub tight : l ≤ level x
  pub waiting : waits p ≡ q

pub reduce : (l : ℕ) (p : Spine) (x : Expr) (ts ks : List Kind) → l ≤ 10 → l ≤ level x → State p x ts ks
    → Reduced l (waits p) ts ks
reduce l start x ts ks small h w = record { p = start; x = x; now = w; low = omega arith; tight = h; waiting = refl }
reduce l (ask y p) x ts ks small h w =
    record { p = ask y p; x = x; now = w; low = omega arith; tight = h; waiting = refl }
reduce l (choice y z p) x ts ks small h w =
    record { p = choice y z p; x = x; now = w; low = omega arith; tight = h; waiting = refl }
reduce l (prefix op p) x ts ks small h w =
    reduce l p (unary nowhere op x) ts ks small (omega (arith, small))
    (record { same = w.same; formed = (w.fits, w.formed); spine = w.spine; fits = floor_range p })
reduce l (left y op p) x ts ks small h w = by_level (at_most l (binds op)) (λ z f v. reduce l p z ts ks small f v)
  where
    by_level : (l ≤ binds op) ⊎ (binds op + 1 ≤ l)
        → ((z : Expr) → l ≤ level z → State p z ts ks → Reduced l (waits p) ts ks)
        → Reduced l (waits p) ts ks
    by_level (inr f) next = record { p = left y op p; x = x; now = w; low = f; tight = h; waiting = refl }
    by_level (inl f) next =
        let (one, two, three, four) = w.spine in
        next (binary nowhere op y x) f
        (record { same = w.same; formed = (two, omega (arith, w.fits), one, w.formed); spine = four; fits = three })

-- all that waits behind the last `?` is applied
pub data Whole (q : ℕ) (ts ks : List Kind) : Type 0 where
  done : (x : Expr) → ts ≡ onto (spell x) ks → IsWellFormed x → q ≡ 0 → Whole q ts ks
  asked : (y x : Expr) (p : Spine) → State (ask y p) x ts ks → suc (waits p) ≡ q → Whole q ts ks

pub applied : (p : Spine) (x : Expr) (ts ks : List Kind) → State p x ts ks → Whole (waits p) ts ks
applied start x ts ks w = done x w.same w.formed refl
applied (ask y p) x ts ks w = asked y x p w refl
applied (prefix op p) x ts ks w =
    applied p (unary nowhere op x) ts ks
    (record { same = w.same; formed = (w.fits, w.formed); spine = w.spine; fits = floor_range p })
applied (left y op p) x ts ks w =
    let (one, two, three, four) = w.spine in
    applied p (binary nowhere op y x) ts ks
    (record { same = w.same; formed = (two, omega (arith, w.fits), one, w.formed); spine = four; fits = three })
applied (choice y z p) x ts ks w =
    let (one, two, three, four, five) = w.spine in
    applied p (conditional nowhere y z x) ts ks
    (record { same = w.same; formed = (two, one, three, w.formed); spine = five; fits = four })
