-- What passes a test, and sizes of operations.
use Rattle.std.specs.Prelude.{◌≡◌, refl, ℕ, zero, suc, ◌+◌, ◌*◌, ◌≤◌, max, []}
use Rattle.std.specs.Prelude.{Bool, true, false, ◌&&◌, ◌||◌, not, nat_le, Option, Some, None}
use Rattle.std.specs.Prelude.{ℤ, pos, negsuc, int_le, if◌then◌else◌}
use Rattle.std.proofs.Common.{ap, sym, ◌∙◌, true≢false, arith}
use Rattle.std.proofs.lemmas.Bool.Decides.{nat_tests}
use Rattle.fv_text.specs.declared.pos.Pos.{Pos}
use Rattle.vl_tree.specs.declared.operator.BinaryOperator.{BinaryOperator}
use Rattle.vl_tree.specs.declared.operator.BinaryOperator.TheVariants as b
use Rattle.vl_tree.specs.declared.operator.UnaryOperator.{UnaryOperator}
use Rattle.vl_size.specs.declared.way.Way.{Way}
use Rattle.vl_size.specs.declared.way.Way.TheVariants as ways
use Rattle.vl_size.specs.Places.{earlier_place, is_earlier}
use Rattle.vl_size.specs.Size.{◌>>=◌, within, only_if, some_bits, size_by, unary_size, divides, operation_size, times}
use Rattle.vl_size.specs.Way.{way, keeps_size}
use Rattle.vl_size.proofs.Rest.{within_near, within_far}
use Rattle.vl_mean.specs.ConstantFaults.{capped, wide_times}
use Rattle.vl_elab_spec.specs.declared.elab_fault.ElabFault.{ElabFault}
use Rattle.vl_elab_spec.specs.declared.elab_fault.ElabFault.TheVariants as f
use Rattle.vl_elab_spec.specs.Expressions.{refused_if, too_wide, divided_by_zero}
use Rattle.vl_elab_accepted_laws.proofs.Fresh.{NoneOf, some-fault}

-- ---- tests

-- what is known passes the test
pub passed : (a b : Bool) (g : ElabFault) → a ≡ true → NoneOf (refused_if (a && not b) g) → b ≡ true
passed a true g h n = refl
passed true false g h n = absurd (some-fault g [] n)
passed false false g h n = h

pub passed_both : (a b c : Bool) (g : ElabFault) → a ≡ true → b ≡ true → NoneOf (refused_if (a && (b && not c)) g)
    → c ≡ true
passed_both a b true g h k n = refl
passed_both true true false g h k n = absurd (some-fault g [] n)
passed_both true false false g h k n = k
passed_both false b false g h k n = h

pub narrow : (p : Pos) (n : ℕ) → NoneOf (too_wide p (Some n)) → n ≤ 128
narrow p n h = by (nat_le n 128) refl h
  where
    by : (t : Bool) → nat_le n 128 ≡ t → NoneOf (refused_if (not t) (f.TooWide p n)) → n ≤ 128
    by true k h = grind (arith, k, nat_tests)
    by false k h = absurd (some-fault (f.TooWide p n) [] h)

pub or_true : (b : Bool) → (b || true) ≡ true
or_true true = refl
or_true false = refl

pub or_left : (a b : Bool) → a ≡ true → (a || b) ≡ true
or_left true b h = refl
or_left false b h = absurd (true≢false (sym h))

-- no division by 0
pub both_none : (p q : Option Pos) → earlier_place p q ≡ None → (p ≡ None) × (q ≡ None)
both_none None q h = (refl, h)
both_none (Some p) None h = cc
both_none (Some p) (Some q) h = by (is_earlier q p) h
  where
    by : (t : Bool) → (if t then Some q else Some p) ≡ None → (Some p ≡ None) × (Some q ≡ None)
    by true h = cc
    by false h = cc

pub undivided : (o : Option Pos) → NoneOf (divided_by_zero o) → o ≡ None
undivided None h = refl
undivided (Some p) h = absurd (some-fault (f.ZeroDivisor p) [] h)

pub record Bound (o : Option ℕ) (g : ℕ → Option ℕ) (n : ℕ) : Type 0 where
  pub at : ℕ
  pub first : o ≡ Some at
  pub next : g at ≡ Some n

pub bind_some : (o : Option ℕ) (g : ℕ → Option ℕ) (n : ℕ) → (o >>= g) ≡ Some n → Bound o g n
bind_some None g n h = cc
bind_some (Some k) g n h = record { at = k; first = refl; next = h }

pub if_some : (t : Bool) (o : Option ℕ) (n : ℕ) → (if t then o else None) ≡ Some n → (t ≡ true) × (o ≡ Some n)
if_some true o n h = (refl, h)
if_some false o n h = cc

pub some_same : (m n : ℕ) → Some m ≡ Some n → m ≡ n
some_same m n h = cc

-- ---- sizes

pub some_is : (n : ℕ) → 1 ≤ n → some_bits (Some n) ≡ Some n
some_is zero h = absurd (omega (arith, h))
some_is (suc n) h = refl

pub within_sum : (m n : ℕ) → (within n >>= λ k. within (m + k)) ≡ within (m + n)
within_sum m n = by (nat_le n 128) refl
  where
    by : (t : Bool) → nat_le n 128 ≡ t → ((if t then Some n else None) >>= λ k. within (m + k)) ≡ within (m + n)
    by true k = refl
    by false k = sym (within_far (m + n) (grind (arith, k, nat_tests)))

pub capped_sum : (m n : ℕ) → capped (m + capped n) ≡ capped (m + n)
capped_sum m n = omega arith

pub few_uncapped : (n : ℕ) → capped n ≤ 128 → n ≤ 128
few_uncapped n h = omega (arith, h)

pub uncapped : (n : ℕ) → n ≤ 128 → capped n ≡ n
uncapped n h = omega (arith, h)

-- so many copies
pub record Copied (i : ℤ) (m : ℕ) : Type 0 where
  pub bits : ℕ
  pub size_is : times i m ≡ within bits
  pub wide_is : wide_times i m ≡ Some (capped bits)
  pub some : 1 ≤ bits
  pub more : m ≤ bits

pub copied : (i : ℤ) (m : ℕ) → int_le (pos 1) i ≡ true → 1 ≤ m → Copied i m
copied (pos zero) m h k = absurd (true≢false (sym h))
copied (pos (suc c)) m h k = record {
  bits = suc c * m;
  size_is = refl;
  wide_is = refl;
  some = omega (arith, k);
  more = omega arith;
}
copied (negsuc c) m h k = absurd (true≢false (sym h))

pub unary_least : (op : UnaryOperator) (m : ℕ) → 1 ≤ m → m ≤ 128 → (1 ≤ unary_size op m) × (unary_size op m ≤ 128)
unary_least op m h k = by (keeps_size op)
  where
    by : (t : Bool) → (1 ≤ (if t then m else 1)) × ((if t then m else 1) ≤ 128)
    by true = (h, k)
    by false = (omega arith, omega arith)

pub by_range : (how : Way) (m n : ℕ) → 1 ≤ m → m ≤ 128 → 1 ≤ n → n ≤ 128
    → (1 ≤ size_by how m n) × (size_by how m n ≤ 128)
by_range ways.Larger m n h k i j = (omega (arith, h), omega (arith, k, j))
by_range ways.Left m n h k i j = (h, k)
by_range ways.One m n h k i j = (omega arith, omega arith)

pub operated : (op : BinaryOperator) (m n : ℕ) (t : Bool) → m ≤ 128 → n ≤ 128 → (divides op ≡ true → t ≡ true)
    → operation_size op m n t ≡ Some (size_by (way op) m n)
operated b.Divide m n t h k c =
    ap (λ t. only_if t (max m n)) (c refl) ∙ within_near (max m n) (omega (arith, h, k))
operated b.Remainder m n t h k c =
    ap (λ t. only_if t (max m n)) (c refl) ∙ within_near (max m n) (omega (arith, h, k))
operated op m n t h k c = refl
