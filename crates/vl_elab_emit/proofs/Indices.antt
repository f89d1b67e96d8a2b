-- What has a size over no declarations is a constant, and its size and its number are the same over all declarations.
use Rattle.std.specs.Prelude.{◌≡◌, refl, ℕ, [], Bool, true, ◌&&◌, Option, Some, None}
use Rattle.std.specs.Prelude.{if◌then◌else◌}
use Rattle.std.proofs.Common.{ap, sym, ◌∙◌}
use Rattle.fv_text.specs.declared.pos.Pos.{Pos}
use Rattle.fv_bits.specs.Bits.{as_int}
use Rattle.vl_tree.specs.Expr.{Expr, Exprs, number, name, paren, unary, binary, conditional, concat, repeat, cast}
use Rattle.vl_tree.specs.Expr.{none, more, whole, bit, part, indexed}
use Rattle.vl_size.specs.declared.decl.Decl.{Decl}
use Rattle.vl_size.specs.declared.own.Own.{Own}
use Rattle.vl_size.specs.Sign.{sign}
use Rattle.vl_size.specs.Size.{◌>>=◌, is_constant, are_constant, no_names, operand, operand_of, index_of, size, sizes}
use Rattle.vl_size.specs.Size.{some_bits, times, part_size, value, vector_size}
use Rattle.vl_elab_accepted_laws.proofs.Tests.{bind_some}
use Rattle.vl_elab_emit.specs.Starts.{IsIndex}

-- ---- where there is a size

record IsThere (o : Option ℕ) : Type 0 where
  at : ℕ
  is : o ≡ Some at

there : (o : Option ℕ) (n : ℕ) → some_bits o ≡ Some n → IsThere o
there None n h = cc
there (Some k) n h = record { at = k; is = refl }

both_true : (a b : Bool) → a ≡ true → b ≡ true → (a && b) ≡ true
both_true a b h k = λ i. h i && k i

mutual
  pub constant_sized : (e : Expr) (n : ℕ) → size [] e ≡ Some n → is_constant e ≡ true
  constant_sized (number p m) n h = refl
  constant_sized (name p text ss) n h = cc
  constant_sized (paren p x) n h = constant_sized x n h
  constant_sized (unary p op x) n h =
      let one = bind_some (size [] x) _ n h in constant_sized x one.at one.first
  constant_sized (binary p op x y) n h =
      let one = bind_some (size [] x) _ n h in
      let two = bind_some (size [] y) _ n one.next in
      both_true _ _ (constant_sized x one.at one.first) (constant_sized y two.at two.first)
  constant_sized (conditional p c x y) n h =
      let one = bind_some (size [] c) _ n h in
      let two = bind_some (size [] x) _ n one.next in
      let three = bind_some (size [] y) _ n two.next in
      both_true _ _ (constant_sized c one.at one.first)
      (both_true _ _ (constant_sized x two.at two.first) (constant_sized y three.at three.first))
  constant_sized (concat p es) n h =
      let one = there (sizes [] es) n h in constants_sized es one.at one.is
  constant_sized (repeat p k es) n h =
      let one = bind_some (size [] k) _ n h in
      let two = bind_some (some_bits (sizes [] es)) _ n one.next in
      let three = there (sizes [] es) two.at two.first in
      both_true _ _ (constant_sized k one.at one.first) (constants_sized es three.at three.is)
  constant_sized (cast p to x) n h = constant_sized x n h

  constants_sized : (es : Exprs) (n : ℕ) → sizes [] es ≡ Some n → are_constant es ≡ true
  constants_sized none n h = refl
  constants_sized (more e es) n h =
      let one = bind_some (size [] e) _ n h in
      let two = bind_some (sizes [] es) _ n one.next in
      both_true _ _ (constant_sized e one.at one.first) (constants_sized es two.at two.first)

-- ---- selects

pub nothing_first : (o : Option ℕ) (f : ℕ → Option ℕ) → o ≡ None → None ≡ (o >>= f)
nothing_first None f h = refl
nothing_first (Some k) f h = cc

pub nothing_second : (o p : Option ℕ) (f : ℕ → ℕ → Option ℕ) → p ≡ None → None ≡ (o >>= λ k. p >>= f k)
nothing_second None p f h = refl
nothing_second (Some k) p f h = nothing_first p (f k) h

pub own_is : (e : Expr) (w : ℕ) (s : Bool) (x : ℕ) → size [] e ≡ Some w → s ≡ sign [] e → x ≡ value [] no_names w s e
    → index_of (operand_of [] no_names e) ≡ as_int w s x
own_is e w s x z g v =
    (λ i. index_of (operand (z i) (sign [] e) (λ m t. value [] no_names m t e)))
    ∙ (λ i. as_int w (sym g i) (value [] no_names w (sym g i) e)) ∙ ap (as_int w s) (sym v)

index_at : (e : Expr) (x : Own) → IsIndex e x
    → index_of (operand (Some x.width) (sign [] e) (λ m t. value [] no_names m t e)) ≡ as_int x.width x.signed x.number
index_at e x h =
    (λ i. index_of (operand (sym h.sized i) (sign [] e) (λ m t. value [] no_names m t e))) ∙ h.index

pub bit_is : (d : Decl) (p : Pos) (e : Expr) (x : Own) → IsIndex e x → Some 1 ≡ vector_size [] d (bit p e whole)
bit_is d p e x h = λ i. sym h.sized i >>= λ k. Some 1

pub part_is : (d : Decl) (p : Pos) (l r : Expr) (x y : Own) → IsIndex l x → IsIndex r y
    → vector_size [] d (part p l r whole)
    ≡ part_size d (as_int x.width x.signed x.number) (as_int y.width y.signed y.number)
part_is d p l r x y hl hr =
    (λ i. hl.sized i >>= λ k. hr.sized i >>= λ j.
    if constant_sized l x.width hl.sized i && constant_sized r y.width hr.sized i
    then part_size d (index_of (operand (Some k) (sign [] l) (λ m t. value [] no_names m t l)))
    (index_of (operand (Some j) (sign [] r) (λ m t. value [] no_names m t r)))
    else None)
    ∙ (λ i. part_size d (index_at l x hl i) (index_at r y hr i))

pub indexed_is : (d : Decl) (p : Pos) (s n : Expr) (x y : Own) → IsIndex s x → IsIndex n y
    → vector_size [] d (indexed p s n whole) ≡ times (as_int y.width y.signed y.number) 1
indexed_is d p s n x y hs hn =
    (λ i. hs.sized i >>= λ k. hn.sized i >>= λ j. if constant_sized n y.width hn.sized i
    then times (index_of (operand (Some j) (sign [] n) (λ m t. value [] no_names m t n))) 1 else None)
    ∙ ap (λ i. times i 1) (index_at n y hn)

pub ruleset owns = (own_is)

pub ruleset selecting = (nothing_first, nothing_second, bit_is, part_is, indexed_is)
