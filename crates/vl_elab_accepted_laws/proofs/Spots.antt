-- What begins with a value has 1 to 128 bits.
use Rattle.std.specs.Prelude.{◌≡◌, refl, ℕ, zero, suc, ◌+◌, ◌*◌, ◌≤◌, max, List, [], ◌∷◌, ◌++◌, length, Bool, true}
use Rattle.std.specs.Prelude.{false}
use Rattle.std.specs.Prelude.{◌||◌, not, Option, Some, None, ℤ, pos, negsuc, nat_abs, is_none}
use Rattle.std.specs.Prelude.{if◌then◌else◌}
use Rattle.std.proofs.Common.{ap, sym, ◌∙◌, subst, arith}
use Rattle.fv_text.specs.declared.pos.Pos.{Pos}
use Rattle.vl_tree.specs.Expr.{Expr, Selects, whole, bit, part, indexed}
use Rattle.vl_tree.specs.ExprWellFormed as expr
use Rattle.vl_tree.specs.ExprWellFormed.{AreSelects}
use Rattle.vl_tree.specs.Lval.{Lval, Lvals, named, joined, no_lvals, more_lvals}
use Rattle.vl_tree.specs.LvalWellFormed as lval
use Rattle.vl_size.specs.declared.context.Context.{Context}
use Rattle.vl_size.specs.declared.decl.Decl.{Decl}
use Rattle.vl_size.specs.Divisors.{own_context, own_zero_divisor, selects_zero_divisor}
use Rattle.vl_size.specs.Size.{◌>>=◌, is_constant, no_names, operand_of, index_of, size, or_none}
use Rattle.vl_size.specs.Table.{span}
use Rattle.vl_mean.specs.ConstantFaults.{capped, wide_times}
use Rattle.vl_mean.specs.Constants.{settled, settled_selects}
use Rattle.vl_mean.specs.Scopes.{Scope, constant_in, declared_in, unless_constant, visible, full, operand_in, no_values}
use Rattle.vl_mean.specs.Targets.{Spot, spots_from, spots_of, vector_spots, word_spots}
use Rattle.vl_mean.specs.Targets.{spots, all_spots}
use Rattle.vl_mean_flat.specs.Flattened.{start_width}
use Rattle.vl_elab_accepted_laws.proofs.Fresh.{NoneOf, none-front, none-back, some-fault}
use Rattle.vl_elab_spec.specs.Expressions.{too_wide, divided_by_zero, vector_width}
use Rattle.vl_elab_spec.specs.Expressions.{word_width, name_width, vector_selects, memory_selects, object_selects}
use Rattle.vl_elab_spec.specs.Expressions.{select_refusals, refusals, is_constant_name, known, expr_refusals}
use Rattle.vl_elab_spec.specs.Meanings.{Meaning, undeclared, constant, loop_variable, object, faulty, shapeless, later}
use Rattle.vl_elab_spec.specs.Meanings.{Names, meaning_in, constants, objects, is_known, bound}
use Rattle.vl_elab_spec.specs.Statements.{assigned_refusals, target_selects, target_width, targets_width}
use Rattle.vl_elab_spec.specs.Statements.{target_refusals}
use Rattle.vl_elab_spec.specs.Statements.{targets_refusals}
use Rattle.vl_elab_scope.specs.Seen.{AllNamed}
use Rattle.vl_elab_accepted_laws.specs.Sized.{IsSized}
use Rattle.vl_elab_accepted_laws.proofs.Fixed.{fixed_index, fixed_size}
use Rattle.vl_elab_accepted_laws.proofs.Parts.{selected}
use Rattle.vl_elab_accepted_laws.proofs.Sizes.{read, fine, vector, word}
use Rattle.vl_elab_accepted_laws.proofs.Tests.{both_none, undivided, if_some, some_same, narrow, uncapped, few_uncapped}
use Rattle.vl_elab_accepted_laws.specs.Means.{MeansIn, AreMeant}
use Rattle.vl_elab_accepted_laws.proofs.Agreeing.{sound, known_is, refused_name}

length_from : (n w : ℕ) (text : Option (List ℕ)) (i : ℤ) → length (spots_from n w text i) ≡ n
length_from zero w text i = refl
length_from (suc n) w text i = ap suc (length_from n w text i)

length_both : (xs ys : List (Option Spot)) → length (xs ++ ys) ≡ length xs + length ys
length_both [] ys = omega arith
length_both (x ∷ xs) ys =
    let rest : length (xs ++ ys) ≡ length xs + length ys = length_both xs ys in omega (arith, rest)

both_capped : (m n : ℕ) → capped (capped m + capped n) ≡ capped (m + n)
both_capped m n = omega arith

-- so many copies of one bit
copies_length : (i : ℤ) (bits : ℕ) → wide_times i 1 ≡ Some bits → bits ≤ 128 → nat_abs i ≡ bits
copies_length (pos zero) bits h k = cc
copies_length (pos (suc c)) bits h k =
    let same : capped (suc c * 1) ≡ bits = some_same (capped (suc c * 1)) bits h in
    omega (arith, same, k)
copies_length (negsuc c) bits h k = cc

module _ (ns : List Names) (ss : List Scope) (named_so : AllNamed ns) (meant : AreMeant ns ss) where
  -- a constant has the same value while it is judged and in its scopes
  same_index : (e : Expr) → NoneOf (refusals ns true e) → is_constant (known ns e) ≡ true
      → index_of (operand_in ss no_values e) ≡ bound ns e
  same_index e h c =
      ap (λ x. index_of (operand_of (visible ss) no_names x)) (sym (known_is ns ss meant true e h))
      ∙ fixed_index (visible ss) [] (known ns e) c

  fixed_fine : (e : Expr) → expr.IsWellFormed e → NoneOf (refusals ns true e)
      → own_zero_divisor (objects ns) (known ns e) ≡ None → IsSized ns true e
  fixed_fine e w h z = fine ns named_so (sound ns ss meant) true (own_context (objects ns) (known ns e)) e w h z

  -- ---- how many bits a target has

  vector_length : (fixed may : Bool) (d : Decl) (text : Option (List ℕ)) (xs : Selects) (bits : ℕ) → AreSelects xs
      → NoneOf (select_refusals ns fixed xs) → NoneOf (vector_selects ns may d xs)
      → selects_zero_divisor (objects ns) (settled_selects (constants ns) xs) ≡ None
      → vector_width ns d xs ≡ Some bits → bits ≤ 128 → length (vector_spots ss no_values d text xs) ≡ bits
  vector_length fixed may d text whole bits w h k z wide few =
      length_from d.width d.width text (pos 0) ∙ some_same d.width bits wide
  vector_length fixed may d text (bit q i whole) bits w h k z wide few = some_same 1 bits wide
  vector_length fixed may d text (part q l r whole) bits w h k z wide few =
      let inner = both_none _ _ (both_none _ None z).0 in
      let parts = none-front (refusals ns true l ++ refusals ns true r) _ h in
      let hl = none-front (refusals ns true l) (refusals ns true r) parts in
      let hr = none-back (refusals ns true l) (refusals ns true r) parts in
      let x = fixed_fine l w.0 hl inner.0 in
      let y = fixed_fine r w.1 hr inner.1 in
      let low = index_of (operand_in ss no_values r) in
      let one = if_some (is_known ns l) _ bits wide in
      let two = if_some (is_known ns r) _ bits one.1 in
      let three = if_some _ (Some (span (bound ns l) (bound ns r))) bits two.1 in
      length_from (span (index_of (operand_in ss no_values l)) low) d.width text _
      ∙ (λ i. span (same_index l hl (x.constant refl) i) (same_index r hr (y.constant refl) i))
      ∙ some_same (span (bound ns l) (bound ns r)) bits three.1
  vector_length fixed may d text (indexed q s n whole) bits w h k z wide few =
      let inner = both_none _ _ (both_none _ None z).0 in
      let parts = none-front (refusals ns fixed s ++ refusals ns true n) _ h in
      let hn = none-back (refusals ns fixed s) (refusals ns true n) parts in
      let y = fixed_fine n w.1 hn inner.1 in
      let one = if_some (is_known ns n) (wide_times (bound ns n) 1) bits wide in
      length_from (nat_abs (index_of (operand_in ss no_values n))) d.width text _
      ∙ ap nat_abs (same_index n hn (y.constant refl)) ∙ copies_length (bound ns n) bits one.1 few
  vector_length fixed may d text (bit q i (bit r j xs)) bits w h k z wide few = cc
  vector_length fixed may d text (bit q i (part r j l xs)) bits w h k z wide few = cc
  vector_length fixed may d text (bit q i (indexed r j l xs)) bits w h k z wide few = cc
  vector_length fixed may d text (part q i m (bit r j xs)) bits w h k z wide few = cc
  vector_length fixed may d text (part q i m (part r j l xs)) bits w h k z wide few = cc
  vector_length fixed may d text (part q i m (indexed r j l xs)) bits w h k z wide few = cc
  vector_length fixed may d text (indexed q i m (bit r j xs)) bits w h k z wide few = cc
  vector_length fixed may d text (indexed q i m (part r j l xs)) bits w h k z wide few = cc
  vector_length fixed may d text (indexed q i m (indexed r j l xs)) bits w h k z wide few = cc

  word_length : (fixed : Bool) (p : Pos) (d : Decl) (xs : Selects) (bits : ℕ) → AreSelects xs
      → NoneOf (select_refusals ns fixed xs) → NoneOf (memory_selects ns p d xs)
      → selects_zero_divisor (objects ns) (settled_selects (constants ns) xs) ≡ None
      → word_width ns d xs ≡ Some bits → bits ≤ 128 → length (word_spots ss no_values d xs) ≡ bits
  word_length fixed p d whole bits w h k z wide few = absurd (some-fault _ [] k)
  word_length fixed p d (bit q i xs) bits w h k z wide few =
      let inner = both_none _ _ z in
      vector_length fixed true d _ xs bits w.1 (none-back (refusals ns fixed i) (select_refusals ns fixed xs) h) k
      inner.1 wide few
  word_length fixed p d (part q l r xs) bits w h k z wide few = absurd (some-fault _ [] k)
  word_length fixed p d (indexed q s n xs) bits w h k z wide few = absurd (some-fault _ [] k)

  record HasBits (l : Lval) : Type 0 where
    bits : ℕ
    many : length (spots ss no_values l) ≡ bits
    wide : target_width ns l ≡ Some (capped bits)
    some : 1 ≤ bits

  record HaveBits (ls : Lvals) : Type 0 where
    bits : ℕ
    many : length (all_spots ss no_values ls) ≡ bits
    wide : targets_width ns ls ≡ Some (capped bits)
    some : lval.IsSome ls → 1 ≤ bits

  object_length : (is_vector fixed may : Bool) (p : Pos) (d : Decl) (text : List ℕ) (xs : Selects) (bits : ℕ)
      → AreSelects xs → NoneOf (select_refusals ns fixed xs)
      → NoneOf (if is_vector then vector_selects ns may d xs else memory_selects ns p d xs)
      → selects_zero_divisor (objects ns) (settled_selects (constants ns) xs) ≡ None
      → (if is_vector then vector_width ns d xs else word_width ns d xs) ≡ Some bits → bits ≤ 128
      → length (if is_vector then vector_spots ss no_values d (Some (full ss text)) xs
      else word_spots ss no_values d xs) ≡ bits
  object_length true fixed may p d text xs bits w h k z wide few =
      vector_length fixed may d (Some (full ss text)) xs bits w h k z wide few
  object_length false fixed may p d text xs bits w h k z wide few = word_length fixed p d xs bits w h k z wide few

  named_bits : (continuous fixed : Bool) (p : Pos) (text : List ℕ) (xs : Selects) (m : Meaning)
      → meaning_in ns text ≡ m → AreSelects xs
      → NoneOf (select_refusals ns (fixed || is_constant_name ns m) xs
      ++ divided_by_zero (selects_zero_divisor (objects ns) (settled_selects (constants ns) xs))
      ++ assigned_refusals ns continuous p text m ++ target_selects ns p m (named p text xs)
      ++ too_wide p (name_width ns text m xs)) → HasBits (named p text xs)
  named_bits continuous fixed p text xs undeclared e w h = absurd (refused_name _ _ _ (none-front _ _ h))
  named_bits continuous fixed p text xs loop_variable e w h = absurd (refused_name _ _ _ (none-front _ _ h))
  named_bits continuous fixed p text xs (constant c selected) e w h =
      absurd (refused_name _ _ _ (none-front _ _ h))
  named_bits continuous fixed p text xs faulty e w h = absurd (subst (MeansIn ss text) e (meant text))
  named_bits continuous fixed p text xs shapeless e w h = absurd (subst (MeansIn ss text) e (meant text))
  named_bits continuous fixed p text xs later e w h = absurd (subst (MeansIn ss text) e (meant text))
  named_bits continuous fixed p text xs (object d role scalar) e w h =
      let means = subst (MeansIn ss text) e (meant text) in
      let inner = select_refusals ns (fixed || false) xs in
      let divided = divided_by_zero (selects_zero_divisor (objects ns) (settled_selects (constants ns) xs)) in
      let assigned = assigned_refusals ns continuous p text (object d role scalar) in
      let selects = object_selects ns p scalar d xs in
      let all = none-front (inner ++ divided ++ assigned ++ selects) _ h in
      let front = none-front (inner ++ divided ++ assigned) selects all in
      let two = none-front (inner ++ divided) assigned front in
      let hs = none-front inner divided two in
      let z = undivided _ (none-back inner divided two) in
      let hk = none-back (inner ++ divided ++ assigned) selects all in
      let x = selected ns (is_none d.words) (fixed || false) (not scalar) p d xs
      (λ may d one few h k t z. vector ns named_so (sound ns ss meant) (fixed || false) may p d xs w one few h k t z)
      (λ d one few h k t z. word ns named_so (sound ns ss meant) (fixed || false) p d xs w one few h k t z)
      means.2.some_bits means.2.few_bits hs hk (none-back (inner ++ divided ++ assigned ++ selects) _ h) z in
      let found : declared_in ss text ≡ Some d = λ i. unless_constant (means.0 i) (means.1 i) in
      record {
        bits = x.bits;
        many = ap (λ o. length (spots_of o (λ d. if is_none d.words
            then vector_spots ss no_values d (Some (full ss text)) xs else word_spots ss no_values d xs))) found
            ∙ object_length (is_none d.words) (fixed || false) (not scalar) p d text xs x.bits w hs hk z x.wide x.few;
        wide = ap (λ m. name_width ns text m xs) e ∙ x.wide ∙ ap Some (sym (uncapped x.bits x.few));
        some = x.some;
      }

  mutual
    target_bits : (continuous fixed : Bool) (l : Lval) → lval.IsWellFormed l
        → NoneOf (target_refusals ns continuous fixed l) → HasBits l
    target_bits continuous fixed (named p text xs) w h =
        named_bits continuous fixed p text xs (meaning_in ns text) refl w.1 h
    target_bits continuous fixed (joined p ls) w h =
        let x = targets_bits continuous fixed ls w.1 (none-front (targets_refusals ns continuous fixed ls) _ h) in
        record { bits = x.bits; many = x.many; wide = x.wide; some = x.some w.0 }

    targets_bits : (continuous fixed : Bool) (ls : Lvals) → lval.AreWellFormed ls
        → NoneOf (targets_refusals ns continuous fixed ls) → HaveBits ls
    targets_bits continuous fixed no_lvals w h = record { bits = 0; many = refl; wide = refl; some = λ s. absurd s }
    targets_bits continuous fixed (more_lvals l ls) w h =
        let x = target_bits continuous fixed l w.0
        (none-front (target_refusals ns continuous fixed l) (targets_refusals ns continuous fixed ls) h) in
        let y = targets_bits continuous fixed ls w.1
        (none-back (target_refusals ns continuous fixed l) (targets_refusals ns continuous fixed ls) h) in
        record {
          bits = x.bits + y.bits;
          many = length_both (spots ss no_values l) (all_spots ss no_values ls) ∙ (λ i. x.many i + y.many i);
          wide = (λ i. x.wide i >>= λ m. y.wide i >>= λ n. Some (capped (m + n))) ∙ ap Some (both_capped x.bits y.bits);
          some = λ s. omega (arith, x.some);
        }

  -- ---- values at first

  pub record HasWidth (l : Lval) (e : Expr) : Type 0 where
    pub some : 1 ≤ start_width ss l e
    pub few : start_width ss l e ≤ 128

  target_few : (continuous fixed : Bool) (l : Lval) → lval.IsWellFormed l
      → NoneOf (target_refusals ns continuous fixed l) → (x : HasBits l) → x.bits ≤ 128
  target_few continuous fixed (named p text xs) w h x =
      few_uncapped x.bits (narrow p (capped x.bits) (subst (λ o. NoneOf (too_wide p o)) x.wide (none-back _ _ h)))
  target_few continuous fixed (joined p ls) w h x =
      few_uncapped x.bits (narrow p (capped x.bits) (subst (λ o. NoneOf (too_wide p o)) x.wide
      (none-back (targets_refusals ns continuous fixed ls) _ h)))

  pub start_fits : (continuous fixed : Bool) (c : Context) (l : Lval) (e : Expr) → lval.IsWellFormed l
      → expr.IsWellFormed e → NoneOf (target_refusals ns continuous fixed l) → NoneOf (expr_refusals ns true c e)
      → HasWidth l e
  start_fits continuous fixed c l e wl we hl he =
      let x = target_bits continuous fixed l wl hl in
      let few : x.bits ≤ 128 = target_few continuous fixed l wl hl x in
      let y = read ns true c e named_so (sound ns ss meant) we he in
      let hr = none-front (refusals ns true e) _ he in
      let sized : or_none (size (visible ss) (settled (constant_in ss) e)) ≡ y.bits
      = ap (λ x. or_none (size (visible ss) x)) (sym (known_is ns ss meant true e hr))
      ∙ ap or_none (fixed_size (visible ss) (objects ns) (known ns e) (y.constant refl) ∙ y.sized) in
      let width : start_width ss l e ≡ max x.bits y.bits = λ i. max (x.many i) (sized i) in
      let one = x.some in
      let less = y.few in
      record { some = omega (arith, width, one); few = omega (arith, width, few, less) }
