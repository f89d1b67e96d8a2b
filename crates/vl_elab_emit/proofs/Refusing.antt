-- What isn't refused as a value at first is a target with constant indices, and a constant.
use Rattle.std.specs.Prelude.{◌≡◌, refl, ℕ, ◌+◌, ◌≤◌, List, [], ◌++◌, Bool, true, false, ◌||◌, not}
use Rattle.std.specs.Prelude.{IsSome, Option, Some, None, is_none, nat_le, if◌then◌else◌}
use Rattle.std.proofs.Common.{ap, sym, ◌∙◌, subst, arith}
use Rattle.std.proofs.lemmas.Bool.Decides.{nat_tests}
use Rattle.fv_text.specs.declared.pos.Pos.{Pos}
use Rattle.vl_tree.specs.Expr.{Expr, Selects, whole, bit, part, indexed}
use Rattle.vl_tree.specs.ExprWellFormed as expr
use Rattle.vl_tree.specs.ExprWellFormed.{AreSelects}
use Rattle.vl_tree.specs.Lval.{Lval, Lvals, named, joined, no_lvals, more_lvals}
use Rattle.vl_tree.specs.LvalWellFormed as lval
use Rattle.vl_size.specs.declared.context.Context.{Context}
use Rattle.vl_size.specs.declared.decl.Decl.{Decl}
use Rattle.vl_size.specs.Divisors.{selects_zero_divisor}
use Rattle.vl_size.specs.Size.{◌>>=◌, is_constant, vector_size, within, word_size}
use Rattle.vl_size.proofs.Rest.{within_far, within_near}
use Rattle.vl_mean.specs.ConstantFaults.{capped}
use Rattle.vl_mean.specs.Constants.{settled_selects}
use Rattle.vl_mean.specs.Scopes.{Scope, declared_in, full, unless_constant}
use Rattle.vl_mean_flat.specs.FullNames.{flat_selects, renamed_selects}
use Rattle.vl_elab_accepted_laws.proofs.Fresh.{NoneOf, none-back, none-front}
use Rattle.vl_elab_spec.specs.Expressions.{divided_by_zero, expr_refusals, is_constant_name, name_width, object_selects}
use Rattle.vl_elab_spec.specs.Expressions.{refusals, select_refusals, too_wide}
use Rattle.vl_elab_spec.specs.Meanings.{Meaning, undeclared, constant, loop_variable, object, faulty, shapeless, later}
use Rattle.vl_elab_spec.specs.Meanings.{Names, constants, meaning_in, objects, value_of}
use Rattle.vl_elab_spec.specs.Statements.{assigned_in, assigned_refusals, assignment_refusals, target_refusals}
use Rattle.vl_elab_spec.specs.Statements.{target_selects, target_width, targets_refusals, targets_width}
use Rattle.vl_elab_scope.specs.Seen.{AllNamed}
use Rattle.vl_elab_scope.specs.Texts.{selects_texts, texts, AgreeOn}
use Rattle.vl_elab_scope.proofs.Agree.{same_size}
use Rattle.vl_elab_accepted_laws.specs.Sized.{AreSound}
use Rattle.vl_elab_accepted_laws.proofs.Fixed.{agree_on_none, fixed_vector}
use Rattle.vl_elab_accepted_laws.proofs.Parts.{selected}
use Rattle.vl_elab_accepted_laws.proofs.Sizes.{read, vector, word}
use Rattle.vl_elab_accepted_laws.proofs.Tests.{few_uncapped, narrow, undivided}
use Rattle.vl_elab_accepted_laws.specs.Means.{AreMeant, MeansIn}
use Rattle.vl_elab_accepted_laws.proofs.Agreeing.{known_is, refused_name, selects_are, sound}
use Rattle.vl_elab_accepted_laws.specs.Right.{AreRight}
use Rattle.vl_elab_emit.specs.Starts.{IsStart, few_bits, selected_bits, sum, target_bits, targets_bits}
use Rattle.vl_elab_emit.proofs.Started.{no_left, no_right, renamed_selects_none}

-- ---- sums of bits

within_both : (m n : ℕ) → sum (within m) (within n) ≡ within (m + n)
within_both m n = by (nat_le m 128) (nat_le n 128) refl refl
  where
    by : (b c : Bool) → nat_le m 128 ≡ b → nat_le n 128 ≡ c
        → sum (if b then Some m else None) (if c then Some n else None) ≡ within (m + n)
    by true true h k = refl
    by true false h k = sym (within_far (m + n) (grind (arith, nat_tests, k)))
    by false c h k = sym (within_far (m + n) (grind (arith, nat_tests, h)))

both_capped : (m n : ℕ) → capped (capped m + capped n) ≡ capped (m + n)
both_capped m n = omega arith

-- ---- selects without names, over all declarations and over none

alone_word : (ds : List Decl) (d : Decl) (xs : Selects) → selects_texts xs ≡ [] → word_size ds d xs ≡ word_size [] d xs
alone_word ds d whole h = refl
alone_word ds d (bit p x xs) h =
    let first : AgreeOn _ _ (texts x) = agree_on_none ds [] (texts x) (no_left (texts x) (selects_texts xs) h) in
    λ i. same_size ds [] x first i >>= λ k. fixed_vector ds [] d xs (no_right (texts x) (selects_texts xs) h) i
alone_word ds d (part p l r xs) h = refl
alone_word ds d (indexed p s n xs) h = refl

alone_selects : (is_vector : Bool) (ds : List Decl) (d : Decl) (xs : Selects) → selects_texts xs ≡ []
    → (if is_vector then vector_size ds d xs else word_size ds d xs)
    ≡ (if is_vector then vector_size [] d xs else word_size [] d xs)
alone_selects true ds d xs h = fixed_vector ds [] d xs h
alone_selects false ds d xs h = alone_word ds d xs h

few_of : (o : Option ℕ) (n : ℕ) → o ≡ Some n → few_bits o ≡ within n
few_of o n h = ap few_bits h

module _ (ns : List Names) (ss : List Scope) (named_so : AllNamed ns) (meant : AreMeant ns ss) where
  record HasBits (l : Lval) : Type 0 where
    bits : ℕ
    sized : target_bits ss l ≡ within bits
    wide : target_width ns l ≡ Some (capped bits)

  record HaveBits (ls : Lvals) : Type 0 where
    bits : ℕ
    sized : targets_bits ss ls ≡ within bits
    wide : targets_width ns ls ≡ Some (capped bits)

  named_bits : (continuous : Bool) (p : Pos) (text : List ℕ) (xs : Selects) (m : Meaning)
      → meaning_in ns text ≡ m → AreSelects xs
      → NoneOf (select_refusals ns (true || is_constant_name ns m) xs
      ++ divided_by_zero (selects_zero_divisor (objects ns) (settled_selects (constants ns) xs))
      ++ assigned_refusals ns continuous p text m ++ target_selects ns p m (named p text xs)
      ++ too_wide p (name_width ns text m xs)) → HasBits (named p text xs)
  named_bits continuous p text xs undeclared e w h = absurd (refused_name _ _ _ (none-front _ _ h))
  named_bits continuous p text xs loop_variable e w h = absurd (refused_name _ _ _ (none-front _ _ h))
  named_bits continuous p text xs (constant c selected) e w h = absurd (refused_name _ _ _ (none-front _ _ h))
  named_bits continuous p text xs faulty e w h = absurd (subst (MeansIn ss text) e (meant text))
  named_bits continuous p text xs shapeless e w h = absurd (subst (MeansIn ss text) e (meant text))
  named_bits continuous p text xs later e w h = absurd (subst (MeansIn ss text) e (meant text))
  named_bits continuous p text xs (object d role scalar) e w h =
      let means = subst (MeansIn ss text) e (meant text) in
      let inner = select_refusals ns true xs in
      let divided = divided_by_zero (selects_zero_divisor (objects ns) (settled_selects (constants ns) xs)) in
      let assigned = assigned_refusals ns continuous p text (object d role scalar) in
      let selects = object_selects ns p scalar d xs in
      let all = none-front (inner ++ divided ++ assigned ++ selects) _ h in
      let front = none-front (inner ++ divided ++ assigned) selects all in
      let two = none-front (inner ++ divided) assigned front in
      let hs = none-front inner divided two in
      let z = undivided _ (none-back inner divided two) in
      let x = selected ns (is_none d.words) true (not scalar) p d xs
      (λ may d one few h k t z. vector ns named_so (sound ns ss meant) true may p d xs w one few h k t z)
      (λ d one few h k t z. word ns named_so (sound ns ss meant) true p d xs w one few h k t z)
      means.2.some_bits means.2.few_bits hs (none-back (inner ++ divided ++ assigned) selects all)
      (none-back (inner ++ divided ++ assigned ++ selects) _ h) z in
      let found : declared_in ss text ≡ Some d = λ i. unless_constant (means.0 i) (means.1 i) in
      let alone = x.alone refl in
      let same : settled_selects (constants ns) xs ≡ flat_selects ss xs
      = sym (renamed_selects_none (full ss) (settled_selects (constants ns) xs) alone)
      ∙ ap (renamed_selects (full ss)) (selects_are ns ss meant true p text xs hs (ap value_of e) means.0) in
      record {
        bits = x.bits;
        sized = ap (λ o. o >>= λ d. few_bits (selected_bits d (flat_selects ss xs))) found
            ∙ few_of _ x.bits (ap (selected_bits d) (sym same)
            ∙ sym (alone_selects (is_none d.words) (objects ns) d (settled_selects (constants ns) xs) alone) ∙ x.sized);
        wide = ap (λ m. name_width ns text m xs) e ∙ x.wide
            ∙ ap Some (let few = x.few in omega (arith, few));
      }

  mutual
    target_is : (continuous : Bool) (l : Lval) → lval.IsWellFormed l
        → NoneOf (target_refusals ns continuous true l) → HasBits l
    target_is continuous (named p text xs) w h = named_bits continuous p text xs (meaning_in ns text) refl w.1 h
    target_is continuous (joined p ls) w h =
        let x = targets_are continuous ls w.1 (none-front (targets_refusals ns continuous true ls) _ h) in
        record { bits = x.bits; sized = x.sized; wide = x.wide }

    targets_are : (continuous : Bool) (ls : Lvals) → lval.AreWellFormed ls
        → NoneOf (targets_refusals ns continuous true ls) → HaveBits ls
    targets_are continuous no_lvals w h = record { bits = 0; sized = refl; wide = refl }
    targets_are continuous (more_lvals l ls) w h =
        let x = target_is continuous l w.0
        (none-front (target_refusals ns continuous true l) (targets_refusals ns continuous true ls) h) in
        let y = targets_are continuous ls w.1
        (none-back (target_refusals ns continuous true l) (targets_refusals ns continuous true ls) h) in
        record {
          bits = x.bits + y.bits;
          sized = (λ i. sum (x.sized i) (y.sized i)) ∙ within_both x.bits y.bits;
          wide = (λ i. x.wide i >>= λ m. y.wide i >>= λ n. Some (capped (m + n))) ∙ ap Some (both_capped x.bits y.bits);
        }

  target_few : (continuous : Bool) (l : Lval) → lval.IsWellFormed l
      → NoneOf (target_refusals ns continuous true l) → (x : HasBits l) → x.bits ≤ 128
  target_few continuous (named p text xs) w h x =
      few_uncapped x.bits (narrow p (capped x.bits) (subst (λ o. NoneOf (too_wide p o)) x.wide (none-back _ _ h)))
  target_few continuous (joined p ls) w h x =
      few_uncapped x.bits (narrow p (capped x.bits) (subst (λ o. NoneOf (too_wide p o)) x.wide
      (none-back (targets_refusals ns continuous true ls) _ h)))

  pub start_is : (continuous : Bool) (c : Context) (l : Lval) (e : Expr) → lval.IsWellFormed l
      → expr.IsWellFormed e → NoneOf (target_refusals ns continuous true l) → NoneOf (expr_refusals ns true c e)
      → IsStart ss l e
  start_is continuous c l e wl we hl he =
      let x = target_is continuous l wl hl in
      let few : x.bits ≤ 128 = target_few continuous l wl hl x in
      let y = read ns true c e named_so (sound ns ss meant) we he in
      record {
        sized = subst IsSome (sym (x.sized ∙ within_near x.bits few)) refl;
        fixed = ap is_constant (sym (known_is ns ss meant true e (none-front (refusals ns true e) _ he)))
            ∙ y.constant refl;
      }

pub starts : (ns : List Names) (ss : List Scope) (l : Lval) (e : Expr) → AreRight ns ss → AreSound ns
    → lval.IsWellFormed l → expr.IsWellFormed e → assignment_refusals ns false true true l e ≡ [] → IsStart ss l e
starts ns ss l e r s wl we h =
    let c : Context = assigned_in ns (target_width ns l) e in
    start_is ns ss r.0 (r.1 s) false c l e wl we
    (none-front (target_refusals ns false true l) (expr_refusals ns true c e) h)
    (none-back (target_refusals ns false true l) (expr_refusals ns true c e) h)
