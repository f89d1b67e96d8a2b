-- What isn't refused has a size.
use Rattle.std.specs.Prelude.{◌≡◌, refl, ◌+◌, ◌≤◌, List, [], ◌++◌}
use Rattle.std.specs.Prelude.{Bool, true, false, ◌&&◌, ◌||◌, not, Some, None}
use Rattle.std.specs.Prelude.{pos, int_le, if◌then◌else◌}
use Rattle.std.proofs.Common.{ap, ◌∙◌, subst, arith, true≢false}
use Rattle.fv_text.specs.declared.pos.Pos.{Pos}
use Rattle.vl_tree.specs.Expr.{
  Expr,
  Exprs,
  Selects,
  number,
  name,
  paren,
  unary,
  binary,
  conditional,
  concat,
  repeat,
  cast,
  none,
  more,
  whole,
  bit,
  part,
  indexed,
}
use Rattle.vl_tree.specs.ExprWellFormed.{IsWellFormed, AreWellFormed, AreSelects}
use Rattle.vl_size.specs.declared.context.Context.{Context}
use Rattle.vl_size.specs.declared.decl.Decl.{Decl}
use Rattle.vl_size.specs.Divisors.{own_context, zero_divisor}
use Rattle.vl_size.specs.Divisors.{parts_zero_divisor, selects_zero_divisor, left_context, right_context}
use Rattle.vl_size.specs.Size.{◌>>=◌, within}
use Rattle.vl_size.specs.Size.{divides}
use Rattle.vl_size.specs.Size.{vector_size, word_size}
use Rattle.vl_size.specs.Table.{span}
use Rattle.vl_size.specs.Way.{way, keeps_size}
use Rattle.vl_size.proofs.Rest.{within_near}
use Rattle.vl_mean.specs.ConstantFaults.{capped, wide_times}
use Rattle.vl_elab_spec.specs.declared.elab_fault.ElabFault.TheVariants as f
use Rattle.vl_elab_spec.specs.Expressions.{refused_if, too_wide}
use Rattle.vl_elab_spec.specs.Expressions.{vector_width, word_width, far, against}
use Rattle.vl_elab_spec.specs.Expressions.{no_copies, none_behind, vector_selects, memory_selects}
use Rattle.vl_elab_spec.specs.Expressions.{refusals, all_refusals, select_refusals}
use Rattle.vl_elab_spec.specs.Expressions.{known, expr_refusals}
use Rattle.vl_elab_spec.specs.Meanings.{Meaning, undeclared, constant, loop_variable, object, faulty, shapeless, later}
use Rattle.vl_elab_spec.specs.Meanings.{Names, meaning_in, is_known, bound, objects}
use Rattle.vl_elab_accepted_laws.proofs.Contained.{or_first}
use Rattle.vl_elab_accepted_laws.proofs.Fresh.{NoneOf, none-front, none-back, some-fault}
use Rattle.vl_elab_scope.specs.Seen.{AllNamed}
use Rattle.vl_elab_accepted_laws.specs.Sized.{IsSound, AreSound, IsSure, AreSure, IsSized}
use Rattle.vl_elab_accepted_laws.proofs.Fixed.{no_texts}
use Rattle.vl_elab_accepted_laws.proofs.Tests.{passed, narrow, both_none, undivided}
use Rattle.vl_elab_accepted_laws.proofs.Tests.{within_sum, capped_sum, few_uncapped, uncapped, copied}
use Rattle.vl_elab_accepted_laws.proofs.Parts.{ds, of, of_exprs, of_selects, known_true, part_at, fits_along, part_wide}
use Rattle.vl_elab_accepted_laws.proofs.Parts.{count_at}
use Rattle.vl_elab_accepted_laws.proofs.Parts.{AreSelected, AreSized, concat_sized, repeat_sized, unary_sized}
use Rattle.vl_elab_accepted_laws.proofs.Parts.{binary_sized}
use Rattle.vl_elab_accepted_laws.proofs.Parts.{conditional_sized, named_fine}

-- where no constant is demanded, each net and variable has a known shape
module _ (ns : List Names) (named : AllNamed ns) (sure : AreSure ns) (Free : Type 0) (sound : Free → AreSound ns) where
  -- a constant is demanded
  demanded : true ≡ false → Free
  demanded e = absurd (true≢false e)

  mutual
    pub sized_where : (fixed : Bool) → (fixed ≡ false → Free) → (c : Context) (e : Expr) → IsWellFormed e
        → NoneOf (refusals ns fixed e)
        → zero_divisor (ds ns) c (of ns e) ≡ None → IsSized ns fixed e
    sized_where fixed u c (number p n) w h z = record {
      bits = n.width;
      sized = refl;
      wide = refl;
      some = n.some_bits;
      few = n.few_bits;
      constant = λ e. refl;
      names = tt;
    }
    sized_where fixed u c (name p text ss) w h z =
        let x = named_fine ns named sure Free sound fixed u c p text ss (meaning_in ns text) refl
        (λ fixed u may d one few h k t z. vector_where fixed u may p d ss w.1 one few h k t z)
        (λ fixed u d one few h k t z. word_where fixed u p d ss w.1 one few h k t z) h z in
        record {
          bits = x.bits;
          sized = x.sized;
          wide = x.wide;
          some = x.some;
          few = x.few;
          constant = x.constant_name;
          names = x.names;
        }
    sized_where fixed u c (paren p x) w h z =
        let inner = sized_where fixed u c x w (none-front (refusals ns fixed x) _ h) z in
        record {
          bits = inner.bits;
          sized = inner.sized;
          wide = inner.wide;
          some = inner.some;
          few = inner.few;
          constant = inner.constant;
          names = inner.names;
        }
    sized_where fixed u c (unary p op x) w h z =
        unary_sized ns fixed p op x (sized_where fixed u (if keeps_size op then c else own_context (ds ns) (of ns x)) x w.1
        (none-front (refusals ns fixed x) _ h) z)
    sized_where fixed u c (binary p op x y) w h z =
        let div = fixed || divides op in
        let free = λ (e : div ≡ false). u (or_first fixed (divides op) e) in
        let inner = both_none _ _ (both_none _ _ z).1 in
        let parts = none-front (refusals ns div x ++ refusals ns div y) _ h in
        binary_sized ns fixed p op x y (sized_where div free (left_context (ds ns) (way op) op c (of ns x) (of ns y)) x w.2
        (none-front (refusals ns div x) (refusals ns div y) parts) inner.0)
        (sized_where div free (right_context (ds ns) (way op) op c (of ns x) (of ns y)) y w.3
        (none-back (refusals ns div x) (refusals ns div y) parts) inner.1)
    sized_where fixed u c (conditional p k x y) w h z =
        let inner = both_none _ _ z in
        let two = both_none _ _ inner.1 in
        let all = none-front (refusals ns fixed k ++ refusals ns fixed x ++ refusals ns fixed y) _ h in
        let front = none-front (refusals ns fixed k ++ refusals ns fixed x) (refusals ns fixed y) all in
        conditional_sized ns fixed p k x y
        (sized_where fixed u (own_context (ds ns) (of ns k)) k w.1
        (none-front (refusals ns fixed k) (refusals ns fixed x) front) inner.0)
        (sized_where fixed u c x w.2 (none-back (refusals ns fixed k) (refusals ns fixed x) front) two.0)
        (sized_where fixed u c y w.3
        (none-back (refusals ns fixed k ++ refusals ns fixed x) (refusals ns fixed y) all) two.1)
    sized_where fixed u c (concat p es) w h z =
        concat_sized ns fixed p es w.0 (all_sized_where fixed u es w.1 (none-front (all_refusals ns fixed es) _ h) z)
        (none-back (all_refusals ns fixed es) _ h)
    sized_where fixed u c (repeat p n es) w h z =
        let inner = both_none _ _ z in
        let front = refusals ns true n ++ all_refusals ns fixed es in
        let all = none-front (front ++ no_copies ns p n) _ h in
        let parts = none-front front (no_copies ns p n) all in
        repeat_sized ns fixed p n es w.1
        (sized_where true demanded (own_context (ds ns) (of ns n)) n w.0
        (none-front (refusals ns true n) (all_refusals ns fixed es) parts)
        inner.0)
        (all_sized_where fixed u es w.2 (none-back (refusals ns true n) (all_refusals ns fixed es) parts) inner.1) inner.0
        (none-back front (no_copies ns p n) all) (none-back (front ++ no_copies ns p n) _ h)
    sized_where fixed u c (cast p to x) w h z =
        let inner = sized_where fixed u (own_context (ds ns) (of ns x)) x w (none-front (refusals ns fixed x) _ h) z in
        record {
          bits = inner.bits;
          sized = inner.sized;
          wide = inner.wide;
          some = inner.some;
          few = inner.few;
          constant = inner.constant;
          names = inner.names;
        }

    all_sized_where : (fixed : Bool) → (fixed ≡ false → Free) → (es : Exprs) → AreWellFormed es
        → NoneOf (all_refusals ns fixed es)
        → parts_zero_divisor (ds ns) (of_exprs ns es) ≡ None → AreSized ns fixed es
    all_sized_where fixed u none w h z = record {
      bits = 0;
      sized = refl;
      wide = refl;
      some = λ s. absurd s;
      constant_all = λ e. refl;
      names = tt;
    }
    all_sized_where fixed u (more e es) w h z =
        let inner = both_none _ _ z in
        let x = sized_where fixed u (own_context (ds ns) (of ns e)) e w.0
        (none-front (refusals ns fixed e) (all_refusals ns fixed es) h) inner.0 in
        let y = all_sized_where fixed u es w.1 (none-back (refusals ns fixed e) (all_refusals ns fixed es) h) inner.1 in
        record {
          bits = x.bits + y.bits;
          sized = (λ i. x.sized i >>= λ m. y.sized i >>= λ n. within (m + n)) ∙ within_sum x.bits y.bits;
          wide = (λ i. x.wide i >>= λ m. y.wide i >>= λ n. Some (capped (m + n)))
              ∙ ap Some (capped_sum x.bits y.bits);
          some = λ s. omega (arith, x.some);
          constant_all = λ e i. x.constant e i && y.constant_all e i;
          names = (x.names, y.names);
        }

    -- of a vector
    pub vector_where : (fixed : Bool) → (fixed ≡ false → Free) → (may : Bool) (p : Pos) (d : Decl) (ss : Selects)
        → AreSelects ss → 1 ≤ d.width → d.width ≤ 128 → NoneOf (select_refusals ns fixed ss) → NoneOf (vector_selects ns may d ss)
        → NoneOf (too_wide p (vector_width ns d ss)) → selects_zero_divisor (ds ns) (of_selects ns ss) ≡ None
        → AreSelected ns fixed ss (vector_size (ds ns) d (of_selects ns ss)) (vector_width ns d ss)
    vector_where fixed u may p d whole w one few h k t z = record {
      bits = d.width;
      sized = refl;
      wide = refl;
      some = one;
      few = few;
      alone = λ e. refl;
      names = tt;
    }
    vector_where fixed u may p d (bit q i whole) w one few h k t z =
        let x = sized_where fixed u (own_context (ds ns) (of ns i)) i w.0 (none-front (refusals ns fixed i) _ h)
        (both_none _ (selects_zero_divisor (ds ns) whole) z).0 in
        record {
          bits = 1;
          sized = ap (λ o. o >>= λ k. Some 1) x.sized;
          wide = refl;
          some = omega arith;
          few = omega arith;
          alone = λ e j. no_texts (of ns i) (x.constant e) j ++ [];
          names = (x.names, tt);
        }
    vector_where fixed u may p d (part q l r whole) w one few h k t z =
        let inner = both_none _ _ (both_none _ (selects_zero_divisor (ds ns) whole) z).0 in
        let parts = none-front (refusals ns true l ++ refusals ns true r) _ h in
        let x = sized_where true demanded (own_context (ds ns) (of ns l)) l w.0
        (none-front (refusals ns true l) (refusals ns true r) parts)
        inner.0 in
        let y = sized_where true demanded (own_context (ds ns) (of ns r)) r w.1
        (none-back (refusals ns true l) (refusals ns true r) parts)
        inner.1 in
        let kl = known_true ns (ds ns) l x.bits (x.constant refl) x.sized inner.0 in
        let kr = known_true ns (ds ns) r y.bits (y.constant refl) y.sized inner.1 in
        let first = refused_if (not may) (f.Range q) in
        let ranges = none-front (first ++ far ns q l ++ far ns q r ++ against ns d q l r) (none_behind ns whole) k in
        let bounds = none-front (first ++ far ns q l ++ far ns q r) (against ns d q l r) ranges in
        let fits = fits_along ns d q l r kl kr
        (none-back first (far ns q l) (none-front (first ++ far ns q l) (far ns q r) bounds))
        (none-back (first ++ far ns q l) (far ns q r) bounds)
        (none-back (first ++ far ns q l ++ far ns q r) (against ns d q l r) ranges) in
        let wide = part_wide ns d l r kl kr fits in
        let few = narrow p (span (bound ns l) (bound ns r)) (subst (λ o. NoneOf (too_wide p o)) wide t) in
        record {
          bits = span (bound ns l) (bound ns r);
          sized = part_at ns (ds ns) d q l r x.bits y.bits (x.constant refl) (y.constant refl) x.sized y.sized fits
              ∙ within_near (span (bound ns l) (bound ns r)) few;
          wide = wide;
          some = omega arith;
          few = few;
          alone = λ e j. no_texts (of ns l) (x.constant refl) j ++ (no_texts (of ns r) (y.constant refl) j ++ []);
          names = (x.names, (y.names, tt));
        }
    vector_where fixed u may p d (indexed q s n whole) w one few h k t z =
        let inner = both_none _ _ (both_none _ (selects_zero_divisor (ds ns) whole) z).0 in
        let parts = none-front (refusals ns fixed s ++ refusals ns true n) _ h in
        let x = sized_where fixed u (own_context (ds ns) (of ns s)) s w.0
        (none-front (refusals ns fixed s) (refusals ns true n) parts) inner.0 in
        let y = sized_where true demanded (own_context (ds ns) (of ns n)) n w.1
        (none-back (refusals ns fixed s) (refusals ns true n) parts) inner.1 in
        let kn = known_true ns (ds ns) n y.bits (y.constant refl) y.sized inner.1 in
        let copies = copied (bound ns n) 1
        (passed (is_known ns n) (int_le (pos 1) (bound ns n)) (f.Range q) kn
        (none-back (refused_if (not may) (f.Range q)) (no_copies ns q n)
        (none-front (refused_if (not may) (f.Range q) ++ no_copies ns q n) (none_behind ns whole) k)))
        (omega arith) in
        let wide = ap (λ t. if t then wide_times (bound ns n) 1 else None) kn ∙ copies.wide_is in
        let few = few_uncapped copies.bits
        (narrow p (capped copies.bits) (subst (λ o. NoneOf (too_wide p o)) wide t)) in
        record {
          bits = copies.bits;
          sized = count_at ns (ds ns) d q s n x.bits y.bits (y.constant refl) x.sized y.sized ∙ copies.size_is
              ∙ within_near copies.bits few;
          wide = wide ∙ ap Some (uncapped copies.bits few);
          some = copies.some;
          few = few;
          alone = λ e j. no_texts (of ns s) (x.constant e) j ++ (no_texts (of ns n) (y.constant refl) j ++ []);
          names = (x.names, (y.names, tt));
        }
    vector_where fixed u may p d (bit q i (bit r j ss)) w one few h k t z = absurd (some-fault _ [] (none-back _ _ k))
    vector_where fixed u may p d (bit q i (part r j l ss)) w one few h k t z = absurd (some-fault _ [] (none-back _ _ k))
    vector_where fixed u may p d (bit q i (indexed r j l ss)) w one few h k t z = absurd (some-fault _ [] (none-back _ _ k))
    vector_where fixed u may p d (part q i m (bit r j ss)) w one few h k t z = absurd (some-fault _ [] (none-back _ _ k))
    vector_where fixed u may p d (part q i m (part r j l ss)) w one few h k t z = absurd (some-fault _ [] (none-back _ _ k))
    vector_where fixed u may p d (part q i m (indexed r j l ss)) w one few h k t z = absurd (some-fault _ [] (none-back _ _ k))
    vector_where fixed u may p d (indexed q i m (bit r j ss)) w one few h k t z = absurd (some-fault _ [] (none-back _ _ k))
    vector_where fixed u may p d (indexed q i m (part r j l ss)) w one few h k t z =
        absurd (some-fault _ [] (none-back _ _ k))
    vector_where fixed u may p d (indexed q i m (indexed r j l ss)) w one few h k t z =
        absurd (some-fault _ [] (none-back _ _ k))

    -- of a memory
    pub word_where : (fixed : Bool) → (fixed ≡ false → Free) → (p : Pos) (d : Decl) (ss : Selects)
        → AreSelects ss → 1 ≤ d.width → d.width ≤ 128 → NoneOf (select_refusals ns fixed ss) → NoneOf (memory_selects ns p d ss)
        → NoneOf (too_wide p (word_width ns d ss)) → selects_zero_divisor (ds ns) (of_selects ns ss) ≡ None
        → AreSelected ns fixed ss (word_size (ds ns) d (of_selects ns ss)) (word_width ns d ss)
    word_where fixed u p d whole w one few h k t z = absurd (some-fault _ [] k)
    word_where fixed u p d (bit q i ss) w one few h k t z =
        let inner = both_none _ (selects_zero_divisor (ds ns) (of_selects ns ss)) z in
        let x = sized_where fixed u (own_context (ds ns) (of ns i)) i w.0 (none-front (refusals ns fixed i) _ h) inner.0 in
        let y = vector_where fixed u true p d ss w.1 one few (none-back (refusals ns fixed i) _ h) k t inner.1 in
        record {
          bits = y.bits;
          sized = ap (λ o. o >>= λ k. vector_size (ds ns) d (of_selects ns ss)) x.sized ∙ y.sized;
          wide = y.wide;
          some = y.some;
          few = y.few;
          alone = λ e j. no_texts (of ns i) (x.constant e) j ++ y.alone e j;
          names = (x.names, y.names);
        }
    word_where fixed u p d (part q l r ss) w one few h k t z = absurd (some-fault _ [] k)
    word_where fixed u p d (indexed q s n ss) w one few h k t z = absurd (some-fault _ [] k)

-- ---- a whole expression

module _ (ns : List Names) (named : AllNamed ns) (sound : AreSound ns) where
  sure : AreSure ns
  sure text = by (meaning_in ns text) (sound text)
    where
      by : (m : Meaning) → IsSound m → IsSure m
      by undeclared h = tt
      by (constant c selected) h = tt
      by loop_variable h = tt
      by (object d role scalar) h = tt
      by faulty h = h
      by shapeless h = tt
      by later h = tt

  pub fine : (fixed : Bool) (c : Context) (e : Expr) → IsWellFormed e → NoneOf (refusals ns fixed e)
      → zero_divisor (ds ns) c (of ns e) ≡ None → IsSized ns fixed e
  fine fixed c e w h z = sized_where ns named sure (AreSound ns) (λ s. s) fixed (λ e. sound) c e w h z

  pub vector : (fixed may : Bool) (p : Pos) (d : Decl) (ss : Selects) → AreSelects ss → 1 ≤ d.width → d.width ≤ 128
      → NoneOf (select_refusals ns fixed ss) → NoneOf (vector_selects ns may d ss)
      → NoneOf (too_wide p (vector_width ns d ss)) → selects_zero_divisor (ds ns) (of_selects ns ss) ≡ None
      → AreSelected ns fixed ss (vector_size (ds ns) d (of_selects ns ss)) (vector_width ns d ss)
  vector fixed may p d ss w one few h k t z =
      vector_where ns named sure (AreSound ns) (λ s. s) fixed (λ e. sound) may p d ss w one few h k t z

  pub word : (fixed : Bool) (p : Pos) (d : Decl) (ss : Selects) → AreSelects ss → 1 ≤ d.width → d.width ≤ 128
      → NoneOf (select_refusals ns fixed ss) → NoneOf (memory_selects ns p d ss)
      → NoneOf (too_wide p (word_width ns d ss)) → selects_zero_divisor (ds ns) (of_selects ns ss) ≡ None
      → AreSelected ns fixed ss (word_size (ds ns) d (of_selects ns ss)) (word_width ns d ss)
  word fixed p d ss w one few h k t z =
      word_where ns named sure (AreSound ns) (λ s. s) fixed (λ e. sound) p d ss w one few h k t z

pub read : (ns : List Names) (fixed : Bool) (c : Context) (e : Expr) → AllNamed ns → AreSound ns → IsWellFormed e
    → expr_refusals ns fixed c e ≡ [] → IsSized ns fixed e
read ns fixed c e named sound w h =
    fine ns named sound fixed c e w (none-front (refusals ns fixed e) _ h)
    (undivided (zero_divisor (objects ns) c (known ns e)) (none-back (refusals ns fixed e) _ h))

-- where a constant is demanded, no net and no variable need have a known shape
pub read_constant : (ns : List Names) (c : Context) (e : Expr) → AllNamed ns → AreSure ns → IsWellFormed e
    → expr_refusals ns true c e ≡ [] → IsSized ns true e
read_constant ns c e named sure w h =
    sized_where ns named sure ⊥ (λ n. absurd n) true (λ e. absurd (true≢false e)) c e w (none-front (refusals ns true e) _ h)
    (undivided (zero_divisor (objects ns) c (known ns e)) (none-back (refusals ns true e) _ h))
