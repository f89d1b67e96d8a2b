-- A target that isn't refused is one of a design without hierarchy: it has its size there, each name in it may be
-- assigned, and its indices are constant where they have to be.
use Rattle.std.specs.Prelude.{◌≡◌, refl, ℕ, ◌+◌, ◌≤◌, max, List, [], ◌∷◌, ◌++◌, Bool, true, false, ◌&&◌, ◌||◌, not}
use Rattle.std.specs.Prelude.{is_none, nat_le, All, if◌then◌else◌, Option, Some, None, IsSome}
use Rattle.std.proofs.Common.{ap, sym, ◌∙◌, subst, true≢false, arith}
use Rattle.std.proofs.lemmas.Option.{same_Some}
use Rattle.std.proofs.lemmas.Bool.Decides.{nat_tests}
use Rattle.std.proofs.lemmas.List.Elements.{All-cons}
use Rattle.fv_text.specs.declared.pos.Pos.{Pos}
use Rattle.vl_tree.specs.Expr.{
  Expr,
  Exprs,
  Selects,
  number,
  name,
  paren,
  unary,
  binary,
  conditional,
  concat,
  repeat,
  cast,
  none,
  more,
  whole,
  bit,
  part,
  indexed,
}
use Rattle.vl_tree.specs.ExprWellFormed as expr
use Rattle.vl_tree.specs.ExprWellFormed.{AreSelects}
use Rattle.vl_tree.specs.Lval.{Lval, Lvals, named, joined, no_lvals, more_lvals}
use Rattle.vl_tree.specs.LvalWellFormed as lval
use Rattle.vl_size.specs.declared.context.Context.{Context}
use Rattle.vl_size.specs.declared.decl.Class.{Class}
use Rattle.vl_size.specs.declared.decl.Class.TheVariants as class
use Rattle.vl_size.specs.declared.decl.Decl.{Decl}
use Rattle.vl_size.specs.Divisors.{larger, selects_zero_divisor}
use Rattle.vl_size.specs.Sign.{sign}
use Rattle.vl_size.specs.Size.{◌>>=◌, are_constant, is_constant, or_none, size, vector_size, word_size}
use Rattle.vl_size.specs.Table.{declared_as}
use Rattle.vl_mean.specs.ConstantFaults.{capped}
use Rattle.vl_mean.specs.Constants.{settled_selects}
use Rattle.vl_mean.specs.FlatLaw.{IsReadIn, IsRead as IsReadFlat, IsTarget, AreTargets, IsAssigned, assigned_context}
use Rattle.vl_mean.specs.FlatLaw.{target_size, all_target_sizes, flat_scopes, is_net, is_variable, names_in_selects}
use Rattle.vl_mean.specs.Scopes.{Scope, constant_in, full, visible, is_clock_class}
use Rattle.vl_mean.specs.Targets.{are_fixed, is_decl}
use Rattle.vl_mean_flat.specs.Found.{Found, IsFound}
use Rattle.vl_mean_flat.specs.FullNames.{flat_expr, flat_lval, flat_lvals, flat_selects, renamed, renamed_selects}
use Rattle.vl_mean_flat.specs.Names.{Names as EachName, SelectsNames}
use Rattle.vl_mean_flat.proofs.FoundNames.{AreScopes, found}
use Rattle.vl_mean_flat.proofs.NamesMap.{target_map}
use Rattle.vl_mean_flat.proofs.SameExpr as same
use Rattle.vl_flow_spec.proofs.Flat.{fixed as fixed_in, flat_fixed}
use Rattle.vl_elab_spec.specs.declared.elab_fault.ElabFault.TheVariants as f
use Rattle.vl_elab_spec.specs.declared.role.Role.{Role}
use Rattle.vl_elab_spec.specs.Expressions.{divided_by_zero, expr_refusals, is_constant_name, known, name_width}
use Rattle.vl_elab_spec.specs.Expressions.{object_selects, refused_if, select_refusals, too_wide}
use Rattle.vl_elab_spec.specs.Meanings.{Meaning, undeclared, constant, loop_variable, object, faulty, shapeless, later}
use Rattle.vl_elab_spec.specs.Meanings.{is_input}
use Rattle.vl_elab_spec.specs.Meanings.{Names, constants, meaning_in, objects, value_of}
use Rattle.vl_elab_spec.specs.Statements.{assigned_in, assigned_refusals, assignment_refusals, may_be_assigned}
use Rattle.vl_elab_spec.specs.Statements.{target_refusals, target_selects, target_width, targets_refusals}
use Rattle.vl_elab_spec.specs.Statements.{targets_width}
use Rattle.vl_elab_spec.specs.Statements.{widened}
use Rattle.vl_elab_accepted_laws.proofs.Contained.{each-has, or_second}
use Rattle.vl_elab_accepted_laws.proofs.Fresh.{NoneOf, none-front, none-back, not-refused}
use Rattle.vl_elab_scope.specs.Seen.{AllNamed, object_of}
use Rattle.vl_elab_scope.specs.Texts.{AgreeOn, exprs_texts, selects_texts, texts}
use Rattle.vl_elab_scope.proofs.Agree as agree
use Rattle.vl_elab_scope.proofs.ScopeObjects.{object_is}
use Rattle.vl_elab_accepted_laws.specs.Sized.{IsRead}
use Rattle.vl_elab_accepted_laws.proofs.Parts.{AreSelected, selected}
use Rattle.vl_elab_accepted_laws.proofs.Sizes.{vector, word}
use Rattle.vl_elab_accepted_laws.proofs.Tests.{few_uncapped, narrow, uncapped, undivided}
use Rattle.vl_elab_accepted_laws.specs.Means.{AreMeant, MeansIn}
use Rattle.vl_elab_accepted_laws.proofs.Agreeing.{refused_name, selects_are, sound}
use Rattle.vl_elab_flatten_laws.proofs.Divided.{same_selects_divisor}
use Rattle.vl_elab_flatten_laws.proofs.LawfulNames.{selects_renamed, selects_text}
use Rattle.vl_elab_flatten_laws.proofs.Expressions.{IsFlat, IsNoClock, Reads, flat_so, found_name, no_clock, read_in}
use Rattle.vl_elab_flatten_laws.proofs.Expressions.{same_decl}

-- ---- what has no names is constant

cons_none : (text : List ℕ) (ts : List (List ℕ)) → text ∷ ts ≡ [] → ⊥
cons_none text ts h = cc

no_first : (xs ys : List (List ℕ)) → xs ++ ys ≡ [] → xs ≡ []
no_first [] ys h = refl
no_first (x ∷ xs) ys h = cc

no_second : (xs ys : List (List ℕ)) → xs ++ ys ≡ [] → ys ≡ []
no_second [] ys h = h
no_second (x ∷ xs) ys h = cc

mutual
  constant_alone : (e : Expr) → texts e ≡ [] → is_constant e ≡ true
  constant_alone (number p n) h = refl
  constant_alone (name p text ss) h = absurd (cons_none text (selects_texts ss) h)
  constant_alone (paren p x) h = constant_alone x h
  constant_alone (unary p op x) h = constant_alone x h
  constant_alone (binary p op x y) h =
      λ i. constant_alone x (no_first (texts x) (texts y) h) i && constant_alone y (no_second (texts x) (texts y) h) i
  constant_alone (conditional p c x y) h =
      let rest = no_second (texts c) (texts x ++ texts y) h in
      λ i. constant_alone c (no_first (texts c) (texts x ++ texts y) h) i
      && (constant_alone x (no_first (texts x) (texts y) rest) i
      && constant_alone y (no_second (texts x) (texts y) rest) i)
  constant_alone (concat p es) h = constants_alone es h
  constant_alone (repeat p n es) h =
      λ i. constant_alone n (no_first (texts n) (exprs_texts es) h) i
      && constants_alone es (no_second (texts n) (exprs_texts es) h) i
  constant_alone (cast p to x) h = constant_alone x h

  constants_alone : (es : Exprs) → exprs_texts es ≡ [] → are_constant es ≡ true
  constants_alone none h = refl
  constants_alone (more e es) h =
      λ i. constant_alone e (no_first (texts e) (exprs_texts es) h) i
      && constants_alone es (no_second (texts e) (exprs_texts es) h) i

module _ (f : List ℕ → List ℕ) (es : List Decl) where
  fixed_alone : (xs : Selects) → selects_texts xs ≡ [] → fixed_in es (renamed_selects f xs) ≡ true
  fixed_alone whole h = refl
  fixed_alone (bit p x xs) h =
      λ i. (same.same_constant f x ∙ constant_alone x (no_first (texts x) (selects_texts xs) h)) i
      && fixed_alone xs (no_second (texts x) (selects_texts xs) h) i
  fixed_alone (part p l r xs) h =
      fixed_alone xs (no_second (texts r) (selects_texts xs) (no_second (texts l) (texts r ++ selects_texts xs) h))
  fixed_alone (indexed p x n xs) h =
      λ i. (same.same_constant f x ∙ constant_alone x (no_first (texts x) (texts n ++ selects_texts xs) h)) i
      && fixed_alone xs (no_second (texts n) (selects_texts xs) (no_second (texts x) (texts n ++ selects_texts xs) h)) i

-- ---- what may be assigned

abbrev pub may_of : Bool → Decl → Bool
may_of true d = is_net d
may_of false d = is_variable d

may_named : (continuous : Bool) (d : Decl) (text : List ℕ) (c : Class) → d.class ≡ c
    → may_be_assigned continuous c ≡ true → may_of continuous (record d { name = text }) ≡ true
may_named true d text class.Net e h = ap (λ k. is_net (record d { name = text; class = k })) e
may_named true d text class.Variable e h = absurd (true≢false (sym h))
may_named true d text class.Clock e h = absurd (true≢false (sym h))
may_named true d text class.Reset e h = absurd (true≢false (sym h))
may_named true d text class.Input e h = absurd (true≢false (sym h))
may_named true d text class.EachCycle e h = absurd (true≢false (sym h))
may_named true d text class.Once e h = absurd (true≢false (sym h))
may_named false d text class.Variable e h = ap (λ k. is_variable (record d { name = text; class = k })) e
may_named false d text class.Net e h = absurd (true≢false (sym h))
may_named false d text class.Clock e h = absurd (true≢false (sym h))
may_named false d text class.Reset e h = absurd (true≢false (sym h))
may_named false d text class.Input e h = absurd (true≢false (sym h))
may_named false d text class.EachCycle e h = absurd (true≢false (sym h))
may_named false d text class.Once e h = absurd (true≢false (sym h))

not_wrong : (b : Bool) → not b ≡ false → b ≡ true
not_wrong true h = refl
not_wrong false h = absurd (true≢false h)

few_true : (n : ℕ) → n ≤ 128 → nat_le n 128 ≡ true
few_true n h = grind (arith, h, nat_tests)

both_capped : (m n : ℕ) → capped (capped m + capped n) ≡ capped (m + n)
both_capped m n = omega arith

module _ (ns : List Names) (ss : List Scope) (es : List Decl) (named_so : AllNamed ns) (meant : AreMeant ns ss)
    (laid : AreScopes es ss) where
  abbrev Read : List ℕ → Type 0
  Read text = Reads ns ss es named_so meant laid text

  -- a name with its selects, as it stands without hierarchy
  record IsFlatName (fixed : Bool) (p : Pos) (text : List ℕ) (xs : Selects) : Type 0 where
    bits : ℕ
    sized : size es (name p (full ss text) (flat_selects ss xs)) ≡ Some bits
    wide : name_width ns text (meaning_in ns text) xs ≡ Some bits
    few : bits ≤ 128
    reads : IsReadFlat es (name p (full ss text) (flat_selects ss xs))
    fixed_so : (not fixed || are_fixed (flat_scopes es) (flat_selects ss xs)) ≡ true

  flat_name : (fixed : Bool) (p : Pos) (text : List ℕ) (xs : Selects) (d : Decl) (role : Role) (scalar : Bool)
      → meaning_in ns text ≡ object d role scalar → is_clock_class d.class ≡ false
      → NoneOf (select_refusals ns (fixed || false) xs)
      → selects_zero_divisor (objects ns) (settled_selects (constants ns) xs) ≡ None
      → AreSelected ns (fixed || false) xs (if is_none d.words
      then vector_size (objects ns) d (settled_selects (constants ns) xs)
      else word_size (objects ns) d (settled_selects (constants ns) xs)) (name_width ns text (object d role scalar) xs)
      → (is : constant_in ss text ≡ None) → IsFlatName fixed p text xs
  flat_name fixed p text xs d role scalar e clock inner z x is = record {
    bits = x.bits;
    sized = sized_so;
    wide = ap (λ m. name_width ns text m xs) e ∙ x.wide;
    few = x.few;
    reads = record {
      sized = subst IsSome (sym sized_so) refl;
      divided = ap is_none (same_selects_divisor (full ss) (visible ss) es ys found_so.1
          ∙ sym (agree.same_selects_divisor (objects ns) (visible ss) ys selects_agree)
          ∙ ap (selects_zero_divisor (objects ns)) (sym same_so) ∙ z);
      clockless = All-cons (IsNoClock ns ss es named_so meant laid) (full ss text) (names_in_selects (flat_selects ss xs))
          (no_clock ns ss es named_so meant laid text read_so)
          (selects_renamed (full ss) (IsNoClock ns ss es named_so meant laid) ys
          (target_map (no_clock ns ss es named_so meant laid) ss (named p text xs) (is, read_so, names_so)).2);
    };
    fixed_so = fixed_of fixed x.alone;
  }
    where
      ys : Selects
      ys = settled_selects (constant_in ss) xs

      same_so : settled_selects (constants ns) xs ≡ ys
      same_so = selects_are ns ss meant (fixed || false) p text xs inner (ap value_of e) is

      read_so : Read text
      read_so = subst IsRead (sym e) clock

      names_so : SelectsNames Read ys
      names_so = subst (SelectsNames Read) same_so x.names

      found_so : EachName (Found es ss) (name p text ys)
      found_so = (
        found_name ns ss es named_so meant laid text read_so,
        (target_map (found_name ns ss es named_so meant laid) ss (named p text xs) (is, read_so, names_so)).2,
      )

      selects_agree : AgreeOn (declared_as (objects ns)) (declared_as (visible ss)) (selects_texts ys)
      selects_agree t there =
          same_decl ns ss es named_so meant laid t
          (each-has Read (selects_texts ys) t (selects_text Read ys names_so) there)

      name_agrees : AgreeOn (declared_as (objects ns)) (declared_as (visible ss)) (texts (name p text ys))
      name_agrees t there =
          same_decl ns ss es named_so meant laid t
          (each-has Read (text ∷ selects_texts ys) t (read_so, selects_text Read ys names_so) there)

      judged : size (objects ns) (name p text (settled_selects (constants ns) xs)) ≡ Some x.bits
      judged =
          ap (λ o. o >>= λ d. if is_none d.words then vector_size (objects ns) d (settled_selects (constants ns) xs)
          else word_size (objects ns) d (settled_selects (constants ns) xs))
          (object_is ns text named_so ∙ ap object_of e) ∙ x.sized

      sized_so : size es (name p (full ss text) (flat_selects ss xs)) ≡ Some x.bits
      sized_so =
          same.same_size (full ss) (visible ss) es (name p text ys) found_so
          ∙ sym (agree.same_size (objects ns) (visible ss) (name p text ys) name_agrees)
          ∙ ap (λ zs. size (objects ns) (name p text zs)) (sym same_so) ∙ judged

      fixed_of : (b : Bool) → ((b || false) ≡ true → selects_texts (settled_selects (constants ns) xs) ≡ [])
          → (not b || are_fixed (flat_scopes es) (flat_selects ss xs)) ≡ true
      fixed_of false alone = refl
      fixed_of true alone =
          flat_fixed es (flat_selects ss xs)
          ∙ fixed_alone (full ss) es ys (ap selects_texts (sym same_so) ∙ alone refl)

  -- ---- targets

  pub record IsFlatTarget (continuous fixed : Bool) (l : Lval) : Type 0 where
    pub bits : ℕ
    pub sized : target_size es (flat_lval ss l) ≡ bits
    pub wide : target_width ns l ≡ Some (capped bits)
    pub target : IsTarget es (may_of continuous) fixed (flat_lval ss l)

  record AreFlatTargets (continuous fixed : Bool) (ls : Lvals) : Type 0 where
    bits : ℕ
    sized : all_target_sizes es (flat_lvals ss ls) ≡ bits
    wide : targets_width ns ls ≡ Some (capped bits)
    targets : AreTargets es (may_of continuous) fixed (flat_lvals ss ls)

  flat_named : (continuous fixed : Bool) (p : Pos) (text : List ℕ) (xs : Selects) (m : Meaning)
      → meaning_in ns text ≡ m → AreSelects xs
      → NoneOf (select_refusals ns (fixed || is_constant_name ns m) xs
      ++ divided_by_zero (selects_zero_divisor (objects ns) (settled_selects (constants ns) xs))
      ++ assigned_refusals ns continuous p text m ++ target_selects ns p m (named p text xs)
      ++ too_wide p (name_width ns text m xs)) → IsFlatTarget continuous fixed (named p text xs)
  flat_named continuous fixed p text xs undeclared e w h = absurd (refused_name _ _ _ (none-front _ _ h))
  flat_named continuous fixed p text xs loop_variable e w h = absurd (refused_name _ _ _ (none-front _ _ h))
  flat_named continuous fixed p text xs (constant c selected) e w h =
      absurd (refused_name _ _ _ (none-front _ _ h))
  flat_named continuous fixed p text xs faulty e w h = absurd (subst (MeansIn ss text) e (meant text))
  flat_named continuous fixed p text xs shapeless e w h = absurd (subst (MeansIn ss text) e (meant text))
  flat_named continuous fixed p text xs later e w h = absurd (subst (MeansIn ss text) e (meant text))
  flat_named continuous fixed p text xs (object d role scalar) e w h =
      let means = subst (MeansIn ss text) e (meant text) in
      let inner = select_refusals ns (fixed || false) xs in
      let divided = divided_by_zero (selects_zero_divisor (objects ns) (settled_selects (constants ns) xs)) in
      let assigned = assigned_refusals ns continuous p text (object d role scalar) in
      let selects = object_selects ns p scalar d xs in
      let narrow = none-front (inner ++ divided ++ assigned ++ selects) _ h in
      let front = none-front (inner ++ divided ++ assigned) selects narrow in
      let two = none-front (inner ++ divided) assigned front in
      let kinds = none-back (inner ++ divided) assigned front in
      let clock = not-refused (is_clock_class d.class) _
      (none-front (refused_if (is_clock_class d.class) (f.Clock p)) _ kinds) in
      let may = not_wrong (may_be_assigned continuous d.class) (or_second (is_input role) _
      (not-refused _ _ (none-back (refused_if (is_clock_class d.class) (f.Clock p)) _ kinds))) in
      let z = undivided _ (none-back inner divided two) in
      let hs = none-front inner divided two in
      let x = selected ns (is_none d.words) (fixed || false) (not scalar) p d xs
      (λ may d one few h k t z. vector ns named_so (sound ns ss meant) (fixed || false) may p d xs w one few h k t z)
      (λ d one few h k t z. word ns named_so (sound ns ss meant) (fixed || false) p d xs w one few h k t z)
      means.2.some_bits means.2.few_bits hs (none-back (inner ++ divided ++ assigned) selects narrow)
      (none-back (inner ++ divided ++ assigned ++ selects) _ h) z in
      let y : IsFlatName fixed p text xs = flat_name fixed p text xs d role scalar e clock hs z x means.0 in
      let there : IsFound (full ss) (visible ss) es text = found es ss text d laid means.1 in
      record {
        bits = y.bits;
        sized = ap or_none y.sized;
        wide = y.wide ∙ ap Some (sym (uncapped y.bits y.few));
        target = (
          y.reads,
          ap (λ o. is_decl o (may_of continuous)) there.there
              ∙ may_named continuous there.decl (full ss text) d.class
              (ap (λ y. y.class) (same_Some there.decl d (sym there.here ∙ means.1))) may,
          y.fixed_so,
        );
      }

  mutual
    pub flat_target : (continuous fixed : Bool) (l : Lval) → lval.IsWellFormed l
        → NoneOf (target_refusals ns continuous fixed l) → IsFlatTarget continuous fixed l
    flat_target continuous fixed (named p text xs) w h =
        flat_named continuous fixed p text xs (meaning_in ns text) refl w.1 h
    flat_target continuous fixed (joined p ls) w h =
        let x = flat_targets continuous fixed ls w.1 (none-front (targets_refusals ns continuous fixed ls) _ h) in
        record { bits = x.bits; sized = x.sized; wide = x.wide; target = x.targets }

    flat_targets : (continuous fixed : Bool) (ls : Lvals) → lval.AreWellFormed ls
        → NoneOf (targets_refusals ns continuous fixed ls) → AreFlatTargets continuous fixed ls
    flat_targets continuous fixed no_lvals w h = record { bits = 0; sized = refl; wide = refl; targets = tt }
    flat_targets continuous fixed (more_lvals l ls) w h =
        let x = flat_target continuous fixed l w.0
        (none-front (target_refusals ns continuous fixed l) (targets_refusals ns continuous fixed ls) h) in
        let y = flat_targets continuous fixed ls w.1
        (none-back (target_refusals ns continuous fixed l) (targets_refusals ns continuous fixed ls) h) in
        record {
          bits = x.bits + y.bits;
          sized = λ i. x.sized i + y.sized i;
          wide = (λ i. x.wide i >>= λ m. y.wide i >>= λ n. Some (capped (m + n))) ∙ ap Some (both_capped x.bits y.bits);
          targets = (x.target, y.targets);
        }

  target_few : (continuous fixed : Bool) (l : Lval) → NoneOf (target_refusals ns continuous fixed l)
      → (x : IsFlatTarget continuous fixed l) → x.bits ≤ 128
  target_few continuous fixed (named p text xs) h x =
      few_uncapped x.bits (narrow p (capped x.bits) (subst (λ o. NoneOf (too_wide p o)) x.wide (none-back _ _ h)))
  target_few continuous fixed (joined p ls) h x =
      few_uncapped x.bits (narrow p (capped x.bits) (subst (λ o. NoneOf (too_wide p o)) x.wide
      (none-back (targets_refusals ns continuous fixed ls) _ h)))

  -- ---- assignments

  pub flat_assigned : (continuous fixed : Bool) (l : Lval) → lval.IsWellFormed l
      → NoneOf (target_refusals ns continuous fixed l)
      → IsAssigned es (may_of continuous) fixed (flat_lval ss l)
  flat_assigned continuous fixed l w h =
      let x = flat_target continuous fixed l w h in
      let few = target_few continuous fixed l h x in
      (x.target, subst (λ n. n ≤ 128) (sym x.sized) few)

  -- a value in the context of an equation with a target, or a port, of so many bits
  pub assigned_read : (fixed : Bool) (m : Option ℕ) (l : Lval) (e : Expr) (bits : ℕ) → m ≡ Some bits → bits ≤ 128
      → target_size es l ≡ bits → expr.IsWellFormed e → NoneOf (expr_refusals ns fixed (assigned_in ns m e) e)
      → IsReadIn es (assigned_context es l (flat_expr ss e)) (flat_expr ss e)
  assigned_read fixed m l e bits is few sized w h =
      let c : Context = assigned_in ns m e in
      let x : IsFlat ns ss es named_so meant laid fixed c e = flat_so ns ss es named_so meant laid fixed c e w h in
      let width : widened m (size (objects ns) (known ns e))
      ≡ Some (max (target_size es l) (or_none (size es (flat_expr ss e))))
      = (λ i. widened (is i) (x.judged i))
      ∙ ap (λ b. if b then larger (Some bits) (Some x.bits) else Some x.bits) (few_true bits few)
      ∙ (λ i. Some (max (sym sized i) (or_none (sym x.sized i)))) in
      subst (λ k. IsReadIn es k (flat_expr ss e)) (λ i. record { size = width i; signed = sym x.signed i })
      (read_in ns ss es named_so meant laid fixed c e x)

  pub flat_assignment : (continuous fixed value : Bool) (l : Lval) (e : Expr) → lval.IsWellFormed l
      → expr.IsWellFormed e → NoneOf (assignment_refusals ns continuous fixed value l e)
      → IsAssigned es (may_of continuous) fixed (flat_lval ss l)
      × IsReadIn es (assigned_context es (flat_lval ss l) (flat_expr ss e)) (flat_expr ss e)
  flat_assignment continuous fixed value l e wl we h =
      let target = none-front (target_refusals ns continuous fixed l) _ h in
      let x = flat_target continuous fixed l wl target in
      let few = target_few continuous fixed l target x in (
        flat_assigned continuous fixed l wl target,
        assigned_read value (target_width ns l) (flat_lval ss l) e x.bits
            (x.wide ∙ ap Some (uncapped x.bits few)) few x.sized we
            (none-back (target_refusals ns continuous fixed l) _ h),
      )
