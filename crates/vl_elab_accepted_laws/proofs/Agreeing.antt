-- What isn't refused has the same constants while it is judged and in its scopes.
use Rattle.std.specs.Prelude.{◌≡◌, refl, ℕ, List, [], ◌∷◌, ◌++◌, Bool, true, false, ◌||◌, Option, None, bytes_eq}
use Rattle.std.proofs.Common.{ap, sym, ◌∙◌, true≢false, subst}
use Rattle.std.proofs.lemmas.Slice.Eq.{bytes_eq-Decides}
use Rattle.fv_text.specs.declared.pos.Pos.{Pos}
use Rattle.vl_tree.specs.Expr.{
  Expr,
  Exprs,
  Selects,
  number,
  name,
  paren,
  unary,
  binary,
  conditional,
  concat,
  repeat,
  cast,
  none,
  more,
  whole,
  bit,
  part,
  indexed,
}
use Rattle.vl_size.specs.Size.{divides}
use Rattle.vl_mean.specs.Cells.{contains_name}
use Rattle.vl_mean.specs.Constants.{settled, settled_selects, named_constant}
use Rattle.vl_mean.specs.Scopes.{Scope, constant_in}
use Rattle.vl_mean_flat.specs.Flattened.{IsSeen}
use Rattle.vl_elab_spec.specs.declared.elab_fault.ElabFault.{ElabFault}
use Rattle.vl_elab_spec.specs.Expressions.{read_refusals, is_constant_name, refusals, all_refusals, select_refusals}
use Rattle.vl_elab_spec.specs.Expressions.{known}
use Rattle.vl_elab_spec.specs.Expressions.{no_copies}
use Rattle.vl_elab_spec.specs.Meanings.{Meaning, undeclared, constant, loop_variable, object, faulty, shapeless, later}
use Rattle.vl_elab_spec.specs.Meanings.{Names, meaning_in, value_of, constants}
use Rattle.vl_elab_accepted_laws.proofs.Fresh.{NoneOf, none-front, none-back, some-fault}
use Rattle.vl_elab_scope.specs.Texts.{texts, exprs_texts, selects_texts, AgreeOn}
use Rattle.vl_elab_scope.proofs.Agree.{same_settled}
use Rattle.vl_elab_accepted_laws.specs.Sized.{IsSound, AreSound, IsRead}
use Rattle.vl_elab_accepted_laws.specs.Means.{MeansIn, AreMeant}

module _ {A : Type 0} (f g : List ℕ → Option A) where
  pub agree_none : AgreeOn f g []
  agree_none text k = absurd (true≢false (sym k))

  agree_first : (x : List ℕ) (xs : List (List ℕ)) → f x ≡ g x → AgreeOn f g xs → AgreeOn f g (x ∷ xs)
  agree_first x xs h k text c = by (bytes_eq text x) refl c
    where
      by : (b : Bool) → bytes_eq text x ≡ b → (b || contains_name xs text) ≡ true → f text ≡ g text
      by true e c =
          let same = (bytes_eq-Decides text x).0 e in
          ap f same ∙ h ∙ ap g (sym same)
      by false e c = k text c

  agree_both : (xs ys : List (List ℕ)) → AgreeOn f g xs → AgreeOn f g ys → AgreeOn f g (xs ++ ys)
  agree_both [] ys h k text c = k text c
  agree_both (x ∷ xs) ys h k text c = by (bytes_eq text x) refl c (agree_both xs ys (λ t d. h t (later_in t d)) k text)
    where
      or_true : (b : Bool) → (b || true) ≡ true
      or_true true = refl
      or_true false = refl

      later_in : (t : List ℕ) → contains_name xs t ≡ true → contains_name (x ∷ xs) t ≡ true
      later_in t d = ap (λ b. bytes_eq t x || b) d ∙ or_true (bytes_eq t x)

      by : (b : Bool) → bytes_eq text x ≡ b → (b || contains_name (xs ++ ys) text) ≡ true
          → (contains_name (xs ++ ys) text ≡ true → f text ≡ g text) → f text ≡ g text
      by true e c next = h text (ap (λ b. b || contains_name xs text) e)
      by false e c next = next c

abbrev selects_in : Expr → Selects
selects_in (name p text xs) = xs
selects_in e = whole

pub refused_name : (xs ys : List ElabFault) (g : ElabFault) → NoneOf (xs ++ (g ∷ []) ++ ys) → ⊥
refused_name xs ys g h = some-fault g [] (none-back xs (g ∷ []) (none-front (xs ++ g ∷ []) ys h))

module _ (ns : List Names) (ss : List Scope) (meant : AreMeant ns ss) where
  pub sound : AreSound ns
  sound text = by (meaning_in ns text) (meant text)
    where
      by : (m : Meaning) → MeansIn ss text m → IsSound m
      by undeclared h = tt
      by (constant c selected) h = tt
      by loop_variable h = tt
      by (object d role scalar) h = h.2
      by faulty h = h
      by shapeless h = h
      by later h = tt

  pub seen : (text : List ℕ) → IsRead (meaning_in ns text) → IsSeen ss text
  seen text h = by (meaning_in ns text) (meant text) h
    where
      by : (m : Meaning) → MeansIn ss text m → IsRead m → IsSeen ss text
      by undeclared k h = absurd h
      by (constant c selected) k h = absurd h
      by loop_variable k h = absurd h
      by (object d role scalar) k h = record { decl = d; declared = k.1 }
      by faulty k h = absurd h
      by shapeless k h = absurd h
      by later k h = absurd h

  abbrev Agrees : List (List ℕ) → Type 0
  Agrees ts = AgreeOn (constants ns) (constant_in ss) ts

  both : (xs ys : List (List ℕ)) → Agrees xs → Agrees ys → Agrees (xs ++ ys)
  both xs ys h k = agree_both (constants ns) (constant_in ss) xs ys h k

  name_agrees : (fixed : Bool) (p : Pos) (text : List ℕ) (xs : Selects) (inner wide : List ElabFault) (m : Meaning)
      → meaning_in ns text ≡ m → NoneOf (inner ++ read_refusals ns fixed p text m xs ++ wide)
      → constants ns text ≡ constant_in ss text
  name_agrees fixed p text xs inner wide undeclared e h = absurd (refused_name inner wide _ h)
  name_agrees fixed p text xs inner wide loop_variable e h = absurd (refused_name inner wide _ h)
  name_agrees fixed p text xs inner wide (constant c selected) e h =
      ap value_of e ∙ sym (subst (MeansIn ss text) e (meant text))
  name_agrees fixed p text xs inner wide (object d role scalar) e h =
      let means = subst (MeansIn ss text) e (meant text) in ap value_of e ∙ sym means.0
  name_agrees fixed p text xs inner wide faulty e h = absurd (subst (MeansIn ss text) e (meant text))
  name_agrees fixed p text xs inner wide shapeless e h = absurd (subst (MeansIn ss text) e (meant text))
  name_agrees fixed p text xs inner wide later e h = absurd (subst (MeansIn ss text) e (meant text))

  mutual
    pub expr_agrees : (fixed : Bool) (e : Expr) → NoneOf (refusals ns fixed e) → Agrees (texts e)
    expr_agrees fixed (number p n) h = agree_none (constants ns) (constant_in ss)
    expr_agrees fixed (name p text xs) h =
        let m = meaning_in ns text in
        let inner = select_refusals ns (fixed || is_constant_name ns m) xs in
        let read = read_refusals ns fixed p text m xs in
        agree_first (constants ns) (constant_in ss) text (selects_texts xs)
        (name_agrees fixed p text xs inner _ m refl h)
        (selects_agree (fixed || is_constant_name ns m) xs (none-front inner read (none-front (inner ++ read) _ h)))
    expr_agrees fixed (paren p x) h = expr_agrees fixed x (none-front (refusals ns fixed x) _ h)
    expr_agrees fixed (unary p op x) h = expr_agrees fixed x (none-front (refusals ns fixed x) _ h)
    expr_agrees fixed (binary p op x y) h =
        let div = fixed || divides op in
        let all = none-front (refusals ns div x ++ refusals ns div y) _ h in
        both (texts x) (texts y) (expr_agrees div x (none-front (refusals ns div x) (refusals ns div y) all))
        (expr_agrees div y (none-back (refusals ns div x) (refusals ns div y) all))
    expr_agrees fixed (conditional p c x y) h =
        let front = refusals ns fixed c ++ refusals ns fixed x in
        let all = none-front (front ++ refusals ns fixed y) _ h in
        let two = none-front front (refusals ns fixed y) all in
        both (texts c) (texts x ++ texts y)
        (expr_agrees fixed c (none-front (refusals ns fixed c) (refusals ns fixed x) two))
        (both (texts x) (texts y)
        (expr_agrees fixed x (none-back (refusals ns fixed c) (refusals ns fixed x) two))
        (expr_agrees fixed y (none-back front (refusals ns fixed y) all)))
    expr_agrees fixed (concat p es) h = exprs_agree fixed es (none-front (all_refusals ns fixed es) _ h)
    expr_agrees fixed (repeat p n es) h =
        let front = refusals ns true n ++ all_refusals ns fixed es in
        let two = none-front front (no_copies ns p n) (none-front (front ++ no_copies ns p n) _ h) in
        both (texts n) (exprs_texts es)
        (expr_agrees true n (none-front (refusals ns true n) (all_refusals ns fixed es) two))
        (exprs_agree fixed es (none-back (refusals ns true n) (all_refusals ns fixed es) two))
    expr_agrees fixed (cast p to x) h = expr_agrees fixed x (none-front (refusals ns fixed x) _ h)

    exprs_agree : (fixed : Bool) (es : Exprs) → NoneOf (all_refusals ns fixed es) → Agrees (exprs_texts es)
    exprs_agree fixed none h = agree_none (constants ns) (constant_in ss)
    exprs_agree fixed (more e es) h =
        both (texts e) (exprs_texts es)
        (expr_agrees fixed e (none-front (refusals ns fixed e) (all_refusals ns fixed es) h))
        (exprs_agree fixed es (none-back (refusals ns fixed e) (all_refusals ns fixed es) h))

    pub selects_agree : (fixed : Bool) (xs : Selects) → NoneOf (select_refusals ns fixed xs)
        → Agrees (selects_texts xs)
    selects_agree fixed whole h = agree_none (constants ns) (constant_in ss)
    selects_agree fixed (bit q i xs) h =
        both (texts i) (selects_texts xs)
        (expr_agrees fixed i (none-front (refusals ns fixed i) (select_refusals ns fixed xs) h))
        (selects_agree fixed xs (none-back (refusals ns fixed i) (select_refusals ns fixed xs) h))
    selects_agree fixed (part q l r xs) h =
        let front = refusals ns true l ++ refusals ns true r in
        let two = none-front front (select_refusals ns fixed xs) h in
        both (texts l) (texts r ++ selects_texts xs)
        (expr_agrees true l (none-front (refusals ns true l) (refusals ns true r) two))
        (both (texts r) (selects_texts xs)
        (expr_agrees true r (none-back (refusals ns true l) (refusals ns true r) two))
        (selects_agree fixed xs (none-back front (select_refusals ns fixed xs) h)))
    selects_agree fixed (indexed q i n xs) h =
        let front = refusals ns fixed i ++ refusals ns true n in
        let two = none-front front (select_refusals ns fixed xs) h in
        both (texts i) (texts n ++ selects_texts xs)
        (expr_agrees fixed i (none-front (refusals ns fixed i) (refusals ns true n) two))
        (both (texts n) (selects_texts xs)
        (expr_agrees true n (none-back (refusals ns fixed i) (refusals ns true n) two))
        (selects_agree fixed xs (none-back front (select_refusals ns fixed xs) h)))

  pub known_is : (fixed : Bool) (e : Expr) → NoneOf (refusals ns fixed e) → known ns e ≡ settled (constant_in ss) e
  known_is fixed e h = same_settled (constants ns) (constant_in ss) e (expr_agrees fixed e h)

  -- of the selects of a name that is no constant
  pub selects_are : (fixed : Bool) (p : Pos) (text : List ℕ) (xs : Selects) → NoneOf (select_refusals ns fixed xs)
      → constants ns text ≡ None → constant_in ss text ≡ None
      → settled_selects (constants ns) xs ≡ settled_selects (constant_in ss) xs
  selects_are fixed p text xs h k l =
      let same = same_settled (constants ns) (constant_in ss) (name p text xs)
      (agree_first (constants ns) (constant_in ss) text (selects_texts xs) (k ∙ sym l) (selects_agree fixed xs h)) in
      ap selects_in (sym (ap (named_constant p text (settled_selects (constants ns) xs)) k) ∙ same
      ∙ ap (named_constant p text (settled_selects (constant_in ss) xs)) l)
