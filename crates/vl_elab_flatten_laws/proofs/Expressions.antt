-- An expression that isn't refused is read in a design without hierarchy: it has its size there, no divisor in it is
-- 0, and the clock doesn't stand in it.
use Rattle.std.specs.Prelude.{◌≡◌, refl, ℕ, ◌≤◌, max, List, [], ◌++◌, Bool, true, false, is_none, All}
use Rattle.std.specs.Prelude.{Option, Some, None, IsSome}
use Rattle.std.proofs.Common.{ap, sym, ◌∙◌, subst}
use Rattle.std.proofs.lemmas.Option.{same_Some}
use Rattle.vl_tree.specs.Expr.{Expr, Selects}
use Rattle.vl_tree.specs.ExprWellFormed.{IsWellFormed}
use Rattle.vl_size.specs.declared.context.Context.{Context}
use Rattle.vl_size.specs.declared.decl.Decl.{Decl}
use Rattle.vl_size.specs.Divisors.{own_context, zero_divisor}
use Rattle.vl_size.specs.Sign.{sign}
use Rattle.vl_size.specs.Size.{is_constant, size}
use Rattle.vl_size.specs.Table.{declared_as}
use Rattle.vl_mean.specs.Constants.{settled, settled_selects}
use Rattle.vl_mean.specs.FlatLaw.{IsReadIn, IsRead as IsReadFlat, names_in}
use Rattle.vl_mean.specs.Scopes.{Scope, constant_in, full, visible, is_clock_decl, is_clock_class}
use Rattle.vl_mean_flat.specs.Flattened.{IsSeen}
use Rattle.vl_mean_flat.specs.Found.{Found, IsFound}
use Rattle.vl_mean_flat.specs.FullNames.{flat_expr, renamed}
use Rattle.vl_mean_flat.specs.Names.{Names as EachName, ExprNames, SelectsNames}
use Rattle.vl_mean_flat.proofs.FoundNames.{AreScopes, found}
use Rattle.vl_mean_flat.proofs.NamesMap.{expr_map}
use Rattle.vl_mean_flat.proofs.SameExpr as same
use Rattle.vl_elab_spec.specs.Expressions.{expr_refusals, known, own_refusals, refusals}
use Rattle.vl_elab_spec.specs.Meanings.{Meaning, undeclared, constant, loop_variable, object, faulty, shapeless, later}
use Rattle.vl_elab_spec.specs.Meanings.{Names, constants, meaning_in, objects}
use Rattle.vl_elab_accepted_laws.proofs.Contained.{each-has}
use Rattle.vl_elab_accepted_laws.proofs.Fresh.{NoneOf, none-front, none-back}
use Rattle.vl_elab_scope.specs.Seen.{AllNamed, object_of}
use Rattle.vl_elab_scope.specs.Texts.{AgreeOn, texts}
use Rattle.vl_elab_scope.proofs.Agree as agree
use Rattle.vl_elab_scope.proofs.ScopeObjects.{object_is}
use Rattle.vl_elab_accepted_laws.specs.Sized.{IsRead, IsSized}
use Rattle.vl_elab_accepted_laws.proofs.Sizes.{read}
use Rattle.vl_elab_accepted_laws.proofs.Tests.{undivided}
use Rattle.vl_elab_accepted_laws.specs.Means.{AreMeant, MeansIn}
use Rattle.vl_elab_accepted_laws.proofs.Agreeing.{known_is, seen, sound}
use Rattle.vl_elab_flatten_laws.proofs.Divided.{same_divisor}
use Rattle.vl_elab_flatten_laws.proofs.LawfulNames.{each_text, all_renamed}

-- a name that is read, in scopes that are laid out over the declarations of the design
module _ (ns : List Names) (ss : List Scope) (es : List Decl) (named_so : AllNamed ns) (meant : AreMeant ns ss)
    (laid : AreScopes es ss) where
  abbrev pub Reads : List ℕ → Type 0
  Reads text = IsRead (meaning_in ns text)

  pub found_name : (text : List ℕ) → Reads text → Found es ss text
  found_name text h = let x : IsSeen ss text = seen ns ss meant text h in found es ss text x.decl laid x.declared

  pub same_decl : (text : List ℕ) → Reads text → declared_as (objects ns) text ≡ declared_as (visible ss) text
  same_decl text h = object_is ns text named_so ∙ by (meaning_in ns text) (meant text) h
    where
      by : (m : Meaning) → MeansIn ss text m → IsRead m → object_of m ≡ declared_as (visible ss) text
      by undeclared k h = absurd h
      by (constant c selected) k h = absurd h
      by loop_variable k h = absurd h
      by (object d role scalar) k h = sym k.1
      by faulty k h = absurd h
      by shapeless k h = absurd h
      by later k h = absurd h

  abbrev pub IsNoClock : List ℕ → Type 0
  IsNoClock text = is_clock_decl (declared_as es text) ≡ false

  pub no_clock : (text : List ℕ) → Reads text → IsNoClock (full ss text)
  no_clock text h = by (meaning_in ns text) (meant text) h
    where
      by : (m : Meaning) → MeansIn ss text m → IsRead m → IsNoClock (full ss text)
      by undeclared k h = absurd h
      by (constant c selected) k h = absurd h
      by loop_variable k h = absurd h
      by (object d role scalar) k h =
          let x : IsFound (full ss) (visible ss) es text = found es ss text d laid k.1 in
          ap is_clock_decl x.there ∙ ap (λ y. is_clock_class y.class) (same_Some x.decl d (sym x.here ∙ k.1)) ∙ h
      by faulty k h = absurd h
      by shapeless k h = absurd h
      by later k h = absurd h

  -- what is known of an expression as it is judged, and as it stands without hierarchy
  pub record IsFlat (fixed : Bool) (c : Context) (e : Expr) : Type 0 where
    pub bits : ℕ
    pub judged : size (objects ns) (known ns e) ≡ Some bits
    pub sized : size es (flat_expr ss e) ≡ Some bits
    pub some : 1 ≤ bits
    pub few : bits ≤ 128
    pub signed : sign es (flat_expr ss e) ≡ sign (objects ns) (known ns e)
    pub divided : zero_divisor es c (flat_expr ss e) ≡ None
    pub clockless : All IsNoClock (names_in (flat_expr ss e))
    pub constant : fixed ≡ true → is_constant (flat_expr ss e) ≡ true

  pub flat_so : (fixed : Bool) (c : Context) (e : Expr) → IsWellFormed e → NoneOf (expr_refusals ns fixed c e)
      → IsFlat fixed c e
  flat_so fixed c e w h = record {
    bits = x.bits;
    judged = x.sized;
    sized = same.same_size (full ss) (visible ss) es settled_so found_so
        ∙ sym (agree.same_size (objects ns) (visible ss) settled_so agrees)
        ∙ ap (size (objects ns)) (sym known_so) ∙ x.sized;
    some = x.some;
    few = x.few;
    signed = same.same_sign (full ss) (visible ss) es settled_so found_so
        ∙ sym (agree.same_sign (objects ns) (visible ss) settled_so agrees)
        ∙ ap (sign (objects ns)) (sym known_so);
    divided = same_divisor (full ss) (visible ss) es c settled_so found_so
        ∙ sym (agree.same_divisor (objects ns) (visible ss) c settled_so agrees)
        ∙ ap (zero_divisor (objects ns) c) (sym known_so)
        ∙ undivided (zero_divisor (objects ns) c (known ns e)) (none-back (refusals ns fixed e) _ h);
    clockless = all_renamed (full ss) IsNoClock settled_so
        (expr_map no_clock ss e reads);
    constant = λ f. same.same_constant (full ss) settled_so ∙ ap is_constant (sym known_so) ∙ x.constant f;
  }
    where
      x : IsSized ns fixed e
      x = read ns fixed c e named_so (sound ns ss meant) w h

      settled_so : Expr
      settled_so = settled (constant_in ss) e

      known_so : known ns e ≡ settled_so
      known_so = known_is ns ss meant fixed e (none-front (refusals ns fixed e) _ h)

      reads : ExprNames Reads ss e
      reads = subst (EachName Reads) known_so x.names

      found_so : ExprNames (Found es ss) ss e
      found_so = expr_map found_name ss e reads

      agrees : AgreeOn (declared_as (objects ns)) (declared_as (visible ss)) (texts settled_so)
      agrees text there = same_decl text (each-has Reads (texts settled_so) text (each_text Reads settled_so reads) there)

  -- ---- in a context

  pub read_in : (fixed : Bool) (c : Context) (e : Expr) → IsFlat fixed c e → IsReadIn es c (flat_expr ss e)
  read_in fixed c e x = record {
    sized = subst IsSome (sym x.sized) refl;
    divided = ap is_none x.divided;
    clockless = x.clockless;
  }

  pub own_read : (fixed : Bool) (e : Expr) → IsFlat fixed (own_context (objects ns) (known ns e)) e
      → IsReadFlat es (flat_expr ss e)
  own_read fixed e x =
      let is : own_context (objects ns) (known ns e) ≡ own_context es (flat_expr ss e)
      = λ i. record { size = (x.judged ∙ sym x.sized) i; signed = sym x.signed i } in
      subst (λ c. IsReadIn es c (flat_expr ss e)) is
      (read_in fixed (own_context (objects ns) (known ns e)) e x)

  pub flat_own : (fixed : Bool) (e : Expr) → IsWellFormed e → NoneOf (own_refusals ns fixed e)
      → IsReadFlat es (flat_expr ss e)
  flat_own fixed e w h =
      own_read fixed e (flat_so fixed (own_context (objects ns) (known ns e)) e w h)
