-- The sizes and the signs of names and of choices.
use Rattle.std.specs.Prelude.{◌≡◌, refl, ℕ, List, Bool, Option, Some, None, is_none, ℤ}
use Rattle.std.specs.Prelude.{if◌then◌else◌}
use Rattle.std.proofs.Common.{ap, sym, ◌∙◌}
use Rattle.fv_text.specs.declared.pos.Pos.{Pos}
use Rattle.vl_tree.specs.Expr.{Expr, name, conditional, whole}
use Rattle.vl_size.specs.declared.context.Context.{Context}
use Rattle.vl_size.specs.declared.decl.Decl.{Decl}
use Rattle.vl_size.specs.Divisors.{own_context}
use Rattle.vl_size.specs.Sign.{declared_sign, name_sign}
use Rattle.vl_size.specs.Size.{◌>>=◌}
use Rattle.vl_size.specs.Table.{declared_as}
use Rattle.vl_mean.specs.Constants.{named_constant}
use Rattle.vl_elab_spec.specs.Expressions.{known}
use Rattle.vl_elab_spec.specs.Meanings.{Meaning, undeclared, constant, loop_variable, object, faulty, shapeless, later}
use Rattle.vl_elab_spec.specs.Meanings.{Names, meaning_in, objects, value_of}
use Rattle.vl_elab_scope.specs.Contexts.{choice_context, meant_context, no_context}
use Rattle.vl_elab_scope.specs.Seen.{object_of, AllNamed}
use Rattle.vl_elab_scope.proofs.ScopeObjects.{object_is}

abbrev the_context : Option ℕ → Bool → Context
the_context n signed = record { size = n; signed = signed }

-- a vector, and a memory
of_object : (w : Option (ℤ × ℤ)) (bits : ℕ) (signed : Bool)
    → the_context (if is_none w then Some bits else None) (name_sign w signed whole)
    ≡ (if is_none w then the_context (Some bits) signed else no_context)
of_object None bits signed = refl
of_object (Some b) bits signed = refl

-- what is declared under a name
of_declared : (ds : List Decl) (p : Pos) (text : List ℕ) (o : Option Decl) → declared_as ds text ≡ o
    → own_context ds (name p text whole)
    ≡ the_context (o >>= λ d. if is_none d.words then Some d.width else None) (declared_sign o whole)
of_declared ds p text o h =
    λ i. the_context (h i >>= λ d. if is_none d.words then Some d.width else None) (declared_sign (h i) whole)

pub name_is : (ns : List Names) (p : Pos) (text : List ℕ) → AllNamed ns
    → meant_context (meaning_in ns text) ≡ own_context (objects ns) (known ns (name p text whole))
name_is ns p text h = sym (by (meaning_in ns text) refl)
  where
    -- one that means no constant
    other : (m : Meaning) → meaning_in ns text ≡ m → value_of m ≡ None
        → own_context (objects ns) (known ns (name p text whole))
        ≡ the_context (object_of m >>= λ d. if is_none d.words then Some d.width else None)
        (declared_sign (object_of m) whole)
    other m e none =
        ap (λ o. own_context (objects ns) (named_constant p text whole o)) (ap value_of e ∙ none)
        ∙ of_declared (objects ns) p text (object_of m) (object_is ns text h ∙ ap object_of e)

    by : (m : Meaning) → meaning_in ns text ≡ m
        → own_context (objects ns) (known ns (name p text whole)) ≡ meant_context m
    by undeclared e = other undeclared e refl
    by (constant c selected) e =
        ap (λ o. own_context (objects ns) (named_constant p text whole o)) (ap value_of e)
    by loop_variable e = other loop_variable e refl
    by faulty e = other faulty e refl
    by shapeless e = other shapeless e refl
    by later e = other later e refl
    by (object d role scalar) e = other (object d role scalar) e refl ∙ of_object d.words d.width d.signed

pub choice_is : (ds : List Decl) (p : Pos) (k x y : Expr) (c l r : Context) → c ≡ own_context ds k
    → l ≡ own_context ds x → r ≡ own_context ds y → choice_context c l r ≡ own_context ds (conditional p k x y)
choice_is ds p k x y c l r d e f = λ i. choice_context (d i) (e i) (f i)
