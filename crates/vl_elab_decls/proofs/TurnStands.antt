-- A turn of a generate loop.
use Rattle.std.specs.Prelude.{◌≡◌, refl, ℕ, List, [], ◌∷◌, Bool, true, false, ◌&&◌, bytes_eq}
use Rattle.std.specs.Prelude.{Option, Some, None, if◌then◌else◌}
use Rattle.std.proofs.Common.{ap, sym, ◌∙◌}
use Rattle.vl_size.specs.declared.decl.Decl.{Decl}
use Rattle.vl_size.specs.Table.{declared_as}
use Rattle.vl_mean.specs.declared.const_number.Const.{Const}
use Rattle.vl_mean.specs.Scopes.{constant_in, constant_unless, unless_constant, is_clock_decl, visible}
use Rattle.vl_mean.specs.Walk.{Place, turn_place}
use Rattle.vl_elab_spec.specs.Meanings.{Meaning, undeclared, constant, Names, is_undeclared, meaning_of, meaning_in}
use Rattle.vl_elab_spec.specs.Meanings.{value_of, meanings_at}
use Rattle.vl_elab_params.proofs.Listed.{inner_or}
use Rattle.vl_elab_decls.specs.Stands.{Stands}

and_false : (b : Bool) → (b && false) ≡ false
and_false true = refl
and_false false = refl

module _ (c : Const) where
  number_in : (b : Bool) (n : Meaning) (o : Option Const) → value_of n ≡ o
      → value_of (inner_or (if b then constant c true else undeclared) n)
      ≡ constant_unless (if b then Some c else None) false o
  number_in true n o e = refl
  number_in false n o e = e

  among_in : (b : Bool) (n : Meaning) (o : Option Const) (d : Const) → (value_of n ≡ Some d → o ≡ Some d)
      → value_of (inner_or (if b then constant c true else undeclared) n) ≡ Some d
      → constant_unless (if b then Some c else None) false o ≡ Some d
  among_in true n o d f e = e
  among_in false n o d f e = f e

  clock_in : (b clock : Bool) (n : Meaning) (o : Option Const) (d : Option Decl)
      → is_clock_decl (unless_constant o d) ≡ (clock && is_undeclared n)
      → is_clock_decl (unless_constant (constant_unless (if b then Some c else None) false o) d)
      ≡ (clock && is_undeclared (inner_or (if b then constant c true else undeclared) n))
  clock_in true clock n o d e = sym (and_false clock)
  clock_in false clock n o d e = e

module _ (at : Place) (names numbers : List Names) (clocks : List ℕ → Bool)
    (h : Stands names numbers clocks (meanings_at at) at.scopes) (text : List ℕ) (c : Const) where
  pub turn_stands : Stands (((text, constant c true) ∷ []) ∷ names) (((text, constant c true) ∷ []) ∷ numbers) clocks
      (meanings_at (turn_place at text c)) (turn_place at text c).scopes
  turn_stands = record {
    alike = record {
      named = ((tt, tt), h.alike.named);
      also_named = ((tt, tt), h.alike.also_named);
      meaning = λ other. ap (inner_or (meaning_of ((text, constant c true) ∷ []) other)) (h.alike.meaning other);
    };
    numbers = λ other.
        number_in c (bytes_eq other text) (meaning_in numbers other) (constant_in at.scopes other) (h.numbers other);
    among = λ other d e.
        among_in c (bytes_eq other text) (meaning_in (meanings_at at) other) (constant_in at.scopes other) d
        (h.among other d) e;
    clock = λ other.
        clock_in c (bytes_eq other text) (clocks other) (meaning_in numbers other) (constant_in at.scopes other)
        (declared_as (visible at.scopes) other) (h.clock other);
  }
