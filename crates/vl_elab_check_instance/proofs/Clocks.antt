-- Whether a port is joined to the clock.
use Rattle.std.specs.Prelude.{◌≡◌, refl, ℕ, List, [], ◌∷◌, Bool, true, false, ◌&&◌, ◌||◌, not, bytes_eq}
use Rattle.std.specs.Prelude.{is_some, Option, Some, None, if◌then◌else◌, length, ◌≤◌}
use Rattle.std.specs.Option.{option_copied}
use Rattle.std.proofs.Common.{ap, sym, ◌∙◌, Bor, arith}
use Rattle.std.proofs.lemmas.Slice.Eq.{bytes_eq-Decides}
use Rattle.fv_text.specs.declared.pos.Pos.{Pos}
use Rattle.vl_tree.specs.declared.part.Connection.{Connection}
use Rattle.vl_tree.specs.declared.part.Instance.{Instance}
use Rattle.vl_tree.specs.declared.expr.Select.{Select}
use Rattle.vl_tree.specs.declared.expr.Select.TheVariants as select
use Rattle.vl_tree.specs.ExprView.{selects}
use Rattle.vl_tree.specs.Expr.{
  Expr,
  Selects,
  number,
  name,
  paren,
  unary,
  binary,
  conditional,
  concat,
  repeat,
  cast,
  whole,
  bit,
  part,
  indexed,
}
use Rattle.vl_size.specs.declared.decl.Class.TheVariants as class
use Rattle.vl_mean.specs.Scopes as scopes
use Rattle.vl_mean.specs.Scopes.{Scope}
use Rattle.vl_mean.specs.Walk.{connected, use_of}
use Rattle.vl_elab_spec.specs.Meanings.{Names, is_undeclared}
use Rattle.vl_elab_scope.specs.declared.meaning.Meaning.{Meaning as Kept}
use Rattle.vl_elab_scope.specs.declared.meaning.Meaning.TheVariants as k
use Rattle.vl_elab_scope.specs.Seen.{seen, seen_or}
use Rattle.vl_elab_names.specs.declared.set.NameSet.{NameSet}
use Rattle.vl_elab_names.specs.Known.{contains}
use Rattle.vl_elab_decls.specs.declared.inputs.Inputs.TheVariants as i
use Rattle.vl_elab_decls.specs.Inputs.{AreInputs}
use Rattle.vl_elab_decls.specs.Stands.{Stands}
use Rattle.vl_elab_check_instance.specs.Clock.{is_clock_part, is_clock_expr, is_clock, with_name, with_clock, joined_to}

-- a name that nothing declares
seen_there : (m : Kept) → is_undeclared (seen m) ≡ false
seen_there (k.Constant c selected) = refl
seen_there k.LoopVariable = refl
seen_there (k.Object o) = refl
seen_there k.Faulty = refl
seen_there k.Shapeless = refl
seen_there k.Later = refl

pub undeclared : (b : Bool) (o : Option (Bor Kept)) → is_some o ≡ not b
    → b ≡ is_undeclared (seen_or (option_copied o))
undeclared true None h = refl
undeclared false None h = cc
undeclared true (Some m) h = cc
undeclared false (Some m) h = sym (seen_there m.now)

pub ruleset undeclared_none = (undeclared)

-- with a select a name is no clock
pub no_part : (clocks : List ℕ → Bool) (values : List Names) (text : List ℕ) (all : List Select) → 1 ≤ length all
    → false ≡ is_clock_part clocks values text (selects all)
no_part clocks values text [] h = absurd (omega (arith, h))
no_part clocks values text (select.Bit p i ∷ all) h = refl
no_part clocks values text (select.Part p l r ∷ all) h = refl
no_part clocks values text (select.Indexed p i n ∷ all) h = refl

-- ---- what the definitions say

module _ (names values : List Names) (clocks : List ℕ → Bool) (known : List Names) (ss : List Scope)
    (h : Stands names values clocks known ss) where
  clock_part : (p : Pos) (text : List ℕ) (all : Selects)
      → scopes.is_clock ss (Some (name p text all)) ≡ is_clock_part clocks values text all
  clock_part p text whole = h.clock text
  clock_part p text (bit q a rest) = refl
  clock_part p text (part q l r rest) = refl
  clock_part p text (indexed q a n rest) = refl

  clock_expr : (e : Expr) → scopes.is_clock ss (Some e) ≡ is_clock_expr clocks values e
  clock_expr (number p n) = refl
  clock_expr (name p text all) = clock_part p text all
  clock_expr (paren p x) = refl
  clock_expr (unary p op x) = refl
  clock_expr (binary p op x y) = refl
  clock_expr (conditional p c x y) = refl
  clock_expr (concat p es) = refl
  clock_expr (repeat p n es) = refl
  clock_expr (cast p to x) = refl

  pub same_clock : (value : Option Expr) → scopes.is_clock ss value ≡ is_clock clocks values value
  same_clock None = refl
  same_clock (Some e) = clock_expr e

-- ---- the ports that are joined to it

or_false : (b : Bool) → b ≡ (b || false)
or_false true = refl
or_false false = refl

and_false : (b : Bool) → (b && false) ≡ false
and_false true = refl
and_false false = refl

module _ (test : Option Expr → Bool) (nothing : test None ≡ false) (text : List ℕ) where
  one : (eq seen joined here r : Bool)
      → ((eq && (not seen && here)) || joined) || (not (eq || seen) && r)
      ≡ joined || (not seen && (if eq then here else r))
  one true true true here r = refl
  one true true false here r = refl
  one true false true true r = refl
  one true false true false r = refl
  one true false false true r = refl
  one true false false false r = refl
  one false true true here r = refl
  one false true false here r = refl
  one false false true here r = refl
  one false false false here r = refl

  test_if : (b : Bool) (v w : Option Expr) → (if b then test v else test w) ≡ test (if b then v else w)
  test_if true v w = refl
  test_if false v w = refl

  front : (x : Connection) (xs : List Connection) (seen joined : List ℕ → Bool)
      → (with_clock (test x.value) x.port seen joined text
      || (not (with_name seen x.port text) && test (connected xs text)))
      ≡ (joined text || (not (seen text) && test (connected (x ∷ xs) text)))
  front x xs seen joined = by (bytes_eq text x.port) refl
    where
      by : (b : Bool) → bytes_eq text x.port ≡ b
          → (((b && (not (seen x.port) && test x.value)) || joined text)
          || (not (b || seen text) && test (connected xs text)))
          ≡ (joined text || (not (seen text) && test (if b then x.value else connected xs text)))
      by true e =
          (λ j. ((true && (not (seen (sym ((bytes_eq-Decides text x.port).0 e) j)) && test x.value)) || joined text)
          || (not (true || seen text) && test (connected xs text)))
          ∙ one true (seen text) (joined text) (test x.value) (test (connected xs text))
      by false e = one false (seen text) (joined text) (test x.value) (test (connected xs text))

  pub all_joined_to : (xs : List Connection) (seen joined : List ℕ → Bool)
      → joined_to test xs seen joined text ≡ (joined text || (not (seen text) && test (connected xs text)))
  all_joined_to [] seen joined =
      or_false (joined text) ∙ ap (λ b. joined text || b) (sym (ap (λ b. not (seen text) && b) nothing
      ∙ and_false (not (seen text))))
  all_joined_to (x ∷ xs) seen joined =
      all_joined_to xs (with_name seen x.port) (with_clock (test x.value) x.port seen joined)
      ∙ front x xs seen joined

pub joined_are : (names values : List Names) (clocks : List ℕ → Bool) (known : List Names) (ss : List Scope)
    (x : Instance) (has_value : Expr → Bool) (all : List Connection) (set : NameSet)
    → ((text : List ℕ) → contains set text ≡ joined_to (is_clock clocks values) all (λ t. false) (λ t. false) text)
    → Stands names values clocks known ss → x.connections ≡ all → AreInputs (i.Joined set) (use_of has_value ss x)
joined_are names values clocks known ss x has_value all set made h e = record {
  top = refl;
  stands = λ text.
      ap (λ b. if b then class.Clock else class.Net)
      (ap (λ xs. scopes.is_clock ss (connected xs text)) e
      ∙ same_clock names values clocks known ss h (connected all text)
      ∙ sym (made text ∙ all_joined_to (is_clock clocks values) refl text all (λ t. false) (λ t. false)));
}
