-- The full names that steps declare.
use Rattle.std.specs.Prelude.{◌≡◌, refl, ℕ, List, [], ◌∷◌, ◌++◌, map, Bool, true, false, ◌||◌}
use Rattle.std.specs.Prelude.{bytes_eq, Option, Some}
use Rattle.std.specs.Prelude.{None, if◌then◌else◌}
use Rattle.std.proofs.Common.{ap, sym, ◌∙◌, append_assoc}
use Rattle.vl_tree.specs.declared.declaration.DeclaredName.{DeclaredName}
use Rattle.vl_tree.specs.declared.declaration.Direction.{Direction}
use Rattle.vl_tree.specs.declared.declaration.Direction.TheVariants as direction
use Rattle.vl_tree.specs.declared.declaration.FullPort.{FullPort}
use Rattle.vl_tree.specs.declared.declaration.NetKind.{NetKind}
use Rattle.vl_tree.specs.declared.declaration.NetKind.TheVariants as net
use Rattle.vl_tree.specs.declared.declaration.Shape.{Shape}
use Rattle.vl_tree.specs.declared.part.Assignment.{Assignment}
use Rattle.vl_tree.specs.declared.part.EventKind.{EventKind}
use Rattle.vl_tree.specs.declared.part.EventKind.TheVariants as e
use Rattle.vl_tree.specs.Expr.{Expr}
use Rattle.vl_tree.specs.Lval.{Lval}
use Rattle.vl_tree.specs.Stmt as stmt
use Rattle.vl_tree.specs.Stmt.{Stmt, Stmts, no_stmts, more_stmts}
use Rattle.vl_size.specs.declared.decl.Class.{Class}
use Rattle.vl_size.specs.Table.{AreDifferent, is_declared}
use Rattle.vl_mean.specs.Cells.{contains_name}
use Rattle.vl_mean.specs.Declarations.{declared_names as declared_vectors, declared_integers}
use Rattle.vl_mean.specs.Parts.{Part, declares, equation, combinational, clocked, starts, declares_all, optional_value}
use Rattle.vl_mean.specs.Parts.{values_of, assignments, block_part, initial_parts, all_initial_parts, target_of}
use Rattle.vl_mean.specs.Parts.{with_target, connection_part, port_part, step_parts, parts_of_steps}
use Rattle.vl_mean.specs.Scopes.{Scope, is_clock}
use Rattle.vl_mean.specs.Walk.{Step}
use Rattle.vl_mean_flat.specs.Flattened.{decls_of}
use Rattle.vl_elab_accepted_laws.proofs.Contained.{Different}

abbrev pub part_names : List Part → List (List ℕ)
part_names [] = []
part_names (declares d ∷ ps) = d.name ∷ part_names ps
part_names (equation ts l ss x ∷ ps) = part_names ps
part_names (combinational ss s ∷ ps) = part_names ps
part_names (clocked ss s ∷ ps) = part_names ps
part_names (starts ss l x ∷ ps) = part_names ps

abbrev pub full_names : List Step → List (List ℕ)
full_names [] = []
full_names (x ∷ xs) = part_names (step_parts x) ++ full_names xs

pub part-append : (ps qs : List Part) → part_names (ps ++ qs) ≡ part_names ps ++ part_names qs
part-append [] qs = refl
part-append (declares d ∷ ps) qs = ap (λ l. d.name ∷ l) (part-append ps qs)
part-append (equation ts l ss x ∷ ps) qs = part-append ps qs
part-append (combinational ss s ∷ ps) qs = part-append ps qs
part-append (clocked ss s ∷ ps) qs = part-append ps qs
part-append (starts ss l x ∷ ps) qs = part-append ps qs

pub full-append : (xs ys : List Step) → full_names (xs ++ ys) ≡ full_names xs ++ full_names ys
full-append [] ys = refl
full-append (x ∷ xs) ys =
    ap (λ l. part_names (step_parts x) ++ l) (full-append xs ys)
    ∙ sym (append_assoc (part_names (step_parts x)) (full_names xs) (full_names ys))

pub full-parts : (xs : List Step) → part_names (parts_of_steps xs) ≡ full_names xs
full-parts [] = refl
full-parts (x ∷ xs) =
    part-append (step_parts x) (parts_of_steps xs) ∙ ap (λ l. part_names (step_parts x) ++ l) (full-parts xs)

same-names : (ps : List Part) (text : List ℕ)
    → is_declared (decls_of ps) text ≡ contains_name (part_names ps) text
same-names [] text = refl
same-names (declares d ∷ ps) text = ap (λ b. bytes_eq text d.name || b) (same-names ps text)
same-names (equation ts l ss x ∷ ps) text = same-names ps text
same-names (combinational ss s ∷ ps) text = same-names ps text
same-names (clocked ss s ∷ ps) text = same-names ps text
same-names (starts ss l x ∷ ps) text = same-names ps text

pub different-decls : (ps : List Part) → Different (part_names ps) → AreDifferent (decls_of ps)
different-decls [] h = tt
different-decls (declares d ∷ ps) h = (same-names ps d.name ∙ h.0, different-decls ps h.1)
different-decls (equation ts l ss x ∷ ps) h = different-decls ps h
different-decls (combinational ss s ∷ ps) h = different-decls ps h
different-decls (clocked ss s ∷ ps) h = different-decls ps h
different-decls (starts ss l x ∷ ps) h = different-decls ps h

-- ---- what declares nothing

module _ (ss : List Scope) where
  pub optional-none : (kind : NetKind) (text : List ℕ) (value : Option Expr)
      → part_names (optional_value ss kind text value) ≡ []
  optional-none kind text None = refl
  optional-none net.Wire text (Some x) = refl
  optional-none net.Reg text (Some x) = refl

  pub values-none : (kind : NetKind) (xs : List DeclaredName) → part_names (values_of ss kind xs) ≡ []
  values-none kind [] = refl
  values-none kind (x ∷ xs) =
      part-append (optional_value ss kind x.name x.value) (values_of ss kind xs)
      ∙ (λ i. optional-none kind x.name x.value i ++ values-none kind xs i)

  pub assignments-none : (xs : List Assignment) → part_names (assignments ss xs) ≡ []
  assignments-none [] = refl
  assignments-none (x ∷ xs) = assignments-none xs

  pub block-none : (kind : EventKind) (s : Stmt) → part_names (block_part ss kind s ∷ []) ≡ []
  block-none e.Bare s = refl
  block-none e.Spaced s = refl
  block-none e.OpenJoined s = refl
  block-none e.CloseJoined s = refl
  block-none (e.Posedge text) s = refl

  mutual
    pub initial-none : (s : Stmt) → part_names (initial_parts ss s) ≡ []
    initial-none (stmt.begin attrs p label xs) = all-initial-none xs
    initial-none (stmt.assign attrs p l kind x) = refl
    initial-none (stmt.if_only attrs p x s) = refl
    initial-none (stmt.if_else attrs p x s t) = refl
    initial-none (stmt.case attrs p kind x arms) = refl
    initial-none (stmt.assume attrs p x) = refl
    initial-none (stmt.empty attrs p) = refl

    all-initial-none : (xs : Stmts) → part_names (all_initial_parts ss xs) ≡ []
    all-initial-none no_stmts = refl
    all-initial-none (more_stmts x xs) =
        part-append (initial_parts ss x) (all_initial_parts ss xs)
        ∙ (λ i. initial-none x i ++ all-initial-none xs i)

  module _ (inside : List Scope) where
    target-none : (l : Option Lval) (f : Expr)
        → part_names (with_target l (λ l. equation ss l inside f ∷ [])) ≡ []
    target-none None f = refl
    target-none (Some l) f = refl

    input-none : (b : Bool) (l : Lval) (x : Expr)
        → part_names (if b then [] else equation inside l ss x ∷ []) ≡ []
    input-none true l x = refl
    input-none false l x = refl

    pub connection-none : (p : Option FullPort) (value : Option Expr)
        → part_names (port_part ss inside p value) ≡ []
    connection-none None value = refl
    connection-none (Some p) None = refl
    connection-none (Some p) (Some x) = by p.direction
      where
        by : (d : Direction) → part_names (connection_part ss inside d p.name x) ≡ []
        by direction.Input = input-none (is_clock ss (Some x)) _ x
        by direction.Output = target-none (target_of x) _

-- ---- what is declared under a path

abbrev pub under : List ℕ → List (List ℕ) → List (List ℕ)
under path [] = []
under path (n ∷ ns) = (path ++ n) ∷ under path ns

abbrev pub name_list : List DeclaredName → List (List ℕ)
name_list xs = map (λ x. x.name) xs

pub vectors-under : (path : List ℕ) (ss : List Scope) (c : Class) (shape : Shape) (xs : List DeclaredName)
    → part_names (declares_all path (declared_vectors ss c shape xs)) ≡ under path (name_list xs)
vectors-under path ss c shape [] = refl
vectors-under path ss c shape (x ∷ xs) = ap (λ l. (path ++ x.name) ∷ l) (vectors-under path ss c shape xs)

pub integers-under : (path : List ℕ) (ss : List Scope) (c : Class) (xs : List DeclaredName)
    → part_names (declares_all path (declared_integers ss c xs)) ≡ under path (name_list xs)
integers-under path ss c [] = refl
integers-under path ss c (x ∷ xs) = ap (λ l. (path ++ x.name) ∷ l) (integers-under path ss c xs)
