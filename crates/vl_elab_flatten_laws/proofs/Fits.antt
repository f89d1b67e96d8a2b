-- What steps that aren't refused declare has bounds of 32 signed bits, and each memory is one of variables.
use Rattle.std.specs.Prelude.{◌≡◌, refl, ℕ, List, [], ◌∷◌, ◌++◌, Bool, true, false, ◌&&◌, not, Option, Some, None}
use Rattle.std.specs.Prelude.{if◌then◌else◌, ℤ}
use Rattle.std.proofs.Common.{ap, sym, ◌∙◌, true≢false}
use Rattle.vl_tree.specs.declared.declaration.DeclaredName.{DeclaredName}
use Rattle.vl_tree.specs.declared.declaration.Direction.{Direction}
use Rattle.vl_tree.specs.declared.declaration.Direction.TheVariants as direction
use Rattle.vl_tree.specs.declared.declaration.FullPort.{FullPort}
use Rattle.vl_tree.specs.declared.declaration.NetKind.{NetKind}
use Rattle.vl_tree.specs.declared.declaration.NetKind.TheVariants as net
use Rattle.vl_tree.specs.declared.declaration.Range.{Range}
use Rattle.vl_tree.specs.declared.declaration.Shape.{Shape}
use Rattle.vl_tree.specs.declared.part.Assignment.{Assignment}
use Rattle.vl_tree.specs.declared.part.EventKind.{EventKind}
use Rattle.vl_tree.specs.declared.part.EventKind.TheVariants as event
use Rattle.vl_tree.specs.DeclarationWellFormed.{IsDeclaredName, IsOptionalRange}
use Rattle.vl_tree.specs.Expr.{Expr}
use Rattle.vl_tree.specs.Lval.{Lval}
use Rattle.vl_tree.specs.Stmt as stmt
use Rattle.vl_tree.specs.Stmt.{Stmt, Stmts, no_stmts, more_stmts}
use Rattle.vl_size.specs.declared.decl.Class.{Class}
use Rattle.vl_size.specs.declared.decl.Class.TheVariants as class
use Rattle.vl_size.specs.declared.decl.Decl.{Decl}
use Rattle.vl_size.specs.Size.{is_bound}
use Rattle.vl_mean.specs.Declarations.{bound_of, declared_integers, declared_names, integer_decl, vector, vector_bounds}
use Rattle.vl_mean.specs.Declarations.{word_bounds}
use Rattle.vl_mean.specs.FlatLaw.{IsMemory, is_variable}
use Rattle.vl_mean.specs.Parts.{Part, declares, equation, combinational, clocked, starts, all_initial_parts}
use Rattle.vl_mean.specs.Parts.{assignments}
use Rattle.vl_mean.specs.Parts.{block_part, connection_part, declares_all, initial_parts, optional_value, plain}
use Rattle.vl_mean.specs.Parts.{plain_target, port_part, target_of, values_of, with_target}
use Rattle.vl_mean.specs.Runs.{Each}
use Rattle.vl_mean.specs.Scopes.{Scope, constant_in, is_clock}
use Rattle.vl_mean_flat.specs.Flattened.{decls_of}
use Rattle.vl_mean_flat.proofs.EachOf.{both}
use Rattle.vl_elab_spec.specs.declared.elab_fault.ElabFault.{ElabFault}
use Rattle.vl_elab_spec.specs.Expressions.{refused_if}
use Rattle.vl_elab_spec.specs.Items.{declared_value, name_refusals, names_refusals, range_refusals, width_refusals}
use Rattle.vl_elab_spec.specs.Meanings.{Names, bound, constants, is_known, is_known_bound, is_known_range}
use Rattle.vl_elab_spec.specs.Meanings.{is_variable_class, may_have_words}
use Rattle.vl_elab_accepted_laws.proofs.Fresh.{NoneOf, none-front, none-back, not-refused}
use Rattle.vl_elab_scope.specs.Seen.{AllNamed}
use Rattle.vl_elab_accepted_laws.specs.Sized.{AreSure}
use Rattle.vl_elab_spec.specs.Among.{AreAmong}
use Rattle.vl_elab_spec.proofs.Stays.{known_bound}
use Rattle.vl_elab_accepted_laws.proofs.Constants.{first_true, range_known, second_true}

-- all that is asked of a declaration, but its name
pub record IsFit (d : Decl) : Type 0 where
  pub left : is_bound d.left ≡ true
  pub right : is_bound d.right ≡ true
  pub memory : IsMemory d.words d

named_memory : (d : Decl) (text : List ℕ) (words : Option (ℤ × ℤ)) → IsMemory words d
    → IsMemory words (record d { name = text })
named_memory d text None h = tt
named_memory d text (Some bounds) h = h

named_fit : (d : Decl) (text : List ℕ) → IsFit d → IsFit (record d { name = text })
named_fit d text h = record { left = h.left; right = h.right; memory = named_memory d text d.words h.memory }

-- of what a part declares
abbrev pub PartFits : Part → Type 0
PartFits (declares d) = IsFit d
PartFits (equation ts l ss e) = Unit {0}
PartFits (combinational ss s) = Unit {0}
PartFits (clocked ss s) = Unit {0}
PartFits (starts ss l e) = Unit {0}

pub declared_fit : (ps : List Part) → Each PartFits ps → Each IsFit (decls_of ps)
declared_fit [] h = tt
declared_fit (declares d ∷ ps) h = (h.0, declared_fit ps h.1)
declared_fit (equation ts l ss e ∷ ps) h = declared_fit ps h.1
declared_fit (combinational ss s ∷ ps) h = declared_fit ps h.1
declared_fit (clocked ss s ∷ ps) h = declared_fit ps h.1
declared_fit (starts ss l e ∷ ps) h = declared_fit ps h.1

pub under_fit : (path : List ℕ) (ds : List Decl) → Each IsFit ds → Each PartFits (declares_all path ds)
under_fit path [] h = tt
under_fit path (d ∷ ds) h = (named_fit d (path ++ d.name) h.0, under_fit path ds h.1)

-- ---- what declares nothing

module _ (ss : List Scope) where
  pub optional_fits : (kind : NetKind) (text : List ℕ) (value : Option Expr)
      → Each PartFits (optional_value ss kind text value)
  optional_fits kind text None = tt
  optional_fits net.Wire text (Some e) = (tt, tt)
  optional_fits net.Reg text (Some e) = (tt, tt)

  pub values_fit : (kind : NetKind) (xs : List DeclaredName) → Each PartFits (values_of ss kind xs)
  values_fit kind [] = tt
  values_fit kind (x ∷ xs) =
      both PartFits (optional_value ss kind x.name x.value) (values_of ss kind xs) (optional_fits kind x.name x.value)
      (values_fit kind xs)

  pub assignments_fit : (xs : List Assignment) → Each PartFits (assignments ss xs)
  assignments_fit [] = tt
  assignments_fit (x ∷ xs) = (tt, assignments_fit xs)

  pub block_fits : (kind : EventKind) (s : Stmt) → Each PartFits (block_part ss kind s ∷ [])
  block_fits event.Bare s = (tt, tt)
  block_fits event.Spaced s = (tt, tt)
  block_fits event.OpenJoined s = (tt, tt)
  block_fits event.CloseJoined s = (tt, tt)
  block_fits (event.Posedge text) s = (tt, tt)

  mutual
    pub initial_fits : (s : Stmt) → Each PartFits (initial_parts ss s)
    initial_fits (stmt.begin attrs p label xs) = all_initial_fit xs
    initial_fits (stmt.assign attrs p l kind e) = (tt, tt)
    initial_fits (stmt.if_only attrs p e x) = tt
    initial_fits (stmt.if_else attrs p e x y) = tt
    initial_fits (stmt.case attrs p kind e arms) = tt
    initial_fits (stmt.assume attrs p e) = tt
    initial_fits (stmt.empty attrs p) = tt

    all_initial_fit : (xs : Stmts) → Each PartFits (all_initial_parts ss xs)
    all_initial_fit no_stmts = tt
    all_initial_fit (more_stmts x xs) =
        both PartFits (initial_parts ss x) (all_initial_parts ss xs) (initial_fits x) (all_initial_fit xs)

  module _ (inside : List Scope) where
    output_fits : (text : List ℕ) (o : Option Lval)
        → Each PartFits (with_target o (λ l. equation ss l inside (plain text) ∷ []))
    output_fits text None = tt
    output_fits text (Some l) = (tt, tt)

    input_fits : (clock : Bool) (text : List ℕ) (e : Expr)
        → Each PartFits (if clock then [] else equation inside (plain_target text) ss e ∷ [])
    input_fits true text e = tt
    input_fits false text e = (tt, tt)

    joined_fits : (k : Direction) (text : List ℕ) (e : Expr) → Each PartFits (connection_part ss inside k text e)
    joined_fits direction.Input text e = input_fits (is_clock ss (Some e)) text e
    joined_fits direction.Output text e = output_fits text (target_of e)

    pub port_fits : (q : Option FullPort) (value : Option Expr) → Each PartFits (port_part ss inside q value)
    port_fits None value = tt
    port_fits (Some q) None = tt
    port_fits (Some q) (Some e) = joined_fits q.direction q.name e

-- ---- declarations

variable_so : (bounds : List Scope) (k : Class) (shape : Shape) (text : List ℕ) (words : Option Range)
    → is_variable_class k ≡ true → is_variable (vector bounds k false shape text words) ≡ true
variable_so bounds class.Variable shape text words h = refl
variable_so bounds class.Net shape text words h = absurd (true≢false (sym h))
variable_so bounds class.Clock shape text words h = absurd (true≢false (sym h))
variable_so bounds class.Reset shape text words h = absurd (true≢false (sym h))
variable_so bounds class.Input shape text words h = absurd (true≢false (sym h))
variable_so bounds class.EachCycle shape text words h = absurd (true≢false (sym h))
variable_so bounds class.Once shape text words h = absurd (true≢false (sym h))

integer_so : (bounds : List Scope) (k : Class) (x : DeclaredName) → is_variable_class k ≡ true
    → is_variable (integer_decl bounds k x) ≡ true
integer_so bounds class.Variable x h = refl
integer_so bounds class.Net x h = absurd (true≢false (sym h))
integer_so bounds class.Clock x h = absurd (true≢false (sym h))
integer_so bounds class.Reset x h = absurd (true≢false (sym h))
integer_so bounds class.Input x h = absurd (true≢false (sym h))
integer_so bounds class.EachCycle x h = absurd (true≢false (sym h))
integer_so bounds class.Once x h = absurd (true≢false (sym h))

allowed : (b : Bool) (g : ElabFault) → NoneOf (refused_if (not b) g) → b ≡ true
allowed true g h = refl
allowed false g h = absurd (true≢false (not-refused true g h))

module _ (ns : List Names) (named : AllNamed ns) (sure : AreSure ns) (bounds : List Scope)
    (among : AreAmong (constants ns) (constant_in bounds)) where
  bound_fits : (e : Expr) → is_known_bound ns e ≡ true → is_bound (bound_of bounds e) ≡ true
  bound_fits e h =
      ap is_bound (sym (known_bound ns (constant_in bounds) among e (first_true (is_known ns e) (is_bound (bound ns e)) h)))
      ∙ second_true (is_known ns e) (is_bound (bound ns e)) h

  left_fits : (r : Option Range) → is_known_range ns r ≡ true → is_bound (vector_bounds bounds r).0 ≡ true
  left_fits None h = refl
  left_fits (Some r) h =
      bound_fits r.left (first_true (is_known_bound ns r.left) (is_known_bound ns r.right) h)

  right_fits : (r : Option Range) → is_known_range ns r ≡ true → is_bound (vector_bounds bounds r).1 ≡ true
  right_fits None h = refl
  right_fits (Some r) h =
      bound_fits r.right (second_true (is_known_bound ns r.left) (is_known_bound ns r.right) h)

  memory_fits : (k : Class) (words : Option Range) (value : Option Expr) (d : Decl)
      → is_known_range ns words ≡ true → may_have_words k words value ≡ true
      → (is_variable_class k ≡ true → is_variable d ≡ true) → d.output ≡ false → IsMemory (word_bounds bounds words) d
  memory_fits k None value d h may f out = tt
  memory_fits k (Some r) value d h may f out = (
    bound_fits r.left (first_true (is_known_bound ns r.left) (is_known_bound ns r.right) h),
    bound_fits r.right (second_true (is_known_bound ns r.left) (is_known_bound ns r.right) h),
    f (first_true (is_variable_class k) _ may),
    out,
  )

  -- of a port, which is no memory
  pub port_decl_fits : (k : Class) (output : Bool) (shape : Shape) (text : List ℕ) → IsOptionalRange shape.range
      → NoneOf (range_refusals ns shape.range) → IsFit (vector bounds k output shape text None)
  port_decl_fits k output shape text w h =
      let there = range_known ns named sure shape.range w h in
      record { left = left_fits shape.range there; right = right_fits shape.range there; memory = tt }

  -- the words of a name, and that it may have them
  record HasWords (k : Class) (x : DeclaredName) : Type 0 where
    words : is_known_range ns x.words ≡ true
    may : may_have_words k x.words x.value ≡ true

  words_of : (kind : NetKind) (k : Class) (shape : Option Range) (x : DeclaredName) → IsDeclaredName x
      → NoneOf (name_refusals ns kind k shape x) → HasWords k x
  words_of kind k shape x w h =
      let front = none-front _ (declared_value ns x.pos kind x.name x.words x.value) h in
      let sizes = none-front (range_refusals ns x.words ++ width_refusals ns x.pos shape) _ front in
      record {
        words = range_known ns named sure x.words w.1
            (none-front (range_refusals ns x.words) (width_refusals ns x.pos shape) sizes);
        may = allowed (may_have_words k x.words x.value) _
            (none-back (range_refusals ns x.words ++ width_refusals ns x.pos shape) _ front);
      }

  pub names_fit : (kind : NetKind) (k : Class) (shape : Shape) (xs : List DeclaredName)
      → IsOptionalRange shape.range → NoneOf (range_refusals ns shape.range) → Each IsDeclaredName xs
      → NoneOf (names_refusals ns kind k shape.range xs) → Each IsFit (declared_names bounds k shape xs)
  names_fit kind k shape [] wr r w h = tt
  names_fit kind k shape (x ∷ xs) wr r w h =
      let there = range_known ns named sure shape.range wr r in
      let y : HasWords k x = words_of kind k shape.range x w.0
      (none-front (name_refusals ns kind k shape.range x) (names_refusals ns kind k shape.range xs) h) in (
        record {
          left = left_fits shape.range there;
          right = right_fits shape.range there;
          memory = memory_fits k x.words x.value (vector bounds k false shape x.name x.words) y.words y.may
              (variable_so bounds k shape x.name x.words) refl;
        },
        names_fit kind k shape xs wr r w.1
            (none-back (name_refusals ns kind k shape.range x) (names_refusals ns kind k shape.range xs) h),
      )

  pub integers_fit : (kind : NetKind) (k : Class) (xs : List DeclaredName) → Each IsDeclaredName xs
      → NoneOf (names_refusals ns kind k None xs) → Each IsFit (declared_integers bounds k xs)
  integers_fit kind k [] w h = tt
  integers_fit kind k (x ∷ xs) w h =
      let y : HasWords k x = words_of kind k None x w.0
      (none-front (name_refusals ns kind k None x) (names_refusals ns kind k None xs) h) in (
        record {
          left = refl;
          right = refl;
          memory = memory_fits k x.words x.value (integer_decl bounds k x) y.words y.may (integer_so bounds k x) refl;
        },
        integers_fit kind k xs w.1
            (none-back (name_refusals ns kind k None x) (names_refusals ns kind k None xs) h),
      )
