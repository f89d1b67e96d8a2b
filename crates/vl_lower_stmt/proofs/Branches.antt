-- Statements over frames, by those that they are made of.
use Rattle.std.specs.Prelude.{◌≡◌, refl, ℕ, ◌==◌, Bool, true, false, ◌&&◌, not, List, [], ◌∷◌, ◌++◌, Option, Some}
use Rattle.std.specs.Prelude.{if◌then◌else◌}
use Rattle.std.proofs.Common.{ap, sym, ◌∙◌}
use Rattle.fv_text.specs.declared.pos.Pos.{Pos}
use Rattle.fv_bits.specs.Bits.{bit}
use Rattle.vl_tree.specs.Attributes.{Attributes}
use Rattle.vl_tree.specs.Expr.{Expr}
use Rattle.vl_tree.specs.Stmt.{Stmt, if_only, if_else, empty, stmts}
use Rattle.vl_size.specs.declared.decl.Decl.{Decl}
use Rattle.vl_size.specs.Size.{Values, is_true}
use Rattle.vl_mean.specs.Execution.{State, exec, exec_all}
use Rattle.vl_mean.specs.FlatLaw.{flat_scopes}
use Rattle.vl_mean.specs.Scopes.{operand_in}
use Rattle.wn_net.specs.Value.{Given}
use Rattle.wn_net.specs.Net.{Netlist, IsNodeOf, value_at}
use Rattle.wn_net.specs.Given.{IsGiven}
use Rattle.wn_net.specs.Changes.{AddsNodes}
use Rattle.wn_net.proofs.Laws.{adds_on, node_on, given_on}
use Rattle.vl_lower_assign.specs.Slots.{IsPath, is_taken}
use Rattle.vl_lower_assign.specs.Frames.{Cells, IsFrame, StandsFor}
use Rattle.vl_lower_assign.specs.Stored.{stored, all_stored}
use Rattle.vl_lower_assign.proofs.Tests.{path_on}
use Rattle.vl_lower_assign.proofs.Behind.{steps_none, steps_then, steps_as, steps_behind}
use Rattle.vl_lower_stmt.specs.Executes.{Enters, Evaluates, Executes, ExecutesAll}
use Rattle.vl_lower_stmt.proofs.Choices.{bit_one, where_both, where_either, where_either_also, where_then}
use Rattle.vl_lower_stmt.proofs.Choices.{where_then_also}
use Rattle.vl_lower_stmt.proofs.Lists.{exec_behind, stored_behind}

module _ (ds : List Decl) where
  -- the test of a condition
  abbrev pub Tests : Netlist → Netlist → Cells → Expr → ℕ → Type 0
  Tests old new f e test = Evaluates ds old new f.now 1 (λ v. bit (is_true (operand_in (flat_scopes ds) v e))) test

  pub told : (old mid : Netlist) (f : Cells) (path : Option ℕ) (e : Expr) (test : ℕ) → IsPath old path
      → Tests old mid f e test → (g : Given) (t : State) (w : Values) → IsGiven old g → StandsFor old g ds f t w
      → (b : Bool → Bool)
      → (is_taken mid g path && b (value_at mid g test == 1))
      ≡ (is_taken old g path && b (is_true (operand_in (flat_scopes ds) t.now e)))
  told old mid f path e test way tests g t w given has b =
      λ i. path_on old mid g path tests.adds way i
      && b ((ap (λ n. n == 1) (tests.value g t.now given has.now)
      ∙ bit_one (is_true (operand_in (flat_scopes ds) t.now e))) i)

  -- a path by its test
  pub entered : (old mid new : Netlist) (cells : List ℕ) (path : Option ℕ) (test inner : ℕ)
      (b : Bool → Bool) (e : Expr) → IsPath old path
      → Evaluates ds old mid cells 1 (λ v. bit (is_true (operand_in (flat_scopes ds) v e))) test → AddsNodes mid new
      → IsNodeOf new 1 inner
      → ((g : Given) → IsGiven mid g
      → is_taken new g (Some inner) ≡ (is_taken mid g path && b (value_at mid g test == 1)))
      → Enters ds old new cells path b e inner
  entered old mid new cells path test inner b e way tests adds there narrows = record {
    adds = adds_on old mid new tests.adds adds;
    node = there;
    taken = λ g v given has.
        narrows g (given_on old mid g tests.adds given)
        ∙ (λ i. path_on old mid g path tests.adds way i
        && b ((ap (λ n. n == 1) (tests.value g v given has)
        ∙ bit_one (is_true (operand_in (flat_scopes ds) v e))) i));
  }

  -- it stays one
  pub enters_on : (old mid new : Netlist) (cells : List ℕ) (path : Option ℕ) (b : Bool → Bool) (e : Expr) (id : ℕ)
      → Enters ds old mid cells path b e id → AddsNodes mid new → Enters ds old new cells path b e id
  enters_on old mid new cells path b e id h adds = record {
    adds = adds_on old mid new h.adds adds;
    node = node_on mid new 1 id adds h.node;
    taken = λ g v given has. path_on mid new g (Some id) adds h.node ∙ h.taken g v given has;
  }

  -- ---- section 9.4

  pub one_branch : (old mid new : Netlist) (f h : Cells) (path : Option ℕ) (inner : ℕ) (attrs : Attributes)
      (p : Pos) (e : Expr) (x : Stmt) → IsFrame old ds f → Enters ds old mid f.now path (λ b. b) e inner
      → Executes ds mid new f h (Some inner) x → Executes ds old new f h path (if_only attrs p e x)
  one_branch old mid new f h path inner attrs p e x own enters one =
      steps_as ds old new f h _ _ _ _ (steps_behind ds old mid new f h _ _ enters.adds own one)
      (λ g t w given has.
      (λ i. if enters.taken g t.now given has.now i then exec (flat_scopes ds) x t else t)
      ∙ where_both (is_taken old g path) (is_true (operand_in (flat_scopes ds) t.now e)) (exec (flat_scopes ds) x t) t)
      (λ g t w given has.
      (λ i. if enters.taken g t.now given has.now i then stored (flat_scopes ds) x t w else w)
      ∙ where_both (is_taken old g path) (is_true (operand_in (flat_scopes ds) t.now e))
      (stored (flat_scopes ds) x t w) w)

  -- both paths are made before the first statement
  pub two_branches : (old by half new : Netlist) (f h k : Cells) (path : Option ℕ) (inner other : ℕ)
      (attrs : Attributes) (p : Pos) (e : Expr) (x y : Stmt) → IsFrame old ds f → IsPath old path
      → Enters ds old by f.now path (λ b. b) e inner → Enters ds old by f.now path (λ b. not b) e other
      → Executes ds by half f h (Some inner) x → Executes ds half new h k (Some other) y
      → Executes ds old new f k path (if_else attrs p e x y)
  two_branches old by half new f h k path inner other attrs p e x y own way one two first second =
      steps_as ds old new f k _ _ _ _
      (steps_behind ds old by new f k _ _ one.adds own (steps_then ds by half new f h k _ _ _ _ first second))
      (λ g t w given has.
      (λ i. if out g t w given has i
      then exec (flat_scopes ds) y (if inn g t w given has i then exec (flat_scopes ds) x t else t)
      else (if inn g t w given has i then exec (flat_scopes ds) x t else t))
      ∙ where_either (is_taken old g path) (is_true (operand_in (flat_scopes ds) t.now e))
      (exec (flat_scopes ds) x) (exec (flat_scopes ds) y) t)
      (λ g t w given has.
      (λ i. if out g t w given has i
      then stored (flat_scopes ds) y (if inn g t w given has i then exec (flat_scopes ds) x t else t)
      (if inn g t w given has i then stored (flat_scopes ds) x t w else w)
      else (if inn g t w given has i then stored (flat_scopes ds) x t w else w))
      ∙ where_either_also (is_taken old g path) (is_true (operand_in (flat_scopes ds) t.now e))
      (exec (flat_scopes ds) x) (stored (flat_scopes ds) x) (stored (flat_scopes ds) y) t w)
    where
      inn : (g : Given) (t : State) (w : Values) → IsGiven old g → StandsFor old g ds f t w
          → is_taken by g (Some inner) ≡ (is_taken old g path && is_true (operand_in (flat_scopes ds) t.now e))
      inn g t w given has = one.taken g t.now given has.now

      out : (g : Given) (t : State) (w : Values) → IsGiven old g → StandsFor old g ds f t w
          → is_taken half g (Some other)
          ≡ (is_taken old g path && not (is_true (operand_in (flat_scopes ds) t.now e)))
      out g t w given has =
          path_on by half g (Some other) first.adds two.node
          ∙ two.taken g t.now given has.now

  -- ---- one after the other

  pub nothing : (net : Netlist) (f : Cells) (path : Option ℕ) (attrs : Attributes) (p : Pos) → IsFrame net ds f
      → Executes ds net net f f path (empty attrs p)
  nothing net f path attrs p own =
      steps_as ds net net f f _ _ _ _ (steps_none ds net f own) (λ g t w given has. same (is_taken net g path) t)
      (λ g t w given has. same (is_taken net g path) w)
    where
      same : {A : Type 0} (b : Bool) (t : A) → t ≡ (if b then t else t)
      same true t = refl
      same false t = refl

  pub all_none : (net : Netlist) (f : Cells) (path : Option ℕ) → IsFrame net ds f
      → ExecutesAll ds net net f f path (stmts [])
  all_none net f path own =
      steps_as ds net net f f _ _ _ _ (steps_none ds net f own) (λ g t w given has. same (is_taken net g path) t)
      (λ g t w given has. same (is_taken net g path) w)
    where
      same : {A : Type 0} (b : Bool) (t : A) → t ≡ (if b then t else t)
      same true t = refl
      same false t = refl

  pub all_more : (old mid new : Netlist) (f h k : Cells) (path : Option ℕ) (xs : List Stmt) (x : Stmt)
      → IsPath old path → ExecutesAll ds old mid f h path (stmts xs) → Executes ds mid new h k path x
      → ExecutesAll ds old new f k path (stmts (xs ++ x ∷ []))
  all_more old mid new f h k path xs x way one two =
      steps_as ds old new f k _ _ _ _ (steps_then ds old mid new f h k _ _ _ _ one two)
      (λ g t w given has.
      let p = is_taken old g path in
      (λ i. if path_on old mid g path one.adds way i
      then exec (flat_scopes ds) x (if p then exec_all (flat_scopes ds) (stmts xs) t else t)
      else (if p then exec_all (flat_scopes ds) (stmts xs) t else t))
      ∙ where_then p (exec_all (flat_scopes ds) (stmts xs)) (exec (flat_scopes ds) x) t
      ∙ (λ i. if p then sym (exec_behind (flat_scopes ds) xs x t) i else t))
      (λ g t w given has.
      let p = is_taken old g path in
      (λ i. if path_on old mid g path one.adds way i
      then stored (flat_scopes ds) x (if p then exec_all (flat_scopes ds) (stmts xs) t else t)
      (if p then all_stored (flat_scopes ds) (stmts xs) t w else w)
      else (if p then all_stored (flat_scopes ds) (stmts xs) t w else w))
      ∙ where_then_also p (exec_all (flat_scopes ds) (stmts xs)) (all_stored (flat_scopes ds) (stmts xs))
      (stored (flat_scopes ds) x) t w
      ∙ (λ i. if p then sym (stored_behind (flat_scopes ds) xs x t w) i else w))
