-- Values in declarations, and statements of blocks, by cases.
use Rattle.std.specs.Prelude.{◌≡◌, refl, ℕ, zero, suc, ◌≤◌, ◌<◌, List, [], ◌∷◌, ◌++◌, length, get_or, false}
use Rattle.std.specs.Prelude.{Option, Some, None}
use Rattle.std.proofs.Common.{ap, sym, ◌∙◌, subst, arith}
use Rattle.fv_text.specs.declared.pos.Pos.{Pos}
use Rattle.vl_tree.specs.declared.declaration.NetKind.{NetKind}
use Rattle.vl_tree.specs.declared.declaration.NetKind.TheVariants as net
use Rattle.vl_tree.specs.declared.part.EventKind.{EventKind}
use Rattle.vl_tree.specs.declared.part.EventKind.TheVariants as e
use Rattle.vl_tree.specs.declared.expr.Select.{Select}
use Rattle.vl_tree.specs.declared.expr.Select.TheVariants as s
use Rattle.vl_tree.specs.Expr.{Expr, name}
use Rattle.vl_tree.specs.ExprView.{selects}
use Rattle.vl_tree.specs.Lval.{Lval}
use Rattle.vl_tree.specs.Stmt.{Stmt, depth, stmts, stmts_depth}
use Rattle.vl_size.specs.declared.decl.Decl.{Decl}
use Rattle.vl_size.specs.Table.{IsShaped, is_declared}
use Rattle.vl_mean.specs.declared.driver.DriverKind.TheVariants as k
use Rattle.vl_mean.specs.Parts.{block_part, declares_all, optional_value, plain_target, value_part}
use Rattle.vl_mean.specs.Scopes.{Scope, is_clock}
use Rattle.vl_mean_flat.specs.Flattened.{start_value}
use Rattle.vl_mean_flat.specs.FullNames.{flat_expr, flat_lval, flat_stmt}
use Rattle.vl_elab_draft.specs.Ends.{EndsPlain}
use Rattle.vl_elab_draft.specs.Written.{Written, with_decl, with_kind, with_start}
use Rattle.vl_elab_emit.specs.Starts.{IsStart}
use Rattle.vl_elab_emit.specs.Behind.{MayStandBehind, StandBehind, placed_at, unplaced}
use Rattle.vl_elab_emit.proofs.Standing.{fresh, nothing_more}
use Rattle.vl_elab_emit.proofs.Single.{
  declared_behind,
  equation_behind,
  combinational_behind,
  clocked_behind,
  start_behind,
}

-- ---- declarations

abbrev under : List ℕ → Decl → Decl
under path d = record d { name = path ++ d.name }

pub under_fresh : (w : Written) (path : List ℕ) (d e : Decl) → e ≡ under path d
    → MayStandBehind w (declares_all path (d ∷ [])) → is_declared w.decls e.name ≡ false
under_fresh w path d e h m = ap (λ x. is_declared w.decls x.name) h ∙ fresh w (under path d) [] m

pub under_ended : (w : Written) (path : List ℕ) (d e : Decl) → e ≡ under path d
    → MayStandBehind w (declares_all path (d ∷ [])) → EndsPlain e
under_ended w path d e h m = subst EndsPlain (sym h) m.ended.0

pub under_shaped : (w : Written) (path : List ℕ) (d e : Decl) → e ≡ under path d
    → MayStandBehind w (declares_all path (d ∷ [])) → IsShaped e
under_shaped w path d e h m = subst IsShaped (sym h) m.shaped.0

pub under_behind : (w v : Written) (path : List ℕ) (d e : Decl) → e ≡ under path d → v ≡ with_decl w e
    → StandBehind w (unplaced (declares_all path (d ∷ []))) v
under_behind w v path d e h k = declared_behind w v (under path d) (k ∙ ap (with_decl w) h)

-- ---- values

pub wire_behind : (w v : Written) (p : Pos) (ss : List Scope) (kind : NetKind) (text : List ℕ) (l : Lval) (x : Expr)
    → kind ≡ net.Wire → l ≡ plain_target text
    → v ≡ with_kind w p (k.Assign (flat_lval ss l) (flat_expr ss x))
    → StandBehind w (placed_at p (value_part ss kind text x ∷ [])) v
wire_behind w v p ss kind text l x h g e =
    subst (λ n. StandBehind w (placed_at p (value_part ss n text x ∷ [])) v) (sym h)
    (equation_behind w v p ss (plain_target text) ss x
    (e ∙ ap (λ m. with_kind w p (k.Assign (flat_lval ss m) (flat_expr ss x))) g))

pub reg_behind : (w v : Written) (p : Pos) (ss : List Scope) (kind : NetKind) (text : List ℕ) (l : Lval) (x : Expr)
    → kind ≡ net.Reg → l ≡ plain_target text
    → v ≡ with_start w (record { target = flat_lval ss l; value = start_value ss l x })
    → StandBehind w (placed_at p (value_part ss kind text x ∷ [])) v
reg_behind w v p ss kind text l x h g e =
    subst (λ n. StandBehind w (placed_at p (value_part ss n text x ∷ [])) v) (sym h)
    (start_behind w v ss (plain_target text) x
    (e ∙ ap (λ m. with_start w (record { target = flat_lval ss m; value = start_value ss m x })) g))

pub reg_begins : (w : Written) (ss : List Scope) (kind : NetKind) (text : List ℕ) (l : Lval) (x : Expr)
    → kind ≡ net.Reg → l ≡ plain_target text → MayStandBehind w (value_part ss kind text x ∷ []) → IsStart ss l x
reg_begins w ss kind text l x h g m =
    let at_reg : MayStandBehind w (value_part ss net.Reg text x ∷ [])
    = subst (λ n. MayStandBehind w (value_part ss n text x ∷ [])) h m in
    subst (λ t. IsStart ss t x) (sym g) at_reg.begun.0

pub no_value : (w : Written) (p : Pos) (ss : List Scope) (kind : NetKind) (text : List ℕ) (o : Option Expr)
    → o ≡ None → StandBehind w (placed_at p (optional_value ss kind text o)) w
no_value w p ss kind text o h =
    subst (λ (v : Option Expr). StandBehind w (placed_at p (optional_value ss kind text v)) w) (sym h) (nothing_more w)

pub value_may : (w : Written) (ss : List Scope) (kind : NetKind) (text : List ℕ) (o : Option Expr) (x : Expr)
    → o ≡ Some x → MayStandBehind w (optional_value ss kind text o)
    → MayStandBehind w (value_part ss kind text x ∷ [])
value_may w ss kind text o x h m = subst (λ v. MayStandBehind w (optional_value ss kind text v)) h m

pub value_behind : (w v : Written) (p : Pos) (ss : List Scope) (kind : NetKind) (text : List ℕ) (o : Option Expr)
    (x : Expr) → o ≡ Some x → StandBehind w (placed_at p (value_part ss kind text x ∷ [])) v
    → StandBehind w (placed_at p (optional_value ss kind text o)) v
value_behind w v p ss kind text o x h m =
    subst (λ u. StandBehind w (placed_at p (optional_value ss kind text u)) v) (sym h) m

-- ---- blocks

abbrev pub is_edge : EventKind → Type 0
is_edge (e.Posedge text) = Unit {0}
is_edge kind = ⊥

pub edge_behind : (w v : Written) (p : Pos) (ss : List Scope) (kind : EventKind) (text : List ℕ) (x : Stmt)
    → kind ≡ e.Posedge text → v ≡ with_kind w p (k.Clocked (flat_stmt ss x))
    → StandBehind w (placed_at p (block_part ss kind x ∷ [])) v
edge_behind w v p ss kind text x h g =
    subst (λ n. StandBehind w (placed_at p (block_part ss n x ∷ [])) v) (sym h) (clocked_behind w v p ss x g)

pub always_behind : (w v : Written) (p : Pos) (ss : List Scope) (kind : EventKind) (x : Stmt)
    → (is_edge kind → ⊥) → v ≡ with_kind w p (k.Comb (flat_stmt ss x))
    → StandBehind w (placed_at p (block_part ss kind x ∷ [])) v
always_behind w v p ss (e.Posedge text) x h g = absurd (h tt)
always_behind w v p ss e.Bare x h g = combinational_behind w v p ss x g
always_behind w v p ss e.Spaced x h g = combinational_behind w v p ss x g
always_behind w v p ss e.OpenJoined x h g = combinational_behind w v p ss x g
always_behind w v p ss e.CloseJoined x h g = combinational_behind w v p ss x g

-- a statement is no deeper than its list
pub stmt_depth : (xs : List Stmt) (i : ℕ) (x : Stmt) → i < length xs → x ≡ get_or xs i x
    → depth x ≤ stmts_depth (stmts xs)
stmt_depth [] i x h k = absurd (omega arith)
stmt_depth (y ∷ xs) zero x h k = let p : depth x ≤ depth y = omega (arith, ap depth k) in omega (arith, p)
stmt_depth (y ∷ xs) (suc i) x h k = omega (arith, stmt_depth xs i x (omega arith) k)

-- ---- the clock

-- with a select it isn't the clock by its plain name
pub clock_selected : (ss : List Scope) (p : Pos) (text : List ℕ) (xs : List Select) (x : Expr) → (xs ≡ [] → ⊥)
    → x ≡ name p text (selects xs) → is_clock ss (Some x) ≡ false
clock_selected ss p text [] x h e = absurd (h refl)
clock_selected ss p text (s.Bit q i ∷ xs) x h e = ap (λ y. is_clock ss (Some y)) e
clock_selected ss p text (s.Part q i j ∷ xs) x h e = ap (λ y. is_clock ss (Some y)) e
clock_selected ss p text (s.Indexed q i j ∷ xs) x h e = ap (λ y. is_clock ss (Some y)) e
