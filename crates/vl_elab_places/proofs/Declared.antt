-- Declarations, parameters, assignments and items: behind each of their places.
use Rattle.std.specs.Prelude.{◌≡◌, refl, ℕ, List, [], ◌∷◌, ◌++◌, map, Option, Some, None}
use Rattle.fv_text.specs.declared.pos.Pos.{Pos}
use Rattle.vl_tree.specs.declared.declaration.DeclaredName.{DeclaredName}
use Rattle.vl_tree.specs.declared.declaration.Parameter.{Parameter}
use Rattle.vl_tree.specs.declared.declaration.Range.{Range}
use Rattle.vl_tree.specs.declared.item.Block as declared
use Rattle.vl_tree.specs.declared.item.ItemKind.TheVariants as k
use Rattle.vl_tree.specs.declared.item.RegionMark.TheVariants as mark
use Rattle.vl_tree.specs.declared.part.Assignment.{Assignment}
use Rattle.vl_tree.specs.Attributes.{Attributes}
use Rattle.vl_tree.specs.Expr.{Expr}
use Rattle.vl_tree.specs.Item.{Item, declaration, integer, genvar, parameter, assign, always, initial, instance}
use Rattle.vl_tree.specs.Item.{generate, for_loop, if_only, if_else}
use Rattle.vl_tree.specs.ItemView.{shown}
use Rattle.vl_elab_spec.specs.NodePlaces.{assignment_places, declared_places, expr_places, own_places}
use Rattle.vl_elab_spec.specs.NodePlaces.{parameter_places, range_places, target_places, value_places}
use Rattle.vl_elab_places.specs.declared.cursor.Cursor.{Cursor}
use Rattle.vl_elab_places.specs.Passing.{assignments_passed, declared_passed, expr_passed, moved, own_passed}
use Rattle.vl_elab_places.specs.Passing.{parameters_passed, passed, range_passed, target_passed}
use Rattle.vl_elab_places.specs.Passing.{value_passed}
use Rattle.vl_elab_places.proofs.Moved.{both_pass}
use Rattle.vl_elab_places.proofs.Nodes.{expr_passes, stmt_passes, target_passes}

pub value_passes : (o : Option Expr) (c : Cursor) → value_passed o c ≡ passed (value_places o) c
value_passes None c = refl
value_passes (Some e) c = expr_passes e c

pub range_passes : (r : Option Range) (c : Cursor) → range_passed r c ≡ passed (range_places r) c
range_passes None c = refl
range_passes (Some r) c =
    both_pass (expr_passed r.left) (expr_passed r.right) (expr_places r.left) (expr_places r.right) (expr_passes r.left)
    (expr_passes r.right) c

pub declared_passes : (xs : List DeclaredName) (c : Cursor) → declared_passed xs c ≡ passed (declared_places xs) c
declared_passes [] c = refl
declared_passes (x ∷ xs) c =
    both_pass (λ k. value_passed x.value (range_passed x.words k)) (declared_passed xs)
    (range_places x.words ++ value_places x.value) (declared_places xs)
    (both_pass (range_passed x.words) (value_passed x.value) (range_places x.words) (value_places x.value)
    (range_passes x.words) (value_passes x.value)) (λ k. declared_passes xs k) (moved 1 x.pos c)

pub parameters_pass : (xs : List Parameter) (c : Cursor) → parameters_passed xs c ≡ passed (parameter_places xs) c
parameters_pass [] c = refl
parameters_pass (x ∷ xs) c =
    both_pass (λ k. expr_passed x.value (range_passed x.shape.range k)) (parameters_passed xs)
    (range_places x.shape.range ++ expr_places x.value) (parameter_places xs)
    (both_pass (range_passed x.shape.range) (expr_passed x.value) (range_places x.shape.range) (expr_places x.value)
    (range_passes x.shape.range) (expr_passes x.value)) (λ k. parameters_pass xs k) (moved 1 x.pos c)

pub assignments_pass : (xs : List Assignment) (c : Cursor) → assignments_passed xs c ≡ passed (assignment_places xs) c
assignments_pass [] c = refl
assignments_pass (x ∷ xs) c =
    both_pass (λ k. expr_passed x.value (target_passed x.target k)) (assignments_passed xs)
    (target_places x.target ++ expr_places x.value) (assignment_places xs)
    (both_pass (target_passed x.target) (expr_passed x.value) (target_places x.target) (expr_places x.value)
    (target_passes x.target) (expr_passes x.value)) (λ k. assignments_pass xs k) c

pub own_passes : (x : Item) (c : Cursor) → own_passed x c ≡ passed (own_places x) c
own_passes (declaration attrs p d) c =
    both_pass (range_passed d.shape.range) (declared_passed d.names) (range_places d.shape.range)
    (declared_places d.names) (range_passes d.shape.range) (declared_passes d.names) (moved 1 p c)
own_passes (integer attrs p xs) c = declared_passes xs (moved 1 p c)
own_passes (genvar attrs p xs) c = refl
own_passes (parameter attrs p kind xs) c = parameters_pass xs (moved 1 p c)
own_passes (assign attrs p xs) c = assignments_pass xs (moved 1 p c)
own_passes (always attrs p event s) c = stmt_passes s (moved 1 p c)
own_passes (initial attrs p s) c = stmt_passes s (moved 1 p c)
own_passes (instance attrs p x) c = refl
own_passes (generate attrs p mark.Open) c = refl
own_passes (generate attrs p mark.Close) c = refl
own_passes (for_loop attrs p head b) c = expr_passes head.start (moved 1 p c)
own_passes (if_only attrs p e b) c = expr_passes e (moved 1 p c)
own_passes (if_else attrs p e b d) c = expr_passes e (moved 1 p c)

-- an `if` by itself, with or without an `else`
pub if_passed : (attrs : Attributes) (p : Pos) (e : Expr) (b : declared.Block) (second : Option declared.Block)
    (c : Cursor) → expr_passed e (moved 1 p c) ≡ own_passed (shown attrs p (k.If e b second)) c
if_passed attrs p e b None c = refl
if_passed attrs p e b (Some d) c = refl
