-- The answered refusal of a list of parts is that of its parts.
use Rattle.std.specs.Prelude.{◌≡◌, refl, List, [], ◌∷◌, ◌++◌, true, false, Option, Some, None}
use Rattle.std.proofs.Common.{ap, sym, ◌∙◌, append_assoc}
use Rattle.vl_tree.specs.declared.declaration.DeclaredName.{DeclaredName}
use Rattle.vl_tree.specs.declared.declaration.NetKind.{NetKind}
use Rattle.vl_tree.specs.declared.declaration.Range.{Range}
use Rattle.vl_tree.specs.declared.part.Assignment.{Assignment}
use Rattle.vl_size.specs.declared.decl.Class.{Class}
use Rattle.vl_elab_spec.specs.declared.elab_fault.ElabFault.{ElabFault}
use Rattle.vl_elab_spec.specs.Items.{name_refusals, names_refusals, assignments_refusals}
use Rattle.vl_elab_spec.specs.Meanings.{Names}
use Rattle.vl_elab_spec.specs.Refused.{lower_of, lowest}
use Rattle.vl_elab_spec.specs.Statements.{assignment_refusals}
use Rattle.vl_elab_check_expr.proofs.Lowest.{lowest_two}
use Rattle.vl_elab_check_item.specs.ItemParts.{names_fault, assignments_fault}

pub same_names : (ns : List Names) (kind : NetKind) (c : Class) (shape : Option Range) (xs : List DeclaredName)
    → names_fault ns kind c shape xs ≡ lowest (names_refusals ns kind c shape xs)
same_names ns kind c shape [] = refl
same_names ns kind c shape (x ∷ xs) =
    lowest_two (name_refusals ns kind c shape x) (names_refusals ns kind c shape xs) _ _ refl
    (same_names ns kind c shape xs)

pub same_assignments : (ns : List Names) (xs : List Assignment)
    → assignments_fault ns xs ≡ lowest (assignments_refusals ns xs)
same_assignments ns [] = refl
same_assignments ns (x ∷ xs) =
    lowest_two (assignment_refusals ns true true false x.target x.value) (assignments_refusals ns xs) _ _ refl
    (same_assignments ns xs)

-- ---- of three parts

list_of : Option ElabFault → List ElabFault
list_of None = []
list_of (Some g) = g ∷ []

lowest_list : (o : Option ElabFault) → o ≡ lowest (list_of o)
unfolding list_of
lowest_list None = refl
lowest_list (Some g) = refl

pub assoc : (a b c : Option ElabFault) → lower_of (lower_of a b) c ≡ lower_of a (lower_of b c)
assoc a b c =
    let xs = list_of a in
    let ys = list_of b in
    let zs = list_of c in
    lowest_two (xs ++ ys) zs _ _ (lowest_two xs ys _ _ (lowest_list a) (lowest_list b)) (lowest_list c)
    ∙ ap lowest (append_assoc xs ys zs)
    ∙ sym (lowest_two xs (ys ++ zs) _ _ (lowest_list a) (lowest_two ys zs _ _ (lowest_list b) (lowest_list c)))
