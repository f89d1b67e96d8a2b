-- The class that attributes give, one behind the other.
use Rattle.std.specs.Prelude.{◌≡◌, refl, List, [], ◌∷◌, ◌++◌, Bool, true, false, bytes_eq, codes}
use Rattle.std.specs.Prelude.{if◌then◌else◌}
use Rattle.std.proofs.Common.{ap}
use Rattle.vl_tree.specs.declared.attribute.Attribute.{Attribute}
use Rattle.vl_size.specs.declared.decl.Class.{Class}
use Rattle.vl_size.specs.declared.decl.Class.TheVariants as class
use Rattle.vl_mean.specs.Declarations.{class_of_attributes}

pub class_append : (c : Class) (xs ys : List Attribute)
    → class_of_attributes (class_of_attributes c ys) xs ≡ class_of_attributes c (xs ++ ys)
class_append c [] ys = refl
class_append c (x ∷ xs) ys =
    ap (λ d. if bytes_eq x.name (codes "anyseq") then class.EachCycle
    else if bytes_eq x.name (codes "anyconst") then class.Once else d) (class_append c xs ys)

pub class_cons : (c d : Class) (x : Attribute) (xs : List Attribute) → d ≡ class_of_attributes c xs
    → class_of_attributes d (x ∷ []) ≡ class_of_attributes c (x ∷ xs)
class_cons c d x xs e =
    ap (λ d. if bytes_eq x.name (codes "anyseq") then class.EachCycle
    else if bytes_eq x.name (codes "anyconst") then class.Once else d) e
