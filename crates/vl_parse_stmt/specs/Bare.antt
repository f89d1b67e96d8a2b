-- Between functions: What functions promise each other, and what they stand on. What a statement has before it. IEEE
-- 1364-2005, section 3.8.
use Rattle.std.specs.Prelude.{◌≡◌, []}
use Rattle.vl_tree.specs.Attributes.{Attributes}
use Rattle.vl_tree.specs.Stmt.{Stmt, begin, if_only, if_else, case, assign, assume, empty}

abbrev pub attributes_of : Stmt → Attributes
attributes_of (begin attrs p label xs) = attrs
attributes_of (if_only attrs p e x) = attrs
attributes_of (if_else attrs p e x y) = attrs
attributes_of (case attrs p kind e arms) = attrs
attributes_of (assign attrs p l kind e) = attrs
attributes_of (assume attrs p e) = attrs
attributes_of (empty attrs p) = attrs

abbrev pub HasNoAttributes : Stmt → Type 0
HasNoAttributes x = attributes_of x ≡ []
