-- Meaning: Well formed attributes, ranges, declared names, parameters and ports. IEEE 1364-2005, sections A.1.3, A.2
-- and A.9.1.
use Rattle.std.specs.Prelude.{◌≡◌, ◌<◌, length, All, List, [], ◌∷◌, Option, Some, None, true}
use Rattle.vl_tree.specs.declared.attribute.Attribute.{Attribute}
use Rattle.vl_tree.specs.declared.attribute.AttributeInstance.{AttributeInstance}
use Rattle.vl_tree.specs.declared.declaration.Range.{Range}
use Rattle.vl_tree.specs.declared.declaration.Shape.{Shape}
use Rattle.vl_tree.specs.declared.declaration.DeclaredName.{DeclaredName}
use Rattle.vl_tree.specs.declared.declaration.Parameter.{Parameter}
use Rattle.vl_tree.specs.declared.declaration.HeaderParameter.{HeaderParameter}
use Rattle.vl_tree.specs.declared.declaration.Port.{Port}
use Rattle.vl_tree.specs.declared.declaration.PortKind.{PortKind}
use Rattle.vl_tree.specs.declared.declaration.PortKind.TheVariants as p
use Rattle.vl_tree.specs.Attributes.{Attributes}
use Rattle.vl_tree.specs.ExprWellFormed as expr
use Rattle.vl_tree.specs.ExprWellFormed.{IsName, IsValue}

-- each fits, and there is one at least
abbrev pub AreSome : {A : Type 0} → (A → Type 0) → List A → Type 0
AreSome Fits xs = (0 < length xs) × All Fits xs

abbrev pub IsAttribute : Attribute → Type 0
IsAttribute a = IsName a.name × IsValue a.value

abbrev pub IsInstance : AttributeInstance → Type 0
IsInstance i = AreSome IsAttribute i.attributes

abbrev pub AreAttributes : Attributes → Type 0
AreAttributes is = All IsInstance is

abbrev pub IsRange : Range → Type 0
IsRange r = expr.IsWellFormed r.left × expr.IsWellFormed r.right

abbrev pub IsOptionalRange : Option Range → Type 0
IsOptionalRange None = Unit {0}
IsOptionalRange (Some r) = IsRange r

abbrev pub IsShape : Shape → Type 0
IsShape x = IsOptionalRange x.range

abbrev pub IsDeclaredName : DeclaredName → Type 0
IsDeclaredName x = IsName x.name × IsOptionalRange x.words × IsValue x.value

abbrev pub IsParameter : Parameter → Type 0
IsParameter x = IsShape x.shape × IsName x.name × expr.IsWellFormed x.value

abbrev pub IsHeaderParameter : HeaderParameter → Type 0
IsHeaderParameter x = IsParameter x.parameter

-- `parameter` stands before the first
abbrev pub BeginsWithKeyword : List HeaderParameter → Type 0
BeginsWithKeyword [] = ⊥
BeginsWithKeyword (x ∷ xs) = x.keyword ≡ true

abbrev pub AreHeaderParameters : List HeaderParameter → Type 0
AreHeaderParameters xs = BeginsWithKeyword xs × All IsHeaderParameter xs

abbrev pub IsPortKind : PortKind → Type 0
IsPortKind (p.Full x) = AreAttributes x.attributes × IsShape x.shape × IsName x.name × IsValue x.value
IsPortKind (p.Short name value) = IsName name × IsValue value

abbrev pub IsPort : Port → Type 0
IsPort x = IsPortKind x.kind

abbrev pub IsFull : PortKind → Type 0
IsFull (p.Full x) = Unit {0}
IsFull (p.Short name value) = ⊥

-- no port before it has a direction that the first could take
abbrev pub BeginsWithFull : List Port → Type 0
BeginsWithFull [] = Unit {0}
BeginsWithFull (x ∷ xs) = IsFull x.kind

abbrev pub ArePorts : List Port → Type 0
ArePorts xs = BeginsWithFull xs × All IsPort xs
