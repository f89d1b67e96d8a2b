-- Between functions: What the names of scopes mean, as it is kept while a design is judged. Rule of this project.
use Rattle.std.specs.Prelude.{◌≡◌, ℕ, List, [], ◌∷◌, ◌++◌, map, Option, Some, None, Box, Vec}
use Rattle.std.specs.Prelude.{if◌then◌else◌}
use Rattle.std.specs.declared.alloc.Global.{Global}
use Rattle.vl_size.specs.declared.decl.Decl.{Decl}
use Rattle.vl_elab_spec.specs.Meanings.{Meaning, undeclared, constant, loop_variable, object, faulty, shapeless, later}
use Rattle.vl_elab_spec.specs.Meanings.{Names, is_undeclared, meaning_of}
use Rattle.vl_elab_scope.specs.declared.meaning.Meaning.{Meaning as Kept}
use Rattle.vl_elab_scope.specs.declared.meaning.Meaning.TheVariants as k
use Rattle.vl_elab_scope.specs.declared.meaning.Filled.{Filled}
use Rattle.vl_elab_scope.specs.declared.meaning.Named.{Named}

abbrev pub seen : Kept → Meaning
seen (k.Constant c selected) = constant c selected
seen k.LoopVariable = loop_variable
seen (k.Object o) = object o.decl o.role o.scalar
seen k.Faulty = faulty
seen k.Shapeless = shapeless
seen k.Later = later

abbrev pub seen_or : Option Kept → Meaning
seen_or None = undeclared
seen_or (Some m) = seen m

abbrev pub Entry : Type 0
Entry = Vec ℕ Global × Kept

abbrev pub names_of : List Entry → Names
names_of es = map (λ e. (e.0.items, seen e.1)) es

-- the first name stands apart
abbrev pub names_from : Named → List Entry → Names
names_from n es = (n.text, seen n.meaning) ∷ names_of es

-- of a scope that has names
abbrev pub filled_names : Filled → Names
filled_names f = names_from f.first f.others.entries

-- a scope without names keeps nothing
abbrev pub names_in : Option (Box Filled Global) → Names
names_in None = []
names_in (Some b) = filled_names b.value

-- the innermost scope stands last
abbrev pub inward : List Names → List Names
inward [] = []
inward (l ∷ ls) = inward ls ++ l ∷ []

abbrev pub names_or : Option Names → Names
names_or None = []
names_or (Some ns) = ns

-- the names of the innermost scope
abbrev pub innermost : List Names → Names
innermost [] = []
innermost (ns ∷ outer) = ns

-- with a name behind the others; of two alike the first counts, so a second one isn't kept
abbrev pub with_name : Names → List ℕ → Meaning → Names
with_name ns text m = if is_undeclared (meaning_of ns text) then ns ++ (text, m) ∷ [] else ns

-- the net or variable that a name means
abbrev pub object_of : Meaning → Option Decl
object_of (object d role scalar) = Some d
object_of m = None

-- what is declared has the name under which it stands
abbrev pub IsNamed : List ℕ × Meaning → Type 0
IsNamed (text, undeclared) = ⊥
IsNamed (text, object d role scalar) = d.name ≡ text
IsNamed n = Unit {0}

abbrev pub AreNamed : Names → Type 0
AreNamed [] = Unit {0}
AreNamed (n ∷ ns) = IsNamed n × AreNamed ns

abbrev pub AllNamed : List Names → Type 0
AllNamed [] = Unit {0}
AllNamed (ns ∷ outer) = AreNamed ns × AllNamed outer
