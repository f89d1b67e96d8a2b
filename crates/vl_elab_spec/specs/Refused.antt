-- Meaning: Whether a design is refused, and why: the first step of the walk that is, of it the lowest number, and of
-- one number the earliest place. The order is a rule of this project.
use Rattle.std.specs.Prelude.{
  ◌≡◌,
  ℕ,
  zero,
  suc,
  ◌+◌,
  ◌==◌,
  List,
  [],
  ◌∷◌,
  ◌++◌,
  Bool,
  false,
  ◌&&◌,
  ◌||◌,
  ◌-◌,
  nat_lt,
  slice_get,
}
use Rattle.std.specs.Prelude.{is_none, Option, Some, None, ◌⊎◌, if◌then◌else◌}
use Rattle.fv_text.specs.declared.pos.Pos.{Pos}
use Rattle.vl_tree.specs.declared.source.Module.{Module}
use Rattle.vl_size.specs.Places.{is_earlier, earlier_place}
use Rattle.vl_size.specs.declared.decl.Class.{Class}
use Rattle.vl_size.specs.declared.decl.Class.TheVariants as class
use Rattle.vl_size.specs.declared.decl.Decl.{Decl}
use Rattle.vl_mean.specs.Cells.{cells, contains_name}
use Rattle.vl_mean.specs.Parts.{Part, declares, design}
use Rattle.vl_mean.specs.Runs.{Each, is_driven}
use Rattle.vl_mean.specs.Walk.{Step, module_named, walk_by}
use Rattle.vl_elab_spec.specs.declared.elab_fault.ElabFault.{ElabFault}
use Rattle.vl_elab_spec.specs.declared.elab_fault.ElabFault.TheVariants as f
use Rattle.vl_elab_spec.specs.Counts.{step_nodes, step_names, step_pos}
use Rattle.vl_elab_spec.specs.Expressions.{refused_if}
use Rattle.vl_elab_spec.specs.Items.{is_valued, step_refusals}
use Rattle.vl_elab_spec.specs.NodePlaces.{node_places, name_place}

abbrev pub rank : ElabFault → ℕ
rank (f.NoModule text) = 1
rank (f.Twice text p) = 2
rank (f.Unknown text p) = 3
rank (f.Port text p) = 4
rank (f.Param text p) = 5
rank (f.Recursive modules) = 6
rank (f.Range p) = 7
rank (f.GenLoop p) = 8
rank (f.TooManyBits n) = 9
rank (f.Clock p) = 10
rank (f.NotConstant p) = 11
rank (f.ZeroDivisor p) = 12
rank (f.TooWide p n) = 13
rank (f.TooLarge p) = 14
rank (f.Kind text p) = 15

abbrev pub nowhere : Pos
nowhere = record { file = 0; line = 0; col = 0 }

abbrev pub place : ElabFault → Pos
place (f.Twice text p) = p
place (f.Unknown text p) = p
place (f.Port text p) = p
place (f.Param text p) = p
place (f.Range p) = p
place (f.GenLoop p) = p
place (f.Clock p) = p
place (f.NotConstant p) = p
place (f.ZeroDivisor p) = p
place (f.TooWide p n) = p
place (f.TooLarge p) = p
place (f.Kind text p) = p
place g = nowhere

-- the second comes before the first
abbrev pub comes_before : ElabFault → ElabFault → Bool
comes_before g h = nat_lt (rank h) (rank g) || ((rank h == rank g) && is_earlier (place h) (place g))

-- of two alike the first stays: it is the inner one
abbrev pub lower : ElabFault → Option ElabFault → ElabFault
lower g None = g
lower g (Some h) = if comes_before g h then h else g

abbrev pub lowest : List ElabFault → Option ElabFault
lowest [] = None
lowest (g ∷ gs) = Some (lower g (lowest gs))

abbrev pub or_later : Option ElabFault → Option ElabFault → Option ElabFault
or_later None g = g
or_later (Some g) h = Some g

-- of the refusals of two parts
abbrev pub lower_of : Option ElabFault → Option ElabFault → Option ElabFault
lower_of None h = h
lower_of (Some g) h = Some (lower g h)

-- the fault is one of these
abbrev pub IsAmong : List ElabFault → ElabFault → Type 0
IsAmong [] g = ⊥
IsAmong (h ∷ hs) g = (g ≡ h) ⊎ IsAmong hs g

-- it is one of these, and none of them comes before it
pub record IsLowest (gs : List ElabFault) (g : ElabFault) : Type 0 where
  pub among : IsAmong gs g
  pub first : Each (λ h. comes_before g h ≡ false) gs

-- ---- the walk

-- nodes and names so far
pub record Totals : Type 0 where
  pub nodes : ℕ
  pub names : ℕ

abbrev pub counted : Totals → Step → Totals
counted t x = record { nodes = t.nodes + step_nodes x; names = t.names + step_names x }

abbrev pub all_counted : Totals → List Step → Totals
all_counted t [] = t
all_counted t (x ∷ xs) = all_counted (counted t x) xs

-- a design has at most 4,000,000 nodes and 200,000 names; the step that passes one of them is refused
abbrev pub is_too_large : Totals → Bool
is_too_large t = nat_lt 4000000 t.nodes || nat_lt 200000 t.names

-- the node, or the name, that is one too many, where there is one: the earlier of the two
abbrev pub large_place : Totals → Step → Option Pos
large_place t x = earlier_place (slice_get (node_places x) (4000000 - t.nodes)) (name_place (200000 - t.names) x)

abbrev pub pos_or : Pos → Option Pos → Pos
pos_or p None = p
pos_or p (Some q) = q

-- where a step stands that is too large
abbrev pub large_pos : Totals → Step → Pos
large_pos t x = pos_or (step_pos x) (large_place t x)

abbrev pub refusals_at : List Module → Totals → Step → List ElabFault
refusals_at ms t x = step_refusals ms x ++ refused_if (is_too_large (counted t x)) (f.TooLarge (large_pos t x))

abbrev pub first_refused : List Module → Totals → List Step → Option ElabFault
first_refused ms t [] = None
first_refused ms t (x ∷ xs) = or_later (lowest (refusals_at ms t x)) (first_refused ms (counted t x) xs)

-- ---- the whole

-- two modules of one name, at the second
abbrev pub modules_twice : List (List ℕ) → List Module → Option ElabFault
modules_twice names [] = None
modules_twice names (m ∷ ms) =
    let more = modules_twice (names ++ m.name ∷ []) ms
    in if contains_name names m.name then Some (f.Twice m.name m.pos) else more

-- of a cell of so many bits, those that no combinational block assigns
abbrev pub kept_bits : List Part → List ℕ → ℕ → ℕ
kept_bits ps text zero = 0
kept_bits ps text (suc k) = (if is_driven ps text k then 0 else 1) + kept_bits ps text k

abbrev pub all_kept_bits : List Part → ℕ → List (List ℕ) → ℕ
all_kept_bits ps w [] = 0
all_kept_bits ps w (text ∷ texts) = kept_bits ps text w + all_kept_bits ps w texts

abbrev pub class_bits : List Part → Decl → Class → ℕ
class_bits ps d class.Variable = all_kept_bits ps d.width (cells d)
class_bits ps d c = 0

-- the bits of variables that no combinational block assigns
abbrev pub state_bits : List Part → List Part → ℕ
state_bits all [] = 0
state_bits all (declares d ∷ ps) = class_bits all d d.class + state_bits all ps
state_bits all (p ∷ ps) = state_bits all ps

abbrev pub too_many_bits : ℕ → Option ElabFault
too_many_bits n = if nat_lt 65536 n then Some (f.TooManyBits n) else None

-- the steps that are judged: what has no value chooses no others
abbrev pub judged_walk : List Module → List ℕ → List Step
judged_walk ms top = walk_by is_valued ms top

abbrev pub refused_walk : List Module → List ℕ → Option ElabFault
refused_walk ms top =
    or_later (modules_twice [] ms) (or_later (first_refused ms (record { nodes = 0; names = 0 }) (judged_walk ms top))
    (let ps = design ms top in too_many_bits (state_bits ps ps)))

-- why the modules are no design with this top module; None where they are one
abbrev pub refusal : List Module → List ℕ → Option ElabFault
refusal ms top = if is_none (module_named ms top) then Some (f.NoModule top) else refused_walk ms top
