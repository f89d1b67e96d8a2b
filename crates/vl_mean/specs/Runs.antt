-- Meaning: Which maps of full names to numbers a design allows, from cycle to cycle. IEEE 1364-2005, sections 6.1,
-- 9.2, 9.7.5, 9.9 and 12.3; that a net or variable holds a number in place of four-valued bits, `assume`, and the free
-- names are rules of this project.
use Rattle.std.specs.Prelude.{
  ◌≡◌,
  ℕ,
  zero,
  suc,
  ◌+◌,
  ◌^◌,
  ◌<◌,
  ◌==◌,
  List,
  [],
  ◌∷◌,
  ◌++◌,
  length,
  Bool,
  true,
  false,
}
use Rattle.std.specs.Prelude.{◌&&◌, ◌||◌, not, Option, Some, None, bytes_eq, if◌then◌else◌}
use Rattle.vl_tree.specs.Stmt.{Stmt}
use Rattle.vl_size.specs.declared.decl.Class.{Class}
use Rattle.vl_size.specs.declared.decl.Class.TheVariants as class
use Rattle.vl_size.specs.declared.decl.Decl.{Decl}
use Rattle.vl_size.specs.Size.{Values}
use Rattle.vl_mean.specs.Cells.{cells}
use Rattle.vl_mean.specs.Scopes.{Scope, no_values}
use Rattle.vl_mean.specs.Targets.{Write, bit_of}
use Rattle.vl_mean.specs.Execution.{begun, ended, assigned, exec, assigns}
use Rattle.vl_mean.specs.Parts.{Part, declares, equation, combinational, clocked, starts}

-- ---- each of so many

abbrev pub Each : {A : Type 0} → (A → Type 0) → List A → Type 0
Each P [] = Unit {0}
Each P (x ∷ xs) = P x × Each P xs

abbrev pub EachBelow : (ℕ → Type 0) → ℕ → Type 0
EachBelow P zero = Unit {0}
EachBelow P (suc n) = P n × EachBelow P n

-- R of each and the next, after x
abbrev pub FollowedBy : {A : Type 0} → (A → A → Type 0) → A → List A → Type 0
FollowedBy R x [] = Unit {0}
FollowedBy R x (y ∷ ys) = R x y × FollowedBy R y ys

abbrev pub Neighbours : {A : Type 0} → (A → A → Type 0) → List A → Type 0
Neighbours R [] = Unit {0}
Neighbours R (x ∷ xs) = FollowedBy R x xs

abbrev pub First : {A : Type 0} → (A → Type 0) → List A → Type 0
First P [] = Unit {0}
First P (x ∷ xs) = P x

abbrev pub Rest : {A : Type 0} → (A → Type 0) → List A → Type 0
Rest P [] = Unit {0}
Rest P (x ∷ xs) = Each P xs

abbrev pub OnlyIf : Bool → Type 0 → Type 0
OnlyIf true P = P
OnlyIf false P = Unit {0}

-- ---- each bit of each name

-- P of each bit of each cell
abbrev pub EachBit : (List ℕ → ℕ → Type 0) → Decl → Type 0
EachBit P d = Each (λ text. EachBelow (λ k. P text k) d.width) (cells d)

-- ---- a map that holds

-- each bit has the value that is written
abbrev pub Meets : Values → List Write → Type 0
Meets v ws = Each (λ w. bit_of (v w.spot.name) w.spot.offset ≡ w.value) ws

-- P of each declared name, the full one
abbrev pub EachDeclared : (Decl → Type 0) → List Part → Type 0
EachDeclared P [] = Unit {0}
EachDeclared P (declares d ∷ ps) = P d × EachDeclared P ps
EachDeclared P (p ∷ ps) = EachDeclared P ps

-- both have one number for each cell; the clock has none
abbrev pub AgreesAt : Values → Values → Decl → Class → Type 0
AgreesAt u v d class.Clock = Unit {0}
AgreesAt u v d c = Each (λ text. u text ≡ v text) (cells d)

-- the maps are one on all declared names but the clock
abbrev pub Agrees : List Part → Values → Values → Type 0
Agrees ps u v = EachDeclared (λ d. AgreesAt u v d d.class) ps

-- numbers of the declared width; the clock has none
abbrev pub InRange : Values → Decl → Class → Type 0
InRange v d class.Clock = Unit {0}
InRange v d c = Each (λ text. v text < 2 ^ d.width) (cells d)

abbrev pub PartHolds : List Part → Values → Part → Type 0
PartHolds ps v (declares d) = InRange v d d.class
PartHolds ps v (equation ts l ss e) = Meets v (assigned ts l ss e v)
PartHolds ps v (combinational ss s) = Agrees ps (exec ss s (begun v)).now v
PartHolds ps v (clocked ss s) = Unit {0}
PartHolds ps v (starts ss l e) = Unit {0}

-- The map meets each part. What is refused elsewhere has some meaning here too: a net without a driver and an input
-- without a connection are free, two drivers of a bit have to agree, a loop of drivers may have no map or several,
-- and a module that isn't there has no parts.
abbrev pub Holds : List Part → Values → Type 0
Holds ps v = Each (PartHolds ps v) ps

-- ---- which bits blocks assign

abbrev pub is_driven_by : Part → List ℕ → ℕ → Bool
is_driven_by (combinational ss s) n k = assigns ss s n k
is_driven_by p n k = false

abbrev pub is_assigned_by : Part → List ℕ → ℕ → Bool
is_assigned_by (combinational ss s) n k = assigns ss s n k
is_assigned_by (clocked ss s) n k = assigns ss s n k
is_assigned_by p n k = false

-- by some combinational block
abbrev pub is_driven : List Part → List ℕ → ℕ → Bool
is_driven [] n k = false
is_driven (p ∷ ps) n k = is_driven_by p n k || is_driven ps n k

-- by some block
abbrev pub is_assigned : List Part → List ℕ → ℕ → Bool
is_assigned [] n k = false
is_assigned (p ∷ ps) n k = is_assigned_by p n k || is_assigned ps n k

-- ---- what is free in a map

-- a bit that nothing in the cycle gives: of an input, the reset, a name that is free in each cycle or once, and of a
-- variable where no combinational block drives it
abbrev pub is_chosen : List Part → Class → List ℕ → ℕ → Bool
is_chosen ps class.Input n k = true
is_chosen ps class.Reset n k = true
is_chosen ps class.EachCycle n k = true
is_chosen ps class.Once n k = true
is_chosen ps class.Variable n k = not (is_driven ps n k)
is_chosen ps class.Net n k = false
is_chosen ps class.Clock n k = false

-- the maps make the same choice
abbrev pub ChoosesAlike : List Part → Values → Values → Type 0
ChoosesAlike ps u v = EachDeclared (λ d. EachBit
    (λ text k. OnlyIf (is_chosen ps d.class text k) (bit_of (u text) k ≡ bit_of (v text) k)) d) ps

-- ---- the next values

-- what the block assigns has the value that stands at the block's end
abbrev pub Clocks : List Part → Values → Values → List Scope → Stmt → Type 0
Clocks ps v u ss s =
    let after = ended (exec ss s (begun v)) in
    EachDeclared (λ d. EachBit (λ text k. OnlyIf (assigns ss s text k)
    (bit_of (u text) k ≡ bit_of (after text) k)) d) ps

-- a bit of a variable that no block assigns keeps its value
abbrev pub Keeps : List Part → Values → Values → Decl → Class → Type 0
Keeps ps v u d class.Variable =
    EachBit (λ text k. OnlyIf (not (is_assigned ps text k)) (bit_of (u text) k ≡ bit_of (v text) k)) d
Keeps ps v u d c = Unit {0}

abbrev pub PartSteps : List Part → Values → Values → Part → Type 0
PartSteps ps v u (declares d) = Keeps ps v u d d.class
PartSteps ps v u (clocked ss s) = Clocks ps v u ss s
PartSteps ps v u p = Unit {0}

-- from the values v in a cycle, u has these in the next one
abbrev pub Next : List Part → Values → Values → Type 0
Next ps v u = Each (PartSteps ps v u) ps

-- ---- the initial values

-- initial values are constant
abbrev pub initial_writes : List Part → List Write
initial_writes [] = []
initial_writes (starts ss l e ∷ ps) = assigned ss l ss e no_values ++ initial_writes ps
initial_writes (p ∷ ps) = initial_writes ps

abbrev pub is_spot : Write → List ℕ → ℕ → Bool
is_spot w n k = bytes_eq n w.spot.name && (k == w.spot.offset)

abbrev pub later_or : Option ℕ → Option ℕ → Option ℕ
later_or (Some x) earlier = Some x
later_or None earlier = earlier

-- of several values of one bit the last counts
abbrev pub last_value : List Write → List ℕ → ℕ → Option ℕ
last_value [] n k = None
last_value (w ∷ ws) n k = later_or (last_value ws n k) (if is_spot w n k then Some w.value else None)

abbrev pub Begins : Option ℕ → ℕ → Type 0
Begins None x = Unit {0}
Begins (Some y) x = x ≡ y

abbrev pub PartBegins : List Part → Values → Part → Type 0
PartBegins ps v (declares d) =
    EachBit (λ text k.
    OnlyIf (not (is_driven ps text k)) (Begins (last_value (initial_writes ps) text k) (bit_of (v text) k))) d
PartBegins ps v p = Unit {0}

-- each bit with an initial value has it, but for those that a combinational block drives
abbrev pub Init : List Part → Values → Type 0
Init ps v = Each (PartBegins ps v) ps

-- ---- runs

-- the input `reset` has the number
abbrev pub ResetIs : Class → ℕ → ℕ → Type 0
ResetIs class.Reset x y = x ≡ y
ResetIs c x y = Unit {0}

abbrev pub HasReset : List Part → ℕ → Values → Type 0
HasReset ps y v = EachDeclared (λ d. ResetIs d.class (v d.name) y) ps

-- a name that is chosen once has one value throughout
abbrev pub OnceIs : Class → ℕ → ℕ → Type 0
OnceIs class.Once x y = x ≡ y
OnceIs c x y = Unit {0}

abbrev pub KeepsOnce : List Part → Values → Values → Type 0
KeepsOnce ps v u = EachDeclared (λ d. OnceIs d.class (u d.name) (v d.name)) ps

-- the values of all names in cycles 0 to d
pub record IsRun (ps : List Part) (d : ℕ) (run : List Values) : Type 0 where
  pub cycles : length run ≡ d + 1
  pub holds : Each (Holds ps) run
  pub steps : Neighbours (Next ps) run
  pub begins : First (Init ps) run
  pub reset : First (HasReset ps 1) run
  pub no_reset : Rest (HasReset ps 0) run
  pub once : Neighbours (KeepsOnce ps) run

-- ---- assumptions

abbrev pub PartAssumes : Values → Part → Type 0
PartAssumes v (combinational ss s) = Each (λ x. 0 < x) (exec ss s (begun v)).seen
PartAssumes v (clocked ss s) = Each (λ x. 0 < x) (exec ss s (begun v)).seen
PartAssumes v p = Unit {0}

-- what each block assumes isn't 0 in any cycle
abbrev pub IsAssumed : List Part → List Values → Type 0
IsAssumed ps run = Each (λ v. Each (PartAssumes v) ps) run
