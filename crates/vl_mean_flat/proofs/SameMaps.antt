-- A design and the one without hierarchy have the same maps.
use Rattle.std.specs.Prelude.{◌≡◌, refl, ℕ, ◌<◌, Bool}
use Rattle.std.specs.Prelude.{true, false, ◌||◌, not, List, [], ◌∷◌, ◌++◌}
use Rattle.std.proofs.Common.{ap, sym, ◌∙◌, append-nil, append_assoc}
use Rattle.std.proofs.Math.Path.{transport}
use Rattle.vl_size.specs.declared.decl.Class.{Class}
use Rattle.vl_size.specs.declared.decl.Class.TheVariants as class
use Rattle.vl_size.specs.declared.decl.Decl.{Decl}
use Rattle.vl_size.specs.Size.{Values}
use Rattle.vl_mean.specs.FlatLaw.{flat_scopes}
use Rattle.vl_mean.specs.Scopes.{Scope}
use Rattle.vl_mean.specs.Targets.{bit_of}
use Rattle.vl_mean.specs.Execution.{begun, ended, assigned, exec, assigns}
use Rattle.vl_mean.specs.Parts.{Part, declares, equation, combinational, clocked, starts}
use Rattle.vl_mean.specs.Runs.{Each, OnlyIf, EachBit, Meets, EachDeclared, AgreesAt, Agrees, InRange, PartHolds}
use Rattle.vl_mean.specs.Runs.{Holds, is_driven, is_assigned, is_chosen, ChoosesAlike, Clocks, Keeps, PartSteps, Next}
use Rattle.vl_mean.specs.Runs.{initial_writes, last_value, Begins, PartBegins, Init, ResetIs, HasReset, OnceIs}
use Rattle.vl_mean.specs.Runs.{KeepsOnce, IsRun, PartAssumes, IsAssumed}
use Rattle.vl_mean_flat.specs.Flattened.{decls_of, flat_part, flat_decls, flat_drivers, flat_starts, flattened}
use Rattle.vl_mean_flat.specs.Flattened.{PartNames}
use Rattle.vl_mean_flat.specs.Found.{Found}
use Rattle.vl_mean_flat.specs.SameMaps.{Iff}
use Rattle.vl_mean_flat.proofs.EachOf.{each_map, first_map, rest_map, neighbours_map, both, front, back}
use Rattle.vl_mean_flat.proofs.SameStmt.{same_assigned, same_exec, same_assigns}
use Rattle.vl_mean_flat.proofs.Started.{same_start}

same_iff : (A : Type 0) → Iff A A
same_iff A = (λ x. x, λ x. x)

path_iff : (A B : Type 0) → A ≡ B → Iff A B
path_iff A B e = (transport e, transport (sym e))

or_assoc : (a b c : Bool) → (a || (b || c)) ≡ (a || b || c)
or_assoc true b c = refl
or_assoc false b c = refl

or_false : (a : Bool) → (a || false) ≡ a
or_false true = refl
or_false false = refl

-- ---- each part of the one, each part of the other

module _ (fs : List Scope) (R P Q : Part → Type 0) (same : (p : Part) → R p → Iff (P p) (Q (flat_part fs p))) where
  decls_to : (ps : List Part) → Each R ps → Each P ps → Each Q (flat_decls fs ps)
  decls_to [] r h = tt
  decls_to (declares d ∷ ps) r h = ((same (declares d) r.0).0 h.0, decls_to ps r.1 h.1)
  decls_to (equation ts l ss e ∷ ps) r h = decls_to ps r.1 h.1
  decls_to (combinational ss s ∷ ps) r h = decls_to ps r.1 h.1
  decls_to (clocked ss s ∷ ps) r h = decls_to ps r.1 h.1
  decls_to (starts ss l e ∷ ps) r h = decls_to ps r.1 h.1

  drivers_to : (ps : List Part) → Each R ps → Each P ps → Each Q (flat_drivers fs ps)
  drivers_to [] r h = tt
  drivers_to (declares d ∷ ps) r h = drivers_to ps r.1 h.1
  drivers_to (equation ts l ss e ∷ ps) r h = ((same (equation ts l ss e) r.0).0 h.0, drivers_to ps r.1 h.1)
  drivers_to (combinational ss s ∷ ps) r h = ((same (combinational ss s) r.0).0 h.0, drivers_to ps r.1 h.1)
  drivers_to (clocked ss s ∷ ps) r h = ((same (clocked ss s) r.0).0 h.0, drivers_to ps r.1 h.1)
  drivers_to (starts ss l e ∷ ps) r h = drivers_to ps r.1 h.1

  starts_to : (ps : List Part) → Each R ps → Each P ps → Each Q (flat_starts fs ps)
  starts_to [] r h = tt
  starts_to (declares d ∷ ps) r h = starts_to ps r.1 h.1
  starts_to (equation ts l ss e ∷ ps) r h = starts_to ps r.1 h.1
  starts_to (combinational ss s ∷ ps) r h = starts_to ps r.1 h.1
  starts_to (clocked ss s ∷ ps) r h = starts_to ps r.1 h.1
  starts_to (starts ss l e ∷ ps) r h = ((same (starts ss l e) r.0).0 h.0, starts_to ps r.1 h.1)

  all_from : (ps : List Part) → Each R ps → Each Q (flat_decls fs ps) → Each Q (flat_drivers fs ps)
      → Each Q (flat_starts fs ps) → Each P ps
  all_from [] r h k j = tt
  all_from (declares d ∷ ps) r h k j = ((same (declares d) r.0).1 h.0, all_from ps r.1 h.1 k j)
  all_from (equation ts l ss e ∷ ps) r h k j = ((same (equation ts l ss e) r.0).1 k.0, all_from ps r.1 h k.1 j)
  all_from (combinational ss s ∷ ps) r h k j = ((same (combinational ss s) r.0).1 k.0, all_from ps r.1 h k.1 j)
  all_from (clocked ss s ∷ ps) r h k j = ((same (clocked ss s) r.0).1 k.0, all_from ps r.1 h k.1 j)
  all_from (starts ss l e ∷ ps) r h k j = ((same (starts ss l e) r.0).1 j.0, all_from ps r.1 h k j.1)

  each_same : (ps : List Part) → Each R ps
      → Iff (Each P ps) (Each Q (flat_decls fs ps ++ flat_drivers fs ps ++ flat_starts fs ps))
  each_same ps r =
      let first : List Part = flat_decls fs ps ++ flat_drivers fs ps in (
        λ h. both Q first (flat_starts fs ps) (both Q (flat_decls fs ps) (flat_drivers fs ps) (decls_to ps r h)
            (drivers_to ps r h)) (starts_to ps r h),
        λ h. all_from ps r (front Q (flat_decls fs ps) (flat_drivers fs ps) (front Q first (flat_starts fs ps) h))
            (back Q (flat_decls fs ps) (flat_drivers fs ps) (front Q first (flat_starts fs ps) h))
            (back Q first (flat_starts fs ps) h),
      )

-- ---- the same declarations

declared_each : (P : Decl → Type 0) (ps : List Part) → EachDeclared P ps ≡ Each P (decls_of ps)
declared_each P [] = refl
declared_each P (declares d ∷ ps) = λ i. P d × declared_each P ps i
declared_each P (equation ts l ss e ∷ ps) = declared_each P ps
declared_each P (combinational ss s ∷ ps) = declared_each P ps
declared_each P (clocked ss s ∷ ps) = declared_each P ps
declared_each P (starts ss l e ∷ ps) = declared_each P ps

-- what is read off a list in order, and joined
module _ (fs : List Scope) where
  decls_behind : (ps : List Part) (qs : List Part) → decls_of (flat_decls fs ps ++ qs) ≡ decls_of ps ++ decls_of qs
  decls_behind [] qs = refl
  decls_behind (declares d ∷ ps) qs = ap (λ ds. d ∷ ds) (decls_behind ps qs)
  decls_behind (equation ts l ss e ∷ ps) qs = decls_behind ps qs
  decls_behind (combinational ss s ∷ ps) qs = decls_behind ps qs
  decls_behind (clocked ss s ∷ ps) qs = decls_behind ps qs
  decls_behind (starts ss l e ∷ ps) qs = decls_behind ps qs

  no_decls_drivers : (ps : List Part) (qs : List Part) → decls_of (flat_drivers fs ps ++ qs) ≡ decls_of qs
  no_decls_drivers [] qs = refl
  no_decls_drivers (declares d ∷ ps) qs = no_decls_drivers ps qs
  no_decls_drivers (equation ts l ss e ∷ ps) qs = no_decls_drivers ps qs
  no_decls_drivers (combinational ss s ∷ ps) qs = no_decls_drivers ps qs
  no_decls_drivers (clocked ss s ∷ ps) qs = no_decls_drivers ps qs
  no_decls_drivers (starts ss l e ∷ ps) qs = no_decls_drivers ps qs

  no_decls_starts : (ps : List Part) → decls_of (flat_starts fs ps) ≡ []
  no_decls_starts [] = refl
  no_decls_starts (declares d ∷ ps) = no_decls_starts ps
  no_decls_starts (equation ts l ss e ∷ ps) = no_decls_starts ps
  no_decls_starts (combinational ss s ∷ ps) = no_decls_starts ps
  no_decls_starts (clocked ss s ∷ ps) = no_decls_starts ps
  no_decls_starts (starts ss l e ∷ ps) = no_decls_starts ps

  -- by blocks
  module _ (n : List ℕ) (k : ℕ) where
    no_driven_decls : (ps qs : List Part) → is_driven (flat_decls fs ps ++ qs) n k ≡ is_driven qs n k
    no_driven_decls [] qs = refl
    no_driven_decls (declares d ∷ ps) qs = no_driven_decls ps qs
    no_driven_decls (equation ts l ss e ∷ ps) qs = no_driven_decls ps qs
    no_driven_decls (combinational ss s ∷ ps) qs = no_driven_decls ps qs
    no_driven_decls (clocked ss s ∷ ps) qs = no_driven_decls ps qs
    no_driven_decls (starts ss l e ∷ ps) qs = no_driven_decls ps qs

    no_driven_starts : (ps : List Part) → is_driven (flat_starts fs ps) n k ≡ false
    no_driven_starts [] = refl
    no_driven_starts (declares d ∷ ps) = no_driven_starts ps
    no_driven_starts (equation ts l ss e ∷ ps) = no_driven_starts ps
    no_driven_starts (combinational ss s ∷ ps) = no_driven_starts ps
    no_driven_starts (clocked ss s ∷ ps) = no_driven_starts ps
    no_driven_starts (starts ss l e ∷ ps) = no_driven_starts ps

    no_assigned_decls : (ps qs : List Part) → is_assigned (flat_decls fs ps ++ qs) n k ≡ is_assigned qs n k
    no_assigned_decls [] qs = refl
    no_assigned_decls (declares d ∷ ps) qs = no_assigned_decls ps qs
    no_assigned_decls (equation ts l ss e ∷ ps) qs = no_assigned_decls ps qs
    no_assigned_decls (combinational ss s ∷ ps) qs = no_assigned_decls ps qs
    no_assigned_decls (clocked ss s ∷ ps) qs = no_assigned_decls ps qs
    no_assigned_decls (starts ss l e ∷ ps) qs = no_assigned_decls ps qs

    no_assigned_starts : (ps : List Part) → is_assigned (flat_starts fs ps) n k ≡ false
    no_assigned_starts [] = refl
    no_assigned_starts (declares d ∷ ps) = no_assigned_starts ps
    no_assigned_starts (equation ts l ss e ∷ ps) = no_assigned_starts ps
    no_assigned_starts (combinational ss s ∷ ps) = no_assigned_starts ps
    no_assigned_starts (clocked ss s ∷ ps) = no_assigned_starts ps
    no_assigned_starts (starts ss l e ∷ ps) = no_assigned_starts ps

  no_writes_decls : (ps qs : List Part) → initial_writes (flat_decls fs ps ++ qs) ≡ initial_writes qs
  no_writes_decls [] qs = refl
  no_writes_decls (declares d ∷ ps) qs = no_writes_decls ps qs
  no_writes_decls (equation ts l ss e ∷ ps) qs = no_writes_decls ps qs
  no_writes_decls (combinational ss s ∷ ps) qs = no_writes_decls ps qs
  no_writes_decls (clocked ss s ∷ ps) qs = no_writes_decls ps qs
  no_writes_decls (starts ss l e ∷ ps) qs = no_writes_decls ps qs

  no_writes_drivers : (ps qs : List Part) → initial_writes (flat_drivers fs ps ++ qs) ≡ initial_writes qs
  no_writes_drivers [] qs = refl
  no_writes_drivers (declares d ∷ ps) qs = no_writes_drivers ps qs
  no_writes_drivers (equation ts l ss e ∷ ps) qs = no_writes_drivers ps qs
  no_writes_drivers (combinational ss s ∷ ps) qs = no_writes_drivers ps qs
  no_writes_drivers (clocked ss s ∷ ps) qs = no_writes_drivers ps qs
  no_writes_drivers (starts ss l e ∷ ps) qs = no_writes_drivers ps qs

module _ (es : List Decl) where
  abbrev fs : List Scope
  fs = flat_scopes es

  same_driven_drivers : (ps qs : List Part) → Each (PartNames (Found es)) ps → (n : List ℕ) (k : ℕ)
      → is_driven (flat_drivers fs ps ++ qs) n k ≡ (is_driven ps n k || is_driven qs n k)
  same_driven_drivers [] qs h n k = refl
  same_driven_drivers (declares d ∷ ps) qs h n k = same_driven_drivers ps qs h.1 n k
  same_driven_drivers (equation ts l ss e ∷ ps) qs h n k = same_driven_drivers ps qs h.1 n k
  same_driven_drivers (combinational ss s ∷ ps) qs h n k =
      (λ i. same_assigns es ss s h.0 n k i || same_driven_drivers ps qs h.1 n k i)
      ∙ or_assoc (assigns ss s n k) (is_driven ps n k) (is_driven qs n k)
  same_driven_drivers (clocked ss s ∷ ps) qs h n k = same_driven_drivers ps qs h.1 n k
  same_driven_drivers (starts ss l e ∷ ps) qs h n k = same_driven_drivers ps qs h.1 n k

  same_assigned_drivers : (ps qs : List Part) → Each (PartNames (Found es)) ps → (n : List ℕ) (k : ℕ)
      → is_assigned (flat_drivers fs ps ++ qs) n k ≡ (is_assigned ps n k || is_assigned qs n k)
  same_assigned_drivers [] qs h n k = refl
  same_assigned_drivers (declares d ∷ ps) qs h n k = same_assigned_drivers ps qs h.1 n k
  same_assigned_drivers (equation ts l ss e ∷ ps) qs h n k = same_assigned_drivers ps qs h.1 n k
  same_assigned_drivers (combinational ss s ∷ ps) qs h n k =
      (λ i. same_assigns es ss s h.0 n k i || same_assigned_drivers ps qs h.1 n k i)
      ∙ or_assoc (assigns ss s n k) (is_assigned ps n k) (is_assigned qs n k)
  same_assigned_drivers (clocked ss s ∷ ps) qs h n k =
      (λ i. same_assigns es ss s h.0 n k i || same_assigned_drivers ps qs h.1 n k i)
      ∙ or_assoc (assigns ss s n k) (is_assigned ps n k) (is_assigned qs n k)
  same_assigned_drivers (starts ss l e ∷ ps) qs h n k = same_assigned_drivers ps qs h.1 n k

  same_writes_starts : (ps : List Part) → Each (PartNames (Found es)) ps
      → initial_writes (flat_starts fs ps) ≡ initial_writes ps
  same_writes_starts [] h = refl
  same_writes_starts (declares d ∷ ps) h = same_writes_starts ps h.1
  same_writes_starts (equation ts l ss e ∷ ps) h = same_writes_starts ps h.1
  same_writes_starts (combinational ss s ∷ ps) h = same_writes_starts ps h.1
  same_writes_starts (clocked ss s ∷ ps) h = same_writes_starts ps h.1
  same_writes_starts (starts ss l e ∷ ps) h =
      λ i. same_start es ss l e h.0.0 h.0.2 h.0.3 i ++ same_writes_starts ps h.1 i

-- ---- the whole

module _ (ps : List Part) (laid : Each (PartNames (Found (decls_of ps))) ps) where
  abbrev es : List Decl
  es = decls_of ps

  abbrev flat : List Scope
  flat = flat_scopes es

  abbrev qs : List Part
  qs = flattened ps

  abbrev drivers : List Part
  drivers = flat_drivers flat ps

  abbrev first : List Part
  first = flat_decls flat ps

  abbrev last : List Part
  last = flat_starts flat ps

  in_order : qs ≡ first ++ (drivers ++ last)
  in_order = append_assoc first drivers last

  same_decls : decls_of qs ≡ es
  same_decls =
      ap decls_of in_order ∙ decls_behind flat ps (drivers ++ last)
      ∙ ap (λ ds. es ++ ds) (no_decls_drivers flat ps last ∙ no_decls_starts flat ps) ∙ append-nil es

  same_declared : (P : Decl → Type 0) → EachDeclared P qs ≡ EachDeclared P ps
  same_declared P = declared_each P qs ∙ (λ i. Each P (same_decls i)) ∙ sym (declared_each P ps)

  pub same_driven : (n : List ℕ) (k : ℕ) → is_driven qs n k ≡ is_driven ps n k
  same_driven n k =
      ap (λ l. is_driven l n k) in_order ∙ no_driven_decls flat n k ps (drivers ++ last)
      ∙ same_driven_drivers es ps last laid n k ∙ ap (λ b. is_driven ps n k || b) (no_driven_starts flat n k ps)
      ∙ or_false (is_driven ps n k)

  same_all_assigned : (n : List ℕ) (k : ℕ) → is_assigned qs n k ≡ is_assigned ps n k
  same_all_assigned n k =
      ap (λ l. is_assigned l n k) in_order ∙ no_assigned_decls flat n k ps (drivers ++ last)
      ∙ same_assigned_drivers es ps last laid n k ∙ ap (λ b. is_assigned ps n k || b) (no_assigned_starts flat n k ps)
      ∙ or_false (is_assigned ps n k)

  pub same_writes : initial_writes qs ≡ initial_writes ps
  same_writes =
      ap initial_writes in_order ∙ no_writes_decls flat ps (drivers ++ last) ∙ no_writes_drivers flat ps last
      ∙ same_writes_starts es ps laid

  -- maps that hold
  part_holds : (v : Values) (p : Part) → PartNames (Found es) p
      → Iff (PartHolds ps v p) (PartHolds qs v (flat_part flat p))
  part_holds v (declares d) h = same_iff (InRange v d d.class)
  part_holds v (equation ts l ss e) h =
      path_iff (Meets v (assigned ts l ss e v)) _ (sym (ap (Meets v) (same_assigned es ts l ss e v h.0 h.1)))
  part_holds v (combinational ss s) h =
      path_iff (Agrees ps (exec ss s (begun v)).now v) _
      (sym ((λ i. Agrees qs (same_exec es ss s h (begun v) i).now v)
      ∙ same_declared (λ d. AgreesAt (exec ss s (begun v)).now v d d.class)))
  part_holds v (clocked ss s) h = same_iff (Unit {0})
  part_holds v (starts ss l e) h = same_iff (Unit {0})

  pub same_holds : (v : Values) → Iff (Holds ps v) (Holds qs v)
  same_holds v = each_same flat (PartNames (Found es)) (PartHolds ps v) (PartHolds qs v) (part_holds v) ps laid

  -- the same choices
  same_is_chosen : (c : Class) (n : List ℕ) (k : ℕ) → is_chosen qs c n k ≡ is_chosen ps c n k
  same_is_chosen class.Variable n k = ap not (same_driven n k)
  same_is_chosen class.Input n k = refl
  same_is_chosen class.Reset n k = refl
  same_is_chosen class.Clock n k = refl
  same_is_chosen class.EachCycle n k = refl
  same_is_chosen class.Once n k = refl
  same_is_chosen class.Net n k = refl

  pub same_choices : (u v : Values) → Iff (ChoosesAlike ps u v) (ChoosesAlike qs u v)
  same_choices u v =
      path_iff (ChoosesAlike ps u v) _
      (sym ((λ i. EachDeclared (λ d. EachBit (λ text k.
      OnlyIf (same_is_chosen d.class text k i) (bit_of (u text) k ≡ bit_of (v text) k)) d) qs)
      ∙ same_declared (λ d. EachBit (λ text k. OnlyIf (is_chosen ps d.class text k)
      (bit_of (u text) k ≡ bit_of (v text) k)) d)))

  -- the next values
  same_keeps : (v u : Values) (d : Decl) (c : Class) → Keeps qs v u d c ≡ Keeps ps v u d c
  same_keeps v u d class.Variable =
      λ i. EachBit (λ text k. OnlyIf (not (same_all_assigned text k i)) (bit_of (u text) k ≡ bit_of (v text) k)) d
  same_keeps v u d class.Input = refl
  same_keeps v u d class.Reset = refl
  same_keeps v u d class.Clock = refl
  same_keeps v u d class.EachCycle = refl
  same_keeps v u d class.Once = refl
  same_keeps v u d class.Net = refl

  part_steps : (v u : Values) (p : Part) → PartNames (Found es) p
      → Iff (PartSteps ps v u p) (PartSteps qs v u (flat_part flat p))
  part_steps v u (declares d) h = path_iff (Keeps ps v u d d.class) _ (sym (same_keeps v u d d.class))
  part_steps v u (equation ts l ss e) h = same_iff (Unit {0})
  part_steps v u (combinational ss s) h = same_iff (Unit {0})
  part_steps v u (clocked ss s) h =
      path_iff (Clocks ps v u ss s) _
      (sym ((λ i. EachDeclared (λ d. EachBit (λ text k.
      OnlyIf (same_assigns es ss s h text k i)
      (bit_of (u text) k ≡ bit_of (ended (same_exec es ss s h (begun v) i) text) k)) d) qs)
      ∙ same_declared (λ d. EachBit (λ text k. OnlyIf (assigns ss s text k)
      (bit_of (u text) k ≡ bit_of (ended (exec ss s (begun v)) text) k)) d)))
  part_steps v u (starts ss l e) h = same_iff (Unit {0})

  pub same_next : (v u : Values) → Iff (Next ps v u) (Next qs v u)
  same_next v u = each_same flat (PartNames (Found es)) (PartSteps ps v u) (PartSteps qs v u) (part_steps v u) ps laid

  -- the initial values
  part_begins : (v : Values) (p : Part) → PartNames (Found es) p
      → Iff (PartBegins ps v p) (PartBegins qs v (flat_part flat p))
  part_begins v (declares d) h =
      path_iff (PartBegins ps v (declares d)) _
      (sym (λ i. EachBit (λ text k.
      OnlyIf (not (same_driven text k i)) (Begins (last_value (same_writes i) text k) (bit_of (v text) k))) d))
  part_begins v (equation ts l ss e) h = same_iff (Unit {0})
  part_begins v (combinational ss s) h = same_iff (Unit {0})
  part_begins v (clocked ss s) h = same_iff (Unit {0})
  part_begins v (starts ss l e) h = same_iff (Unit {0})

  pub same_init : (v : Values) → Iff (Init ps v) (Init qs v)
  same_init v = each_same flat (PartNames (Found es)) (PartBegins ps v) (PartBegins qs v) (part_begins v) ps laid

  -- what is assumed
  part_assumes : (v : Values) (p : Part) → PartNames (Found es) p
      → Iff (PartAssumes v p) (PartAssumes v (flat_part flat p))
  part_assumes v (declares d) h = same_iff (Unit {0})
  part_assumes v (equation ts l ss e) h = same_iff (Unit {0})
  part_assumes v (combinational ss s) h =
      path_iff (PartAssumes v (combinational ss s)) _
      (sym (λ i. Each (λ x. 0 < x) (same_exec es ss s h (begun v) i).seen))
  part_assumes v (clocked ss s) h =
      path_iff (PartAssumes v (clocked ss s)) _ (sym (λ i. Each (λ x. 0 < x) (same_exec es ss s h (begun v) i).seen))
  part_assumes v (starts ss l e) h = same_iff (Unit {0})

  pub same_assumes : (v : Values) → Iff (Each (PartAssumes v) ps) (Each (PartAssumes v) qs)
  same_assumes v = each_same flat (PartNames (Found es)) (PartAssumes v) (PartAssumes v) (part_assumes v) ps laid

  pub same_reset : (y : ℕ) (v : Values) → Iff (HasReset ps y v) (HasReset qs y v)
  same_reset y v = path_iff (HasReset ps y v) _ (sym (same_declared (λ d. ResetIs d.class (v d.name) y)))

  pub same_once : (v u : Values) → Iff (KeepsOnce ps v u) (KeepsOnce qs v u)
  same_once v u = path_iff (KeepsOnce ps v u) _ (sym (same_declared (λ d. OnceIs d.class (u d.name) (v d.name))))

  -- runs
  pub same_run : (d : ℕ) (run : List Values) → Iff (IsRun ps d run) (IsRun qs d run)
  same_run d run = (
    λ r. record {
      cycles = r.cycles;
      holds = each_map (λ v. (same_holds v).0) run r.holds;
      steps = neighbours_map (λ v u. (same_next v u).0) run r.steps;
      begins = first_map (λ v. (same_init v).0) run r.begins;
      reset = first_map (λ v. (same_reset 1 v).0) run r.reset;
      no_reset = rest_map (λ v. (same_reset 0 v).0) run r.no_reset;
      once = neighbours_map (λ v u. (same_once v u).0) run r.once;
    },
    λ r. record {
      cycles = r.cycles;
      holds = each_map (λ v. (same_holds v).1) run r.holds;
      steps = neighbours_map (λ v u. (same_next v u).1) run r.steps;
      begins = first_map (λ v. (same_init v).1) run r.begins;
      reset = first_map (λ v. (same_reset 1 v).1) run r.reset;
      no_reset = rest_map (λ v. (same_reset 0 v).1) run r.no_reset;
      once = neighbours_map (λ v u. (same_once v u).1) run r.once;
    },
  )

  pub same_assumed : (run : List Values) → Iff (IsAssumed ps run) (IsAssumed qs run)
  same_assumed run =
      (λ h. each_map (λ v. (same_assumes v).0) run h, λ h. each_map (λ v. (same_assumes v).1) run h)
