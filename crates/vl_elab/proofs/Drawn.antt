-- What is drawn from a design that isn't refused has the design's bits of registers.
use Rattle.std.specs.Prelude.{◌≡◌, refl, ℕ, zero, suc, ◌+◌, List, [], ◌∷◌, ◌++◌, map, All, Bool, true, false, ◌||◌}
use Rattle.std.specs.Prelude.{if◌then◌else◌}
use Rattle.std.proofs.Common.{ap, sym, ◌∙◌}
use Rattle.vl_tree.specs.declared.source.Module.{Module}
use Rattle.vl_tree.specs.WellFormed.{IsModule}
use Rattle.vl_size.specs.declared.decl.Class.{Class}
use Rattle.vl_size.specs.declared.decl.Class.TheVariants as class
use Rattle.vl_size.specs.declared.decl.Decl.{Decl}
use Rattle.vl_mean.specs.declared.driver.Driver.{Driver}
use Rattle.vl_mean.specs.declared.driver.Start.{Start}
use Rattle.vl_mean.specs.declared.flat.Flat.{Flat}
use Rattle.vl_mean.specs.Cells.{cells}
use Rattle.vl_mean.specs.FlatLaw.{flat_scopes}
use Rattle.vl_mean.specs.FlatParts.{driver_part, flat_parts, start_part}
use Rattle.vl_mean.specs.Parts.{Part, declares, equation, combinational, clocked, starts, design}
use Rattle.vl_mean.specs.Runs.{Each, is_driven, is_driven_by}
use Rattle.vl_mean.specs.Scopes.{Scope}
use Rattle.vl_mean.specs.Walk.{walk}
use Rattle.vl_mean_flat.specs.Flattened.{decls_of, Known}
use Rattle.vl_mean_flat.specs.Found.{Found}
use Rattle.vl_mean_flat.specs.Names.{StmtNames}
use Rattle.vl_mean_flat.specs.StepScopes.{PartScopes}
use Rattle.vl_mean_flat.proofs.FoundNames.{AreScopes, found}
use Rattle.vl_mean_flat.proofs.LaidScopes.{laid_walk}
use Rattle.vl_mean_flat.proofs.NamesMap.{stmt_map}
use Rattle.vl_mean_flat.proofs.SameStmt.{same_assigns}
use Rattle.vl_mean_flat.proofs.StepParts.{of_steps}
use Rattle.vl_elab_spec.specs.Refused.{all_kept_bits, class_bits, kept_bits, state_bits}
use Rattle.vl_elab_accepted_laws.specs.Unrefused.{NoStepRefused}
use Rattle.vl_elab_accepted_laws.proofs.Names.{names_differ}
use Rattle.vl_elab_draft.specs.Drawn.{IsDrawn, drivers_of}
use Rattle.vl_elab_flatten_laws.proofs.DesignSteps.{all_known}
use Rattle.vl_elab.proofs.Told.{decl_bits, flat_bits}

-- ---- combinational blocks assign the same bits

module _ (es : List Decl) where
  -- each name in a combinational block is one of the design's
  abbrev IsFoundBlock : Part → Type 0
  IsFoundBlock (declares d) = Unit {0}
  IsFoundBlock (equation ts l ss e) = Unit {0}
  IsFoundBlock (combinational ss s) = StmtNames (Found es ss) ss s
  IsFoundBlock (clocked ss s) = Unit {0}
  IsFoundBlock (starts ss l e) = Unit {0}

  found_block : (p : Part) → PartScopes (AreScopes es) p → Known p → IsFoundBlock p
  found_block (declares d) l h = tt
  found_block (equation ts t ss e) l h = tt
  found_block (combinational ss s) l h = stmt_map (λ text seen. found es ss text seen.decl l seen.declared) ss s h
  found_block (clocked ss s) l h = tt
  found_block (starts ss t e) l h = tt

  found_blocks : (ps : List Part) → Each (PartScopes (AreScopes es)) ps → Each Known ps → Each IsFoundBlock ps
  found_blocks [] l h = tt
  found_blocks (p ∷ ps) l h = (found_block p l.0 h.0, found_blocks ps l.1 h.1)

  module _ (n : List ℕ) (i : ℕ) where
    drawn_drivers : (ps : List Part) → Each IsFoundBlock ps
        → is_driven (map (driver_part (flat_scopes es)) (drivers_of ps)) n i ≡ is_driven ps n i
    drawn_drivers [] h = refl
    drawn_drivers (declares d ∷ ps) h = drawn_drivers ps h.1
    drawn_drivers (equation ts l ss e ∷ ps) h = drawn_drivers ps h.1
    drawn_drivers (combinational ss s ∷ ps) h =
        λ j. same_assigns es ss s h.0 n i j || drawn_drivers ps h.1 j
    drawn_drivers (clocked ss s ∷ ps) h = drawn_drivers ps h.1
    drawn_drivers (starts ss l e ∷ ps) h = drawn_drivers ps h.1

or_nothing : (b : Bool) → (b || false) ≡ b
or_nothing true = refl
or_nothing false = refl

or_assoc : (a b c : Bool) → (a || (b || c)) ≡ ((a || b) || c)
or_assoc true b c = refl
or_assoc false b c = refl

module _ (n : List ℕ) (i : ℕ) where
  declares_nothing : (ds : List Decl) (ps : List Part)
      → is_driven (map (λ d. declares d) ds ++ ps) n i ≡ is_driven ps n i
  declares_nothing [] ps = refl
  declares_nothing (d ∷ ds) ps = declares_nothing ds ps

  driven_both : (ps qs : List Part) → is_driven (ps ++ qs) n i ≡ (is_driven ps n i || is_driven qs n i)
  driven_both [] qs = refl
  driven_both (p ∷ ps) qs =
      ap (λ b. is_driven_by p n i || b) (driven_both ps qs)
      ∙ or_assoc (is_driven_by p n i) (is_driven ps n i) (is_driven qs n i)

  starts_nothing : (ss : List Scope) (xs : List Start) → is_driven (map (start_part ss) xs) n i ≡ false
  starts_nothing ss [] = refl
  starts_nothing ss (x ∷ xs) = starts_nothing ss xs

of_kinds : (ss : List Scope) (xs : List Driver)
    → map (λ x. driver_part ss x.what) xs ≡ map (driver_part ss) (map (λ x. x.what) xs)
of_kinds ss [] = refl
of_kinds ss (x ∷ xs) = ap (λ qs. driver_part ss x.what ∷ qs) (of_kinds ss xs)

same_driven : (ps : List Part) (f : Flat) → IsDrawn ps f → Each (IsFoundBlock (decls_of ps)) ps
    → (n : List ℕ) (i : ℕ) → is_driven (flat_parts f) n i ≡ is_driven ps n i
same_driven ps f h found n i =
    let ss : List Scope = flat_scopes f.decls in
    let first : List Part = map (λ d. declares d) f.decls in
    let middle : List Part = map (λ x. driver_part ss x.what) f.drivers in
    let last : List Part = map (start_part ss) f.starts in
    driven_both n i (first ++ middle) last
    ∙ ap (λ b. is_driven (first ++ middle) n i || b) (starts_nothing n i ss f.starts)
    ∙ or_nothing (is_driven (first ++ middle) n i) ∙ declares_nothing n i f.decls middle
    ∙ ap (λ qs. is_driven qs n i) (of_kinds ss f.drivers)
    ∙ (λ j. is_driven (map (driver_part (flat_scopes (h.decls_are j))) (h.drivers_are j)) n i)
    ∙ drawn_drivers (decls_of ps) n i ps found

-- ---- so they leave the same bits

module _ (ps qs : List Part) (same : (n : List ℕ) (i : ℕ) → is_driven ps n i ≡ is_driven qs n i) where
  same_kept : (n : List ℕ) (w : ℕ) → kept_bits ps n w ≡ kept_bits qs n w
  same_kept n zero = refl
  same_kept n (suc w) = λ j. (if same n w j then 0 else 1) + same_kept n w j

  same_all_kept : (w : ℕ) (ns : List (List ℕ)) → all_kept_bits ps w ns ≡ all_kept_bits qs w ns
  same_all_kept w [] = refl
  same_all_kept w (n ∷ ns) = λ j. same_kept n w j + same_all_kept w ns j

  same_class : (d : Decl) (c : Class) → class_bits ps d c ≡ class_bits qs d c
  same_class d class.Variable = same_all_kept d.width (cells d)
  same_class d class.Input = refl
  same_class d class.Reset = refl
  same_class d class.Clock = refl
  same_class d class.EachCycle = refl
  same_class d class.Once = refl
  same_class d class.Net = refl

  same_decls : (ds : List Decl) → decl_bits ps ds ≡ decl_bits qs ds
  same_decls [] = refl
  same_decls (d ∷ ds) = λ j. same_class d d.class j + same_decls ds j

part_bits : (all ps : List Part) → state_bits all ps ≡ decl_bits all (decls_of ps)
part_bits all [] = refl
part_bits all (declares d ∷ ps) = ap (λ n. class_bits all d d.class + n) (part_bits all ps)
part_bits all (equation ts l ss e ∷ ps) = part_bits all ps
part_bits all (combinational ss s ∷ ps) = part_bits all ps
part_bits all (clocked ss s ∷ ps) = part_bits all ps
part_bits all (starts ss l e ∷ ps) = part_bits all ps

pub drawn_bits : (ms : List Module) (top : List ℕ) (f : Flat) → All IsModule ms → NoStepRefused ms top
    → IsDrawn (design ms top) f
    → state_bits (flat_parts f) (flat_parts f) ≡ state_bits (design ms top) (design ms top)
drawn_bits ms top f formed e h =
    let ps : List Part = design ms top in
    let es : List Decl = decls_of ps in
    let found : Each (IsFoundBlock es) ps
    = found_blocks es ps (of_steps (AreScopes es) (walk ms top) (laid_walk ms top (names_differ ms top formed e)))
    (all_known ms top formed e) in
    flat_bits (flat_parts f) f.decls f.drivers f.starts ∙ same_decls (flat_parts f) ps (same_driven ps f h found) f.decls
    ∙ ap (decl_bits ps) h.decls_are ∙ sym (part_bits ps ps)
