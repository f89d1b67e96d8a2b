-- A next map is known on the bits that are kept over the clock's edge, and on these alone.
use Rattle.std.specs.Prelude.{◌≡◌, refl, ℕ, ◌<◌, List, [], ◌∷◌, ◌++◌, Bool, true, false, not, All, Some, slice_get}
use Rattle.std.proofs.Common.{ap, sym, ◌∙◌, subst, true≢false}
use Rattle.std.proofs.lemmas.Option.{same_Some}
use Rattle.vl_tree.specs.Stmt.{Stmt}
use Rattle.vl_size.specs.declared.decl.Class.{Class}
use Rattle.vl_size.specs.declared.decl.Class.TheVariants as class
use Rattle.vl_size.specs.declared.decl.Decl.{Decl}
use Rattle.vl_size.specs.Size.{Values}
use Rattle.vl_size.specs.Table.{AreApart, AreDifferent, IsShaped, declared_as}
use Rattle.vl_mean.specs.declared.driver.Driver.{Driver}
use Rattle.vl_mean.specs.declared.driver.DriverKind.{DriverKind}
use Rattle.vl_mean.specs.declared.driver.DriverKind.TheVariants as k
use Rattle.vl_mean.specs.declared.driver.Start.{Start}
use Rattle.vl_mean.specs.Cells.{cells}
use Rattle.vl_mean.specs.Execution.{assigns, begun, ended, exec}
use Rattle.vl_mean.specs.FlatLaw.{IsDriver, IsLawful, flat_scopes, is_variable}
use Rattle.vl_mean.specs.FlatParts.{driver_part, parts_of}
use Rattle.vl_mean.specs.Parts.{Part, clocked, combinational, declares, equation, starts}
use Rattle.vl_mean.specs.Runs.{Clocks, Each, EachBelow, EachBit, EachDeclared, Keeps, Next, OnlyIf, PartSteps}
use Rattle.vl_mean.specs.Runs.{is_assigned}
use Rattle.vl_mean.specs.Runs.{is_assigned_by, is_driven, is_driven_by}
use Rattle.vl_mean.specs.Scopes.{Scope}
use Rattle.vl_mean.specs.Targets.{bit_of}
use Rattle.vl_flow_spec.specs.Drivers.{driven_by, is_clocked}
use Rattle.vl_flow_spec.specs.Reads.{IsCellOf}
use Rattle.vl_flow_spec.proofs.Bools.{or_case, or_left, or_right, none_of}
use Rattle.vl_flow_spec.proofs.Cells.{each_contained}
use Rattle.vl_mean_flat.proofs.EachOf.{front}
use Rattle.vl_flow_spec.specs.Refusals.{HasNoRefusal, two_drivers}
use Rattle.vl_flow_spec.specs.Sequence.{IsSequence}
use Rattle.vl_flow_spec.proofs.Changed.{block_changed}
use Rattle.vl_flow_spec.proofs.Choices.{driven_parts, found_among, of_declared}
use Rattle.vl_flow_spec.proofs.Elements.{decl_parts, driver_parts, each_below_at, each_declared_as, each_mapped}
use Rattle.vl_flow_spec.proofs.Elements.{nothing}
use Rattle.vl_flow_spec.proofs.Elements.{start_parts}
use Rattle.vl_flow_spec.proofs.Held as held
use Rattle.vl_flow_spec.proofs.Single.{single}
use Rattle.vl_lower_spec.specs.Built.{AreKeptAlike, is_kept}
use Rattle.vl_lower_spec.proofs.Agreeing as agreeing

-- what some combinational block drives some block assigns
pub driven_less : (qs : List Part) (n : List ℕ) (i : ℕ) → is_driven qs n i ≡ true → is_assigned qs n i ≡ true
driven_less [] n i h = h
driven_less (p ∷ qs) n i h =
    or_case (is_driven_by p n i) (is_driven qs n i)
    (λ t. or_left (is_assigned_by p n i) (is_assigned qs n i) (by p t))
    (λ t. or_right (is_assigned_by p n i) (is_assigned qs n i) (driven_less qs n i t)) h
  where
    by : (p : Part) → is_driven_by p n i ≡ true → is_assigned_by p n i ≡ true
    by (declares d) t = t
    by (equation ts l ss e) t = t
    by (combinational ss z) t = t
    by (clocked ss z) t = absurd (true≢false (sym t))
    by (starts ss l e) t = t

of_only_if : (b : Bool) (P : Type 0) → b ≡ true → OnlyIf b P → P
of_only_if true P e h = h
of_only_if false P e h = absurd (true≢false (sym e))

is_false : (b : Bool) → not b ≡ true → b ≡ false
is_false true e = sym e
is_false false e = refl

pub kept_is : (ps : List Part) (c : Class) (n : List ℕ) (i : ℕ) → is_kept ps c n i ≡ true
    → (c ≡ class.Variable) × (is_driven ps n i ≡ false)
kept_is ps class.Variable n i h = (refl, is_false (is_driven ps n i) h)
kept_is ps class.Clock n i h = absurd (true≢false (sym h))
kept_is ps class.Input n i h = absurd (true≢false (sym h))
kept_is ps class.Reset n i h = absurd (true≢false (sym h))
kept_is ps class.EachCycle n i h = absurd (true≢false (sym h))
kept_is ps class.Once n i h = absurd (true≢false (sym h))
kept_is ps class.Net n i h = absurd (true≢false (sym h))

kept_if : (ps : List Part) (c : Class) (n : List ℕ) (i : ℕ) → c ≡ class.Variable → is_driven ps n i ≡ false
    → is_kept ps c n i ≡ true
kept_if ps c n i e h = ap (λ c. is_kept ps c n i) e ∙ ap not h

pub variable_is : (d : Decl) (c : Class) → d.class ≡ c → is_variable d ≡ true → c ≡ class.Variable
variable_is d class.Variable e h = refl
variable_is d class.Clock e h = absurd (true≢false (sym h ∙ ap (λ c. is_variable (record d { class = c })) e))
variable_is d class.Input e h = absurd (true≢false (sym h ∙ ap (λ c. is_variable (record d { class = c })) e))
variable_is d class.Reset e h = absurd (true≢false (sym h ∙ ap (λ c. is_variable (record d { class = c })) e))
variable_is d class.EachCycle e h = absurd (true≢false (sym h ∙ ap (λ c. is_variable (record d { class = c })) e))
variable_is d class.Once e h = absurd (true≢false (sym h ∙ ap (λ c. is_variable (record d { class = c })) e))
variable_is d class.Net e h = absurd (true≢false (sym h ∙ ap (λ c. is_variable (record d { class = c })) e))

module _ (ds : List Decl) (drivers : List Driver) (firsts : List Start) (shaped : All IsShaped ds)
    (different : AreDifferent ds) (apart : AreApart ds) (lawful : IsLawful ds drivers firsts)
    (none : HasNoRefusal ds drivers) (s : List ℕ) (order : IsSequence ds drivers s) where
  abbrev ps : List Part
  ps = parts_of ds drivers firsts

  -- ---- a bit of a declared name

  at_bit : (R : List ℕ → ℕ → Type 0) (b : Decl → List ℕ → ℕ → Bool)
      → EachDeclared (λ d. EachBit (λ n i. OnlyIf (b d n i) (R n i)) d) ps → (d : Decl) (n : List ℕ) (i : ℕ)
      → IsCellOf ds d n → i < d.width → b d n i ≡ true → R n i
  at_bit R b h d n i of below t =
      of_only_if (b d n i) (R n i) t
      (each_below_at (λ i. OnlyIf (b d n i) (R n i)) d.width i below
      (each_contained (λ n. EachBelow (λ i. OnlyIf (b d n i) (R n i)) d.width) (cells d) n
      (each_declared_as (λ d. EachBit (λ n i. OnlyIf (b d n i) (R n i)) d) ds d.name d of.declared
      (of_declared (λ d. EachBit (λ n i. OnlyIf (b d n i) (R n i)) d) ds drivers firsts h)) of.cell))

  -- what isn't assigned is kept
  keeps_at : (v u : Values) → Next ps v u → (d : Decl) (n : List ℕ) (i : ℕ) → IsCellOf ds d n → i < d.width
      → d.class ≡ class.Variable → is_assigned ps n i ≡ false → bit_of (u n) i ≡ bit_of (v n) i
  keeps_at v u h d n i of below e free =
      of_only_if (not (is_assigned ps n i)) (bit_of (u n) i ≡ bit_of (v n) i) (ap not free)
      (each_below_at (λ i. OnlyIf (not (is_assigned ps n i)) (bit_of (u n) i ≡ bit_of (v n) i)) d.width i below
      (each_contained (λ n. EachBelow (λ i. OnlyIf (not (is_assigned ps n i)) (bit_of (u n) i ≡ bit_of (v n) i)) d.width)
      (cells d) n
      (subst (Keeps ps v u d) e
      (each_declared_as (λ d. Keeps ps v u d d.class) ds d.name d of.declared
      (each_mapped (PartSteps ps v u) (λ d. declares d) ds
      (front (PartSteps ps v u) (decl_parts ds) (driver_parts (flat_scopes ds) drivers)
      (front (PartSteps ps v u) (decl_parts ds ++ driver_parts (flat_scopes ds) drivers)
      (start_parts (flat_scopes ds) firsts) h)))))
      of.cell))

  -- ---- two next maps

  clocked_at : (v u : Values) (n : List ℕ) (i : ℕ) (d : Decl) → IsCellOf ds d n → i < d.width → (us : List Scope)
      (z : Stmt) → Clocks ps v u us z → assigns us z n i ≡ true
      → bit_of (u n) i ≡ bit_of (ended (exec us z (begun v)) n) i
  clocked_at v u n i d of below us z c t =
      at_bit (λ n i. bit_of (u n) i ≡ bit_of (ended (exec us z (begun v)) n) i) (λ d n i. assigns us z n i) c d n i of
      below t

  from_blocks : (v u w : Values) (n : List ℕ) (i : ℕ) (d : Decl) → IsCellOf ds d n → i < d.width → (qs : List Part)
      → is_assigned qs n i ≡ true → is_driven qs n i ≡ false → Each (PartSteps ps v u) qs → Each (PartSteps ps v w) qs
      → bit_of (u n) i ≡ bit_of (w n) i
  from_blocks v u w n i d of below [] t f a b = absurd (true≢false (sym t))
  from_blocks v u w n i d of below (declares e ∷ qs) t f a b = from_blocks v u w n i d of below qs t f a.1 b.1
  from_blocks v u w n i d of below (equation ts l us e ∷ qs) t f a b = from_blocks v u w n i d of below qs t f a.1 b.1
  from_blocks v u w n i d of below (starts us l e ∷ qs) t f a b = from_blocks v u w n i d of below qs t f a.1 b.1
  from_blocks v u w n i d of below (combinational us z ∷ qs) t f a b =
      or_case (assigns us z n i) (is_assigned qs n i)
      (λ yes. absurd (true≢false (sym (or_left (assigns us z n i) (is_driven qs n i) yes) ∙ f)))
      (λ yes. from_blocks v u w n i d of below qs yes
      (none_of (is_driven qs n i) (λ more. sym f ∙ or_right (assigns us z n i) (is_driven qs n i) more)) a.1 b.1) t
  from_blocks v u w n i d of below (clocked us z ∷ qs) t f a b =
      or_case (assigns us z n i) (is_assigned qs n i)
      (λ yes. clocked_at v u n i d of below us z a.0 yes ∙ sym (clocked_at v w n i d of below us z b.0 yes))
      (λ yes. from_blocks v u w n i d of below qs yes f a.1 b.1) t

  -- two maps that may come next have all kept bits in common
  pub next_kept : (v u w : Values) → Next ps v u → Next ps v w → AreKeptAlike ps u w
  next_kept v u w a b =
      agreeing.bits_all ds drivers firsts shaped different apart lawful none s order
      (λ n i. bit_of (u n) i ≡ bit_of (w n) i) (λ d n i. is_kept ps d.class n i)
      (λ d n i of below t. let is = kept_is ps d.class n i t in
      by d n i of below is.0 is.1 (is_assigned ps n i) refl)
    where
      by : (d : Decl) (n : List ℕ) (i : ℕ) → IsCellOf ds d n → i < d.width → d.class ≡ class.Variable
          → is_driven ps n i ≡ false → (c : Bool) → is_assigned ps n i ≡ c → bit_of (u n) i ≡ bit_of (w n) i
      by d n i of below e free true t = from_blocks v u w n i d of below ps t free a b
      by d n i of below e free false t =
          keeps_at v u a d n i of below e t ∙ sym (keeps_at v w b d n i of below e t)

  -- ---- and a map with the kept bits of a next one

  -- a bit that a clocked block assigns is driven by no combinational one
  pub clocked_alone : (j : ℕ) (x : Driver) → slice_get drivers j ≡ Some x → (z : Stmt) → x.what ≡ k.Clocked z
      → (n : List ℕ) (i : ℕ) → assigns (flat_scopes ds) z n i ≡ true → is_driven ps n i ≡ false
  clocked_alone j x e z what n i t =
      none_of (is_driven ps n i) (λ driven.
      let r = found_among (flat_scopes ds) drivers n i (sym (driven_parts ds drivers firsts n i) ∙ driven) in
      absurd (by r.driver.what r.driver r.place r.stands refl r.drives))
    where
      part_drives : DriverKind → Bool
      part_drives w = is_driven_by (driver_part (flat_scopes ds) w) n i

      by : (y : DriverKind) (q : Driver) (m : ℕ) → slice_get drivers m ≡ Some q → q.what ≡ y
          → is_driven_by (driver_part (flat_scopes ds) q.what) n i ≡ true → ⊥
      by (k.Assign l f) q m at is drives = true≢false (sym drives ∙ ap part_drives is)
      by (k.Clocked c) q m at is drives = true≢false (sym drives ∙ ap part_drives is)
      by (k.Comb c) q m at is drives =
          let assigned : assigns (flat_scopes ds) c n i ≡ true = sym (ap part_drives is) ∙ drives in
          let same : j ≡ m =
          single ds (held.wide ds drivers firsts shaped different apart lawful none s order)
          (held.cells ds drivers firsts shaped different apart lawful none s order) lawful.kept drivers lawful.driven
          (nothing (two_drivers ds drivers) none.single) j m x q e at n i (ap (λ w. driven_by ds w n i) what ∙ t)
          (ap (λ w. driven_by ds w n i) is ∙ assigned) in
          let one : x ≡ q = same_Some x q (sym e ∙ ap (slice_get drivers) same ∙ at) in
          true≢false (ap is_clocked (sym what ∙ ap (λ (y : Driver). y.what) one ∙ is))

  module _ (v u w : Values) (alike : AreKeptAlike ps u w) where
    pub kept_at : (d : Decl) (n : List ℕ) (i : ℕ) → IsCellOf ds d n → i < d.width → d.class ≡ class.Variable
        → is_driven ps n i ≡ false → bit_of (u n) i ≡ bit_of (w n) i
    kept_at d n i of below e free =
        at_bit (λ n i. bit_of (u n) i ≡ bit_of (w n) i) (λ d n i. is_kept ps d.class n i) alike d n i of below
        (kept_if ps d.class n i e free)

    keeps_next : (d : Decl) → declared_as ds d.name ≡ Some d → (c : Class) → d.class ≡ c → Keeps ps v w d c
        → Keeps ps v u d c
    keeps_next d own class.Variable e h =
        agreeing.bits_map ds drivers firsts shaped different apart lawful none s order
        (λ n i. OnlyIf (not (is_assigned ps n i)) (bit_of (w n) i ≡ bit_of (v n) i))
        (λ n i. OnlyIf (not (is_assigned ps n i)) (bit_of (u n) i ≡ bit_of (v n) i)) d own
        (λ n i of less.
        agreeing.only_map ds drivers firsts shaped different apart lawful none s order (not (is_assigned ps n i))
        (bit_of (w n) i ≡ bit_of (v n) i) (bit_of (u n) i ≡ bit_of (v n) i)
        (λ t same. kept_at d n i of less e
        (none_of (is_driven ps n i) (λ yes. sym (is_false (is_assigned ps n i) t) ∙ driven_less ps n i yes)) ∙ same)) h
    keeps_next d own class.Clock e h = tt
    keeps_next d own class.Input e h = tt
    keeps_next d own class.Reset e h = tt
    keeps_next d own class.EachCycle e h = tt
    keeps_next d own class.Once e h = tt
    keeps_next d own class.Net e h = tt

    steps_next : (j : ℕ) (x : Driver) → slice_get drivers j ≡ Some x → IsDriver ds x.what → (y : DriverKind)
        → x.what ≡ y → PartSteps ps v w (driver_part (flat_scopes ds) y)
        → PartSteps ps v u (driver_part (flat_scopes ds) y)
    steps_next j x e is (k.Assign l f) what h = tt
    steps_next j x e is (k.Comb z) what h = tt
    steps_next j x e is (k.Clocked z) what h =
        agreeing.declared_map ds drivers firsts shaped different apart lawful none s order
        (λ d. EachBit (P w) d) (λ d. EachBit (P u) d)
        (λ d own. agreeing.bits_map ds drivers firsts shaped different apart lawful none s order (P w) (P u) d own
        (λ n i of less.
        agreeing.only_map ds drivers firsts shaped different apart lawful none s order (assigns (flat_scopes ds) z n i)
        (bit_of (w n) i ≡ bit_of (after n) i) (bit_of (u n) i ≡ bit_of (after n) i)
        (λ t same. let c = block_changed ds z (subst (IsDriver ds) what is) n i t in
        kept_at c.decl n i c.of c.below (variable_is c.decl c.decl.class refl c.may_be)
        (clocked_alone j x e z what n i t) ∙ same))) h
      where
        after : Values
        after = ended (exec (flat_scopes ds) z (begun v))

        P : Values → List ℕ → ℕ → Type 0
        P m n i = OnlyIf (assigns (flat_scopes ds) z n i) (bit_of (m n) i ≡ bit_of (after n) i)

    pub kept_next : Next ps v w → Next ps v u
    kept_next h =
        agreeing.parts_map ds drivers firsts shaped different apart lawful none s order (PartSteps ps v w)
        (PartSteps ps v u) (λ d own. keeps_next d own d.class refl)
        (λ j x e is. steps_next j x e is x.what refl) (λ x. tt) h
