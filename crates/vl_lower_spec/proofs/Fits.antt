-- The numbers of a map's names are numbers of the net.
use Rattle.std.specs.Prelude.{◌≡◌, refl, ℕ, zero, suc, ◌<◌, ◌^◌, List, [], ◌∷◌, length, map}
use Rattle.std.specs.Prelude.{slice_get, slice_index}
use Rattle.std.proofs.Common.{ap, sym, ◌∙◌, arith, subst}
use Rattle.std.proofs.lemmas.List.{length-map}
use Rattle.std.proofs.lemmas.Nat.{pow_pos}
use Rattle.vl_size.specs.declared.decl.Decl.{Decl}
use Rattle.vl_size.specs.Size.{Values}
use Rattle.vl_mean.specs.Cells.{cells}
use Rattle.vl_mean.specs.Parts.{Part}
use Rattle.vl_mean.specs.Runs.{Each}
use Rattle.vl_mean.specs.Scopes.{is_clock_class}
use Rattle.vl_flow_spec.specs.Reads.{AreInRange}
use Rattle.vl_flow_spec.proofs.Cells.{each_of_contained}
use Rattle.vl_lower_spec.specs.Maps.{cells_named, gathered, given_of, spot_number, text_of}
use Rattle.wn_net.specs.declared.names.Names.{Names}
use Rattle.wn_net.specs.declared.names.Spot.{Spot}
use Rattle.wn_net.specs.declared.parts.Input.{Input}
use Rattle.wn_net.specs.declared.parts.Mem.{Mem}
use Rattle.wn_net.specs.declared.parts.Reg.{Reg}
use Rattle.wn_net.specs.Net.{Netlist}
use Rattle.wn_net.specs.Given.{AreMemsOf, AreNumbersOf, HasWords, IsGiven}
use Rattle.vl_lower_spec.specs.Sources.{AreEach, AreSources, IsInputOf, IsMemOf, IsRegOf}
use Rattle.vl_lower_spec.proofs.Bits.{below_many, gathered_small}

numbers_of : {A : Type 0} (width : A → ℕ) (f : Spot → ℕ) (R : A → Spot → Type 0)
    → ((x : A) (p : Spot) → R x p → f p < 2 ^ width x) → (xs : List A) (ps : List Spot) → AreEach R xs ps
    → AreNumbersOf (map width xs) (map f ps)
numbers_of width f R h [] [] r = record { each = refl; below = λ i. omega arith }
numbers_of width f R h [] (p ∷ ps) r = absurd r
numbers_of width f R h (x ∷ xs) [] r = absurd r
numbers_of width f R h (x ∷ xs) (p ∷ ps) r =
    let rest = numbers_of width f R h xs ps r.1 in
    record { each = ap suc rest.each; below = λ i. at (h x p r.0) rest.below i }
  where
    at : f p < 2 ^ width x → ((i : ℕ) → slice_index (map f ps) i < 2 ^ slice_index (map width xs) i) → (i : ℕ)
        → slice_index (map f (p ∷ ps)) i < 2 ^ slice_index (map width (x ∷ xs)) i
    at first rest zero = first
    at first rest (suc i) = rest i

small_map : (v : Values) (w : ℕ) (ns : List (List ℕ)) → Each (λ n. v n < 2 ^ w) ns → (i : ℕ)
    → slice_index (map v ns) i < 2 ^ w
small_map v w [] h i = pow_pos w
small_map v w (n ∷ ns) h zero = h.0
small_map v w (n ∷ ns) h (suc i) = small_map v w ns h.1 i

module _ (ds : List Decl) (ps : List Part) (net : Netlist) (names : Names) (own : AreSources ds ps net names)
    (v : Values) (ok : AreInRange ds v) where
  gathered_fits : (bs : List ℕ) (n w : ℕ) → length bs ≡ w → gathered n bs < 2 ^ w
  gathered_fits bs n w e = subst (λ m. gathered n bs < 2 ^ m) e (gathered_small n bs)

  input_fits : (x : Input) (p : Spot) → IsInputOf ds names x p → spot_number names v p < 2 ^ x.width
  input_fits x p is =
      gathered_fits p.bits (v (text_of (slice_get names.list p.name))) x.width
      (ap length is.bits ∙ below_many is.decl.width ∙ sym is.width)

  reg_fits : (r : Reg) (p : Spot) → IsRegOf ds ps names r p → spot_number names v p < 2 ^ r.width
  reg_fits r p is = gathered_fits p.bits (v (text_of (slice_get names.list p.name))) r.width is.width

  pub mem_fits : (m : Mem) (at : ℕ) → (is : IsMemOf ds ps names m at)
      → Each (λ n. v n < 2 ^ m.width) (cells is.decl)
  mem_fits m at is =
      each_of_contained (λ n. v n < 2 ^ m.width) (cells is.decl) (λ n c.
      subst (λ w. v n < 2 ^ w) (sym is.width)
      (ok is.decl n (record { declared = is.declared; cell = c }) (ap is_clock_class is.variable)))

  mem_words : (m : Mem) (at : ℕ) → IsMemOf ds ps names m at
      → HasWords m (map v (cells_named (slice_get names.list at)))
  mem_words m at is =
      subst (λ ns. HasWords m (map v ns)) (sym is.named) (record {
        each = length-map (cells is.decl) v ∙ is.count;
        below = small_map v m.width (cells is.decl) (mem_fits m at is);
      })

  mems_fit : (ms : List Mem) (ats : List ℕ) → AreEach (IsMemOf ds ps names) ms ats
      → AreMemsOf ms (map (λ m. map v (cells_named (slice_get names.list m))) ats)
  mems_fit [] [] r = tt
  mems_fit [] (a ∷ ats) r = absurd r
  mems_fit (m ∷ ms) [] r = absurd r
  mems_fit (m ∷ ms) (a ∷ ats) r = (mem_words m a r.0, mems_fit ms ats r.1)

  pub fits : IsGiven net (given_of names v)
  fits = record {
    inputs = numbers_of (λ (x : Input). x.width) (spot_number names v) (IsInputOf ds names) input_fits net.inputs
        names.inputs own.inputs;
    state = record {
      regs = numbers_of (λ (r : Reg). r.width) (spot_number names v) (IsRegOf ds ps names) reg_fits net.regs names.regs
          own.regs;
      mems = mems_fit net.mems names.mems own.mems;
    };
  }
