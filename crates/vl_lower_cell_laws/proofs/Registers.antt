-- Registers of a design's cells: each is kept bits of a variable, and each kept bit is one of theirs.
use Rattle.std.specs.Prelude.{◌≡◌, refl, ℕ, zero, suc, ◌+◌, ◌<◌, ◌≤◌, List, [], ◌∷◌, length, Bool, true, false}
use Rattle.std.specs.Prelude.{Some, is_none, if◌then◌else◌, slice_get}
use Rattle.std.proofs.Common.{ap, ◌∙◌, arith, subst, true≢false}
use Rattle.std.proofs.lemmas.Option.{same_Some}
use Rattle.vl_size.specs.declared.decl.Class.{Class}
use Rattle.vl_size.specs.declared.decl.Class.TheVariants as class
use Rattle.vl_size.specs.declared.decl.Decl.{Decl}
use Rattle.vl_size.specs.Table.{declared_as}
use Rattle.vl_mean.specs.Cells.{cells}
use Rattle.vl_mean.specs.Parts.{Part}
use Rattle.vl_mean.specs.Runs.{Each, is_driven}
use Rattle.vl_mean.specs.Scopes.{is_clock_class}
use Rattle.vl_flow_spec.specs.Reads.{IsCellOf}
use Rattle.vl_flow_cells.proofs.Lists.{contained_at}
use Rattle.vl_lower_spec.specs.Maps.{text_of}
use Rattle.wn_net.specs.declared.names.NetName.{NetName}
use Rattle.vl_lower_cell_laws.specs.Keeps.{IsIn, IsKeepOf, IsKept, Kept, RegistersKeepBits, registers_of}
use Rattle.vl_lower_cell_laws.proofs.KeepsWhole.{keep_bits}
use Rattle.vl_lower_cell_laws.specs.Entries.{is_memory}
use Rattle.vl_lower_cell_laws.specs.Listing.{AreKeeps, Keeping, all_registers, cell_registers, entry_count}
use Rattle.vl_lower_cell_laws.specs.Listing.{memory_count}
use Rattle.vl_lower_cell_laws.specs.Listing.{named_registers, registers_in}
use Rattle.vl_lower_cell_laws.proofs.SourcesLists.{AreIn, back_in, each_both, front_in, named_at}
use Rattle.vl_lower_cell_laws.proofs.Places.{AllAt, HeadAt, text_there}

module _ (ds : List Decl) (ps : List Part) (keep : Keeping) (nodes : List ℕ) (list : List NetName) where
  -- bits of a variable's cell, under the entry's text
  pub record IsHeld (x : Kept × ℕ) : Type 0 where
    pub decl : Decl
    pub text : List ℕ
    pub of : IsCellOf ds decl text
    pub variable : decl.class ≡ class.Variable
    pub named : text_of (slice_get list x.1) ≡ text
    pub kept : IsKept ps decl.width text x.0

  each_named : (at : ℕ) (xs : List Kept) → ((i : ℕ) (x : Kept) → slice_get xs i ≡ Some x → IsHeld (x, at))
      → Each IsHeld (named_registers at xs)
  each_named at [] h = tt
  each_named at (x ∷ xs) h = (h zero x refl, each_named at xs (λ i y e. h (suc i) y e))

  -- where a bit stands among registers
  pub record IsHere (whole : List (Kept × ℕ)) (text : List ℕ) (k : ℕ) : Type 0 where
    pub place : ℕ
    pub register : Kept
    pub at : ℕ
    pub there : slice_get whole place ≡ Some (register, at)
    pub named : text_of (slice_get list at) ≡ text
    pub offset : ℕ
    pub bit : slice_get register.bits offset ≡ Some k

  module _ (d : Decl) (own : declared_as ds d.name ≡ Some d) (variable : d.class ≡ class.Variable) (some : 1 ≤ d.width)
    where
      -- texts are cells of the name under their entries, with what is kept of them
      pub record AreTexts (first at : ℕ) (texts : List (List ℕ)) : Type 0 where
        pub of : (j : ℕ) (n : List ℕ) → slice_get texts j ≡ Some n → IsCellOf ds d n
        pub named : (j : ℕ) (n : List ℕ) → slice_get texts j ≡ Some n → text_of (slice_get list (at + j)) ≡ n
        pub keeps : (j : ℕ) (n : List ℕ) → slice_get texts j ≡ Some n → IsKeepOf ps d.width n (keep (first + j))

      later : (first at : ℕ) (t : List ℕ) (ts : List (List ℕ)) → AreTexts first at (t ∷ ts)
          → AreTexts (first + 1) (at + 1) ts
      later first at t ts h = record {
        of = λ j n e. h.of (suc j) n e;
        named = λ j n e.
            let same : at + 1 + j ≡ at + suc j = omega arith in
            ap (λ k. text_of (slice_get list k)) same ∙ h.named (suc j) n e;
        keeps = λ j n e.
            let same : first + suc j ≡ first + 1 + j = omega arith in
            subst (λ k. IsKeepOf ps d.width n (keep k)) same (h.keeps (suc j) n e);
      }

      first_kept : (first at : ℕ) (t : List ℕ) (ts : List (List ℕ)) → AreTexts first at (t ∷ ts)
          → RegistersKeepBits ps d.width t (keep first)
      first_kept first at t ts h =
          let same : first + 0 ≡ first = omega arith in
          keep_bits ps d.width t (keep first) some
          (subst (λ k. IsKeepOf ps d.width t (keep k)) same (h.keeps zero t refl))

      first_named : (first at : ℕ) (t : List ℕ) (ts : List (List ℕ)) → AreTexts first at (t ∷ ts)
          → text_of (slice_get list at) ≡ t
      first_named first at t ts h =
          let same : at ≡ at + 0 = omega arith in
          ap (λ k. text_of (slice_get list k)) same ∙ h.named zero t refl

      cells_held : (first at : ℕ) (texts : List (List ℕ)) → AreTexts first at texts
          → Each IsHeld (cell_registers keep d.width first at texts)
      cells_held first at [] h = tt
      cells_held first at (t ∷ ts) h =
          each_both IsHeld (named_registers at (registers_of (keep first) d.width))
          (cell_registers keep d.width (first + 1) (at + 1) ts)
          (each_named at (registers_of (keep first) d.width) (λ i x e. record {
            decl = d;
            text = t;
            of = h.of zero t refl;
            variable = variable;
            named = first_named first at t ts h;
            kept = (first_kept first at t ts h).each i x e;
          }))
          (cells_held (first + 1) (at + 1) ts (later first at t ts h))

      cell_here : (whole : List (Kept × ℕ)) (first at : ℕ) (texts : List (List ℕ)) → AreTexts first at texts
          → AreIn (cell_registers keep d.width first at texts) whole → (j : ℕ) (n : List ℕ)
          → slice_get texts j ≡ Some n → (k : ℕ) → k < d.width → is_driven ps n k ≡ false → IsHere whole n k
      cell_here whole first at [] h inside j n e k less free = absurd (true≢false (ap is_none e))
      cell_here whole first at (t ∷ ts) h inside zero n e k less free =
          let same = same_Some t n e in
          let r : IsIn (registers_of (keep first) d.width) k =
          (first_kept first at t ts h).all k less (ap (λ m. is_driven ps m k) same ∙ free) in
          let own_list : List (Kept × ℕ) = named_registers at (registers_of (keep first) d.width) in
          let found =
          front_in own_list (cell_registers keep d.width (first + 1) (at + 1) ts) whole inside r.place
          (r.register, at) (named_at at (registers_of (keep first) d.width) r.place r.register r.there) in
          record {
            place = found.0;
            register = r.register;
            at = at;
            there = found.1;
            named = first_named first at t ts h ∙ same;
            offset = r.offset;
            bit = r.bit;
          }
      cell_here whole first at (t ∷ ts) h inside (suc j) n e k less free =
          cell_here whole (first + 1) (at + 1) ts (later first at t ts h)
          (back_in (named_registers at (registers_of (keep first) d.width))
          (cell_registers keep d.width (first + 1) (at + 1) ts) whole inside) j n e k less free

      -- the texts of the name itself
      own_texts : (first at m : ℕ) → HeadAt ps nodes list d first at m → is_memory ps d ≡ false
          → ((j : ℕ) (n : List ℕ) → slice_get (cells d) j ≡ Some n → IsKeepOf ps d.width n (keep (first + j)))
          → AreTexts first at (cells d)
      own_texts first at m h e keeps = record {
        of = λ j n s. record { declared = own; cell = contained_at (cells d) j n s };
        named = λ j n s. text_there ps nodes list d first at m h (ap is_clock_class variable) e j n s;
        keeps = keeps;
      }

      pub name_held : (first at m : ℕ) → HeadAt ps nodes list d first at m
          → ((j : ℕ) (n : List ℕ) → slice_get (cells d) j ≡ Some n → IsKeepOf ps d.width n (keep (first + j)))
          → Each IsHeld (if is_memory ps d then [] else cell_registers keep d.width first at (cells d))
      name_held first at m h keeps = by (is_memory ps d) refl
        where
          by : (b : Bool) → is_memory ps d ≡ b
              → Each IsHeld (if b then [] else cell_registers keep d.width first at (cells d))
          by true e = tt
          by false e = cells_held first at (cells d) (own_texts first at m h e keeps)

      pub name_here : (whole : List (Kept × ℕ)) (first at m : ℕ) → HeadAt ps nodes list d first at m
          → ((j : ℕ) (n : List ℕ) → slice_get (cells d) j ≡ Some n → IsKeepOf ps d.width n (keep (first + j)))
          → is_memory ps d ≡ false
          → AreIn (if is_memory ps d then [] else cell_registers keep d.width first at (cells d)) whole
          → (j : ℕ) (n : List ℕ) → slice_get (cells d) j ≡ Some n → (k : ℕ) → k < d.width → is_driven ps n k ≡ false
          → IsHere whole n k
      name_here whole first at m h keeps e inside =
          cell_here whole first at (cells d) (own_texts first at m h e keeps)
          (subst (λ (b : Bool). AreIn (if b then [] else cell_registers keep d.width first at (cells d)) whole) e
          inside)

  -- ---- all names

  class_held : (d : Decl) (c : Class) → d.class ≡ c → declared_as ds d.name ≡ Some d → 1 ≤ d.width
      → (first at m : ℕ) → HeadAt ps nodes list d first at m
      → (d.class ≡ class.Variable → (j : ℕ) (n : List ℕ) → slice_get (cells d) j ≡ Some n
      → IsKeepOf ps d.width n (keep (first + j)))
      → Each IsHeld (registers_in ps keep d c first at)
  class_held d class.Variable is own some first at m h keeps = name_held d own is some first at m h (keeps is)
  class_held d class.Clock is own some first at m h keeps = tt
  class_held d class.Reset is own some first at m h keeps = tt
  class_held d class.Input is own some first at m h keeps = tt
  class_held d class.Net is own some first at m h keeps = tt
  class_held d class.EachCycle is own some first at m h keeps = tt
  class_held d class.Once is own some first at m h keeps = tt

  pub all_held : (es : List Decl) → Each (λ d. (declared_as ds d.name ≡ Some d) × (1 ≤ d.width)) es
      → (first at m : ℕ) → AllAt ps nodes list es first at m → AreKeeps ps keep es first
      → Each IsHeld (all_registers ps keep es first at)
  all_held [] own first at m h keeps = tt
  all_held (d ∷ es) own first at m h keeps =
      each_both IsHeld (registers_in ps keep d d.class first at)
      (all_registers ps keep es (first + length (cells d)) (at + entry_count ps d))
      (class_held d d.class refl own.0.0 own.0.1 first at m h.0 keeps.0)
      (all_held es own.1 (first + length (cells d)) (at + entry_count ps d) (m + memory_count ps d) h.1 keeps.1)

  -- each kept bit of a variable that isn't kept as a memory is in a register
  pub all_here : (whole : List (Kept × ℕ)) (es : List Decl)
      → Each (λ d. (declared_as ds d.name ≡ Some d) × (1 ≤ d.width)) es
      → (first at m : ℕ) → AllAt ps nodes list es first at m → AreKeeps ps keep es first
      → AreIn (all_registers ps keep es first at) whole
      → Each (λ d. d.class ≡ class.Variable → is_memory ps d ≡ false → (j : ℕ) (n : List ℕ)
      → slice_get (cells d) j ≡ Some n → (k : ℕ) → k < d.width → is_driven ps n k ≡ false → IsHere whole n k) es
  all_here whole [] own first at m h keeps inside = tt
  all_here whole (d ∷ es) own first at m h keeps inside =
      let rest : List (Kept × ℕ) = all_registers ps keep es (first + length (cells d)) (at + entry_count ps d) in (
        λ is e. name_here d own.0.0 is own.0.1 whole first at m h.0 (keeps.0 is) e
            (subst (λ c. AreIn (registers_in ps keep d c first at) whole) is
            (front_in (registers_in ps keep d d.class first at) rest whole inside)),
        all_here whole es own.1 (first + length (cells d)) (at + entry_count ps d) (m + memory_count ps d) h.1 keeps.1
            (back_in (registers_in ps keep d d.class first at) rest whole inside),
      )
