-- Inputs of a design: each is all bits of a name, and each name that is chosen is there.
use Rattle.std.specs.Prelude.{◌≡◌, refl, ℕ, zero, ◌+◌, List, [], ◌∷◌, length, ◌&&◌, not, true, false, ℤ}
use Rattle.std.specs.Prelude.{Option, Some, None, is_none, slice_get}
use Rattle.std.proofs.Common.{ap, sym, ◌∙◌, arith, subst, true≢false}
use Rattle.vl_size.specs.declared.decl.Class.{Class}
use Rattle.vl_size.specs.declared.decl.Class.TheVariants as class
use Rattle.vl_size.specs.declared.decl.Decl.{Decl}
use Rattle.vl_size.specs.Table.{declared_as}
use Rattle.vl_mean.specs.Cells.{cells, cells_of}
use Rattle.vl_mean.specs.FlatLaw.{IsMemory, is_variable}
use Rattle.vl_mean.specs.Parts.{Part}
use Rattle.vl_mean.specs.Runs.{Each}
use Rattle.vl_mean.specs.Scopes.{is_clock_class}
use Rattle.vl_lower_spec.specs.Maps.{is_split, text_of}
use Rattle.wn_net.specs.declared.names.NetName.{NetName}
use Rattle.wn_net.specs.declared.parts.Input.{Input}
use Rattle.wn_net.specs.declared.parts.InputKind.{InputKind}
use Rattle.vl_lower_spec.specs.Sources.{kind_of}
use Rattle.vl_lower_cell_laws.specs.Entries.{is_memory}
use Rattle.vl_lower_cell_laws.specs.Listing.{all_inputs, entry_count, inputs_named, memory_count}
use Rattle.vl_lower_cell_laws.proofs.SourcesLists.{AreIn, back_in, each_both, front_in}
use Rattle.vl_lower_cell_laws.proofs.Places.{AllAt, HeadAt, text_there}

-- a name that is chosen is no variable, and not the clock
not_variable : (d : Decl) (c : Class) (k : InputKind) → d.class ≡ c → kind_of c ≡ Some k → is_variable d ≡ true → ⊥
not_variable d class.Variable k is e v = true≢false (ap is_none e)
not_variable d class.Clock k is e v = true≢false (ap is_none e)
not_variable d class.Net k is e v = true≢false (ap is_none e)
not_variable d class.Input k is e v = true≢false (sym v ∙ ap (λ c. is_variable (record d { class = c })) is)
not_variable d class.Reset k is e v = true≢false (sym v ∙ ap (λ c. is_variable (record d { class = c })) is)
not_variable d class.EachCycle k is e v = true≢false (sym v ∙ ap (λ c. is_variable (record d { class = c })) is)
not_variable d class.Once k is e v = true≢false (sym v ∙ ap (λ c. is_variable (record d { class = c })) is)

pub not_clock : (c : Class) (k : InputKind) → kind_of c ≡ Some k → is_clock_class c ≡ false
not_clock class.Variable k e = refl
not_clock class.Net k e = refl
not_clock class.Clock k e = absurd (true≢false (ap is_none e))
not_clock class.Input k e = refl
not_clock class.Reset k e = refl
not_clock class.EachCycle k e = refl
not_clock class.Once k e = refl

pub vector_of : (d : Decl) (k : InputKind) → kind_of d.class ≡ Some k → IsMemory d.words d → d.words ≡ None
vector_of d k e h = by d.words h
  where
    by : (w : Option (ℤ × ℤ)) → IsMemory w d → w ≡ None
    by None g = refl
    by (Some b) g = absurd (not_variable d d.class k refl e g.2)

module _ (ds : List Decl) (ps : List Part) (nodes : List ℕ) (list : List NetName) where
  pub record IsAsked (x : Input × ℕ) : Type 0 where
    pub decl : Decl
    pub declared : declared_as ds decl.name ≡ Some decl
    pub vector : decl.words ≡ None
    pub named : text_of (slice_get list x.1) ≡ decl.name
    pub kind : kind_of decl.class ≡ Some x.0.kind
    pub width : x.0.width ≡ decl.width

  -- an input of all bits of the text is there
  pub record IsTaken (whole : List (Input × ℕ)) (text : List ℕ) (width : ℕ) : Type 0 where
    pub place : ℕ
    pub input : Input
    pub at : ℕ
    pub there : slice_get whole place ≡ Some (input, at)
    pub named : text_of (slice_get list at) ≡ text
    pub wide : input.width ≡ width

  pub own_text : (d : Decl) (k : InputKind) → kind_of d.class ≡ Some k → d.words ≡ None → (first at m : ℕ)
      → HeadAt ps nodes list d first at m → text_of (slice_get list at) ≡ d.name
  own_text d k e vector first at m h =
      let same : at ≡ at + 0 = omega arith in
      let flat : is_memory ps d ≡ false = ap (λ w. not (is_none w) && not (is_split ps d)) vector in
      ap (λ i. text_of (slice_get list i)) same
      ∙ text_there ps nodes list d first at m h (not_clock d.class k e) flat 0 d.name
      (ap (λ w. slice_get (cells_of d.name w) 0) vector)

  name_asked : (d : Decl) → declared_as ds d.name ≡ Some d → IsMemory d.words d → (first at m : ℕ)
      → HeadAt ps nodes list d first at m → (o : Option InputKind) → kind_of d.class ≡ o
      → Each IsAsked (inputs_named o d at)
  name_asked d own memory first at m h None e = tt
  name_asked d own memory first at m h (Some k) e =
      let vector = vector_of d k e memory in (
        record {
          decl = d;
          declared = own;
          vector = vector;
          named = own_text d k e vector first at m h;
          kind = e;
          width = refl;
        },
        tt,
      )

  pub all_asked : (es : List Decl) → Each (λ d. declared_as ds d.name ≡ Some d) es → Each (λ d. IsMemory d.words d) es
      → (first at m : ℕ) → AllAt ps nodes list es first at m → Each IsAsked (all_inputs ps es at)
  all_asked [] own memory first at m h = tt
  all_asked (d ∷ es) own memory first at m h =
      each_both IsAsked (inputs_named (kind_of d.class) d at) (all_inputs ps es (at + entry_count ps d))
      (name_asked d own.0 memory.0 first at m h.0 (kind_of d.class) refl)
      (all_asked es own.1 memory.1 (first + length (cells d)) (at + entry_count ps d) (m + memory_count ps d) h.1)

  taken : (whole : List (Input × ℕ)) (d : Decl) → IsMemory d.words d → (first at m : ℕ)
      → HeadAt ps nodes list d first at m → AreIn (inputs_named (kind_of d.class) d at) whole → (k : InputKind)
      → kind_of d.class ≡ Some k → IsTaken whole d.name d.width
  taken whole d memory first at m h inside k e =
      let here : AreIn (inputs_named (Some k) d at) whole =
      subst (λ o. AreIn (inputs_named o d at) whole) e inside in
      let found = here zero (record { width = d.width; kind = k }, at) refl in
      record {
        place = found.0;
        input = record { width = d.width; kind = k };
        at = at;
        there = found.1;
        named = own_text d k e (vector_of d k e memory) first at m h;
        wide = refl;
      }

  pub all_taken : (whole : List (Input × ℕ)) (es : List Decl) → Each (λ d. IsMemory d.words d) es
      → (first at m : ℕ) → AllAt ps nodes list es first at m → AreIn (all_inputs ps es at) whole
      → Each (λ d. (k : InputKind) → kind_of d.class ≡ Some k → IsTaken whole d.name d.width) es
  all_taken whole [] memory first at m h inside = tt
  all_taken whole (d ∷ es) memory first at m h inside =
      let own : List (Input × ℕ) = inputs_named (kind_of d.class) d at in
      let rest : List (Input × ℕ) = all_inputs ps es (at + entry_count ps d) in (
        taken whole d memory.0 first at m h.0 (front_in own rest whole inside),
        all_taken whole es memory.1 (first + length (cells d)) (at + entry_count ps d) (m + memory_count ps d) h.1
            (back_in own rest whole inside),
      )
