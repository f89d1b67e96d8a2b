-- Memories of a design: each is kept as one of the net, and each such memory is there.
use Rattle.std.specs.Prelude.{◌≡◌, refl, ℕ, zero, suc, ◌+◌, ◌<◌, ◌≤◌, ◌^◌, List, [], ◌∷◌, length, Bool, true, false}
use Rattle.std.specs.Prelude.{Some, is_none, if◌then◌else◌, slice_get}
use Rattle.std.proofs.Common.{ap, ◌∙◌, arith, subst, true≢false}
use Rattle.std.proofs.lemmas.Option.{same_Some}
use Rattle.vl_size.specs.declared.decl.Class.{Class}
use Rattle.vl_size.specs.declared.decl.Class.TheVariants as class
use Rattle.vl_size.specs.declared.decl.Decl.{Decl}
use Rattle.vl_size.specs.Table.{declared_as}
use Rattle.vl_mean.specs.Cells.{cells}
use Rattle.vl_mean.specs.Parts.{Part}
use Rattle.vl_mean.specs.Runs.{Each, initial_writes, is_driven, last_value}
use Rattle.vl_mean.specs.Scopes.{is_clock_class}
use Rattle.vl_flow_spec.specs.Reads.{IsCellOf}
use Rattle.vl_flow_cells.proofs.Lists.{place_in}
use Rattle.vl_lower_spec.specs.Maps.{cells_named}
use Rattle.wn_net.specs.declared.names.NetName.{NetName}
use Rattle.wn_net.specs.declared.parts.Init.{Init}
use Rattle.wn_net.specs.declared.parts.Init.TheVariants as init
use Rattle.vl_lower_spec.specs.Sources.{BeginsAs}
use Rattle.vl_lower_cell_laws.specs.Keeps.{IsKeepOf, whole_kept}
use Rattle.vl_lower_cell_laws.specs.Entries.{is_memory}
use Rattle.vl_lower_cell_laws.specs.Listing.{AreKeeps, Keeping, Stored, all_memories, entry_count, memories_in}
use Rattle.vl_lower_cell_laws.specs.Listing.{memory_count}
use Rattle.vl_lower_cell_laws.specs.Listing.{stored, word_starts}
use Rattle.vl_lower_cell_laws.proofs.SourcesLists.{AreIn, back_in, each_both, front_in}
use Rattle.vl_lower_cell_laws.proofs.Places.{AllAt, HeadAt, memory_there}
use Rattle.vl_lower_cell_laws.proofs.Memories.{word_begins, word_is, word_kept, words_whole}

starts_many : (keep : Keeping) (w first : ℕ) (texts : List (List ℕ))
    → length (word_starts keep w first texts) ≡ length texts
starts_many keep w first [] = refl
starts_many keep w first (t ∷ ts) = ap suc (starts_many keep w (first + 1) ts)

starts_of : (keep : Keeping) (w first : ℕ) (texts : List (List ℕ)) (j : ℕ) (x : Init)
    → slice_get (word_starts keep w first texts) j ≡ Some x
    → (n : List ℕ) × (slice_get texts j ≡ Some n) × ((whole_kept (keep (first + j)) w).init ≡ x)
starts_of keep w first [] j x e = absurd (true≢false (ap is_none e))
starts_of keep w first (t ∷ ts) zero x e =
    let same : first + 0 ≡ first = omega arith in
    (t, refl, ap (λ k. (whole_kept (keep k) w).init) same ∙ same_Some (whole_kept (keep first) w).init x e)
starts_of keep w first (t ∷ ts) (suc j) x e =
    let r = starts_of keep w (first + 1) ts j x e in
    let same : first + suc j ≡ first + 1 + j = omega arith in
    (r.0, r.1, ap (λ k. (whole_kept (keep k) w).init) same ∙ r.2)

module _ (ds : List Decl) (ps : List Part) (keep : Keeping) (nodes : List ℕ) (list : List NetName) where
  pub record IsStored (x : Stored × ℕ) : Type 0 where
    pub decl : Decl
    pub declared : declared_as ds decl.name ≡ Some decl
    pub variable : decl.class ≡ class.Variable
    pub named : cells_named (slice_get list x.1) ≡ cells decl
    pub width : x.0.width ≡ decl.width
    pub count : length (cells decl) ≡ x.0.words
    pub many : length x.0.starts ≡ x.0.words
    pub kept : (text : List ℕ) (k : ℕ) → IsCellOf ds decl text → k < decl.width → is_driven ps text k ≡ false
    pub begins : (j k : ℕ) (text : List ℕ) (i : Init) → slice_get (cells decl) j ≡ Some text
        → slice_get x.0.starts j ≡ Some i → k < decl.width → BeginsAs i k (last_value (initial_writes ps) text k)
    pub small : (j n : ℕ) → slice_get x.0.starts j ≡ Some (init.Known n) → n < 2 ^ x.0.width

  -- a memory is there, with its words' names
  pub record HasWords (whole : List (Stored × ℕ)) (text : List ℕ) : Type 0 where
    pub place : ℕ
    pub memory : Stored
    pub at : ℕ
    pub there : slice_get whole place ≡ Some (memory, at)
    pub offset : ℕ
    pub word : slice_get (cells_named (slice_get list at)) offset ≡ Some text

  module _ (d : Decl) (own : declared_as ds d.name ≡ Some d) (variable : d.class ≡ class.Variable) (some : 1 ≤ d.width)
      (first at m : ℕ) (head : HeadAt ps nodes list d first at m)
      (keeps : (j : ℕ) (n : List ℕ) → slice_get (cells d) j ≡ Some n → IsKeepOf ps d.width n (keep (first + j)))
      (memory : is_memory ps d ≡ true) where
    named_so : cells_named (slice_get list at) ≡ cells d
    named_so = memory_there ps nodes list d first at m head (ap is_clock_class variable) memory

    is_stored : IsStored (stored keep d first, at)
    is_stored = record {
      decl = d;
      declared = own;
      variable = variable;
      named = named_so;
      width = refl;
      count = refl;
      many = starts_many keep d.width first (cells d);
      kept = λ text k c less.
          let p = place_in (cells d) text c.cell in
          word_kept ps d some text (keep (first + p.0)) (keeps p.0 text p.1) (words_whole ps d memory p.0 text p.1) k
          less;
      begins = λ j k text i e s less.
          let r = starts_of keep d.width first (cells d) j i s in
          subst (λ x. BeginsAs x k (last_value (initial_writes ps) text k)) r.2
          (word_begins ps d some text (keep (first + j)) (keeps j text e) (words_whole ps d memory j text e) k less);
      small = λ j n s.
          let r = starts_of keep d.width first (cells d) j (init.Known n) s in
          (word_is ps d some r.0 (keep (first + j)) (keeps j r.0 r.1) (words_whole ps d memory j r.0 r.1)).small n r.2;
    }

    has_words : (whole : List (Stored × ℕ)) → AreIn ((stored keep d first, at) ∷ []) whole → (j : ℕ) (n : List ℕ)
        → slice_get (cells d) j ≡ Some n → HasWords whole n
    has_words whole inside j n e =
        let found = inside zero (stored keep d first, at) refl in
        record {
          place = found.0;
          memory = stored keep d first;
          at = at;
          there = found.1;
          offset = j;
          word = ap (λ ns. slice_get ns j) named_so ∙ e;
        }

  name_stored : (d : Decl) → declared_as ds d.name ≡ Some d → d.class ≡ class.Variable → 1 ≤ d.width
      → (first at m : ℕ) → HeadAt ps nodes list d first at m
      → ((j : ℕ) (n : List ℕ) → slice_get (cells d) j ≡ Some n → IsKeepOf ps d.width n (keep (first + j)))
      → Each IsStored (if is_memory ps d then (stored keep d first, at) ∷ [] else [])
  name_stored d own variable some first at m head keeps = by (is_memory ps d) refl
    where
      by : (b : Bool) → is_memory ps d ≡ b → Each IsStored (if b then (stored keep d first, at) ∷ [] else [])
      by true e = (is_stored d own variable some first at m head keeps e, tt)
      by false e = tt

  class_stored : (d : Decl) (c : Class) → d.class ≡ c → declared_as ds d.name ≡ Some d → 1 ≤ d.width
      → (first at m : ℕ) → HeadAt ps nodes list d first at m
      → (d.class ≡ class.Variable → (j : ℕ) (n : List ℕ) → slice_get (cells d) j ≡ Some n
      → IsKeepOf ps d.width n (keep (first + j)))
      → Each IsStored (memories_in ps keep d c first at)
  class_stored d class.Variable is own some first at m h keeps = name_stored d own is some first at m h (keeps is)
  class_stored d class.Clock is own some first at m h keeps = tt
  class_stored d class.Reset is own some first at m h keeps = tt
  class_stored d class.Input is own some first at m h keeps = tt
  class_stored d class.Net is own some first at m h keeps = tt
  class_stored d class.EachCycle is own some first at m h keeps = tt
  class_stored d class.Once is own some first at m h keeps = tt

  pub all_stored : (es : List Decl) → Each (λ d. (declared_as ds d.name ≡ Some d) × (1 ≤ d.width)) es
      → (first at m : ℕ) → AllAt ps nodes list es first at m → AreKeeps ps keep es first
      → Each IsStored (all_memories ps keep es first at)
  all_stored [] own first at m h keeps = tt
  all_stored (d ∷ es) own first at m h keeps =
      each_both IsStored (memories_in ps keep d d.class first at)
      (all_memories ps keep es (first + length (cells d)) (at + entry_count ps d))
      (class_stored d d.class refl own.0.0 own.0.1 first at m h.0 keeps.0)
      (all_stored es own.1 (first + length (cells d)) (at + entry_count ps d) (m + memory_count ps d) h.1 keeps.1)

  pub all_words : (whole : List (Stored × ℕ)) (es : List Decl)
      → Each (λ d. (declared_as ds d.name ≡ Some d) × (1 ≤ d.width)) es
      → (first at m : ℕ) → AllAt ps nodes list es first at m → AreKeeps ps keep es first
      → AreIn (all_memories ps keep es first at) whole
      → Each (λ d. d.class ≡ class.Variable → is_memory ps d ≡ true → (j : ℕ) (n : List ℕ)
      → slice_get (cells d) j ≡ Some n → HasWords whole n) es
  all_words whole [] own first at m h keeps inside = tt
  all_words whole (d ∷ es) own first at m h keeps inside =
      let rest : List (Stored × ℕ) = all_memories ps keep es (first + length (cells d)) (at + entry_count ps d) in (
        λ is e. has_words d own.0.0 is own.0.1 first at m h.0 (keeps.0 is) e whole
            (subst (λ (b : Bool). AreIn (if b then (stored keep d first, at) ∷ [] else []) whole) e
            (subst (λ c. AreIn (memories_in ps keep d c first at) whole) is
            (front_in (memories_in ps keep d d.class first at) rest whole inside))),
        all_words whole es own.1 (first + length (cells d)) (at + entry_count ps d) (m + memory_count ps d) h.1 keeps.1
            (back_in (memories_in ps keep d d.class first at) rest whole inside),
      )
