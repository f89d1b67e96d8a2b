-- No two entries have one text.
use Rattle.std.specs.Prelude.{◌≡◌, ℕ, zero, suc, ◌+◌, List, [], ◌∷◌, ◌++◌, length, Bool, true, false, All}
use Rattle.std.specs.Prelude.{Some, bytes_eq, is_none, if◌then◌else◌, slice_get}
use Rattle.std.specs.List.{IsDistinct}
use Rattle.std.proofs.Common.{ap, sym, ◌∙◌, arith, subst, true≢false, ◌⊎◌, inl, inr}
use Rattle.std.proofs.lemmas.List.Elements.{All-head, All-tail}
use Rattle.std.proofs.lemmas.Option.{same_Some}
use Rattle.std.proofs.lemmas.Slice.Eq.{bytes_eq-Decides}
use Rattle.vl_size.specs.declared.decl.Decl.{Decl}
use Rattle.vl_size.specs.Table.{AreApart, AreDifferent, declared_as}
use Rattle.vl_mean.specs.Cells.{cells, is_cell}
use Rattle.vl_mean.specs.FlatLaw.{IsKept}
use Rattle.vl_mean.specs.Parts.{Part}
use Rattle.vl_mean.specs.Runs.{Each}
use Rattle.vl_mean.specs.Scopes.{is_clock_class}
use Rattle.vl_flow_spec.proofs.Bools.{none_of}
use Rattle.vl_flow_cells.proofs.Lists.{contained_at, one_place}
use Rattle.vl_flow_cells.proofs.Numbers.{stands_at}
use Rattle.vl_flow_cells.proofs.Words.{own_place}
use Rattle.wn_net.specs.declared.names.NetName.{NetName}
use Rattle.vl_lower_cell_laws.specs.Entries.{all_entries, entries_of, is_memory, memories_of, memory_entry}
use Rattle.vl_lower_cell_laws.specs.Entries.{node_entries}
use Rattle.vl_lower_cell_laws.specs.Listing.{Keeping}
use Rattle.vl_lower_cell_laws.proofs.ShownLists.{all_of_places, distinct_both}
use Rattle.vl_lower_cell_laws.proofs.Entries.{AtCell, AtMemory, entries_are, of_node}
use Rattle.vl_lower_cell_laws.proofs.Owners.{Belongs, one_owner}

abbrev pub same_text : NetName → NetName → Bool
same_text a b = bytes_eq a.text b.text

apart_texts : (a b : NetName) → (a.text ≡ b.text → ⊥) → same_text a b ≡ false
apart_texts a b f =
    none_of (bytes_eq a.text b.text) (λ t. absurd (f ((bytes_eq-Decides a.text b.text).0 t)))

module _ (ds : List Decl) (apart : AreApart ds) (ps : List Part) (nodes : List ℕ) (keep : Keeping) where
  -- ---- one name's

  nodes_differ : (d : Decl) (first : ℕ) (texts : List (List ℕ))
      → ((k l : ℕ) (n : List ℕ) → slice_get texts k ≡ Some n → slice_get texts l ≡ Some n → k ≡ l)
      → IsDistinct same_text (node_entries d nodes first texts)
  unfolding IsDistinct
  nodes_differ d first [] h = tt
  nodes_differ d first (t ∷ ts) h = (
    all_of_places (λ y. bytes_eq t y.text ≡ false) (node_entries d nodes (first + 1) ts) (λ j y e.
        let r = of_node ps nodes d (first + 1) ts j y e in
        none_of (bytes_eq t y.text) (λ same.
        let is : t ≡ r.0 = (bytes_eq-Decides t y.text).0 same ∙ ap (λ z. z.text) r.2 in
        let none : zero ≡ suc j = h zero (suc j) r.0 (ap Some is) r.1 in
        absurd (omega (arith, none)))),
    nodes_differ d (first + 1) ts (λ k l n e f.
        let more : suc k ≡ suc l = h (suc k) (suc l) n e f in omega (arith, more)),
  )

  own_differ : (d : Decl) → IsKept d → (first m : ℕ) → IsDistinct same_text (entries_of ps d nodes first m)
  unfolding IsDistinct
  own_differ d kept first m = by (is_memory ps d)
    where
      by : (b : Bool)
          → IsDistinct same_text (if b then memory_entry d m ∷ [] else node_entries d nodes first (cells d))
      by true = (tt, tt)
      by false = nodes_differ d first (cells d) (own_place d kept)

  own_text : (d : Decl) → declared_as ds d.name ≡ Some d → (first m j : ℕ) (x : NetName)
      → slice_get (entries_of ps d nodes first m) j ≡ Some x → Belongs ds apart d x.text
  own_text d own first m j x e = record { declared = own; is = by (is_memory ps d) e }
    where
      one : (i : ℕ) → slice_get (memory_entry d m ∷ []) i ≡ Some x → x.text ≡ d.name
      one zero f = ap (λ y. y.text) (sym (same_Some (memory_entry d m) x f))
      one (suc i) f = absurd (true≢false (ap is_none f))

      by : (b : Bool)
          → slice_get (if b then memory_entry d m ∷ [] else node_entries d nodes first (cells d)) j ≡ Some x
          → (is_cell d.name d.words x.text ≡ true) ⊎ (x.text ≡ d.name)
      by true f = inr (one j f)
      by false f =
          let r = of_node ps nodes d first (cells d) j x f in
          inl (contained_at (cells d) j x.text (r.1 ∙ ap (λ y. Some y.text) (sym r.2)))

  -- ---- all

  -- the declaration that a later entry belongs to
  later_text : (es : List Decl) → All IsKept es → Each (λ d. declared_as ds d.name ≡ Some d) es → (first m j : ℕ)
      → (x : NetName) → slice_get (all_entries ps es nodes first m) j ≡ Some x
      → (i : ℕ) × (e : Decl) × (slice_get es i ≡ Some e) × Belongs ds apart e x.text
  later_text es kept own first m j x h = by (entries_are ps nodes keep es kept first 0 m j x h)
    where
      own_at : (zs : List Decl) → Each (λ d. declared_as ds d.name ≡ Some d) zs → (i : ℕ) (e : Decl)
          → slice_get zs i ≡ Some e → declared_as ds e.name ≡ Some e
      own_at [] g i e f = absurd (true≢false (ap is_none f))
      own_at (z ∷ zs) g zero e f = subst (λ y. declared_as ds y.name ≡ Some y) (same_Some z e f) g.0
      own_at (z ∷ zs) g (suc i) e f = own_at zs g.1 i e f

      by : AtCell ps nodes es first x ⊎ AtMemory ps nodes keep es first 0 m x
          → (i : ℕ) × (e : Decl) × (slice_get es i ≡ Some e) × Belongs ds apart e x.text
      by (inl g) =
          let s = stands_at es g.cell x.text g.named in (
            s.place,
            s.decl,
            s.at,
            record {
              declared = own_at es own s.place s.decl s.at;
              is = inl (contained_at (cells s.decl) s.within x.text s.cell);
            },
          )
      by (inr g) = (
        g.index,
        g.decl,
        g.there,
        record { declared = own_at es own g.index g.decl g.there; is = inr (ap (λ y. y.text) g.is) },
      )

  pub all_differ : (es : List Decl) → All IsKept es → Each (λ d. declared_as ds d.name ≡ Some d) es → AreDifferent es
      → (first m : ℕ) → IsDistinct same_text (all_entries ps es nodes first m)
  unfolding IsDistinct
  all_differ [] kept own different first m = tt
  all_differ (d ∷ es) kept own different first m =
      by (is_clock_class d.class)
      (λ k. all_differ es (All-tail IsKept d es kept) own.1 different.1 (first + length (cells d)) k)
    where
      by : (b : Bool) → ((k : ℕ) → IsDistinct same_text (all_entries ps es nodes (first + length (cells d)) k))
          → IsDistinct same_text (if b then all_entries ps es nodes (first + length (cells d)) m
          else entries_of ps d nodes first m
          ++ all_entries ps es nodes (first + length (cells d)) (m + memories_of ps d))
      by true f = f m
      by false f =
          distinct_both same_text (entries_of ps d nodes first m)
          (all_entries ps es nodes (first + length (cells d)) (m + memories_of ps d))
          (own_differ d (All-head IsKept d es kept) first m) (f (m + memories_of ps d)) (λ i j x y a b.
          let here = own_text d own.0 first m i x a in
          let there =
          later_text es (All-tail IsKept d es kept) own.1 (first + length (cells d)) (m + memories_of ps d) j y b in
          apart_texts x y (λ same.
          let is : d ≡ there.1 =
          one_owner ds apart d there.1 y.text
          (subst (λ t. Belongs ds apart d t) same here) there.3 in
          let none : zero ≡ suc there.0 =
          one_place (d ∷ es) different zero (suc there.0) there.1 (ap Some is) there.2 in
          absurd (omega (arith, none))))
