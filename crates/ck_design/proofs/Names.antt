-- The names of a net's trace are those of its design, and so are their texts.
use Rattle.std.specs.Prelude.{◌≡◌, refl, ℕ, zero, suc, ◌+◌, List, [], ◌∷◌, ◌++◌, map, Bool, true, false, bytes_eq}
use Rattle.std.specs.Prelude.{Option, Some, None, ℤ, pos, ◌+ℤ◌, ◌-ℤ◌, int_le, if◌then◌else◌}
use Rattle.std.specs.List.{AllByRecursion, IsDistinct, flat_map}
use Rattle.std.proofs.Common.{ap, sym, ◌∙◌, arith, append-nil, subst}
use Rattle.std.proofs.lemmas.Grind.{flat_map-append}
use Rattle.std.proofs.lemmas.Int.{ints}
use Rattle.std.proofs.lemmas.List.{map-append}
use Rattle.fv_text.specs.declared.trace.TraceName.{TraceName}
use Rattle.vl_size.specs.declared.decl.Decl.{Decl}
use Rattle.vl_size.specs.Size.{Values}
use Rattle.vl_size.specs.Table as size
use Rattle.vl_size.specs.Table.{span}
use Rattle.vl_mean.specs.Cells.{cells, cells_of, words_from}
use Rattle.vl_mean.specs.Parts.{Part, declares, equation, combinational, clocked, starts}
use Rattle.vl_mean.specs.Scopes.{is_clock_class}
use Rattle.wn_net.specs.declared.names.NetName.{NetName}
use Rattle.wn_net.specs.declared.names.Place.{Place}
use Rattle.wn_net.specs.declared.names.Place.TheVariants as place
use Rattle.wn_net.specs.Net.{Netlist}
use Rattle.wn_net.specs.Names.{IsNameOf, IsPlaced}
use Rattle.vl_lower_spec.specs.Maps.{AreEntriesOf, IsEntryOf, as_vectors, is_split, listed, listed_in, listed_of}
use Rattle.tr_replay.specs.Traces.{names_by, names_of, word_names}
use Rattle.ck_design.specs.Traces.{HaveOwnNames, numbers_shown, shown, shown_by}
use Rattle.ck_design.proofs.Texts.{Different, Lacks}

-- a text with a width
abbrev pub named : ℕ → List ℕ → TraceName
named width text = record { text = text; width = width }

-- ---- words of memories

place_in : Bool → ℤ → ℕ → ℤ
place_in up left place = if up then left +ℤ pos place else left -ℤ pos place

next_place : (up : Bool) (left i : ℤ) (place : ℕ) → i ≡ place_in up left place
    → (if up then i +ℤ pos 1 else i -ℤ pos 1) ≡ place_in up left (place + 1)
unfolding place_in
next_place true left i place e = omega (arith, ints)
next_place false left i place e = omega (arith, ints)

first_place : (up : Bool) (left : ℤ) → left ≡ place_in up left 0
unfolding place_in
first_place true left = omega (arith, ints)
first_place false left = omega (arith, ints)

words_named : (text : List ℕ) (width : ℕ) (range : ℤ × ℤ) (place count : ℕ) (i : ℤ)
    → i ≡ place_in (int_le range.0 range.1) range.0 place
    → word_names text width range place count
    ≡ map (named width) (words_from text count (int_le range.0 range.1) i)
unfolding place_in
words_named text width range place zero i e = refl
words_named text width range place (suc count) i e =
    let up = int_le range.0 range.1 in
    let rest = words_named text width range (place + 1) count (if up then i +ℤ pos 1 else i -ℤ pos 1)
    (next_place up range.0 i place e) in
    λ k. named width (size.word_name text (sym e k)) ∷ rest k

-- ---- an entry

names_is : (net : Netlist) (n : NetName) (output : Bool) (words : Option (ℤ × ℤ)) (p : Place)
    → IsPlaced net n.width output words p → names_by net n p words ≡ map (named n.width) (cells_of n.text words)
names_is net n output words (place.Node id) h = ap (λ w. map (named n.width) (cells_of n.text w)) (sym h.1)
names_is net n output None (place.Mem m) h = absurd h.3
names_is net n output (Some range) (place.Mem m) h =
    ap (word_names n.text n.width range 0) (sym h.3)
    ∙ words_named n.text n.width range 0 (span range.0 range.1) range.0 (first_place (int_le range.0 range.1) range.0)

entry_names : (net : Netlist) (d : Decl) (n : NetName) → IsEntryOf d n → IsNameOf net n → names_of net n ≡ shown_by d
entry_names net d n e h =
    names_is net n n.output n.words n.place h
    ∙ (λ i. map (named (e.width i)) (cells_of (e.text i) (e.words i)))

-- the texts of an entry
abbrev pub texts_of : NetName → List (List ℕ)
texts_of n = cells_of n.text n.words

abbrev pub texts : List NetName → List (List ℕ)
texts xs = flat_map texts_of xs

-- ---- all entries

entries_shown : (net : Netlist) (ds : List Decl) (xs : List NetName) → AreEntriesOf ds xs
    → AllByRecursion (IsNameOf net) xs → flat_map (names_of net) xs ≡ flat_map shown_by ds
entries_shown net [] [] es h = refl
entries_shown net [] (x ∷ xs) es h = absurd es
entries_shown net (d ∷ ds) [] es h = absurd es
entries_shown net (d ∷ ds) (x ∷ xs) es h =
    let here = entry_names net d x es.0 h.0 in
    let more = entries_shown net ds xs es.1 h.1 in
    λ i. here i ++ more i

vectors_shown : (d : Decl) (ts : List (List ℕ)) → flat_map shown_by (as_vectors d ts) ≡ map (named d.width) ts
vectors_shown d [] = refl
vectors_shown d (t ∷ ts) = ap (λ ns. named d.width t ∷ ns) (vectors_shown d ts)

one_shown : (d : Decl) (b : Bool) → flat_map shown_by (if b then as_vectors d (cells d) else d ∷ []) ≡ shown_by d
one_shown d true = vectors_shown d (cells d)
one_shown d false = append-nil (shown_by d)

listed_shown : (whole ps : List Part) → flat_map shown_by (listed_in whole ps) ≡ shown ps
listed_shown whole [] = refl
listed_shown whole (declares d ∷ ps) = by (is_clock_class d.class) (listed_shown whole ps)
  where
    by : (b : Bool) → flat_map shown_by (listed_in whole ps) ≡ shown ps
        → flat_map shown_by (if b then listed_in whole ps else listed_of whole d ++ listed_in whole ps)
        ≡ (if b then shown ps else shown_by d ++ shown ps)
    by true e = e
    by false e =
        flat_map-append shown_by (listed_of whole d) (listed_in whole ps)
        ∙ (λ i. one_shown d (is_split whole d) i ++ e i)
listed_shown whole (equation ts l ss e ∷ ps) = listed_shown whole ps
listed_shown whole (combinational ss s ∷ ps) = listed_shown whole ps
listed_shown whole (clocked ss s ∷ ps) = listed_shown whole ps
listed_shown whole (starts ss l e ∷ ps) = listed_shown whole ps

pub names_shown : (ps : List Part) (net : Netlist) (xs : List NetName) → AreEntriesOf (listed ps) xs
    → AllByRecursion (IsNameOf net) xs → flat_map (names_of net) xs ≡ shown ps
names_shown ps net xs es h = entries_shown net (listed ps) xs es h ∙ listed_shown ps ps

-- ---- their texts

unnamed : (width : ℕ) (ts : List (List ℕ)) → map (λ n. n.text) (map (named width) ts) ≡ ts
unnamed width [] = refl
unnamed width (t ∷ ts) = ap (λ us. t ∷ us) (unnamed width ts)

entries_texts : (ds : List Decl) (xs : List NetName) → AreEntriesOf ds xs
    → map (λ n. n.text) (flat_map shown_by ds) ≡ texts xs
entries_texts [] [] es = refl
entries_texts [] (x ∷ xs) es = absurd es
entries_texts (d ∷ ds) [] es = absurd es
entries_texts (d ∷ ds) (x ∷ xs) es =
    let e = es.0 in
    let here : map (λ n. n.text) (shown_by d) ≡ texts_of x =
    unnamed d.width (cells d) ∙ (λ i. cells_of (sym e.text i) (sym e.words i)) in
    let more = entries_texts ds xs es.1 in
    map-append (λ n. n.text) (shown_by d) (flat_map shown_by ds) ∙ (λ i. here i ++ more i)

texts_shown : (ps : List Part) (xs : List NetName) → AreEntriesOf (listed ps) xs
    → map (λ n. n.text) (shown ps) ≡ texts xs
texts_shown ps xs es = ap (map (λ n. n.text)) (sym (listed_shown ps ps)) ∙ entries_texts (listed ps) xs es

by_texts : (v : Values) (ns : List TraceName) → map (λ n. v n.text) ns ≡ map v (map (λ n. n.text) ns)
by_texts v [] = refl
by_texts v (n ∷ ns) = ap (λ xs. v n.text ∷ xs) (by_texts v ns)

pub numbers_by_texts : (ps : List Part) (xs : List NetName) (v : Values) → AreEntriesOf (listed ps) xs
    → numbers_shown ps v ≡ map v (texts xs)
numbers_by_texts ps xs v es = by_texts v (shown ps) ∙ ap (map v) (texts_shown ps xs es)

-- ---- no two have one text

lacks_names : (t : List ℕ) (ns : List TraceName) → AllByRecursion (λ n. bytes_eq t n.text ≡ false) ns
    → Lacks (map (λ n. n.text) ns) t
lacks_names t [] h = tt
lacks_names t (n ∷ ns) h = (h.0, lacks_names t ns h.1)

different_names : (ns : List TraceName) → IsDistinct (λ (a b : TraceName). bytes_eq a.text b.text) ns
    → Different (map (λ n. n.text) ns)
unfolding IsDistinct
different_names [] h = tt
different_names (n ∷ ns) h = (lacks_names n.text ns h.0, different_names ns h.1)

pub texts_differ : (ps : List Part) (xs : List NetName) → AreEntriesOf (listed ps) xs → HaveOwnNames ps
    → Different (texts xs)
texts_differ ps xs es h = subst Different (texts_shown ps xs es) (different_names (shown ps) h)
