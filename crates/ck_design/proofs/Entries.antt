-- The number of a field's name in the map of a cycle, and maps that agree on declared names.
use Rattle.std.specs.Prelude.{◌≡◌, refl, ℕ, zero, suc, ◌<◌, ◌==◌, Bool, true, false, not, ◌&&◌, List, []}
use Rattle.std.specs.Prelude.{if◌then◌else◌}
use Rattle.std.specs.Prelude.{◌∷◌, ◌++◌, length, Option, Some, None, bytes_eq, codes, find, position, ℤ, pos, ◌+ℤ◌}
use Rattle.std.specs.Prelude.{◌-ℤ◌}
use Rattle.std.specs.Prelude.{int_le, is_none, nat_lt}
use Rattle.std.specs.List.{AllByRecursion, IsDistinct, position_or_len}
use Rattle.std.specs.Fmt.{signed_decimal}
use Rattle.std.proofs.Common.{ap, sym, ◌∙◌, arith, subst, true≢false, cond}
use Rattle.std.proofs.lemmas.Bool.Decides.{nat_tests}
use Rattle.std.proofs.lemmas.List.Sums.{position_or_len_is}
use Rattle.std.proofs.Math.ListN.{get_or}
use Rattle.std.proofs.lemmas.Option.{same_Some}
use Rattle.std.proofs.lemmas.Slice.Eq.{bytes_eq-Decides}
use Rattle.vl_size.specs.declared.decl.Decl.{Decl}
use Rattle.vl_size.specs.declared.decl.Class.{Class}
use Rattle.vl_size.specs.declared.decl.Class.TheVariants as class
use Rattle.vl_size.specs.Size.{Values}
use Rattle.vl_size.specs.Table.{span, word_name}
use Rattle.vl_mean.specs.Cells.{cells, cells_of, words_from}
use Rattle.vl_mean.specs.Parts.{Part, clocked, combinational, declares, equation, starts}
use Rattle.vl_mean.specs.Runs.{Agrees, AgreesAt, Each}
use Rattle.vl_mean.specs.Scopes.{is_clock_class}
use Rattle.wn_net.specs.declared.names.Names.{Names}
use Rattle.wn_net.specs.declared.names.NetName.{NetName}
use Rattle.wn_net.specs.declared.names.Place.{Place}
use Rattle.wn_net.specs.declared.names.Place.TheVariants as place
use Rattle.wn_net.specs.Value.{Given}
use Rattle.wn_net.specs.Net.{Netlist}
use Rattle.wn_net.specs.Names.{AreNamesOf, IsNameOf, IsPlaced, number_at}
use Rattle.vl_lower_spec.specs.Maps.{AreEntriesOf, as_vectors, is_split, listed, listed_in, listed_of, map_in, map_of}
use Rattle.vl_lower_spec.specs.Maps.{number_or, place_number}
use Rattle.rvfi_port.specs.declared.field.Field.{Field}
use Rattle.rvfi_port.specs.declared.field.Field.TheVariants as f
use Rattle.rvfi_port.specs.Fields.{field_name}
use Rattle.rvfi_port.specs.Outputs.{output_of}
use Rattle.ck_design.specs.Loaded.{IsDeclared}

-- ---- the words of a memory end with a bracket, and no field's name does

-- the last byte is no closing bracket
abbrev ends_plain : List ℕ → Bool
ends_plain [] = true
ends_plain (c ∷ []) = not (c == 93)
ends_plain (c ∷ d ∷ cs) = ends_plain (d ∷ cs)

bracketed : (text : List ℕ) → ends_plain (text ++ codes "]") ≡ false
bracketed [] = refl
bracketed (c ∷ []) = refl
bracketed (c ∷ d ∷ cs) = bracketed (d ∷ cs)

word_bracketed : (memory : List ℕ) (i : ℤ) → ends_plain (word_name memory i) ≡ false
word_bracketed memory i = bracketed (memory ++ codes "[" ++ signed_decimal i)

field_plain : (field : Field) → ends_plain (field_name field) ≡ true
field_plain f.Valid = refl
field_plain f.Order = refl
field_plain f.Insn = refl
field_plain f.Trap = refl
field_plain f.Halt = refl
field_plain f.Intr = refl
field_plain f.Rs1Addr = refl
field_plain f.Rs2Addr = refl
field_plain f.Rs1Rdata = refl
field_plain f.Rs2Rdata = refl
field_plain f.RdAddr = refl
field_plain f.RdWdata = refl
field_plain f.PcRdata = refl
field_plain f.PcWdata = refl
field_plain f.MemAddr = refl
field_plain f.MemRmask = refl
field_plain f.MemWmask = refl
field_plain f.MemRdata = refl
field_plain f.MemWdata = refl
field_plain f.ImemAddr = refl
field_plain f.ImemData = refl
field_plain f.DmemAddr = refl

-- ---- where a text stands among cells

false_at : (p : List ℕ → Bool) (xs : List (List ℕ)) (k : ℕ) → AllByRecursion (λ x. p x ≡ false) xs → k < length xs
    → p (get_or xs k []) ≡ false
false_at p [] k h less = absurd (omega (arith, less))
false_at p (x ∷ xs) zero h less = h.0
false_at p (x ∷ xs) (suc k) h less = false_at p xs k h.1 (omega (arith, less))

-- no text passes
none_there : (p : List ℕ → Bool) (xs : List (List ℕ)) → AllByRecursion (λ x. p x ≡ false) xs
    → position p xs ≡ None
none_there p xs h =
    let all : position_or_len p xs ≡ length xs =
    position_or_len_is p xs (length xs) [] (omega arith) (λ k less. false_at p xs k h less)
    (λ less. absurd (omega (arith, less))) in
    let none : nat_lt (length xs) (length xs) ≡ false = grind (arith, nat_tests) in
    ap (λ n. cond (nat_lt n (length xs)) (Some n) None) all
    ∙ ap (λ b. cond b (Some (length xs)) None) none

unlike : (text other : List ℕ) → (text ≡ other → ⊥) → bytes_eq text other ≡ false
unlike text other ne = by (bytes_eq text other) refl
  where
    by : (b : Bool) → bytes_eq text other ≡ b → bytes_eq text other ≡ false
    by true e = absurd (ne ((bytes_eq-Decides text other).0 e))
    by false e = e

no_word : (text memory : List ℕ) (n : ℕ) (up : Bool) (i : ℤ) → ends_plain text ≡ true
    → AllByRecursion (λ x. bytes_eq text x ≡ false) (words_from memory n up i)
no_word text memory zero up i h = tt
no_word text memory (suc n) up i h = (
  unlike text (word_name memory i) (λ e. true≢false (sym h ∙ ap ends_plain e ∙ word_bracketed memory i)),
  no_word text memory n up (if up then i +ℤ pos 1 else i -ℤ pos 1) h,
)

-- a text that isn't that of the entry, and no word of a memory, is none of its cells
not_among : (text other : List ℕ) (words : Option (ℤ × ℤ)) → ends_plain text ≡ true → bytes_eq text other ≡ false
    → position (bytes_eq text) (cells_of other words) ≡ None
not_among text other None h ne = none_there (bytes_eq text) (other ∷ []) (ne, tt)
not_among text other (Some b) h ne =
    none_there (bytes_eq text) (cells_of other (Some b))
    (no_word text other (span b.0 b.1) (int_le b.0 b.1) b.0 h)

same_text : (text : List ℕ) → bytes_eq text text ≡ true
same_text text = (bytes_eq-Decides text text).1 refl

first_there : (text other : List ℕ) → text ≡ other → position (bytes_eq text) (other ∷ []) ≡ Some 0
first_there text other e =
    let first : position_or_len (bytes_eq text) (other ∷ []) ≡ 0 =
    position_or_len_is (bytes_eq text) (other ∷ []) 0 [] (omega arith) (λ k less. absurd (omega (arith, less)))
    (λ less. (bytes_eq-Decides text other).1 e) in
    ap (λ n. cond (nat_lt n 1) (Some n) None) first

-- ---- the number of a field's name

both_left : (a b : Bool) → (a && b) ≡ true → a ≡ true
both_left true b e = refl
both_left false b e = e

both_right : (a b : Bool) → (a && b) ≡ true → b ≡ true
both_right true b e = e
both_right false b e = absurd (true≢false (sym e))

-- a node that is an output has no words
output_node : (net : Netlist) (g : Given) (width : ℕ) (output : Bool) (words : Option (ℤ × ℤ)) (p : Place)
    (text : List ℕ) (rest : ℕ) → IsPlaced net width output words p → output ≡ true
    → number_or (position (bytes_eq text) (cells_of text words)) (place_number net g p) rest ≡ number_at net g p
output_node net g width output words (place.Node id) text rest h is =
    ap (λ ws. number_or (position (bytes_eq text) (cells_of text ws)) (place_number net g (place.Node id)) rest) h.1
    ∙ ap (λ o. number_or o (place_number net g (place.Node id)) rest) (first_there text text refl)
output_node net g width output words (place.Mem m) text rest h is = absurd (true≢false (sym is ∙ h.2))

module _ (net : Netlist) (g : Given) (text : List ℕ) (plain : ends_plain text ≡ true) where
  abbrev wanted : NetName → Bool
  wanted n = n.output && bytes_eq n.text text

  -- what is found further behind has another text than this one
  behind : (x n : NetName) (xs : List NetName) → AllByRecursion (λ y. bytes_eq x.text y.text ≡ false) xs
      → find wanted xs ≡ Some n → bytes_eq text x.text ≡ false
  behind x n [] h e = absurd (true≢false (ap is_none e))
  behind x n (y ∷ ys) h e = by (wanted y) refl (behind x n ys h.1)
    where
      by : (b : Bool) → wanted y ≡ b → (find wanted ys ≡ Some n → bytes_eq text x.text ≡ false)
          → bytes_eq text x.text ≡ false
      by true t later =
          let is : y.text ≡ text = (bytes_eq-Decides y.text text).0 (both_right y.output (bytes_eq y.text text) t) in
          unlike text x.text (λ same. true≢false
          (sym ((bytes_eq-Decides x.text y.text).1 (sym same ∙ sym is)) ∙ h.0))
      by false t later = later (sym (ap (λ b. if b then Some y else find wanted ys) t) ∙ e)

  in_map : (n : NetName) (xs : List NetName) → AllByRecursion (IsNameOf net) xs
      → IsDistinct (λ (a b : NetName). bytes_eq a.text b.text) xs → find wanted xs ≡ Some n
      → map_in net g xs text ≡ number_at net g n.place
  unfolding IsDistinct
  in_map n [] own differ e = absurd (true≢false (ap is_none e))
  in_map n (x ∷ xs) own differ e = by (wanted x) refl (in_map n xs own.1 differ.1)
    where
      by : (b : Bool) → wanted x ≡ b
          → (find wanted xs ≡ Some n → map_in net g xs text ≡ number_at net g n.place)
          → map_in net g (x ∷ xs) text ≡ number_at net g n.place
      by true t behind_it =
          let is : x.text ≡ text = (bytes_eq-Decides x.text text).0 (both_right x.output (bytes_eq x.text text) t) in
          let same : x ≡ n = same_Some x n (sym (ap (λ b. if b then Some x else find wanted xs) t) ∙ e) in
          ap (λ s. number_or (position (bytes_eq text) (cells_of s x.words)) (place_number net g x.place)
          (map_in net g xs text)) is
          ∙ output_node net g x.width x.output x.words x.place text (map_in net g xs text) own.0
          (both_left x.output (bytes_eq x.text text) t)
          ∙ ap (λ (m : NetName). number_at net g m.place) same
      by false t behind_it =
          let later = sym (ap (λ b. if b then Some x else find wanted xs) t) ∙ e in
          ap (λ o. number_or o (place_number net g x.place) (map_in net g xs text))
          (not_among text x.text x.words plain (behind x n xs differ.0 later))
          ∙ behind_it later

pub field_number : (net : Netlist) (names : Names) (g : Given) (field : Field) (n : NetName) → AreNamesOf net names
    → output_of names field ≡ Some n → map_of net names g (field_name field) ≡ number_at net g n.place
field_number net names g field n own e =
    in_map net g (field_name field) (field_plain field) n names.list own.placed own.differ e

-- ---- declared names

-- maps have one number for each cell
abbrev pub Alike : Values → Values → Decl → Type 0
Alike u v d = Each (λ text. u text ≡ v text) (cells d)

module _ (u v : Values) where
  alike_at : (d : Decl) (c : Class) → AgreesAt u v d c → is_clock_class c ≡ false → Alike u v d
  alike_at d class.Clock h e = absurd (true≢false e)
  alike_at d class.Input h e = h
  alike_at d class.Reset h e = h
  alike_at d class.EachCycle h e = h
  alike_at d class.Once h e = h
  alike_at d class.Net h e = h
  alike_at d class.Variable h e = h

  alike_both : (ds es : List Decl) → AllByRecursion (Alike u v) ds → AllByRecursion (Alike u v) es
      → AllByRecursion (Alike u v) (ds ++ es)
  alike_both [] es h g = g
  alike_both (d ∷ ds) es h g = (h.0, alike_both ds es h.1 g)

  -- the words of a memory as names by themselves
  alike_words : (d : Decl) (texts : List (List ℕ)) → Each (λ text. u text ≡ v text) texts
      → AllByRecursion (Alike u v) (as_vectors d texts)
  alike_words d [] h = tt
  alike_words d (text ∷ texts) h = ((h.0, tt), alike_words d texts h.1)

  alike_listed : (d : Decl) (b : Bool) → Alike u v d
      → AllByRecursion (Alike u v) (if b then as_vectors d (cells d) else d ∷ [])
  alike_listed d true h = alike_words d (cells d) h
  alike_listed d false h = (h, tt)

  alike_cons : (whole : List Part) (d : Decl) (ds : List Decl) (b : Bool) → is_clock_class d.class ≡ b
      → AgreesAt u v d d.class → AllByRecursion (Alike u v) ds
      → AllByRecursion (Alike u v) (if b then ds else listed_of whole d ++ ds)
  alike_cons whole d ds true e h rest = rest
  alike_cons whole d ds false e h rest =
      alike_both (listed_of whole d) ds (alike_listed d (is_split whole d) (alike_at d d.class h e)) rest

  listed_alike : (whole ps : List Part) → Agrees ps u v → AllByRecursion (Alike u v) (listed_in whole ps)
  listed_alike whole [] h = tt
  listed_alike whole (declares d ∷ ps) h =
      alike_cons whole d (listed_in whole ps) (is_clock_class d.class) refl h.0 (listed_alike whole ps h.1)
  listed_alike whole (equation ts l ss e ∷ ps) h = listed_alike whole ps h
  listed_alike whole (combinational ss s ∷ ps) h = listed_alike whole ps h
  listed_alike whole (clocked ss s ∷ ps) h = listed_alike whole ps h
  listed_alike whole (starts ss l e ∷ ps) h = listed_alike whole ps h

  no_words : (net : Netlist) (width : ℕ) (output : Bool) (words : Option (ℤ × ℤ)) (p : Place)
      → IsPlaced net width output words p → output ≡ true → words ≡ None
  no_words net width output words (place.Node id) h is = h.1
  no_words net width output words (place.Mem m) h is = absurd (true≢false (sym is ∙ h.2))

  entry_alike : (net : Netlist) (text : List ℕ) (n : NetName) (ds : List Decl) (xs : List NetName)
      → AreEntriesOf ds xs → AllByRecursion (Alike u v) ds → AllByRecursion (IsNameOf net) xs
      → find (λ x. x.output && bytes_eq x.text text) xs ≡ Some n → u text ≡ v text
  entry_alike net text n [] [] es h own e = absurd (true≢false (ap is_none e))
  entry_alike net text n [] (x ∷ xs) es h own e = absurd es
  entry_alike net text n (d ∷ ds) [] es h own e = absurd es
  entry_alike net text n (d ∷ ds) (x ∷ xs) es h own e =
      by (x.output && bytes_eq x.text text) refl (entry_alike net text n ds xs es.1 h.1 own.1)
    where
      by : (b : Bool) → (x.output && bytes_eq x.text text) ≡ b
          → (find (λ y. y.output && bytes_eq y.text text) xs ≡ Some n → u text ≡ v text) → u text ≡ v text
      by true t later =
          let is : x.text ≡ text = (bytes_eq-Decides x.text text).0 (both_right x.output (bytes_eq x.text text) t) in
          let none : d.words ≡ None = sym es.0.words
          ∙ no_words net x.width x.output x.words x.place own.0 (both_left x.output (bytes_eq x.text text) t) in
          let P : Option (ℤ × ℤ) → Type 0 = λ ws. Each (λ t. u t ≡ v t) (cells_of d.name ws) in
          let at : d.name ≡ text = sym es.0.text ∙ is in
          sym (ap u at) ∙ (subst P none h.0).0 ∙ ap v at
      by false t later =
          later (sym (ap (λ b. if b then Some x else find (λ y. y.output && bytes_eq y.text text) xs) t) ∙ e)

pub field_declared : (ps : List Part) (net : Netlist) (names : Names) (field : Field) (n : NetName)
    → AreNamesOf net names → AreEntriesOf (listed ps) names.list → output_of names field ≡ Some n
    → IsDeclared ps field
field_declared ps net names field n own es e u v agree =
    entry_alike u v net (field_name field) n (listed ps) names.list es (listed_alike u v ps ps agree) own.placed e
