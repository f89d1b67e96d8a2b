-- What a run begins with: values at first are what registers and memories begin with.
use Rattle.std.specs.Prelude.{◌≡◌, refl, ℕ, zero, suc, ◌+◌, ◌<◌, ◌^◌, List, [], ◌∷◌, ◌++◌, ◌⊎◌, All, Bool, true, false}
use Rattle.std.specs.Prelude.{◌||◌, not, length, map, bytes_eq, if◌then◌else◌, is_none, Option, Some, None, slice_get}
use Rattle.std.specs.Prelude.{slice_index}
use Rattle.std.proofs.Common.{ap, sym, ◌∙◌, arith, inl, inr, subst, true≢false}
use Rattle.std.proofs.lemmas.List.Elements.{All-head, All-tail}
use Rattle.std.proofs.lemmas.Nat.{pow_pos}
use Rattle.std.proofs.lemmas.Nat.Bits.{same_from_bits_below}
use Rattle.std.proofs.lemmas.Option.{same_Some}
use Rattle.std.proofs.lemmas.Slice.Eq.{bytes_eq-Decides}
use Rattle.vl_tree.specs.Expr.{number}
use Rattle.vl_size.specs.declared.decl.Class.TheVariants as class
use Rattle.vl_size.specs.declared.decl.Decl.{Decl}
use Rattle.vl_size.specs.Size.{Values}
use Rattle.vl_size.specs.Table.{AreApart, AreDifferent, IsShaped}
use Rattle.vl_mean.specs.declared.driver.Driver.{Driver}
use Rattle.vl_mean.specs.declared.driver.DriverKind.{DriverKind}
use Rattle.vl_mean.specs.declared.driver.DriverKind.TheVariants as k
use Rattle.vl_mean.specs.declared.driver.Start.{Start}
use Rattle.vl_mean.specs.Cells.{cells, contains_name}
use Rattle.vl_mean.specs.Execution.{assigned}
use Rattle.vl_mean.specs.FlatLaw.{IsAssigned, IsLawful, flat_scopes, is_variable}
use Rattle.vl_mean.specs.FlatParts.{driver_part, parts_of}
use Rattle.vl_mean.specs.Constants.{number_of}
use Rattle.vl_mean.specs.Parts.{Part, clocked, combinational, declares, equation, here, starts}
use Rattle.vl_mean.specs.Runs.{Begins, Each, EachBelow, Init, OnlyIf, PartBegins, initial_writes, is_driven, is_spot}
use Rattle.vl_mean.specs.Runs.{last_value}
use Rattle.vl_mean.specs.Runs.{later_or}
use Rattle.vl_mean.specs.Scopes.{is_clock_class, no_values}
use Rattle.vl_mean.specs.Targets.{Write, bit_of}
use Rattle.vl_flow_spec.specs.Reads.{AreInRange, IsCellOf}
use Rattle.vl_flow_spec.proofs.Bools.{or_case, or_left, or_right}
use Rattle.vl_flow_spec.proofs.Cells.{each_contained, each_of_contained}
use Rattle.vl_flow_spec.proofs.Execs.{assigned_to, variable_counted}
use Rattle.vl_flow_spec.proofs.Targets.{Marks, marks}
use Rattle.vl_flow_spec.proofs.Writes.{writes_to}
use Rattle.vl_mean_flat.proofs.EachOf.{both, front}
use Rattle.vl_flow_spec.specs.Refusals.{HasNoRefusal}
use Rattle.vl_flow_spec.specs.Sequence.{IsSequence}
use Rattle.vl_flow_spec.proofs.Changed.{IsBitOfKind, target_changed}
use Rattle.vl_flow_spec.proofs.Elements.{decl_parts, driver_parts, each_below_at, each_below_of, each_declared_as}
use Rattle.vl_flow_spec.proofs.Elements.{each_mapped}
use Rattle.vl_flow_spec.proofs.Elements.{start_parts}
use Rattle.vl_flow_spec.proofs.Held as held
use Rattle.vl_lower_spec.specs.Evaluations.{IsStart}
use Rattle.vl_lower_spec.specs.Maps.{cells_named, spot_number, state_of, text_of}
use Rattle.wn_net.specs.declared.names.Names.{Names}
use Rattle.wn_net.specs.declared.names.Spot.{Spot}
use Rattle.wn_net.specs.declared.parts.Init.{Init as Beginning}
use Rattle.wn_net.specs.declared.parts.Init.TheVariants as init
use Rattle.wn_net.specs.declared.parts.Mem.{Mem}
use Rattle.wn_net.specs.declared.parts.Reg.{Reg}
use Rattle.wn_net.specs.Net.{Netlist}
use Rattle.wn_net.specs.Given.{AreMemsOf}
use Rattle.wn_net.specs.Value.{words_at}
use Rattle.wn_run.specs.Runs.{Choices, AreChoicesOf, mems_from, regs_from, start_number, words_from}
use Rattle.vl_lower_spec.proofs.Agreeing as agreeing
use Rattle.vl_lower_spec.proofs.Kept as kept
use Rattle.vl_lower_spec.specs.Sources.{AreEach, AreSources, BeginsAs, IsAtSpot, IsMemOf, IsRegOf, IsWordOf}
use Rattle.vl_lower_spec.proofs.Bits.{gathered_at, gathered_is}
use Rattle.vl_lower_spec.proofs.Fits.{fits}
use Rattle.vl_lower_spec.proofs.Free as free
use Rattle.vl_lower_spec.proofs.Pairs.{first_of, index_map}

-- ---- values at first are of variables

last_to : (ws : List Write) (n : List ℕ) (i y : ℕ) → last_value ws n i ≡ Some y → writes_to ws n i ≡ true
last_to [] n i y e = absurd (true≢false (ap is_none e))
last_to (w ∷ ws) n i y e = by (is_spot w n i) refl (last_value ws n i) refl (last_to ws n i)
  where
    by : (b : Bool) → is_spot w n i ≡ b → (o : Option ℕ) → last_value ws n i ≡ o
        → ((z : ℕ) → last_value ws n i ≡ Some z → writes_to ws n i ≡ true) → (is_spot w n i || writes_to ws n i) ≡ true
    by true t o f h = or_left (is_spot w n i) (writes_to ws n i) t
    by false t (Some z) f h = or_right (is_spot w n i) (writes_to ws n i) (h z f)
    by false t None f h =
        absurd (true≢false (ap is_none (sym (λ j. later_or (f j) (if t j then Some w.value else None)) ∙ e)))

writes_back : (ws us : List Write) (n : List ℕ) (i : ℕ) → writes_to (ws ++ us) n i ≡ true
    → (writes_to ws n i ≡ true) ⊎ (writes_to us n i ≡ true)
writes_back [] us n i h = inr h
writes_back (w ∷ ws) us n i h =
    or_case (is_spot w n i) (writes_to (ws ++ us) n i)
    (λ t. inl (or_left (is_spot w n i) (writes_to ws n i) t)) (λ t. by (writes_back ws us n i t)) h
  where
    by : (writes_to ws n i ≡ true) ⊎ (writes_to us n i ≡ true)
        → (writes_to (w ∷ ws) n i ≡ true) ⊎ (writes_to us n i ≡ true)
    by (inl t) = inl (or_right (is_spot w n i) (writes_to ws n i) t)
    by (inr t) = inr t

-- what each part with values at first says of them, all say
module _ (X : Type 0) (n : List ℕ) (i : ℕ) where
  abbrev SaysOf : Part → Type 0
  SaysOf (starts ss l e) = writes_to (assigned ss l ss e no_values) n i ≡ true → X
  SaysOf (declares d) = Unit {0}
  SaysOf (equation ts l ss e) = Unit {0}
  SaysOf (combinational ss z) = Unit {0}
  SaysOf (clocked ss z) = Unit {0}

  written_at : (qs : List Part) → Each SaysOf qs → writes_to (initial_writes qs) n i ≡ true → X
  written_at [] h t = absurd (true≢false (sym t))
  written_at (declares d ∷ qs) h t = written_at qs h.1 t
  written_at (equation ts l ss e ∷ qs) h t = written_at qs h.1 t
  written_at (combinational ss z ∷ qs) h t = written_at qs h.1 t
  written_at (clocked ss z ∷ qs) h t = written_at qs h.1 t
  written_at (starts ss l e ∷ qs) h t =
      by (writes_back (assigned ss l ss e no_values) (initial_writes qs) n i t) (written_at qs h.1)
    where
      by : (writes_to (assigned ss l ss e no_values) n i ≡ true) ⊎ (writes_to (initial_writes qs) n i ≡ true)
          → (writes_to (initial_writes qs) n i ≡ true → X) → X
      by (inl f) rest = h.0 f
      by (inr f) rest = rest f

  no_decl : (ds : List Decl) → Each SaysOf (decl_parts ds)
  no_decl [] = tt
  no_decl (d ∷ ds) = (tt, no_decl ds)

  no_driver : (ds : List Decl) (xs : List Driver) → Each SaysOf (driver_parts (flat_scopes ds) xs)
  no_driver ds [] = tt
  no_driver ds (x ∷ xs) = (by x.what, no_driver ds xs)
    where
      by : (y : DriverKind) → SaysOf (driver_part (flat_scopes ds) y)
      by (k.Assign l e) = tt
      by (k.Comb z) = tt
      by (k.Clocked z) = tt

-- ---- numbers of lists

none_more : (i : ℕ) → i + 0 ≡ i
none_more i = omega arith

contained : (ns : List (List ℕ)) (j : ℕ) (n : List ℕ) → slice_get ns j ≡ Some n → contains_name ns n ≡ true
contained [] j n e = absurd (true≢false (ap is_none e))
contained (m ∷ ns) zero n e =
    or_left (bytes_eq n m) (contains_name ns n) ((bytes_eq-Decides n m).1 (sym (same_Some m n e)))
contained (m ∷ ns) (suc j) n e = or_right (bytes_eq n m) (contains_name ns n) (contained ns j n e)

words_index : (mems : List (List ℕ)) (j : ℕ) (ws : List ℕ) → slice_get mems j ≡ Some ws → words_at mems j ≡ ws
words_index [] j ws e = absurd (true≢false (ap is_none e))
words_index (m ∷ mems) zero ws e = same_Some m ws e
words_index (m ∷ mems) (suc j) ws e = words_index mems j ws e

map_get : {A B : Type 0} (f : A → B) (xs : List A) (j : ℕ) (x : A) → slice_get xs j ≡ Some x
    → slice_get (map f xs) j ≡ Some (f x)
map_get f [] j x e = absurd (true≢false (ap is_none e))
map_get f (y ∷ ys) zero x e = ap (λ z. Some (f z)) (same_Some y x e)
map_get f (y ∷ ys) (suc j) x e = map_get f ys j x e

get_there : {A : Type 0} (xs : List A) (j : ℕ) → j < length xs → (x : A) × (slice_get xs j ≡ Some x)
get_there [] j less = absurd (omega (arith, less))
get_there (x ∷ xs) zero less = (x, refl)
get_there (x ∷ xs) (suc j) less = get_there xs j (omega (arith, less))

get_less : {A : Type 0} (xs : List A) (j : ℕ) (x : A) → slice_get xs j ≡ Some x → j < length xs
get_less [] j x e = absurd (true≢false (ap is_none e))
get_less (y ∷ ys) zero x e = omega arith
get_less (y ∷ ys) (suc j) x e = omega (arith, get_less ys j x e)

regs_at : (f : ℕ → ℕ) (i : ℕ) (rs : List Reg) (j : ℕ) (r : Reg) → slice_get rs j ≡ Some r
    → slice_index (regs_from f i rs) j ≡ start_number (f (i + j)) r.init
regs_at f i [] j r e = absurd (true≢false (ap is_none e))
regs_at f i (q ∷ rs) zero r e = ap (λ (x : Reg). start_number (f i) x.init) (same_Some q r e)
    ∙ ap (λ m. start_number (f m) r.init) (sym (none_more i))
regs_at f i (q ∷ rs) (suc j) r e =
    let same : i + 1 + j ≡ i + suc j = omega arith in
    regs_at f (i + 1) rs j r e ∙ ap (λ m. start_number (f m) r.init) same

words_get : (f : ℕ → ℕ) (i : ℕ) (xs : List Beginning) (j : ℕ) (x : Beginning) → slice_get xs j ≡ Some x
    → slice_get (words_from f i xs) j ≡ Some (start_number (f (i + j)) x)
words_get f i [] j x e = absurd (true≢false (ap is_none e))
words_get f i (y ∷ xs) zero x e = ap (λ z. Some (start_number (f i) z)) (same_Some y x e)
    ∙ ap (λ m. Some (start_number (f m) x)) (sym (none_more i))
words_get f i (y ∷ xs) (suc j) x e =
    let same : i + 1 + j ≡ i + suc j = omega arith in
    words_get f (i + 1) xs j x e ∙ ap (λ m. Some (start_number (f m) x)) same

mems_get : (f : ℕ → ℕ → ℕ) (i : ℕ) (ms : List Mem) (j : ℕ) (m : Mem) → slice_get ms j ≡ Some m
    → slice_get (mems_from f i ms) j ≡ Some (words_from (f (i + j)) 0 m.init)
mems_get f i [] j m e = absurd (true≢false (ap is_none e))
mems_get f i (y ∷ ms) zero m e = ap (λ (z : Mem). Some (words_from (f i) 0 z.init)) (same_Some y m e)
    ∙ ap (λ n. Some (words_from (f n) 0 m.init)) (sym (none_more i))
mems_get f i (y ∷ ms) (suc j) m e =
    let same : i + 1 + j ≡ i + suc j = omega arith in
    mems_get f (i + 1) ms j m e ∙ ap (λ n. Some (words_from (f n) 0 m.init)) same

known_number : (o : Beginning) (x choice n : ℕ) → o ≡ init.Known x → n ≡ start_number choice o → n ≡ x
known_number o x choice n e h = h ∙ ap (start_number choice) e

-- ---- a bit begins as its source does

begun_as : (o : Beginning) (j : ℕ) (value : Option ℕ) (b : ℕ) → BeginsAs o j value
    → ((x : ℕ) → o ≡ init.Known x → b ≡ bit_of x j) → Begins value b
begun_as (init.Known x) j value b h f = subst (λ o. Begins o b) (sym h) (f x refl)
begun_as init.Free j value b h f = subst (λ o. Begins o b) (sym h) tt

-- and the other way round
begun_bit : (o : Beginning) (j : ℕ) (value : Option ℕ) (b x : ℕ) → BeginsAs o j value → o ≡ init.Known x
    → Begins value b → b ≡ bit_of x j
begun_bit (init.Known y) j value b x h e begins =
    subst (λ o. Begins o b) h begins ∙ ap (λ z. bit_of z j) (same_known e)
  where
    same_known : init.Known y ≡ init.Known x → y ≡ x
    same_known f = ap (start_number 0) f
begun_bit init.Free j value b x h e begins = absurd (true≢false (ap is_free e))
  where
    is_free : Beginning → Bool
    is_free init.Free = true
    is_free (init.Known y) = false

start_is : (o : Beginning) (choice n : ℕ) → choice ≡ n → ((x : ℕ) → o ≡ init.Known x → n ≡ x)
    → n ≡ start_number choice o
start_is init.Free choice n e f = sym e
start_is (init.Known x) choice n e f = f x refl

module _ (ds : List Decl) (drivers : List Driver) (firsts : List Start) (shaped : All IsShaped ds)
    (different : AreDifferent ds) (apart : AreApart ds) (lawful : IsLawful ds drivers firsts)
    (none : HasNoRefusal ds drivers) (s : List ℕ) (order : IsSequence ds drivers s) (net : Netlist) (names : Names)
    (own : AreSources ds (parts_of ds drivers firsts) net names) (v : Values) (ok : AreInRange ds v) where
  abbrev ps : List Part
  ps = parts_of ds drivers firsts

  abbrev last : List ℕ → ℕ → Option ℕ
  last n i = last_value (initial_writes ps) n i

  abbrev BeginAt : Type 0
  BeginAt =
      (d : Decl) (n : List ℕ) (i : ℕ) → IsCellOf ds d n → i < d.width → is_driven ps n i ≡ false
      → Begins (last n i) (bit_of (v n) i)

  -- ---- by bits

  init_at : Init ps v → BeginAt
  init_at h d n i of less undriven =
      only (is_driven ps n i) (Begins (last n i) (bit_of (v n) i)) undriven
      (each_below_at (λ i. OnlyIf (not (is_driven ps n i)) (Begins (last n i) (bit_of (v n) i))) d.width i less
      (each_contained (λ n. EachBelow (λ i. OnlyIf (not (is_driven ps n i)) (Begins (last n i) (bit_of (v n) i))) d.width)
      (cells d) n
      (each_declared_as (λ d. PartBegins ps v (declares d)) ds d.name d of.declared
      (each_mapped (PartBegins ps v) (λ d. declares d) ds
      (front (PartBegins ps v) (decl_parts ds) (driver_parts (flat_scopes ds) drivers)
      (front (PartBegins ps v) (decl_parts ds ++ driver_parts (flat_scopes ds) drivers)
      (start_parts (flat_scopes ds) firsts) h))))
      of.cell))
    where
      only : (b : Bool) (P : Type 0) → b ≡ false → OnlyIf (not b) P → P
      only true P e h = absurd (true≢false e)
      only false P e h = h

  trivial : (qs : List Part) → Each (λ p. Unit {0}) qs
  trivial [] = tt
  trivial (q ∷ qs) = (tt, trivial qs)

  driver_begins : (y : DriverKind) → PartBegins ps v (driver_part (flat_scopes ds) y)
  driver_begins (k.Assign l e) = tt
  driver_begins (k.Comb z) = tt
  driver_begins (k.Clocked z) = tt

  init_of : BeginAt → Init ps v
  init_of h =
      agreeing.parts_map ds drivers firsts shaped different apart lawful none s order (λ p. Unit {0}) (PartBegins ps v)
      (λ d e u. each_of_contained (λ n. EachBelow (λ i. P n i) d.width) (cells d) (λ n c.
      each_below_of (λ i. P n i) d.width (λ i less.
      where_free (is_driven ps n i) (Begins (last n i) (bit_of (v n) i))
      (λ f. h d n i (record { declared = e; cell = c }) less f))))
      (λ j x e is u. driver_begins x.what) (λ x. tt) (trivial ps)
    where
      P : List ℕ → ℕ → Type 0
      P n i = OnlyIf (not (is_driven ps n i)) (Begins (last n i) (bit_of (v n) i))

      where_free : (b : Bool) (Q : Type 0) → (b ≡ false → Q) → OnlyIf (not b) Q
      where_free true Q f = tt
      where_free false Q f = f refl

  -- ---- what has a value at first is a variable

  of_starts : (xs : List Start) → All (λ x. IsAssigned ds is_variable true x.target) xs → (n : List ℕ) (i : ℕ)
      → Each (SaysOf (IsBitOfKind ds is_variable n i) n i) (start_parts (flat_scopes ds) xs)
  of_starts [] are n i = tt
  of_starts (x ∷ xs) are n i = (
    λ t. target_changed ds is_variable true x.target is.0 n i
        (mark.within no_values n i
        (sym (assigned_to ds x.target (number here (number_of x.value)) no_values n i) ∙ t)),
    of_starts xs (All-tail (λ x. IsAssigned ds is_variable true x.target) x xs are) n i,
  )
    where
      is : IsAssigned ds is_variable true x.target
      is = All-head (λ x. IsAssigned ds is_variable true x.target) x xs are

      mark : Marks ds x.target
      mark = marks ds (held.wide ds drivers firsts shaped different apart lawful none s order) is_variable
          variable_counted true x.target is.0

  of_variable : (n : List ℕ) (i y : ℕ) → last n i ≡ Some y → IsBitOfKind ds is_variable n i
  of_variable n i y e =
      written_at (IsBitOfKind ds is_variable n i) n i ps
      (both (SaysOf (IsBitOfKind ds is_variable n i) n i) (decl_parts ds ++ driver_parts (flat_scopes ds) drivers)
      (start_parts (flat_scopes ds) firsts)
      (both (SaysOf (IsBitOfKind ds is_variable n i) n i) (decl_parts ds) (driver_parts (flat_scopes ds) drivers)
      (no_decl (IsBitOfKind ds is_variable n i) n i ds) (no_driver (IsBitOfKind ds is_variable n i) n i ds drivers))
      (of_starts firsts lawful.started n i))
      (last_to (initial_writes ps) n i y e)

  -- ---- from values at first to a start

  abbrev state_words : ℕ → List ℕ
  state_words m = words_at (state_of names v).mems m

  abbrev choices : Choices
  choices = record {
    each_cycle = λ k i. 0;
    once = λ i. 0;
    regs = λ i. slice_index (state_of names v).regs i;
    words = λ m i. slice_index (state_words m) i;
  }

  words_small : (ms : List Mem) (mems : List (List ℕ)) → AreMemsOf ms mems → (m i : ℕ) → m < length ms
      → slice_index (words_at mems m) i < 2 ^ slice_index (map (λ (x : Mem). x.width) ms) m
  words_small [] [] h m i less = absurd (omega (arith, less))
  words_small [] (w ∷ mems) h m i less = absurd h
  words_small (x ∷ ms) [] h m i less = absurd h
  words_small (x ∷ ms) (w ∷ mems) h zero i less = h.0.below i
  words_small (x ∷ ms) (w ∷ mems) h (suc m) i less = words_small ms mems h.1 m i (omega (arith, less))

  are_choices : AreChoicesOf net choices
  are_choices =
      let f = fits ds ps net names own v ok in record {
        each_cycle = λ k i less. pow_pos (slice_index (map (λ x. x.width) net.inputs) i);
        once = λ i less. pow_pos (slice_index (map (λ x. x.width) net.inputs) i);
        regs = λ i less. f.state.regs.below i;
        words = λ m i less. words_small net.mems (state_of names v).mems f.state.mems m i less;
      }

  reg_number : BeginAt → (r : Reg) (p : Spot) → IsRegOf ds ps names r p → (x : ℕ) → r.init ≡ init.Known x
      → spot_number names v p ≡ x
  reg_number h r p is x e =
      gathered_is (v (text_of (slice_get names.list p.name))) x p.bits
      (subst (λ w. x < 2 ^ w) (sym is.width) (is.small x e)) (λ j i at.
      ap (λ m. bit_of (v m) i) is.named
      ∙ begun_bit r.init j (last is.text i) (bit_of (v is.text) i) x (is.begins j i at) e
      (h is.decl is.text i is.of (is.within j i at) (is.kept j i at)))

  regs_start : BeginAt → (f : ℕ → ℕ) (i : ℕ) (rs : List Reg) (xs : List Spot) → AreEach (IsRegOf ds ps names) rs xs
      → ((j : ℕ) (p : Spot) → slice_get xs j ≡ Some p → f (i + j) ≡ spot_number names v p)
      → map (spot_number names v) xs ≡ regs_from f i rs
  regs_start h f i [] [] r g = refl
  regs_start h f i [] (p ∷ xs) r g = absurd r
  regs_start h f i (q ∷ rs) [] r g = absurd r
  regs_start h f i (q ∷ rs) (p ∷ xs) r g =
      let here = start_is q.init (f i) (spot_number names v p) (ap f (sym (none_more i)) ∙ g zero p refl) (reg_number h q p r.0) in
      let rest = regs_start h f (i + 1) rs xs r.1 (λ j x e.
      let same : i + 1 + j ≡ i + suc j = omega arith in ap f same ∙ g (suc j) x e) in
      λ z. here z ∷ rest z

  word_number : BeginAt → (m : Mem) (at : ℕ) → (is : IsMemOf ds ps names m at) → (j : ℕ) (n : List ℕ)
      → slice_get (cells is.decl) j ≡ Some n → (x : ℕ) → slice_get m.init j ≡ Some (init.Known x) → v n ≡ x
  word_number h m at is j n e x e_x =
      let of : IsCellOf ds is.decl n = record { declared = is.declared; cell = contained (cells is.decl) j n e } in
      same_from_bits_below is.decl.width (v n) x (ok is.decl n of (ap is_clock_class is.variable))
      (subst (λ w. x < 2 ^ w) is.width (is.small j x e_x)) (λ i less.
      begun_bit (init.Known x) i (last n i) (bit_of (v n) i) x (is.begins j i n (init.Known x) e e_x less) refl
      (h is.decl n i of less (is.kept n i of less)))

  words_start : (ns : List (List ℕ)) (xs : List Beginning) → length ns ≡ length xs → (f : ℕ → ℕ) (i : ℕ)
      → ((j : ℕ) (n : List ℕ) → slice_get ns j ≡ Some n → f (i + j) ≡ v n)
      → ((j : ℕ) (n : List ℕ) → slice_get ns j ≡ Some n → (x : ℕ) → slice_get xs j ≡ Some (init.Known x) → v n ≡ x)
      → map v ns ≡ words_from f i xs
  words_start [] [] e f i g h = refl
  words_start [] (x ∷ xs) e f i g h = absurd (omega (arith, e))
  words_start (n ∷ ns) [] e f i g h = absurd (omega (arith, e))
  words_start (n ∷ ns) (x ∷ xs) e f i g h =
      let here = start_is x (f i) (v n) (ap f (sym (none_more i)) ∙ g zero n refl) (λ y k. h zero n refl y (ap Some k)) in
      let rest = words_start ns xs (omega (arith, e)) f (i + 1) (λ j m t.
      let same : i + 1 + j ≡ i + suc j = omega arith in ap f same ∙ g (suc j) m t) (λ j m t. h (suc j) m t) in
      λ z. here z ∷ rest z

  mems_start : BeginAt → (f : ℕ → ℕ → ℕ) (i : ℕ) (ms : List Mem) (ats : List ℕ)
      → AreEach (IsMemOf ds ps names) ms ats
      → ((j at : ℕ) → slice_get ats j ≡ Some at → (k : ℕ) (n : List ℕ)
      → slice_get (cells_named (slice_get names.list at)) k ≡ Some n → f (i + j) k ≡ v n)
      → map (λ m. map v (cells_named (slice_get names.list m))) ats ≡ mems_from f i ms
  mems_start h f i [] [] r g = refl
  mems_start h f i [] (a ∷ ats) r g = absurd r
  mems_start h f i (m ∷ ms) [] r g = absurd r
  mems_start h f i (m ∷ ms) (a ∷ ats) r g =
      let is : IsMemOf ds ps names m a = r.0 in
      let here : map v (cells_named (slice_get names.list a)) ≡ words_from (f i) 0 m.init =
      ap (map v) is.named
      ∙ words_start (cells is.decl) m.init (is.count ∙ sym is.starts) (f i) 0
      (λ j n t. let same : 0 + j ≡ j = omega arith in
      ap (f i) same ∙ ap (λ q. f q j) (sym (none_more i))
      ∙ g zero a refl j n (ap (λ ns. slice_get ns j) is.named ∙ t))
      (λ j n t. word_number h m a is j n t) in
      let rest = mems_start h f (i + 1) ms ats r.1 (λ j at e.
      let same : i + 1 + j ≡ i + suc j = omega arith in λ k n t. ap (λ q. f q k) same ∙ g (suc j) at e k n t) in
      λ z. here z ∷ rest z

  pub starts_of : Init ps v → IsStart net (state_of names v)
  starts_of given =
      let h = init_at given in
      let rs = regs_start h choices.regs 0 net.regs names.regs own.regs (λ j p e.
      let same : 0 + j ≡ j = omega arith in
      ap choices.regs same ∙ index_map (spot_number names v) names.regs j p e) in
      let ms = mems_start h choices.words 0 net.mems names.mems own.mems (λ j at e k n t.
      let same : 0 + j ≡ j = omega arith in
      ap (λ q. choices.words q k) same
      ∙ ap (λ ws. slice_index ws k)
      (words_index (state_of names v).mems j (map v (cells_named (slice_get names.list at)))
      (map_get (λ m. map v (cells_named (slice_get names.list m))) names.mems j at e))
      ∙ index_map v (cells_named (slice_get names.list at)) k n t) in
      record { choices = choices; of = are_choices; same = λ z. record { regs = rs z; mems = ms z } }

  -- ---- from a start to values at first

  module _ (start : IsStart net (state_of names v)) where
    abbrev ch : Choices
    ch = start.choices

    at_reg : (n : List ℕ) (i : ℕ) → IsAtSpot names names.regs n i → Begins (last n i) (bit_of (v n) i)
    at_reg n i at =
        let r = first_of (IsRegOf ds ps names) net.regs names.regs own.regs at.place at.spot at.there in
        let text : r.2.text ≡ n = sym r.2.named ∙ at.named in
        let number : spot_number names v at.spot ≡ start_number (ch.regs (0 + at.place)) r.0.init =
        sym (index_map (spot_number names v) names.regs at.place at.spot at.there)
        ∙ ap (λ t. slice_index t.regs at.place) start.same
        ∙ regs_at ch.regs 0 net.regs at.place r.0 r.1 in
        begun_as r.0.init at.offset (last n i) (bit_of (v n) i)
        (subst (λ m. BeginsAs r.0.init at.offset (last m i)) text (r.2.begins at.offset i at.bit))
        (λ x e.
        ap (λ m. bit_of (v m) i) (sym at.named)
        ∙ sym (gathered_at (v (text_of (slice_get names.list at.spot.name))) at.spot.bits at.offset i at.bit)
        ∙ ap (λ y. bit_of y at.offset)
        (known_number r.0.init x (ch.regs (0 + at.place)) (spot_number names v at.spot) e number))

    at_word : (d : Decl) (n : List ℕ) (i : ℕ) → IsCellOf ds d n → i < d.width → IsWordOf names n
        → Begins (last n i) (bit_of (v n) i)
    at_word d n i of less w =
        let r = first_of (IsMemOf ds ps names) net.mems names.mems own.mems w.place w.at w.there in
        let is : IsMemOf ds ps names r.0 w.at = r.2 in
        let word : slice_get (cells is.decl) w.offset ≡ Some n =
        sym (ap (λ ns. slice_get ns w.offset) is.named) ∙ w.word in
        let begun = get_there r.0.init w.offset
        (omega (arith, get_less (cells is.decl) w.offset n word, is.count, is.starts)) in
        let same : is.decl ≡ d =
        held.cells ds drivers firsts shaped different apart lawful none s order is.decl d n
        (record { declared = is.declared; cell = contained (cells is.decl) w.offset n word }) of in
        let below : i < is.decl.width = subst (λ (x : Decl). i < x.width) (sym same) less in
        let words : map v (cells_named (slice_get names.list w.at)) ≡ words_from (ch.words (0 + w.place)) 0 r.0.init =
        same_Some _ _
        (sym (map_get (λ m. map v (cells_named (slice_get names.list m))) names.mems w.place w.at w.there)
        ∙ ap (λ t. slice_get t.mems w.place) start.same
        ∙ mems_get ch.words 0 net.mems w.place r.0 r.1) in
        let number : v n ≡ start_number (ch.words (0 + w.place) (0 + w.offset)) begun.0 =
        same_Some _ _
        (sym (map_get v (cells_named (slice_get names.list w.at)) w.offset n w.word)
        ∙ ap (λ ws. slice_get ws w.offset) words
        ∙ words_get (ch.words (0 + w.place)) 0 r.0.init w.offset begun.0 begun.1) in
        begun_as begun.0 i (last n i) (bit_of (v n) i) (is.begins w.offset i n begun.0 word begun.1 below)
        (λ x e. ap (λ y. bit_of y i)
        (known_number begun.0 x (ch.words (0 + w.place) (0 + w.offset)) (v n) e number))

    at_bit : (d : Decl) (n : List ℕ) (i : ℕ) → IsCellOf ds d n → i < d.width
        → IsAtSpot names names.regs n i ⊎ IsWordOf names n → Begins (last n i) (bit_of (v n) i)
    at_bit d n i of less (inl at) = at_reg n i at
    at_bit d n i of less (inr w) = at_word d n i of less w

    begins_at : BeginAt
    begins_at d n i of less undriven = by (last n i) refl
      where
        by : (o : Option ℕ) → last n i ≡ o → Begins o (bit_of (v n) i)
        by None e = tt
        by (Some y) e =
            let c = of_variable n i y e in
            let same : c.decl ≡ d =
            held.cells ds drivers firsts shaped different apart lawful none s order c.decl d n c.of of in
            let var : d.class ≡ class.Variable =
            kept.variable_is d d.class refl (subst (λ (x : Decl). is_variable x ≡ true) same c.may_be) in
            subst (λ o. Begins o (bit_of (v n) i)) e
            (at_bit d n i of less
            (free.kept_source ds drivers firsts shaped different apart lawful none s order net names own d n i of less var
            undriven))

    pub begins_of : Init ps v
    begins_of = init_of begins_at
