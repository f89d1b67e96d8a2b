-- What a list has behind one element more, and at the end of the elements.
use Rattle.std.proofs.Common.{◌≡◌, ℕ, zero, suc, ◌+◌, ◌-◌, ◌<◌, ◌≤◌, List, [], ◌∷◌, ◌++◌, length, get_or, drop, refl}
use Rattle.std.proofs.Common.{ap, sym, ◌∙◌, append_assoc, arith, add-one}
use Rattle.std.specs.Prelude.{ℤ, slice_index}
use Rattle.std.specs.List.{flat_map}
use Rattle.std.proofs.lemmas.List.{at_drop_more, at_drop_all, append-nil}
use Rattle.fv_text.specs.declared.trace.TraceName.{TraceName}
use Rattle.wn_net.specs.declared.parts.Input.{Input}
use Rattle.wn_net.specs.declared.parts.Init.{Init}
use Rattle.wn_net.specs.declared.parts.Reg.{Reg}
use Rattle.wn_net.specs.declared.parts.Mem.{Mem}
use Rattle.wn_net.specs.declared.names.Place.{Place}
use Rattle.wn_net.specs.declared.names.Place.TheVariants as place
use Rattle.wn_net.specs.declared.names.NetName.{NetName}
use Rattle.wn_net.specs.Value.{Given}
use Rattle.wn_net.specs.Net.{Netlist, value_at, values_of}
use Rattle.wn_run.specs.Runs.{by_kind, inputs_from, start_number, regs_from, words_from, mems_from}
use Rattle.tr_replay.specs.Traces.{word_name, word_names, names_of, place_values, name_values}
use Rattle.tr_replay.specs.Values.{values_by, all_by}

-- what was made with what is left, where one part more is made
step : {X Y : Type 0} (f : ℕ → List X → List Y) (part before after all : List Y) (i : ℕ) (xs : List X) (x : X)
    → i < length xs → x ≡ get_or xs i x → f i (x ∷ drop (i + 1) xs) ≡ part ++ f (i + 1) (drop (i + 1) xs)
    → before ++ f i (drop i xs) ≡ all → after ≡ before ++ part → after ++ f (i + 1) (drop (i + 1) xs) ≡ all
step f part before after all i xs x below here one own more =
    let rest = f (i + 1) (drop (i + 1) xs) in
    ap (λ z. z ++ rest) more ∙ append_assoc before part rest
    ∙ ap (λ z. before ++ z) (sym (at_drop_more (f i) xs i x below
    ∙ ap (λ z. f i (z ∷ drop (i + 1) xs)) (sym here) ∙ one)) ∙ own

-- where nothing is left, all is made
finish : {X Y : Type 0} (f : ℕ → List X → List Y) (before all : List Y) (i : ℕ) (xs : List X) → length xs ≤ i
    → f i [] ≡ [] → before ++ f i (drop i xs) ≡ all → before ≡ all
finish f before all i xs past none own =
    sym (ap (λ z. before ++ z) (at_drop_all (f i) xs i past ∙ none) ∙ append-nil before) ∙ own

-- ---- inputs, registers, words and memories

pub inputs_step : (before after all : List ℕ) (each once : ℕ → ℕ) (reset i e o n : ℕ) (xs : List Input) (x : Input)
    → i < length xs → x ≡ get_or xs i x
    → before ++ inputs_from each once reset i (drop i xs) ≡ all → e ≡ each i → o ≡ once i
    → n ≡ by_kind e o reset x.kind → after ≡ before ++ n ∷ []
    → after ++ inputs_from each once reset (i + 1) (drop (i + 1) xs) ≡ all
inputs_step before after all each once reset i e o n xs x below here own is_each is_once is more =
    step (inputs_from each once reset) (by_kind (each i) (once i) reset x.kind ∷ []) before after all i xs x below here
    refl own (more ∙ ap (λ z. before ++ z ∷ []) (is ∙ ap (λ z. by_kind z o reset x.kind) is_each
    ∙ ap (λ z. by_kind (each i) z reset x.kind) is_once))

pub inputs_end : (before all : List ℕ) (each once : ℕ → ℕ) (reset i : ℕ) (xs : List Input) → length xs ≤ i
    → before ++ inputs_from each once reset i (drop i xs) ≡ all → before ≡ all
inputs_end before all each once reset i xs past own = finish (inputs_from each once reset) before all i xs past refl own

pub regs_step : (before after all : List ℕ) (ch : ℕ → ℕ) (i c n : ℕ) (xs : List Reg) (x : Reg)
    → i < length xs → x ≡ get_or xs i x → before ++ regs_from ch i (drop i xs) ≡ all → c ≡ ch i
    → n ≡ start_number c x.init → after ≡ before ++ n ∷ []
    → after ++ regs_from ch (i + 1) (drop (i + 1) xs) ≡ all
regs_step before after all ch i c n xs x below here own chosen is more =
    step (regs_from ch) (start_number (ch i) x.init ∷ []) before after all i xs x below here refl own
    (more ∙ ap (λ z. before ++ z ∷ []) (is ∙ ap (λ z. start_number z x.init) chosen))

pub regs_end : (before all : List ℕ) (ch : ℕ → ℕ) (i : ℕ) (xs : List Reg) → length xs ≤ i
    → before ++ regs_from ch i (drop i xs) ≡ all → before ≡ all
regs_end before all ch i xs past own = finish (regs_from ch) before all i xs past refl own

pub words_step : (before after all : List ℕ) (ch : ℕ → ℕ) (i c n : ℕ) (xs : List Init) (x : Init)
    → i < length xs → x ≡ get_or xs i x → before ++ words_from ch i (drop i xs) ≡ all → c ≡ ch i
    → n ≡ start_number c x → after ≡ before ++ n ∷ []
    → after ++ words_from ch (i + 1) (drop (i + 1) xs) ≡ all
words_step before after all ch i c n xs x below here own chosen is more =
    step (words_from ch) (start_number (ch i) x ∷ []) before after all i xs x below here refl own
    (more ∙ ap (λ z. before ++ z ∷ []) (is ∙ ap (λ z. start_number z x) chosen))

pub words_end : (before all : List ℕ) (ch : ℕ → ℕ) (i : ℕ) (xs : List Init) → length xs ≤ i
    → before ++ words_from ch i (drop i xs) ≡ all → before ≡ all
words_end before all ch i xs past own = finish (words_from ch) before all i xs past refl own

pub mems_step : (before after all : List (List ℕ)) (ch : ℕ → ℕ → ℕ) (i : ℕ) (row ws : List ℕ) (xs : List Mem) (x : Mem)
    → i < length xs → x ≡ get_or xs i x → before ++ mems_from ch i (drop i xs) ≡ all
    → slice_index row ≡ ch i → ws ≡ words_from (slice_index row) 0 x.init → after ≡ before ++ ws ∷ []
    → after ++ mems_from ch (i + 1) (drop (i + 1) xs) ≡ all
mems_step before after all ch i row ws xs x below here own chosen is more =
    step (mems_from ch) (words_from (ch i) 0 x.init ∷ []) before after all i xs x below here refl own
    (more ∙ ap (λ z. before ++ z ∷ []) (is ∙ ap (λ z. words_from z 0 x.init) chosen))

pub mems_end : (before all : List (List ℕ)) (ch : ℕ → ℕ → ℕ) (i : ℕ) (xs : List Mem) → length xs ≤ i
    → before ++ mems_from ch i (drop i xs) ≡ all → before ≡ all
mems_end before all ch i xs past own = finish (mems_from ch) before all i xs past refl own

-- ---- names

pub word_names_step : (before after all : List TraceName) (text : List ℕ) (width : ℕ) (range : ℤ × ℤ) (i count : ℕ)
    (n : TraceName) → i < count → before ++ word_names text width range i (count - i) ≡ all
    → n ≡ word_name text width range i → after ≡ before ++ n ∷ []
    → after ++ word_names text width range (i + 1) (count - (i + 1)) ≡ all
word_names_step before after all text width range i count n below own is more =
    let rest = word_names text width range (i + 1) (count - (i + 1)) in
    let left : count - i ≡ suc (count - (i + 1)) = omega arith in
    ap (λ z. z ++ rest) (more ∙ ap (λ z. before ++ z ∷ []) is)
    ∙ append_assoc before (word_name text width range i ∷ []) rest
    ∙ ap (λ z. before ++ word_names text width range i z) (sym left) ∙ own

pub word_names_end : (before all : List TraceName) (text : List ℕ) (width : ℕ) (range : ℤ × ℤ) (i count : ℕ)
    → count ≤ i → before ++ word_names text width range i (count - i) ≡ all → before ≡ all
word_names_end before all text width range i count past own =
    let none : count - i ≡ 0 = omega arith in
    sym (ap (λ z. before ++ word_names text width range i z) none ∙ append-nil before) ∙ own

pub names_step : (before after all : List TraceName) (net : Netlist) (i : ℕ) (xs : List NetName) (x : NetName)
    → i < length xs → x ≡ get_or xs i x → before ++ flat_map (names_of net) (drop i xs) ≡ all
    → after ≡ before ++ names_of net x → after ++ flat_map (names_of net) (drop (i + 1) xs) ≡ all
names_step before after all net i xs x below here own more =
    step (λ j. flat_map (names_of net)) (names_of net x) before after all i xs x below here refl own more

pub names_end : (before all : List TraceName) (net : Netlist) (i : ℕ) (xs : List NetName) → length xs ≤ i
    → before ++ flat_map (names_of net) (drop i xs) ≡ all → before ≡ all
names_end before all net i xs past own = finish (λ j. flat_map (names_of net)) before all i xs past refl own

-- ---- values

pub values_step : (before after all vs : List ℕ) (mems : List (List ℕ)) (i : ℕ) (xs : List NetName) (x : NetName)
    → i < length xs → x ≡ get_or xs i x → before ++ all_by vs mems (drop i xs) ≡ all
    → after ≡ before ++ values_by vs mems x.place → after ++ all_by vs mems (drop (i + 1) xs) ≡ all
values_step before after all vs mems i xs x below here own more =
    step (λ j. all_by vs mems) (values_by vs mems x.place) before after all i xs x below here refl own more

pub values_end : (before all vs : List ℕ) (mems : List (List ℕ)) (i : ℕ) (xs : List NetName) → length xs ≤ i
    → before ++ all_by vs mems (drop i xs) ≡ all → before ≡ all
values_end before all vs mems i xs past own = finish (λ j. all_by vs mems) before all i xs past refl own

place_is : (net : Netlist) (g : Given) (p : Place) → place_values net g p ≡ values_by (values_of net g) g.state.mems p
unfolding value_at
place_is net g (place.Node id) = refl
place_is net g (place.Mem m) = refl

-- the values of names are those of nodes and words
pub named_is : (net : Netlist) (g : Given) (xs : List NetName)
    → name_values net g xs ≡ all_by (values_of net g) g.state.mems xs
named_is net g [] = refl
named_is net g (x ∷ xs) =
    ap (λ z. z ++ name_values net g xs) (place_is net g x.place)
    ∙ ap (λ z. values_by (values_of net g) g.state.mems x.place ++ z) (named_is net g xs)
