-- Between functions: The trace of a run of a net: what each name of a design has in each cycle (rule of this project).
use Rattle.std.specs.Prelude.{ℕ, zero, suc, ◌+◌, if◌then◌else◌, List, [], ◌∷◌, ◌++◌, Option, Some, None, codes}
use Rattle.std.specs.Prelude.{ℤ, pos, ◌+ℤ◌, ◌-ℤ◌, int_le, slice_index, slice_index_or}
use Rattle.std.specs.Fmt.{signed_decimal}
use Rattle.std.specs.List.{flat_map}
use Rattle.fv_text.specs.declared.trace.Trace.{Trace}
use Rattle.fv_text.specs.declared.trace.TraceName.{TraceName}
use Rattle.wn_net.specs.declared.names.Place.{Place}
use Rattle.wn_net.specs.declared.names.Place.TheVariants as place
use Rattle.wn_net.specs.declared.names.NetName.{NetName}
use Rattle.wn_net.specs.declared.names.Names.{Names}
use Rattle.wn_net.specs.Value.{Given, words_of}
use Rattle.wn_net.specs.Net.{Netlist, value_at}
use Rattle.wn_net.specs.Names.{words_in}
use Rattle.wn_run.specs.Runs.{Choices, inputs_at, start_of, cycle_at}
use Rattle.tr_replay.specs.declared.chosen.Chosen.{Chosen}

-- what is free in a run, as it is given; 0 where it isn't
abbrev pub choices_of : Chosen → Choices
choices_of c = record {
  each_cycle = λ k i. slice_index (slice_index_or c.each_cycle k []) i;
  once = λ i. slice_index c.once i;
  regs = λ r. slice_index c.regs r;
  words = λ m i. slice_index (slice_index_or c.words m []) i;
}

-- ---- names

-- the declared index of the word so many places from the left bound
abbrev pub index_at : ℤ × ℤ → ℕ → ℤ
index_at range place = if int_le range.0 range.1 then range.0 +ℤ pos place else range.0 -ℤ pos place

-- the memory's name with the index in square brackets
abbrev pub word_name : List ℕ → ℕ → ℤ × ℤ → ℕ → TraceName
word_name text width range place = record {
  text = text ++ codes "[" ++ signed_decimal (index_at range place) ++ codes "]";
  width = width;
}

-- those of so many words, from this place on
abbrev pub word_names : List ℕ → ℕ → ℤ × ℤ → ℕ → ℕ → List TraceName
word_names text width range place zero = []
word_names text width range place (suc more) =
    word_name text width range place ∷ word_names text width range (place + 1) more

-- the name of a node, or those of a memory's words
abbrev pub names_by : Netlist → NetName → Place → Option (ℤ × ℤ) → List TraceName
names_by net n (place.Node id) words = record { text = n.text; width = n.width } ∷ []
names_by net n (place.Mem m) None = []
names_by net n (place.Mem m) (Some range) = word_names n.text n.width range 0 (words_in net m)

abbrev pub names_of : Netlist → NetName → List TraceName
names_of net n = names_by net n n.place n.words

-- ---- values

-- the value of a node in a cycle, or those of a memory's words
abbrev pub place_values : Netlist → Given → Place → List ℕ
place_values net g (place.Node id) = value_at net g id ∷ []
place_values net g (place.Mem m) = words_of g m

-- those of all names
abbrev pub name_values : Netlist → Given → List NetName → List ℕ
name_values net g names = flat_map (λ n. place_values net g n.place) names

-- those of the first so many cycles
abbrev pub first_cycles : Netlist → List NetName → (ℕ → Given) → ℕ → List (List ℕ)
first_cycles net names cycles zero = []
first_cycles net names cycles (suc k) =
    first_cycles net names cycles k ++ name_values net (cycles k) names ∷ []

-- ---- traces

-- the numbers of a cycle of the run with these choices
abbrev pub cycle_of : Netlist → Choices → ℕ → Given
cycle_of net ch k = cycle_at net (inputs_at net ch) (start_of net ch) k

-- The trace of that run up to a cycle: all names in the order of their declarations, in place of a memory its words,
-- with their values in each cycle.
abbrev pub trace_of : Netlist → Names → Choices → ℕ → Trace
trace_of net names ch cycle = record {
  names = flat_map (names_of net) names.list;
  cycles = first_cycles net names.list (cycle_of net ch) (cycle + 1);
}
