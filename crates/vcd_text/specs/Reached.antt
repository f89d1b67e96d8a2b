-- Between functions: How far a dump was read, and which lines of a trace's dump are still to come there. Rule of this
-- project.
use Rattle.std.specs.Prelude.{
  ℕ,
  ◌+◌,
  ◌<◌,
  ◌≤◌,
  ◌≡◌,
  ◌^◌,
  ◌⊎◌,
  ◌↔◌,
  Bool,
  true,
  false,
  List,
  [],
  ◌∷◌,
  ◌++◌,
  length,
}
use Rattle.std.specs.Prelude.{take, drop, codes, Option, MatchOption}
use Rattle.std.specs.List.{AllByRecursion}
use Rattle.fv_text.specs.declared.trace.Trace.{Trace}
use Rattle.fv_text.specs.declared.trace.TraceName.{TraceName}
use Rattle.vcd_text.specs.declared.reader.Part.{Part}
use Rattle.vcd_text.specs.declared.reader.Part.TheVariants.{Scale, Scope, Names, Definitions, Start, Dump, Values}
use Rattle.vcd_text.specs.declared.reader.Part.TheVariants.{Changes}
use Rattle.vcd_text.specs.declared.reader.Reader.{Reader}
use Rattle.vcd_text.specs.Reading.{IsPlain, IsReadable}
use Rattle.vcd_dump.specs.Vcd.{IsWide, AreValues, name_lines, header_lines, value_lines, change_lines, later_lines}
use Rattle.vcd_dump.specs.Vcd.{cycle_lines}

-- the lines from the end of the scope on
abbrev pub behind_names : List TraceName → List (List ℕ) → List (List ℕ)
behind_names all cycles = codes "$upscope $end" ∷ codes "$enddefinitions $end" ∷ cycle_lines all cycles

-- the lines from the end of the values at time 0 on
abbrev pub behind_values : List TraceName → List ℕ → List (List ℕ) → List (List ℕ)
behind_values names first later = codes "$end" ∷ later_lines names 1 first later

-- the names behind those that were read, and the lines from the next name's on
pub record AreNamesLeft (names all : List TraceName) (cycles rest : List (List ℕ)) : Type 0 where
  pub others : List TraceName
  pub all_are : all ≡ names ++ others
  pub left : rest ≡ name_lines (length names) others ++ behind_names all cycles

-- the values at time 0, and the lines from `$dumpvars` on
pub record IsDumpLeft (names : List TraceName) (cycles rest : List (List ℕ)) : Type 0 where
  pub first : List ℕ
  pub later : List (List ℕ)
  pub cycles_are : cycles ≡ first ∷ later
  pub left : rest ≡ codes "$dumpvars" ∷ (value_lines 0 names first ++ behind_values names first later)

-- the values at time 0 behind those that were read, and the lines from the next value's on
pub record AreValuesLeft (names : List TraceName) (values : List ℕ) (cycles rest : List (List ℕ)) : Type 0 where
  pub others : List ℕ
  pub later : List (List ℕ)
  pub cycles_are : cycles ≡ (values ++ others) ∷ later
  pub left :
      rest ≡ value_lines (length values) (drop (length values) names) others
      ++ behind_values names (values ++ others) later

-- behind the whole cycles a cycle is open: below `next` its values are known, from there on those of the cycle before
-- are
pub record IsCycleLeft
    (names : List TraceName)
    (whole : List (List ℕ))
    (values : List ℕ)
    (next : ℕ)
    (cycles rest : List (List ℕ)) : Type 0 where
  pub others : List ℕ
  pub later : List (List ℕ)
  pub cycles_are : cycles ≡ whole ++ (take next values ++ others) ∷ later
  pub left :
      rest ≡ change_lines next (drop next names) (drop next values) others
      ++ later_lines names (length whole + 1) (take next values ++ others) later

-- the last line was that of the last time
pub record IsNoneLeft (whole : List (List ℕ)) (next : ℕ) (cycles rest : List (List ℕ)) : Type 0 where
  pub some : 0 < length whole
  pub fresh : next ≡ 0
  pub cycles_are : cycles ≡ whole
  pub left : rest ≡ []

-- by the part that was reached, and the names, the whole cycles, the values and the next name so far: which lines of
-- the dump of all these names and cycles are still to come
abbrev pub AreLeft :
    Part → List TraceName → List (List ℕ) → List ℕ → ℕ
    → List TraceName → List (List ℕ) → List (List ℕ) → Type 0
AreLeft Scale names whole values next all cycles rest = rest ≡ header_lines all ++ cycle_lines all cycles
AreLeft Scope names whole values next all cycles rest =
    rest ≡ codes "$scope module rvfi_wrapper $end" ∷ (name_lines 0 all ++ behind_names all cycles)
AreLeft Names names whole values next all cycles rest = AreNamesLeft names all cycles rest
AreLeft Definitions names whole values next all cycles rest =
    (all ≡ names) × (rest ≡ codes "$enddefinitions $end" ∷ cycle_lines names cycles)
AreLeft Start names whole values next all cycles rest = (all ≡ names) × (rest ≡ cycle_lines names cycles)
AreLeft Dump names whole values next all cycles rest = (all ≡ names) × IsDumpLeft names cycles rest
AreLeft Values names whole values next all cycles rest = (all ≡ names) × AreValuesLeft names values cycles rest
AreLeft Changes names whole values next all cycles rest =
    (all ≡ names) × (IsCycleLeft names whole values next cycles rest ⊎ IsNoneLeft whole next cycles rest)

-- the first values, one for each of the first names
abbrev pub AreFirst : List TraceName → List ℕ → Type 0
AreFirst ns [] = Unit {0}
AreFirst [] (v ∷ vs) = ⊥
AreFirst (n ∷ ns) (v ∷ vs) = (v < 2 ^ n.width) × AreFirst ns vs

-- names that a dump can declare
pub record AreNames (names : List TraceName) : Type 0 where
  pub wide : AllByRecursion IsWide names
  pub plain : AllByRecursion IsPlain names

-- no cycle was begun
pub record IsEarly (whole : List (List ℕ)) (values : List ℕ) : Type 0 where
  pub none : whole ≡ []
  pub no_values : values ≡ []

-- whole cycles, and the values of the open one
pub record AreCycles (names : List TraceName) (whole : List (List ℕ)) (values : List ℕ) (next : ℕ) : Type 0 where
  pub whole_are : AllByRecursion (AreValues names) whole
  pub values_are : AreValues names values
  pub within : next ≤ length names
  pub first : whole ≡ [] → next ≡ length names

-- what holds of the names, the whole cycles, the values and the next name in each part
abbrev pub IsReached : Part → List TraceName → List (List ℕ) → List ℕ → ℕ → Type 0
IsReached Scale names whole values next = (names ≡ []) × IsEarly whole values
IsReached Scope names whole values next = (names ≡ []) × IsEarly whole values
IsReached Names names whole values next = AreNames names × IsEarly whole values
IsReached Definitions names whole values next = AreNames names × IsEarly whole values
IsReached Start names whole values next = AreNames names × IsEarly whole values
IsReached Dump names whole values next = AreNames names × IsEarly whole values
IsReached Values names whole values next = AreNames names × (whole ≡ []) × AreFirst names values
IsReached Changes names whole values next = AreNames names × AreCycles names whole values next

-- what a line makes of that: it goes on with exactly the dumps that have the line here
abbrev pub GoesOn :
    Part → List TraceName → List (List ℕ) → List ℕ → ℕ → List ℕ
    → Part → List TraceName → List (List ℕ) → List ℕ → ℕ → Type 0
GoesOn part names whole values next line part2 names2 whole2 values2 next2 =
    IsReached part2 names2 whole2 values2 next2
    × ((t : Trace) (rest : List (List ℕ)) → IsReadable t
    → AreLeft part2 names2 whole2 values2 next2 t.names t.cycles rest
    ↔ AreLeft part names whole values next t.names t.cycles (line ∷ rest))

-- no dump has the line here
abbrev pub StopsAt : Part → List TraceName → List (List ℕ) → List ℕ → ℕ → List ℕ → Type 0
StopsAt part names whole values next line =
    (t : Trace) (rest : List (List ℕ)) → IsReadable t
    → AreLeft part names whole values next t.names t.cycles (line ∷ rest) → ⊥

-- what a reader keeps
abbrev pub IsSound : Reader → Type 0
IsSound r = IsReached r.part r.names.items r.cycles.items r.values.items r.next

-- the lines of a trace's dump that a reader still awaits
abbrev pub Awaits : Reader → Trace → List (List ℕ) → Type 0
Awaits r t rest = AreLeft r.part r.names.items r.cycles.items r.values.items r.next t.names t.cycles rest

-- what a reader makes of a line
abbrev pub Takes : Reader → List ℕ → Bool → Reader → Type 0
Takes old line true new =
    GoesOn old.part old.names.items old.cycles.items old.values.items old.next line
    new.part new.names.items new.cycles.items new.values.items new.next
Takes old line false new = StopsAt old.part old.names.items old.cycles.items old.values.items old.next line

-- one wanted line, and the part behind it
abbrev pub TakesFixed : Reader → List ℕ → List ℕ → Part → Bool → Reader → Type 0
TakesFixed old line wanted part true new = (line ≡ wanted) × (new ≡ record old { part = part })
TakesFixed old line wanted part false new = line ≡ wanted → ⊥

-- the open cycle is whole, and the next begins
pub record IsClosed (old new : Reader) : Type 0 where
  pub part_is : new.part ≡ old.part
  pub names_are : new.names.items ≡ old.names.items
  pub cycles_are : new.cycles.items ≡ old.cycles.items ++ old.values.items ∷ []
  pub values_are : new.values.items ≡ old.values.items
  pub next_is : new.next ≡ 0

-- the dump of this trace alone ends here, and of none
abbrev pub EndsAs : Reader → Trace → Type 0
EndsAs r trace =
    IsReadable trace × Awaits r trace [] × ((t : Trace) → IsReadable t → Awaits r t [] → t ≡ trace)

abbrev pub EndsNowhere : Reader → Type 0
EndsNowhere r = (t : Trace) → IsReadable t → Awaits r t [] → ⊥

-- the one trace whose dump ends here, or that there is none
abbrev pub Finishes : Reader → Option Trace → Type 0
Finishes r result = MatchOption result (EndsNowhere r) (EndsAs r)
