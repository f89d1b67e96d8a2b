-- Each entry of a lowered net's names is a declared name, or the name of a memory's word.
use Rattle.std.specs.Prelude.{ℕ, List, [], ◌∷◌, ◌++◌, map, All, Bool, true, false, if◌then◌else◌}
use Rattle.std.specs.List.{AllByRecursion}
use Rattle.std.proofs.Common.{sym, subst}
use Rattle.std.proofs.lemmas.List.Elements.{All-from_recursion, All-weaker, recursion_from_All}
use Rattle.vl_size.specs.declared.decl.Decl.{Decl}
use Rattle.vl_mean.specs.declared.driver.Driver.{Driver}
use Rattle.vl_mean.specs.declared.driver.DriverKind.{DriverKind}
use Rattle.vl_mean.specs.declared.driver.DriverKind.TheVariants as k
use Rattle.vl_mean.specs.declared.driver.Start.{Start}
use Rattle.vl_mean.specs.Cells.{cells}
use Rattle.vl_mean.specs.FlatLaw.{IsKept, flat_scopes}
use Rattle.vl_mean.specs.FlatParts.{driver_part, parts_of, start_part}
use Rattle.vl_mean.specs.Parts.{Part, declares, equation, combinational, clocked, starts}
use Rattle.vl_mean.specs.Scopes.{Scope, is_clock_class}
use Rattle.wn_net.specs.declared.names.NetName.{NetName}
use Rattle.vl_lower_spec.specs.Maps.{AreEntriesOf, as_vectors, is_split, listed, listed_in, listed_of}
use Rattle.vl_lower_spec.specs.Graphic.{NamesAreGraphic}
use Rattle.vl_lower_spec.proofs.Texts.{IsShown, Shown, both, cells_shown}

-- ---- names that are listed

abbrev HasShown : Decl → Type 0
HasShown d = Shown d.name

vectors_shown : (d : Decl) (texts : List (List ℕ)) → AllByRecursion Shown texts
    → AllByRecursion HasShown (as_vectors d texts)
vectors_shown d [] h = tt
vectors_shown d (t ∷ ts) h = (h.0, vectors_shown d ts h.1)

one_shown : (ps : List Part) (d : Decl) → HasShown d → AllByRecursion HasShown (listed_of ps d)
one_shown ps d h = by (is_split ps d)
  where
    by : (b : Bool) → AllByRecursion HasShown (if b then as_vectors d (cells d) else d ∷ [])
    by true = vectors_shown d (cells d) (cells_shown d.name d.words h)
    by false = (h, tt)

-- what a part declares has such a name
abbrev DeclaresShown : Part → Type 0
DeclaresShown (declares d) = HasShown d
DeclaresShown (equation ts l ss e) = Unit {0}
DeclaresShown (combinational ss s) = Unit {0}
DeclaresShown (clocked ss s) = Unit {0}
DeclaresShown (starts ss l e) = Unit {0}

listed_shown : (whole ps : List Part) → AllByRecursion DeclaresShown ps
    → AllByRecursion HasShown (listed_in whole ps)
listed_shown whole [] h = tt
listed_shown whole (declares d ∷ ps) h = by (is_clock_class d.class) (listed_shown whole ps h.1)
  where
    by : (b : Bool) → AllByRecursion HasShown (listed_in whole ps)
        → AllByRecursion HasShown (if b then listed_in whole ps else listed_of whole d ++ listed_in whole ps)
    by true more = more
    by false more = both HasShown (listed_of whole d) (listed_in whole ps) (one_shown whole d h.0) more
listed_shown whole (equation ts l ss e ∷ ps) h = listed_shown whole ps h.1
listed_shown whole (combinational ss s ∷ ps) h = listed_shown whole ps h.1
listed_shown whole (clocked ss s ∷ ps) h = listed_shown whole ps h.1
listed_shown whole (starts ss l e ∷ ps) h = listed_shown whole ps h.1

-- ---- the parts of a design without hierarchy

decls_shown : (ds : List Decl) → AllByRecursion HasShown ds → AllByRecursion DeclaresShown (map (λ d. declares d) ds)
decls_shown [] h = tt
decls_shown (d ∷ ds) h = (h.0, decls_shown ds h.1)

driver_shown : (ss : List Scope) (x : DriverKind) → DeclaresShown (driver_part ss x)
driver_shown ss (k.Assign l e) = tt
driver_shown ss (k.Comb s) = tt
driver_shown ss (k.Clocked s) = tt

drivers_shown : (ss : List Scope) (drivers : List Driver)
    → AllByRecursion DeclaresShown (map (λ x. driver_part ss x.what) drivers)
drivers_shown ss [] = tt
drivers_shown ss (x ∷ drivers) = (driver_shown ss x.what, drivers_shown ss drivers)

starts_shown : (ss : List Scope) (xs : List Start) → AllByRecursion DeclaresShown (map (start_part ss) xs)
starts_shown ss [] = tt
starts_shown ss (x ∷ xs) = (tt, starts_shown ss xs)

parts_shown : (ds : List Decl) (drivers : List Driver) (xs : List Start) → AllByRecursion HasShown ds
    → AllByRecursion DeclaresShown (parts_of ds drivers xs)
parts_shown ds drivers xs h =
    let ss = flat_scopes ds in
    let declared = map (λ d. declares d) ds in
    let driven = map (λ (x : Driver). driver_part ss x.what) drivers in
    both DeclaresShown (declared ++ driven) (map (start_part ss) xs)
    (both DeclaresShown declared driven (decls_shown ds h) (drivers_shown ss drivers)) (starts_shown ss xs)

-- ---- entries

abbrev IsEntryShown : NetName → Type 0
IsEntryShown x = Shown x.text

entries_shown : (ds : List Decl) (xs : List NetName) → AllByRecursion HasShown ds → AreEntriesOf ds xs
    → AllByRecursion IsEntryShown xs
entries_shown [] [] h e = tt
entries_shown [] (x ∷ xs) h e = absurd e
entries_shown (d ∷ ds) [] h e = absurd e
entries_shown (d ∷ ds) (x ∷ xs) h e = (subst Shown (sym e.0.text) h.0, entries_shown ds xs h.1 e.1)

pub names_graphic : NamesAreGraphic
names_graphic ds drivers xs net names kept lowered =
    let ps = parts_of ds drivers xs in
    let named = recursion_from_All HasShown ds
    (All-weaker IsKept HasShown (λ d h. recursion_from_All IsShown d.name h.graphic) ds kept) in
    let shown = entries_shown (listed ps) names.list (listed_shown ps ps (parts_shown ds drivers xs named))
    lowered.entries in
    All-weaker IsEntryShown (λ x. All IsShown x.text) (λ x h. All-from_recursion IsShown x.text h) names.list
    (All-from_recursion IsEntryShown names.list shown)
