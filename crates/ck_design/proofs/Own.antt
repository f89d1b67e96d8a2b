-- No two names of a lawful design's trace have one text.
use Rattle.std.specs.Prelude.{◌≡◌, refl, ℕ, suc, List, [], ◌∷◌, ◌++◌, map, Bool, true, false, All, Some}
use Rattle.std.specs.Prelude.{bytes_eq, slice_get, if◌then◌else◌}
use Rattle.std.specs.List.{AllByRecursion, IsDistinct}
use Rattle.std.proofs.Common.{ap, sym, ◌∙◌, arith, subst, append_assoc}
use Rattle.std.proofs.lemmas.Slice.Eq.{bytes_eq-Decides}
use Rattle.fv_text.specs.declared.trace.TraceName.{TraceName}
use Rattle.vl_size.specs.declared.decl.Decl.{Decl}
use Rattle.vl_size.specs.Table.{AreApart, AreDifferent}
use Rattle.vl_mean.specs.declared.driver.Driver.{Driver}
use Rattle.vl_mean.specs.declared.driver.DriverKind.{DriverKind}
use Rattle.vl_mean.specs.declared.driver.DriverKind.TheVariants as k
use Rattle.vl_mean.specs.declared.driver.Start.{Start}
use Rattle.vl_mean.specs.Cells.{cells}
use Rattle.vl_mean.specs.FlatLaw.{IsKept, flat_scopes}
use Rattle.vl_mean.specs.FlatParts.{driver_part, parts_of, start_part}
use Rattle.vl_mean.specs.Parts.{Part, declares}
use Rattle.vl_mean.specs.Scopes.{Scope, is_clock_class}
use Rattle.vl_flow_cells.specs.Numbered.{all_cells}
use Rattle.vl_flow_cells.proofs.Numbers.{own_number}
use Rattle.ck_design.specs.Traces.{HaveOwnNames, shown, shown_by}
use Rattle.ck_design.proofs.Names.{named}
use Rattle.ck_design.proofs.Texts.{Different, Lacks, different_back, lacks_back, lacks_front}

-- ---- texts of which each stands at one place

lacks : (t : List ℕ) (us : List (List ℕ)) → ((j : ℕ) (n : List ℕ) → slice_get us j ≡ Some n → n ≡ t → ⊥) → Lacks us t
lacks t [] h = tt
lacks t (u ∷ us) h = (by (bytes_eq t u) refl, lacks t us (λ j n e f. h (suc j) n e f))
  where
    by : (b : Bool) → bytes_eq t u ≡ b → bytes_eq t u ≡ false
    by true e = absurd (h 0 u refl (sym ((bytes_eq-Decides t u).0 e)))
    by false e = e

once : (ts : List (List ℕ)) → ((c e : ℕ) (n : List ℕ) → slice_get ts c ≡ Some n → slice_get ts e ≡ Some n → c ≡ e)
    → Different ts
once [] h = tt
once (t ∷ ts) h = (
  lacks t ts (λ j n e f. absurd (omega (arith, h 0 (suc j) n (ap Some (sym f)) e))),
  once ts (λ c e n f g. omega (arith, h (suc c) (suc e) n f g)),
)

-- ---- the names of declarations

abbrev shown_all : List Decl → List TraceName
shown_all [] = []
shown_all (d ∷ ds) = if is_clock_class d.class then shown_all ds else shown_by d ++ shown_all ds

abbrev IsOther : List ℕ → TraceName → Type 0
IsOther t n = bytes_eq t n.text ≡ false

lacks_named : (t : List ℕ) (width : ℕ) (ts : List (List ℕ)) (rest : List TraceName) → Lacks ts t
    → AllByRecursion (IsOther t) rest → AllByRecursion (IsOther t) (map (named width) ts ++ rest)
lacks_named t width [] rest h r = r
lacks_named t width (u ∷ us) rest h r = (h.0, lacks_named t width us rest h.1 r)

lacks_shown : (t : List ℕ) (ds : List Decl) → Lacks (all_cells ds) t → AllByRecursion (IsOther t) (shown_all ds)
lacks_shown t [] h = tt
lacks_shown t (d ∷ ds) h =
    by (is_clock_class d.class) (lacks_shown t ds (lacks_back (cells d) (all_cells ds) t h))
  where
    by : (b : Bool) → AllByRecursion (IsOther t) (shown_all ds)
        → AllByRecursion (IsOther t) (if b then shown_all ds else shown_by d ++ shown_all ds)
    by true r = r
    by false r = lacks_named t d.width (cells d) (shown_all ds) (lacks_front (cells d) (all_cells ds) t h) r

abbrev AreOwn : List TraceName → Type 0
AreOwn ns = IsDistinct (λ (a b : TraceName). bytes_eq a.text b.text) ns

own_named : (width : ℕ) (ts : List (List ℕ)) (ds : List Decl) → Different (ts ++ all_cells ds) → AreOwn (shown_all ds)
    → AreOwn (map (named width) ts ++ shown_all ds)
unfolding IsDistinct
own_named width [] ds h r = r
own_named width (t ∷ ts) ds h r = (
  lacks_named t width ts (shown_all ds) (lacks_front ts (all_cells ds) t h.0)
      (lacks_shown t ds (lacks_back ts (all_cells ds) t h.0)),
  own_named width ts ds h.1 r,
)

own_all : (ds : List Decl) → Different (all_cells ds) → AreOwn (shown_all ds)
unfolding IsDistinct
own_all [] h = tt
own_all (d ∷ ds) h = by (is_clock_class d.class) (own_all ds (different_back (cells d) (all_cells ds) h))
  where
    by : (b : Bool) → AreOwn (shown_all ds) → AreOwn (if b then shown_all ds else shown_by d ++ shown_all ds)
    by true r = r
    by false r = own_named d.width (cells d) ds h r

-- ---- the parts of a design without hierarchy

driver_none : (ss : List Scope) (x : DriverKind) (rest : List Part) → shown (driver_part ss x ∷ rest) ≡ shown rest
driver_none ss (k.Assign l e) rest = refl
driver_none ss (k.Comb s) rest = refl
driver_none ss (k.Clocked s) rest = refl

starts_none : (ss : List Scope) (xs : List Start) → shown (map (start_part ss) xs) ≡ []
starts_none ss [] = refl
starts_none ss (x ∷ xs) = starts_none ss xs

drivers_none : (ss : List Scope) (drivers : List Driver) (xs : List Start)
    → shown (map (λ x. driver_part ss x.what) drivers ++ map (start_part ss) xs) ≡ []
drivers_none ss [] xs = starts_none ss xs
drivers_none ss (x ∷ drivers) xs =
    driver_none ss x.what (map (λ y. driver_part ss y.what) drivers ++ map (start_part ss) xs)
    ∙ drivers_none ss drivers xs

shown_parts : (ds : List Decl) (rest : List Part) → shown rest ≡ []
    → shown_all ds ≡ shown (map (λ d. declares d) ds ++ rest)
shown_parts [] rest h = sym h
shown_parts (d ∷ ds) rest h =
    let more = shown_parts ds rest h in
    λ i. if is_clock_class d.class then more i else shown_by d ++ more i

pub own_names : (ds : List Decl) (drivers : List Driver) (starts : List Start) → AreDifferent ds → AreApart ds
    → All IsKept ds → HaveOwnNames (parts_of ds drivers starts)
own_names ds drivers xs different apart kept =
    let ss = flat_scopes ds in
    let driven = map (λ (x : Driver). driver_part ss x.what) drivers in
    let begun = map (start_part ss) xs in
    subst AreOwn
    (shown_parts ds (driven ++ begun) (drivers_none ss drivers xs)
    ∙ ap shown (sym (append_assoc (map (λ d. declares d) ds) driven begun)))
    (own_all ds (once (all_cells ds) (own_number ds different apart kept)))
