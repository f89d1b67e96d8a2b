-- The entries by first cells are those of the design's names.
use Rattle.std.specs.Prelude.{◌≡◌, refl, ℕ, zero, suc, ◌+◌, ◌<◌, ◌≤◌, ◌==◌, List, [], ◌∷◌, ◌++◌, length, drop, All}
use Rattle.std.specs.Prelude.{Bool}
use Rattle.std.specs.Prelude.{true, false, Some, None, is_none, if◌then◌else◌, slice_get}
use Rattle.std.proofs.Common.{ap, sym, ◌∙◌, arith, true≢false}
use Rattle.std.proofs.lemmas.Bool.Decides.{nat_tests}
use Rattle.std.proofs.lemmas.List.Elements.{All-head, All-tail}
use Rattle.vl_size.specs.declared.decl.Class.{Class}
use Rattle.vl_size.specs.declared.decl.Class.TheVariants as class
use Rattle.vl_size.specs.declared.decl.Decl.{Decl}
use Rattle.vl_mean.specs.Cells.{cells}
use Rattle.vl_mean.specs.FlatLaw.{IsKept}
use Rattle.vl_mean.specs.Parts.{Part}
use Rattle.vl_mean.specs.Scopes.{is_clock_class}
use Rattle.vl_lower_spec.proofs.Kept.{variable_is}
use Rattle.vl_lower_cell_laws.specs.Entries.{all_entries, is_memory, memory_entry, node_entries}
use Rattle.vl_lower_state.specs.Held.{firsts_in, memory_firsts}
use Rattle.vl_lower_cell_laws.proofs.ShownCounted.{memory_is_variable}
use Rattle.vl_lower_state.proofs.Memories.{some_cell}
use Rattle.vl_lower.specs.Listed.{EntriesAreThose, entries_by, is_first, is_some_of}

-- what is first behind a list's front
pub behind : (xs : List ℕ) (m x : ℕ) (ys : List ℕ) → drop m xs ≡ x ∷ ys
    → (slice_get xs m ≡ Some x) × (drop (m + 1) xs ≡ ys)
behind [] zero x ys e = absurd (true≢false (ap (λ zs. is_none (slice_get zs 0)) e))
behind [] (suc m) x ys e = absurd (true≢false (ap (λ zs. is_none (slice_get zs 0)) e))
behind (y ∷ xs) zero x ys e = (ap (λ zs. slice_get zs 0) e, ap rest e)
  where
    rest : List ℕ → List ℕ
    rest [] = []
    rest (z ∷ zs) = zs
behind (y ∷ xs) (suc m) x ys e =
    let r = behind xs m x ys e in
    let same : suc m + 1 ≡ suc (m + 1) = omega arith in
    (r.0, ap (λ n. drop n (y ∷ xs)) same ∙ r.1)

pub none_behind : (xs : List ℕ) (m : ℕ) → drop m xs ≡ [] → slice_get xs m ≡ None
none_behind [] m e = refl
none_behind (y ∷ xs) zero e = absurd (true≢false (sym (ap (λ zs. is_none (slice_get zs 0)) e)))
none_behind (y ∷ xs) (suc m) e = none_behind xs m e

module _ (ps : List Part) where
  -- all first cells are at or behind where they begin
  abbrev IsFrom : ℕ → List ℕ → Type 0
  IsFrom first [] = Unit {0}
  IsFrom first (x ∷ xs) = first ≤ x

  later : (first n : ℕ) (xs : List ℕ) → first ≤ n → IsFrom n xs → IsFrom first xs
  later first n [] le h = tt
  later first n (x ∷ xs) le h = omega (arith, le, h)

  from_class : (d : Decl) (c : Class) (first : ℕ) (rest : List ℕ) → IsFrom first rest
      → IsFrom first (firsts_in ps d c first ++ rest)
  from_class d class.Variable first rest h = by (is_memory ps d)
    where
      by : (b : Bool) → IsFrom first ((if b then first ∷ [] else []) ++ rest)
      by true = omega arith
      by false = h
  from_class d class.Clock first rest h = h
  from_class d class.Reset first rest h = h
  from_class d class.Input first rest h = h
  from_class d class.Net first rest h = h
  from_class d class.EachCycle first rest h = h
  from_class d class.Once first rest h = h

  all_from : (ds : List Decl) (first : ℕ) → IsFrom first (memory_firsts ps ds first)
  all_from [] first = tt
  all_from (d ∷ ds) first =
      from_class d d.class first (memory_firsts ps ds (first + length (cells d)))
      (later first (first + length (cells d)) (memory_firsts ps ds (first + length (cells d))) (omega arith)
      (all_from ds (first + length (cells d))))

  -- what is no memory has no first cell among them
  not_first : (firsts : List ℕ) (m first n : ℕ) (xs : List ℕ) → drop m firsts ≡ xs → first < n → IsFrom n xs
      → is_first firsts m first ≡ false
  not_first firsts m first n [] e less h = ap (λ o. is_some_of o first) (none_behind firsts m e)
  not_first firsts m first n (x ∷ xs) e less h =
      let other : (x == first) ≡ false = grind (arith, nat_tests, less, h) in
      ap (λ o. is_some_of o first) (behind firsts m x xs e).0 ∙ other

  of_class : (d : Decl) (c : Class) (first : ℕ) → d.class ≡ c → is_memory ps d ≡ false → firsts_in ps d c first ≡ []
  of_class d class.Variable first is e = ap (λ (b : Bool). if b then first ∷ [] else []) e
  of_class d class.Clock first is e = refl
  of_class d class.Reset first is e = refl
  of_class d class.Input first is e = refl
  of_class d class.Net first is e = refl
  of_class d class.EachCycle first is e = refl
  of_class d class.Once first is e = refl

  clock_has_none : (d : Decl) (c : Class) (first : ℕ) → is_clock_class c ≡ true → firsts_in ps d c first ≡ []
  clock_has_none d class.Clock first e = refl
  clock_has_none d class.Variable first e = absurd (true≢false (sym e))
  clock_has_none d class.Reset first e = refl
  clock_has_none d class.Input first e = refl
  clock_has_none d class.Net first e = refl
  clock_has_none d class.EachCycle first e = refl
  clock_has_none d class.Once first e = refl

  those_from : (firsts nodes : List ℕ) (ds : List Decl) → All IsKept ds → (first m : ℕ)
      → drop m firsts ≡ memory_firsts ps ds first → entries_by firsts ds nodes first m ≡ all_entries ps ds nodes first m
  those_from firsts nodes [] kept first m e = refl
  those_from firsts nodes (d ∷ ds) kept first m e =
      by (is_clock_class d.class) (is_memory ps d) refl refl (λ k f.
      those_from firsts nodes ds (All-tail IsKept d ds kept) (first + length (cells d)) k f)
    where
      past : ℕ
      past = first + length (cells d)

      More : Type 0
      More = (k : ℕ) → drop k firsts ≡ memory_firsts ps ds past
          → entries_by firsts ds nodes past k ≡ all_entries ps ds nodes past k

      by : (c b : Bool) → is_clock_class d.class ≡ c → is_memory ps d ≡ b → More
          → (if is_clock_class d.class then [] else (if is_first firsts m first then memory_entry d m ∷ []
          else node_entries d nodes first (cells d)))
          ++ entries_by firsts ds nodes past
          (if is_clock_class d.class then m else (if is_first firsts m first then m + 1 else m))
          ≡ (if is_clock_class d.class then all_entries ps ds nodes past m
          else (if is_memory ps d then memory_entry d m ∷ [] else node_entries d nodes first (cells d))
          ++ all_entries ps ds nodes past (m + (if is_memory ps d then 1 else 0)))
      by true b c i more =
          (λ j. (if c j then [] else (if is_first firsts m first then memory_entry d m ∷ []
          else node_entries d nodes first (cells d)))
          ++ entries_by firsts ds nodes past (if c j then m else (if is_first firsts m first then m + 1 else m)))
          ∙ more m (e ∙ ap (λ xs. xs ++ memory_firsts ps ds past) (clock_has_none d d.class first c))
          ∙ sym (ap (λ (z : Bool). if z then all_entries ps ds nodes past m
          else (if is_memory ps d then memory_entry d m ∷ [] else node_entries d nodes first (cells d))
          ++ all_entries ps ds nodes past (m + (if is_memory ps d then 1 else 0))) c)
      by false true c i more =
          let is : d.class ≡ class.Variable =
          variable_is d d.class refl (memory_is_variable ps d (All-head IsKept d ds kept).memory i) in
          let front : firsts_in ps d d.class first ≡ first ∷ [] =
          ap (λ z. firsts_in ps d z first) is ∙ ap (λ (z : Bool). if z then first ∷ [] else []) i in
          let r = behind firsts m first (memory_firsts ps ds past)
          (e ∙ ap (λ xs. xs ++ memory_firsts ps ds past) front) in
          let own : (first == first) ≡ true = grind (arith, nat_tests) in
          let test : is_first firsts m first ≡ true = ap (λ o. is_some_of o first) r.0 ∙ own in
          (λ j. (if c j then [] else (if test j then memory_entry d m ∷ []
          else node_entries d nodes first (cells d)))
          ++ entries_by firsts ds nodes past (if c j then m else (if test j then m + 1 else m)))
          ∙ ap (λ xs. memory_entry d m ∷ xs) (more (m + 1) r.1)
          ∙ sym (λ j. if c j then all_entries ps ds nodes past m
          else (if i j then memory_entry d m ∷ [] else node_entries d nodes first (cells d))
          ++ all_entries ps ds nodes past (m + (if i j then 1 else 0)))
      by false false c i more =
          let f : drop m firsts ≡ memory_firsts ps ds past =
          e ∙ ap (λ xs. xs ++ memory_firsts ps ds past) (of_class d d.class first refl i) in
          let less : first < past = omega (arith, some_cell d) in
          let test : is_first firsts m first ≡ false =
          not_first firsts m first past (memory_firsts ps ds past) f less (all_from ds past) in
          let same : m + 0 ≡ m = omega arith in
          (λ j. (if c j then [] else (if test j then memory_entry d m ∷ []
          else node_entries d nodes first (cells d)))
          ++ entries_by firsts ds nodes past (if c j then m else (if test j then m + 1 else m)))
          ∙ ap (λ xs. node_entries d nodes first (cells d) ++ xs)
          (more m f ∙ ap (all_entries ps ds nodes past) (sym same))
          ∙ sym (λ j. if c j then all_entries ps ds nodes past m
          else (if i j then memory_entry d m ∷ [] else node_entries d nodes first (cells d))
          ++ all_entries ps ds nodes past (m + (if i j then 1 else 0)))

pub those : EntriesAreThose
those ds ps firsts nodes kept e = those_from ps firsts nodes ds kept 0 0 e
