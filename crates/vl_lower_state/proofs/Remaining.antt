-- What stays of a memory that is kept as one when drivers are settled.
use Rattle.std.specs.Prelude.{◌≡◌, refl, ℕ, zero, suc, ◌+◌, ◌<◌, ◌==◌, List, [], ◌∷◌, Bool, true, false}
use Rattle.std.specs.Prelude.{not, ◌||◌, ◌&&◌, All}
use Rattle.std.specs.Prelude.{Option, None, Some, ℤ, is_none, if◌then◌else◌, slice_get}
use Rattle.std.specs.List.{list_any}
use Rattle.std.proofs.Common.{ap, sym, ◌∙◌, arith, subst, true≢false}
use Rattle.std.proofs.lemmas.Bool.Decides.{nat_tests}
use Rattle.std.proofs.lemmas.Option.{same_Some}
use Rattle.std.proofs.lemmas.Nat.Bits.{same_from_bits_below}
use Rattle.vl_size.specs.declared.decl.Class.TheVariants as class
use Rattle.vl_size.specs.declared.decl.Decl.{Decl}
use Rattle.vl_size.specs.Size.{Values}
use Rattle.vl_size.specs.Table.{AreApart, AreDifferent, IsShaped, declared_as}
use Rattle.vl_mean.specs.declared.driver.Driver.{Driver}
use Rattle.vl_mean.specs.declared.driver.Start.{Start}
use Rattle.vl_mean.specs.Cells.{cells}
use Rattle.vl_mean.specs.FlatLaw.{IsKept, IsLawful, IsMemory, is_variable}
use Rattle.vl_mean.specs.FlatParts.{parts_of}
use Rattle.vl_mean.specs.Parts.{Part}
use Rattle.vl_mean.specs.Runs.{ChoosesAlike, Each, is_chosen, initial_writes, is_driven, last_value}
use Rattle.vl_mean.specs.Scopes.{is_clock_class}
use Rattle.vl_flow_spec.specs.Reads.{IsCellOf}
use Rattle.vl_flow_spec.proofs.Bools.{and_left, and_right, left_none, right_none}
use Rattle.vl_flow_spec.specs.Refusals.{HasNoRefusal}
use Rattle.vl_flow_spec.specs.Sequence.{IsSequence}
use Rattle.vl_flow_spec.proofs.Choices.{chosen_at, in_range_of}
use Rattle.vl_flow_spec.proofs.Elements.{each_of_places}
use Rattle.vl_flow_cells.proofs.Lists.{all_at, contained_at, declared_own}
use Rattle.vl_lower_spec.specs.Maps.{is_split, is_split_at, some_below}
use Rattle.wn_net.specs.Value.{Given}
use Rattle.vl_lower_spec.specs.Built.{AreRanged}
use Rattle.vl_lower_spec.proofs.Agreeing as agreeing
use Rattle.vl_lower_spec.proofs.Kept.{variable_is}
use Rattle.vl_lower_cell_laws.specs.Entries.{MemoriesStand, is_memory, memories_of}

-- ---- where no word is split, none of its bits is driven

no_below : (f : ℕ → Bool) (n k : ℕ) → some_below f n ≡ false → k < n → f k ≡ false
no_below f zero k h less = absurd (omega (arith, less))
no_below f (suc n) k h less =
    by (λ under. no_below f n k (right_none (f n) (some_below f n) h) under) (k == n) refl
  where
    by : (k < n → f k ≡ false) → (b : Bool) → (k == n) ≡ b → f k ≡ false
    by under true e =
        let same : n ≡ k = grind (arith, nat_tests, e) in
        subst (λ i. f i ≡ false) same (left_none (f n) (some_below f n) h)
    by under false e = under (grind (arith, nat_tests, e, less))

no_such : {X : Type 0} (p : X → Bool) (xs : List X) (j : ℕ) (x : X) → list_any p xs ≡ false → slice_get xs j ≡ Some x
    → p x ≡ false
no_such p [] j x h e = absurd (true≢false (ap is_none e))
no_such p (y ∷ ys) zero x h e =
    subst (λ z. p z ≡ false) (same_Some y x e) (left_none (p y) (list_any p ys) h)
no_such p (y ∷ ys) (suc j) x h e = no_such p ys j x (right_none (p y) (list_any p ys) h) e

undriven : (ps : List Part) (d : Decl) (j : ℕ) (n : List ℕ) (k : ℕ) → is_memory ps d ≡ true
    → slice_get (cells d) j ≡ Some n → k < d.width → is_driven ps n k ≡ false
undriven ps d j n k h at less =
    left_none (is_driven ps n k) (first k && not (first 0))
    (left_none (is_driven ps n k || (first k && not (first 0))) (not (first k) && first 0)
    (no_below (λ k. is_driven ps n k || (first k && not (first 0)) || (not (first k) && first 0)) d.width k
    (no_such (is_split_at ps d) (cells d) j n whole at) less))
  where
    first : ℕ → Bool
    first k = is_none (last_value (initial_writes ps) n k)

    has_words : not (is_none d.words) ≡ true
    has_words = and_left (not (is_none d.words)) (not (is_split ps d)) h

    unsplit : is_split ps d ≡ false
    unsplit = is_false (is_split ps d) (and_right (not (is_none d.words)) (not (is_split ps d)) h)
      where
        is_false : (b : Bool) → not b ≡ true → b ≡ false
        is_false true e = sym e
        is_false false e = refl

    whole : list_any (is_split_at ps d) (cells d) ≡ false
    whole = ap (λ b. b && list_any (is_split_at ps d) (cells d)) (sym has_words) ∙ unsplit

-- ---- a memory is of variables

is_of_variables : (words : Option (ℤ × ℤ)) (d : Decl) → IsMemory words d → not (is_none words) ≡ true
    → is_variable d ≡ true
is_of_variables None d h e = absurd (true≢false (sym e))
is_of_variables (Some bounds) d h e = h.2

module _ (ds : List Decl) (drivers : List Driver) (firsts : List Start) (s : List ℕ) (shaped : All IsShaped ds)
    (different : AreDifferent ds) (apart : AreApart ds) (lawful : IsLawful ds drivers firsts)
    (none : HasNoRefusal ds drivers) (order : IsSequence ds drivers s) (u v : Values) (in_u : AreRanged ds u)
    (in_v : AreRanged ds v) (alike : ChoosesAlike (parts_of ds drivers firsts) u v) where
  abbrev ps : List Part
  ps = parts_of ds drivers firsts

  declared : Each (λ d. declared_as ds d.name ≡ Some d) ds
  declared = agreeing.declared ds drivers firsts shaped different apart lawful none s order

  abbrev Stays : Decl → Type 0
  Stays d = is_memory ps d ≡ true → (j : ℕ) (n : List ℕ) → slice_get (cells d) j ≡ Some n → u n ≡ v n

  stays : (d : Decl) → declared_as ds d.name ≡ Some d → IsKept d → Stays d
  stays d own is memory j n at =
      same_from_bits_below d.width (u n) (v n) (in_range_of ds drivers firsts declared u in_u d n of counted)
      (in_range_of ds drivers firsts declared v in_v d n of counted)
      (λ i less. chosen_at ds drivers firsts declared u v alike d n i of less (chosen i less))
    where
      of : IsCellOf ds d n
      of = record { declared = own; cell = contained_at (cells d) j n at }

      class_is : d.class ≡ class.Variable
      class_is =
          variable_is d d.class refl (is_of_variables d.words d is.memory
          (and_left (not (is_none d.words)) (not (is_split ps d)) memory))

      counted : is_clock_class d.class ≡ false
      counted = ap is_clock_class class_is

      chosen : (i : ℕ) → i < d.width → is_chosen ps d.class n i ≡ true
      chosen i less = ap (λ c. is_chosen ps c n i) class_is ∙ ap not (undriven ps d j n i memory at less)

  all_stay : Each Stays ds
  all_stay =
      each_of_places Stays ds (λ i d e.
      stays d (declared_own ds different i d e) (all_at IsKept ds i d e lawful.kept))

  -- the words that stood for the one map stand for the other
  pub memories_stay : (g : Given) → MemoriesStand ps g v ds 0 → MemoriesStand ps g u ds 0
  memories_stay g h = on ds all_stay 0 h
    where
      on : (es : List Decl) → Each Stays es → (m : ℕ) → MemoriesStand ps g v es m → MemoriesStand ps g u es m
      on [] a m h = tt
      on (d ∷ es) a m h = (
        λ memory j n at. a.0 memory j n at ∙ h.0 memory j n at,
        on es a.1 (m + (if is_clock_class d.class then 0 else memories_of ps d)) h.1,
      )
