-- The first memories are written, the others are as they were.
use Rattle.std.specs.Prelude.{◌≡◌, refl, ℕ, zero, suc, ◌+◌, ◌<◌, ◌≤◌, List, [], ◌∷◌, length, Some, is_none, slice_get}
use Rattle.std.specs.Prelude.{◌==◌, Bool, true, false}
use Rattle.std.proofs.Common.{ap, sym, ◌∙◌, arith, subst, true≢false, inl, inr}
use Rattle.std.proofs.lemmas.Bool.Decides.{nat_tests}
use Rattle.std.proofs.lemmas.Option.{same_Some}
use Rattle.wn_net.specs.declared.parts.Mem.{Mem}
use Rattle.wn_net.specs.Changes.{Keeps}
use Rattle.wn_net.specs.Net.{Netlist}
use Rattle.vl_lower_spec.specs.Sources.{AreEach}
use Rattle.vl_lower_assign.specs.declared.track.Track.{Track}
use Rattle.vl_lower_state.specs.Stores.{AreStored, IsStored, MayStore, words_at}
use Rattle.vl_lower_state.specs.Writing.{IsAt, IsStoredAt, with_writes, writes_at}
use Rattle.vl_lower_state.proofs.Carried.{may_kept, put_nodes_kept}
use Rattle.vl_lower_state.proofs.Placed.{other_at, this_at}

-- so many of them are written
abbrev pub AreStoredTo : Netlist → List ℕ → List Track → ℕ → List Mem → List ℕ → Type 0
AreStoredTo net cells tracks n ms fs =
    (i : ℕ) (m : Mem) (f : ℕ) → i < n → slice_get ms i ≡ Some m → slice_get fs i ≡ Some f
    → IsStored net cells tracks i m f

-- and those from a place on may be
abbrev pub AreLeft : List Mem → List Mem → ℕ → Type 0
AreLeft old new n = (i : ℕ) → n ≤ i → slice_get new i ≡ slice_get old i

pub all_stored : (net : Netlist) (cells : List ℕ) (tracks : List Track) (number : ℕ) (ms : List Mem) (fs : List ℕ)
    → length ms ≡ length fs
    → ((i : ℕ) (m : Mem) (f : ℕ) → i < length fs → slice_get ms i ≡ Some m → slice_get fs i ≡ Some f
    → IsStored net cells tracks (number + i) m f)
    → AreStored net cells tracks number ms fs
all_stored net cells tracks number [] [] many h = tt
all_stored net cells tracks number [] (f ∷ fs) many h = absurd (omega (arith, many))
all_stored net cells tracks number (m ∷ ms) [] many h = absurd (omega (arith, many))
all_stored net cells tracks number (m ∷ ms) (f ∷ fs) many h =
    let few : length ms ≡ length fs = omega (arith, many) in
    let here : number + 0 ≡ number = omega arith in (
      subst (λ n. IsStored net cells tracks n m f) here (h zero m f (omega arith) refl refl),
      all_stored net cells tracks (number + 1) ms fs few (λ i k g less a b.
          let next : number + suc i ≡ number + 1 + i = omega arith in
          subst (λ n. IsStored net cells tracks n k g) next (h (suc i) k g (omega (arith, less)) a b)),
    )

-- a memory that was written stays so
pub is_stored_kept : (old new : Netlist) → Keeps old new → (cells : List ℕ) (tracks : List Track) (i : ℕ) (m : Mem) (f : ℕ)
    → IsStored old cells tracks i m f → IsStored new cells tracks i m f
is_stored_kept old new keeps cells tracks i m f (inl h) =
    inl (put_nodes_kept old new keeps m.width 0 m.writes (words_at cells m f) h)
is_stored_kept old new keeps cells tracks i m f (inr h) = inr h

pub as_many : (net : Netlist) (cells : List ℕ) (ms : List Mem) (fs : List ℕ) → AreEach (MayStore net cells) ms fs
    → length ms ≡ length fs
as_many net cells [] [] h = refl
as_many net cells [] (f ∷ fs) h = absurd h
as_many net cells (m ∷ ms) [] h = absurd h
as_many net cells (m ∷ ms) (f ∷ fs) h = ap suc (as_many net cells ms fs h.1)

pub may_at : (net : Netlist) (cells : List ℕ) (ms : List Mem) (fs : List ℕ) → AreEach (MayStore net cells) ms fs
    → (i f : ℕ) → slice_get fs i ≡ Some f
    → (m : Mem) × (slice_get ms i ≡ Some m) × MayStore net cells m f
may_at net cells [] [] h i f e = absurd (true≢false (ap is_none e))
may_at net cells [] (g ∷ fs) h i f e = absurd h
may_at net cells (m ∷ ms) [] h i f e = absurd h
may_at net cells (m ∷ ms) (g ∷ fs) h zero f e =
    (m, refl, subst (MayStore net cells m) (same_Some g f e) h.0)
may_at net cells (m ∷ ms) (g ∷ fs) h (suc i) f e = may_at net cells ms fs h.1 i f e

module _ (first_net old new : Netlist) (cells : List ℕ) (tracks : List Track) (fs : List ℕ) (keeps : Keeps old new)
    (at f : ℕ) (of : slice_get fs at ≡ Some f) (one : IsStoredAt old new cells tracks at f) where
  pub stored_more : AreStoredTo old cells tracks at old.mems fs → AreStoredTo new cells tracks (at + 1) new.mems fs
  stored_more h i m g less a b = by (at == i) refl
    where
      here : slice_get (with_writes at (writes_at new.mems at) old.mems) i ≡ Some m
      here = ap (λ ms. slice_get ms i) (sym one.others) ∙ a

      by : (t : Bool) → (at == i) ≡ t → IsStored new cells tracks i m g
      by true e =
          let same : at ≡ i = grind (arith, nat_tests, e) in
          let is : record one.memory { writes = writes_at new.mems at } ≡ m =
          same_Some (record one.memory { writes = writes_at new.mems at }) m
          (sym (this_at at (writes_at new.mems at) old.mems one.memory one.there)
          ∙ ap (slice_get (with_writes at (writes_at new.mems at) old.mems)) same ∙ here) in
          let first : f ≡ g = same_Some f g (sym of ∙ ap (slice_get fs) same ∙ b) in
          subst (λ z. IsStored new cells tracks i z g) is
          (subst (λ z. IsStored new cells tracks i (record one.memory { writes = writes_at new.mems at }) z) first
          (subst (λ n. IsStored new cells tracks n (record one.memory { writes = writes_at new.mems at }) f) same
          one.stored))
      by false e =
          let other : at ≡ i → ⊥ = λ same. absurd (true≢false (sym (same_is same) ∙ e)) in
          let before : i < at = grind (arith, nat_tests, less, e) in
          is_stored_kept old new keeps cells tracks i m g
          (h i m g before (sym (other_at at i (writes_at new.mems at) old.mems other) ∙ here) b)
        where
          same_is : at ≡ i → (at == i) ≡ true
          same_is same = grind (arith, nat_tests, same)

  pub left_less : AreLeft first_net.mems old.mems at → AreLeft first_net.mems new.mems (at + 1)
  left_less h i less =
      ap (λ ms. slice_get ms i) one.others
      ∙ other_at at i (writes_at new.mems at) old.mems (λ same. omega (arith, same, less)) ∙ h i (omega (arith, less))

-- what was to be written still may be
pub still_at : (old new : Netlist) (cells fs : List ℕ) → Keeps old new → AreEach (MayStore old cells) old.mems fs
    → (at f : ℕ) → slice_get fs at ≡ Some f → AreLeft old.mems new.mems at → IsAt new cells at f
still_at old new cells fs keeps may at f e left =
    let m = may_at old cells old.mems fs may at f e in
    record {
      memory = m.0;
      there = left at (omega arith) ∙ m.1;
      may = may_kept old new keeps cells m.0 f m.2;
    }

pub there_at : (xs : List ℕ) (i : ℕ) → i < length xs → (x : ℕ) × (slice_get xs i ≡ Some x)
there_at [] i h = absurd (omega (arith, h))
there_at (x ∷ xs) zero h = (x, refl)
there_at (x ∷ xs) (suc i) h = let less : i < length xs = omega (arith, h) in there_at xs i less
