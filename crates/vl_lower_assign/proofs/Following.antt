-- What becomes of memories' writes where cells are written.
use Rattle.std.specs.Prelude.{◌≡◌, refl, ℕ, ◌+◌, ◌<◌, ◌≤◌, nat_lt, Bool, true, false, List, ◌∷◌, [], length}
use Rattle.std.specs.Prelude.{Option, Some, None, IfSome, slice_set, slice_index_or, zero, suc}
use Rattle.std.proofs.Common.{sym, arith, subst, ◌⊎◌, inl, inr}
use Rattle.std.proofs.lemmas.Bool.Decides.{nat_tests}
use Rattle.std.proofs.lemmas.List.{get_or-set_same, get_or-set_other, length-set}
use Rattle.wn_net.specs.declared.parts.MemWrite.{MemWrite}
use Rattle.vl_lower_assign.specs.declared.track.Track.{Track}
use Rattle.vl_lower_assign.specs.declared.track.WordsWrite.{WordsWrite}
use Rattle.vl_lower_assign.specs.Tracks.{AreApart, AreOff, FollowAll, Follows, IsOneMore, no_track, track_at}

known_or : (o : Option (List MemWrite)) (X : Type 0) (M : List MemWrite → Type 0) → X
    → IfSome o (λ ws. ((o ≡ Some ws) × X) ⊎ M ws)
known_or None X M x = tt
known_or (Some ws) X M x = inl (refl, x)

-- a memory of which no cell is written
unchanged : (first count : ℕ) (made : Option WordsWrite) (t : Track) → AreOff first count t.first t.count
    → Follows first count made t t
unchanged first count made t off = record {
  first_is = refl;
  count_is = refl;
  writes = known_or t.writes (AreOff first count t.first t.count) _ off;
}

-- one whose writes are given up
gone : (first count : ℕ) (made : Option WordsWrite) (t u : Track) → u.first ≡ t.first → u.count ≡ t.count
    → u.writes ≡ None → Follows first count made t u
gone first count made t u f c none = record {
  first_is = f;
  count_is = c;
  writes =
      subst (λ (o : Option (List MemWrite)). IfSome o (λ ws. ((t.writes ≡ Some ws) × AreOff first count t.first t.count)
      ⊎ IsOneMore made t ws)) (sym none) tt;
}

-- none of the others has a cell from the first of the last one that begins in front of the end
off_of : (first count last : ℕ) (ts : List Track) → AreApart ts
    → ((i : ℕ) → last + 1 ≤ i → i < length ts → first + count ≤ (track_at ts i).first)
    → (track_at ts last).first ≤ first → last < length ts
    → (i : ℕ) → i < length ts → (i ≡ last → ⊥) → AreOff first count (track_at ts i).first (track_at ts i).count
off_of first count last ts apart later start there i less other = by (nat_lt i last) refl
  where
    by : (b : Bool) → nat_lt i last ≡ b → AreOff first count (track_at ts i).first (track_at ts i).count
    by true t =
        let before : i < last = grind (arith, nat_tests, t) in
        inl (omega (arith, apart i last before there, start))
    by false t =
        let past : last ≤ i = grind (arith, nat_tests, t) in
        inr (later i (omega (arith, past, other)) less)

same_or_not : (i last : ℕ) → (i ≡ last) ⊎ (i ≡ last → ⊥)
same_or_not i last = by (nat_lt i last) refl (nat_lt last i) refl
  where
    by : (b : Bool) → nat_lt i last ≡ b → (d : Bool) → nat_lt last i ≡ d → (i ≡ last) ⊎ (i ≡ last → ⊥)
    by true t d u = let less : i < last = grind (arith, nat_tests, t) in inr (λ e. omega (arith, e, less))
    by false t true u = let less : last < i = grind (arith, nat_tests, u) in inr (λ e. omega (arith, e, less))
    by false t false u =
        let below : last ≤ i = grind (arith, nat_tests, t) in
        let above : i ≤ last = grind (arith, nat_tests, u) in inl (omega (arith, below, above))

-- where the last of them ends in front of the cells
pub none_met : (first count last : ℕ) (made : Option WordsWrite) (ts : List Track) → AreApart ts
    → ((i : ℕ) → last + 1 ≤ i → i < length ts → first + count ≤ (track_at ts i).first)
    → (track_at ts last).first + (track_at ts last).count ≤ first → last < length ts
    → FollowAll first count made ts ts
none_met first count last made ts apart later ends there = record {
  many = refl;
  each = λ i less. unchanged first count made (track_at ts i) (by i less (same_or_not i last));
}
  where
    by : (i : ℕ) → i < length ts → (i ≡ last) ⊎ (i ≡ last → ⊥)
        → AreOff first count (track_at ts i).first (track_at ts i).count
    by i less (inl e) =
        subst (λ k. AreOff first count (track_at ts k).first (track_at ts k).count) (sym e) (inl ends)
    by i less (inr other) = off_of first count last ts apart later (omega (arith, ends)) there i less other

-- another one in the place of one, and as they were else
changed_at : (first count last : ℕ) (made : Option WordsWrite) (ts : List Track) (u : Track) → AreApart ts
    → ((i : ℕ) → i < length ts → (i ≡ last → ⊥) → AreOff first count (track_at ts i).first (track_at ts i).count)
    → last < length ts → Follows first count made (track_at ts last) u
    → FollowAll first count made ts (slice_set ts last u)
changed_at first count last made ts u apart off there follow = record {
  many = length-set ts last u;
  each = λ i less. by i less (same_or_not i last);
}
  where
    us : List Track
    us = slice_set ts last u

    by : (i : ℕ) → i < length ts → (i ≡ last) ⊎ (i ≡ last → ⊥)
        → Follows first count made (track_at ts i) (track_at us i)
    by i less (inl e) =
        subst (λ k. Follows first count made (track_at ts k) (track_at us k)) (sym e)
        (subst (λ t. Follows first count made (track_at ts last) t) (sym (get_or-set_same ts last u no_track there)) follow)
    by i less (inr other) =
        subst (λ t. Follows first count made (track_at ts i) t)
        (sym (get_or-set_other ts last i u no_track other))
        (unchanged first count made (track_at ts i) (off i less other))

-- the last of them is given up
pub last_gone : (first count last : ℕ) (made : Option WordsWrite) (ts : List Track) (u : Track) → AreApart ts
    → ((i : ℕ) → last + 1 ≤ i → i < length ts → first + count ≤ (track_at ts i).first)
    → (track_at ts last).first ≤ first → last < length ts → u.first ≡ (track_at ts last).first
    → u.count ≡ (track_at ts last).count → u.writes ≡ None → FollowAll first count made ts (slice_set ts last u)
last_gone first count last made ts u apart later start there f c none =
    changed_at first count last made ts u apart (off_of first count last ts apart later start there) there
    (gone first count made (track_at ts last) u f c none)

-- one that is read is the one that is there
pub is_track : (ts : List Track) (i : ℕ) (d : Track) → i < length ts → slice_index_or ts i d ≡ track_at ts i
is_track [] k d h = absurd (omega (arith, h))
is_track (x ∷ xs) zero d h = refl
is_track (x ∷ xs) (suc k) d h = is_track xs k d (omega (arith, h))
