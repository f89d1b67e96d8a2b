-- A walk over the groups of a set, from the first bit of one to the first bit behind it.
use Rattle.std.specs.Prelude.{◌≡◌, refl, IfSome, ℕ, ◌-◌, ◌<◌, ◌≤◌, ◌^◌, List, [], ◌∷◌}
use Rattle.std.specs.Prelude.{◌++◌, length, true}
use Rattle.std.specs.Prelude.{Option, Some, None, is_none, slice_get}
use Rattle.std.proofs.Common.{ap, sym, ◌∙◌, subst, arith, true≢false, ◌⊎◌, inl, inr}
use Rattle.std.proofs.lemmas.Bool.{cases_lt}
use Rattle.std.proofs.lemmas.Option.{same_Some}
use Rattle.fv_bit_sets.specs.declared.step.Step.{Step}
use Rattle.fv_bit_sets.specs.Cells.{has, IsBare, IsBefore}
use Rattle.fv_graph.proofs.Lists.{get_front, get_last, get_cases}
use Rattle.vl_flow_order.specs.declared.reads_groups.Groups.{Groups}
use Rattle.vl_flow_order.specs.declared.visit.Visit.{Visit}
use Rattle.vl_flow_order.specs.Visits.{AreVisits, HasBit, Stands}

abbrev pub ahead : Option ℕ → ℕ
ahead None = 0
ahead (Some cell) = 2 ^ 64 - cell

-- what comes next isn't before the cell
abbrev pub IsFrom : ℕ → Option ℕ → Type 0
IsFrom from None = Unit {0}
IsFrom from (Some cell) = from ≤ cell

pub nearer : (cell past : ℕ) (next : Option ℕ) → cell < 2 ^ 64 → cell < past → IsFrom past next
    → ahead next < ahead (Some cell)
nearer cell past None few less h = omega (arith, few)
nearer cell past (Some c) few less h = omega (arith, few, less, h)

pub next_set : (bits : List Step) (from : ℕ) (next : Option ℕ)
    → IfSome next (λ cell. (from ≤ cell) × ((bit : ℕ) × (has bits cell bit ≡ true)))
    → (cell : ℕ) → next ≡ Some cell → HasBit bits cell
next_set bits from None h cell e = absurd (true≢false (ap is_none e))
next_set bits from (Some x) h cell e = subst (HasBit bits) (same_Some x cell e) h.1

module _ (groups : Groups) (bits : List Step) where
  pub begun : (next : Option ℕ) → ((cell : ℕ) → next ≡ Some cell → HasBit bits cell)
      → ((cell : ℕ) → 0 ≤ cell → IsBefore cell next → IsBare bits cell)
      → AreVisits groups bits [] next
  begun next set bare = record {
    each = λ m v e. absurd (true≢false (ap is_none e));
    set = λ m v e. absurd (true≢false (ap is_none e));
    next = set;
    all = λ cell bit before less set. absurd (true≢false (sym set ∙ bare cell (omega arith) before bit));
  }

  pub visited : (visits more : List Visit) (cell : ℕ) (v : Visit) (next : Option ℕ)
      → AreVisits groups bits visits (Some cell) → Stands groups cell v → more ≡ visits ++ v ∷ []
      → ((c : ℕ) → next ≡ Some c → HasBit bits c)
      → ((c : ℕ) → v.past ≤ c → IsBefore c next → IsBare bits c) → AreVisits groups bits more next
  visited visits more cell v next were stands e ahead bare = record {
    each = λ m x at. each m x (get_cases visits v m x (ap (λ xs. slice_get xs m) (sym e) ∙ at));
    set = λ m x at. set m x (get_cases visits v m x (ap (λ xs. slice_get xs m) (sym e) ∙ at));
    next = ahead;
    all = λ c bit before less set. all c bit before less set (cases_lt c cell) (cases_lt c v.past);
  }
    where
      each : (m : ℕ) (x : Visit) → (slice_get visits m ≡ Some x) ⊎ ((m ≡ length visits) × (v ≡ x))
          → Stands groups x.first x
      each m x (inl h) = were.each m x h
      each m x (inr h) =
          subst (λ y. Stands groups y.first y) h.1 (subst (λ c. Stands groups c v) (sym stands.first) stands)

      set : (m : ℕ) (x : Visit) → (slice_get visits m ≡ Some x) ⊎ ((m ≡ length visits) × (v ≡ x))
          → HasBit bits x.first
      set m x (inl h) = were.set m x h
      set m x (inr h) =
          subst (λ y. HasBit bits y.first) h.1 (subst (HasBit bits) (sym stands.first) (were.next cell refl))

      all : (c bit : ℕ) → IsBefore c next → c < length groups.of_cells → has bits c bit ≡ true
          → (c < cell) ⊎ (cell ≤ c) → (c < v.past) ⊎ (v.past ≤ c)
          → (m : ℕ) × (x : Visit) × (slice_get more m ≡ Some x) × (x.first ≤ c) × (c < x.past)
      all c bit before less set (inl h) k =
          let r = were.all c bit h less set in
          (r.0, r.1, ap (λ xs. slice_get xs r.0) e ∙ get_front visits v r.0 r.1 r.2, r.3, r.4)
      all c bit before less set (inr h) (inl k) =
          let first : v.first ≤ c = omega (arith, h, stands.first) in
          (length visits, v, ap (λ xs. slice_get xs (length visits)) e ∙ get_last visits v, first, k)
      all c bit before less set (inr h) (inr k) =
          absurd (true≢false (sym set ∙ bare c k before bit))

  -- no cell behind the last one counts
  pub visits_end : (visits : List Visit) (cell : ℕ) → length groups.of_cells ≤ cell
      → AreVisits groups bits visits (Some cell) → AreVisits groups bits visits None
  visits_end visits cell past were = record {
    each = were.each;
    set = were.set;
    next = λ c e. absurd (true≢false (ap is_none e));
    all = λ c bit before less set. were.all c bit (omega (arith, less, past)) less set;
  }
