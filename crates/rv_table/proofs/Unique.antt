-- No word matches two rows: any two rows ask for different numbers in the same bits.
use Rattle.std.proofs.Common.{subst, suc, zero, cond, find, IfSome, IfNone, ◌≡◌, ℕ, ◌%◌, Bool, true, false, not, ◌&&◌}
use Rattle.std.proofs.Common.{◌||◌, ◌==◌, List, [], ◌∷◌, Option, Some, None, slice_get, refl, sym, ap, arith}
use Rattle.std.proofs.lemmas.Grind.{common_steps}
use Rattle.std.specs.List.{list_all, list_any}
use Rattle.rv_table.specs.declared.row.BaseRow.TheVariants.{Lui, Auipc, Jal, Jalr, Branch, Load, Store, Immediate}
use Rattle.rv_table.specs.declared.row.BaseRow.TheVariants.{Register, Multiply}
use Rattle.rv_table.specs.declared.row.RowId.{RowId}
use Rattle.rv_table.specs.declared.row.RowId.TheVariants.{Base, Compressed}
use Rattle.rv_table.specs.Fields.{field}
use Rattle.rv_table.specs.Rows.{base_row}
use Rattle.rv_table.specs.declared.demand.Demand.{Demand}
use Rattle.rv_table.specs.declared.demand.Demand.TheVariants.{Is, Isnt, SomeOfSix}
use Rattle.rv_table.specs.Compressed.{meets}
use Rattle.std.proofs.lemmas.Bool.{false_from_ne_true}
use Rattle.rv_table.specs.declared.retire.Isa.{Isa}
use Rattle.rv_table.specs.Matching.{demands, matches, has, IsMatch, is_of_m, is_of_c, rows, number}
use Rattle.rv_table.proofs.Places.{row_at}
use Rattle.rv_table.proofs.AssembledLemmas.{first_true, second_true}

-- no word meets both
abbrev opposed : Demand → Demand → Bool
opposed (Is h l n) (Is k m o) = h == k && (l == m && not (n == o))
opposed (Is h l n) (Isnt k m o) = h == k && (l == m && n == o)
opposed (Is h l n) SomeOfSix = false
opposed (Isnt h l n) (Is k m o) = h == k && (l == m && n == o)
opposed (Isnt h l n) (Isnt k m o) = false
opposed (Isnt h l n) SomeOfSix = false
opposed SomeOfSix e = false

abbrev clash : List Demand → List Demand → Bool
clash ds es = list_any (λ d. list_any (opposed d) es) ds

-- a whole word ends in two ones
abbrev all_demands : RowId → List Demand
all_demands (Base row) = Is 1 0 3 ∷ demands (Base row)
all_demands (Compressed row) = demands (Compressed row)

abbrev apart : RowId → RowId → Bool
apart r s = number r == number s || clash (all_demands r) (all_demands s)

abbrev ends_in_ones : RowId → Bool
ends_in_ones (Base row) = (base_row row).pattern.opcode % 4 == 3
ends_in_ones (Compressed row) = true

all_apart : list_all (λ r. list_all (apart r) rows) rows ≡ true
all_apart = refl

all_end_in_ones : list_all ends_in_ones rows ≡ true
all_end_in_ones = refl

-- ---- what is computed of the list holds of each row

all_get : {X : Type 0} (p : X → Bool) (xs : List X) (i : ℕ) (x : X) → list_all p xs ≡ true → slice_get xs i ≡ Some x
    → p x ≡ true
all_get p [] i x all here = cc
all_get p (y ∷ ys) zero x all here =
    let e : y ≡ x = cc in subst (λ z. p z ≡ true) e (first_true _ _ all)
all_get p (y ∷ ys) (suc i) x all here = all_get p ys i x (second_true (p y) _ all) here

two_apart : (r s : RowId) → apart r s ≡ true
two_apart r s =
    let each : list_all (apart r) rows ≡ true = all_get (λ x. list_all (apart x) rows) rows (number r) r all_apart
    (row_at r) in
    all_get (apart r) rows (number s) s each (row_at s)

opcode_ends : (r : RowId) → ends_in_ones r ≡ true
opcode_ends r = all_get ends_in_ones rows (number r) r all_end_in_ones (row_at r)

-- ---- demands that clash

opposed_apart : (w : ℕ) (d e : Demand) → opposed d e ≡ true → meets w d ≡ true → meets w e ≡ true → ⊥
opposed_apart w (Is h l n) (Is k m o) clashing first second = grind (arith, common_steps)
opposed_apart w (Is h l n) (Isnt k m o) clashing first second = grind (arith, common_steps)
opposed_apart w (Is h l n) SomeOfSix clashing first second = cc
opposed_apart w (Isnt h l n) (Is k m o) clashing first second = grind (arith, common_steps)
opposed_apart w (Isnt h l n) (Isnt k m o) clashing first second = cc
opposed_apart w (Isnt h l n) SomeOfSix clashing first second = cc
opposed_apart w SomeOfSix e clashing first second = cc

or_cases : {P : Type 0} (a b : Bool) → (a || b) ≡ true → (a ≡ true → P) → (b ≡ true → P) → P
or_cases true b e f g = f refl
or_cases false b e f g = g e

none_opposed : (w : ℕ) (d : Demand) (es : List Demand) → list_any (opposed d) es ≡ true → meets w d ≡ true
    → list_all (meets w) es ≡ true → ⊥
none_opposed w d [] clashing first all = cc
none_opposed w d (e ∷ es) clashing first all =
    or_cases (opposed d e) (list_any (opposed d) es) clashing
    (λ here. opposed_apart w d e here first (first_true _ _ all))
    (λ later. none_opposed w d es later first (second_true (meets w e) _ all))

none_clash : (w : ℕ) (ds es : List Demand) → clash ds es ≡ true → list_all (meets w) ds ≡ true
    → list_all (meets w) es ≡ true → ⊥
none_clash w [] es clashing first second = cc
none_clash w (d ∷ ds) es clashing first second =
    or_cases (list_any (opposed d) es) (clash ds es) clashing
    (λ here. none_opposed w d es here (first_true _ _ first) second)
    (λ later. none_clash w ds es later (second_true (meets w d) _ first) second)

-- ---- one row at most

eq_of : (a b : ℕ) → (a == b) ≡ true → a ≡ b
eq_of a b e = grind (arith, common_steps)

of_eq : (a b : ℕ) → a ≡ b → (a == b) ≡ true
of_eq a b e = grind (arith, common_steps)

both_true : (a b : Bool) → a ≡ true → b ≡ true → (a && b) ≡ true
both_true true b e f = f
both_true false b e f = e

low_bits : (w o : ℕ) → field 6 0 w ≡ o → o % 4 ≡ 3 → field 1 0 w ≡ 3
unfolding field
low_bits w o e ends = omega arith

meets_all : (r : RowId) (w : ℕ) → matches r w ≡ true → list_all (meets w) (all_demands r) ≡ true
unfolding matches
meets_all (Base row) w m =
    let opcode : field 6 0 w ≡ (base_row row).pattern.opcode = eq_of _ _ (first_true _ _ m) in
    let ends : (base_row row).pattern.opcode % 4 ≡ 3 = eq_of _ _ (opcode_ends (Base row)) in
    both_true (field 1 0 w == 3) (list_all (meets w) (demands (Base row))) (of_eq _ _ (low_bits w _ opcode ends)) m
meets_all (Compressed row) w m = m

pub unique : (r s : RowId) (w : ℕ) → matches r w ≡ true → matches s w ≡ true → r ≡ s
unique r s w m n =
    or_cases (number r == number s) (clash (all_demands r) (all_demands s)) (two_apart r s)
    (λ same.
    let e : number r ≡ number s = eq_of _ _ same in
    let a : slice_get rows (number r) ≡ Some r = row_at r in
    let b : slice_get rows (number s) ≡ Some s = row_at s in
    cc)
    (λ clashing. absurd (none_clash w (all_demands r) (all_demands s) clashing (meets_all r w m) (meets_all s w n)))

-- ---- the first row that is found is the one

find_step : {X : Type 0} (p : X → Bool) (y x : X) (ys : List X) (b : Bool) → p y ≡ b
    → cond b (Some y) (find p ys) ≡ Some x → (find p ys ≡ Some x → p x ≡ true) → p x ≡ true
find_step p y x ys true passes e later = let same : y ≡ x = cc in subst (λ z. p z ≡ true) same passes
find_step p y x ys false fails e later = later e

find_holds : {X : Type 0} (p : X → Bool) (xs : List X) (x : X) → find p xs ≡ Some x → p x ≡ true
find_holds p [] x e = cc
find_holds p (y ∷ ys) x e = find_step p y x ys (p y) refl e (find_holds p ys x)

finds_step : {X : Type 0} (p : X → Bool) (y : X) (ys : List X) (b : Bool) → p y ≡ b
    → cond b (Some y) (find p ys) ≡ None → (p y ≡ false → find p ys ≡ None → ⊥) → ⊥
finds_step p y ys true passes e later = cc
finds_step p y ys false fails e later = later fails e

find_finds : {X : Type 0} (p : X → Bool) (xs : List X) (i : ℕ) (x : X) → slice_get xs i ≡ Some x → p x ≡ true
    → find p xs ≡ None → ⊥
find_finds p [] i x here holds e = cc
find_finds p (y ∷ ys) zero x here holds e =
    finds_step p y ys (p y) refl e (λ fails later.
    let same : y ≡ x = cc in
    let passes : p y ≡ true = subst (λ z. p z ≡ true) (sym same) holds in
    cc)
find_finds p (y ∷ ys) (suc i) x here holds e =
    finds_step p y ys (p y) refl e (λ fails later. find_finds p ys i x here holds later)

abbrev fits : Isa → ℕ → RowId → Bool
fits isa w row = has isa row && matches row w

pub row_found : (isa : Isa) (w : ℕ) (o : Option RowId) → o ≡ find (λ row. has isa row && matches row w) rows
    → IfSome o (IsMatch isa w)
row_found isa w None e = tt
row_found isa w (Some row) e =
    let h : (has isa row && matches row w) ≡ true = find_holds (fits isa w) rows row (sym e) in
    record {
      held = first_true (has isa row) (matches row w) h;
      match = second_true (has isa row) (matches row w) h;
    }

pub row_only : (isa : Isa) (w : ℕ) (o : Option RowId) → o ≡ find (λ row. has isa row && matches row w) rows
    → (row : RowId) → IsMatch isa w row → o ≡ Some row
row_only isa w None e row m =
    absurd (find_finds (fits isa w) rows (number row) row (row_at row) (both_true _ _ m.held m.match) (sym e))
row_only isa w (Some other) e row m =
    ap Some (unique other row w (row_found isa w (Some other) e).match m.match)

pub row_none : (isa : Isa) (w : ℕ) (o : Option RowId) → o ≡ find (λ row. has isa row && matches row w) rows
    → IfNone o ((row : RowId) → has isa row ≡ true → matches row w ≡ false)
row_none isa w None e = λ row held.
    false_from_ne_true (matches row w) (λ match.
    find_finds (fits isa w) rows (number row) row (row_at row) (both_true _ _ held match) (sym e))
row_none isa w (Some other) e = tt

no_m : (isa : Isa) (row : RowId) → has isa row ≡ true → isa.m ≡ false → is_of_m row ≡ false
no_m isa (Base Lui) held without = refl
no_m isa (Base Auipc) held without = refl
no_m isa (Base Jal) held without = refl
no_m isa (Base Jalr) held without = refl
no_m isa (Base (Branch row)) held without = refl
no_m isa (Base (Load row)) held without = refl
no_m isa (Base (Store row)) held without = refl
no_m isa (Base (Immediate row)) held without = refl
no_m isa (Base (Register row)) held without = refl
no_m isa (Base (Multiply row)) held without = cc
no_m isa (Compressed row) held without = refl

no_c : (isa : Isa) (row : RowId) → has isa row ≡ true → isa.c ≡ false → is_of_c row ≡ false
no_c isa (Base row) held without = refl
no_c isa (Compressed row) held without = cc

pub row_without_m : (isa : Isa) (w : ℕ) (o : Option RowId) → o ≡ find (λ row. has isa row && matches row w) rows
    → IfSome o (λ row. isa.m ≡ false → is_of_m row ≡ false)
row_without_m isa w None e = tt
row_without_m isa w (Some row) e = no_m isa row (row_found isa w (Some row) e).held

pub row_without_c : (isa : Isa) (w : ℕ) (o : Option RowId) → o ≡ find (λ row. has isa row && matches row w) rows
    → IfSome o (λ row. isa.c ≡ false → is_of_c row ≡ false)
row_without_c isa w None e = tt
row_without_c isa w (Some row) e = no_c isa row (row_found isa w (Some row) e).held

pub ruleset search = (row_found, row_only, row_none)
