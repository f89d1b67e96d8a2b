-- No word matches two rows, nor one of these and one of the base: any two ask for different numbers in the same bits.
use Rattle.std.proofs.Common.{subst, suc, zero, cond, find, IfSome, IfNone, ◌≡◌, ℕ, ◌%◌, Bool, true, false, not, ◌&&◌}
use Rattle.std.proofs.Common.{◌||◌, ◌==◌, List, [], ◌∷◌, Option, Some, None, slice_get, refl, sym, ap, arith}
use Rattle.std.proofs.lemmas.Grind.{common_steps}
use Rattle.std.proofs.lemmas.Bool.{false_from_ne_true}
use Rattle.std.specs.List.{list_all, list_any}
use Rattle.rv_table.specs.declared.row.RowId.{RowId}
use Rattle.rv_table.specs.declared.demand.Demand.{Demand}
use Rattle.rv_table.specs.declared.demand.Demand.TheVariants.{Is, Isnt, SomeOfSix}
use Rattle.rv_table.specs.Fields.{field}
use Rattle.rv_table.specs.Compressed.{meets}
use Rattle.rv_table.specs.Matching.{demands, matches, rows, number}
use Rattle.rv_table.proofs.AssembledLemmas.{first_true, second_true}
use Rattle.rv_table.proofs.Places as base
use Rattle.rv_zb.specs.declared.row.ZbRow.{ZbRow}
use Rattle.rv_zb.specs.Rows.{zb_row, zb_rows, zb_number, zb_demands, zb_matches, IsZbMatch}
use Rattle.rv_zb.proofs.Places.{row_at}

-- no word meets both
abbrev opposed : Demand → Demand → Bool
opposed (Is h l n) (Is k m o) = h == k && (l == m && not (n == o))
opposed (Is h l n) (Isnt k m o) = false
opposed (Is h l n) SomeOfSix = false
opposed (Isnt h l n) e = false
opposed SomeOfSix e = false

abbrev clash : List Demand → List Demand → Bool
clash ds es = list_any (λ d. list_any (opposed d) es) ds

-- a whole word ends in two ones
abbrev all_demands : ZbRow → List Demand
all_demands row = Is 1 0 3 ∷ zb_demands row

abbrev apart : ZbRow → ZbRow → Bool
apart r s = zb_number r == zb_number s || clash (zb_demands r) (zb_demands s)

abbrev apart_of_base : ZbRow → RowId → Bool
apart_of_base r s = clash (all_demands r) (demands s)

abbrev ends_in_ones : ZbRow → Bool
ends_in_ones row = (zb_row row).pattern.opcode % 4 == 3

all_apart : list_all (λ r. list_all (apart r) zb_rows) zb_rows ≡ true
all_apart = refl

all_apart_of_base : list_all (λ r. list_all (apart_of_base r) rows) zb_rows ≡ true
all_apart_of_base = refl

all_end_in_ones : list_all ends_in_ones zb_rows ≡ true
all_end_in_ones = refl

-- ---- what is computed of a list holds of each row

all_get : {X : Type 0} (p : X → Bool) (xs : List X) (i : ℕ) (x : X) → list_all p xs ≡ true → slice_get xs i ≡ Some x
    → p x ≡ true
all_get p [] i x all here = cc
all_get p (y ∷ ys) zero x all here =
    let e : y ≡ x = cc in subst (λ z. p z ≡ true) e (first_true _ _ all)
all_get p (y ∷ ys) (suc i) x all here = all_get p ys i x (second_true (p y) _ all) here

two_apart : (r s : ZbRow) → apart r s ≡ true
two_apart r s =
    let each : list_all (apart r) zb_rows ≡ true =
    all_get (λ x. list_all (apart x) zb_rows) zb_rows (zb_number r) r all_apart (row_at r) in
    all_get (apart r) zb_rows (zb_number s) s each (row_at s)

two_apart_of_base : (r : ZbRow) (s : RowId) → apart_of_base r s ≡ true
two_apart_of_base r s =
    let each : list_all (apart_of_base r) rows ≡ true =
    all_get (λ x. list_all (apart_of_base x) rows) zb_rows (zb_number r) r all_apart_of_base (row_at r) in
    all_get (apart_of_base r) rows (number s) s each (base.row_at s)

opcode_ends : (r : ZbRow) → ends_in_ones r ≡ true
opcode_ends r = all_get ends_in_ones zb_rows (zb_number r) r all_end_in_ones (row_at r)

-- ---- demands that clash

opposed_apart : (w : ℕ) (d e : Demand) → opposed d e ≡ true → meets w d ≡ true → meets w e ≡ true → ⊥
opposed_apart w (Is h l n) (Is k m o) clashing first second = grind (arith, common_steps)
opposed_apart w (Is h l n) (Isnt k m o) clashing first second = cc
opposed_apart w (Is h l n) SomeOfSix clashing first second = cc
opposed_apart w (Isnt h l n) e clashing first second = cc
opposed_apart w SomeOfSix e clashing first second = cc

or_cases : {P : Type 0} (a b : Bool) → (a || b) ≡ true → (a ≡ true → P) → (b ≡ true → P) → P
or_cases true b e f g = f refl
or_cases false b e f g = g e

none_opposed : (w : ℕ) (d : Demand) (es : List Demand) → list_any (opposed d) es ≡ true → meets w d ≡ true
    → list_all (meets w) es ≡ true → ⊥
none_opposed w d [] clashing first all = cc
none_opposed w d (e ∷ es) clashing first all =
    or_cases (opposed d e) (list_any (opposed d) es) clashing
    (λ here. opposed_apart w d e here first (first_true _ _ all))
    (λ later. none_opposed w d es later first (second_true (meets w e) _ all))

none_clash : (w : ℕ) (ds es : List Demand) → clash ds es ≡ true → list_all (meets w) ds ≡ true
    → list_all (meets w) es ≡ true → ⊥
none_clash w [] es clashing first second = cc
none_clash w (d ∷ ds) es clashing first second =
    or_cases (list_any (opposed d) es) (clash ds es) clashing
    (λ here. none_opposed w d es here (first_true _ _ first) second)
    (λ later. none_clash w ds es later (second_true (meets w d) _ first) second)

-- ---- one row at most

eq_of : (a b : ℕ) → (a == b) ≡ true → a ≡ b
eq_of a b e = grind (arith, common_steps)

of_eq : (a b : ℕ) → a ≡ b → (a == b) ≡ true
of_eq a b e = grind (arith, common_steps)

both_true : (a b : Bool) → a ≡ true → b ≡ true → (a && b) ≡ true
both_true true b e f = f
both_true false b e f = e

low_bits : (w o : ℕ) → field 6 0 w ≡ o → o % 4 ≡ 3 → field 1 0 w ≡ 3
unfolding field
low_bits w o e ends = omega arith

meets_all : (r : ZbRow) (w : ℕ) → zb_matches r w ≡ true → list_all (meets w) (all_demands r) ≡ true
unfolding zb_matches
meets_all r w m =
    let opcode : field 6 0 w ≡ (zb_row r).pattern.opcode = eq_of _ _ (first_true _ _ m) in
    let ends : (zb_row r).pattern.opcode % 4 ≡ 3 = eq_of _ _ (opcode_ends r) in
    both_true (field 1 0 w == 3) (list_all (meets w) (zb_demands r)) (of_eq _ _ (low_bits w _ opcode ends)) m

pub unique : (r s : ZbRow) (w : ℕ) → zb_matches r w ≡ true → zb_matches s w ≡ true → r ≡ s
unfolding zb_matches
unique r s w m n =
    or_cases (zb_number r == zb_number s) (clash (zb_demands r) (zb_demands s)) (two_apart r s)
    (λ same.
    let e : zb_number r ≡ zb_number s = eq_of _ _ same in
    let a : slice_get zb_rows (zb_number r) ≡ Some r = row_at r in
    let b : slice_get zb_rows (zb_number s) ≡ Some s = row_at s in
    cc)
    (λ clashing. absurd (none_clash w (zb_demands r) (zb_demands s) clashing m n))

pub none_of_base : (r : ZbRow) (s : RowId) (w : ℕ) → zb_matches r w ≡ true → matches s w ≡ false
unfolding matches
none_of_base r s w m =
    false_from_ne_true (matches s w) (λ n.
    none_clash w (all_demands r) (demands s) (two_apart_of_base r s) (meets_all r w m) n)

-- ---- the first row that is found is the one

find_step : {X : Type 0} (p : X → Bool) (y x : X) (ys : List X) (b : Bool) → p y ≡ b
    → cond b (Some y) (find p ys) ≡ Some x → (find p ys ≡ Some x → p x ≡ true) → p x ≡ true
find_step p y x ys true passes e later = let same : y ≡ x = cc in subst (λ z. p z ≡ true) same passes
find_step p y x ys false fails e later = later e

find_holds : {X : Type 0} (p : X → Bool) (xs : List X) (x : X) → find p xs ≡ Some x → p x ≡ true
find_holds p [] x e = cc
find_holds p (y ∷ ys) x e = find_step p y x ys (p y) refl e (find_holds p ys x)

finds_step : {X : Type 0} (p : X → Bool) (y : X) (ys : List X) (b : Bool) → p y ≡ b
    → cond b (Some y) (find p ys) ≡ None → (p y ≡ false → find p ys ≡ None → ⊥) → ⊥
finds_step p y ys true passes e later = cc
finds_step p y ys false fails e later = later fails e

find_finds : {X : Type 0} (p : X → Bool) (xs : List X) (i : ℕ) (x : X) → slice_get xs i ≡ Some x → p x ≡ true
    → find p xs ≡ None → ⊥
find_finds p [] i x here holds e = cc
find_finds p (y ∷ ys) zero x here holds e =
    finds_step p y ys (p y) refl e (λ fails later.
    let same : y ≡ x = cc in
    let passes : p y ≡ true = subst (λ z. p z ≡ true) (sym same) holds in
    cc)
find_finds p (y ∷ ys) (suc i) x here holds e =
    finds_step p y ys (p y) refl e (λ fails later. find_finds p ys i x here holds later)

abbrev fits : ℕ → ZbRow → Bool
fits w row = zb_matches row w

pub row_found : (w : ℕ) (o : Option ZbRow) → o ≡ find (λ row. zb_matches row w) zb_rows → IfSome o (IsZbMatch w)
row_found w None e = tt
row_found w (Some row) e = find_holds (fits w) zb_rows row (sym e)

pub row_only : (w : ℕ) (o : Option ZbRow) → o ≡ find (λ row. zb_matches row w) zb_rows
    → (row : ZbRow) → zb_matches row w ≡ true → o ≡ Some row
row_only w None e row m = absurd (find_finds (fits w) zb_rows (zb_number row) row (row_at row) m (sym e))
row_only w (Some other) e row m = ap Some (unique other row w (row_found w (Some other) e) m)

pub row_none : (w : ℕ) (o : Option ZbRow) → o ≡ find (λ row. zb_matches row w) zb_rows
    → IfNone o ((row : ZbRow) → zb_matches row w ≡ false)
row_none w None e = λ row.
    false_from_ne_true (zb_matches row w) (λ match.
    find_finds (fits w) zb_rows (zb_number row) row (row_at row) match (sym e))
row_none w (Some other) e = tt

pub ruleset search = (row_found, row_only, row_none)
