-- What holds of each declared name of a design, and of each of its bits.
use Rattle.std.specs.Prelude.{◌≡◌, refl, ℕ, ◌<◌, Bool, true, false, not, List, [], ◌∷◌, Some, bytes_eq, is_none}
use Rattle.std.proofs.Common.{ap, sym, ◌∙◌, cond, subst, true≢false}
use Rattle.std.proofs.lemmas.Bool.{or_parts}
use Rattle.std.proofs.lemmas.Option.{same_Some}
use Rattle.std.proofs.lemmas.Slice.Eq.{bytes_eq-Decides}
use Rattle.vl_size.specs.declared.decl.Decl.{Decl}
use Rattle.vl_size.specs.Size.{Values}
use Rattle.vl_size.specs.Table.{AreDifferent, declared_as, is_declared}
use Rattle.vl_mean.specs.Cells.{cells, is_cell}
use Rattle.vl_mean.specs.Parts.{Part, clocked, combinational, declares, equation, starts}
use Rattle.vl_mean.specs.Runs.{Begins, Each, EachBelow, EachBit, EachDeclared, Holds, InRange, Init, OnlyIf}
use Rattle.vl_mean.specs.Runs.{PartBegins, PartHolds, initial_writes, is_driven, last_value}
use Rattle.vl_mean.specs.Targets.{bit_of}
use Rattle.vl_mean_flat.specs.Flattened.{decls_of}
use Rattle.vl_flow_spec.proofs.Cells.{each_contained, each_of_contained}
use Rattle.vl_flow_spec.proofs.Elements.{each_below_at, each_below_of}

-- ---- declarations

-- the first declaration of a name is one of them
pub at_declared : (P : Decl → Type 0) (ps : List Part) (name : List ℕ) (d : Decl) → EachDeclared P ps
    → declared_as (decls_of ps) name ≡ Some d → P d
at_declared P [] name d h e = absurd (true≢false (ap is_none e))
at_declared P (declares x ∷ ps) name d h e =
    by (bytes_eq name x.name) (λ f. at_declared P ps name d h.1 f) e
  where
    by : (b : Bool) → (declared_as (decls_of ps) name ≡ Some d → P d)
        → cond b (Some x) (declared_as (decls_of ps) name) ≡ Some d → P d
    by true rest f = subst P (same_Some x d f) h.0
    by false rest f = rest f
at_declared P (equation ts l ss v ∷ ps) name d h e = at_declared P ps name d h e
at_declared P (combinational ss b ∷ ps) name d h e = at_declared P ps name d h e
at_declared P (clocked ss b ∷ ps) name d h e = at_declared P ps name d h e
at_declared P (starts ss l v ∷ ps) name d h e = at_declared P ps name d h e

pub each_declared : (P : Decl → Type 0) (ps : List Part) → Each P (decls_of ps) → EachDeclared P ps
each_declared P [] h = tt
each_declared P (declares x ∷ ps) h = (h.0, each_declared P ps h.1)
each_declared P (equation ts l ss v ∷ ps) h = each_declared P ps h
each_declared P (combinational ss b ∷ ps) h = each_declared P ps h
each_declared P (clocked ss b ∷ ps) h = each_declared P ps h
each_declared P (starts ss l v ∷ ps) h = each_declared P ps h

bytes_apart : (a b : List ℕ) → bytes_eq a b ≡ false → bytes_eq b a ≡ false
bytes_apart a b e = by (bytes_eq b a) refl
  where
    by : (c : Bool) → bytes_eq b a ≡ c → bytes_eq b a ≡ false
    by true f = absurd (true≢false (sym ((bytes_eq-Decides a b).1 (sym ((bytes_eq-Decides b a).0 f))) ∙ e))
    by false f = f

behind_other : (x : Decl) (all ds : List Decl) → is_declared ds x.name ≡ false
    → Each (λ d. declared_as all d.name ≡ Some d) ds → Each (λ d. declared_as (x ∷ all) d.name ≡ Some d) ds
behind_other x all [] h e = tt
behind_other x all (d ∷ ds) h e =
    let q = or_parts (bytes_eq x.name d.name) (is_declared ds x.name) h in (
      ap (λ b. cond b (Some x) (declared_as all d.name)) (bytes_apart x.name d.name q.0) ∙ e.0,
      behind_other x all ds q.1 e.1,
    )

-- where the names differ each is declared by its own declaration
pub own_declared : (ds : List Decl) → AreDifferent ds → Each (λ d. declared_as ds d.name ≡ Some d) ds
own_declared [] h = tt
own_declared (x ∷ ds) h = (
  ap (λ b. cond b (Some x) (declared_as ds x.name)) ((bytes_eq-Decides x.name x.name).1 refl),
  behind_other x ds ds h.0 (own_declared ds h.1),
)

-- ---- bits

pub bit_at_cell : (P : List ℕ → ℕ → Type 0) (d : Decl) (text : List ℕ) (k : ℕ) → is_cell d.name d.words text ≡ true
    → k < d.width → EachBit P d → P text k
bit_at_cell P d text k c less h =
    each_below_at (λ i. P text i) d.width k less
    (each_contained (λ t. EachBelow (λ i. P t i) d.width) (cells d) text h c)

pub bits_of_cells : (P : List ℕ → ℕ → Type 0) (d : Decl)
    → ((text : List ℕ) → is_cell d.name d.words text ≡ true → (k : ℕ) → k < d.width → P text k) → EachBit P d
bits_of_cells P d h =
    each_of_contained (λ t. EachBelow (λ i. P t i) d.width) (cells d)
    (λ t c. each_below_of (λ i. P t i) d.width (λ k less. h t c k less))

-- ---- what a map that holds, and one that a run begins with, say of declarations

in_range_of : (ps qs : List Part) (v : Values) → Each (PartHolds ps v) qs → EachDeclared (λ d. InRange v d d.class) qs
in_range_of ps [] v h = tt
in_range_of ps (declares x ∷ qs) v h = (h.0, in_range_of ps qs v h.1)
in_range_of ps (equation ts l ss e ∷ qs) v h = in_range_of ps qs v h.1
in_range_of ps (combinational ss b ∷ qs) v h = in_range_of ps qs v h.1
in_range_of ps (clocked ss b ∷ qs) v h = in_range_of ps qs v h.1
in_range_of ps (starts ss l e ∷ qs) v h = in_range_of ps qs v h.1

pub range_at : (ps : List Part) (v : Values) (d : Decl) → Holds ps v → declared_as (decls_of ps) d.name ≡ Some d
    → InRange v d d.class
range_at ps v d h e = at_declared (λ x. InRange v x x.class) ps d.name d (in_range_of ps ps v h) e

-- the bit has its value at first
abbrev pub BeginsBit : List Part → Values → List ℕ → ℕ → Type 0
BeginsBit ps v text k =
    OnlyIf (not (is_driven ps text k)) (Begins (last_value (initial_writes ps) text k) (bit_of (v text) k))

begun_of : (ps qs : List Part) (v : Values) → Each (PartBegins ps v) qs
    → EachDeclared (λ d. EachBit (BeginsBit ps v) d) qs
begun_of ps [] v h = tt
begun_of ps (declares x ∷ qs) v h = (h.0, begun_of ps qs v h.1)
begun_of ps (equation ts l ss e ∷ qs) v h = begun_of ps qs v h.1
begun_of ps (combinational ss b ∷ qs) v h = begun_of ps qs v h.1
begun_of ps (clocked ss b ∷ qs) v h = begun_of ps qs v h.1
begun_of ps (starts ss l e ∷ qs) v h = begun_of ps qs v h.1

pub begins_at : (ps : List Part) (v : Values) (d : Decl) (text : List ℕ) (k : ℕ) → Init ps v
    → declared_as (decls_of ps) d.name ≡ Some d → is_cell d.name d.words text ≡ true → k < d.width
    → BeginsBit ps v text k
begins_at ps v d text k h e c less =
    bit_at_cell (BeginsBit ps v) d text k c less
    (at_declared (λ x. EachBit (BeginsBit ps v) x) ps d.name d (begun_of ps ps v h) e)
