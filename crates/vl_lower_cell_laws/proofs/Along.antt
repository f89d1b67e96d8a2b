-- What holds of the elements of a list with their numbers from a place on.
use Rattle.std.specs.Prelude.{◌≡◌, refl, ℕ, zero, suc, ◌+◌, List, [], ◌∷◌, ◌++◌, length, Some, slice_get, Bool, true}
use Rattle.std.specs.Prelude.{false}
use Rattle.std.specs.Prelude.{if◌then◌else◌, Option, None}
use Rattle.std.proofs.Common.{ap, ◌∙◌, arith, subst}
use Rattle.vl_size.specs.declared.decl.Class.{Class}
use Rattle.vl_size.specs.declared.decl.Class.TheVariants as class
use Rattle.vl_size.specs.declared.decl.Decl.{Decl}
use Rattle.vl_mean.specs.Cells.{cells}
use Rattle.vl_mean.specs.Parts.{Part}
use Rattle.wn_net.specs.declared.parts.InputKind.{InputKind}
use Rattle.vl_lower_cell_laws.specs.Keeps.{Kept, registers_of}
use Rattle.vl_lower_cell_laws.specs.Entries.{is_memory}
use Rattle.vl_lower_cell_laws.specs.Listing.{Keeping, cell_registers, inputs_named, named_registers, registers_in}
use Rattle.vl_lower_cell_laws.proofs.SourcesLists.{further, named_many, within}

abbrev pub AllFrom : {A : Type 0} → (A → ℕ → Type 0) → List A → ℕ → Type 0
AllFrom P xs r = (j : ℕ) (x : _) → slice_get xs j ≡ Some x → P x (r + j)

module _ {A : Type 0} (P : A → ℕ → Type 0) where
  pub from_front : (xs ys : List A) (r : ℕ) → AllFrom P (xs ++ ys) r → AllFrom P xs r
  from_front xs ys r h j x e = h j x (within xs ys j x e)

  pub from_back : (xs ys : List A) (r : ℕ) → AllFrom P (xs ++ ys) r → AllFrom P ys (r + length xs)
  from_back xs ys r h j x e =
      let same : r + (length xs + j) ≡ r + length xs + j = omega arith in
      subst (P x) same (h (length xs + j) x (further xs ys j ∙ e))

  pub from_both : (xs ys : List A) (r : ℕ) → AllFrom P xs r → AllFrom P ys (r + length xs) → AllFrom P (xs ++ ys) r
  from_both [] ys r h k j x e = let same : r + 0 + j ≡ r + j = omega arith in subst (P x) same (k j x e)
  from_both (y ∷ xs) ys r h k zero x e = h zero x e
  from_both (y ∷ xs) ys r h k (suc j) x e =
      let same : r + 1 + j ≡ r + suc j = omega arith in
      subst (P x) same
      (from_both xs ys (r + 1) (λ i z f.
      let next : r + suc i ≡ r + 1 + i = omega arith in
      subst (P z) next (h (suc i) z f)) (λ i z f.
      let next : r + suc (length xs) + i ≡ r + 1 + length xs + i = omega arith in
      subst (P z) next (k i z f)) j x e)

-- ---- how many they are doesn't depend on their entries' places

length_both : {A : Type 0} (xs ys : List A) → length (xs ++ ys) ≡ length xs + length ys
length_both [] ys = omega arith
length_both (x ∷ xs) ys = omega (arith, length_both xs ys)

cell_many : (keep : Keeping) (w first at to : ℕ) (texts : List (List ℕ))
    → length (cell_registers keep w first at texts) ≡ length (cell_registers keep w first to texts)
cell_many keep w first at to [] = refl
cell_many keep w first at to (t ∷ ts) =
    let xs : List Kept = registers_of (keep first) w in
    omega (
      arith,
      named_many at xs,
      named_many to xs,
      length_both (named_registers at xs) (cell_registers keep w (first + 1) (at + 1) ts),
      length_both (named_registers to xs) (cell_registers keep w (first + 1) (to + 1) ts),
      cell_many keep w (first + 1) (at + 1) (to + 1) ts,
    )

pub registers_many : (ps : List Part) (keep : Keeping) (d : Decl) (c : Class) (first at to : ℕ)
    → length (registers_in ps keep d c first at) ≡ length (registers_in ps keep d c first to)
registers_many ps keep d class.Variable first at to = by (is_memory ps d)
  where
    by : (b : Bool)
        → length (if b then [] else cell_registers keep d.width first at (cells d))
        ≡ length (if b then [] else cell_registers keep d.width first to (cells d))
    by true = refl
    by false = cell_many keep d.width first at to (cells d)
registers_many ps keep d class.Clock first at to = refl
registers_many ps keep d class.Reset first at to = refl
registers_many ps keep d class.Input first at to = refl
registers_many ps keep d class.Net first at to = refl
registers_many ps keep d class.EachCycle first at to = refl
registers_many ps keep d class.Once first at to = refl

pub inputs_many : (o : Option InputKind) (d : Decl) (at to : ℕ)
    → length (inputs_named o d at) ≡ length (inputs_named o d to)
inputs_many None d at to = refl
inputs_many (Some k) d at to = refl
