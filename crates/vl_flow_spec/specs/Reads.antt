-- Meaning: Which bits an expression reads, in a design without hierarchy. Bits are those of cells: of vectors, and of
-- the words of memories. IEEE 1364-2005, sections 4.2.1 and 4.9.3; that a select with a varying index reads the whole
-- name is a rule of this project.
use Rattle.std.specs.Prelude.{◌≡◌, ℕ, ◌<◌, ◌^◌, List, Bool, true, false, ◌||◌, Some}
use Rattle.vl_tree.specs.Expr.{
  Expr,
  Exprs,
  Selects,
  number,
  name,
  paren,
  unary,
  binary,
  conditional,
  concat,
  repeat,
  cast,
  none,
  more,
  whole,
  bit,
  part,
  indexed,
}
use Rattle.vl_size.specs.declared.decl.Decl.{Decl}
use Rattle.vl_size.specs.Size.{Values}
use Rattle.vl_size.specs.Table.{declared_as}
use Rattle.vl_mean.specs.Cells.{is_cell}
use Rattle.vl_mean.specs.FlatLaw.{flat_scopes}
use Rattle.vl_mean.specs.Scopes.{is_clock_class}
use Rattle.vl_mean.specs.Targets.{bit_of, name_may_change}

-- a set of bits of cells
abbrev pub Bits : Type 0
Bits = List ℕ → ℕ → Bool

abbrev pub Covers : Bits → Bits → Type 0
Covers K J = (n : List ℕ) (k : ℕ) → J n k ≡ true → K n k ≡ true

-- the name is declared, and this is one of its cells
pub record IsCellOf (ds : List Decl) (d : Decl) (n : List ℕ) : Type 0 where
  pub declared : declared_as ds d.name ≡ Some d
  pub cell : is_cell d.name d.words n ≡ true

module _ (ds : List Decl) where
  -- the bits that selects of a name take: as those that an assignment to it may change
  abbrev pub selected : List ℕ → Selects → Bits
  selected text xs n k = name_may_change (flat_scopes ds) text xs n k

  abbrev mutual
    pub reads : Expr → Bits
    reads (number p x) n k = false
    reads (name p text xs) n k = selected text xs n k || selects_read xs n k
    reads (paren p x) n k = reads x n k
    reads (unary p op x) n k = reads x n k
    reads (binary p op x y) n k = reads x n k || reads y n k
    reads (conditional p c x y) n k = reads c n k || (reads x n k || reads y n k)
    reads (concat p es) n k = parts_read es n k
    reads (repeat p x es) n k = reads x n k || parts_read es n k
    reads (cast p to x) n k = reads x n k

    pub parts_read : Exprs → Bits
    parts_read none n k = false
    parts_read (more e es) n k = reads e n k || parts_read es n k

    -- in the indices
    pub selects_read : Selects → Bits
    selects_read whole n k = false
    selects_read (bit p i xs) n k = reads i n k || selects_read xs n k
    selects_read (part p l r xs) n k = (reads l n k || reads r n k) || selects_read xs n k
    selects_read (indexed p s m xs) n k = (reads s n k || reads m n k) || selects_read xs n k

  -- two maps have the bits in common, and what has such a bit is a number of its width in both
  pub record AgreeOn (K : Bits) (u v : Values) : Type 0 where
    pub bits : (d : Decl) (n : List ℕ) (k : ℕ) → IsCellOf ds d n → k < d.width → K n k ≡ true
        → bit_of (u n) k ≡ bit_of (v n) k
    pub left : (d : Decl) (n : List ℕ) (k : ℕ) → IsCellOf ds d n → k < d.width → K n k ≡ true
        → u n < 2 ^ d.width
    pub right : (d : Decl) (n : List ℕ) (k : ℕ) → IsCellOf ds d n → k < d.width → K n k ≡ true
        → v n < 2 ^ d.width

-- each cell but the clock has a number of its width
abbrev pub AreInRange : List Decl → Values → Type 0
AreInRange ds v =
    (d : Decl) (n : List ℕ) → IsCellOf ds d n → is_clock_class d.class ≡ false → v n < 2 ^ d.width
